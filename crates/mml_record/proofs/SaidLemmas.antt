-- An accepted entry describes a turn of a session. A view is a command that only asks to be shown something: a see, a
-- look or a report. A window is what a session has seen of the list of events. The place of an event is its number in
-- this list, from 1.
use Rattle.std.proofs.Common.{◌≡◌, ◌⊎◌, ℕ, ◌+◌, ◌-◌, ◌≤◌, zero, suc, Bool, true, false, List, [], ◌∷◌, ◌++◌, length, take, refl, sym, ap, ◌∙◌, subst, inl, inr, Option, None, Some, Result, Ok, Err}
use Rattle.std.proofs.Common.{arith, append-nil, length-append}
use Rattle.std.{proofs.lemmas.List.length-take-le, proofs.lemmas.Bool.Decides.nat_tests, specs.Prelude.IfSome}
use mathlib.Core.List.{IsPrefix}
use Rattle.mml_lab.specs.{declared.who.Who.Who, Labs.LabValue}
use Rattle.mml_lines.specs.LinesOf.{IsWithinLimit}
use Rattle.mml_board.specs.{World.World, declared.event.Event.Event, Lists.is_legal_in, Lists.world_in}
use Rattle.mml_policy.specs.{declared.command.Command.Command, declared.refusal.Refusal.Refusal, Rulings.event_of, Rulings.after_ruling, declared.ruling.Ruling.Ruling}
use Rattle.mml_codec.specs.declared.{TheConstants.MAX_REQUEST, request.LineFault.LineFault, request.Request.Request, reply.Refused.Refused, reply.Reply.Reply}
use Rattle.mml_codec.specs.declared.greeting.Greeting.{Greeting, TheVariants.Answered, TheVariants.LeftToJudge}
use Rattle.mml_codec.specs.{Greetings.greeting, Lines.request_in, Replies.place_in, Replies.as_list, Rulings.reply_of}
use Rattle.mml_codec.proofs.RulingsLemmas.{place_of_done}
use Rattle.mml_window.specs.{Rulings.ruling_at, Windows.WindowValue, Windows.window_with}
use Rattle.mml_window.proofs.PrefixLemmas.{prefix_length}
use Rattle.mml_session.specs.{Turns.standing, Turns.entered, Turns.places_in, Turns.halts_in, Turns.spare_in, Turns.MayRefuse, Turns.Told, Turns.Settles, Turns.Asked, Turns.Turn, Records.judged_at}
use Rattle.mml_session.specs.{Records.is_shown}
use Rattle.mml_session.proofs.GreetingLemmas.{IsPlain, plain_greeting}
use Rattle.mml_record.specs.Certified.{IsNext, may_refuse, FitsRuling, FitsGreeting, FitsAsked, Fits, seen_after, is_left, asks_window}
use Rattle.mml_record.proofs.{FitLemmas.first_of, FitLemmas.view_shown, PlaceLemmas.legal_first, ShownLemmas.CanBeShown, ShownLemmas.Shows}
use Rattle.mml_policy.specs.declared.refusal.Refusal.TheVariants as cause
use Rattle.mml_codec.specs.declared.request.Request.TheVariants as requests
use Rattle.mml_codec.specs.declared.reply.Refused.TheVariants as refused

-- the cause that a window keeps for this refusal
abbrev kept_for : Refused → Option Refusal
kept_for refused.Memory = Some cause.Memory
kept_for refused.Journal = Some cause.Journal
kept_for _ = None

refuses_so : (ruled : Ruling) (why : Refused) → may_refuse ruled why ≡ true → MayRefuse ruled why (kept_for why)
refuses_so ruled why may = grind (arith, nat_tests)

-- a window that has counted no refusal `journal` may be granted any event
pub unhalted_new : (o : Option ℕ) → IfSome o (λ place. zero ≡ zero)
unhalted_new o = grind (arith, nat_tests)

module _ (lab : LabValue) (l : List Event) (legal : is_legal_in lab l ≡ true) (p : ℕ) (few : p ≤ length l) where
  -- what the window has seen, and which places it has, after a reply that was judged after p events
  abbrev IsAfter : WindowValue → Reply → WindowValue → Type 0
  IsAfter w r new = (new.seen ≡ take (seen_after p (place_in r)) l) × (new.places ≡ w.places ++ places_in r) × (seen_after p (place_in r) ≤ length l)

  -- in a turn of the window, this line has this reply, which was judged after p events
  abbrev pub Turns : WindowValue → Option Who → List ℕ → Reply → Option Who → Type 0
  Turns w known line r known' = (new : WindowValue) × Turn lab (standing known w) line r (standing known' new) × IsAfter w r new

  -- the window has seen the first p events; or it has seen at most these, and the line makes it read on
  abbrev IsBefore : WindowValue → Bool → Type 0
  IsBefore w asks = (w.seen ≡ take p l) ⊎ (IsPrefix w.seen (take p l) × (asks ≡ true))

  stays_after : (w new : WindowValue) (r : Reply) → IsBefore new false → new.places ≡ w.places → places_in r ≡ [] → IsAfter w r new
  stays_after w new r seen places none = grind (arith, nat_tests, append-nil, place_in r)

  first : is_legal_in lab (take p l) ≡ true
  first = legal_first lab l legal p

  one_more : (e : Event) → IsNext l (take p l) (Some e) → take p l ++ e ∷ [] ≡ take (suc p) l
  one_more e next = sym (first_of (take p l ++ e ∷ []) l (suc p) (omega (arith, length-append (take p l) (e ∷ []), length-take-le p l few)) next)

  -- the events that a window has seen after the reply to a ruling
  enters : (w : World) (ruled : Ruling) → IsNext l (take p l) (event_of ruled)
      → (entered (take p l) (event_of ruled) ≡ take (seen_after p (place_in (reply_of w ruled))) l) × (seen_after p (place_in (reply_of w ruled)) ≤ length l)
  enters w ruled next = grind (arith, nat_tests, one_more, place_of_done, prefix_length, length-append, length-take-le)

  -- if a reply fits a ruling after p events, it is a possible reply of a window that has seen no more than these
  tells : (w : WindowValue) (who : Who) (c : Command) (r : Reply) → IsPrefix w.seen (take p l)
      → FitsRuling lab l (take p l) (ruling_at lab (world_in lab (take p l)) who c) r → IfSome (place_in r) (λ place. w.halts ≡ 0)
      → (new : WindowValue) × Told lab w who c r new × IsAfter w r new
  tells w who c r later (inl fits) unhalted =
      let ruled = ruling_at lab (world_in lab (take p l)) who c in
      let seen = entered (take p l) (event_of ruled) in
      let new = window_with seen (w.places ++ places_in r) None (w.halts + halts_in r) (w.spare + spare_in (lab.events - length seen) r) in
      let e = subst (λ (q : Reply). (seen ≡ take (seen_after p (place_in q)) l) × (seen_after p (place_in q) ≤ length l)) (sym fits.0)
      (enters (after_ruling (world_in lab (take p l)) ruled) ruled fits.1) in
      let told : Told lab w who c r new =
      record { list = take p l; later = later; legal = first; says = inl (fits.0, (refl, refl)); counted = refl; spared = refl; unhalted = unhalted } in
      (new, told, (e.0, refl, e.1))
  tells w who c r later (inr fits) free =
      let new = window_with (take p l) w.places (kept_for fits.0) (w.halts + halts_in r) (w.spare + spare_in (lab.events - length (take p l)) r) in
      let so = refuses_so (ruling_at lab (world_in lab (take p l)) who c) fits.0 fits.2 in
      let told : Told lab w who c r new =
      record { list = take p l; later = later; legal = first; says = inr (fits.0, fits.1, so, (refl, refl)); counted = refl; spared = refl; unhalted = free } in
      (new, told, stays_after w new r (inl refl) refl (ap places_in fits.1))

  module _ (w : WindowValue) (known known' : Option Who) (r : Reply) (unhalted : IfSome (place_in r) (λ place. w.halts ≡ 0)) where
    settles : (g : Greeting) → IsPlain g → IsBefore w (is_left g) → FitsGreeting lab l (take p l) known g r known'
        → (new : WindowValue) × Settles lab (standing known w) g r (standing known' new) × IsAfter w r new
    settles (Answered q x) plain before fits =
        (w, (fits.0, ap (λ (k : Option Who). standing k w) fits.1), stays_after w w r before refl (ap places_in fits.0 ∙ plain.1))
    settles (LeftToJudge who c) plain before fits = let t = tells w who c r (grind (arith, nat_tests, append-nil)) fits.1 unhalted in (t.0, (fits.0, t.1), t.2)

    asked : (q : Result Request LineFault) → IsBefore w (asks_window lab.roster known q) → FitsAsked lab l (take p l) known q r known'
        → (new : WindowValue) × Asked lab (standing known w) q r (standing known' new) × IsAfter w r new
    asked (Err fault) before fits = (w, (fits.0, ap (λ (k : Option Who). standing k w) fits.1), stays_after w w r before refl (ap places_in fits.0))
    asked (Ok request) before fits = settles (greeting lab.roster known request) (plain_greeting lab.roster known request) before fits

  -- if a window has seen the first p events, a reply that fits after them is that of one of its turns
  pub turns_all : (w : WindowValue) (known known' : Option Who) (line : List ℕ) (r : Reply) → w.seen ≡ take p l
      → Fits lab l (take p l) known line r known' → IfSome (place_in r) (λ place. w.halts ≡ 0) → Turns w known line r known'
  turns_all w known known' line r same (inl fits) unhalted = let t = asked w known known' r unhalted (request_in line) (inl same) fits in (t.0, inl t.1, t.2)
  turns_all w known known' line r same (inr fits) unhalted =
      (w, inr (fits.0, ap (λ (k : Option Who). standing k w) fits.1), stays_after w w r (inl same) refl (ap places_in fits.0))

  -- a reply that fits after p events is that of a turn of each window that has seen at most these, if the line makes
  -- the window read on
  pub turns_asked : (w : WindowValue) (known known' : Option Who) (line : List ℕ) (r : Reply) → IsPrefix w.seen (take p l)
      → asks_window lab.roster known (request_in line) ≡ true → FitsAsked lab l (take p l) known (request_in line) r known'
      → IfSome (place_in r) (λ place. w.halts ≡ 0) → Turns w known line r known'
  turns_asked w known known' line r later asks fits unhalted =
      let t = asked w known known' r unhalted (request_in line) (inr (later, asks)) fits in (t.0, inl t.1, t.2)

  -- if a reply was judged after p events, the entry of its turn names p events
  pub judged_there : (w new : WindowValue) (r : Reply) → IsAfter w r new → judged_at (length new.seen) r ≡ p
  judged_there w new r after = grind (arith, nat_tests, length-take-le)

  -- a reply that shows something names no event
  shown_none : (w : World) (ruled : Ruling) → is_shown (reply_of w ruled) ≡ true → IsNext l (take p l) (event_of ruled) × (place_in (reply_of w ruled) ≡ None)
  shown_none w ruled shown = grind (arith, nat_tests, view_shown w ruled)

  -- there is a line whose reply shows something, and after its turn the window has seen the first p events; such a turn
  -- has no entry
  abbrev Quiet : WindowValue → Option Who → Type 0
  Quiet w known =
      (line : List ℕ) × IsWithinLimit MAX_REQUEST line × (v : Reply) × (is_shown v ≡ true) × (new : WindowValue)
      × Turn lab (standing known w) line v (standing known new) × (new.seen ≡ take p l) × (new.places ≡ w.places)

  quiet_known : (w : WindowValue) (who : Who) (line : List ℕ) (c : Command) → IsPrefix w.seen (take p l) → IsWithinLimit MAX_REQUEST line
      → request_in line ≡ Ok (requests.Do c)
      → Shows lab (take p l) who c → Quiet w (Some who)
  quiet_known w who line c later valid asks shown =
      let ruled = ruling_at lab (world_in lab (take p l)) who c in
      let v = reply_of (after_ruling (world_in lab (take p l)) ruled) ruled in
      let none = shown_none (after_ruling (world_in lab (take p l)) ruled) ruled shown in
      let unhalted = subst (λ (o : Option ℕ). IfSome o (λ place. w.halts ≡ 0)) (sym none.1) tt in
      let t = tells w who c v later (inl (refl, none.0)) unhalted in
      let asked = subst (λ (q : Result Request LineFault). Asked lab (standing (Some who) w) q v (standing (Some who) t.0)) (sym asks) (refl, t.1) in
      let seen = t.2.0 ∙ ap (λ (o : Option ℕ). take (seen_after p o) l) none.1 in
      let places = t.2.1 ∙ ap (λ (o : Option ℕ). w.places ++ as_list o) none.1 ∙ append-nil w.places in
      (line, valid, v, shown, t.0, inl asked, seen, places)

  pub quiet : (w : WindowValue) (known : Option Who) → IsPrefix w.seen (take p l) → CanBeShown lab (take p l) known → Quiet w known
  quiet w known later s = subst (λ (k : Option Who). Quiet w k) (sym s.1) (quiet_known w s.0 s.2 s.4 later s.3 s.5 s.6)
