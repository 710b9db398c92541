-- The refusals `journal` in the entries of sessions, which a window counts. At each of them, it also adds up how many
-- more events the lab allows. A window is what a session has seen of the list of events.
use Rattle.std.proofs.Common.{◌≡◌, ◌≢◌, ◌⊎◌, ℕ, ◌+◌, ◌-◌, ◌*◌, ◌≤◌, true, nat_lt, List, [], ◌∷◌, ◌++◌, length, if◌then◌else◌, refl, sym, ap, ◌∙◌, arith, length-append, inl, inr, suc-mul, Option, None}
use Rattle.std.proofs.Common.{Some}
use Rattle.std.{specs.Prelude.bytes_eq, specs.Prelude.sum_by, specs.List.AllByRecursion, proofs.lemmas.Bool.false_from_ne_true, proofs.lemmas.Bool.Decides.nat_tests}
use Rattle.std.{proofs.lemmas.Slice.Eq.bytes_eq-Decides, proofs.lemmas.List.Sums.sum_by-cons, proofs.lemmas.List.Sums.sum_by-append}
use Rattle.mml_lab.specs.{declared.who.Who.Who, Labs.LabValue}
use Rattle.mml_board.specs.declared.event.Event.{Event}
use Rattle.mml_codec.specs.{declared.reply.Reply.Reply, Replies.text, Replies.reply_line}
use Rattle.mml_window.specs.Windows.{WindowValue}
use Rattle.mml_session.specs.{declared.entry.Entry.Entry, Talks.LineTurn, Turns.Standing, Turns.halts_in, Turns.spare_in, Records.is_shown, Records.line_entries}
use Rattle.mml_session.proofs.TalkLemmas.{turn_halts, turn_spares}
use Rattle.mml_record.specs.declared.{kept_entry.Entry.Entry as KeptEntry, stage.Stage.Stage}
use Rattle.mml_record.specs.{Entries.all_kept, Entries.are_whole, Refusals.reason_in, Refusals.reason_told, Certified.is_journal, Certified.GoesOn, Halts.outlived}
use Rattle.mml_record.proofs.{RefusalsLemmas.reason_is, TextLineLemmas.same_line}
use Rattle.mml_policy.specs.declared.refusal.Refusal.TheVariants as cause
use Rattle.mml_codec.specs.declared.reply.Refused.TheVariants as refused
use Rattle.mml_codec.specs.declared.reply.Reply.TheVariants as replies
use Rattle.mml_record.specs.declared.kept_entry.Entry.TheVariants as kept

-- ---- the bytes of the refusal

-- a reply is the refusal `journal`, or it isn't counted, and the reason that is read from it isn't `journal`
pub journal_or_not : (n : ℕ) (r : Reply) → (r ≡ replies.Refuse refused.Journal) ⊎ ((halts_in r ≡ 0) × (spare_in n r ≡ 0) × (reason_in r ≢ Some cause.Journal))
journal_or_not n r = grind (arith, nat_tests)

-- the bytes of a reply are the line of the refusal `journal` exactly if the reply is counted
pub journal_line : (lab : LabValue) (r : Reply) → is_journal lab (reply_line lab.ids lab.roster r) ≡ nat_lt 0 (halts_in r)
journal_line lab r = elim (journal_or_not 0 r) [
  | inl is ↦ rw is ((bytes_eq-Decides (reply_line lab.ids lab.roster journal) (reply_line lab.ids lab.roster journal)).1 refl)
  | inr other ↦
      let reason = λ (like : bytes_eq (at r) (at journal) ≡ true).
      sym (reason_is lab.ids lab.roster r) ∙ ap reason_told ((bytes_eq-Decides (at r) (at journal)).0 like) ∙ reason_is lab.ids lab.roster journal in
      same_line (at r) (at journal) ∙ false_from_ne_true (bytes_eq (at r) (at journal)) (λ like. other.2 (reason like)) ∙ sym (ap (λ n. nat_lt 0 n) other.0)
]
  where
    journal : Reply
    journal = replies.Refuse refused.Journal

    at : Reply → List ℕ
    at q = text lab.ids lab.roster q

-- ---- what a window counts

-- how many events had been seen at the refusals `journal` in the entries, in order
abbrev pub refused_at : LabValue → List KeptEntry → List ℕ
refused_at lab [] = []
refused_at lab (kept.Said p line out ∷ es) = if is_journal lab out then p ∷ refused_at lab es else refused_at lab es
refused_at lab (_ ∷ es) = refused_at lab es

-- the window changed as the refusals `journal` in the entries demand
pub record AreCounted (lab : LabValue) (old new : WindowValue) (es : List Entry) : Type 0 where
  pub halts : new.halts ≡ old.halts + length (refused_at lab (all_kept es))
  pub spare : new.spare ≡ old.spare + sum_by (λ p. lab.events - p) (refused_at lab (all_kept es))

module _ (lab : LabValue) where
  refused_append : (es fs : List Entry) → refused_at lab (all_kept (es ++ fs)) ≡ refused_at lab (all_kept es) ++ refused_at lab (all_kept fs)
  refused_append [] fs = refl
  refused_append (e ∷ es) fs = grind (arith, nat_tests, refused_append es fs)

  pub counted_append : (old mid new : WindowValue) (es fs : List Entry) → AreCounted lab old mid es → AreCounted lab mid new fs → AreCounted lab old new (es ++ fs)
  counted_append old mid new es fs first rest = grind (arith, nat_tests, refused_append, length-append, sum_by-append)

  -- a turn is counted as its entry demands
  pub turn_counted : (st next : Standing) (t : LineTurn lab st next) → AreCounted lab st.window next.window (line_entries t)
  turn_counted st next t =
      let kind = journal_or_not (lab.events - length next.window.seen) t.reply in
      grind (arith, nat_tests, turn_halts lab st next t, turn_spares lab st next t, journal_line lab t.reply, kind, is_shown t.reply, sum_by-cons)

  -- in a record, no refusal `journal` names more events than the list has
  pub refused_most : (l : List Event) (known : Option Who) (stage : Stage) (least : ℕ) (es : List KeptEntry) (ps : List ℕ)
      → GoesOn lab l known stage least es ps → AllByRecursion (λ p. p ≤ length l) (refused_at lab es)
  refused_most l known stage least [] ps h = tt
  refused_most l known stage least (e ∷ es) ps h =
      let rest = λ (x : Option Who) (s : Stage) (n : ℕ) (qs : List ℕ). refused_most l x s n es qs in grind (arith, nat_tests, rest)

  -- Numbers up to n leave at least as much of the limit in all as if each were n. If they leave just as much, each is n
  each_is : (limit n : ℕ) (ps : List ℕ) → n ≤ limit → AllByRecursion (λ p. p ≤ n) ps
      → (length ps * (limit - n) ≤ sum_by (λ p. limit - p) ps) × (sum_by (λ p. limit - p) ps ≡ length ps * (limit - n) → AllByRecursion (λ p. p ≡ n) ps)
  each_is limit n [] within each = (omega arith, λ sum. tt)
  each_is limit n (p ∷ ps) within each =
      grind (arith, nat_tests, each_is limit n ps within each.1, sum_by-cons (λ p. limit - p) p ps, suc-mul (length ps) (limit - n), each.0)

  -- if each refusal `journal` in whole entries came after n events, none of them is outlived
  not_outlived : (n : ℕ) (es : List KeptEntry) (at : Option ℕ) → are_whole es ≡ true → (at ≡ None) ⊎ (at ≡ Some n)
      → AllByRecursion (λ p. p ≡ n) (refused_at lab es) → outlived lab n at es ≡ None
  not_outlived n [] at whole h each = grind (arith, nat_tests)
  not_outlived n (e ∷ es) at whole h each = grind (arith, nat_tests, not_outlived n es)

  -- the entries of sessions by which a window came from no refusal to refusals after all events of the list aren't
  -- outlived
  pub counted_last : (l : List Event) (old new : WindowValue) (es : List Entry) (known : Option Who) (stage : Stage) (least : ℕ) (ps : List ℕ)
      → length l ≤ lab.events → old.halts ≡ 0 → old.spare ≡ 0 → AreCounted lab old new es → are_whole (all_kept es) ≡ true
      → GoesOn lab l known stage least (all_kept es) ps → new.spare ≡ new.halts * (lab.events - length l)
      → outlived lab (length l) None (all_kept es) ≡ None
  counted_last l old new es known stage least ps few none unspared counted whole on last =
      let refs = refused_at lab (all_kept es) in
      let sum : sum_by (λ p. lab.events - p) refs ≡ length refs * (lab.events - length l) = grind (arith, nat_tests) in
      not_outlived (length l) (all_kept es) None whole (inl refl)
      ((each_is lab.events (length l) refs few (refused_most l known stage least (all_kept es) ps on)).1 sum)
