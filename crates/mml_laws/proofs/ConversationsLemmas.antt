-- Timelines of the seats of a house. A timeline has what was said on some connections, in order, and all events of the
-- house. A seat serves one connection after another, each for a session, through a window: what these sessions have
-- seen of the events of the house, and the places of the events that were granted to them. The place of an event is its
-- number in the list of events, from 1. A house is one run of a lab that threads share.
use Rattle.std.{proofs.lemmas.Bool.Decides.nat_tests, proofs.lemmas.List.Elements.All-head, proofs.lemmas.List.Elements.All-tail, specs.List.AllByRecursion}
use Rattle.std.proofs.Common.{◌≡◌, ◌≤◌, ◌+◌, ℕ, Bool, true, cond, List, [], ◌∷◌, ◌++◌, map, All, Option, None, sym, ap, ◌∙◌, subst, arith, append_assoc, append-nil}
use mathlib.Core.List.{IsPrefix}
use Rattle.mml_lab.specs.{declared.who.Who.Who, Labs.LabValue}
use Rattle.mml_board.specs.declared.event.Event.{Event}
use Rattle.mml_lines.specs.{LinesOf.IsWithinLimit, Runs.Chain}
use Rattle.mml_codec.{specs.declared.TheConstants.MAX_REQUEST, proofs.CanonicalLemmas.request_in-canonical, proofs.CanonicalLemmas.canonical_line}
use Rattle.mml_window.{specs.Windows.WindowValue, specs.Windows.window, specs.Tallies.times, specs.Tallies.told_of, proofs.TallyLemmas.times_append}
use Rattle.mml_session.specs.{Turns.Standing, Turns.standing, Talks.nobody_known}
use Rattle.mml_laws.specs.Served.{Answered, IsConversation, AreConversations, AreHeard, IsUnhalted, AreWritten}
use Rattle.mml_laws.specs.OneScript.{bye, says_bye, bye_after, on_one_connection}
use Rattle.mml_laws.proofs.{AskingLinesLemmas.bye_text, AnswersLemmas.TurnAt, AnswersLemmas.conversation_says, HallStepsLemmas.HallStep, HallStepsLemmas.turn_steps}
use Rattle.mml_laws.proofs.WeavingLemmas.{placed, Timeline, Together, silent, waits, says_first, nobody, joined}

-- the line isn't too long for a request
abbrev pub Fine : Answered → Type 0
Fine a = IsWithinLimit MAX_REQUEST a.line

bye_turn : (lab : LabValue) (x : Option Who) (w : WindowValue) → TurnAt lab bye (standing x w) (standing None w)
bye_turn lab x w = grind (arith, nat_tests, request_in-canonical, canonical_line, bye_text)

-- ---- the timeline of a seat

module _ (lab : LabValue) (n k : ℕ) (all : List Event) (last : WindowValue) where
  -- a timeline of connection k, on which these lines are answered from this state of a session on; in the end the seat's
  -- window is `last`
  record Rest (st : Standing) (said : List Answered) : Type 0 where
    ps : List ℕ
    whole : st.window.places ++ ps ≡ last.places
    timeline : Timeline (HallStep lab n) Fine k st.known st.window.seen all said ps

  before_turn : (st next : Standing) (a : Answered) (said : List Answered) → TurnAt lab a st next → IsUnhalted a.reply → Rest next said → Rest st (a ∷ said)
  before_turn st next a said turn written rest =
      let t = turn_steps lab n st next a.line a.reply turn.0 written in
      let there = rw t.seen at rest.timeline in
      let says = says_first (HallStep lab n) Fine k st.known all said rest.ps t.list a next.known t.caused turn.1 t.step there in
      record {
        ps = placed t.list t.caused ++ rest.ps;
        whole = sym (append_assoc st.window.places (placed t.list t.caused) rest.ps) ∙ ap (λ (x : List ℕ). x ++ rest.ps) (sym t.places) ∙ rest.whole;
        timeline = waits (HallStep lab n) Fine k st.known all (a ∷ said) (placed t.list t.caused ++ rest.ps) st.window.seen t.begins.0 (rw t.begins.1 says);
      }

  before_turns : (st end : Standing) (turns said : List Answered) → Chain (TurnAt lab) st turns end → AllByRecursion IsUnhalted (map (λ a. a.reply) turns)
      → Rest end said → Rest st (turns ++ said)
  before_turns st end [] said chain written rest = subst (λ (x : Standing). Rest x said) chain rest
  before_turns st end (a ∷ turns) said chain written rest =
      before_turn st chain.0 a (turns ++ said) chain.1 written.0 (before_turns chain.0 end turns said chain.2 written.1 rest)

  -- Whoever is known when the session ends, the other lines come after it. If it had the reply to a bye, nobody is known
  -- at its end
  before_conversation : (old new : WindowValue) (one said : List Answered) → IsConversation lab one old new
      → AllByRecursion IsUnhalted (map (λ a. a.reply) one) → ((x : Option Who) → (says_bye one ≡ true → x ≡ None) → Rest (standing x new) said)
      → Rest (nobody_known old) (one ++ said)
  before_conversation old new one said c written rest =
      let s = conversation_says lab old new one c in
      before_turns (nobody_known old) s.end one said s.turns written
      (subst (λ (w : WindowValue). Rest (standing s.end.known w) said) (sym s.stands) (rest s.end.known s.forgets))

  -- a bye comes first, unless there was one before
  before_next : (bye_said : Bool) (x : Option Who) (w : WindowValue) (said : List Answered) → (bye_said ≡ true → x ≡ None) → Rest (standing None w) said
      → Rest (standing x w) (cond {A = List Answered} bye_said [] (bye ∷ []) ++ said)
  before_next bye_said x w said known rest = grind (arith, nat_tests, before_turn (standing x w) (standing None w) bye said (bye_turn lab x w) (λ h. cc) rest)

  module _ (d : List Event) (ends : last.seen ++ d ≡ all) where
    silent_at : (x : Option Who) (w : WindowValue) → last ≡ w → Rest (standing x w) []
    silent_at x w same = rw (← same) (record { ps = []; whole = append-nil last.places; timeline = silent (HallStep lab n) Fine k x last.seen d all ends })

    seat_timeline : (sessions : List (List Answered)) (old : WindowValue) → AreConversations lab old sessions last → AreWritten sessions
        → Rest (nobody_known old) (on_one_connection sessions)
    seat_timeline [] old c written = silent_at None old c
    seat_timeline (said ∷ []) old c written =
        subst (Rest (nobody_known old)) (append-nil said) (before_conversation old c.0 said [] c.1 written.0 (λ x nobody. silent_at x c.0 c.2))
    seat_timeline (said ∷ next ∷ later) old c written =
        before_conversation old c.0 said (bye_after said ++ on_one_connection (next ∷ later)) c.1 written.0
        (λ x nobody. before_next (says_bye said) x c.0 (on_one_connection (next ∷ later)) nobody (seat_timeline (next ∷ later) c.0 c.2 written.1))

-- ---- one timeline of all seats

module _ (lab : LabValue) (n : ℕ) (begun all d : List Event) (ends : begun ++ d ≡ all) where
  pub house_timeline : (j : ℕ) (seats : List (List (List Answered))) (windows : List WindowValue) → AreHeard lab begun seats windows
      → AllByRecursion AreWritten seats → All (λ w. IsPrefix w.seen all) windows → ((p : ℕ) → times p (told_of windows) ≤ 1)
      → Together (HallStep lab n) Fine None begun all j (map on_one_connection seats) (told_of windows)
  house_timeline j [] [] heard written seen few = nobody (HallStep lab n) Fine None begun all j d ends
  house_timeline j (seat ∷ seats) (w ∷ ws) heard written seen few =
      let sees = All-head (λ w. IsPrefix w.seen all) w ws seen in
      let one = seat_timeline lab n j all w sees.0 sees.1 seat (window begun []) heard.0 written.0 in
      let both : (p : ℕ) → times p w.places + times p (told_of ws) ≤ 1 = λ p. omega (arith, few p, times_append p w.places (told_of ws)) in
      joined (HallStep lab n) Fine None begun all j (on_one_connection seat) (map on_one_connection seats) w.places (told_of ws) (rw one.whole at one.timeline)
      (house_timeline (j + 1) seats ws heard.1 written.1 (All-tail (λ w. IsPrefix w.seen all) w ws seen) (λ p. omega (arith, both p))) both
  house_timeline j _ _ heard written seen few = absurd heard
