-- Turns and scripts in two labs that look the same to a coalition. A coalition is a group of students, given by a test
-- of its members. A world is the state of a run after some events: its network and its chosen moves. Two worlds are
-- alike for a student if everything that the student may see is the same in both. A participant is known on a
-- connection from a granted hello to a bye.
use Rattle.std.proofs.Common.{◌≡◌, ℕ, Bool, true, false, List, [], ◌∷◌, refl, sym, ◌∙◌, arith}
use Rattle.std.proofs.lemmas.Bool.{false≢true, Decides.nat_tests}
use Rattle.mml_lab.specs.Labs.{LabValue}
use Rattle.mml_hall.specs.Turns.{State, Mishap, turn, known_on}
use Rattle.mml_hidden.specs.{Twins.AreTwins, Twins.StatesAlike, Twins.is_hers, Scripted.written_on_any, Mishaps.BefallenLine, Mishaps.turn_with, Mishaps.lines_in, Mishaps.replies_with}
use Rattle.mml_hidden.specs.{Mishaps.end_with, Coalitions.AlikeFor, Coalitions.is_theirs, Coalitions.StatesAlikeFor, Coalitions.StayAlikeFor, Coalitions.AreTheirsThroughout}
use Rattle.mml_hidden.proofs.TwinsLemmas.{alike_here, twin_turn}

module _ (lab other : LabValue) (twins : AreTwins lab other) (members : ℕ → Bool) (one : ℕ) (is : members one ≡ true) (st su : State)
    (a : StatesAlikeFor lab members st su) (m : Mishap) (k : ℕ) (line : List ℕ) where
  single : (s : ℕ) → members s ≡ true → StatesAlike lab s st su
  single s h = record { first = a.first; second = a.second; worlds = a.worlds s h; greeted = a.greeted; halted = a.halted }

  -- a member is known on the connection; if nobody is known there yet, any member will do
  speaks : is_theirs members (known_on st k) ≡ true → (x : ℕ) × (members x ≡ true) × (is_hers x (known_on st k) ≡ true)
  speaks h = grind (arith, nat_tests, false≢true)

  -- if a member or nobody is known on a connection, a line on it has the same reply in both labs, and the states stay
  -- alike
  pub their_turn : is_theirs members (known_on st k) ≡ true → ((turn m lab st k line).reply ≡ (turn m other su k line).reply)
      × StatesAlikeFor lab members (turn m lab st k line).state (turn m other su k line).state
  their_turn h =
      let (x, member, hers) = speaks h in
      let next = twin_turn lab other twins x st su (single x member) m k line (λ no. absurd (false≢true (sym no ∙ hers))) in
      let worlds = λ (t : ℕ) (h : members t ≡ true). (alike_here lab other twins x st su (single x member) m k line t (a.worlds t h) hers).worlds in
      (next.0 hers, record { first = next.1.first; second = next.1.second; worlds = worlds; greeted = next.1.greeted; halted = next.1.halted })

  -- a line of somebody else keeps the states alike, too, if it keeps the worlds alike, and if afterwards both journals
  -- are halted, or neither is
  pub their_next : (is_theirs members (known_on st k) ≡ false
      → AlikeFor lab.roster members (turn m lab st k line).state.world (turn m other su k line).state.world
      × ((turn m lab st k line).state.halted ≡ (turn m other su k line).state.halted))
      → StatesAlikeFor lab members (turn m lab st k line).state (turn m other su k line).state
  their_next stay = grind (arith, nat_tests, their_turn, twin_turn lab other twins one st su (single one is) m k line)

module _ (lab other : LabValue) (twins : AreTwins lab other) (members : ℕ → Bool) (one : ℕ) (is : members one ≡ true) where
  -- if the same lines have the same mishaps in both runs, and the worlds stay alike, the output on connections that are
  -- the members' throughout is the same, and the states at the end are alike
  pub same_for : (st su : State) (bs : List BefallenLine) → StatesAlikeFor lab members st su → StayAlikeFor lab other members st su bs
      → ((some : ℕ → Bool) → AreTheirsThroughout lab members some st bs
      → written_on_any lab some (lines_in bs) (replies_with lab st bs) ≡ written_on_any other some (lines_in bs) (replies_with other su bs))
      × StatesAlikeFor lab members (end_with lab st bs) (end_with other su bs)
  same_for st su [] a stay = ((λ some theirs. refl), a)
  same_for st su (b ∷ bs) a stay =
      let next = their_next lab other twins members one is st su a b.mishap b.line.connection b.line.request stay.0 in
      let here = their_turn lab other twins members one is st su a b.mishap b.line.connection b.line.request in
      grind (arith, nat_tests, here, same_for (turn_with lab st b).state (turn_with other su b).state bs next stay.1)
