-- The turn of a line in two states that are alike for a student. A world is the state of a run after some events: its
-- network and its chosen moves. Two worlds are alike for a student if everything that the student may see is the same
-- in both. A participant is known on a connection from a granted hello to a bye. A mishap is what goes wrong in a turn:
-- memory runs out, or a write fails.
use Rattle.std.proofs.Common.{◌≡◌, ◌⊎◌, ℕ, true, false, List, Option, refl, subst, arith}
use Rattle.std.{proofs.lemmas.Bool.false≢true, proofs.lemmas.Bool.eqb-true, proofs.lemmas.Bool.Decides.nat_tests, specs.Option.option_map_or}
use Rattle.mml_lab.specs.{declared.who.Who.Who, Labs.LabValue}
use Rattle.mml_rules.specs.Network.{Network}
use Rattle.mml_board.specs.{declared.event.Event.Event, World.World, Events.after}
use Rattle.mml_board.proofs.{WorldLemmas.after-world, WorldLemmas.size-after, ClausesLemmas.legal_possible}
use Rattle.mml_policy.specs.{declared.command.Command.Command, Alike.Alike, Alike.IsWorldOf}
use Rattle.mml_policy.proofs.RulingsLemmas.{legal_event}
use Rattle.mml_codec.specs.declared.{request.Request.Request, greeting.Greeting.Greeting, greeting.Greeting.TheVariants.Answered, greeting.Greeting.TheVariants.LeftToJudge}
use Rattle.mml_codec.specs.{Greetings.greeting, Lines.request_in}
use Rattle.mml_hall.specs.Turns.{State, Outcome, Mishap, turn, known_on, entered, settled, nothing, plain_turn}
use Rattle.mml_hall.proofs.TurnsLemmas.{IsGranting, plain_does, whatever_befell}
use Rattle.mml_hidden.specs.Twins.{AreTwins, StatesAlike, is_hers}
use Rattle.mml_hidden.proofs.SightLemmas.{same_reply_to, others_afterwards}
use Rattle.mml_lab.specs.declared.who.Who.TheVariants as who

-- ---- what a turn changes in one lab

-- an event changes neither who is known nor whether the journal is halted
pub entered_is : (st : State) (o : Option Event)
    → ((entered st o).world ≡ option_map_or (after st.world) o st.world) × ((entered st o).greeted ≡ st.greeted) × ((entered st o).halted ≡ st.halted)
entered_is st o = grind (arith, nat_tests)

module _ (lab : LabValue) (st : State) (k : ℕ) (line : List ℕ) (is : IsWorldOf lab.ids st.world) where
  granted_world : (out : Outcome) → IsGranting lab st k (request_in line) out → IsWorldOf lab.ids out.state.world
  granted_world out g =
      let legal = legal_event lab.ids lab.roster lab.events st.halted st.world g.who g.command g.event is.nodes in
      grind (arith, nat_tests, legal, after-world, legal_possible, size-after)

  turn_world : (m : Mishap) → IsWorldOf lab.ids (turn m lab st k line).state.world
  turn_world m = whatever_befell lab st k line (λ out. IsWorldOf lab.ids out.state.world) (grind (arith, nat_tests, plain_does, granted_world)) is is m

-- ---- two states that differ only in their worlds and events

-- Two turns have the same reply. Afterwards the worlds are alike for student t, the same participants are known, and
-- both journals are halted, or neither is.
pub record TurnsAlike (lab : LabValue) (t : ℕ) (one two : Outcome) : Type 0 where
  pub reply : one.reply ≡ two.reply
  pub worlds : Alike lab.roster t one.state.world two.state.world
  pub greeted : one.state.greeted ≡ two.state.greeted
  pub halted : one.state.halted ≡ two.state.halted

module _ (lab : LabValue) (st : State) (v : World) (es : List Event) where
  abbrev su : State
  su = record { world = v; events = es; greeted = st.greeted; halted = st.halted }

  -- Both turns have the same reply and lead to the same list of known participants, or neither turn changes who is
  -- known.
  plain_known : (k : ℕ) (line : List ℕ)
      → (((plain_turn lab st k line).reply ≡ (plain_turn lab su k line).reply)
      × ((plain_turn lab st k line).state.greeted ≡ (plain_turn lab su k line).state.greeted))
      ⊎ (((plain_turn lab st k line).state.greeted ≡ st.greeted) × ((plain_turn lab su k line).state.greeted ≡ st.greeted))
  unfolding plain_turn
  plain_known k line = grind (arith, nat_tests, entered_is, request_in line)

  turn_known : (m : Mishap) (k : ℕ) (line : List ℕ) → (turn m lab st k line).state.greeted ≡ (turn m lab su k line).state.greeted
  turn_known m k line = grind (arith, nat_tests, plain_known, false≢true)

  -- a turn on a connection of student s, in worlds that are alike for s and for t
  module _ (s t : ℕ) (first : IsWorldOf lab.ids st.world) (second : IsWorldOf lab.ids v)
      (a : Alike lab.roster s st.world v) (b : Alike lab.roster t st.world v) where
    -- an outcome without a ruling has the same reply in both states, and so has the outcome of a command of student s
    settled_alike : (k : ℕ) (g : Greeting) → ((x : Who) (c : Command) → g ≡ LeftToJudge x c → x ≡ who.Student s)
        → TurnsAlike lab t (settled lab st k g) (settled lab su k g)
    settled_alike k (Answered r x) hers = record { reply = refl; worlds = b; greeted = refl; halted = refl }
    settled_alike k (LeftToJudge x c) hers =
        let others = others_afterwards lab.ids lab.roster lab.events st.halted st.world v s t c first second a b in
        grind (arith, nat_tests, entered_is, same_reply_to, others, hers x c refl)

    greeted_alike : (k : ℕ) (known : Option Who) (q : Request) → is_hers s known ≡ true
        → TurnsAlike lab t (settled lab st k (greeting lab.roster known q)) (settled lab su k (greeting lab.roster known q))
    greeted_alike k known q h = settled_alike k (greeting lab.roster known q) (λ x c e. grind (arith, nat_tests, false≢true, eqb-true))

    -- on a connection of student s, the turns of a line in both states are alike for student t, if the same mishap
    -- occurs in both turns
    turn_alike : (mishap : Mishap) (k : ℕ) (line : List ℕ) → is_hers s (known_on st k) ≡ true
        → TurnsAlike lab t (turn mishap lab st k line) (turn mishap lab su k line)
    unfolding plain_turn
    turn_alike mishap k line h = grind (arith, nat_tests, greeted_alike, request_in line)

-- ---- turns in two labs

-- a turn doesn't depend on the lab's network
net_turn : (lab : LabValue) (n : Network) (m : Mishap) (st : State) (k : ℕ) (l : List ℕ) → turn m lab st k l ≡ turn m (record lab { network = n }) st k l
unfolding plain_turn
net_turn lab n m st k l = grind (arith, nat_tests)

module _ (lab other : LabValue) (twins : AreTwins lab other) (s : ℕ) (st su : State) (a : StatesAlike lab s st su) (m : Mishap) (k : ℕ) (line : List ℕ) where
  abbrev su_here : State
  su_here = record { world = su.world; events = su.events; greeted = st.greeted; halted = st.halted }

  same_turn : turn m lab su_here k line ≡ turn m other su k line
  same_turn = grind (arith, nat_tests, net_turn)

  -- a line on a connection of student s has the same reply in both labs, and keeps the worlds alike for student t
  pub alike_here : (t : ℕ) → Alike lab.roster t st.world su.world → is_hers s (known_on st k) ≡ true
      → TurnsAlike lab t (turn m lab st k line) (turn m other su k line)
  alike_here t b h = subst (TurnsAlike lab t (turn m lab st k line)) same_turn (turn_alike lab st su.world su.events s t a.first a.second a.worlds b m k line h)

  -- A line of the student has the same reply in both labs, and keeps the states alike. A line of somebody else keeps
  -- them alike if it keeps the worlds alike, and if afterwards both journals are halted, or neither is
  pub twin_turn : (is_hers s (known_on st k) ≡ false → Alike lab.roster s (turn m lab st k line).state.world (turn m other su k line).state.world
      × ((turn m lab st k line).state.halted ≡ (turn m other su k line).state.halted))
      → (is_hers s (known_on st k) ≡ true → (turn m lab st k line).reply ≡ (turn m other su k line).reply)
      × StatesAlike lab s (turn m lab st k line).state (turn m other su k line).state
  twin_turn stay =
      grind (arith, nat_tests, alike_here s a.worlds, turn_world lab st k line a.first m, turn_world lab su_here k line a.second m, same_turn, turn_known)

-- after a line of somebody else without a mishap, the states are alike if the worlds are
pub twin_plain : (lab other : LabValue) → AreTwins lab other → (s : ℕ) (st su : State) → StatesAlike lab s st su → (k : ℕ) (line : List ℕ)
    → (is_hers s (known_on st k) ≡ false → Alike lab.roster s (plain_turn lab st k line).state.world (plain_turn other su k line).state.world)
    → (is_hers s (known_on st k) ≡ true → (plain_turn lab st k line).reply ≡ (plain_turn other su k line).reply)
    × StatesAlike lab s (plain_turn lab st k line).state (plain_turn other su k line).state
twin_plain lab other t s st su a k line stay = twin_turn lab other t s st su a nothing k line (λ h. (stay h, grind (arith, nat_tests, plain_does)))
