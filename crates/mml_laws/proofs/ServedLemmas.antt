-- What the replies of a house say of its windows: the places (numbers of events) that a window was granted, and the
-- refusals `journal` that it has counted. A window is what the sessions of a seat have seen of the house's list of
-- events.
use Rattle.std.{proofs.lemmas.Bool.Decides.nat_tests, proofs.lemmas.List.Elements.All-head, proofs.lemmas.List.Elements.All-tail, specs.List.AllByRecursion}
use Rattle.std.proofs.Common.{◌≡◌, ℕ, List, [], ◌∷◌, ◌++◌, length, map, flat_map, All, refl, sym, ap, ◌∙◌, subst, append_assoc, append-nil, arith}
use Rattle.mml_lab.specs.Labs.{LabValue}
use Rattle.mml_board.specs.declared.event.Event.{Event}
use Rattle.mml_lines.specs.Runs.{Chain}
use Rattle.mml_codec.specs.declared.reply.Reply.{Reply}
use Rattle.mml_window.specs.{Tallies.told_of, Tallies.IsEachOnceFrom, Windows.WindowValue, Windows.window}
use Rattle.mml_session.specs.{Turns.Standing, Turns.places_in, Talks.nobody_known}
use Rattle.mml_session.proofs.TalkLemmas.{turn_on, turn_halts}
use Rattle.mml_laws.specs.Served.{Answered, IsConversation, AreHeard, AreServed, replies_of, IsUnhalted, NoneHaltedIn, AreWritten, named_in, named_by}
use Rattle.mml_laws.proofs.AnswersLemmas.{TurnAt, conversation_says}

-- ---- chains of steps, each of which has a value

module _ {A X B : Type 0} (Step : X → A → A → Type 0) (value : X → B) where
  -- if each step appends a list that its value has, a chain appends the lists of its values
  chain_appends : {C : Type 0} (lists : A → List C) (of : B → List C) → ((x : X) (a b : A) → Step x a b → lists b ≡ lists a ++ of (value x))
      → (a b : A) (xs : List X) → Chain Step a xs b → lists b ≡ lists a ++ flat_map of (map value xs)
  chain_appends lists of each a b [] c = ap lists c ∙ sym (append-nil (lists a))
  chain_appends lists of each a b (x ∷ xs) c =
      cc (chain_appends lists of each c.0 b xs c.2, each x a c.0 c.1, append_assoc (lists a) (of (value x)) (flat_map of (map value xs)))

  -- if P holds before a step, and Q of its value, whenever P holds after it, the same is true of a chain
  chain_back : (P : A → Type 0) (Q : B → Type 0) → ((x : X) (a b : A) → Step x a b → P b → P a × Q (value x))
      → (a b : A) (xs : List X) → Chain Step a xs b → P b → P a × AllByRecursion Q (map value xs)
  chain_back P Q each a b [] c p = (subst P c p, tt)
  chain_back P Q each a b (x ∷ xs) c p = grind (arith, nat_tests, chain_back P Q each c.0 b xs c.2 p)

-- ---- places

module _ (lab : LabValue) where
  conversation_places : (said : List Answered) (old new : WindowValue) → IsConversation lab said old new
      → new.places ≡ old.places ++ flat_map places_in (map (λ a. a.reply) said)
  conversation_places said old new c =
      let s = conversation_says lab old new said c in
      ap (λ (w : WindowValue). w.places) (sym s.stands)
      ∙ chain_appends (TurnAt lab) (λ a. a.reply) (λ (st : Standing). st.window.places) places_in
      (λ a st next t. (turn_on lab st next a.line a.reply t.0).places) (nobody_known old) s.end said s.turns

  house_places : (begun : List Event) (seats : List (List (List Answered))) (windows : List WindowValue) → AreHeard lab begun seats windows
      → told_of windows ≡ named_by (map replies_of seats)
  house_places begun [] [] heard = refl
  house_places begun (seat ∷ seats) (w ∷ ws) heard =
      let one : w.places ≡ named_in (replies_of seat) =
      chain_appends (IsConversation lab) (map (λ a. a.reply)) (λ (w : WindowValue). w.places) (flat_map places_in) conversation_places
      (window begun []) w seat heard.0 in
      cc (one, house_places begun seats ws heard.1)
  house_places begun _ _ heard = absurd heard

-- the places of windows are those that the replies of their sessions name
pub house_once : (lab : LabValue) (begun : List Event) (most : ℕ) (sessions : List (List (List Reply))) (windows : List WindowValue)
    → AreServed lab begun sessions windows
    → IsEachOnceFrom (length begun) most (told_of windows) → IsEachOnceFrom (length begun) most (named_by sessions)
house_once lab begun most sessions windows served once = grind (arith, nat_tests, house_places)

-- ---- refusals `journal`

all_mapped : {A B : Type 0} (P : B → Type 0) (f : A → B) (xs : List A) → AllByRecursion (λ x. P (f x)) xs → AllByRecursion P (map f xs)
all_mapped P f [] all = tt
all_mapped P f (x ∷ xs) all = (all.0, all_mapped P f xs all.1)

module _ (lab : LabValue) where
  conversation_unhalted : (said : List Answered) (old new : WindowValue) → IsConversation lab said old new → new.halts ≡ 0
      → (old.halts ≡ 0) × AllByRecursion IsUnhalted (map (λ a. a.reply) said)
  conversation_unhalted said old new c none =
      let s = conversation_says lab old new said c in
      chain_back (TurnAt lab) (λ a. a.reply) (λ (st : Standing). st.window.halts ≡ 0) IsUnhalted (λ a st next t none. grind (arith, nat_tests, turn_halts))
      (nobody_known old) s.end said s.turns (ap (λ (w : WindowValue). w.halts) s.stands ∙ none)

  -- if no window has counted a refusal `journal`, no reply of their sessions is one
  pub house_written : (begun : List Event) (seats : List (List (List Answered))) (windows : List WindowValue) → AreHeard lab begun seats windows
      → All (λ (w : WindowValue). w.halts ≡ 0) windows → AllByRecursion AreWritten seats
  house_written begun [] [] heard none = tt
  house_written begun (seat ∷ seats) (w ∷ ws) heard none = (
    (chain_back (IsConversation lab) (map (λ a. a.reply)) (λ (w : WindowValue). w.halts ≡ 0) (AllByRecursion IsUnhalted) conversation_unhalted
        (window begun []) w seat heard.0 (All-head (λ (w : WindowValue). w.halts ≡ 0) w ws none)).1,
    house_written begun seats ws heard.1 (All-tail (λ (w : WindowValue). w.halts ≡ 0) w ws none),
  )
  house_written begun _ _ heard none = absurd heard

  pub nobody_halted : (begun : List Event) (sessions : List (List (List Reply))) (windows : List WindowValue) → AreServed lab begun sessions windows
      → All (λ (w : WindowValue). w.halts ≡ 0) windows → NoneHaltedIn sessions
  nobody_halted begun sessions windows served none = grind (arith, nat_tests, all_mapped, house_written)
