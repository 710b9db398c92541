-- What follows if all clauses of an act hold, and that the clauses of the resulting event's own act then hold, too.
-- Other crates use these lemmas instead of the clauses.
use Rattle.std.proofs.Common.{◌≡◌, ℕ, ◌<◌, ◌-◌, ◌==◌, Bool, true, cond, not, ◌&&◌, None, Some, is_none, Result, Ok, refl, ap, ◌∙◌, arith}
use Rattle.std.{specs.Option.ok_or, specs.Result.IfOk, specs.Result.is_ok, proofs.lemmas.Bool.Decides.nat_tests, proofs.lemmas.Bool.and_from, proofs.lemmas.Bool.lt-ltb, proofs.lemmas.Bool.eq-eqb}
use Rattle.mml_ids.proofs.GivesLemmas.{bind-if, need-if}
use Rattle.mml_board.specs.declared.{act.Act.Act, denial.Denial.Denial, event.Event.Event}
use Rattle.mml_board.specs.{ActNodes.AreAllThere, World.World, World.size, World.configuration, World.chosen_at, Events.is_possible, Events.is_legal}
use Rattle.mml_board.specs.Clauses.{check, asker, act_of, is_node, may_point, is_chosen, is_any_chosen, node_in}
use Rattle.mml_ids.specs.Gives.{◌>>=◌, ◌>>◌, need}
use Rattle.mml_rules.specs.{declared.rule.Rule.Rule, Rules.guard}
use Rattle.mml_lab.specs.{declared.who.Who.Who, Rosters.RosterValue, Rosters.owns}
use Rattle.mml_lab.specs.declared.who.Who.TheVariants as who
use Rattle.mml_board.specs.declared.event.Event.TheVariants as event

-- if the chain of s and f succeeds, s succeeds with some a, and f a succeeds
pub ok-bind : {A B E : Type 0} (s : Result A E) (f : A → Result B E) → is_ok (s >>= f) ≡ true → (a : A) × (s ≡ Ok a) × (is_ok (f a) ≡ true)
ok-bind s f h = grind arith

-- if s succeeds with a, and f a succeeds, the chain of s and f succeeds
pub ok-from : {A B E : Type 0} (s : Result A E) (f : A → Result B E) (a : A) → s ≡ Ok a → is_ok (f a) ≡ true → is_ok (s >>= f) ≡ true
ok-from s f a e h = ap (λ t. is_ok (t >>= f)) e ∙ h

-- if looking up node i in the world finds j, then i is j, and is a node of the world
pub node_in-ok : (w : World) (i j : ℕ) (d : Denial) → ok_or (node_in w i) d ≡ Ok j → (i ≡ j) × (is_node w i ≡ true)
node_in-ok w i j d h = grind arith

-- a test that each possible event passes, and that is weaker than the event's clauses
abbrev pub is_fit : World → Event → Bool
is_fit w (event.Grant s i q) = is_node w i && (is_none (chosen_at w.chosen i) && guard (configuration w) i q)
is_fit w (event.Release i) = is_chosen w i
is_fit w event.Close = is_any_chosen w
is_fit w (event.Fault i registers) = is_node w i && may_point (configuration w) i registers.p
is_fit w (event.Link a b) = (is_node w a && is_node w b) && (not (a == b) && not ((configuration w).linked a b))
is_fit w (event.Cut a b) = (configuration w).linked a b

pub fit : (w : World) (e : Event) → is_possible w e ≡ true → is_fit w e ≡ true
unfolding is_possible
fit w e h = grind (arith, nat_tests, ok-bind, node_in-ok, and_from)

-- a legal event is possible
pub legal_possible : (r : RosterValue) (w : World) (e : Event) → is_legal r w e ≡ true → is_possible w e ≡ true
unfolding is_possible is_legal
legal_possible r w e h = grind (arith, nat_tests, ok-bind, ok-from)

-- ---- the act that asks for the event of a granted act

-- looking up a node of the world finds it
pub node_back : (w : World) (i : ℕ) (d : Denial) → i < size w → ok_or (node_in w i) d ≡ Ok i
node_back w i d l = ap (λ b. ok_or (cond b (Some i) None) d) (lt-ltb i (size w) l)

-- if b is true and t succeeds, `need b e` followed by t succeeds
pub need-well : {B E : Type 0} (b : Bool) (e : E) (t : Result B E) → b ≡ true → is_ok t ≡ true → is_ok (need b e >> t) ≡ true
need-well b e t h k = ap (λ c. is_ok (need c e >> t)) h ∙ k

-- the student of a move owns its node; for other events nothing is required
abbrev pub has_right_owner : RosterValue → Event → Bool
has_right_owner r (event.Grant s i q) = owns r (who.Student s) i
has_right_owner r _ = true

pub right_owner : (r : RosterValue) (w : World) (e : Event) → is_legal r w e ≡ true → has_right_owner r e ≡ true
unfolding is_legal
right_owner r w e h = grind (arith, nat_tests, ok-bind, node_in-ok)

-- ---- possible events

-- a move is possible if its node is in the world and has no chosen move, and its guard holds
pub grant_possible : (w : World) (s i : ℕ) (q : Rule) → i < size w → chosen_at w.chosen i ≡ None → guard (configuration w) i q ≡ true
    → is_possible w (event.Grant s i q) ≡ true
unfolding is_possible
grant_possible w s i q l free g = grind (arith, nat_tests, ok-from, node_back, need-well, eq-eqb)

-- a close is possible if some node has a chosen move
pub close_possible : (w : World) → is_any_chosen w ≡ true → is_possible w event.Close ≡ true
unfolding is_possible
close_possible w any = need-well (is_any_chosen w) _ _ any refl

-- a possible event is legal if it isn't a move, or if the student of the move owns its node
pub owned_legal : (r : RosterValue) (w : World) (e : Event) → has_right_owner r e ≡ true → is_possible w e ≡ true → is_legal r w e ≡ true
unfolding is_possible is_legal
owned_legal r w e owner h = grind (arith, nat_tests, ok-bind, node_in-ok, ok-from, need-well)

-- ---- the act that asks for an event

-- the clauses of the act that asks for a legal event hold, and lead to this event
pub legal_ok : (r : RosterValue) (w : World) (e : Event) → is_legal r w e ≡ true → check (owns r) w (asker e) (act_of w e) ≡ Ok e
unfolding is_legal
legal_ok r w e h = grind (arith, nat_tests, ok-bind, node_in-ok)

-- an event is legal exactly if the clauses of the act that asks for it hold
pub legal_is : (r : RosterValue) (w : World) (e : Event) → is_legal r w e ≡ is_ok (check (owns r) w (asker e) (act_of w e))
unfolding is_legal
legal_is r w e = refl

-- if the clauses of an act hold, they lead to a legal event
pub again_legal : (r : RosterValue) (w : World) (x : Who) (a : Act) → AreAllThere (size w) a → IfOk (check (owns r) w x a) (λ e. is_legal r w e ≡ true)
unfolding is_legal
again_legal r w x a there = grind (arith, nat_tests, bind-if, need-if, node_back, eq-eqb)
