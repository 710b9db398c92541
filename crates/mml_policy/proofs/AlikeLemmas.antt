-- What a student can't see doesn't change the answers to the student.
use Rattle.std.{proofs.lemmas.Bool.Decides.nat_tests, proofs.lemmas.Bool.cases_eq, proofs.lemmas.List.get_or-set_other, proofs.lemmas.Grind.get_or-set_at, specs.Result.IfOk}
use Rattle.std.proofs.Common.{◌≡◌, ℕ, ◌<◌, Bool, true, List, [], ◌∷◌, length, map, Option, Some, refl, sym, ap, ◌∙◌, arith, inl, inr, filter}
use Rattle.mml_rules.specs.{declared.rule.Rule.Rule, Configuration.Configuration, Configuration.IsLawful, Around.AgreeAround, Network.registers_at}
use Rattle.mml_ids.proofs.{SearchLemmas.same_bool, SearchLemmas.some_below_same, GivesLemmas.bind-same, GivesLemmas.need-same, GivesLemmas.bind-if, GivesLemmas.need-if}
use Rattle.mml_rules.proofs.AroundLemmas.{same_guard, same_kind}
use Rattle.mml_lab.specs.{declared.who.Who.Who, Rosters.RosterValue, Rosters.owns}
use Rattle.mml_board.specs.{World.World, World.size, World.configuration, Clauses.check}
use Rattle.mml_policy.specs.{declared.command.Command.Command, declared.verdict.Leave.Leave, declared.verdict.Leave.TheVariants.Grant, Visible.is_visible, Visible.owns_neighbour, Verdicts.granted}
use Rattle.mml_policy.specs.{Verdicts.clauses, Clauses.rule_of, Shown.near, Alike.Alike, Alike.IsWorldOf, Rulings.ruling_on_leave, Rulings.ruling, Rulings.after_ruling}
use Rattle.mml_ids.specs.Ids.{rank_in}
use Rattle.mml_policy.proofs.{ClausesLemmas.node_there, VisibleLemmas.visible_means}
use Rattle.mml_lab.specs.declared.who.Who.TheVariants as who
use Rattle.mml_board.specs.declared.event.Event.TheVariants as event
use Rattle.mml_policy.specs.declared.command.Command.TheVariants as command
use Rattle.mml_board.specs.declared.act.Act.TheVariants as acts

filter_alike : {X Y : Type 0} (t : X → Bool) (f g : X → Y) (xs : List X) → ((x : X) → t x ≡ true → f x ≡ g x) → map f (filter t xs) ≡ map g (filter t xs)
filter_alike t f g [] h = refl
filter_alike t f g (x ∷ xs) h = grind (arith, nat_tests, filter_alike t f g xs h)

module _ (ids : List ℕ) (r : RosterValue) (limit : ℕ) (is_halted : Bool) (w v : World) (s : ℕ) (k : Command) (in_w : IsWorldOf ids w) (in_v : IsWorldOf ids v)
    (a : Alike r s w v) where
  abbrev c : Configuration
  c = configuration w

  abbrev d : Configuration
  d = configuration v

  abbrev x : Who
  x = who.Student s

  lawful_w : IsLawful c
  lawful_w = in_w.world.network.lawful

  same_size : size w ≡ size v
  same_size = sym in_w.nodes ∙ in_v.nodes

  around : (i : ℕ) → owns r x i ≡ true → AgreeAround c d i
  around i own = grind (arith, nat_tests)

  to_mine : (i j : ℕ) → owns r x j ≡ true → c.linked i j ≡ d.linked i j
  to_mine i j own = same_bool _ _
      (λ h. in_v.world.network.lawful.symmetric j i (sym (a.links j i own) ∙ lawful_w.symmetric i j h))
      (λ h. lawful_w.symmetric j i (a.links j i own ∙ in_v.world.network.lawful.symmetric i j h))

  same_neighbour : (i : ℕ) → owns_neighbour r c x i ≡ owns_neighbour r d x i
  unfolding owns_neighbour
  same_neighbour i = grind (arith, nat_tests, same_size, some_below_same, to_mine)

  -- the clauses of a move have the same result in both worlds
  same_move : (found : Option ℕ) (rule : Option Rule) (at : ℕ) → check (owns r) w x (acts.Move found rule at) ≡ check (owns r) v x (acts.Move found rule at)
  same_move found rule at = grind (arith, nat_tests, bind-same, need-same, same_guard, around)

  -- the clauses of each command have the same result in both worlds
  same_clauses : (m : Command) → clauses ids r w x m ≡ clauses ids r v x m
  same_clauses (command.See id) = grind (arith, nat_tests, bind-same, need-same, same_neighbour)
  same_clauses (command.Move id q at) = ap granted (same_move (rank_in ids id) (rule_of ids q) at)
  same_clauses _ = refl

  -- a visible node has the same registers in both worlds
  same_seen : (i : ℕ) → is_visible r c x i ≡ true → registers_at w.network.registers i ≡ registers_at v.network.registers i
  same_seen i h = elim ((visible_means r c x i lawful_w).0 h) [
    | inl t ↦ absurd (grind arith)
    | inr o ↦ elim o [ inl own ↦ a.here i own | inr n ↦ a.near n.0 i n.2 (lawful_w.symmetric i n.0 n.1) ]
  ]

  same_near : (i : ℕ) → owns r x i ≡ true → near w i ≡ near v i
  unfolding near
  same_near i own = grind (arith, nat_tests, filter_alike, same_size)

  -- ---- if the same move is chosen in both worlds, they still look the same to the student
  -- the permission l leads to the same ruling in both worlds, and the worlds after this ruling look the same to the
  -- student
  abbrev Keeps : Leave → Type 0
  Keeps l =
      (ruling_on_leave limit is_halted w l ≡ ruling_on_leave limit is_halted v l) × Alike r s (after_ruling w (ruling_on_leave limit is_halted w l)) (after_ruling v (ruling_on_leave limit is_halted v l))

  keeps_move : (i : ℕ) (q : Rule) → i < length ids → Keeps (Grant (event.Grant s i q))
  keeps_move i q l = grind (arith, nat_tests, cases_eq, get_or-set_at, get_or-set_other, Some q, in_w.world.choices, in_v.world.choices)

  keeps : (m : Command) → IfOk (clauses ids r w x m) Keeps
  keeps (command.See id) = grind (arith, nat_tests, bind-if, need-if, same_seen)
  keeps (command.Look id) = grind (arith, nat_tests, bind-if, need-if, same_kind, around, same_near)
  keeps (command.Move id q at) = grind (arith, nat_tests, bind-if, need-if, keeps_move, node_there)
  keeps _ = tt

  -- if two worlds look the same to a student, each command of the student has the same ruling in both
  pub same_ruling : ruling ids r limit is_halted w x k ≡ ruling ids r limit is_halted v x k
  same_ruling = grind (arith, nat_tests, clauses ids r w x k, same_clauses k, keeps k)

  -- if two worlds look the same to a student, they still do so after the ruling on a command of the student
  pub alike_afterwards : Alike r s (after_ruling w (ruling ids r limit is_halted w x k)) (after_ruling v (ruling ids r limit is_halted v x k))
  alike_afterwards = grind (arith, nat_tests, clauses ids r w x k, same_clauses k, keeps k)
