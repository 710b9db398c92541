-- Events that are granted are legal, nodes that are shown exist, and only acts are granted.
use Rattle.std.{proofs.lemmas.Bool.Decides.nat_tests, proofs.lemmas.List.Quantifiers.position-Some, specs.Result.IfOk, specs.Result.IfErr}
use Rattle.std.proofs.Common.{◌≡◌, ℕ, ◌<◌, Bool, true, false, List, length, Result, arith}
use Rattle.mml_lab.specs.{declared.who.Who.Who, Rosters.RosterValue, Rosters.owns}
use Rattle.mml_board.specs.{declared.event.Event.Event, declared.denial.Denial.Denial, World.World, World.size, Events.is_legal}
use Rattle.mml_policy.specs.{Acts.is_act, declared.command.Command.Command, Clauses.rule_of, Verdicts.granted, Verdicts.clauses, Verdicts.verdict}
use Rattle.mml_policy.specs.declared.verdict.Leave.{Leave, TheVariants.See, TheVariants.Look, TheVariants.Report, TheVariants.Grant}
use Rattle.mml_ids.specs.Ids.{rank_in}
use Rattle.mml_board.proofs.{DenialsLemmas.is_of_act, DenialsLemmas.denied_of_act}
use Rattle.mml_policy.specs.declared.command.Command.TheVariants as command
use Rattle.mml_policy.specs.declared.verdict.Verdict.TheVariants as verdicts
use Rattle.mml_board.specs.declared.act.Act.TheVariants as acts

-- if P holds of the permission for each event to which the clauses may lead, it holds of what `granted` returns
pub granted-if : (P : Leave → Type 0) (s : Result Event Denial) → IfOk s (λ e. P (Grant e)) → IfOk (granted s) P
granted-if P s h = grind arith

-- if P holds of the denial of the clauses, it holds of the denial that `granted` returns
pub granted-deny : (P : Denial → Type 0) (s : Result Event Denial) → IfErr s P → IfErr (granted s) P
granted-deny P s h = grind arith

-- if P implies Q, and P holds of the error, Q holds of the error
pub both_err : {A E : Type 0} (P Q : E → Type 0) (s : Result A E) → ((e : E) → P e → Q e) → IfErr s P → IfErr s Q
both_err P Q s f h = grind arith

-- a node that may be shown exists, and an event that may happen is legal
abbrev pub IsFine : List ℕ → RosterValue → World → Leave → Type 0
IsFine ids r w (See i) = i < length ids
IsFine ids r w (Look i) = i < length ids
IsFine ids r w Report = Unit {0}
IsFine ids r w (Grant e) = is_legal r w e ≡ true

-- the permission is for an event, not for showing something
abbrev pub is_event : Leave → Bool
is_event (See i) = false
is_event (Look i) = false
is_event Report = false
is_event (Grant e) = true

-- the permission is for an event exactly if b is true
abbrev pub IsEvent : Bool → Leave → Type 0
IsEvent b l = is_event l ≡ b

module _ (ids : List ℕ) (r : RosterValue) (w : World) (x : Who) where
  -- if the clauses of a command permit something, it is an event exactly if the command is an act
  pub of_kind : (c : Command) (b : Bool) → is_act c ≡ b → IfOk (clauses ids r w x c) (IsEvent b)
  of_kind c b h = grind (arith, nat_tests)

  abbrev denies : Denial → Type 0
  denies d = is_of_act w d ≡ true

  -- each denial has a clause number from 1 to 4, and can name only the current configuration
  pub denied_of : (c : Command) → IfErr (clauses ids r w x c) denies
  denied_of (command.Move id a at) = granted-deny denies _ (denied_of_act (owns r) w x (acts.Move (rank_in ids id) (rule_of ids a) at))
  denied_of c = grind (arith, nat_tests)

  module _ (same : length ids ≡ size w) where
    pub fine : (c : Command) → IfOk (clauses ids r w x c) (IsFine ids r w)
    unfolding is_legal
    fine (command.Move id a at) = grind (arith, nat_tests, position-Some)
    fine c = grind (arith, nat_tests, position-Some)

    pub granted_legal : (c : Command) (e : Event) → verdict ids r w x c ≡ verdicts.Grant e → is_legal r w e ≡ true
    granted_legal c e h = grind (arith, nat_tests, IsFine ids r w, clauses ids r w x c, fine c)
