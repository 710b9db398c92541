-- Looking up the node or the rule that a command names.
use Rattle.std.specs.{Prelude.ℕ, Prelude.List, Prelude.Option, Prelude.Some, Prelude.option_map, Prelude.Result, Option.ok_or}
use Rattle.mml_ids.specs.Ids.{rank_in}
use Rattle.mml_rules.specs.declared.rule.Rule.{Rule}
use Rattle.mml_policy.specs.declared.command.Asked.{Asked}
use Rattle.mml_board.specs.declared.denial.Denial.{Denial}
use Rattle.mml_rules.specs.declared.rule.Rule.TheVariants as rules
use Rattle.mml_policy.specs.declared.command.Asked.TheVariants as asked

-- the node with this identifier, or the denial if there is none
abbrev pub node : List ℕ → ℕ → Denial → Result ℕ Denial
node ids id d = ok_or (rank_in ids id) d

-- the rule that is asked for, the partner of a marriage as a node; None if no node has the partner's identifier
abbrev pub rule_of : List ℕ → Asked → Option Rule
rule_of ids asked.Update = Some rules.Update
rule_of ids (asked.Marriage id) = option_map rules.Marriage (rank_in ids id)
rule_of ids asked.Seduction = Some rules.Seduction
rule_of ids asked.Abandonment = Some rules.Abandonment
