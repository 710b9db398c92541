-- A node as it is shown.
use Rattle.std.specs.{Prelude.ℕ, Prelude.List, Prelude.map, Prelude.filter, Prelude.option_map, List.range_with_len}
use Rattle.mml_rules.specs.{declared.regs.Regs.Regs, Network.registers_at, Rules.kind_of, Rules.enabled_kind}
use Rattle.mml_board.specs.World.{World, size, configuration, chosen_at}
use Rattle.mml_policy.specs.declared.{see.See.See, look.Look.Look}

-- what a see shows: the registers of a node, and the number of the configuration to which they belong
abbrev pub see_of : World → ℕ → See
see_of w i = record { at = w.number; node = i; regs = registers_at w.network.registers i }

-- the nodes below n that are linked to i, in rising order, with their registers
abbrev pub near_below : World → ℕ → ℕ → List (ℕ × Regs)
near_below w i n = map (λ j. (j, registers_at w.network.registers j)) (filter ((configuration w).linked i) (range_with_len 0 n))

-- the nodes linked to i, in rising order, with their registers
unfoldable pub near : World → ℕ → List (ℕ × Regs)
near w i = near_below w i (size w)

-- a node as its owners see it: also its chosen move, the rule that is enabled there, and the nodes linked to it
abbrev pub look_of : World → ℕ → Look
look_of w i = record {
  at = w.number;
  node = i;
  regs = registers_at w.network.registers i;
  chosen = option_map kind_of (chosen_at w.chosen i);
  enabled = enabled_kind (configuration w) i;
  near = near w i;
}
