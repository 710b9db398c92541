use Rattle.std.proofs.Common.{◌≡◌, true, refl, arith}
use Rattle.mml_rules.specs.Network.{registers_at}
use Rattle.mml_board.specs.World.{configuration}
use Rattle.mml_policy.specs.Visible.{is_visible}
use Rattle.mml_policy.proofs.{VisibleLemmas.visible_means, NearLemmas.near_hold}
use Rattle.mml_policy.proofs.laws.a_look_shows_what_is_visible.Goals as goal

pub returns : goal.returns
returns c r w x i lawful may = record {
  node = grind (arith, visible_means);
  registers = refl;
  near = near_hold (λ n. is_visible r (configuration w) x n.0 ≡ true) w i (λ j l. grind (arith, visible_means));
  near_registers = near_hold (λ n. n.1 ≡ registers_at w.network.registers n.0) w i (λ j l. refl);
}
