use Rattle.std.proofs.{lemmas.Grind.common_steps, Common.arith}
use Rattle.mml_codec.proofs.SeparatedLemmas.{comma_with, comma_without, text_with, text_without, with_comma_put}
use Rattle.mml_codec.proofs.reply_value.with_members.Goals.{then-has, else-has}
use Rattle.mml_codec.proofs.reply_value.with_members.Goals as goal

pub loop-index-preserved : goal.loop-index-preserved
loop-index-preserved c = grind (arith, common_steps, then-has, text_with, with_comma_put, comma_with, else-has, text_without, comma_without)
