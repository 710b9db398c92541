use Rattle.std.proofs.Common.{refl}
use Rattle.mml_codec.proofs.GreetingsLemmas.{hello_is_granted, denied_is_known_as_before}
use Rattle.mml_codec.proofs.laws.a_greeting_tells_who_is_known.Goals as goal

pub returns : goal.returns
returns c = record { hello = hello_is_granted; bye = λ r known. refl; denied = denied_is_known_as_before }
