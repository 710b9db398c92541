-- Which texts name no port.
use Rattle.std.proofs.lemmas.Bool.Decides.{nat_tests}
use Rattle.std.proofs.{Common.◌≡◌, Common.◌^◌, Common.◌-◌, Common.ℕ, Common.zero, Common.List, Common.codes, Common.sym, Common.◌∙◌, Common.arith, lemmas.Fmt.decimal_digit}
use Rattle.mml_serving.specs.Numbers.{Spells}
use Rattle.mml_host_program.specs.Ports.{Names, NamesNone}

-- a text that is neither 0 nor a number from 1 to 65535 names no port
pub names_none : (text : List ℕ) → (text ≡ codes "0" → ⊥) → ((n : ℕ) → Spells (2 ^ 16 - 1) text n → ⊥) → NamesNone text
names_none text other none n names = grind (arith, nat_tests, decimal_digit)

-- the text 0 names port 0
pub zero_named : (text : List ℕ) → text ≡ codes "0" → Names text 0
zero_named text is = (omega arith, is ∙ sym (decimal_digit 0 (omega arith)))
