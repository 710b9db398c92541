use Rattle.std.proofs.Common.{◌≡◌, List, ℕ, Bool, true, Some, None, Result, Ok, arith}
use Rattle.std.specs.{Bool.MatchBool, declared.alloc.AllocError.AllocError, Str.IsUtf8}
use Rattle.json.specs.{Token.Token, Lex.tokens}
use Rattle.serde_json.specs.Data.{Members, object}
use Rattle.mml_plain.specs.{Reading.object_at, Reading.object_in, Holds.Holds, declared.fields.Fields.Fields}
use Rattle.mml_plain.proofs.ReadingLemmas.{no_text, object_in_is}
use Rattle.mml_plain.proofs.reading.read_tokens.Goals as goal

abbrev the_answer : Bool → Result Bool AllocError
the_answer b = Ok b

abbrev Found : Bool → Fields → List Token → Type 0
Found b fields ts = MatchBool b ((ms : Members) × (object_at ts ≡ Some ms) × Holds fields (object ms)) (object_at ts ≡ None)

object_is : (b : Bool) (fields : Fields) (line : List ℕ) → IsUtf8 line → Found b fields (tokens line) → the_answer b ≡ Ok true
    → (ms : Members) × (object_in line ≡ Some ms) × Holds fields (object ms)
object_is b fields line u h e = grind (arith, object_in_is)

pub returns-in_default-clause-other : goal.returns-in_default-clause-other
returns-in_default-clause-other c = λ e. no_text c.args.line.now (c.in_default.ensures.cases.0)

pub returns-clause-object : goal.returns-clause-object
returns-clause-object c = grind (arith, object_is)

pub returns-clause-other : goal.returns-clause-other
returns-clause-other c = grind (arith, object_in_is)
