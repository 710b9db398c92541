-- Which JSON is read as which request, what a program finds in the text of a reply, and which replies show registers.
use Rattle.std.{proofs.Common.◌≡◌, proofs.Common.◌↔◌, proofs.Common.Some, proofs.Common.subst, proofs.Common.arith, proofs.lemmas.Option.same_Some, proofs.lemmas.Bool.Decides.nat_tests}
use Rattle.serde_json.specs.{Data.Data}
use Rattle.mml_codec.specs.{declared.request.Request.Request, Fields.HasEach, Requests.fields_of, Requests.request}
use Rattle.mml_codec.proofs.{RequestsLemmas.asked_there, RequestsLemmas.there_asked, ReplyValuesLemmas.read-reply}
use Rattle.mml_laws.specs.Words.{asked_fields}

-- `asked_fields` lists the same keys and words with which the codec writes the request
spelt : (r : Request) → fields_of r ≡ asked_fields r
spelt r = grind (arith, nat_tests)

pub asks_each : (d : Data) (r : Request) → (request d ≡ Some r) ↔ HasEach d (asked_fields r)
asks_each d r = subst (λ fs. (request d ≡ Some r) ↔ HasEach d fs) (spelt r) (asked_there d r, there_asked d r)

-- what a program reads in the text of a reply
pub ruleset found = (nat_tests, same_Some, read-reply)
