-- A JSON value is read as a request exactly if it has the fields of this request.
use Rattle.std.proofs.lemmas.{Bool.Decides.nat_tests, Option.same_Some, Option.option_and_then_some, Slice.Eq.bytes_eq-Decides}
use Rattle.std.proofs.Common.{◌≡◌, ℕ, List, [], ◌∷◌, Bool, true, cond, codes, bytes_eq, Option, Some, option_map, refl, ap, ◌∙◌, subst, arith}
use Rattle.serde_json.specs.{Data.Data, Data.number}
use Rattle.mml_plain.specs.LookUps.{◌>>=◌, text_at, number_at, truth_at, register_at}
use Rattle.mml_policy.specs.declared.command.{Asked.Asked, Command.Command}
use Rattle.mml_codec.specs.{declared.request.Request.Request, Fields.Has, Fields.HasEach}
use Rattle.mml_codec.specs.Requests.{rule_word, partner_fields, register, asks, fields_of, asked_at, hello_of, node_of, ends_of, move_of, fault_of, by_word, request}
use Rattle.mml_board.specs.Vocabulary as verb
use Rattle.mml_policy.specs.declared.command.Command.TheVariants as command
use Rattle.mml_codec.specs.declared.request.Request.TheVariants as requests
use Rattle.mml_codec.specs.Fields as field

-- ---- registers

held : (o : Option ℕ) (n : ℕ) → option_map Some o ≡ Some (Some n) → o ≡ Some n
held o n h = grind (arith, nat_tests, same_Some)

-- ---- a value that is read as a request has the request's fields

abbrev Asks : Data → Request → Type 0
Asks d r = HasEach d (fields_of r)

only : (d : Data) (q r : Request) → Some q ≡ Some r → Asks d q → Asks d r
only d q r same has = subst (Asks d) (same_Some q r same) has

which : {A P : Type 0} (b : Bool) (x y z : A) → cond b x y ≡ z → (b ≡ true → x ≡ z → P) → (y ≡ z → P) → P
which b x y z h here there = grind (arith, nat_tests)

abbrev HasRule : Data → Asked → Type 0
HasRule d rule = (text_at (codes "rule") d ≡ Some (rule_word rule)) × HasEach d (partner_fields rule)

rule_there : (d : Data) (rule : Asked) → asked_at d ≡ Some rule → HasRule d rule
unfolding asked_at
rule_there d rule h = grind (arith, nat_tests, option_and_then_some, bytes_eq-Decides, which, same_Some)

hello_there : (d : Data) (r : Request) → Has d (asks verb.hello) → hello_of d ≡ Some r → Asks d r
unfolding hello_of
hello_there d r word h = grind (arith, nat_tests, option_and_then_some, only)

node_there : (d : Data) (v : List ℕ) (c : ℕ → Command) (r : Request) → ((n : ℕ) → fields_of (requests.Do (c n)) ≡ asks v ∷ (codes "node", field.number n) ∷ [])
    → Has d (asks v) → node_of c d ≡ Some r → Asks d r
node_there d v c r spelt word h = grind (arith, nat_tests, option_and_then_some, only)

ends_there : (d : Data) (v : List ℕ) (c : ℕ → ℕ → Command) (r : Request)
    → ((a b : ℕ) → fields_of (requests.Do (c a b)) ≡ (codes "a", field.number a) ∷ (codes "b", field.number b) ∷ asks v ∷ [])
    → Has d (asks v) → ends_of c d ≡ Some r → Asks d r
ends_there d v c r spelt word h = grind (arith, nat_tests, option_and_then_some, only)

move_there : (d : Data) (r : Request) → Has d (asks verb.move.asked) → move_of d ≡ Some r → Asks d r
unfolding move_of
move_there d r word h = grind (arith, nat_tests, option_and_then_some, rule_there, only)

fault_there : (d : Data) (r : Request) → Has d (asks verb.fault.asked) → fault_of d ≡ Some r → Asks d r
unfolding fault_of
fault_there d r word h = option_and_then_some _ (number_at (codes "node") d) r h (λ n is more.
    option_and_then_some _ (register_at (codes "p") d) r more (λ p points more'. option_and_then_some _ (truth_at (codes "m") d) r more' (λ m married last.
    only d (requests.Do (command.Fault n p m)) r last (word, (married, (is, (grind (arith, nat_tests, held), tt)))))))

pub asked_there : (d : Data) (r : Request) → request d ≡ Some r → HasEach d (fields_of r)
unfolding request by_word
asked_there d r h = option_and_then_some _ (text_at (codes "do") d) r h (λ w at by.
    let word : (v : List ℕ) → bytes_eq w v ≡ true → Has d (asks v) = λ v is. at ∙ ap Some ((bytes_eq-Decides w v).0 is) in
    which (bytes_eq w verb.hello) _ _ _ by (λ is q. hello_there d r (word _ is) q) (λ by.
    which (bytes_eq w verb.bye) _ _ _ by (λ is q. only d requests.Bye r q (word _ is, tt)) (λ by.
    which (bytes_eq w verb.see) _ _ _ by (λ is q. node_there d _ command.See r (λ n. refl) (word _ is) q) (λ by.
    which (bytes_eq w verb.look) _ _ _ by (λ is q. node_there d _ command.Look r (λ n. refl) (word _ is) q) (λ by.
    which (bytes_eq w verb.move.asked) _ _ _ by (λ is q. move_there d r (word _ is) q) (λ by.
    which (bytes_eq w verb.close.asked) _ _ _ by (λ is q. only d (requests.Do command.Close) r q (word _ is, tt)) (λ by.
    which (bytes_eq w verb.fault.asked) _ _ _ by (λ is q. fault_there d r (word _ is) q) (λ by.
    which (bytes_eq w verb.link.asked) _ _ _ by (λ is q. ends_there d _ command.Link r (λ a b. refl) (word _ is) q) (λ by.
    which (bytes_eq w verb.cut.asked) _ _ _ by (λ is q. ends_there d _ command.Cut r (λ a b. refl) (word _ is) q) (λ by.
    which (bytes_eq w verb.release.asked) _ _ _ by (λ is q. node_there d _ command.Release r (λ n. refl) (word _ is) q) (λ by.
    which (bytes_eq w verb.report) _ _ _ by (λ is q. only d (requests.Do command.Report) r q (word _ is, tt)) (λ by.
    absurd cc))))))))))))

-- ---- a value that has the fields of a request is read as this request

rule_asked : (d : Data) (rule : Asked) → HasRule d rule → asked_at d ≡ Some rule
unfolding asked_at
rule_asked d rule h = grind (arith, nat_tests)

register_named : (d : Data) (p : Option ℕ) → Has d (codes "p", register p) → register_at (codes "p") d ≡ Some p
register_named d p h = grind (arith, nat_tests)

pub there_asked : (d : Data) (r : Request) → HasEach d (fields_of r) → request d ≡ Some r
unfolding request by_word hello_of move_of fault_of
there_asked d (requests.Hello name key) h = rw (h.0, h.1.1.0, h.1.0)
there_asked d (requests.Do (command.See n)) h = rw (h.0, h.1.0)
there_asked d (requests.Do (command.Look n)) h = rw (h.0, h.1.0)
there_asked d (requests.Do (command.Move n rule at)) h = rw (h.1.0, h.1.1.0, h.0, rule_asked d rule (h.1.1.1.0, h.1.1.1.1))
there_asked d (requests.Do (command.Fault n p m)) h = rw (h.0, h.1.1.0, register_named d p h.1.1.1.0, h.1.0)
there_asked d (requests.Do (command.Link a b)) h = rw (h.1.1.0, h.0, h.1.0)
there_asked d (requests.Do (command.Cut a b)) h = rw (h.1.1.0, h.0, h.1.0)
there_asked d (requests.Do (command.Release n)) h = rw (h.0, h.1.0)
there_asked d _ h = rw (h.0)
