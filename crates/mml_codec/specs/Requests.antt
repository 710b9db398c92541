-- The keys and values of each request, and the request that a JSON value is read as.
use Rattle.std.specs.Prelude.{codes, List, [], ◌∷◌, ℕ, Option, Some, None, option_map, bytes_eq, if◌then◌else◌}
use Rattle.serde_json.specs.Data.{Data}
use Rattle.mml_board.specs.Vocabulary.{rule_name}
use Rattle.mml_policy.specs.declared.command.{Asked.Asked, Command.Command}
use Rattle.mml_codec.specs.{declared.request.Request.Request, Fields.Field, Fields.number, Fields.word, Fields.text, Fields.truth, Fields.null}
use Rattle.mml_rules.specs.declared.rule.Kind.TheVariants as kind
use Rattle.mml_board.specs.Vocabulary as verb
use Rattle.mml_policy.specs.declared.command.Asked.TheVariants as asked
use Rattle.mml_policy.specs.declared.command.Command.TheVariants as command
use Rattle.mml_codec.specs.declared.request.Request.TheVariants as requests
pub use Rattle.mml_plain.specs.LookUps.{◌>>=◌, text_at, number_at, truth_at, register_at}

-- ---- the word and the keys of each request, in byte order

-- the word for a rule in the request for a move
abbrev pub rule_word : Asked → List ℕ
rule_word asked.Update = rule_name kind.Update
rule_word (asked.Marriage id) = rule_name kind.Marriage
rule_word asked.Seduction = rule_name kind.Seduction
rule_word asked.Abandonment = rule_name kind.Abandonment

-- the key `with` and the partner of a marriage; no key for the other rules
abbrev pub partner_fields : Asked → List (List ℕ × Field)
partner_fields asked.Update = []
partner_fields (asked.Marriage id) = (codes "with", number id) ∷ []
partner_fields asked.Seduction = []
partner_fields asked.Abandonment = []

-- the value of a key for the register p: the identifier of the node to point at, or null
abbrev pub register : Option ℕ → Field
register None = null
register (Some n) = number n

-- the key `do` with the word of a request
abbrev pub asks : List ℕ → List ℕ × Field
asks w = (codes "do", word w)

-- the word of a command and its other keys, in byte order
abbrev pub command_fields : Command → List (List ℕ × Field)
command_fields (command.See node) = asks verb.see ∷ (codes "node", number node) ∷ []
command_fields (command.Look node) = asks verb.look ∷ (codes "node", number node) ∷ []
command_fields (command.Move node rule at) =
    (codes "at", number at) ∷ asks verb.move.asked ∷ (codes "node", number node) ∷ (codes "rule", word (rule_word rule)) ∷ partner_fields rule
command_fields command.Close = asks verb.close.asked ∷ []
command_fields (command.Fault node p m) =
    asks verb.fault.asked ∷ (codes "m", truth m) ∷ (codes "node", number node) ∷ (codes "p", register p) ∷ []
command_fields (command.Link a b) = (codes "a", number a) ∷ (codes "b", number b) ∷ asks verb.link.asked ∷ []
command_fields (command.Cut a b) = (codes "a", number a) ∷ (codes "b", number b) ∷ asks verb.cut.asked ∷ []
command_fields (command.Release node) = asks verb.release.asked ∷ (codes "node", number node) ∷ []
command_fields command.Report = asks verb.report ∷ []

-- the word of a request and its other keys, in byte order
abbrev pub fields_of : Request → List (List ℕ × Field)
fields_of (requests.Hello name key) = asks verb.hello ∷ (codes "key", text key) ∷ (codes "name", text name) ∷ []
fields_of requests.Bye = asks verb.bye ∷ []
fields_of (requests.Do c) = command_fields c

-- ---- the request that a value is read as

-- the rule with this word; None if no rule has it, or if the rule is a marriage and its partner is missing
unfoldable pub asked_at : Data → Option Asked
asked_at d = do
  w ← text_at (codes "rule") d
  if bytes_eq w (rule_name kind.Update) then Some asked.Update
      else (if bytes_eq w (rule_name kind.Marriage) then option_map asked.Marriage (number_at (codes "with") d)
      else (if bytes_eq w (rule_name kind.Seduction) then Some asked.Seduction
      else (if bytes_eq w (rule_name kind.Abandonment) then Some asked.Abandonment
      else None)))

-- a hello, or None if its name or its key is missing
unfoldable pub hello_of : Data → Option Request
hello_of d = do
  name ← text_at (codes "name") d
  key ← text_at (codes "key") d
  Some (requests.Hello name key)

-- the request for a command that names one node, or None if the node is missing
abbrev pub node_of : (ℕ → Command) → Data → Option Request
node_of c d = do
  node ← number_at (codes "node") d
  Some (requests.Do (c node))

-- the request for a command that names two nodes, or None if one of them is missing
abbrev pub ends_of : (ℕ → ℕ → Command) → Data → Option Request
ends_of c d = do
  a ← number_at (codes "a") d
  b ← number_at (codes "b") d
  Some (requests.Do (c a b))

-- a move, or None if its node, its number of a configuration or its rule is missing
unfoldable pub move_of : Data → Option Request
move_of d = do
  node ← number_at (codes "node") d
  at ← number_at (codes "at") d
  rule ← asked_at d
  Some (requests.Do (command.Move node rule at))

-- a fault, or None if its node or one of its registers is missing
unfoldable pub fault_of : Data → Option Request
fault_of d = do
  node ← number_at (codes "node") d
  p ← register_at (codes "p") d
  m ← truth_at (codes "m") d
  Some (requests.Do (command.Fault node p m))

-- the request with this word; None if no request has it, or if a key that the request needs is missing. Other keys are
-- ignored
unfoldable pub by_word : List ℕ → Data → Option Request
by_word w d = if bytes_eq w verb.hello then hello_of d
    else (if bytes_eq w verb.bye then Some requests.Bye
    else (if bytes_eq w verb.see then node_of command.See d
    else (if bytes_eq w verb.look then node_of command.Look d
    else (if bytes_eq w verb.move.asked then move_of d
    else (if bytes_eq w verb.close.asked then Some (requests.Do command.Close)
    else (if bytes_eq w verb.fault.asked then fault_of d
    else (if bytes_eq w verb.link.asked then ends_of command.Link d
    else (if bytes_eq w verb.cut.asked then ends_of command.Cut d
    else (if bytes_eq w verb.release.asked then node_of command.Release d
    else (if bytes_eq w verb.report then Some (requests.Do command.Report)
    else None))))))))))

-- the request that a value is read as, or None if it isn't a request
unfoldable pub request : Data → Option Request
request d = text_at (codes "do") d >>= λ w. by_word w d
