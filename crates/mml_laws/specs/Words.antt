-- The words of the protocol, as programs write and read them. The place of an event is its number in the list of
-- events, from 1.
use Rattle.std.specs.Prelude.{◌≡◌, ℕ, Bool, true, false, List, [], ◌∷◌, codes, Option, None, Some, slice_index}
use Rattle.mml_rules.specs.declared.rule.Kind.{Kind}
use Rattle.mml_lab.specs.Rosters.{RosterValue, name_of}
use Rattle.mml_policy.specs.declared.command.Asked.{Asked}
use Rattle.mml_board.specs.{declared.denial.Denial.Denial, Denials.clause_of, Denials.denial_name, Denials.text_of}
use Rattle.mml_codec.specs.{declared.request.Request.Request, declared.reply.Refused.Refused, declared.reply.Reply.Reply, Facts.Fact, Requests.register}
use Rattle.mml_codec.specs.Fields.{Field, number, word, text, truth, null}
use Rattle.mml_rules.specs.declared.rule.Kind.TheVariants as kind
use Rattle.mml_policy.specs.declared.command.Asked.TheVariants as asked
use Rattle.mml_policy.specs.declared.command.Command.TheVariants as command
use Rattle.mml_board.specs.declared.denial.Denial.TheVariants as denial
use Rattle.mml_codec.specs.declared.request.Request.TheVariants as requests
use Rattle.mml_codec.specs.declared.reply.Refused.TheVariants as refused
use Rattle.mml_codec.specs.declared.reply.Reply.TheVariants as reply
use Rattle.mml_codec.specs.Facts as fact

-- a denial with its clause, its name and its text
abbrev pub IsDenial : Denial × ℕ × List ℕ × List ℕ → Type 0
IsDenial (d, clause, name, said) = (clause_of d ≡ clause) × (denial_name d ≡ name) × (text_of d ≡ said)

-- ---- the keys and values of a request

-- the key `do` with the word of a request
abbrev pub does : List ℕ → List ℕ × Field
does w = (codes "do", word w)

-- the keys of a request for a move of this rule, except for the request's word, its node and the number of the
-- configuration
abbrev pub move_fields : Asked → List (List ℕ × Field)
move_fields asked.Update = (codes "rule", word (codes "update")) ∷ []
move_fields (asked.Marriage partner) = (codes "rule", word (codes "marriage")) ∷ (codes "with", number partner) ∷ []
move_fields asked.Seduction = (codes "rule", word (codes "seduction")) ∷ []
move_fields asked.Abandonment = (codes "rule", word (codes "abandonment")) ∷ []

-- the keys of a request, and their values: each number, word, text, truth value and register
abbrev pub asked_fields : Request → List (List ℕ × Field)
asked_fields (requests.Hello name key) = does (codes "hello") ∷ (codes "key", text key) ∷ (codes "name", text name) ∷ []
asked_fields requests.Bye = does (codes "bye") ∷ []
asked_fields (requests.Do (command.See node)) = does (codes "see") ∷ (codes "node", number node) ∷ []
asked_fields (requests.Do (command.Look node)) = does (codes "look") ∷ (codes "node", number node) ∷ []
asked_fields (requests.Do (command.Move node rule at)) = (codes "at", number at) ∷ does (codes "move") ∷ (codes "node", number node) ∷ move_fields rule
asked_fields (requests.Do command.Close) = does (codes "close") ∷ []
asked_fields (requests.Do (command.Fault node p m)) =
    does (codes "fault") ∷ (codes "m", truth m) ∷ (codes "node", number node) ∷ (codes "p", register p) ∷ []
asked_fields (requests.Do (command.Link a b)) = (codes "a", number a) ∷ (codes "b", number b) ∷ does (codes "link") ∷ []
asked_fields (requests.Do (command.Cut a b)) = (codes "a", number a) ∷ (codes "b", number b) ∷ does (codes "cut") ∷ []
asked_fields (requests.Do (command.Release node)) = does (codes "release") ∷ (codes "node", number node) ∷ []
asked_fields (requests.Do command.Report) = does (codes "report") ∷ []

-- ---- the keys and values of a reply

-- the word of a rule
abbrev pub kind_word : Kind → List ℕ
kind_word kind.Update = codes "update"
kind_word kind.Marriage = codes "marriage"
kind_word kind.Seduction = codes "seduction"
kind_word kind.Abandonment = codes "abandonment"

-- the identifier of a node
abbrev pub node_field : List ℕ → ℕ → Field
node_field ids i = number (slice_index ids i)

-- null, or the identifier of a node
abbrev pub register_field : List ℕ → Option ℕ → Field
register_field ids None = null
register_field ids (Some i) = node_field ids i

-- null, or the word of a rule
abbrev pub rule_field : Option Kind → Field
rule_field None = null
rule_field (Some k) = word (kind_word k)

-- the keys of the reply to each granted event: the word, the number of the configuration and the event's place
abbrev pub granted_fields : List ℕ → ℕ → ℕ → List (List ℕ × Field)
granted_fields told at place = (codes "ok", word told) ∷ (codes "at", number at) ∷ (codes "place", number place) ∷ []

-- the identifier of a node and its registers
abbrev pub register_fields : List ℕ → ℕ → Option ℕ → Bool → List (List ℕ × Field)
register_fields ids i p m = (codes "node", node_field ids i) ∷ (codes "p", register_field ids p) ∷ (codes "m", truth m) ∷ []

-- the word of a refusal
abbrev pub refused_word : Refused → List ℕ
refused_word refused.Malformed = codes "malformed"
refused_word refused.Full = codes "full"
refused_word refused.Journal = codes "journal"
refused_word refused.Memory = codes "memory"

-- the number of the current configuration, which only the denial `stale` has
abbrev pub late_fields : Denial → List (List ℕ × Field)
late_fields (denial.Stale at) = (codes "at", number at) ∷ []
late_fields _ = []

-- the keys of a denial
abbrev pub denied_fields : Denial → List (List ℕ × Field)
denied_fields d = (codes "deny", word (denial_name d)) ∷ (codes "clause", number (clause_of d)) ∷ (codes "text", word (text_of d)) ∷ late_fields d

-- the keys of a reply, and their values: each number, word, truth value and register
abbrev pub found_fields : List ℕ → RosterValue → Reply → List (List ℕ × Field)
found_fields ids roster (reply.Hello who) = (codes "ok", word (codes "hello")) ∷ (codes "who", text (name_of roster who)) ∷ []
found_fields ids roster reply.Bye = (codes "ok", word (codes "bye")) ∷ []
found_fields ids roster (reply.See s) = (codes "ok", word (codes "see")) ∷ (codes "at", number s.at) ∷ register_fields ids s.node s.regs.p s.regs.m
found_fields ids roster (reply.Look l) =
    (codes "ok", word (codes "look")) ∷ (codes "at", number l.at) ∷ (codes "chosen", rule_field l.chosen) ∷ (codes "rule", rule_field l.enabled)
    ∷ register_fields ids l.node l.regs.p l.regs.m
found_fields ids roster (reply.Move at place i k) =
    (codes "node", node_field ids i) ∷ (codes "rule", word (kind_word k)) ∷ granted_fields (codes "move") at place
found_fields ids roster (reply.Close at place moved) = granted_fields (codes "close") at place
found_fields ids roster (reply.Fault at place i dropped) =
    (codes "node", node_field ids i) ∷ (codes "dropped", number dropped) ∷ granted_fields (codes "fault") at place
found_fields ids roster (reply.Link at place a b dropped) =
    (codes "a", node_field ids a) ∷ (codes "b", node_field ids b) ∷ (codes "dropped", number dropped) ∷ granted_fields (codes "link") at place
found_fields ids roster (reply.Cut at place a b dropped) =
    (codes "a", node_field ids a) ∷ (codes "b", node_field ids b) ∷ (codes "dropped", number dropped) ∷ granted_fields (codes "cut") at place
found_fields ids roster (reply.Release at place i) = (codes "node", node_field ids i) ∷ granted_fields (codes "release") at place
found_fields ids roster (reply.Report r) = (codes "ok", word (codes "report")) ∷ (codes "at", number r.at) ∷ (codes "stable", truth r.stable) ∷ []
found_fields ids roster (reply.Deny d) = denied_fields d
found_fields ids roster (reply.Refuse r) = (codes "refuse", word (refused_word r)) ∷ []

-- ---- which replies have registers

-- whether a key of a reply has a register, a value computed from registers, or the rule of a chosen move
abbrev pub tells_registers : Fact → Bool
tells_registers (fact.truth b) = true
tells_registers (fact.pointer p) = true
tells_registers (fact.rule_or_null k) = true
tells_registers (fact.nodes is) = true
tells_registers (fact.near ns) = true
tells_registers (fact.pairs ps) = true
tells_registers (fact.privileged ns) = true
tells_registers (fact.open_links ls) = true
tells_registers _ = false

-- whether the reply shows a node or a report
abbrev pub is_view : Reply → Bool
is_view (reply.See s) = true
is_view (reply.Look l) = true
is_view (reply.Report r) = true
is_view _ = false
