-- The words in the lines of a journal. The place of an event is its number in the list of events, from 1.
use Rattle.std.specs.Prelude.{ℕ, Bool, true, false, List, [], ◌∷◌, codes, decimal, slice_index, Option, None, Some}
use Rattle.mml_rules.specs.declared.rule.Rule.{Rule}
use Rattle.mml_rules.specs.declared.rule.Rule.TheVariants as rule
use Rattle.mml_lab.specs.declared.who.Who.TheVariants as who
use Rattle.mml_lab.specs.Rosters.{RosterValue, name_of}
use Rattle.mml_board.specs.declared.event.Event.{Event}
use Rattle.mml_board.specs.declared.event.Event.TheVariants as event

-- the digits of a node's identifier
abbrev pub node_word : List ℕ → ℕ → List ℕ
node_word ids i = decimal (slice_index ids i)

-- the words of a rule: its name and, for a marriage, the partner
abbrev pub rule_words : List ℕ → Rule → List (List ℕ)
rule_words ids rule.Update = codes "update" ∷ []
rule_words ids (rule.Marriage j) = codes "marriage" ∷ node_word ids j ∷ []
rule_words ids rule.Seduction = codes "seduction" ∷ []
rule_words ids rule.Abandonment = codes "abandonment" ∷ []

-- the word of a pointer: the node to which it points, or a dash
abbrev pub pointer_word : List ℕ → Option ℕ → List ℕ
pointer_word ids None = codes "-"
pointer_word ids (Some j) = node_word ids j

-- the word of a truth value
abbrev pub truth_word : Bool → List ℕ
truth_word true = codes "true"
truth_word false = codes "false"

-- the words of an event's line that follow the event's place and the number of the configuration before the event
abbrev pub words_of : List ℕ → RosterValue → Event → List (List ℕ)
words_of ids r (event.Grant s i rule) = codes "grant" ∷ name_of r (who.Student s) ∷ node_word ids i ∷ rule_words ids rule
words_of ids r (event.Release i) = codes "release" ∷ node_word ids i ∷ []
words_of ids r event.Close = codes "close" ∷ []
words_of ids r (event.Fault i registers) = codes "fault" ∷ node_word ids i ∷ pointer_word ids registers.p ∷ truth_word registers.m ∷ []
words_of ids r (event.Link a b) = codes "link" ∷ node_word ids a ∷ node_word ids b ∷ []
words_of ids r (event.Cut a b) = codes "cut" ∷ node_word ids a ∷ node_word ids b ∷ []
