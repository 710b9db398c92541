-- The line of an event has the words that `words_of` lists for the event.
use Rattle.std.proofs.{lemmas.Bool.Decides.nat_tests, Common.◌≡◌, Common.ℕ, Common.Bool, Common.List, Common.◌∷◌, Common.decimal, Common.Option, Common.option_map, Common.arith}
use Rattle.mml_ids.specs.Pieces.{truth_text}
use Rattle.mml_rules.specs.declared.rule.Rule.{Rule}
use Rattle.mml_lab.specs.Rosters.{RosterValue}
use Rattle.mml_board.specs.declared.event.Event.{Event}
use Rattle.mml_journal.specs.{Words.spaced, Words.id_at, RegsWords.register_word, EventWords.line_text, EventLines.event_line, EventLines.named_rule}
use Rattle.mml_laws.specs.JournalWords.{words_of, rule_words, pointer_word, truth_word}
use Rattle.mml_journal.specs.EventWords as written

pointer_so : (ids : List ℕ) (p : Option ℕ) → register_word (option_map (id_at ids) p) ≡ pointer_word ids p
pointer_so ids p = grind (arith, nat_tests)

truth_so : (m : Bool) → truth_text m ≡ truth_word m
truth_so m = grind (arith, nat_tests)

rule_so : (ids : List ℕ) (q : Rule) → written.rule_words (named_rule ids q) ≡ rule_words ids q
rule_so ids q = grind (arith, nat_tests)

-- the line of an event has its place, the number of the configuration before it, and the words of `words_of`, with a
-- space between any two
pub line_words : (ids : List ℕ) (r : RosterValue) (place before : ℕ) (e : Event)
    → event_line ids r place before e ≡ spaced (decimal place ∷ decimal before ∷ words_of ids r e)
unfolding line_text
line_words ids r place before e = grind (arith, nat_tests, rule_so, pointer_so, truth_so)
