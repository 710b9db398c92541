use Rattle.std.proofs.Common.{length, option_map, refl, arith}
use Rattle.json.specs.Reads.{token_of}
use Rattle.json.proofs.Grammar.{value_is, read_key-shorter}
use Rattle.serde_json.specs.Data.{no_members}
use Rattle.mml_plain.proofs.ReadingLemmas.{read_null, read_truth, read_text, read_number, no_number_read, read_array, read_nested}
use Rattle.mml_plain.proofs.ReadingLemmas.{value_array, value_object, items_next, items_more, members_next, members_more}
use Rattle.mml_plain.proofs.reading.+nested.Goals as goal

pub read_value-returns-in_err-token-clause-value : goal.read_value-returns-in_err-token-clause-value
read_value-returns-in_err-token-clause-value t c = grind (arith, value_is)

pub read_value-returns-in-Null-clause-value : goal.read_value-returns-in-Null-clause-value
read_value-returns-in-Null-clause-value t c =
    read_null c.args.depth c.args.reader.now c.next.new.self (token_of c.in_ok-token.token) (grind arith) (grind arith)

pub read_value-returns-in-Bool-clause-value : goal.read_value-returns-in-Bool-clause-value
read_value-returns-in-Bool-clause-value t c =
    read_truth c.args.depth c.args.reader.now c.next.new.self (token_of c.in_ok-token.token) c.in-Bool.truth (grind arith) (grind arith)

pub read_value-returns-in-String-clause-value : goal.read_value-returns-in-String-clause-value
read_value-returns-in-String-clause-value t c =
    read_text c.args.depth c.args.reader.now c.next.new.self (token_of c.in_ok-token.token) c.in-String.text (grind arith) (grind arith)

pub read_value-returns-in_err-found-in-Number-clause-value : goal.read_value-returns-in_err-found-in-Number-clause-value
read_value-returns-in_err-found-in-Number-clause-value t c = grind (arith, option_map, no_number_read)

pub read_value-returns-in_ok-found-in-Number-clause-value : goal.read_value-returns-in_ok-found-in-Number-clause-value
read_value-returns-in_ok-found-in-Number-clause-value t c =
    read_number c.args.depth c.args.reader.now c.next.new.self (token_of c.in_ok-token.token) c.in-Number.text.now c.of_number.result
    c.in_ok-found-in-Number.found (grind arith) (grind arith) c.in_ok-found-in-Number.ensures c.of_number.ensures

pub read_value-returns-then-depth-eq0-clause-value : goal.read_value-returns-then-depth-eq0-clause-value
read_value-returns-then-depth-eq0-clause-value t c = grind (arith, value_is)

pub read_value-returns-then-pass_items-clause-value : goal.read_value-returns-then-pass_items-clause-value
read_value-returns-then-pass_items-clause-value t c = grind (arith, read_array)

pub read_value-returns-else-pass_items-clause-value : goal.read_value-returns-else-pass_items-clause-value
read_value-returns-else-pass_items-clause-value t c = grind (arith, value_array)

pub read_value-returns-then-depth-eq0-2-clause-value : goal.read_value-returns-then-depth-eq0-2-clause-value
read_value-returns-then-depth-eq0-2-clause-value t c = grind (arith, value_is)

pub read_value-returns-then-pass_members-clause-value : goal.read_value-returns-then-pass_members-clause-value
read_value-returns-then-pass_members-clause-value t c = grind (arith, read_nested)

pub read_value-returns-else-pass_members-clause-value : goal.read_value-returns-else-pass_members-clause-value
read_value-returns-else-pass_members-clause-value t c = grind (arith, value_object)

pub read_value-returns-in-EndObject-clause-value : goal.read_value-returns-in-EndObject-clause-value
read_value-returns-in-EndObject-clause-value t c = grind (arith, value_is)

pub pass_items-items-init : goal.pass_items-items-init
pass_items-items-init t c = (length c.args.reader.now, omega arith, refl, omega arith)

pub pass_items-returns-in_default-clause-refused : goal.pass_items-returns-in_default-clause-refused
pass_items-returns-in_default-clause-refused t c = grind (arith, items_next)

pub pass_items-items-preserved : goal.pass_items-items-preserved
pass_items-items-preserved t c = grind (arith, items_more)

pub pass_items-returns-clause-passed : goal.pass_items-returns-clause-passed
pass_items-returns-clause-passed t c = grind (arith, items_next)

pub pass_members-members-init : goal.pass_members-members-init
pass_members-members-init t c = (length c.args.reader.now, no_members, omega arith, refl, omega arith)

pub pass_members-returns-in_default-clause-refused : goal.pass_members-returns-in_default-clause-refused
pass_members-returns-in_default-clause-refused t c = grind (arith, members_next)

pub pass_members-returns-in_default-named-clause-passed : goal.pass_members-returns-in_default-named-clause-passed
pass_members-returns-in_default-named-clause-passed t c = grind (arith, members_next)

pub pass_members-returns-in_default-read_value-clause-refused : goal.pass_members-returns-in_default-read_value-clause-refused
pass_members-returns-in_default-read_value-clause-refused t c = grind (arith, members_next)

pub pass_members-members-preserved : goal.pass_members-members-preserved
pass_members-members-preserved t c = grind (arith, read_key-shorter, members_more)
