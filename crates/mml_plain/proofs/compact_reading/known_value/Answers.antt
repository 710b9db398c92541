use Rattle.std.proofs.Common.{codes, ◌∷◌, ◌++◌, ap, refl}
use Rattle.mml_plain.specs.declared.member_value.MemberValue.TheVariants.{Text, Number}
use Rattle.mml_plain.proofs.CompactLemmas.{puts_known}
use Rattle.mml_plain.proofs.compact_reading.known_value.Goals as goal

pub returns-then-front-eq-NODE-clause-member : goal.returns-then-front-eq-NODE-clause-member
returns-then-front-eq-NODE-clause-member c =
    puts_known (codes "node") c.args.text.now (Number c.in_ok-node.node) refl c.if-front-eq-NODE.true (ap (λ t. codes "node" ++ t) c.in_ok-quote_and_colon.ensures) c.in_ok-node.ensures refl

pub returns-then-front-eq-AT-clause-member : goal.returns-then-front-eq-AT-clause-member
returns-then-front-eq-AT-clause-member c = puts_known (codes "at") c.args.text.now (Number c.in_ok-at.at) refl c.if-front-eq-AT.true refl c.in_ok-at.ensures refl

pub returns-then-front-eq-WITH-clause-member : goal.returns-then-front-eq-WITH-clause-member
returns-then-front-eq-WITH-clause-member c =
    puts_known (codes "with") c.args.text.now (Number c.in_ok-partner.partner) refl c.if-front-eq-WITH.true (ap (λ t. codes "with" ++ t) c.in_ok-quote_and_colon-2.ensures)
    c.in_ok-partner.ensures refl

pub returns-then-front-eq-DO-clause-member : goal.returns-then-front-eq-DO-clause-member
returns-then-front-eq-DO-clause-member c = puts_known (codes "do") c.args.text.now (Text c.in_ok-word.word) refl c.if-front-eq-DO.true refl c.in_ok-word.ensures refl

pub returns-then-front-eq-RULE-clause-member : goal.returns-then-front-eq-RULE-clause-member
returns-then-front-eq-RULE-clause-member c =
    puts_known (codes "rule") c.args.text.now (Text c.in_ok-rule.rule) refl c.if-front-eq-RULE.true (ap (λ t. codes "rule" ++ t) c.in_ok-quote_and_colon-3.ensures) c.in_ok-rule.ensures refl

pub returns-then-front-eq-NAME-clause-member : goal.returns-then-front-eq-NAME-clause-member
returns-then-front-eq-NAME-clause-member c =
    puts_known (codes "name") c.args.text.now (Text c.in_ok-name.name) refl c.if-front-eq-NAME.true (ap (λ t. codes "name" ++ t) c.in_ok-quote_and_colon-4.ensures) c.in_ok-name.ensures refl

pub returns-then-front-eq-KEY-clause-member : goal.returns-then-front-eq-KEY-clause-member
returns-then-front-eq-KEY-clause-member c =
    puts_known (codes "key") c.args.text.now (Text c.in_ok-key.key) refl c.if-front-eq-KEY.true (ap (λ t. codes "key" ++ 34 ∷ t) c.in_ok-after_byte.ensures) c.in_ok-key.ensures refl
