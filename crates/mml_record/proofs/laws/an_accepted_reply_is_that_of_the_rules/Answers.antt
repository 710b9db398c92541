use Rattle.std.proofs.{Common.◌≡◌, Common.◌⊎◌, Common.true, Common.inl, Common.inr, Common.arith, lemmas.Bool.Decides.nat_tests}
use Rattle.mml_board.specs.declared.{done.Done.Done, event.Event.Event}
use Rattle.mml_codec.specs.declared.reply.{Refused.Refused, Reply.Reply}
use Rattle.mml_record.specs.Certified.{may_refuse}
use Rattle.mml_policy.specs.declared.ruling.Ruling.TheVariants as rulings
use Rattle.mml_codec.specs.declared.reply.Refused.TheVariants as refused
use Rattle.mml_codec.specs.declared.reply.Reply.TheVariants as reply
use Rattle.mml_record.proofs.laws.an_accepted_reply_is_that_of_the_rules.Goals as goal

in_place : (e : Event) (done : Done) (r : Reply) (why : Refused) → r ≡ reply.Refuse why → may_refuse (rulings.Granted e done) why ≡ true
    → (r ≡ reply.Refuse refused.Journal) ⊎ (r ≡ reply.Refuse refused.Memory)
in_place e done r why is may = grind (arith, nat_tests)

pub returns-clause-granted : goal.returns-clause-granted
returns-clause-granted c = λ lab l first who command e done line r known is so h. elim h [
  | inl f ↦ let fits = rw so at (rw is at f).1 in elim fits [ inl plain ↦ inl plain | inr q ↦ inr (in_place e done r q.0 q.1 q.2) ]
  | inr m ↦ inr (inr m.0)
]
