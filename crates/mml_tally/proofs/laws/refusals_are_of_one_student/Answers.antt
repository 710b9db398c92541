use Rattle.mml_policy.specs.declared.refusal.Refusal.{Refusal}
use Rattle.mml_policy.specs.declared.refusal.Refusal.TheVariants as refusal
use Rattle.mml_tally.specs.Refusals.{is_refused}
use Rattle.mml_tally.proofs.AsksLemmas.{asks_sum}
use Rattle.mml_tally.proofs.laws.refusals_are_of_one_student.Goals as goal

pub returns : goal.returns
returns c =
    let sum = λ (k : Refusal). asks_sum (λ a. is_refused k a.refused) in
    record { journal = sum refusal.Journal; memory = sum refusal.Memory; full = sum refusal.Full }
