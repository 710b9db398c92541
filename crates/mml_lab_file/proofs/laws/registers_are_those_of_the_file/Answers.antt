use Rattle.std.proofs.Common.{ap, arith}
use Rattle.mml_rules.specs.declared.regs.Regs.{Regs}
use Rattle.mml_lab_file.specs.Reading.{lab_in, network_in}
use Rattle.mml_lab_file.proofs.{LabFaultLemmas.faultless, LabMeaningLemmas.registers_are, LabMeaningLemmas.p_is}
use Rattle.mml_lab_file.proofs.laws.registers_are_those_of_the_file.Goals as goal

pub returns-clause-m : goal.returns-clause-m
unfolding lab_in network_in
returns-clause-m c = λ raw i node none at. ap (λ (r : Regs). r.m) (registers_are raw (faultless raw none) i node at.within at.stands at.named)

pub returns-clause-null : goal.returns-clause-null
unfolding lab_in network_in
returns-clause-null c = λ raw i node none at null. let same = registers_are raw (faultless raw none) i node at.within at.stands at.named in grind arith

pub returns-clause-p : goal.returns-clause-p
unfolding lab_in network_in
returns-clause-p c = λ raw i node z none at. p_is raw (faultless raw none) i node at.within at.stands at.named z
