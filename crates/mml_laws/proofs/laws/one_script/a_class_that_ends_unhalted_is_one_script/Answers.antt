use Rattle.mml_laws.proofs.{OneScriptServedLemmas.unhalted_server, ClassesLemmas.unhalted_class}
use Rattle.mml_laws.proofs.laws.one_script.a_class_that_ends_unhalted_is_one_script.Goals as goal

pub returns-clause-class : goal.returns-clause-class
returns-clause-class g c = unhalted_class

pub returns-clause-resumed : goal.returns-clause-resumed
returns-clause-resumed g c = λ lab old first given sink remaining contents recorded shows to_desk to_come wrote now house r.
    unhalted_class r.begun given lab sink remaining contents recorded shows to_desk to_come house r.hosts

pub returns-clause-server : goal.returns-clause-server
returns-clause-server g c = λ lab sink remaining contents. unhalted_server lab remaining contents sink
