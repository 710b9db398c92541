use Rattle.mml_laws.proofs.{OneScriptServedLemmas.server_script, ClassesLemmas.class_script}
use Rattle.mml_laws.proofs.laws.one_script.a_class_is_one_script.Goals as goal

pub returns-clause-class : goal.returns-clause-class
returns-clause-class g c = class_script

pub returns-clause-server : goal.returns-clause-server
returns-clause-server g c = λ lab sink remaining contents. server_script lab remaining contents sink
