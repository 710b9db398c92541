use Rattle.mml_laws.proofs.GreetedLemmas.{hall_again, hall_judged, hall_unknown}
use Rattle.mml_laws.proofs.laws.greetings.a_hall_answers_by_who_is_known.Goals as goal

pub returns : goal.returns
returns c = record { again = hall_again; judged = hall_judged; unknown = hall_unknown }
