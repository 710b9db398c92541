-- The reply to a greeting. The place of an event is its number in the list of events, from 1.
use Rattle.std.proofs.Common.{◌≡◌, true, [], refl, Option}
use Rattle.mml_lab.specs.{declared.who.Who.Who, Rosters.RosterValue}
use Rattle.mml_codec.specs.declared.{request.Request.Request, greeting.Greeting.Greeting, greeting.Greeting.TheVariants.Answered, greeting.Greeting.TheVariants.LeftToJudge}
use Rattle.mml_codec.specs.{Greetings.greeting, Replies.is_short}
use Rattle.mml_engine.proofs.TurnsLemmas.{by_greeting}
use Rattle.mml_session.specs.Turns.{places_in, halts_in}

-- the reply of a greeting is short, names no place, and isn't the refusal `journal`
abbrev pub IsPlain : Greeting → Type 0
IsPlain (Answered reply known) = (is_short reply ≡ true) × (places_in reply ≡ []) × (halts_in reply ≡ 0)
IsPlain (LeftToJudge who c) = Unit {0}

-- each reply that the rules of greeting give is short, names no place, and isn't the refusal `journal`
pub plain_greeting : (r : RosterValue) (known : Option Who) (request : Request) → IsPlain (greeting r known request)
plain_greeting r known request = by_greeting IsPlain (λ who. (refl, refl, refl)) (refl, refl, refl) r known request (λ d. (refl, refl, refl)) (λ who c by asked. tt)
