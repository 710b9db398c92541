-- The participant that a connection is known as, and the replies that depend only on this participant and the request.
-- A participant is known on a connection from a granted hello to the bye.
use Rattle.std.specs.Prelude.{ℕ, List, Option, None, Some, IfSome}
use Rattle.mml_lab.specs.{declared.who.Who.Who, Rosters.RosterValue, Rosters.principal, Rosters.IsPrincipal}
use Rattle.mml_board.specs.declared.denial.Denial.{Denial}
use Rattle.mml_codec.specs.{declared.request.LineFault.LineFault, declared.request.Request.Request, declared.reply.Refused.Refused, declared.reply.Reply.Reply, Replies.IsAbout}
use Rattle.mml_codec.specs.declared.greeting.{Greeted.Greeted, Greeting.Greeting, Greeting.TheVariants.Answered, Greeting.TheVariants.LeftToJudge}
use Rattle.mml_board.specs.declared.denial.Denial.TheVariants as denial
use Rattle.mml_codec.specs.declared.request.LineFault.TheVariants as fault
use Rattle.mml_codec.specs.declared.request.Request.TheVariants as requests
use Rattle.mml_codec.specs.declared.reply.Refused.TheVariants as refused
use Rattle.mml_codec.specs.declared.reply.Reply.TheVariants as replies
use Rattle.mml_codec.specs.declared.greeting.Greeted.TheVariants as greeted

-- the refusal of a line from which no request was read
abbrev pub refusal_of : LineFault → Refused
refusal_of fault.Malformed = refused.Malformed
refusal_of fault.Memory = refused.Memory

-- a denial, after which the connection is known as before
abbrev pub denied : Denial → Option Who → Greeting
denied d known = Answered (replies.Deny d) known

-- the result of a hello while nobody is known: granted if a participant has its name and key, and otherwise denied
abbrev pub admitted : Option Who → Greeting
admitted None = denied denial.Unknown None
admitted (Some who) = Answered (replies.Hello who) (Some who)

-- the result of a request on a connection that is known as a participant or as no one
abbrev pub greeting : RosterValue → Option Who → Request → Greeting
greeting roster None (requests.Hello name key) = admitted (principal roster name key)
greeting roster (Some who) (requests.Hello name key) = denied denial.Greeted (Some who)
greeting roster known requests.Bye = Answered replies.Bye None
greeting roster None (requests.Do c) = denied denial.NotGreeted None
greeting roster (Some who) (requests.Do c) = LeftToJudge who c

-- the result of a request, made of a result without a reply and of its reply; a command that is left to judge has no
-- reply yet
abbrev pub greeting_with : Greeted → Reply → Greeting
greeting_with (greeted.Known known) r = Answered r known
greeting_with (greeted.LeftToJudge who c) r = LeftToJudge who c

-- the participant that a reply names, and the one that is known after it, take part in the lab
abbrev pub TakesPart : RosterValue → Greeting → Type 0
TakesPart roster (Answered r known) = ((ids : List ℕ) → IsAbout ids roster r) × IfSome known (IsPrincipal roster)
TakesPart roster (LeftToJudge who c) = IsPrincipal roster who
