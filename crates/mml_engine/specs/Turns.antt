-- The turn of one line: its reply, and the states before and after it. The first argument of these definitions
-- describes how an engine answers commands. A participant is known on a connection from a granted hello to the bye.
use Rattle.std.specs.Prelude.{◌≡◌, ◌⊎◌, ℕ, List, Option, Result, Ok, Err}
use Rattle.mml_lab.specs.{declared.who.Who.Who, Rosters.RosterValue}
use Rattle.mml_policy.specs.declared.command.Command.{Command}
use Rattle.mml_codec.specs.{declared.request.LineFault.LineFault, declared.request.Request.Request, declared.reply.Reply.Reply, Greetings.greeting, Greetings.refusal_of, Lines.request_in}
use Rattle.mml_codec.specs.declared.greeting.Greeting.{Greeting, TheVariants.Answered, TheVariants.LeftToJudge}
use Rattle.mml_codec.specs.declared.reply.Refused.TheVariants as refused
use Rattle.mml_codec.specs.declared.reply.Reply.TheVariants as reply

-- the result of a request: if it is a command to judge, the engine answers it; otherwise the rules of greeting give the
-- reply, and the engine stays as it was
abbrev pub Settles : {E V : Type 0} → (E → V → Who → Command → Reply → E → V → Type 0) → Option Who → E → V → Greeting → Reply → Option Who → E → V → Type 0
Settles tells known e v (Answered r x) r' known' e' v' = (r' ≡ r) × (known' ≡ x) × (e' ≡ e) × (v' ≡ v)
Settles tells known e v (LeftToJudge who c) r' known' e' v' = (known' ≡ known) × tells e v who c r' e' v'

-- nothing changes: neither who is known, nor the engine
abbrev pub Stays : {E V : Type 0} → Option Who → E → V → Option Who → E → V → Type 0
Stays known e v known' e' v' = (known' ≡ known) × (e' ≡ e) × (v' ≡ v)

-- the result of a line from which a request was read, or of a line with a fault
abbrev pub Asked : {E V : Type 0} → (E → V → Who → Command → Reply → E → V → Type 0) → RosterValue → Option Who → E → V → Result Request LineFault → Reply
    → Option Who → E → V → Type 0
Asked tells roster known e v (Err fault) r known' e' v' = (r ≡ reply.Refuse (refusal_of fault)) × Stays known e v known' e' v'
Asked tells roster known e v (Ok request) r known' e' v' = Settles tells known e v (greeting roster known request) r known' e' v'

-- the turn of a line: the result of its request or fault, or the refusal that memory ran out while it was read
abbrev pub Turn : {E V : Type 0} → (E → V → Who → Command → Reply → E → V → Type 0) → RosterValue → Option Who → E → V → List ℕ → Reply → Option Who → E → V
    → Type 0
Turn tells roster known e v line r known' e' v' =
    Asked tells roster known e v (request_in line) r known' e' v' ⊎ ((r ≡ reply.Refuse refused.Memory) × Stays known e v known' e' v')
