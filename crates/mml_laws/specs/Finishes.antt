-- A script that asks for the events that are missing to finish a run. A world is the state of a run after some events:
-- its network and its chosen moves.
use Rattle.std.specs.{Prelude.◌≡◌, Prelude.ℕ, Prelude.◌≤◌, Prelude.Bool, Prelude.true, Prelude.List, Prelude.[], Prelude.◌∷◌, Prelude.length, List.list_all, List.AllByRecursion}
use Rattle.mml_rules.specs.Matching.{IsStable}
use Rattle.mml_lab.specs.{declared.who.Who.Who, Labs.LabValue, Rosters.name_of, Rosters.key_of}
use Rattle.mml_board.specs.{declared.event.Event.Event, World.World, World.configuration, Events.after, Runs.world_of}
use Rattle.mml_policy.specs.Asking.{asker, command_of}
use Rattle.mml_convergence.specs.Rest.{is_grant_or_close}
use Rattle.mml_codec.specs.{declared.reply.Reply.Reply, declared.request.Request.Request, Canonical.canonical}
use Rattle.mml_hall.specs.{Turns.State, Turns.RequestLine, Turns.Run, Turns.is_grant, ScriptLines.IsScriptLine}
use Rattle.mml_codec.specs.declared.reply.Reply.TheVariants as reply
use Rattle.mml_codec.specs.declared.request.Request.TheVariants as requests

-- the request as a line on connection 1
abbrev pub line_for : Request → RequestLine
line_for q = record { connection = 1; request = canonical q }

-- the hello of a participant
abbrev pub hello_of : LabValue → Who → Request
hello_of lab who = requests.Hello (name_of lab.roster who) (key_of lab.roster who)

-- the lines that ask for the events from a world on. For each event these are a bye, the hello of the participant who
-- may ask for it, and the command
abbrev pub asking_lines : LabValue → World → List Event → List RequestLine
asking_lines lab w [] = []
asking_lines lab w (e ∷ es) =
    line_for requests.Bye ∷ line_for (hello_of lab (asker e)) ∷ line_for (requests.Do (command_of lab.ids w e)) ∷ asking_lines lab (after w e) es

-- the reply to a bye, to a hello that is accepted, or to an event that is granted
abbrev pub is_granted : Reply → Bool
is_granted (reply.Hello who) = true
is_granted reply.Bye = true
is_granted r = is_grant r

-- A script that asks for at most n grants and closes from this state on. Each of its lines can be a line of a script,
-- and is granted. All the events happen, and no node is privileged at the end
pub record FinishesByAsking (lab : LabValue) (st : State) (n : ℕ) (es : List Event) (rs : List Reply) (end : State) : Type 0 where
  pub few : length es ≤ n
  pub forward : list_all is_grant_or_close es ≡ true
  pub may_come : AllByRecursion (IsScriptLine lab.sessions) (asking_lines lab st.world es)
  pub run : Run lab st (asking_lines lab st.world es) rs end
  pub granted : list_all is_granted rs ≡ true
  pub world : end.world ≡ world_of st.world es
  pub stable : IsStable (configuration end.world)
