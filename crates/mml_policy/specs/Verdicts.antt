-- The decision on a command: its clauses in the order in which they are tried, and what is granted if all hold.
use Rattle.std.specs.Prelude.{ℕ, ◌||◌, List, option_map, Result, Ok, Err}
use Rattle.mml_ids.specs.{Gives.◌>>=◌, Gives.◌>>◌, Gives.need, Ids.rank_in}
use Rattle.mml_lab.specs.{declared.who.Who.Who, Rosters.RosterValue, Rosters.owns}
use Rattle.mml_board.specs.declared.{event.Event.Event, denial.Denial.Denial, denial.Denial.TheVariants.Hidden, denial.Denial.TheVariants.NotOwner, denial.Denial.TheVariants.NotTeacher}
use Rattle.mml_board.specs.{World.World, World.configuration, Clauses.check}
use Rattle.mml_policy.specs.{declared.command.Command.Command, Visible.is_teacher, Visible.is_visible, Clauses.node, Clauses.rule_of}
use Rattle.mml_policy.specs.declared.verdict.{Verdict.Verdict, Leave.Leave, Leave.TheVariants.See, Leave.TheVariants.Look, Leave.TheVariants.Report, Leave.TheVariants.Grant}
use Rattle.mml_board.specs.declared.act.Act.TheVariants as act
use Rattle.mml_policy.specs.declared.command.Command.TheVariants as command
use Rattle.mml_policy.specs.declared.verdict.Verdict.TheVariants as verdicts

-- the permission for the event that the clauses allow, or their denial
abbrev pub granted : Result Event Denial → Result Leave Denial
granted (Ok e) = Ok (Grant e)
granted (Err d) = Err d

-- the clauses of each command, in the order in which they are tried, and what the command may do if all hold; for an
-- act, `check` of `mml_board` defines the clauses
abbrev pub clauses : List ℕ → RosterValue → World → Who → Command → Result Leave Denial
clauses ids r w x (command.See id) = do
  i ← node ids id Hidden
  need (is_visible r (configuration w) x i) Hidden
  Ok (See i)
clauses ids r w x (command.Look id) = do
  i ← node ids id NotOwner
  need (is_teacher x || owns r x i) NotOwner
  Ok (Look i)
clauses ids r w x command.Report = do
  need (is_teacher x) NotTeacher
  Ok Report
clauses ids r w x (command.Move id asked at) = granted (check (owns r) w x (act.Move (rank_in ids id) (rule_of ids asked) at))
clauses ids r w x command.Close = granted (check (owns r) w x act.Close)
clauses ids r w x (command.Fault id p m) = granted (check (owns r) w x (act.Fault (rank_in ids id) (option_map (rank_in ids) p) m))
clauses ids r w x (command.Link a b) = granted (check (owns r) w x (act.Link (rank_in ids a) (rank_in ids b)))
clauses ids r w x (command.Cut a b) = granted (check (owns r) w x (act.Cut (rank_in ids a) (rank_in ids b)))
clauses ids r w x (command.Release id) = granted (check (owns r) w x (act.Release (rank_in ids id)))

-- the verdict, given the result of the clauses: what the command may do, or its denial
abbrev pub settled : Result Leave Denial → Verdict
settled (Ok (See i)) = verdicts.Show
settled (Ok (Look i)) = verdicts.Show
settled (Ok Report) = verdicts.Show
settled (Ok (Grant e)) = verdicts.Grant e
settled (Err d) = verdicts.Deny d

-- `Deny` with the denial of the first clause that doesn't hold; if all hold, `Grant` with the event that the command
-- asks for, or `Show` if it asks to be shown something
abbrev pub verdict : List ℕ → RosterValue → World → Who → Command → Verdict
verdict ids r w x c = settled (clauses ids r w x c)
