-- The clauses of each act, in the order in which they are tried. Which events are possible or legal, which requests are
-- granted, and which are denied for which reason is all defined by these clauses.
use Rattle.std.specs.Prelude.{ℕ, Bool, true, false, not, ◌==◌, nat_lt, Option, None, Some, is_some, is_none, option_map, if◌then◌else◌, Result, Ok, Err}
use Rattle.std.specs.{List.list_any, Option.ok_or}
use Rattle.mml_ids.specs.Gives.{◌>>=◌, ◌>>◌, need}
use Rattle.mml_rules.specs.{Configuration.Configuration, Rules.guard}
use Rattle.mml_lab.specs.declared.who.Who.{Who}
use Rattle.mml_board.specs.{declared.act.Act.Act, declared.denial.Denial.Denial, declared.event.Event.Event, World.World, World.size, World.configuration, World.chosen_at}
use Rattle.mml_board.specs.declared.denial.Denial.TheVariants.{NotOwner, Stale, Chosen, Guard, NotTeacher, Empty, NoNode, BadRegister, Loop, Linked, NotLinked, NotChosen}
use Rattle.mml_lab.specs.declared.who.Who.TheVariants as who
use Rattle.mml_board.specs.declared.act.Act.TheVariants as act
use Rattle.mml_board.specs.declared.event.Event.TheVariants as event

-- ---- what the clauses test

-- x is the teacher
abbrev pub is_teacher : Who → Bool
is_teacher who.Teacher = true
is_teacher (who.Student s) = false

-- i is one of the world's nodes
abbrev pub is_node : World → ℕ → Bool
is_node w i = nat_lt i (size w)

-- p is null or a neighbour
abbrev pub may_point : Configuration → ℕ → Option ℕ → Bool
may_point c i None = true
may_point c i (Some j) = c.linked i j

-- i has a chosen move
abbrev pub is_chosen : World → ℕ → Bool
is_chosen w i = is_some (chosen_at w.chosen i)

-- some node has a chosen move
abbrev pub is_any_chosen : World → Bool
is_any_chosen w = list_any is_some w.chosen

-- the student who asks, or the denial if the teacher asks
abbrev pub student : Who → Denial → Result ℕ Denial
student who.Teacher d = Err d
student (who.Student s) d = Ok s

-- null if p is null, otherwise the node that p names, or the denial if p names no node
abbrev pub pointer : Option (Option ℕ) → Denial → Result (Option ℕ) Denial
pointer None d = Ok None
pointer (Some found) d = do
  j ← ok_or found d
  Ok (Some j)

-- ---- the clauses

-- the event of the act if all its clauses hold for the asker x, and otherwise the denial of the first that doesn't;
-- `owned` says who owns which node
abbrev pub check : (Who → ℕ → Bool) → World → Who → Act → Result Event Denial
check owned w x (act.Move node rule at) = do
  s ← student x NotOwner
  i ← ok_or node NotOwner
  need (owned x i) NotOwner
  need (at == w.number) (Stale w.number)
  need (is_none (chosen_at w.chosen i)) Chosen
  q ← ok_or rule Guard
  need (guard (configuration w) i q) Guard
  Ok (event.Grant s i q)
check owned w x act.Close = do
  need (is_teacher x) NotTeacher
  need (is_any_chosen w) Empty
  Ok event.Close
check owned w x (act.Fault node p m) = do
  need (is_teacher x) NotTeacher
  i ← ok_or node NoNode
  q ← pointer p BadRegister
  need (may_point (configuration w) i q) BadRegister
  Ok (event.Fault i (record { p = q; m = m }))
check owned w x (act.Link first second) = do
  need (is_teacher x) NotTeacher
  a ← ok_or first NoNode
  b ← ok_or second NoNode
  need (not (a == b)) Loop
  need (not ((configuration w).linked a b)) Linked
  Ok (event.Link a b)
check owned w x (act.Cut first second) = do
  need (is_teacher x) NotTeacher
  a ← ok_or first NoNode
  b ← ok_or second NoNode
  need ((configuration w).linked a b) NotLinked
  Ok (event.Cut a b)
check owned w x (act.Release node) = do
  need (is_teacher x) NotTeacher
  i ← ok_or node NoNode
  need (is_chosen w i) NotChosen
  Ok (event.Release i)

-- ---- the act that asks for an event

-- the node, if the world has it
abbrev pub node_in : World → ℕ → Option ℕ
node_in w i = if is_node w i then Some i else None

-- who asks for an event: the student of a move, and the teacher for any other event
abbrev pub asker : Event → Who
asker (event.Grant s i q) = who.Student s
asker (event.Release i) = who.Teacher
asker event.Close = who.Teacher
asker (event.Fault i registers) = who.Teacher
asker (event.Link a b) = who.Teacher
asker (event.Cut a b) = who.Teacher

-- the act that asks for an event; a move is asked for in the current configuration
abbrev pub act_of : World → Event → Act
act_of w (event.Grant s i q) = act.Move (node_in w i) (Some q) w.number
act_of w (event.Release i) = act.Release (node_in w i)
act_of w event.Close = act.Close
act_of w (event.Fault i registers) = act.Fault (node_in w i) (option_map (node_in w) registers.p) registers.m
act_of w (event.Link a b) = act.Link (node_in w a) (node_in w b)
act_of w (event.Cut a b) = act.Cut (node_in w a) (node_in w b)

-- everybody owns every node
abbrev pub anybodys : Who → ℕ → Bool
anybodys x i = true
