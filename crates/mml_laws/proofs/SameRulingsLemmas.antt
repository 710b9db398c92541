-- If two labs agree in everything that a journal names, each command has the same ruling in both, and each hello the
-- same reply line.
use Rattle.std.proofs.{lemmas.Bool.Decides.nat_tests, Common.◌≡◌, Common.ℕ, Common.Bool, Common.◌&&◌, Common.◌||◌, Common.List, Common.Ok, Common.option_map, Common.refl, Common.arith}
use Rattle.mml_ids.specs.{Gives.◌>>=◌, Gives.◌>>◌, Gives.need, Ids.rank_in, Search.some_below}
use Rattle.mml_lab.specs.{declared.who.Who.Who, Rosters.RosterValue, Rosters.IsPrincipal, Rosters.owns, Labs.LabValue, Labs.IsLab}
use Rattle.mml_board.specs.{World.World, World.configuration, Clauses.check, Clauses.is_teacher, declared.denial.Denial.TheVariants.Hidden, declared.denial.Denial.TheVariants.NotOwner}
use Rattle.mml_policy.specs.declared.{command.Command.Command, verdict.Leave.TheVariants.See, verdict.Leave.TheVariants.Look}
use Rattle.mml_policy.specs.{Clauses.node, Clauses.rule_of, Visible.owns_neighbour, Verdicts.granted, Verdicts.clauses, Rulings.ruling}
use Rattle.mml_codec.specs.{Replies.reply_line}
use Rattle.mml_lab_file.specs.Sameness.{IsSameLab}
use Rattle.mml_laws.proofs.{SameLabsLemmas.name_alike, SameAuditsLemmas.owns_alike}
use Rattle.mml_board.specs.declared.act.Act.TheVariants as act
use Rattle.mml_policy.specs.declared.command.Command.TheVariants as command
use Rattle.mml_codec.specs.declared.reply.Reply.TheVariants as replies

-- the decision on a command depends on who owns which node, and on nothing else in a roster
module _ (ids : List ℕ) (r q : RosterValue) (same : owns r ≡ owns q) (w : World) (x : Who) where
  clauses_alike : (k : Command) → clauses ids r w x k ≡ clauses ids q w x k
  unfolding owns_neighbour
  clauses_alike (command.See id) =
      let c = configuration w in
      λ t. node ids id Hidden >>= (λ (i : ℕ). need (is_teacher x || same t x i || some_below c.size (λ j. c.linked i j && same t x j)) Hidden >> Ok (See i))
  clauses_alike (command.Look id) = λ t. node ids id NotOwner >>= (λ (i : ℕ). need (is_teacher x || same t x i) NotOwner >> Ok (Look i))
  clauses_alike command.Report = refl
  clauses_alike (command.Move id asked at) = λ t. granted (check (same t) w x (act.Move (rank_in ids id) (rule_of ids asked) at))
  clauses_alike command.Close = λ t. granted (check (same t) w x act.Close)
  clauses_alike (command.Fault id p m) = λ t. granted (check (same t) w x (act.Fault (rank_in ids id) (option_map (rank_in ids) p) m))
  clauses_alike (command.Link a b) = λ t. granted (check (same t) w x (act.Link (rank_in ids a) (rank_in ids b)))
  clauses_alike (command.Cut a b) = λ t. granted (check (same t) w x (act.Cut (rank_in ids a) (rank_in ids b)))
  clauses_alike (command.Release id) = λ t. granted (check (same t) w x (act.Release (rank_in ids id)))

-- each command has the same ruling in both labs
pub rulings_alike : (a b : LabValue) (limit : ℕ) (h : Bool) (w : World) (x : Who) (c : Command) → IsLab a → IsLab b → IsSameLab a b
    → ruling a.ids a.roster limit h w x c ≡ ruling b.ids b.roster limit h w x c
rulings_alike a b limit h w x c la lb is = grind (arith, nat_tests, clauses_alike, owns_alike)

-- a granted hello has the same reply line in both labs
pub hellos_alike : (a b : LabValue) (x : Who) → IsSameLab a b → IsPrincipal a.roster x
    → reply_line a.ids a.roster (replies.Hello x) ≡ reply_line b.ids b.roster (replies.Hello x)
hellos_alike a b x is here = grind (arith, nat_tests, name_alike)
