use Rattle.std.proofs.Common.{◌≡◌, map, not, false, rules, arith}
use Rattle.mml_lab.specs.{AccountView.account_view, Rosters.is_account}
use Rattle.mml_ids.proofs.MapLemmas.{position-map, position-first, position-later}
use Rattle.mml_lab_file.proofs.forms.first_malformed.Goals as goal

pub returns-then-not-is_account : goal.returns-then-not-is_account
returns-then-not-is_account c = grind (arith, position-first)

pub returns : goal.returns
returns c =
    let good : not (is_account (account_view c.args.teacher.now)) ≡ false = search rules in
    rw (
      position-later (λ a. not (is_account a)) (account_view c.args.teacher.now) (map account_view c.args.students.now) good,
      ← position-map (λ a. not (is_account a)) account_view c.args.students.now,
    ) (search rules)
