use Rattle.std.proofs.Common.{◌≡◌, ◌∙◌, ◌<◌, ◌≤◌, ◌⊎◌, inl, inr, map, length, ap, sym, arith}
use Rattle.std.proofs.lemmas.{Bool.cases_lt, List.get_or_default, List.length-map}
use Rattle.mml_ids.specs.inside.WordsLemmas.{has_empty}
use Rattle.mml_lab.specs.{AccountView.entry_account, inside.Owned.row_at, inside.RosterView.roster_view, Rosters.owns}
use Rattle.mml_lab.proofs.OwnedLemmas.{owned_by}
use Rattle.std.specs.FinSet as sets
use Rattle.mml_lab.proofs.roster.Roster.owned.Goals as goal

pub returns-in-Teacher : goal.returns-in-Teacher
returns-in-Teacher c = grind (arith, has_empty)

pub returns-in-Student : goal.returns-in-Student
returns-in-Student c =
    let a = c.self.inside in
    let at = c.min.result in
    let students = length (map entry_account a.students.entries) in
    let many : c.len.result ≡ students = c.len.ensures.len ∙ sym (length-map a.students.entries entry_account) in
    let s : c.from.result ≡ c.in-Student.student = c.from.ensures ∙ c.index.ensures in
    let within : at < length a.owned.items = omega (arith, c.min.ensures, many, c.self.invariant.rows.count) in
    let row : c.index-in-Student.result.now ≡ row_at a.owned.items at = c.index-in-Student.ensures ∙ sym (get_or_default a.owned.items at sets.empty
    c.index-in-Student.result.now within) in
    let at_row : ((c.in-Student.student ≤ students) × (at ≡ c.in-Student.student)) ⊎ ((students ≤ c.in-Student.student) × (at ≡ students)) =
    elim (cases_lt c.in-Student.student students) [
      | inl below ↦ inl (omega (arith, below), omega (arith, below, c.min.ensures, many, s))
      | inr past ↦ inr (past, omega (arith, past, c.min.ensures, many, s))
    ] in
    λ i.
    ap (λ r. sets.contains r i) row
    ∙ owned_by students c.in-Student.student at i (roster_view a).owners a.owned.items c.self.invariant.rows c.self.invariant.lawful.owned at_row
    ∙ (λ t. owns (c.self.view_is t) (sym c.in-Student.is t) i)
