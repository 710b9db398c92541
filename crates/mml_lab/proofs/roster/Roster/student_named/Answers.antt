use Rattle.std.proofs.Common.{◌≡◌, ◌∙◌, ap, rules}
use Rattle.mml_lab.specs.Rosters.{RosterValue, student_named}
use Rattle.mml_lab.proofs.StudentNamedLemmas.{search_same, whoever_is}
use Rattle.mml_lab.proofs.roster.Roster.student_named.Goals as goal

pub returns : goal.returns
returns c =
    let mapped : c.map.result ≡ c.get_index_of-index.result = search rules in
    let found : c.map.result ≡ student_named c.args.self.now c.args.name.now =
    search_same c.args.self.now c.args.name.now c.self.inside.students.entries _
    (ap (λ (r : RosterValue). r.students) c.self.view_is) (mapped ∙ c.get_index_of-index.ensures.index) in
    let known = whoever_is c.args.self.now c.args.name.now c.map.result found in
    record { value = found; member = known.0; back = known.1 }
