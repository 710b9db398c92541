-- The lines that the program prints about a lab, and about a journal that passes the audit. A world is the state of a
-- run after some events: its network and its chosen moves.
use Rattle.std.specs.Prelude.{◌≡◌, ℕ, ◌==◌, Bool, true, false, List, [], ◌∷◌, length, codes, decimal, Option, Ok}
use Rattle.std.specs.{List.concat, Io.KnownBytes.Appends}
use Rattle.mml_lab.specs.Labs.{LabValue, link_count}
use Rattle.mml_board.specs.World.{World, configuration, privileged_count}
use Rattle.mml_audit.specs.Audit.{audited}

-- the line with the numbers of nodes, links and students
abbrev pub size_line : ℕ → ℕ → ℕ → List ℕ
size_line nodes links students =
    concat (codes "ok: " ∷ decimal nodes ∷ codes " nodes, " ∷ decimal links ∷ codes " links, " ∷ decimal students ∷ codes " students\n" ∷ [])

-- the line with the size of a lab
abbrev pub lab_line : LabValue → List ℕ
lab_line lab = size_line (length lab.ids) (link_count lab.network) (length lab.roster.students)

-- the end of a line, which says whether the configuration is stable, that is, whether no node is privileged
abbrev pub stability_text : Bool → List ℕ
stability_text true = codes ", stable\n"
stability_text false = codes ", not stable\n"

-- the line with the number of events, the number of the configuration, and whether this is stable
abbrev pub world_line : World → List ℕ
world_line w =
    concat (codes "ok: " ∷ decimal w.place ∷ codes " events, configuration " ∷ decimal w.number ∷ stability_text (privileged_count (configuration w) == 0) ∷ [])

-- the bytes pass the audit, and what was printed shows the world that they lead to
pub record TellsAudited (lab : LabValue) (bytes : List ℕ) (wrote wrote' : Option (List ℕ)) : Type 0 where
  pub world : World
  pub passes : audited lab bytes ≡ Ok world
  pub told : Appends wrote wrote' (world_line world)
