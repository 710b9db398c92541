-- What holds of a file without an error.
use Rattle.std.proofs.Common.{◌≡◌, ◌≤◌, zero, true, not, [], ◌∷◌, length, Some, None, Ok, Err, sym, ap, ◌∙◌, arith}
use Rattle.std.{specs.List.position, proofs.lemmas.Bool.ltb-false, proofs.lemmas.Bool.not-false}
use Rattle.mml_ids.specs.{Search.first_below, Ids.id_fault}
use Rattle.mml_ids.proofs.GivesLemmas.{bind-ok, if_none, map_none, both_none}
use Rattle.mml_lab.specs.declared.{TheConstants.MAX_EVENTS, TheConstants.MAX_SESSIONS, TheConstants.MAX_STUDENTS, lab_fault.LabFault.LabFault}
use Rattle.mml_lab_file.specs.{Shape.NodeSpec, Shape.RawSpec}
use Rattle.mml_lab.specs.{Rosters.is_account, Labs.LabValue}
use Rattle.mml_lab_file.specs.Reading.{name_twice, file_ids, lacks_owner, lacks_end, is_loop, is_link_again, points_at_unlinked, is_within, are_one_twice, both_fault, ids_fault, forms_fault}
use Rattle.mml_lab_file.specs.Reading.{no_owner_fault, owner_twice_fault, ends_fault, loops_fault, again_fault, pointers_fault, checked, error_of, lab_fault, lab_in, lab_from}
use Rattle.mml_lab_file.proofs.LabErrorsLemmas.{first_error}

pub record IsFaultless (raw : RawSpec) : Type 0 where
  pub ids : id_fault (file_ids raw.nodes) ≡ None
  pub forms : position (λ a. not (is_account a)) (raw.teacher ∷ raw.students) ≡ None
  pub names : name_twice (raw.teacher ∷ raw.students) ≡ None
  pub owners : position (lacks_owner raw.students) raw.nodes ≡ None
  pub apart : position (λ (node : NodeSpec). are_one_twice node.owners) raw.nodes ≡ None
  pub ends : position (lacks_end raw.nodes) raw.links ≡ None
  pub loops : position is_loop raw.links ≡ None
  pub once : first_below (is_link_again raw.links) (length raw.links) ≡ None
  pub pointers : position (points_at_unlinked raw.links) raw.nodes ≡ None
  pub events : is_within MAX_EVENTS raw.events ≡ true
  pub sessions : is_within MAX_SESSIONS raw.sessions ≡ true
  pub students : length raw.students ≤ MAX_STUDENTS

-- a file without an error passes every test
pub faultless : (raw : RawSpec) → lab_fault raw ≡ None → IsFaultless raw
unfolding both_fault ids_fault forms_fault no_owner_fault owner_twice_fault ends_fault loops_fault again_fault pointers_fault
faultless raw none = let all = sym (first_error raw) ∙ none in grind (arith, both_none, map_none, not-false, ltb-false, if_none)

-- if `lab_from` returns a lab, the file has no error, and the lab is the file's
pub made : (raw : RawSpec) (lab : LabValue) → lab_from raw ≡ Ok lab → (lab_fault raw ≡ None) × (lab_in raw ≡ lab)
unfolding lab_from
made raw lab is = let passed = bind-ok (checked raw) (λ _. Ok (lab_in raw)) lab is in let same : lab_in raw ≡ lab = cc in (ap error_of passed.1, same)

pub makes : (raw : RawSpec) → lab_fault raw ≡ None → lab_from raw ≡ Ok (lab_in raw)
unfolding lab_from
makes raw = grind arith

-- if `lab_from` returns an error, it is the file's first error
pub refuses : (raw : RawSpec) (f : LabFault) → lab_from raw ≡ Err f → lab_fault raw ≡ Some f
unfolding lab_from
refuses raw f = grind arith
