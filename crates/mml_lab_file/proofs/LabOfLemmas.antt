-- Which bytes describe a lab, and that the error of a file is never that memory ran out.
use Rattle.std.proofs.Common.{◌≡◌, ◌≢◌, ◌↔◌, ℕ, List, length, Option, Some, Ok, arith, false}
use Rattle.std.specs.Prelude.{option_map, IfSome}
use Rattle.mml_ids.specs.{Search.first_below, Ids.id_fault, declared.id_table.IdFault.IdFault, Ids.is_id_memory}
use Rattle.mml_ids.proofs.GivesLemmas.{bind-ok, bind-from}
use Rattle.mml_lab_file.specs.{Shape.RawSpec, LabMeaning.IsLabOfFile, LabMeaning.IsFirstLinkAgain}
use Rattle.mml_lab.specs.Labs.{LabValue}
use Rattle.mml_lab_file.specs.Reading.{file_ids, is_link_again, ids_fault, again_fault, lab_fault, lab_of}
use Rattle.mml_lab_file.proofs.{LabErrorsLemmas.told_in_order, LabFaultLemmas.made, LabFaultLemmas.makes, LinksFaultLemmas.first-means}
use Rattle.mml_ids.specs.declared.id_table.IdFault.TheVariants as id
use Rattle.mml_lab.specs.declared.lab_fault.LabFault.TheVariants as fault

-- `lab_of` returns a lab exactly if the bytes have the contents of a file without an error, and the lab is the file's
pub of_file : (bytes : List ℕ) (lab : LabValue) → (lab_of bytes ≡ Ok lab) ↔ ((raw : RawSpec) × IsLabOfFile bytes raw lab)
unfolding lab_of
of_file bytes lab = grind (arith, bind-ok, made, bind-from, makes)

of_ids : (ns : List ℕ) → IfSome (id_fault ns) (λ f. is_id_memory f ≡ false)
of_ids ns = grind arith

-- the error of a file is never that memory ran out in the test of its identifiers
pub no_memory_of_ids : (raw : RawSpec) → lab_fault raw ≢ Some (fault.Id id.Memory)
unfolding ids_fault
no_memory_of_ids raw is = by (id_fault (file_ids raw.nodes)) (of_ids (file_ids raw.nodes)) (told_in_order raw (fault.Id id.Memory) is).here
  where
    by : (o : Option IdFault) → IfSome o (λ f. is_id_memory f ≡ false) → Some (option_map fault.Id o) ≡ Some (Some (fault.Id id.Memory)) → ⊥
    by o tells here = grind arith

-- the error of a file is never that memory ran out
pub no_memory : (raw : RawSpec) → lab_fault raw ≢ Some fault.Memory
no_memory raw is = let here = (told_in_order raw fault.Memory is).here in absurd cc

-- if the error of a file is `LinkTwice k`, then k is the first link that repeats an earlier one
pub twice_told : (raw : RawSpec) (k : ℕ) → lab_fault raw ≡ Some (fault.LinkTwice k) → IsFirstLinkAgain raw.links k
unfolding again_fault
twice_told raw k is = by (first_below (is_link_again raw.links) (length raw.links)) ((first-means raw.links k).0) (told_in_order raw (fault.LinkTwice k) is).here
  where
    by : (o : Option ℕ) → (o ≡ Some k → IsFirstLinkAgain raw.links k) → Some (option_map fault.LinkTwice o) ≡ Some (Some (fault.LinkTwice k)) → IsFirstLinkAgain raw.links k
    by o means here = grind arith
