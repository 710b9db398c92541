-- The error of a link that repeats an earlier one.
use Rattle.std.proofs.lemmas.{Bool.Decides.nat_tests, Bool.cases_Bool, Bool.both_ways, Option.slice_get_within, Option.get_or_from_slice_get, Option.slice_get_read}
use Rattle.std.proofs.Common.{◌≡◌, ◌↔◌, ℕ, ℤ, ◌<◌, true, false, List, length, get_or, take, Option, Some, None, Ok, Err, refl, ◌∙◌, arith}
use Rattle.std.specs.{Prelude.option_map, Prelude.slice_get, Option.option_map_or}
use Rattle.std.proofs.lemmas.List.{get_or-take, length-take, length-take-le, Folds.list_any_at}
use Rattle.mml_ids.specs.{Gives.◌>>◌, Search.first_below}
use Rattle.mml_lab_file.specs.{Shape.RawSpec, LabMeaning.JoinNodes, LabMeaning.IsLinkAgain, LabMeaning.IsFirstLinkAgain}
use Rattle.mml_lab_file.specs.Reading.{is_linked, is_link_again, ends_fault, loops_fault, again_fault, pass_unless, linked}
use Rattle.mml_ids.proofs.{SearchLemmas.first-is, SearchLemmas.first-at, SearchLemmas.none-is, SearchLemmas.none-at, FindLemmas.list_any-found}
use Rattle.mml_lab_file.proofs.LabMeaningLemmas.{joins-means, join-means}
use Rattle.mml_lab.specs.declared.lab_fault.LabFault.TheVariants as fault

abbrev Link : Type 0
Link = ℤ × ℤ

again-means : (links : List Link) (k : ℕ) → (is_link_again links k ≡ true) ↔ IsLinkAgain links k
again-means links k = (there (slice_get links k) refl, back)
  where
    there : (o : Option Link) → slice_get links k ≡ o → option_map_or (λ link. is_linked (take k links) link.0 link.1) o false ≡ true → IsLinkAgain links k
    there None second holds = absurd cc
    there (Some again) second holds = grind (arith, list_any-found, length-take, get_or-take, slice_get_read, joins-means)

    back : IsLinkAgain links k → is_link_again links k ≡ true
    back twice =
        let before : twice.earlier < k = twice.before in
        let within : k < length links = slice_get_within links k twice.again twice.second in
        let short : length (take k links) ≡ k = length-take-le k links (omega arith) in
        let here : get_or (take k links) twice.earlier twice.link ≡ twice.link =
        get_or-take k links twice.earlier twice.link before ∙ get_or_from_slice_get links twice.earlier twice.link twice.link twice.first in
        grind (arith, nat_tests, list_any_at, joins-means)

not_again : (links : List Link) (k : ℕ) → (is_link_again links k ≡ false) ↔ (¬ IsLinkAgain links k)
not_again links k = grind (arith, both_ways, again-means, cases_Bool)

pub first-means : (links : List Link) (k : ℕ) → (first_below (is_link_again links) (length links) ≡ Some k) ↔ IsFirstLinkAgain links k
first-means links k = (
  λ found. let at = first-is (is_link_again links) (length links) k found in
      record { again = (again-means links k).0 at.1; first = λ j less. (not_again links j).0 (at.2 j less) },
  λ is. first-at (is_link_again links) (length links) k (slice_get_within links k is.again.again is.again.second) ((again-means links k).1 is.again)
      (λ j less. (not_again links j).1 (is.first j less)),
)

pub none_means : (links : List Link) → (first_below (is_link_again links) (length links) ≡ None) ↔ ((k : ℕ) → ¬ IsLinkAgain links k)
none_means links = (
  λ none k twice. both_ways (is_link_again links k) (none-is (is_link_again links) (length links) none k (slice_get_within links k twice.again twice.second))
      ((again-means links k).1 twice),
  λ never. none-at (is_link_again links) (length links) (λ k lt. (not_again links k).1 (never k)),
)

-- the tests of links end with the third error d exactly if the first two find none, and the third finds d
three_are : (a b c d : Option ℕ)
    → ((pass_unless (option_map fault.LinkEnd a) >> (pass_unless (option_map fault.Loop b) >> pass_unless (option_map fault.LinkTwice c)))
    ≡ pass_unless (option_map fault.LinkTwice d)) ↔ ((a ≡ None) × (b ≡ None) × (c ≡ d))
three_are a b c d = grind arith

tests-mean : (raw : RawSpec) (d : Option ℕ) {P : Type 0} → (first_below (is_link_again raw.links) (length raw.links) ≡ d) ↔ P
    → (linked raw.nodes raw.links ≡ pass_unless (option_map fault.LinkTwice d)) ↔ (JoinNodes raw × P)
unfolding linked ends_fault loops_fault again_fault
tests-mean raw d means =
    let three = three_are _ _ (first_below (is_link_again raw.links) (length raw.links)) d in (
      λ e. let none = three.0 e in ((join-means raw).0 (none.0, none.1), means.0 none.2),
      λ is. let none = (join-means raw).1 is.0 in three.1 (none.0, none.1, means.1 is.1),
    )

-- the error is `LinkTwice k` exactly if all links join different nodes, and link k is the first that repeats an earlier
-- one
pub twice_fault : (raw : RawSpec) (k : ℕ) → (linked raw.nodes raw.links ≡ Err (fault.LinkTwice k)) ↔ (JoinNodes raw × IsFirstLinkAgain raw.links k)
twice_fault raw k = tests-mean raw (Some k) (first-means raw.links k)

-- the links have no error exactly if they all join different nodes, and none of them repeats an earlier one
pub twice_none : (raw : RawSpec) → (linked raw.nodes raw.links ≡ Ok tt) ↔ (JoinNodes raw × ((k : ℕ) → ¬ IsLinkAgain raw.links k))
twice_none raw = tests-mean raw None (none_means raw.links)
