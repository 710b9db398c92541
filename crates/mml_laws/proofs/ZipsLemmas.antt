-- Two lists of one length, whose elements at each index are related.
use Rattle.std.proofs.Common.{List, [], ◌∷◌, ◌++◌}
use Rattle.std.specs.List.{AllZip}

pub zip_append : {A B : Type 0} (P : A → B → Type 0) (xs us : List A) (ys vs : List B) → AllZip P xs ys → AllZip P us vs → AllZip P (xs ++ us) (ys ++ vs)
zip_append P [] us [] vs p q = q
zip_append P (x ∷ xs) us (y ∷ ys) vs p q = (p.0, zip_append P xs us ys vs p.1 q)
zip_append P _ us _ vs p q = absurd p
