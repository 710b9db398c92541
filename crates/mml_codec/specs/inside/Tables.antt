-- Words in quotation marks and lists in brackets, followed by other text.
use Rattle.std.{specs.Prelude.◌≡◌, specs.Prelude.ℕ, specs.Prelude.◌++◌, specs.Prelude.List, specs.Prelude.codes, proofs.Common.ap, proofs.Common.sym, proofs.Common.append_assoc}
use Rattle.mml_codec.specs.Facts.{separated, list_then}

-- the word in quotation marks
abbrev pub quoted : List ℕ → List ℕ
quoted w = codes "\"" ++ (w ++ codes "\"")

-- the texts as a list in brackets, with commas between them
abbrev pub bracketed : List (List ℕ) → List ℕ
bracketed texts = codes "[" ++ (separated texts ++ codes "]")

-- a quotation mark, a word, another quotation mark and a rest are the quoted word and the rest
pub quoted_tells : (w rest : List ℕ) → codes "\"" ++ (w ++ (codes "\"" ++ rest)) ≡ quoted w ++ rest
quoted_tells w rest = ap (λ t. codes "\"" ++ t) (sym (append_assoc w (codes "\"") rest))

-- a list that is followed by a rest is the list in brackets and the rest
pub bracketed_tells : (texts : List (List ℕ)) (rest : List ℕ) → list_then texts rest ≡ bracketed texts ++ rest
bracketed_tells texts rest = ap (λ t. codes "[" ++ t) (sym (append_assoc (separated texts) (codes "]") rest))
