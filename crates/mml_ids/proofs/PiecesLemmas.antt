-- The texts and the room of the first pieces of a list.
use Rattle.std.proofs.Common.{◌≡◌, ℕ, ◌+◌, ◌≤◌, ◌<◌, List, [], ◌∷◌, ◌++◌, length, take, drop, ◌/◌, ◌%◌, decimal, slice_index_or, refl, ap, sym, ◌∙◌, arith}
use Rattle.std.proofs.lemmas.{List.append_assoc, List.append-nil, List.take-append-drop, Fmt.decimal_digit, Fmt.decimal_step, Grind.common_steps}
use Rattle.std.proofs.Math.{Seq.take-suc, Seq.take-add}
use Rattle.mml_ids.specs.{declared.piece.Piece.Piece, Pieces.piece_text, Pieces.piece_room, Pieces.joined, Pieces.room_of}

pub joined-append : (ps qs : List Piece) → joined (ps ++ qs) ≡ joined ps ++ joined qs
joined-append [] qs = refl
joined-append (p ∷ ps) qs = ap (λ t. piece_text p ++ t) (joined-append ps qs) ∙ sym (append_assoc (piece_text p) (joined ps) (joined qs))

pub room_of-append : (ps qs : List Piece) → room_of (ps ++ qs) ≡ room_of ps + room_of qs
room_of-append [] qs = omega arith
room_of-append (p ∷ ps) qs = omega (arith, room_of-append ps qs)

-- the first n + 1 pieces are the first n and the next one
take_next : (ps : List Piece) (n : ℕ) (p : Piece) → p ≡ slice_index_or ps n p → n < length ps → take (n + 1) ps ≡ take n ps ++ p ∷ []
take_next ps n p is inside = grind (arith, take-suc)

-- a text that ends in the first n pieces ends in the first n + 1 pieces after the next one is appended, which needs its room
pub joined_next : (was : List ℕ) (ps : List Piece) (n : ℕ) (p : Piece) → p ≡ slice_index_or ps n p → n < length ps
    → (was ++ joined (take n ps) ++ piece_text p ≡ was ++ joined (take (n + 1) ps)) × (room_of (take (n + 1) ps) ≡ room_of (take n ps) + piece_room p)
joined_next was ps n p is inside = grind (arith, common_steps, take_next, joined-append, room_of-append, append-nil, append_assoc)

-- if the first n pieces are followed by the first m of the rest, these are the first n + m pieces, and need the room of both
pub joined_more : (was : List ℕ) (ps rest : List Piece) (n m : ℕ) → rest ≡ drop n ps
    → (was ++ joined (take n ps) ++ joined (take m rest) ≡ was ++ joined (take (n + m) ps))
    × (room_of (take (n + m) ps) ≡ room_of (take n ps) + room_of (take m rest))
joined_more was ps rest n m is = grind (arith, take-add, joined-append, room_of-append, append_assoc)

-- the list that has only piece n needs the room of this piece
pub room_of_one : (ps : List Piece) (n : ℕ) (p : Piece) → p ≡ slice_index_or ps n p → n < length ps → room_of (take 1 (drop n ps)) ≡ piece_room p
room_of_one ps n p is inside = omega (arith, (joined_next [] ps n p is inside).1, (joined_more [] ps (drop n ps) n 1 refl).1)

-- the first n pieces and the next one need at most the room of all pieces
pub room_of_front : (ps : List Piece) (n : ℕ) → room_of (take n ps) + room_of (take 1 (drop n ps)) ≤ room_of ps
room_of_front ps n =
    omega (arith, (joined_more [] ps (drop n ps) n 1 refl).1, ap room_of (take-append-drop (n + 1) ps), room_of-append (take (n + 1) ps) (drop (n + 1) ps))

-- if a text ends in the digits of n / 10, and the last digit of n is appended, the text ends in the digits of n
pub digit_more : (was front all : List ℕ) (n : ℕ) → 10 ≤ n → n < 100000 → front ≡ was ++ decimal (n / 10) → all ≡ front ++ decimal (n % 10)
    → all ≡ was ++ decimal n
digit_more was front all n many few before last = grind (arith, decimal, append_assoc, decimal_digit, decimal_step)
