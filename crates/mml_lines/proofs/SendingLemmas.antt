-- Lines that are held in a buffer and written together, in several steps.
-- Writing lines breaks off if it fails after some of their bytes, as `BreaksOff` describes.
use Rattle.std.proofs.Common.{◌≡◌, ℕ, ◌+◌, ◌-◌, ◌<◌, ◌≤◌, arith, List, [], ◌∷◌, ◌++◌, length, take, drop, map, refl, sym, ◌∙◌, append_assoc, append-nil, length-append, length-take, length-drop}
use Rattle.std.proofs.Common.{Option, Result, Ok, Err, OnOk, IfErr}
use Rattle.std.proofs.lemmas.{Bool.Decides.nat_tests, List.Folds.concat-append, List.length-map, List.map-append, List.take-append-le, List.take-append-drop}
use Rattle.std.specs.{Prelude.⊤, List.concat, Io.KnownBytes.Appends, Io.KnownBytes.Keeps}
use Rattle.std.proofs.{Math.Seq.take-append-add, Math.Seq.take-append_seam, Math.Seq.drop-append_seam, Math.Seq.take-length, KnownBytes.Appends-nil, KnownBytes.Appends-trans, KnownBytes.Appends-kept}
use Rattle.mml_lines.specs.{declared.write_fault.WriteFault.WriteFault, inside.OutgoingView.parted, inside.OutgoingView.total, Sending.BreaksOff, Sending.Sends, Sending.part_in}

-- if nothing was written, all lines are held
pub nothing_sent : (a : Option (List ℕ)) (lines : List (List ℕ)) → Sends a a lines lines
nothing_sent a lines = ([], refl, Appends-nil a)

-- if some of the held lines are written next, only the others are still held
pub sends_on : (a b c : Option (List ℕ)) (lines held left : List (List ℕ)) → Sends a b lines held → Sends b c held left → Sends a c lines left
sends_on a b c lines held left (sent, all, bytes) (next, more, rest) =
    (sent ++ next, grind (arith, append_assoc), rw concat-append (Appends-trans a b c (concat sent) (concat next) bytes rest))

-- if more lines are held after those that are held already, the same lines are written
pub sends_before : (a b : Option (List ℕ)) (lines held more : List (List ℕ)) → Sends a b lines held → Sends a b (lines ++ more) (held ++ more)
sends_before a b lines held more (sent, all, bytes) = (sent, grind (arith, append_assoc), bytes)

-- if some of the held lines, and then of `more`, are written next, only the others are still held
sends_more : (a b c : Option (List ℕ)) (lines held more left : List (List ℕ)) → Sends a b lines held → Sends b c (held ++ more) left
    → Sends a c (lines ++ more) left
sends_more a b c lines held more left h = sends_on a b c (lines ++ more) (held ++ more) left (sends_before a b lines held more h)

-- if no line is held, all lines were written
pub all_out : (a b : Option (List ℕ)) (lines : List (List ℕ)) → Sends a b lines [] → Appends a b (concat lines)
all_out a b lines h = grind (arith, h.1, h.2, append-nil)

part_past : (sent rest : List (List ℕ)) (out : ℕ) → part_in (map length (sent ++ rest)) (length (concat sent) + out) ≡ part_in (map length rest) out
part_past [] rest out = grind (arith, nat_tests)
part_past (x ∷ sent) rest out = grind (arith, nat_tests, length-append, part_past sent rest out)

-- if writing the held lines breaks off, writing all lines breaks off
pub breaks_on : (f : WriteFault) (a b c : Option (List ℕ)) (lines held : List (List ℕ)) → Sends a b lines held → BreaksOff f b c held → BreaksOff f a c lines
breaks_on f a b c lines held (sent, all, bytes) (out, few, part, more) = rw (all, concat-append) (
  length (concat sent) + out,
  grind (arith, length-append),
  part ∙ sym (part_past sent held out),
  rw take-append-add (Appends-trans a b c (concat sent) (take out (concat held)) bytes more),
)

-- if writing the held lines and `more` breaks off, writing all lines and `more` breaks off
breaks_more : (f : WriteFault) (a b c : Option (List ℕ)) (lines held more : List (List ℕ)) → Sends a b lines held → BreaksOff f b c (held ++ more)
    → BreaksOff f a c (lines ++ more)
breaks_more f a b c lines held more h = breaks_on f a b c (lines ++ more) (held ++ more) (sends_before a b lines held more h)

part_none : (ns : List ℕ) → part_in ns 0 ≡ 0
part_none [] = refl
part_none (n ∷ ns) = grind (arith, nat_tests, part_none ns)

part_within : (lines more : List (List ℕ)) (out : ℕ) → out ≤ length (concat lines) → part_in (map length lines) out ≡ part_in (map length (lines ++ more)) out
part_within [] more out few = grind (arith, few, part_none (map length more))
part_within (x ∷ lines) more out few = grind (arith, nat_tests, length-append, part_within lines more (out - length x))

-- if writing some lines breaks off, writing them and `more` breaks off
pub breaks_before : (f : WriteFault) (a b : Option (List ℕ)) (lines more : List (List ℕ)) → BreaksOff f a b lines → BreaksOff f a b (lines ++ more)
breaks_before f a b lines more h = grind (arith, nat_tests, h.0, h.1, h.2, h.3, concat-append, length-append, part_within, take-append-le)

-- if all lines were written, and then a flush fails, writing them breaks off after their last byte
pub breaks_after : (f : WriteFault) (a b c : Option (List ℕ)) (lines : List (List ℕ)) → f.written ≡ 0 → Sends a b lines [] → Keeps b c → BreaksOff f a c lines
breaks_after f a b c lines none h kept = breaks_on f a b c lines [] h (0, omega arith, none, Appends-kept b b c [] (Appends-nil b) kept)

-- if all lines are written, and then a line that isn't held, all of them were written, or writing them breaks off
pub put_last : (r : Result ⊤ WriteFault) (a b c : Option (List ℕ)) (lines lines' held held' : List (List ℕ)) (line : List ℕ) → Sends a b lines' []
    → lines' ≡ lines → held ≡ [] → held' ≡ held → OnOk r (Appends b c line)
    → IfErr r (λ fault. fault.written < length line) → IfErr r (λ fault. Appends b c (take fault.written line))
    → OnOk r (Sends a c (lines ++ line ∷ []) held') × IfErr r (λ fault. BreaksOff fault a c (lines ++ line ∷ []))
put_last (Ok done) a b c lines lines' held held' line h all none same ok short err =
    (rw (same, none, ← all) (sends_more a b c lines' [] (line ∷ []) [] h (line ∷ [], refl, rw append-nil ok)), tt)
put_last (Err fault) a b c lines lines' held held' line h all none same ok short err =
    (tt, rw (← all) (breaks_more fault a b c lines' [] (line ∷ []) h (grind (arith, nat_tests, fault.written, append-nil line))))

-- the parts of bytes, joined, are these bytes, and they have the lengths that were asked for
parts : (ns bytes : List ℕ) → total ns ≡ length bytes → (concat (parted ns bytes) ≡ bytes) × (map length (parted ns bytes) ≡ ns)
parts [] bytes e = grind (arith, take-length bytes, e)
parts (n ∷ ns) bytes e = grind (arith, nat_tests, length-drop, length-take, take-append-drop, parts ns (drop n bytes))

parts_back : (lines : List (List ℕ)) → parted (map length lines) (concat lines) ≡ lines
parts_back [] = refl
parts_back (line ∷ lines) = rw (take-append_seam line (concat lines), drop-append_seam line (concat lines), parts_back lines) refl

-- one length more adds to the total
pub total_longer : (ns : List ℕ) (n : ℕ) → total (ns ++ n ∷ []) ≡ total ns + n
total_longer [] n = omega arith
total_longer (m ∷ ns) n = omega (arith, total_longer ns n)

module _ (ns bytes : List ℕ) (lines : List (List ℕ)) (e : lines ≡ parted ns bytes) (whole : total ns ≡ length bytes) where
  -- a line that is appended to the held bytes in two parts is one more held line
  pub held_more : (ns' bytes' front rest : List ℕ) → ns' ≡ ns ++ (length front + length rest) ∷ [] → bytes' ≡ (bytes ++ front) ++ rest
      → parted ns' bytes' ≡ lines ++ (front ++ rest) ∷ []
  held_more ns' bytes' front rest size grown =
      grind (arith, append_assoc, length-append, parts ns bytes whole, parts_back (lines ++ (front ++ rest) ∷ []), map-append, concat-append, append-nil)

  -- the held lines, joined, are the held bytes, and there are as many as lengths
  pub held_whole : (concat lines ≡ bytes) × (length lines ≡ length ns)
  held_whole = grind (arith, parts ns bytes whole, length-map lines length)

  -- if the held bytes were written, all lines were
  pub sends_held : (a b : Option (List ℕ)) (bytes' : List ℕ) → bytes' ≡ bytes → Appends a b bytes' → Sends a b lines []
  sends_held a b bytes' same h = (lines, sym (append-nil lines), rw (held_whole.0, ← same) h)

  -- if some but not all of the held bytes were written, writing the lines breaks off there
  pub breaks_held : (written out : ℕ) (a b : Option (List ℕ)) (bytes' ns' : List ℕ) → bytes' ≡ bytes → ns' ≡ ns → out < length bytes'
      → written ≡ part_in ns' out → Appends a b (take out bytes') → BreaksOff (record { written = written }) a b lines
  breaks_held written out a b bytes' ns' same same' short counted h =
      let (all, sizes) = parts ns bytes whole in rw (e, all, sizes, ← same, ← same') (out, omega (arith, short), counted, h)

-- what is needed when one more line is held
pub ruleset one_more_line = (length-append, total_longer, held_more, held_whole)
