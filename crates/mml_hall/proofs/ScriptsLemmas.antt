-- The result of a line of a script, and the ways in which the script may end after the lines that are answered so far.
-- An output line is the line that answers a script line. A hall answers requests in one thread. A transcript has the
-- script lines so far, with their replies.
use Rattle.std.proofs.Common.{◌≡◌, ◌⊎◌, ℕ, ◌+◌, ◌<◌, List, [], ◌∷◌, ◌++◌, length, map, flat_map, refl, sym, ◌∙◌, ap, Option, inl, Result, Ok, Err, OnOk, IfErr, IsErrAnd, length-append, arith}
use Rattle.std.proofs.{lemmas.Bool.Decides.nat_tests, lemmas.List.map-append, lemmas.Result.err_from_is_err_and, KnownBytes.Consumes-trans}
use Rattle.std.specs.{Prelude.⊤, Io.KnownBytes.Consumes, Io.KnownBytes.prepend_known}
use Rattle.mml_lab.specs.Labs.{LabValue}
use Rattle.mml_ids.specs.Lines.{ended}
use Rattle.mml_lines.specs.{LinesOf.IsWithinLimit, Sending.BreaksOff, Sending.Sends, declared.lines.TheConstants.READ_SIZE, declared.write_fault.WriteFault.WriteFault}
use Rattle.mml_lines.proofs.{KnownBytesLemmas.none_taken, KnownBytesLemmas.nothing_held, KnownBytesLemmas.put_back, RunsLemmas.by_steps, RunsLemmas.empty, RunsLemmas.flat_longer, RunsLemmas.longer}
use Rattle.mml_lines.proofs.SendingLemmas.{nothing_sent, sends_on, sends_before, all_out, breaks_on}
use Rattle.mml_journal.specs.Taken.{IsFresh}
use Rattle.mml_hall.specs.{declared.TheConstants.MAX_SCRIPT_LINE, declared.script.ScriptStep.ScriptStep, declared.script.ScriptFault.ScriptFault, inside.Ending.EndsScript, Halls.HallValue}
use Rattle.mml_hall.specs.{Turns.State, Turns.TurnOf, Turns.Halts, Turns.opening, Journals.TellsJournal, Journals.Journals, ScriptLines.IsBad, ScriptLines.script_line}
use Rattle.mml_hall.specs.Transcripts.{Transcript, output_line, output_lines, bytes_read, lines_written}
use Rattle.mml_hall.specs.{Scripts.LineTurn, Scripts.AllAnswered, Scripts.line_read, Scripts.line_written, Serving.ServesLine, Serving.ServesNext, Serving.ServesText}
use Rattle.mml_hall.proofs.HallsLemmas.{nothing_told, halts_on}
use Rattle.mml_hall.specs.declared.script.ScriptStep.TheVariants as next
use Rattle.mml_hall.specs.declared.script.ScriptFault.TheVariants as fault

-- ---- the result of a line

-- if a line had its turn, and its output line comes after the unsent ones, or a write fails, the line is served
pub serves_line : (r : Result ⊤ WriteFault) {lab : LabValue} {st after : State} (unsent unsent' : List (List ℕ)) (wrote wrote' : Option (List ℕ))
    (t : LineTurn lab st after) → OnOk r (Sends wrote wrote' (unsent ++ line_written t ∷ []) unsent')
    → IfErr r (λ fault. BreaksOff fault wrote wrote' (unsent ++ line_written t ∷ [])) → ServesLine r lab st after t.line unsent unsent' wrote wrote'
serves_line (Ok done) unsent unsent' wrote wrote' t ok err = (t, refl, ok)
serves_line (Err fault) unsent unsent' wrote wrote' t ok err = (t, refl, err)

-- A line that isn't too long was read. The bytes after it that were read too are held, and are fewer than one read may
-- bring.
module _ (lab : LabValue) (st after : State) (a left wrote wrote' : Option (List ℕ)) (held line : List ℕ) (unsent unsent' : List (List ℕ))
    (taken : Consumes a (prepend_known held left) (ended line)) (short : IsWithinLimit MAX_SCRIPT_LINE line) (few : length held < READ_SIZE) where
  -- the result of the line is that of the next line of the input
  pub serves_next : (n : ScriptStep) → ServesText n lab st after line unsent unsent' wrote wrote'
      → ServesNext n lab st after a held left unsent unsent' wrote wrote'
  serves_next next.Answered had = (had.2.0, rw (had.2.1, ← had.1) taken, had.2.2)
  serves_next next.End had = absurd had
  serves_next next.BadLine had = (ended line ++ held, put_back a left (ended line) held taken, inl (line, held, refl, short, had.0, few), had.1)
  serves_next next.ReadFault had = absurd had
  serves_next (next.WriteFault fault) had = (had.2.0, rw (had.2.1, ← had.1) taken, few, had.2.2)

-- if no output line is unsent, all output lines are written
pub none_unsent : (wrote : Option (List ℕ)) (unsent : List (List ℕ)) → unsent ≡ [] → Sends wrote wrote unsent []
none_unsent wrote unsent e = rw e (nothing_sent wrote [])

-- ---- the lines so far

written_longer : {lab : LabValue} (t : Transcript lab) {after : State} (s : LineTurn lab t.end after)
    → lines_written (longer t s tt) ≡ lines_written t ++ line_written s ∷ []
written_longer {lab} t s =
    by_steps (TurnOf lab) (λ st ls rs end. output_lines lab (ls ++ s.line ∷ []) (rs ++ s.reply ∷ []) ≡ output_lines lab ls rs ++ line_written s ∷ [])
    (λ st. refl) (λ st next end l r ls rs turn rest. ap (λ t. output_line lab l.connection r ∷ t) rest) (opening lab) t.end t.lines t.replies t.run

read_longer : {lab : LabValue} (t : Transcript lab) {after : State} (s : LineTurn lab t.end after) → bytes_read (longer t s tt) ≡ bytes_read t ++ line_read s
read_longer t s = ap (flat_map ended) (map-append script_line t.lines (s.line ∷ [])) ∙ flat_longer ended (map script_line t.lines) (script_line s.line)

-- the `count` lines of a transcript have led to the state of the hall, whose sink contains the journal
pub record LeadsTo {S : Type 0} (contents : S → Option (List ℕ)) (failures : S → ℕ) (opened hall : HallValue S) (count : ℕ)
    (t : Transcript opened.lab) : Type 0 where
  pub lab : hall.lab ≡ opened.lab
  pub state : t.end ≡ hall.state
  pub lines : length t.lines ≡ count
  pub journals : Journals contents failures opened.lab opened.sink hall.sink t.end

-- the lines so far make up a transcript, which leads to the state of the hall. The last output lines, `unsent`, aren't
-- written yet.
pub record AnsweredSoFar {S : Type 0} (contents : S → Option (List ℕ)) (failures : S → ℕ) (opened hall : HallValue S) (count : ℕ)
    (input left : Option (List ℕ)) (unsent : List (List ℕ)) (wrote wrote' : Option (List ℕ)) : Type 0 where
  pub transcript : Transcript opened.lab
  pub consumed : Consumes input left (bytes_read transcript)
  pub sent : Sends wrote wrote' (lines_written transcript) unsent
  pub here : LeadsTo contents failures opened hall count transcript

-- before the first line, no line is answered
pub nothing_yet : {S : Type 0} (contents : S → Option (List ℕ)) (failures : S → ℕ) (hall : HallValue S) (a wrote : Option (List ℕ)) (held : List ℕ)
    (unsent : List (List ℕ)) → hall.state ≡ opening hall.lab → IsFresh (contents hall.sink) → held ≡ [] → unsent ≡ []
    → AnsweredSoFar contents failures hall hall 0 a (prepend_known held a) unsent wrote wrote
nothing_yet contents failures hall a wrote held unsent fresh untold none quiet = record {
  transcript = empty;
  consumed = nothing_held a held none;
  sent = rw quiet (nothing_sent wrote []);
  here = record { lab = refl; state = sym fresh; lines = refl; journals = (nothing_told hall.lab (contents hall.sink) untold, inl (refl, refl)) };
}

module _ {S : Type 0} {contents : S → Option (List ℕ)} {failures : S → ℕ} {opened hall : HallValue S} {count : ℕ} {input a wrote c : Option (List ℕ)}
    {unsent : List (List ℕ)} (so : AnsweredSoFar contents failures opened hall count input a unsent wrote c) where
  -- if more of the unsent lines are written, `AnsweredSoFar` stays true
  abbrev pub sent_on : {d : Option (List ℕ)} {unsent' : List (List ℕ)} → Sends c d unsent unsent'
      → AnsweredSoFar contents failures opened hall count input a unsent' wrote d
  sent_on {d} {unsent'} more =
      let sent = sends_on wrote c d (lines_written so.transcript) unsent unsent' so.sent more in
      record { transcript = so.transcript; consumed = so.consumed; sent = sent; here = so.here }

  -- if no more input was read, and the remaining output lines are written, all lines of the transcript are answered
  abbrev pub all_so : {b d : Option (List ℕ)} → Consumes a b [] → Sends c d unsent [] → AllAnswered opened.lab input b wrote d
  all_so {b} {d} none more = record {
    transcript = so.transcript;
    consumed = none_taken input a b (bytes_read so.transcript) so.consumed none;
    appended = all_out wrote d (lines_written so.transcript) (sent_on more).sent;
  }

  -- if no more input was read, and a write failed, the script ends with the error `Write`
  pub cut_so : (left d : Option (List ℕ)) (held : List ℕ) (r : Result ⊤ ScriptFault) (now : HallValue S) (f : WriteFault)
      → IsErrAnd r (λ e. e ≡ fault.Write f.written) → Consumes a (prepend_known held left) [] → BreaksOff f c d unsent
      → (length held < READ_SIZE) ⊎ IsBad opened.lab.sessions held → EndsScript contents failures r opened now input left wrote d
  cut_so left d held r now f why none breaks rest =
      let (e, is, same) = err_from_is_err_and r why in
      let consumed = none_taken input a (prepend_known held left) (bytes_read so.transcript) so.consumed none in
      let cut = breaks_on f wrote c d (lines_written so.transcript) unsent so.sent breaks in
      rw (is, same) (held, record { transcript = so.transcript; consumed = consumed; cut = cut }, (hall.sink, so.here.journals), rest)

  -- the result of the next line in the hall's lab and state is its result after the lines so far
  pub from_end : (came : ScriptStep) (after : State) (left d : Option (List ℕ)) (held : List ℕ) (unsent' : List (List ℕ))
      → ServesNext came hall.lab hall.state after a held left unsent unsent' c d
      → ServesNext came opened.lab so.transcript.end after a held left unsent unsent' c d
  from_end came after left d held unsent' serves = grind (arith, nat_tests)

  -- after one more line the lab is the same, the sink contains the journal, and the journal halts only if a write fails
  abbrev pub GoesOn : HallValue S → Type 0
  GoesOn now = (now.lab ≡ hall.lab) × TellsJournal now.lab now.state (contents now.sink)
      × Halts hall.state.halted now.state.halted (failures hall.sink) (failures now.sink)

  -- the sink contains the journal after one more line
  pub journals_on : (now : HallValue S) → GoesOn now → Journals contents failures opened.lab opened.sink now.sink now.state
  journals_on now on = grind (arith, nat_tests, halts_on)

  -- one more line is answered, and its output line isn't written yet
  pub one_more : {b : Option (List ℕ)} (now : HallValue S) → GoesOn now → (t : LineTurn opened.lab so.transcript.end now.state) → Consumes a b (line_read t)
      → AnsweredSoFar contents failures opened now (count + 1) input b (unsent ++ line_written t ∷ []) wrote c
  one_more {b} now on t taken = record {
    transcript = longer so.transcript t tt;
    consumed = rw (read_longer so.transcript t) (Consumes-trans input a b (bytes_read so.transcript) (line_read t) so.consumed taken);
    sent = rw (written_longer so.transcript t) (sends_before wrote c (lines_written so.transcript) unsent (line_written t ∷ []) so.sent);
    here = grind (arith, nat_tests, length-append, journals_on);
  }
