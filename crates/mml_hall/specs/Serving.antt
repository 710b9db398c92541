-- The result of the next line of a script. An output line has a reply, and before it the number of its connection. An
-- output line that isn't written yet is held.
use Rattle.std.specs.Prelude.{Bool, true, false, ◌≡◌, ◌≢◌, ℕ, ◌<◌, List, [], ◌∷◌, ◌++◌, length, Option, Result, Ok, Err, OnOk, IfErr, ⊤}
use Rattle.std.specs.Io.KnownBytes.{Consumes, IsAtEnd, prepend_known}
use Rattle.mml_lab.specs.Labs.{LabValue}
use Rattle.mml_lines.specs.{LinesOf.IsWithinLimit, Sending.BreaksOff, Sending.Sends, declared.lines.TheConstants.READ_SIZE, declared.write_fault.WriteFault.WriteFault}
use Rattle.mml_codec.specs.{declared.reply.Reply.Reply, Replies.reply_line, Replies.TellsFor}
use Rattle.mml_hall.specs.{declared.TheConstants.MAX_SCRIPT_LINE, declared.script.ScriptStep.ScriptStep, Turns.State, Turns.RequestLine, Scripts.LineTurn, Scripts.line_read, Scripts.line_written}
use Rattle.mml_hall.specs.ScriptLines.{IsScriptLine, IsBad, script_line}
use Rattle.mml_codec.specs.declared.reply.Reply.TheVariants as replies
use Rattle.mml_codec.specs.declared.reply.Refused.TheVariants as refused
use Rattle.mml_hall.specs.declared.script.ScriptStep.TheVariants as next

-- the reply whose line was written: the reply itself, or the refusal `memory`
abbrev pub told_of : Reply → Bool → Reply
told_of reply true = reply
told_of reply false = replies.Refuse refused.Memory

-- An output line comes after the lines that were held. The output line has the reply, or the refusal `memory` in place
-- of a reply that isn't short. Of all these lines the first were written and the others are held, or a write failed
-- after some of their bytes
abbrev pub Tells : Result ⊤ WriteFault → LabValue → Reply → List ℕ → List (List ℕ) → List (List ℕ) → Option (List ℕ) → Option (List ℕ) → Type 0
Tells r lab reply front unsent unsent' wrote wrote' = (told : Reply) × TellsFor reply told
    × OnOk r (Sends wrote wrote' (unsent ++ (front ++ reply_line lab.ids lab.roster told) ∷ []) unsent')
    × IfErr r (λ fault. BreaksOff fault wrote wrote' (unsent ++ (front ++ reply_line lab.ids lab.roster told) ∷ []))

-- the line had its turn, and its output line comes after the lines that were held. Of all these lines the first were
-- written and the others are held, or a write failed after some of their bytes
abbrev pub ServesLine : Result ⊤ WriteFault → LabValue → State → State → RequestLine → List (List ℕ) → List (List ℕ) → Option (List ℕ)
    → Option (List ℕ) → Type 0
ServesLine (Ok done) lab st after line unsent unsent' wrote wrote' =
    (t : LineTurn lab st after) × (t.line ≡ line) × Sends wrote wrote' (unsent ++ line_written t ∷ []) unsent'
ServesLine (Err fault) lab st after line unsent unsent' wrote wrote' =
    (t : LineTurn lab st after) × (t.line ≡ line) × BreaksOff fault wrote wrote' (unsent ++ line_written t ∷ [])

-- the result of a line that was read: a script line had its turn, and any other line is reported as bad
abbrev pub ServesText : ScriptStep → LabValue → State → State → List ℕ → List (List ℕ) → List (List ℕ) → Option (List ℕ) → Option (List ℕ) → Type 0
ServesText next.Answered lab st after line unsent unsent' wrote wrote' =
    (s : RequestLine) × (line ≡ script_line s) × ServesLine (Ok tt) lab st after s unsent unsent' wrote wrote'
ServesText next.End lab st after line unsent unsent' wrote wrote' = ⊥
ServesText next.BadLine lab st after line unsent unsent' wrote wrote' =
    ((s : RequestLine) → IsScriptLine lab.sessions s → line ≢ script_line s) × Sends wrote wrote' unsent unsent'
ServesText next.ReadFault lab st after line unsent unsent' wrote wrote' = ⊥
ServesText (next.WriteFault fault) lab st after line unsent unsent' wrote wrote' =
    (s : RequestLine) × (line ≡ script_line s) × ServesLine (Err fault) lab st after s unsent unsent' wrote wrote'

-- The result of the next line. `input` is the input before it. The input after it is `held`, the bytes that were read
-- already, and then `left`. `unsent` and `unsent'` are the output lines that were held before and after it
abbrev pub ServesNext : ScriptStep → LabValue → State → State → Option (List ℕ) → List ℕ → Option (List ℕ) → List (List ℕ) → List (List ℕ) → Option (List ℕ)
    → Option (List ℕ) → Type 0
ServesNext next.Answered lab st after input held left unsent unsent' wrote wrote' =
    (t : LineTurn lab st after) × Consumes input (prepend_known held left) (line_read t) × Sends wrote wrote' (unsent ++ line_written t ∷ []) unsent'
ServesNext next.End lab st after input held left unsent unsent' wrote wrote' =
    (after ≡ st) × Consumes input (prepend_known held left) [] × IsWithinLimit MAX_SCRIPT_LINE held × IsAtEnd left × Sends wrote wrote' unsent []
ServesNext next.BadLine lab st after input held left unsent unsent' wrote wrote' =
    (bad : List ℕ) × Consumes input (prepend_known bad left) [] × IsBad lab.sessions bad × Sends wrote wrote' unsent unsent'
ServesNext next.ReadFault lab st after input held left unsent unsent' wrote wrote' =
    Consumes input (prepend_known held left) [] × IsWithinLimit MAX_SCRIPT_LINE held × Sends wrote wrote' unsent []
ServesNext (next.WriteFault fault) lab st after input held left unsent unsent' wrote wrote' =
    (t : LineTurn lab st after) × Consumes input (prepend_known held left) (line_read t) × (length held < READ_SIZE)
    × BreaksOff fault wrote wrote' (unsent ++ line_written t ∷ [])
