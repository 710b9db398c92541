-- The names of denials in the replies of a record, found in the bytes of the replies. Only denials that a student can
-- get after a granted hello have names here.
use Rattle.std.specs.Prelude.{ℕ, List, codes, Option, None, Some, if◌then◌else◌}
use Rattle.mml_codec.specs.declared.reply.Reply.{Reply}
use Rattle.mml_journal.specs.Words.{◌>>=◌, split_at_byte, is_word}
use Rattle.mml_record.specs.DenialMembers.{denial_members}
use Rattle.mml_tally.specs.{declared.student_denials.StudentDenial.StudentDenial, StudentDenials.student_denial}
use Rattle.mml_codec.specs.declared.reply.Reply.TheVariants as reply
use Rattle.mml_tally.specs.declared.student_denials.StudentDenial.TheVariants as named

-- the denial that a member of a reply names
unfoldable pub denial_word : List ℕ → Option StudentDenial
denial_word member =
    if is_word (codes "\"deny\":\"greeted\"") member then Some named.Greeted
    else (if is_word (codes "\"deny\":\"hidden\"") member then Some named.Hidden
    else (if is_word (codes "\"deny\":\"not-owner\"") member then Some named.NotOwner
    else (if is_word (codes "\"deny\":\"not-teacher\"") member then Some named.NotTeacher
    else (if is_word (codes "\"deny\":\"stale\"") member then Some named.Stale
    else (if is_word (codes "\"deny\":\"chosen\"") member then Some named.Chosen
    else (if is_word (codes "\"deny\":\"guard\"") member then Some named.Guard else None))))))

-- the denial that the second of these members names
unfoldable pub denial_after : List ℕ → Option StudentDenial
denial_after members = do
  rest ← (split_at_byte 44 members).1
  denial_word (split_at_byte 44 rest).0

-- the denial that a reply's text names, in the member after its clause
abbrev pub denial_told : List ℕ → Option StudentDenial
denial_told text = denial_members text >>= denial_after

-- the denial in the reply, if a student can get it after a granted hello
abbrev pub denial_in : Reply → Option StudentDenial
denial_in (reply.Deny d) = student_denial d
denial_in _ = None
