-- The output buffer: which replies are written, and which are held. The known participant is the one whose hello was
-- granted in the session.
use Rattle.std.specs.{Prelude.◌≡◌, Prelude.◌⊎◌, Prelude.ℕ, Prelude.◌<◌, Prelude.◌≤◌, Prelude.List, Prelude.[], Prelude.◌++◌, Prelude.length, Prelude.take, Prelude.Option, Io.KnownBytes.Appends}
use Rattle.mml_lab.specs.{declared.who.Who.Who, Labs.LabValue}
use Rattle.mml_codec.specs.{declared.reply.Reply.Reply, Replies.reply_line}
use Rattle.mml_session.specs.{declared.held.TheConstants.HELD_BYTES, declared.session.Ending.Ending, Talks.reply_lines}
use Rattle.mml_session.specs.declared.session.SessionEnd.TheVariants as end

-- the bytes are all buffered (`held`), or all written
abbrev pub IsHeldOrOut : Option (List ℕ) → Option (List ℕ) → List ℕ → List ℕ → Type 0
IsHeldOrOut wrote wrote' bytes held = ((held ≡ bytes) × (wrote' ≡ wrote)) ⊎ ((held ≡ []) × Appends wrote wrote' bytes)

-- the lines of the last replies are buffered, and those of the replies before them are written
pub record HoldsBack (lab : LabValue) (wrote wrote' : Option (List ℕ)) (replies : List Reply) (held : List ℕ) : Type 0 where
  pub flushed : List Reply
  pub buffered : List Reply
  pub parts : replies ≡ flushed ++ buffered
  pub lines : held ≡ reply_lines lab buffered
  pub written : Appends wrote wrote' (reply_lines lab flushed)

-- only a beginning of the bytes is written
abbrev pub BreaksOff : Option (List ℕ) → Option (List ℕ) → List ℕ → Type 0
BreaksOff wrote wrote' bytes = (n : ℕ) × (n < length bytes) × Appends wrote wrote' (take n bytes)

-- The first `written` bytes of these replies' lines, and of one more line, contain all lines that earlier flushes wrote
-- (`flushed`). The other lines were in the buffer at the last flush, and have at most `HELD_BYTES` bytes
pub record BreaksInLastFlush (lab : LabValue) (replies : List Reply) (written : ℕ) : Type 0 where
  pub flushed : List Reply
  pub buffered : List Reply
  pub parts : replies ≡ flushed ++ buffered
  pub whole : length (reply_lines lab flushed) ≤ written
  pub few : length (reply_lines lab buffered) ≤ HELD_BYTES

-- The writer took all lines that earlier flushes wrote, and then `part`. The rest of the last flush is missing, and
-- isn't empty. Before the line of the reply `last`, the last flush has at most `HELD_BYTES` bytes, in at most 512 lines
pub record LacksLastFlush (lab : LabValue) (replies : List Reply) (last : Reply) (wrote wrote' : List ℕ) : Type 0 where
  pub flushed : List Reply
  pub buffered : List Reply
  pub part : List ℕ
  pub lacking : List ℕ
  pub parts : replies ≡ flushed ++ buffered
  pub written : wrote' ≡ wrote ++ (reply_lines lab flushed ++ part)
  pub rest : part ++ lacking ≡ reply_lines lab buffered ++ reply_line lab.ids lab.roster last
  pub some : 0 < length lacking
  pub few : length (reply_lines lab buffered) ≤ HELD_BYTES
  pub few_lines : length buffered ≤ 512

-- The buffered replies were written, and the session ended as `ending` states. Or the write broke off and ended the
-- session, and `before` is who was known before the last line
abbrev pub LetsOut : Ending → Option Who → Ending → List ℕ → Option (List ℕ) → Option (List ℕ) → Type 0
LetsOut ending before result held wrote wrote' =
    ((result ≡ ending) × Appends wrote wrote' held) ⊎ ((result ≡ record { end = end.WriteFault; who = before }) × BreaksOff wrote wrote' held)
