-- The reasons of refusals in the replies of a record, found in the bytes of the replies.
use Rattle.std.specs.Prelude.{ℕ, List, codes, bytes_eq, Option, None, Some, if◌then◌else◌}
use Rattle.mml_policy.specs.declared.refusal.Refusal.{Refusal}
use Rattle.mml_policy.specs.declared.refusal.Refusal.TheVariants as refusal
use Rattle.mml_codec.specs.declared.reply.Refused.TheVariants as refused
use Rattle.mml_codec.specs.declared.reply.Reply.{Reply}
use Rattle.mml_codec.specs.declared.reply.Reply.TheVariants as reply

-- the reason that the text of a refusal names; the refusal `malformed` and all other replies name none
unfoldable pub reason_told : List ℕ → Option Refusal
reason_told text =
    if bytes_eq text (codes "{\"refuse\":\"journal\"}") then Some refusal.Journal
    else (if bytes_eq text (codes "{\"refuse\":\"memory\"}") then Some refusal.Memory
    else (if bytes_eq text (codes "{\"refuse\":\"full\"}") then Some refusal.Full else None))

-- the reason why the reply refuses a request
abbrev pub reason_in : Reply → Option Refusal
reason_in (reply.Refuse refused.Journal) = Some refusal.Journal
reason_in (reply.Refuse refused.Memory) = Some refusal.Memory
reason_in (reply.Refuse refused.Full) = Some refusal.Full
reason_in _ = None
