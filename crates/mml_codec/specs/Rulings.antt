-- The reply to a command that was judged. A clause is a condition under which a request is granted. A ruling is what
-- the policy decides about a command. The place of an event is its number in the list of events, from 1.
use Rattle.std.specs.Prelude.{ℕ}
use Rattle.mml_board.specs.{declared.done.Done.Done, World.World}
use Rattle.mml_stable.specs.Reports.{report_of}
use Rattle.mml_policy.specs.declared.{refusal.Refusal.Refusal, ruling.Ruling.Ruling}
use Rattle.mml_codec.specs.declared.reply.{Refused.Refused, Reply.Reply}
use Rattle.mml_board.specs.declared.done.Done.TheVariants as done
use Rattle.mml_policy.specs.declared.refusal.Refusal.TheVariants as refusal
use Rattle.mml_policy.specs.declared.ruling.Ruling.TheVariants as ruling
use Rattle.mml_codec.specs.declared.reply.Refused.TheVariants as refused
use Rattle.mml_codec.specs.declared.reply.Reply.TheVariants as replies

-- the reply to an event; `at` is the number of the configuration after it, and `place` is the event's place
abbrev pub reply_of_done : ℕ → ℕ → Done → Reply
reply_of_done at place (done.Move node kind) = replies.Move at place node kind
reply_of_done at place (done.Close moved) = replies.Close at place moved
reply_of_done at place (done.Fault node dropped) = replies.Fault at place node dropped
reply_of_done at place (done.Link a b dropped) = replies.Link at place a b dropped
reply_of_done at place (done.Cut a b dropped) = replies.Cut at place a b dropped
reply_of_done at place (done.Release node) = replies.Release at place node

-- the reason that a reply has for a refusal: all clauses allow the request, but the lab has had all its events, the
-- journal failed, or memory ran out
abbrev pub refusal_for : Refusal → Refused
refusal_for refusal.Full = refused.Full
refusal_for refusal.Journal = refused.Journal
refusal_for refusal.Memory = refused.Memory

-- the reply to the ruling on a command; w is the state of the lab after the command
abbrev pub reply_of : World → Ruling → Reply
reply_of w (ruling.Denied d) = replies.Deny d
reply_of w (ruling.Seen s) = replies.See s
reply_of w (ruling.Looked l) = replies.Look l
reply_of w ruling.Reported = replies.Report (report_of w)
reply_of w ruling.Full = replies.Refuse refused.Full
reply_of w ruling.Journal = replies.Refuse refused.Journal
reply_of w (ruling.Granted event done) = reply_of_done w.number w.place done
