use Rattle.std.proofs.Common.{◌≡◌, ◌≤◌, ◌<◌, None, length, []}
use Rattle.std.specs.{Prelude.IfSome, Vec.vec_capacity, Io.KnownBytes.prepend_known}
use Rattle.mml_lab.specs.Rosters.{IsPrincipal}
use Rattle.mml_codec.specs.declared.{TheConstants.MAX_REQUEST, reply.TheConstants.REPLY_ROOM}
use Rattle.mml_session.specs.Turns.{standing}
use Rattle.mml_lines.specs.{LinesOf.IsWithinLimit, LinesState.bytes_ahead, declared.lines.TheConstants.READ_SIZE}
use Rattle.mml_session.proofs.EndingLemmas.{AnsweredSoFar}
use Rattle.mml_session.proofs.session.serve_observed.Given as goal

abbrev pub invariant-loop-before : goal.invariant-loop-before
invariant-loop-before g l = record {
  so_far : AnsweredSoFar l.fn.connection g.H.House.lab l.fn.window (standing l.session.known l.window) l.before
      (g.Y.Reader.Read.remaining l.fn.reader) (prepend_known l.session.lines.unread (g.Y.Reader.Read.remaining l.reader)) l.session.held.bytes.items
      (g.Y.Writer.Write.contents l.fn.writer) (g.Y.Writer.Write.contents l.writer) (g.O.Observer.kept l.fn.observer) (g.O.Observer.kept l.observer);
  lines : (length l.session.lines.unread < READ_SIZE) × (l.session.lines.ending ≡ None) × (l.session.lines.limit ≡ MAX_REQUEST)
      × (IsWithinLimit l.session.lines.limit l.session.lines.unread → l.session.held.bytes.items ≡ []);
  session : (l.session.connection ≡ l.fn.connection) × (REPLY_ROOM ≤ vec_capacity l.session.reply) × IfSome l.session.known (IsPrincipal g.H.House.lab.roster);
}

abbrev pub decreases-loop-before : goal.decreases-loop-before
decreases-loop-before g l = bytes_ahead l.session.lines
