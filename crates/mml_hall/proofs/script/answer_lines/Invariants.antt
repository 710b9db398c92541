use Rattle.std.proofs.Common.{◌≡◌, ◌≤◌, ◌<◌, ◌+◌, ◌*◌, None, length}
use Rattle.mml_lines.specs.{declared.lines.TheConstants.MAX_READS, declared.lines.TheConstants.READ_SIZE, LinesState.bytes_ahead}
use Rattle.std.specs.{Vec.vec_capacity, Io.KnownBytes.prepend_known}
use Rattle.mml_codec.specs.declared.reply.TheConstants.{REPLY_ROOM}
use Rattle.mml_hall.specs.declared.TheConstants.{MAX_SCRIPT_LINE}
use Rattle.mml_hall.proofs.ScriptsLemmas.{AnsweredSoFar}
use Rattle.mml_hall.proofs.script.answer_lines.Given as goal

abbrev pub invariant-loop-hall : goal.invariant-loop-hall
invariant-loop-hall g l = record {
  so_far : AnsweredSoFar g.S.Sink.contents g.S.Sink.failures l.fn.hall l.hall l.answered (g.R.Read.remaining l.fn.reader)
      (prepend_known l.buffers.lines.unread (g.R.Read.remaining l.reader)) l.buffers.outgoing (g.W.Write.contents l.fn.writer) (g.W.Write.contents l.writer);
  going : l.buffers.lines.ending ≡ None;
  limit : l.buffers.lines.limit ≡ MAX_SCRIPT_LINE;
  few_held : length l.buffers.lines.unread < READ_SIZE;
  few : l.answered + bytes_ahead l.buffers.lines ≤ READ_SIZE * MAX_READS;
  room : REPLY_ROOM ≤ vec_capacity l.buffers.reply;
}

abbrev pub decreases-loop-hall : goal.decreases-loop-hall
decreases-loop-hall g l = bytes_ahead l.buffers.lines
