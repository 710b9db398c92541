use Rattle.std.proofs.{lemmas.Bool.Decides.nat_tests, KnownBytes.Consumes-nil, Common.arith, Common.refl, Common.ap, Common.sym, Common.◌∙◌, Common.◌+◌, Common.inl, Common.inr, Common.Err}
use Rattle.mml_hall.proofs.ScriptsLemmas.{nothing_yet, sent_on, all_so, cut_so, journals_on, from_end, one_more}
use Rattle.mml_hall.specs.declared.script.ScriptFault.TheVariants as fault
use Rattle.mml_hall.specs.declared.script.ScriptStep.TheVariants as step
use Rattle.mml_hall.proofs.script.answer_lines.Goals as goal

pub loop-hall-init : goal.loop-hall-init
loop-hall-init g c = grind (arith, nat_tests, nothing_yet)

pub returns-in_err-flush_before_read-clause-ends : goal.returns-in_err-flush_before_read-clause-ends
returns-in_err-flush_before_read-clause-ends g c =
    cut_so c.loop-hall.invariant.so_far _ _ c.loop-hall.buffers.lines.unread c.from_residual.result c.loop-hall.hall c.in_err-flush_before_read.field-0.0
    c.from_residual.ensures.1 (Consumes-nil _) c.in_err-flush_before_read.ensures.err (inl c.loop-hall.invariant.few_held)

pub loop-hall-preserved : goal.loop-hall-preserved
loop-hall-preserved g c =
    let so = sent_on c.loop-hall.invariant.so_far c.in_ok-flush_before_read.ensures.ok in
    let (t, taken, out) = from_end so step.Answered c.serve_next.new.hall.state _ _ _ _ c.in-Answered.ensures.serves in record {
      so_far = sent_on (one_more so c.serve_next.new.hall (c.in-Answered.ensures.lab, c.in-Answered.ensures.journal, c.in-Answered.ensures.halts) t taken) out;
      going = c.in-Answered.ensures.going refl;
      limit = c.in-Answered.ensures.limit;
      few_held = c.in-Answered.ensures.few refl;
      few = omega (arith, c.loop-hall.invariant.few, c.in-Answered.ensures.progress refl);
      room = c.in-Answered.ensures.room;
    }

pub returns-in-End-clause-ends : goal.returns-in-End-clause-ends
returns-in-End-clause-ends g c =
    let so = sent_on c.loop-hall.invariant.so_far c.in_ok-flush_before_read.ensures.ok in
    let (same, none, within, end, out) = c.in-End.ensures.serves in
    let journals = journals_on so c.serve_next.new.hall (c.in-End.ensures.lab, c.in-End.ensures.journal, c.in-End.ensures.halts) in
    let stands = same ∙ sym so.here.state in
    (c.serve_next.new.buffers.lines.unread, all_so so none out, c.in-End.ensures.lab ∙ so.here.lab, stands, rw stands at journals, within, end)

pub returns-in_err-flush-in-BadLine-clause-ends : goal.returns-in_err-flush-in-BadLine-clause-ends
returns-in_err-flush-in-BadLine-clause-ends g c =
    let so = sent_on c.loop-hall.invariant.so_far c.in_ok-flush_before_read.ensures.ok in
    let (held, none, bad, out) = c.in-BadLine.ensures.serves in
    cut_so (sent_on so out) _ _ held c.from_residual-in_err-flush-in-BadLine.result c.serve_next.new.hall c.in_err-flush-in-BadLine.field-0.0
    c.from_residual-in_err-flush-in-BadLine.ensures.1 none c.in_err-flush-in-BadLine.ensures.err (inr (rw so.here.lab at bad))

pub returns-in-BadLine-clause-ends : goal.returns-in-BadLine-clause-ends
returns-in-BadLine-clause-ends g c =
    let so = sent_on c.loop-hall.invariant.so_far c.in_ok-flush_before_read.ensures.ok in
    let (held, none, bad, out) = c.in-BadLine.ensures.serves in
    let all = all_so (sent_on so out) none c.in_ok-flush-in-BadLine.ensures.ok in
    rw c.bad_line_after.ensures (held, all, (c.loop-hall.hall.sink, so.here.journals), ap (λ n. n + 1) (sym so.here.lines), rw so.here.lab at bad)

pub returns-in-ReadFault-clause-ends : goal.returns-in-ReadFault-clause-ends
returns-in-ReadFault-clause-ends g c =
    let so = sent_on c.loop-hall.invariant.so_far c.in_ok-flush_before_read.ensures.ok in
    let (none, within, out) = c.in-ReadFault.ensures.serves in
    (c.serve_next.new.buffers.lines.unread, all_so so none out, (c.loop-hall.hall.sink, so.here.journals), within)

pub returns-in-WriteFault-clause-ends : goal.returns-in-WriteFault-clause-ends
returns-in-WriteFault-clause-ends g c =
    let so = sent_on c.loop-hall.invariant.so_far c.in_ok-flush_before_read.ensures.ok in
    let (t, taken, few, breaks) =
    from_end so (step.WriteFault c.in-WriteFault.fault) c.serve_next.new.hall.state _ _ _ c.serve_next.new.buffers.outgoing c.in-WriteFault.ensures.serves in
    cut_so (one_more so c.serve_next.new.hall (c.in-WriteFault.ensures.lab, c.in-WriteFault.ensures.journal, c.in-WriteFault.ensures.halts) t taken) _ _ _
    (Err (fault.Write c.in-WriteFault.fault.written)) c.serve_next.new.hall c.in-WriteFault.fault refl (Consumes-nil _) breaks (inl few)
