use Rattle.std.proofs.{Common.[], Common.ap, Common.inl, Common.refl, Common.◌∙◌, Common.arith, KnownBytes.Appends-nil}
use Rattle.mml_lines.proofs.{KnownBytesLemmas.nothing_held, RunsLemmas.empty}
use Rattle.mml_session.proofs.{RecordLemmas.records_nil, EndingLemmas.one_more, EndingLemmas.ended_so}
use Rattle.mml_session.proofs.session.serve_observed.Goals as goal

pub loop-before-init : goal.loop-before-init
loop-before-init g c =
    let none = c.in-Ok.ensures.nothing_held in
    let unread = ap (λ x. x.unread) c.in-Ok.ensures.lines in
    record {
      so_far = rw c.in-Ok.ensures.nobody (record {
        talk = empty;
        stands = refl;
        last = inl none;
        consumed = nothing_held _ _ unread;
        appended = record { flushed = []; buffered = []; parts = refl; lines = none; written = Appends-nil _ };
        few = rw none (omega arith);
        recorded = records_nil c.args.connection _;
      });
      lines = (rw unread (omega arith), ap (λ x. x.ending) c.in-Ok.ensures.lines, ap (λ x. x.limit) c.in-Ok.ensures.lines, λ _. none);
      session = (c.in-Ok.ensures.number, c.in-Ok.ensures.room, rw c.in-Ok.ensures.nobody tt);
    }

pub loop-before-preserved : goal.loop-before-preserved
loop-before-preserved g c = record {
  so_far = one_more _ _ _ _ _ _ c.loop-before.invariant.so_far (rw c.loop-before.invariant.session.0 at c.in-Served.ensures.serves)
      (c.in-Served.ensures.within refl);
  lines = (c.in-Served.ensures.few refl, c.in-Served.ensures.going refl, c.in-Served.ensures.limit, c.in-Served.ensures.out refl);
  session = (c.in-Served.ensures.number ∙ c.loop-before.invariant.session.0, c.in-Served.ensures.room, c.in-Served.ensures.principal);
}

pub returns-in-Ended-clause-ended : goal.returns-in-Ended-clause-ended
returns-in-Ended-clause-ended g c =
    ended_so _ _ _ _ _ _ c.loop-before.invariant.so_far _ _ (rw (c.seen_count-seen.ensures, c.let_out-ending.ensures.kept) at c.left.ensures) c.in-Ended.end _
    (rw c.loop-before.invariant.session.0 at c.in-Ended.ensures.serves) c.let_out-ending.ensures.lets
