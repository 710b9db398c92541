use Rattle.std.proofs.{Common.◌≡◌, Common.◌&&◌, Common.◌∙◌, Common.false, Common.refl, Common.sym, lemmas.Bool.and_parts, lemmas.List.map-append, lemmas.List.Elements.All-push}
use Rattle.mml_lines.proofs.RunsLemmas.{run_longer}
use Rattle.mml_hosting.specs.Seats.{is_teachers_bye, sessions_of}
use Rattle.mml_hosting.proofs.seat.serve_in.Goals as goal

pub returns : goal.returns
returns g c =
    let shows = g.Y.Kept.Keep.shows in
    let old = c.args.seat in
    let at = c.requires.seat in
    let session = c.serve_session-session.ensures in
    let put = c.push_reserved.ensures.items in
    let noted : c.is_dismissed_by-is_dismissed.result ≡ (old.is_desk && is_teachers_bye (shows c.keep.result).ending) =
    rw c.keep.ensures c.is_dismissed_by-is_dismissed.ensures in
    record {
      seat = record {
        desk = at.desk;
        led = rw (put, map-append) (run_longer _ _ _ _ _ _ _ _ at.led (rw (c.keep.ensures, session.came) session.ended));
        dismissed = λ now.
            let both = and_parts old.is_desk _ (sym noted ∙ now) in
            (sessions_of shows old.record, shows c.keep.result, rw (put, map-append) refl, both.1, at.going_on both.0 c.requires.going_on);
        going_on = λ desk goes.
            rw (put, map-append)
            (All-push (λ s. is_teachers_bye s.ending ≡ false) _ _ (at.going_on desk c.requires.going_on) (sym (rw desk at noted) ∙ goes));
      };
      came = rw (put, map-append, map-append, c.keep.ensures, session.came) refl;
      number = refl;
    }
