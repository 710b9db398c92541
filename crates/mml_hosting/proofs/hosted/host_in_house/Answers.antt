use Rattle.std.{proofs.Common.◌≡◌, proofs.Common.List, proofs.Common.[], proofs.Common.ap, proofs.Common.subst, proofs.lemmas.Result.IfErr-weaker, specs.Prelude.All}
use Rattle.mml_board.specs.declared.event.Event.{Event}
use Rattle.mml_window.specs.Windows.{window}
use Rattle.mml_hosting.proofs.HouseLemmas.{hosted, unhosted, all_fresh}
use Rattle.mml_hosting.proofs.hosted.host_in_house.Goals as goal

pub returns-clause-hosts : goal.returns-clause-hosts
returns-clause-hosts g c =
    let seats = c.in-Ok-seats_of_house.ensures in
    let served = c.in-Ok-serve_both.ensures in
    let ended = c.end_house.ensures in
    hosted _ _ _ c.requires.as_many seats.one seats.desk seats.others seats.unused.0 seats.unused.1 served.desk served.others c.end_house.result
    (rw c.requires.first at ended.kept) ended.dismissed ended.desk ended.others

pub returns-clause-early : goal.returns-clause-early
returns-clause-early g c =
    let seats = c.in-Ok-seats_of_house.ensures in
    let served = c.in-Ok-serve_both.ensures in
    IfErr-weaker c.end_house.result _ _
    (unhosted _ g.Y.Sink.Sink.contents _ c.requires.as_many seats.one seats.desk seats.others seats.unused.0 seats.unused.1 served.desk served.others)
    (rw c.requires.first at c.end_house.ensures.without)

pub serve_both-requires-clause-desk_seats : goal.serve_both-requires-clause-desk_seats
serve_both-requires-clause-desk_seats g c κs within = all_fresh _ _ c.in-Ok-seats_of_house.ensures.unused.0

pub serve_both-requires-clause-seats : goal.serve_both-requires-clause-seats
serve_both-requires-clause-seats g c κs within = all_fresh _ _ c.in-Ok-seats_of_house.ensures.unused.1

pub seats_of_house-requires-clause-windows : goal.seats_of_house-requires-clause-windows
seats_of_house-requires-clause-windows g c =
    subst (λ (begun : List Event). All (λ w. w ≡ window begun []) c.in-Ok.windows.items) (ap (λ house. house.begun) c.requires.named) c.in-Ok.ensures.windows
