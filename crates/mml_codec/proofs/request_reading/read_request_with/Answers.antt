use Rattle.std.proofs.Common.{inr, ap, Ok}
use Rattle.serde_json.specs.Data.{object}
use Rattle.mml_codec.proofs.LinesLemmas.{request_in-object, request_in-other}
use Rattle.mml_codec.proofs.request_reading.read_request_with.Goals as goal

pub returns-then-branch-clause-request : goal.returns-then-branch-clause-request
returns-then-branch-clause-request c =
    let found = c.in_ok-read_fields.ensures.object (ap Ok c.if-branch.true) in
    rw (request_in-object _ found.0 found.1) (c.request.ensures.request (object found.0) found.2)

pub returns-then-branch-clause-memory : goal.returns-then-branch-clause-memory
returns-then-branch-clause-memory c = λ e.
    let found = c.in_ok-read_fields.ensures.object (ap Ok c.if-branch.true) in
    inr (rw (request_in-object _ found.0 found.1) (c.request.ensures.memory e (object found.0) found.2))

pub returns-else-branch-clause-request : goal.returns-else-branch-clause-request
returns-else-branch-clause-request c = request_in-other _ (c.in_ok-read_fields.ensures.other (ap Ok c.if-branch.false))
