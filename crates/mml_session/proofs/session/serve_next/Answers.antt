use Rattle.std.{proofs.lemmas.Bool.Decides.nat_tests, proofs.Math.Nat.lt_of_not-le, specs.Io.KnownBytes.Consumes, specs.Io.KnownBytes.prepend_known}
use Rattle.std.proofs.Common.{◌≡◌, ◌≢◌, ℕ, ◌+◌, ◌-◌, ◌*◌, ◌<◌, ◌≤◌, arith, refl, List, [], ◌++◌, length, length-append, Option, Result, Ok, Err}
use Rattle.mml_lab.specs.Labs.{LabValue}
use Rattle.mml_ids.specs.Lines.{ended}
use Rattle.mml_lines.specs.{LinesOf.IsWithinLimit, LinesState.LinesState, declared.lines.TheConstants.READ_SIZE}
use Rattle.mml_codec.specs.declared.TheConstants.{MAX_REQUEST}
use Rattle.mml_window.specs.declared.sight.Closed.{Closed}
use Rattle.mml_session.specs.{declared.session.Sent.Sent, Turns.Standing, Turns.standing, Records.Kept, Serving.ServesLine, Serving.ServesNext, Serving.next_after}
use Rattle.mml_session.proofs.RecordLemmas.{records_nil}
use Rattle.mml_session.specs.declared.session.Sent.TheVariants as says
use Rattle.mml_session.proofs.session.serve_next.Goals as goal

-- A line that isn't too long was read. The bytes after it that were read too are held, and are fewer than one read may
-- bring.
module _ (number : ℕ) (lab : LabValue) (st after : Standing) (a left c d : Option (List ℕ)) (rec rec' : Option Kept) (held line unsent unsent' : List ℕ)
    (taken : Consumes a (prepend_known held left) (ended line)) (short : IsWithinLimit MAX_REQUEST line) (few : length held < READ_SIZE)
    (ahead : unsent ≢ [] → length (ended line ++ held) < READ_SIZE) where
  serves_next : (came : Result Sent Closed) → ServesLine came number lab st after line unsent unsent' c d rec rec'
      → ServesNext (next_after came) number lab st after a held left unsent unsent' c d rec rec'
  serves_next (Ok says.Told) h = (h.0, h.2.0, rw h.1 taken, h.2.1, h.3)
  serves_next (Ok says.Bye) h = (h.0, grind (arith, nat_tests, h.0.reply), rw h.1 taken, few, h.2.1, h.2.2, h.3)
  serves_next (Ok (says.Unwritten n)) h = (h.0, rw h.1 taken, few, h.2.1, (n, h.2.0, h.2.2), h.3)
  serves_next (Err closed) h = (h.0, line, short, h.1, taken, few, h.2, ahead, h.3, h.4)

-- if replies were buffered, no read was needed, and the line with the bytes after it is shorter than one read
unread_before : (old new : LinesState) (line unsent : List ℕ) → (IsWithinLimit old.limit old.unread → unsent ≡ [])
    → (old.reads < new.reads → IsWithinLimit old.limit old.unread) → old.reads ≤ new.reads
    → length line + length new.unread ≤ length old.unread + READ_SIZE * (new.reads - old.reads) → length old.unread < READ_SIZE
    → unsent ≢ [] → length (line ++ new.unread) < READ_SIZE
unread_before old new line unsent out needed grow counted few some = grind (arith, nat_tests, lt_of_not-le, length-append)

pub returns-in-Line-clause-serves : goal.returns-in-Line-clause-serves
returns-in-Line-clause-serves g c =
    let says = rw (c.requires.going, c.in-Line.ensures.limit, c.requires.limit) at c.in-Line.ensures.says in
    let unsent = c.args.session.now.held.bytes.items in
    let ahead = unread_before c.args.session.now.lines c.next.new.self (ended c.next.new.self.line) unsent c.requires.out
    c.in-Line.ensures.read_where_needed c.in-Line.ensures.reads_grow c.in-Line.ensures.reads_counted c.requires.few in
    rw (c.go_on.ensures.held, c.go_on.ensures.next, c.go_on.ensures.kept, c.serve_line-said.ensures.lines)
    (serves_next c.args.session.now.connection g.H.House.lab _ _ _ _ _ _ _ _ c.next.new.self.unread c.next.new.self.line unsent _ c.in-Line.ensures.taken
    says.0 says.1 ahead c.serve_line-said.result (rw c.came.ensures at c.serve_line-said.ensures.serves))

pub returns-in-TooLong-clause-serves : goal.returns-in-TooLong-clause-serves
returns-in-TooLong-clause-serves g c =
    let says = rw (c.requires.going, c.in-TooLong.ensures.limit, c.requires.limit) at c.in-TooLong.ensures.says in
    let unsent = c.args.session.now.held.bytes.items in
    let ahead = unread_before c.args.session.now.lines c.next.new.self [] unsent c.requires.out
    c.in-TooLong.ensures.read_where_needed c.in-TooLong.ensures.reads_grow c.in-TooLong.ensures.reads_counted c.requires.few in
    let st = standing c.args.session.now.known c.args.window.now in
    (refl {a = st}, c.in-TooLong.ensures.taken, says.0, refl {a = unsent}, ahead, refl, records_nil c.args.session.now.connection _)
