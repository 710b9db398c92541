use Rattle.std.proofs.Common.{refl, sym, arith, rules}
use Rattle.mml_record.specs.inside.RawEntries.{entry_view}
use Rattle.mml_record.proofs.AskReadingLemmas.{read_on, read_all, first_read, record_tidy}
use Rattle.mml_record.proofs.asks.read_asks.Goals as goal

pub entries-init : goal.entries-init
entries-init c = record { known = tt; read = λ es tidy same. (es, tidy, same, refl) }

pub entries-preserved : goal.entries-preserved
entries-preserved c =
    record {
      known = c.in_ok-known.ensures.part;
      read = λ es tidy same. read_on c.args.lab.now.roster c.args.number c.entries.left.now c.in-Some.rest.now c.entries.known _ c.entries.asks.items _ _
          (entry_view c.in-Some.entry) (omega (arith, c.ranges.number.fits)) (search rules) (sym c.in-Some.ensures) c.in_ok-known.ensures.asks
          c.in_ok-known.ensures.known (c.entries.invariant.read es tidy same);
    }

pub returns-in_default : goal.returns-in_default
returns-in_default c = λ es ps on same.
    let tidy = record_tidy c.args.lab.now c.args.events.now (search rules) c.node_count-nodes.ensures.lab c.requires es ps on in
    let so = c.entries.invariant.read es tidy same in
    absurd (cc ((first_read c.args.number so.0 c.entries.left.now (omega (arith, c.ranges.number.fits)) so.1 (search rules) so.2).4, c.in_default.ensures))

pub returns : goal.returns
returns c = λ es ps on same.
    let tidy = record_tidy c.args.lab.now c.args.events.now (search rules) c.node_count-nodes.ensures.lab c.requires es ps on in
    read_all c.args.lab.now.roster c.args.number c.entries.left.now c.entries.known c.entries.asks.items _ (search rules)
    (c.entries.invariant.read es tidy same)
