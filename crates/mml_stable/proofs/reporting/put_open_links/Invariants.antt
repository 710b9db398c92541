use Rattle.std.proofs.Common.{◌≡◌, ℕ, ◌++◌, true, map}
use Rattle.std.specs.FinSet as sets
use Rattle.mml_ids.proofs.SetsLemmas.{ranks_in}
use Rattle.mml_board.specs.World.{size, configuration}
use Rattle.mml_stable.specs.Reports.{is_open, open_link, open_links_at}
use Rattle.mml_stable.proofs.reporting.put_open_links.Given as goal

-- the links that the loop has appended, followed by those to the nodes that are left, are all open links of a
abbrev pub invariant-loop-b : goal.invariant-loop-b
invariant-loop-b l = record {
  each : (b : ℕ) → sets.contains l.left b ≡ true → is_open (configuration l.board) l.a b ≡ true;
  so_far : l.all.items ++ map (open_link (configuration l.board) l.a) (ranks_in (size l.board) l.left)
      ≡ l.fn.all.items ++ open_links_at (configuration l.board) l.a;
}

abbrev pub decreases-loop-b : goal.decreases-loop-b
decreases-loop-b l = sets.len l.left
