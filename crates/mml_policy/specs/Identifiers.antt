-- A configuration in which nodes are named by their identifiers.
use Rattle.std.specs.{Prelude.ℕ, Prelude.◌+◌, Prelude.Bool, Prelude.false, Prelude.List, Prelude.Option, Prelude.None, Prelude.Some, Prelude.slice_index, Option.option_and_then, Option.option_map_or}
use Rattle.mml_ids.specs.{declared.TheConstants.MAX_ID, Ids.rank_in}
use Rattle.mml_rules.specs.{Configuration.Configuration, Naming.renamed}

-- both ranks exist, and are linked
abbrev pub are_linked : Configuration → Option ℕ → Option ℕ → Bool
are_linked c None b = false
are_linked c (Some i) None = false
are_linked c (Some i) (Some j) = c.linked i j

-- the configuration with nodes named by identifiers; other numbers have no link, a null pointer and m false
abbrev pub with_identifiers : List ℕ → Configuration → Configuration
with_identifiers ids c = record {
  size = MAX_ID + 1;
  linked = λ x y. are_linked c (rank_in ids x) (rank_in ids y);
  p = λ x. option_and_then (λ i. renamed (slice_index ids) (c.p i)) (rank_in ids x);
  m = λ x. option_map_or c.m (rank_in ids x) false;
}
