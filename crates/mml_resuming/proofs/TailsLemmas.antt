-- The bytes after the last newline of an old journal, which may be left out when its class is resumed.
use Rattle.std.proofs.{lemmas.Bool.Decides.nat_tests, lemmas.Bool.leb-true, Common.◌≢◌, Common.◌<◌, Common.◌+◌, Common.ℕ, Common.List, Common.length, Common.nat_le, Common.arith}
use Rattle.mml_journal.specs.declared.TheConstants.{MAX_EVENT_TEXT}
use Rattle.mml_resuming.specs.Resuming.{counted_of, whole_of}

pub tail_is_short : (bytes : List ℕ) → counted_of bytes ≢ bytes → length bytes < length (whole_of bytes) + 102
tail_is_short bytes other = grind (arith, nat_tests, leb-true, nat_le (length bytes) (length (whole_of bytes) + MAX_EVENT_TEXT))
