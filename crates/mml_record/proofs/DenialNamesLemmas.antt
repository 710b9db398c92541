-- The denial that is read in a reply's text is that of the reply.
use Rattle.std.proofs.Common.{◌≡◌, ℕ, List, ◌++◌, codes, decimal, refl, ap, Option, Some}
use Rattle.std.specs.Fmt.{digits}
use Rattle.mml_lab.specs.Rosters.{RosterValue}
use Rattle.mml_codec.specs.{declared.reply.Reply.Reply, Facts.object_text, Replies.text}
use Rattle.mml_journal.specs.Words.{◌>>=◌}
use Rattle.mml_record.specs.{DenialMembers.if_clause, DenialMembers.from_clause, DenialMembers.denial_members, DenialNames.denial_word, DenialNames.denial_after, DenialNames.denial_told}
use Rattle.mml_record.specs.{DenialNames.denial_in}
use Rattle.mml_record.proofs.{DenialMembersLemmas.behind_number, DenialMembersLemmas.none_in}
use Rattle.mml_board.specs.declared.denial.Denial.TheVariants as denial
use Rattle.mml_codec.specs.declared.reply.Reply.TheVariants as replies

-- the denial that is read in a reply's text is that of the reply; only `stale` has a number before its clause
pub named_is : (ids : List ℕ) (roster : RosterValue) (r : Reply) → denial_told (text ids roster r) ≡ denial_in r
unfolding object_text denial_members from_clause if_clause denial_after denial_word digits
named_is ids roster (replies.Deny (denial.Stale at)) =
    let members : List ℕ = codes "\"clause\":" ++ (decimal 2 ++ codes ",\"deny\":\"stale\",\"text\":\"this is not the current configuration\"}") in
    ap (λ (m : Option (List ℕ)). m >>= denial_after) (behind_number at members (Some members) refl)
named_is ids roster (replies.Deny d) = refl
named_is ids roster r = ap (λ (m : Option (List ℕ)). m >>= denial_after) (none_in ids roster r tt)
