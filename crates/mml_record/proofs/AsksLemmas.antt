-- What is found in the bytes of a record's lines and replies is what the rules say of them. The known participant is
-- the one whose hello was granted in the session.
use Rattle.std.proofs.Common.{◌≡◌, ℕ, Bool, true, false, true≢false, cond, List, [], ◌∷◌, ◌++◌, length, take, codes, decimal, inr, refl, sym, ap, ◌∙◌, arith, Option, Some, Result, inl}
use Rattle.std.{specs.Prelude.bytes_eq, specs.Fmt.digits, proofs.lemmas.Bool.Decides.nat_tests, proofs.lemmas.Slice.Eq.bytes_eq-Decides}
use Rattle.mml_ids.specs.Lines.{ended}
use Rattle.mml_lab.specs.{declared.who.Who.Who, Labs.LabValue, Rosters.RosterValue}
use Rattle.mml_board.specs.{declared.event.Event.Event, declared.denial.Denial.Denial, Denials.clause_of}
use Rattle.mml_codec.specs.{declared.request.LineFault.LineFault, declared.request.Request.Request, declared.reply.Reply.Reply, Facts.object_text, Lines.request_in, Replies.text, Replies.reply_line}
use Rattle.mml_record.specs.{declared.kept_entry.Entry.Entry, declared.stage.Stage.Stage, DenialMembers.if_clause, DenialMembers.from_clause, DenialMembers.denial_members}
use Rattle.mml_record.specs.Certified.{FitsAsked, Fits, GoesOn}
use Rattle.mml_record.specs.Asks.{unended, clause_of_members, clause_told, memory_text, known_asked, known_after, ask_of, asks_from, clause_in, asked_with, AreAskedOf}
use Rattle.mml_journal.specs.Words.{◌>>=◌}
use Rattle.mml_record.proofs.{TextLineLemmas.front_of, OnceLemmas.fits_once, DenialMembersLemmas.behind_number, DenialMembersLemmas.none_in, NumberedLemmas.numbered, RefusalsLemmas.reason_is}
use Rattle.mml_record.proofs.{DenialNamesLemmas.named_is}
use Rattle.mml_board.specs.declared.denial.Denial.TheVariants as denial
use Rattle.mml_codec.specs.declared.reply.Refused.TheVariants as refused
use Rattle.mml_codec.specs.declared.reply.Reply.TheVariants as replies
use Rattle.mml_record.specs.declared.kept_entry.Entry.TheVariants as entry

-- ---- the clause in a reply's text

stale : (at : ℕ) (rest : List ℕ) → clause_told (numbered at (codes "\"clause\":" ++ (decimal 2 ++ rest))) ≡ Some 2
unfolding if_clause digits
stale at rest = ap (λ (m : Option (List ℕ)). m >>= clause_of_members) (behind_number at (codes "\"clause\":" ++ (decimal 2 ++ rest)) _ refl)

denied_is : (ids : List ℕ) (roster : RosterValue) (d : Denial) → clause_told (text ids roster (replies.Deny d)) ≡ Some (clause_of d)
unfolding object_text denial_members from_clause if_clause digits
denied_is ids roster (denial.Stale at) = stale at (codes ",\"deny\":\"stale\",\"text\":\"this is not the current configuration\"}")
denied_is ids roster _ = refl

pub told_is : (ids : List ℕ) (roster : RosterValue) (r : Reply) → clause_told (text ids roster r) ≡ clause_in r
told_is ids roster (replies.Deny d) = denied_is ids roster d
told_is ids roster r = ap (λ (m : Option (List ℕ)). m >>= clause_of_members) (none_in ids roster r tt)

-- ---- who is known

memory_is : (ids : List ℕ) (roster : RosterValue) → text ids roster (replies.Refuse refused.Memory) ≡ memory_text
unfolding object_text
memory_is ids roster = refl

pub unended_is : (bytes : List ℕ) → unended (ended bytes) ≡ bytes
unended_is bytes = front_of bytes (ended bytes) (unended (ended bytes)) (length (ended bytes)) refl refl refl

module _ (lab : LabValue) (l first : List Event) (known : Option Who) (r : Reply) (known' : Option Who) where
  asked_is : (asked : Result Request LineFault) → FitsAsked lab l first known asked r known' → known_asked lab.roster known asked ≡ known'
  asked_is asked f = grind (arith, nat_tests)

  by_text : (line : List ℕ) (b : Bool) → bytes_eq (text lab.ids lab.roster r) memory_text ≡ b → Fits lab l first known line r known'
      → cond b known (known_asked lab.roster known (request_in line)) ≡ known'
  by_text line true e f =
      let bytes = (bytes_eq-Decides (text lab.ids lab.roster r) memory_text).0 e in
      let same = ap (λ (t : List ℕ). t ++ 10 ∷ []) (bytes ∙ sym (memory_is lab.ids lab.roster)) in
      sym (fits_once lab l first known line r (replies.Refuse refused.Memory) known' known same f (inr (refl, refl))).0
  by_text line false e (inl f) = asked_is (request_in line) f
  by_text line false e (inr f) =
      let bytes = ap (λ (x : Reply). text lab.ids lab.roster x) f.0 ∙ memory_is lab.ids lab.roster in
      absurd (true≢false (sym ((bytes_eq-Decides (text lab.ids lab.roster r) memory_text).1 bytes) ∙ e))

-- who is known after a line follows from the bytes of its reply's line
pub known_of : (lab : LabValue) (l : List Event) (p : ℕ) (known : Option Who) (line out : List ℕ) (r : Reply) (known' : Option Who)
    → out ≡ reply_line lab.ids lab.roster r → Fits lab l (take p l) known line r known' → known_after lab.roster known line (unended out) ≡ known'
unfolding known_after
known_of lab l p known line out r known' at f =
    ap (known_after lab.roster known line) (ap unended at ∙ unended_is (text lab.ids lab.roster r))
    ∙ by_text lab l (take p l) known r known' line (bytes_eq (text lab.ids lab.roster r) memory_text) refl f

-- ---- all entries

ask_is : (lab : LabValue) (known : Option Who) (line out : List ℕ) (r : Reply) → out ≡ reply_line lab.ids lab.roster r
    → ask_of known line out ≡ asked_with known line r
ask_is lab known line out r at =
    let bytes : unended out ≡ text lab.ids lab.roster r = ap unended at ∙ unended_is (text lab.ids lab.roster r) in
    grind (arith, nat_tests, bytes, told_is lab.ids lab.roster r, named_is lab.ids lab.roster r, reason_is lab.ids lab.roster r)

pub asked_of_rules : (lab : LabValue) (l : List Event) (known : Option Who) (stage : Stage) (least : ℕ) (es : List Entry) (ps : List ℕ)
    → GoesOn lab l known stage least es ps → AreAskedOf lab l known es (asks_from lab.roster known es)
asked_of_rules lab l known stage least [] ps on = refl
asked_of_rules lab l known stage least (entry.Said p line out ∷ es) ps on =
    let behind = known_of lab l p known line out on.3 on.4 on.7 on.8.1 in
    let rest = asked_of_rules lab l on.4 _ _ es on.5 on.10 in
    (on.3, on.4, asks_from lab.roster on.4 es, on.7, on.8.1, λ k. ask_is lab known line out on.3 on.7 k ∷ asks_from lab.roster (behind k) es, rest)
asked_of_rules lab l known stage least (entry.Resumed p missed ∷ es) ps on = asked_of_rules lab l _ _ _ es ps on.4
asked_of_rules lab l known stage least (_ ∷ es) ps on = asked_of_rules lab l _ _ _ es ps on.2
