-- The keys of each reply and their facts (values). The text of a reply and its JSON value are made from these. A clause
-- is a condition under which a request is granted. The roster has the participants of the lab, and the owners of each
-- node.
use Rattle.std.specs.Prelude.{◌≡◌, ◌⊎◌, ℕ, ◌<◌, List, [], ◌∷◌, ◌++◌, length, Bool, true, false, Option, None, Some, codes}
use Rattle.mml_board.specs.{declared.done.Done.Done, declared.denial.Denial.Denial, Denials.clause_of, Denials.text_of}
use Rattle.mml_lab.specs.Rosters.{RosterValue, name_of, IsPrincipal}
use Rattle.mml_policy.specs.{declared.look.Look.Look, declared.see.See.See, About.IsSeen, About.IsLookedAt}
use Rattle.mml_stable.specs.{declared.stability_report.Report.Report, Reports.NamesNodes}
use Rattle.mml_codec.specs.{declared.reply.Refused.Refused, declared.reply.Reply.Reply, Facts.Fact, Facts.Fields, Facts.object_text}
use Rattle.mml_board.specs.declared.done.Done.TheVariants as done
use Rattle.mml_board.specs.Vocabulary as verb
use Rattle.mml_board.specs.declared.denial.Denial.TheVariants as denial
use Rattle.mml_board.specs.Denials as denials
use Rattle.mml_codec.specs.declared.reply.Refused.TheVariants as refused
use Rattle.mml_codec.specs.declared.reply.Reply.TheVariants as replies
use Rattle.mml_codec.specs.Facts as fact

-- ---- the keys of each reply, with their facts

-- the key `ok` with the word of the granted request
abbrev pub ok : List ℕ → List ℕ × Fact
ok word = (codes "ok", fact.word word)

-- the key with the number of a configuration
abbrev pub at_key : ℕ → List ℕ × Fact
at_key at = (codes "at", fact.count at)

-- the key with the place of an event, its number in the list of events
abbrev pub place_key : ℕ → List ℕ × Fact
place_key place = (codes "place", fact.count place)

-- the reply to a link or a cut; `word` is the value of its key `ok`
abbrev pub ends_fields : List ℕ → ℕ → ℕ → ℕ → ℕ → ℕ → Fields
ends_fields word at place a b dropped =
    (codes "a", fact.node a) ∷ at_key at ∷ (codes "b", fact.node b) ∷ (codes "dropped", fact.count dropped) ∷ ok word ∷ place_key place ∷ []

-- the reply to an event; `at` is the number of the configuration after it, and `place` is the event's place
abbrev pub done_fields : ℕ → ℕ → Done → Fields
done_fields at place (done.Move node kind) =
    at_key at ∷ (codes "node", fact.node node) ∷ ok verb.move.told ∷ place_key place ∷ (codes "rule", fact.rule kind) ∷ []
done_fields at place (done.Close moved) = at_key at ∷ (codes "moved", fact.moved moved) ∷ ok verb.close.told ∷ place_key place ∷ []
done_fields at place (done.Fault node dropped) =
    at_key at ∷ (codes "dropped", fact.count dropped) ∷ (codes "node", fact.node node) ∷ ok verb.fault.told ∷ place_key place ∷ []
done_fields at place (done.Link a b dropped) = ends_fields verb.link.told at place a b dropped
done_fields at place (done.Cut a b dropped) = ends_fields verb.cut.told at place a b dropped
done_fields at place (done.Release node) = at_key at ∷ (codes "node", fact.node node) ∷ ok verb.release.told ∷ place_key place ∷ []

-- the reply to a hello, with the name of the participant who is known from then on
abbrev pub hello_fields : List ℕ → Fields
hello_fields name = ok verb.hello ∷ (codes "who", fact.word name) ∷ []

-- the reply to a bye
abbrev pub bye_fields : Fields
bye_fields = ok verb.bye ∷ []

-- the keys of the reply to a see
abbrev pub see_fields : See → Fields
see_fields s = at_key s.at ∷ (codes "m", fact.truth s.regs.m) ∷ (codes "node", fact.node s.node) ∷ ok verb.see ∷ (codes "p", fact.pointer s.regs.p) ∷ []

-- the keys of the reply to a look
abbrev pub look_fields : Look → Fields
look_fields l = at_key l.at ∷ (codes "chosen", fact.rule_or_null l.chosen) ∷ (codes "m", fact.truth l.regs.m) ∷ (codes "near", fact.near l.near)
    ∷ (codes "node", fact.node l.node) ∷ ok verb.look ∷ (codes "p", fact.pointer l.regs.p) ∷ (codes "rule", fact.rule_or_null l.enabled) ∷ []

-- the keys of a report
abbrev pub report_fields : Report → Fields
report_fields r = at_key r.at ∷ (codes "free", fact.nodes r.free) ∷ ok verb.report ∷ (codes "open", fact.open_links r.open_links)
    ∷ (codes "pairs", fact.pairs r.pairs) ∷ (codes "privileged", fact.privileged r.privileged) ∷ (codes "stable", fact.truth r.stable) ∷ []

-- the number of the current configuration, which only the denial `stale` has
abbrev pub current_number : Denial → Option ℕ
current_number (denial.Stale at) = Some at
current_number _ = None

-- the key `at` with a number, if there is one, before the other fields
abbrev pub number_first : Option ℕ → Fields → Fields
number_first None fs = fs
number_first (Some at) fs = at_key at ∷ fs

-- the clause, the name and the text of a denial
abbrev pub told_fields : ℕ → List ℕ → List ℕ → Fields
told_fields clause name said = (codes "clause", fact.clause clause) ∷ (codes "deny", fact.word name) ∷ (codes "text", fact.word said) ∷ []

-- the keys of a denial
abbrev pub deny_fields : Denial → Fields
deny_fields d = number_first (current_number d) (told_fields (clause_of d) (denials.denial_name d) (text_of d))

-- the word of a refusal
abbrev pub refusal_name : Refused → List ℕ
refusal_name refused.Malformed = codes "malformed"
refusal_name refused.Full = codes "full"
refusal_name refused.Journal = codes "journal"
refusal_name refused.Memory = codes "memory"

-- the keys of a refusal
abbrev pub refuse_fields : Refused → Fields
refuse_fields r = (codes "refuse", fact.word (refusal_name r)) ∷ []

-- the keys of each reply, and their facts
abbrev pub fields_of : RosterValue → Reply → Fields
fields_of roster (replies.Hello who) = hello_fields (name_of roster who)
fields_of roster replies.Bye = bye_fields
fields_of roster (replies.See s) = see_fields s
fields_of roster (replies.Look l) = look_fields l
fields_of roster (replies.Move at place node kind) = done_fields at place (done.Move node kind)
fields_of roster (replies.Close at place moved) = done_fields at place (done.Close moved)
fields_of roster (replies.Fault at place node dropped) = done_fields at place (done.Fault node dropped)
fields_of roster (replies.Link at place a b dropped) = done_fields at place (done.Link a b dropped)
fields_of roster (replies.Cut at place a b dropped) = done_fields at place (done.Cut a b dropped)
fields_of roster (replies.Release at place node) = done_fields at place (done.Release node)
fields_of roster (replies.Report r) = report_fields r
fields_of roster (replies.Deny d) = deny_fields d
fields_of roster (replies.Refuse r) = refuse_fields r

-- ---- the text and the line of a reply

-- the text of a reply, in a lab with these identifiers and this roster
abbrev pub text : List ℕ → RosterValue → Reply → List ℕ
text ids roster r = object_text ids (fields_of roster r)

-- the line of a reply: its text with a newline at its end
abbrev pub reply_line : List ℕ → RosterValue → Reply → List ℕ
reply_line ids roster r = text ids roster r ++ 10 ∷ []

-- whether the reply is neither a look nor a report; then it has no list except a set of nodes, so the length of its
-- line is limited
abbrev pub is_short : Reply → Bool
is_short (replies.Look l) = false
is_short (replies.Report r) = false
is_short _ = true

-- the second reply is sent in place of the first: it is the same reply or, if the first isn't short, the refusal that
-- memory ran out
abbrev pub TellsFor : Reply → Reply → Type 0
TellsFor reply told = (told ≡ reply) ⊎ ((is_short reply ≡ false) × (told ≡ replies.Refuse refused.Memory))

-- an optional number as a list of at most one element
abbrev pub as_list : Option ℕ → List ℕ
as_list None = []
as_list (Some n) = n ∷ []

-- the place of the event that the reply is about, or None if it is about no event
abbrev pub place_in : Reply → Option ℕ
place_in (replies.Move at place node k) = Some place
place_in (replies.Close at place moved) = Some place
place_in (replies.Fault at place node dropped) = Some place
place_in (replies.Link at place a b dropped) = Some place
place_in (replies.Cut at place a b dropped) = Some place
place_in (replies.Release at place node) = Some place
place_in _ = None

-- the reply names only nodes and participants of the lab
abbrev pub IsAbout : List ℕ → RosterValue → Reply → Type 0
IsAbout ids roster (replies.Hello who) = IsPrincipal roster who
IsAbout ids roster (replies.See s) = IsSeen ids s
IsAbout ids roster (replies.Look l) = IsLookedAt ids l
IsAbout ids roster (replies.Move at place node k) = node < length ids
IsAbout ids roster (replies.Fault at place node dropped) = node < length ids
IsAbout ids roster (replies.Link at place a b dropped) = (a < length ids) × (b < length ids)
IsAbout ids roster (replies.Cut at place a b dropped) = (a < length ids) × (b < length ids)
IsAbout ids roster (replies.Release at place node) = node < length ids
IsAbout ids roster (replies.Report r) = NamesNodes (length ids) r
IsAbout ids roster _ = Unit {0}
