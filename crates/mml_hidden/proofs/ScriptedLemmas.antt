-- Scripts that are run in two labs that look the same to a student. A world is the state of a run after some events:
-- its network and its chosen moves. Two worlds are alike for a student if everything that the student may see is the
-- same in both. A participant is known on a connection from a granted hello to a bye.
use Rattle.std.proofs.Common.{◌≡◌, ℕ, ◌-◌, Bool, true, List, [], ◌∷◌, Option, None, refl, ◌∙◌, sym, arith}
use Rattle.std.proofs.lemmas.{Bool.cases_lt, Bool.false≢true, Bool.Decides.nat_tests, List.Elements.All-set, List.Elements.All-replicate, List.get_or_past}
use Rattle.mml_lab.specs.{declared.who.Who.Who, Labs.LabValue}
use Rattle.mml_codec.specs.{declared.reply.Reply.Reply, Lines.request_in}
use Rattle.mml_hall.specs.{Turns.State, Turns.Outcome, Turns.Turn, Turns.Run, Turns.RequestLine, Turns.plain_turn, Turns.known_on, Turns.opening, Transcripts.Transcript, Transcripts.output_lines}
use Rattle.mml_hall.proofs.TurnsLemmas.{by_turn}
use Rattle.mml_audit.proofs.AuditMeaningLemmas.{reached_first}
use Rattle.mml_hidden.specs.{Twins.AreTwins, Twins.BeginAlike, Twins.StatesAlike, Twins.is_hers, Sessions.IsUnhindered}
use Rattle.mml_hidden.specs.Scripted.{turn_of, replies_to, end_of, written_to, StayAlike, written_on_any, written_on, IsHersThroughout, OnlySheGreets, OnlySheIsKnown, AreUnhindered, RunAlike}
use Rattle.mml_hidden.specs.Mishaps.{BefallenLine, turn_with, lines_in, replies_with, end_with, StayAlikeWith, AreHersThroughout, Befalls, RunAlikeWith}
use Rattle.mml_hidden.proofs.TwinsLemmas.{twin_turn, twin_plain, entered_is}

module _ (lab other : LabValue) (t : AreTwins lab other) (s : ℕ) where
  -- if the worlds stay alike, the same is written to the student in both labs, also on one connection if it is hers
  -- throughout, and the states at the end are alike
  pub same_script : (st su : State) (lines : List RequestLine) → StatesAlike lab s st su → StayAlike lab other s st su lines
      → (written_to lab s st lines ≡ written_to other s su lines)
      × ((k : ℕ) → IsHersThroughout lab s k st lines → written_on lab k lines (replies_to lab st lines) ≡ written_on other k lines (replies_to other su lines))
      × StatesAlike lab s (end_of lab st lines) (end_of other su lines)
  same_script st su [] a stay = (refl, (λ k hers. refl), a)
  same_script st su (line ∷ lines) a stay =
      let next = twin_plain lab other t s st su a line.connection line.request stay.0 in
      grind (arith, nat_tests, next, same_script (turn_of lab st line).state (turn_of other su line).state lines next.1 stay.1)

-- ---- scripts in which only this student greets

-- if nobody but the student is known, she or nobody is known on each connection
hers_on : (s : ℕ) (st : State) (k : ℕ) → OnlySheIsKnown s st → is_hers s (known_on st k) ≡ true
hers_on s st k all = grind (arith, nat_tests, cases_lt, get_or_past)

hers_plain : (lab : LabValue) (s : ℕ) (st : State) (line : RequestLine) → OnlySheIsKnown s st → OnlySheGreets lab s (line ∷ [])
    → OnlySheIsKnown s (turn_of lab st line).state
unfolding plain_turn
hers_plain lab s st line all greets =
    let set = All-set (λ (known : Option Who). is_hers s known ≡ true) st.greeted (line.connection - 1) in
    grind (arith, nat_tests, set, entered_is, hers_on s st line.connection all, request_in line.request)

module _ (lab other : LabValue) (t : AreTwins lab other) (s : ℕ) where
  -- if only the student greets, the same lines have the same replies and the same output in both labs
  pub same_replies : (st su : State) (lines : List RequestLine) → StatesAlike lab s st su → OnlySheIsKnown s st → OnlySheGreets lab s lines
      → (replies_to lab st lines ≡ replies_to other su lines)
      × (output_lines lab lines (replies_to lab st lines) ≡ output_lines other lines (replies_to other su lines))
  same_replies st su [] a all greets = (refl, refl)
  same_replies st su (line ∷ lines) a all greets =
      let hers = hers_on s st line.connection all in
      let next = twin_plain lab other t s st su a line.connection line.request (λ no. absurd (false≢true (sym no ∙ hers))) in
      let still = hers_plain lab s st line all (greets.0, tt) in
      grind (arith, nat_tests, hers, next, same_replies (turn_of lab st line).state (turn_of other su line).state lines next.1 still greets.1)

-- ---- the beginning of a run

-- if two labs begin alike for the student, the first states of their runs are alike
pub openings_alike : (lab other : LabValue) (s : ℕ) → BeginAlike lab other s → StatesAlike lab s (opening lab) (opening other)
openings_alike lab other s labs = grind (arith, nat_tests, reached_first)

-- in the first state nobody is known, so nobody but the student is known
pub opening_hers : (lab : LabValue) (s : ℕ) → OnlySheIsKnown s (opening lab)
opening_hers lab s = All-replicate (λ (known : Option Who). is_hers s known ≡ true) lab.sessions None refl

-- ---- runs without mishaps consist of plain turns

plain_there : (lab : LabValue) (st : State) (k : ℕ) (line : List ℕ) (out : Outcome) → Turn lab st k line out → IsUnhindered out.reply
    → out ≡ plain_turn lab st k line
plain_there lab st k line = grind (arith, nat_tests, by_turn)

-- if no reply of a run is the refusal `memory` or `journal`, its replies and its last state are those of plain turns
pub plain_run : (lab : LabValue) (st : State) (lines : List RequestLine) (rs : List Reply) (end : State) → Run lab st lines rs end → AreUnhindered rs
    → (rs ≡ replies_to lab st lines) × (end ≡ end_of lab st lines)
plain_run lab st (line ∷ lines) (r ∷ rs) end (next, here, run) (now, free) = grind (arith, nat_tests, plain_there, (plain_run lab next lines rs end run free))
plain_run lab st _ _ end run free = grind arith

-- the replies in a transcript are those of plain turns if none is the refusal `memory` or `journal`
pub plain_transcript : (lab : LabValue) (t : Transcript lab) → AreUnhindered t.replies → t.replies ≡ replies_to lab (opening lab) t.lines
plain_transcript lab t free = (plain_run lab (opening lab) t.lines t.replies t.end t.run free).0

-- if the worlds stay alike, the same lines have the same output on a connection of the student
pub same_on_connection : (lab other : LabValue) (s k : ℕ) (t : Transcript lab) (u : Transcript other) → RunAlike lab other s k t u
    → written_on lab k t.lines t.replies ≡ written_on other k u.lines u.replies
same_on_connection lab other s k t u alike =
    let both = same_script lab other alike.labs.twins s (opening lab) (opening other) t.lines (openings_alike lab other s alike.labs) alike.worlds in
    grind (arith, nat_tests, both, plain_transcript lab t alike.first, plain_transcript other u alike.second)

-- ---- two runs of one script with the same mishaps

module _ (lab other : LabValue) (t : AreTwins lab other) (s : ℕ) where
  -- if the same lines have the same mishaps in both runs, and the worlds stay alike, the output on connections that are
  -- the student's throughout is the same, and the states at the end are alike
  pub same_with : (st su : State) (bs : List BefallenLine) → StatesAlike lab s st su → StayAlikeWith lab other s st su bs
      → ((some : ℕ → Bool) → AreHersThroughout lab s some st bs
      → written_on_any lab some (lines_in bs) (replies_with lab st bs) ≡ written_on_any other some (lines_in bs) (replies_with other su bs))
      × StatesAlike lab s (end_with lab st bs) (end_with other su bs)
  same_with st su [] a stay = ((λ some hers. refl), a)
  same_with st su (b ∷ bs) a stay =
      let next = twin_turn lab other t s st su a b.mishap b.line.connection b.line.request stay.0 in
      grind (arith, nat_tests, next, same_with (turn_with lab st b).state (turn_with other su b).state bs next.1 stay.1)

-- if the same lines have the same mishaps in both runs, and the worlds stay alike, the output on the student's
-- connections is the same
pub same_transcripts_with : (lab other : LabValue) (s : ℕ) (some : ℕ → Bool) (t : Transcript lab) (u : Transcript other) (bs : List BefallenLine)
    → RunAlikeWith lab other s some t u bs → written_on_any lab some t.lines t.replies ≡ written_on_any other some u.lines u.replies
same_transcripts_with lab other s some t u bs alike =
    grind (arith, nat_tests, same_with lab other alike.labs.twins s (opening lab) (opening other) bs, openings_alike lab other s alike.labs)

-- in each run, each line has a mishap, which may be `nothing`
pub run_befalls : (lab : LabValue) (st : State) (lines : List RequestLine) (rs : List Reply) (end : State) → Run lab st lines rs end
    → Befalls lab st lines rs end
run_befalls lab st [] [] end run = record { befallen = []; lines_are = refl; replies_are = refl; end_is = run }
run_befalls lab st (line ∷ lines) (r ∷ rs) end (next, (m, e), run) =
    let rest : Befalls lab next lines rs end = run_befalls lab next lines rs end run in
    record { befallen = record { line = line; mishap = m } ∷ rest.befallen; lines_are = grind arith; replies_are = grind arith; end_is = grind arith }
run_befalls lab st _ _ end run = absurd run
