-- A participant who sees a node can be shown something at any time. A reply shows something if it is that to a see, a
-- look or a report. The known participant is the one whose hello was granted in the session.
use Rattle.std.{proofs.lemmas.Bool.Decides.nat_tests, specs.List.All, proofs.lemmas.Bool.or_right, proofs.lemmas.Bool.false≢true, proofs.lemmas.Fmt.length-decimal-le}
use Rattle.std.{proofs.lemmas.List.get_or_default}
use Rattle.std.proofs.Common.{◌≡◌, ◌≢◌, ℕ, ◌<◌, ◌≤◌, ◌^◌, true, List, [], length, slice_index, refl, Option, None, Some, Ok, arith, length-append}
use Rattle.mml_ids.specs.{Lines.IsUnbroken, Ids.rank_in}
use Rattle.mml_ids.proofs.{SearchLemmas.some_below-find, GivesLemmas.bind-from, GivesLemmas.need-from, IdsLemmas.rank_of_id}
use Rattle.mml_lab.specs.{declared.who.Who.Who, Labs.LabValue, Labs.IsLab, Rosters.owns}
use Rattle.mml_lines.specs.LinesOf.{IsWithinLimit}
use Rattle.mml_board.specs.{declared.event.Event.Event, Lists.world_in}
use Rattle.mml_policy.specs.{declared.command.Command.Command, Rulings.after_ruling}
use Rattle.mml_codec.specs.{declared.TheConstants.MAX_REQUEST, Canonical.canonical, Canonical.IsWritable, Lines.request_in, Rulings.reply_of}
use Rattle.mml_codec.proofs.CanonicalLemmas.{canonical_line, request_in-canonical}
use Rattle.json.specs.Print.{escape_byte}
use Rattle.mml_window.specs.Rulings.{ruling_at}
use Rattle.mml_session.specs.Records.{is_shown}
use Rattle.mml_record.specs.Certified.{sees_some}
use Rattle.mml_record.proofs.RiseLemmas.{owned_within}
use Rattle.mml_lab.specs.declared.who.Who.TheVariants as who
use Rattle.mml_policy.specs.declared.command.Command.TheVariants as command
use Rattle.mml_codec.specs.declared.request.Request.TheVariants as requests

-- after these events, the reply to the command shows something
abbrev pub Shows : LabValue → List Event → Who → Command → Type 0
Shows lab first x c =
    is_shown (reply_of (after_ruling (world_in lab first) (ruling_at lab (world_in lab first) x c)) (ruling_at lab (world_in lab first) x c)) ≡ true

-- after these events, the known participant has a line whose reply shows something
abbrev pub CanBeShown : LabValue → List Event → Option Who → Type 0
CanBeShown lab first known =
    (who : Who) × (known ≡ Some who) × (line : List ℕ) × IsWithinLimit MAX_REQUEST line × (c : Command) × (request_in line ≡ Ok (requests.Do c))
    × Shows lab first who c

pub unbroken_all : (bs : List ℕ) → All (λ b. b ≢ 10) bs → IsUnbroken bs
unbroken_all bs h = λ i k. h i 0 k

by_request : (lab : LabValue) (first : List Event) (x : Who) (c : Command) → IsWritable (requests.Do c) → length (canonical (requests.Do c)) ≤ MAX_REQUEST
    → Shows lab first x c → CanBeShown lab first (Some x)
by_request lab first x c can short shows = grind (arith, nat_tests, unbroken_all, canonical_line, request_in-canonical)

-- ---- the teacher's report

teacher_shown : (lab : LabValue) (first : List Event) → CanBeShown lab first (Some who.Teacher)
unfolding canonical escape_byte
teacher_shown lab first = by_request lab first who.Teacher command.Report (tt, tt) (omega arith) refl

-- ---- an owner's look

look_short : (n : ℕ) → n < 2 ^ 64 → length (canonical (requests.Do (command.Look n))) ≤ MAX_REQUEST
unfolding canonical escape_byte
look_short n small = grind (arith, nat_tests, length-decimal-le 20 n (omega arith) (omega arith) small, length-append)

look_shows : (lab : LabValue) (first : List Event) (x : Who) (i id : ℕ) → rank_in lab.ids id ≡ Some i → owns lab.roster x i ≡ true
    → Shows lab first x (command.Look id)
look_shows lab first x i id rank own = grind (arith, nat_tests, or_right, bind-from, need-from)

owner_shown : (lab : LabValue) → IsLab lab → (first : List Event) (x : Who) (i : ℕ) → owns lab.roster x i ≡ true → CanBeShown lab first (Some x)
owner_shown lab is first x i own =
    let there : i < length lab.ids = omega (arith, owned_within lab.roster x i own, is.owned) in
    let small : slice_index lab.ids i < 2 ^ 64 = omega (arith, is.ids.within i there) in
    let rank = rank_of_id lab.ids i (slice_index lab.ids i) is.ids there (get_or_default lab.ids i 0 (slice_index lab.ids i) there) in
    by_request lab first x (command.Look (slice_index lab.ids i)) (tt, (small, tt)) (look_short (slice_index lab.ids i) small)
    (look_shows lab first x i (slice_index lab.ids i) rank own)

-- a known participant who sees a node can be shown something
pub sees_shown : (lab : LabValue) → IsLab lab → (first : List Event) (known : Option Who) → sees_some lab.roster known ≡ true → CanBeShown lab first known
sees_shown lab is first None h = absurd (false≢true h)
sees_shown lab is first (Some who.Teacher) h = teacher_shown lab first
sees_shown lab is first (Some (who.Student s)) h =
    let f = some_below-find (length lab.roster.owners) (owns lab.roster (who.Student s)) h in owner_shown lab is first (who.Student s) f.0 f.2
