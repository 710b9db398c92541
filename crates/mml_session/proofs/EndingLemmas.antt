-- The lines that were answered so far, their replies, which are buffered and then written together, and how the session
-- may end after them. A talk has the answered lines of a session, with their replies. The known participant is the one
-- whose hello was granted.
use Rattle.std.proofs.{lemmas.Bool.Decides.nat_tests, lemmas.List.Concat.flat_map-append, Math.Seq.take-append-add, KnownBytes.Appends-trans, KnownBytes.Consumes-trans, Common.take-append-drop}
use Rattle.std.proofs.Common.{◌≡◌, ◌≢◌, ◌⊎◌, ℕ, ◌+◌, ◌*◌, ◌-◌, ◌<◌, ◌≤◌, List, [], ◌∷◌, ◌++◌, length, take, drop, false, codes, inl, inr, refl, sym, ◌∙◌, ap, subst, append_assoc, append-nil}
use Rattle.std.{proofs.Common.length-append, proofs.Common.length-drop, proofs.Common.arith, proofs.Common.Option, proofs.Common.Some, specs.List.AllByRecursion}
use Rattle.std.specs.Io.KnownBytes.{Consumes, Appends, prepend_known}
use Rattle.mml_lab.specs.{declared.who.Who.Who, Labs.LabValue, Rosters.RosterValue}
use Rattle.mml_ids.specs.Lines.{ended}
use Rattle.mml_lines.specs.declared.lines.TheConstants.{READ_SIZE}
use Rattle.mml_lines.proofs.{KnownBytesLemmas.none_taken, KnownBytesLemmas.put_back, RunsLemmas.longer, RunsLemmas.run_longer, RunsLemmas.flat_longer}
use Rattle.mml_codec.specs.{declared.reply.Reply.Reply, Facts.Fact, Facts.Fields, Facts.fact_then, Facts.fields_after, Facts.object_text, Replies.fields_of, Replies.reply_line}
use Rattle.mml_window.specs.Windows.{WindowValue}
use Rattle.mml_session.specs.declared.{session.SessionEnd.SessionEnd, session.Ending.Ending, held.TheConstants.HELD_BYTES, entry.Entry.Entry}
use Rattle.mml_session.specs.{Turns.Standing, Turns.Turn, Turns.Run, Turns.is_bye, Ends.AllAnswered, Ends.LastAnswered, Serving.ServesNext}
use Rattle.mml_session.specs.Holding.{IsHeldOrOut, HoldsBack, BreaksOff, BreaksInLastFlush, LacksLastFlush, LetsOut}
use Rattle.mml_session.specs.Talks.{Talk, LineTurn, nobody_known, bytes_read, bytes_written, line_read, line_written, reply_lines}
use Rattle.mml_session.specs.Records.{Kept, Records, EndedRecorded, entries_of, line_entries, left_at, run_entries, turn_entries}
use Rattle.mml_session.proofs.RecordLemmas.{records_trans}
use Rattle.mml_codec.specs.Facts as fact
use Rattle.mml_session.specs.declared.session.SessionEnd.TheVariants as ends
use Rattle.mml_session.specs.declared.session.Next.TheVariants as next

-- ---- how many bytes the line of a reply has

-- how many bytes a value has at least: those of a word and its quotes; none are counted for other values
abbrev least : Fact → ℕ
least (fact.word w) = 2 + length w
least _ = 0

value_least : (ids : List ℕ) (f : Fact) (rest : List ℕ) → least f + length rest ≤ length (fact_then ids f rest)
value_least ids f rest = grind (arith, nat_tests, length-append)

-- how many bytes fields have at least: each key with its quotes and the colon, each value, and the closing brace
abbrev least_of : Fields → ℕ
least_of [] = 1
least_of (f ∷ fs) = 3 + length f.0 + least f.1 + least_of fs

fields_least : (ids first : List ℕ) (fs : Fields) → least_of fs ≤ length (fields_after ids first fs)
fields_least ids first [] = omega arith
fields_least ids first (f ∷ fs) = grind (arith, nat_tests, length-append, value_least, fields_least ids (codes ",") fs)

object_least : (ids : List ℕ) (fs : Fields) → least_of fs + 2 ≤ length (object_text ids fs ++ 10 ∷ [])
unfolding object_text
object_least ids fs = omega (arith, fields_least ids [] fs, length-append (codes "{" ++ fields_after ids [] fs) (10 ∷ []))

line_least : (ids : List ℕ) (roster : RosterValue) (r : Reply) → is_bye r ≡ false → 16 ≤ length (reply_line ids roster r)
line_least ids roster r other = grind (arith, nat_tests, object_least ids (fields_of roster r))

lines_least : (lab : LabValue) (before rs : List Reply) → AllByRecursion (λ r. is_bye r ≡ false) (before ++ rs) → 16 * length rs ≤ length (reply_lines lab rs)
lines_least lab (b ∷ before) rs all = lines_least lab before rs all.1
lines_least lab [] [] all = omega arith
lines_least lab [] (r ∷ rs) all =
    omega (arith, length-append (reply_line lab.ids lab.roster r) (reply_lines lab rs), line_least lab.ids lab.roster r all.0, lines_least lab [] rs all.1)

-- ---- replies that are written, and then those that are buffered

module _ (lab : LabValue) where
  -- the lines of all replies are those that are written, and then those that are buffered
  parted : (rs flushed buffered : List Reply) (more : List ℕ) → rs ≡ flushed ++ buffered
      → reply_lines lab rs ++ more ≡ reply_lines lab flushed ++ (reply_lines lab buffered ++ more)
  parted rs flushed buffered more parts = grind (arith, nat_tests, flat_map-append, append_assoc)

  -- if the buffered lines and more bytes are written, the lines of all replies and these bytes are written
  back_out : (a b c : Option (List ℕ)) (rs : List Reply) (held more : List ℕ) → HoldsBack lab a b rs held → Appends b c (held ++ more)
      → Appends a c (reply_lines lab rs ++ more)
  back_out a b c rs held more h k =
      rw (parted rs h.flushed h.buffered more h.parts, ← h.lines) (Appends-trans a b c (reply_lines lab h.flushed) (held ++ more) h.written k)

  -- if one more reply's line is buffered, or written with the buffered lines, the buffer still has the lines of the
  -- last replies
  back_on : (a b c : Option (List ℕ)) (rs : List Reply) (held held' : List ℕ) (r : Reply) → HoldsBack lab a b rs held
      → IsHeldOrOut b c (held ++ reply_line lab.ids lab.roster r) held' → HoldsBack lab a c (rs ++ r ∷ []) held'
  back_on a b c rs held held' r h (inl k) = grind (arith, nat_tests, append_assoc, flat_longer)
  back_on a b c rs held held' r h (inr k) =
      let written : Appends a c (reply_lines lab (rs ++ r ∷ [])) = rw flat_longer (back_out a b c rs held (reply_line lab.ids lab.roster r) h k.1) in
      record { flushed = rs ++ r ∷ []; buffered = []; parts = sym (append-nil (rs ++ r ∷ [])); lines = k.0; written = written }

  -- if the flush of the buffered lines and of one more reply's line broke off, only bytes of this flush are missing
  back_off : (a b c : Option (List ℕ)) (rs : List Reply) (held : List ℕ) (r : Reply) → HoldsBack lab a b rs held → length held ≤ HELD_BYTES
      → BreaksOff b c (held ++ reply_line lab.ids lab.roster r) → (n : ℕ) × (n < length (reply_lines lab rs ++ reply_line lab.ids lab.roster r))
      × Appends a c (take n (reply_lines lab rs ++ reply_line lab.ids lab.roster r)) × BreaksInLastFlush lab rs n
  back_off a b c rs held r h few k =
      let line = reply_line lab.ids lab.roster r in
      let sent = reply_lines lab h.flushed in
      let all : reply_lines lab rs ++ line ≡ sent ++ (held ++ line) = rw h.lines (parted rs h.flushed h.buffered line h.parts) in (
        length sent + k.0,
        omega (arith, k.1, ap length all, length-append sent (held ++ line)),
        rw (all, take-append-add sent (held ++ line) k.0) (Appends-trans a b c sent (take k.0 (held ++ line)) h.written k.2),
        record { flushed = h.flushed; buffered = h.buffered; parts = h.parts; whole = omega arith; few = rw h.lines at few },
      )

  -- if contracts can name the writer's bytes, and the last flush broke off, only bytes of this flush are missing
  -- (`LacksLastFlush`)
  pub lacks_rest : (rs : List Reply) (last : Reply) (wrote wrote' : List ℕ) (n : ℕ) → n < length (reply_lines lab rs ++ reply_line lab.ids lab.roster last)
      → Appends (Some wrote) (Some wrote') (take n (reply_lines lab rs ++ reply_line lab.ids lab.roster last)) → BreaksInLastFlush lab rs n
      → AllByRecursion (λ r. is_bye r ≡ false) rs → LacksLastFlush lab rs last wrote wrote'
  lacks_rest rs last wrote wrote' n less put b each =
      let line = reply_line lab.ids lab.roster last in
      let sent = reply_lines lab b.flushed in
      let flush = reply_lines lab b.buffered ++ line in
      let m = n - length sent in
      let all = parted rs b.flushed b.buffered line b.parts in
      let count : n ≡ length sent + m = omega (arith, b.whole) in
      let first = ap (λ k. take k (reply_lines lab rs ++ line)) count ∙ ap (take (length sent + m)) all ∙ take-append-add sent flush m in
      record {
        flushed = b.flushed;
        buffered = b.buffered;
        part = take m flush;
        lacking = drop m flush;
        parts = b.parts;
        written = put ∙ ap (λ l. wrote ++ l) first;
        rest = take-append-drop m flush;
        some = omega (arith, less, ap length all, length-append sent flush, count, length-drop m flush);
        few = b.few;
        few_lines = omega (arith, b.few, lines_least lab b.flushed b.buffered (rw b.parts at each));
      }

-- ---- the lines so far, and the end

-- the entries of a run with one more line are those of the run, and then those of the line's turn
pub longer_entries : (lab : LabValue) (st mid after : Standing) (ls : List (List ℕ)) (rs : List Reply) (line : List ℕ) (r : Reply)
    (run : Run lab st ls rs mid) (turn : Turn lab mid line r after)
    → run_entries lab st (ls ++ line ∷ []) (rs ++ r ∷ []) after (run_longer (Turn lab) st mid after ls rs line r run turn)
    ≡ run_entries lab st ls rs mid run ++ turn_entries lab line r after.window
unfolding run_longer
longer_entries lab st mid after [] [] line r run turn = append-nil (turn_entries lab line r after.window)
longer_entries lab st mid after (l ∷ ls) (q ∷ rs) line r run turn =
    grind (arith, nat_tests, append_assoc, longer_entries lab run.0 mid after ls rs line r run.2 turn)
longer_entries lab st mid after _ _ line r run turn = absurd run

-- the lines of a session that were answered so far
module _ (number : ℕ) (lab : LabValue) (old : WindowValue) (st : Standing) (before : Option Who) (input left : Option (List ℕ)) (held : List ℕ)
    (wrote wrote' : Option (List ℕ)) (given given' : Option Kept) where
  -- The lines before the last one, the last line, who was known then (`before`), and the buffer before the last line.
  -- Afterwards, the line of its reply is at the end of the buffer `held`
  abbrev LastLine : Type 0
  LastLine = (first : Talk lab (nobody_known old)) × (last : LineTurn lab first.end st) × (first.end.known ≡ before)
      × Consumes input left (bytes_read first ++ line_read last) × (buffered : List ℕ) × HoldsBack lab wrote wrote' first.replies buffered
      × (length buffered ≤ HELD_BYTES) × (held ≡ buffered ++ line_written last) × Records number given given' (entries_of first ++ line_entries last)

  -- The lines so far make up a talk, which leads to the session's state. Of the lines of its replies, those that aren't
  -- written are held in the buffer, and have at most `HELD_BYTES` bytes
  pub record AnsweredSoFar : Type 0 where
    pub talk : Talk lab (nobody_known old)
    pub stands : talk.end ≡ st
    pub last : (held ≡ []) ⊎ LastLine
    pub consumed : Consumes input left (bytes_read talk)
    pub appended : HoldsBack lab wrote wrote' talk.replies held
    pub few : length held ≤ HELD_BYTES
    pub recorded : Records number given given' (entries_of talk)

-- if a write broke off, there were bytes to write
off_some : (a b : Option (List ℕ)) (bytes : List ℕ) → BreaksOff a b bytes → bytes ≢ []
off_some a b bytes h none = omega (arith, h.1, ap length none)

-- what comes after the lines so far: the next line, or the end
module _ {number : ℕ} {lab : LabValue} {old : WindowValue} {st : Standing} {before : Option Who} {input a wrote c : Option (List ℕ)}
    {x y : Option Kept} {held : List ℕ} (after : Standing) (left d : Option (List ℕ)) (z : Option Kept) (unread held' : List ℕ)
    (so : AnsweredSoFar number lab old st before input a held wrote c x y) where
  -- after one more line, the lines so far include it
  pub one_more : ServesNext next.Served number lab st after a unread left held held' c d y z → length held' ≤ HELD_BYTES
      → AnsweredSoFar number lab old after st.known input (prepend_known unread left) held' wrote d x z
  one_more serves few =
      let stands = λ (s : Standing). ServesNext next.Served number lab s after a unread left held held' c d y z in
      let (one, may, taken, sent, given) = subst stands (sym so.stands) serves in
      let t = so.talk in
      let known = ap (λ (s : Standing). s.known) so.stands in
      let all = Consumes-trans input a (prepend_known unread left) (bytes_read t) (line_read one) so.consumed taken in
      let es = records_trans number x y z (entries_of t) (line_entries one) so.recorded given in
      record {
        talk = longer t one may;
        stands = refl;
        last = elim sent [ inl k ↦ inr (t, one, known, all, held, rw k.1 so.appended, so.few, k.0, es) | inr k ↦ inl k.0 ];
        consumed = rw (flat_longer ended t.lines one.line) all;
        appended = back_on lab wrote c d t.replies held held' one.reply so.appended sent;
        few = few;
        recorded = rw (longer_entries lab (nobody_known old) t.end after t.lines t.replies one.line one.reply t.run one.turn) es;
      }

  -- the rest of the session: the buffered bytes are written, and the recorder is given the session's end
  module _ (e : Option (List ℕ)) (o : Option Kept) (fin : Records number z o (left_at after.window)) where
    -- if the buffered bytes were written, the lines of all replies are written
    all_put : held' ≡ held → d ≡ c → Appends d e held' → Appends wrote e (bytes_written so.talk)
    all_put alike still out = rw append-nil at (back_out lab wrote c e so.talk.replies held [] so.appended (rw (append-nil, ← alike, ← still) out))

    -- if no more lines were answered after a talk, and the buffer was written, the session ended with all its lines
    -- answered
    abbrev all_so : after ≡ so.talk.end → Consumes a (prepend_known unread left) [] → held' ≡ held → d ≡ c → Appends d e held'
        → AllAnswered lab old after.window input (prepend_known unread left) wrote e
    all_so same taken alike still out =
        let stands = ap (λ (t : Standing). t.window) (sym same) in
        let all = none_taken input a (prepend_known unread left) (bytes_read so.talk) so.consumed taken in
        record { talk = so.talk; stands = stands; consumed = all; appended = all_put alike still out }

    -- if one more line was answered, and those bytes of all replies' lines are written that `sent` selects,
    -- `LastAnswered` is true
    abbrev last_so : (sent : List ℕ → List ℕ) (t : LineTurn lab so.talk.end after) → Consumes a (prepend_known unread left) (line_read t)
        → Appends wrote d (sent (bytes_written so.talk ++ line_written t)) → held' ≡ [] → Appends d e held'
        → LastAnswered sent lab old after.window input (prepend_known unread left) wrote e
    last_so sent t taken put none out =
        let all = Consumes-trans input a (prepend_known unread left) (bytes_read so.talk) (line_read t) so.consumed taken in
        let bytes = rw append-nil at (Appends-trans wrote d e (sent (bytes_written so.talk ++ line_written t)) [] put (rw none at out)) in
        record { talk = so.talk; after = after; last = t; stands = refl; consumed = all; appended = bytes }

    -- the recorder was given entries, and then the session's end
    all_given : (es : List Entry) → Records number x y es → Records number y z [] → Records number x o (es ++ left_at after.window)
    all_given es given none = let last = left_at after.window in records_trans number x y o es last given (records_trans number y z o [] last none fin)

    -- if the buffered bytes were written, the session ended as `end` states
    told_so : (end : SessionEnd) → ServesNext (next.Ended end) number lab so.talk.end after a unread left held held' c d y z → Appends d e held'
        → EndedRecorded end so.talk.end.known number lab old after.window input left wrote e x o
    told_so ends.Memory s out = absurd s
    told_so ends.End s out = ((unread, all_so s.0 s.1 s.4 s.6 out, s.2, s.3), refl, all_given (entries_of so.talk) so.recorded s.7)
    told_so ends.Closed s out =
        let stands = ap (λ (t : Standing). t.window) (sym s.0) in
        let all = Consumes-trans input a (prepend_known unread left) (bytes_read so.talk) (ended s.1) so.consumed s.4 in
        let put = all_put s.6 s.8 out in (
          (unread, record { talk = so.talk; line = s.1; short = s.2; view = s.3; stands = stands; consumed = all; appended = put }, s.5),
          refl,
          all_given (entries_of so.talk) so.recorded s.9,
        )
    told_so ends.Bye s out =
        let put = back_out lab wrote c d so.talk.replies held (line_written s.0) so.appended s.5 in
        ((unread, last_so (λ line. line) s.0 s.2 put s.4 out, s.1, s.3), refl, grind (arith, nat_tests, records_trans))
    told_so ends.WriteFault s out =
        let off = back_off lab wrote c d so.talk.replies held s.0.reply so.appended so.few s.4 in
        ((unread, off.0, last_so (take off.0) s.0 s.1 off.2 s.3 out, off.1, s.2, off.3), refl, grind (arith, nat_tests, records_trans))
    told_so _ s out = ((unread, all_so s.0 s.1 s.3 s.5 out, s.2), refl, all_given (entries_of so.talk) so.recorded s.6)

    -- if the write of the buffered bytes broke off, the session ended by a failed write, after the last line that was
    -- answered
    broken_at : (rest : List ℕ) → after ≡ st → Consumes a (prepend_known rest left) [] → length rest < READ_SIZE → BreaksOff c e held
        → Records number y z [] → EndedRecorded ends.WriteFault before number lab old after.window input left wrote e x o
    broken_at rest same taken few off given = elim so.last [
      | inl none ↦ absurd (off_some c e held off none)
      | inr (first, last, known, consumed, buffered, appended, short, lines, recorded) ↦
          let n = back_off lab wrote c e first.replies buffered last.reply appended short (rw lines at off) in
          let stands = ap (λ (t : Standing). t.window) (sym same) in
          let all = none_taken input a (prepend_known rest left) (bytes_read first ++ line_read last) consumed taken in (
            (rest, n.0, record { talk = first; after = st; last = last; stands = stands; consumed = all; appended = n.2 }, n.1, few, n.3),
            known,
            rw append_assoc at (all_given (entries_of first ++ line_entries last) recorded given),
          )
    ]

    broken_so : (end : SessionEnd) → ServesNext (next.Ended end) number lab st after a unread left held held' c d y z → BreaksOff d e held'
        → EndedRecorded ends.WriteFault before number lab old after.window input left wrote e x o
    broken_so ends.TooLong s off = let one = rw (s.3, s.5) at off in broken_at unread s.0 s.1 (s.4 (off_some c e held one)) one s.6
    broken_so ends.Closed s off =
        let one = rw (s.6, s.8) at off in
        broken_at (ended s.1 ++ unread) s.0 (put_back a left (ended s.1) unread s.4) (s.7 (off_some c e held one)) one s.9
    broken_so _ s off = absurd (off_some d e held' off (grind (arith, nat_tests)))

    -- the session ended as the last line did, or by a failed write if the flush after this line broke off
    pub ended_so : (end : SessionEnd) (result : Ending) → ServesNext (next.Ended end) number lab st after a unread left held held' c d y z
        → LetsOut (record { end = end; who = st.known }) before result held' d e
        → EndedRecorded result.end result.who number lab old after.window input left wrote e x o
    ended_so end result serves (inl out) = rw (out.0, ← so.stands) (told_so end (rw (← so.stands) at serves) out.1)
    ended_so end result serves (inr out) = rw out.0 (broken_so end serves out.1)
