-- The text of a reply is read as the reply's JSON value, and is one line. A fact is the value of a key in a reply.
use Rattle.std.proofs.lemmas.Bool.{Decides.nat_tests, and_parts, and_from}
use Rattle.std.proofs.Common.{◌≡◌, ◌≢◌, ℕ, ◌<◌, List, [], ◌∷◌, Bool, true, false, ◌&&◌, Option, None, Some, IfSome, All, length, nat_lt, refl, ap, ◌∙◌, arith, ltb-true, lit≤, slice_index, zero-add}
use Rattle.std.specs.{List.AllByRecursion, List.range_with_len, Ordering.nat_cmp, Ordering.is_lt, Cmp.Lexicographic.slice_cmp, FinSet.FinSet}
use Rattle.std.proofs.lemmas.List.{Elements.All-filter, Elements.All-from_get_or, FromFn.length-range_with_len, FromFn.get_or-range_with_len}
use Rattle.serde_json.specs.{Read.read, Written.compact_text}
use Rattle.mml_plain.specs.Compact.{is_bare}
use Rattle.mml_plain.proofs.CompactLemmas.{bare_ascii}
use Rattle.mml_ids.specs.Ids.{IsTable}
use Rattle.mml_rules.specs.declared.{regs.Regs.Regs, rule.Kind.Kind}
use Rattle.mml_lab.specs.{Rosters.RosterValue, Rosters.IsRoster}
use Rattle.mml_lab.proofs.FormLemmas.{name-means}
use Rattle.mml_policy.specs.About.{IsNear}
use Rattle.mml_board.specs.{declared.denial.Denial.Denial, Denials.clause_of, Denials.text_of, Vocabulary.rule_name}
use Rattle.mml_stable.specs.{Reports.IsPairOf, Reports.IsOpenLinkOf, declared.open_link.OpenLink.OpenLink}
use Rattle.mml_codec.specs.{declared.reply.Reply.Reply, Objects.members_with, Replies.fields_of, Replies.text, Replies.IsAbout}
use Rattle.mml_codec.specs.Facts.{Fact, Fields, members, object_text, node_value, pointer_value, kind_value, near_keys, near_value, pair_value, privileged_value, open_link_value, fact_value, keys_of}
use Rattle.mml_codec.specs.Facts.{FitsCount, HaveFittingCounts}
use Rattle.mml_codec.specs.ReplyValues.{reply_value, AreWritableCounts, has_rising_keys, members_rise, comes_first}
use Rattle.mml_codec.proofs.{CompactTextLemmas.compact_text_line, ReplyTextLemmas.name_bare, ReplyTextLemmas.ArePlain, ReplyTextLemmas.fields_are}
use Rattle.mml_codec.proofs.ReadBackLemmas.{IsReadable, AreReadable, IsKeyed, null_read, truth_read, count_read, word_read, items_read, array_read, object_read, read_value, items_rise}
use Rattle.std.specs.FinSet as set
use Rattle.mml_board.specs.Denials as denials
use Rattle.mml_codec.specs.Facts as fact

-- ---- each kind of fact

kind_read : (n : ℕ) (k : Kind) → IsReadable n (kind_value k)
kind_read n k = word_read n (rule_name k) (grind (arith, nat_tests))

-- the numbers of the range from 0 to n - 1 are below n
below : (n : ℕ) → All (λ i. i < n) (range_with_len 0 n)
below n = grind (arith, nat_tests, All-from_get_or, length-range_with_len, get_or-range_with_len, zero-add)

members_below : (n : ℕ) (s : FinSet nat_cmp) → All (λ i. i < n) (members n s)
members_below n s = All-filter (set.contains s) (λ i. i < n) (range_with_len 0 n) (below n)

-- the fact names only nodes of the lab; a clause is below 128, and no byte of a word is escaped
abbrev IsFactOf : List ℕ → Fact → Type 0
IsFactOf ids (fact.clause n) = nat_lt n 128 ≡ true
IsFactOf ids (fact.word w) = is_bare w ≡ true
IsFactOf ids (fact.node i) = i < length ids
IsFactOf ids (fact.pointer p) = IfSome p (λ j. j < length ids)
IsFactOf ids (fact.nodes is) = All (λ i. i < length ids) is
IsFactOf ids (fact.near ns) = All (IsNear ids) ns
IsFactOf ids (fact.pairs ps) = All (IsPairOf (length ids)) ps
IsFactOf ids (fact.privileged ns) = All (λ n. n.0 < length ids) ns
IsFactOf ids (fact.open_links ls) = All (IsOpenLinkOf (length ids)) ls
IsFactOf ids _ = Unit {0}

abbrev AreFactsOf : List ℕ → Fields → Type 0
AreFactsOf ids fs = AllByRecursion (λ f. IsFactOf ids f.1) fs

module _ (ids : List ℕ) (table : IsTable ids) where
  node_read : (n i : ℕ) → i < length ids → IsReadable n (node_value ids i)
  node_read n i l = count_read n (slice_index ids i) (let most = table.within i l in omega (arith, most))

  pointer_read : (n : ℕ) (p : Option ℕ) → IfSome p (λ j. j < length ids) → IsReadable n (pointer_value ids p)
  pointer_read n None h = null_read n
  pointer_read n (Some j) h = node_read n j h

  near_read : (n : ℕ × Regs) → IsNear ids n → IsReadable 1 (near_value ids n)
  near_read n h =
      object_read 0 (near_keys ids n) record { rising = refl; ascii = refl } (truth_read 0 n.1.m, (node_read 0 n.0 h.0, (pointer_read 0 n.1.p h.1, tt)))

  pair_read : (p : ℕ × ℕ) → IsPairOf (length ids) p → IsReadable 1 (pair_value ids p)
  pair_read p h = items_read 0 (node_value ids p.0 ∷ node_value ids p.1 ∷ []) (node_read 0 p.0 h.0, (node_read 0 p.1 h.1, tt))

  privileged_read : (n : ℕ × Kind) → n.0 < length ids → IsReadable 1 (privileged_value ids n)
  privileged_read n h = items_read 0 (node_value ids n.0 ∷ kind_value n.1 ∷ []) (node_read 0 n.0 h, (kind_read 0 n.1, tt))

  open_link_read : (l : OpenLink) → IsOpenLinkOf (length ids) l → IsReadable 1 (open_link_value ids l)
  open_link_read l h =
      items_read 0 (node_value ids l.a ∷ node_value ids l.b ∷ node_value ids l.node ∷ kind_value l.kind ∷ [])
      (node_read 0 l.a h.0, (node_read 0 l.b h.1, (node_read 0 l.node h.2, (kind_read 0 l.kind, tt))))

  fact_read : (f : Fact) → IsFactOf ids f → FitsCount f → IsReadable 2 (fact_value ids f)
  fact_read (fact.count n) h fits = count_read 2 n fits
  fact_read (fact.clause n) h fits = let small = ltb-true n 128 h in count_read 2 n (omega (arith, small))
  fact_read (fact.word w) h fits = word_read 2 w (bare_ascii w h)
  fact_read (fact.truth b) h fits = truth_read 2 b
  fact_read (fact.node i) h fits = node_read 2 i h
  fact_read (fact.pointer p) h fits = pointer_read 2 p h
  fact_read (fact.rule k) h fits = kind_read 2 k
  fact_read (fact.rule_or_null None) h fits = null_read 2
  fact_read (fact.rule_or_null (Some k)) h fits = kind_read 2 k
  fact_read (fact.moved s) h fits = array_read 1 (λ i. i < length ids) (node_value ids) (node_read 1) (members (length ids) s) (members_below (length ids) s)
  fact_read (fact.nodes is) h fits = array_read 1 (λ i. i < length ids) (node_value ids) (node_read 1) is h
  fact_read (fact.near ns) h fits = array_read 1 (IsNear ids) (near_value ids) near_read ns h
  fact_read (fact.pairs ps) h fits = array_read 1 (IsPairOf (length ids)) (pair_value ids) pair_read ps h
  fact_read (fact.privileged ns) h fits = array_read 1 (λ n. n.0 < length ids) (privileged_value ids) privileged_read ns h
  fact_read (fact.open_links ls) h fits = array_read 1 (IsOpenLinkOf (length ids)) (open_link_value ids) open_link_read ls h

  facts_read : (fs : Fields) → AreFactsOf ids fs → HaveFittingCounts fs → AreReadable 2 (keys_of ids fs)
  facts_read [] h fits = tt
  facts_read (f ∷ fs) h fits = (fact_read f.1 h.0 fits.0, facts_read fs h.1 fits.1)

-- ---- the keys of fields

abbrev has_plain_keys : Fields → Bool
has_plain_keys [] = true
has_plain_keys (f ∷ fs) = is_bare f.0 && has_plain_keys fs

abbrev comes_before : List ℕ → Fields → Bool
comes_before k [] = true
comes_before k (f ∷ fs) = is_lt (slice_cmp nat_cmp k f.0)

abbrev are_in_order : Fields → Bool
are_in_order [] = true
are_in_order (f ∷ fs) = comes_before f.0 fs && are_in_order fs

-- the keys are in rising byte order, each occurs once, and none of their bytes is escaped
record HasKeys (ids : List ℕ) (fs : Fields) : Type 0 where
  keyed : IsKeyed (keys_of ids fs)
  plain : has_plain_keys fs ≡ true
  order : are_in_order fs ≡ true

all_plain : (ids : List ℕ) (fs : Fields) → has_plain_keys fs ≡ true → AreFactsOf ids fs → ArePlain fs
all_plain ids [] keys h = tt
all_plain ids (f ∷ fs) keys h = let parts = and_parts _ _ keys in ((parts.0, grind (arith, nat_tests)), all_plain ids fs parts.1 h.1)

pointer_rises : (ids : List ℕ) (p : Option ℕ) → has_rising_keys (pointer_value ids p) ≡ true
pointer_rises ids p = grind (arith, nat_tests)

near_rises : (ids : List ℕ) (n : ℕ × Regs) → has_rising_keys (near_value ids n) ≡ true
near_rises ids n = rw (pointer_rises ids n.1.p) refl

same_first : (ids : List ℕ) (k : List ℕ) (fs : Fields) → comes_before k fs ≡ true → comes_first k (members_with (keys_of ids fs)) ≡ true
same_first ids k fs h = grind (arith, nat_tests)

fields_rise : (ids : List ℕ) (fs : Fields) → are_in_order fs ≡ true → members_rise (members_with (keys_of ids fs)) ≡ true
fields_rise ids [] h = refl
fields_rise ids (f ∷ fs) h =
    let parts = and_parts _ _ h in
    and_from _ _ (same_first ids f.0 fs parts.0) (and_from _ _ (grind (arith, nat_tests, pointer_rises, items_rise, near_rises)) (fields_rise ids fs parts.1))

-- ---- the keys of each reply

has_keys : (ids : List ℕ) (r : RosterValue) (q : Reply) → HasKeys ids (fields_of r q)
has_keys ids r q = grind (arith, nat_tests)

-- whether the clause of a denial is below 128, and no byte of its name and its text is escaped
abbrev has_plain_words : Denial → Bool
has_plain_words d = nat_lt (clause_of d) 128 && (is_bare (denials.denial_name d) && is_bare (text_of d))

module _ (ids : List ℕ) (r : RosterValue) (roster : IsRoster r) where
  pub reply_text : (q : Reply) → IsAbout ids r q → text ids r q ≡ compact_text (reply_value ids r q)
  unfolding object_text
  reply_text q about = ap (λ t. 123 ∷ t) (fields_are ids false (fields_of r q) (all_plain ids (fields_of r q) (has_keys ids r q).plain (grind (arith, nat_tests, name_bare, name-means, and_parts, is_bare))))

  reply_read : (table : IsTable ids) (q : Reply) → IsAbout ids r q → AreWritableCounts r q → IsReadable 3 (reply_value ids r q)
  reply_read table q about h = object_read 2 (keys_of ids (fields_of r q)) (has_keys ids r q).keyed (facts_read ids table (fields_of r q) (grind (arith, nat_tests, name_bare, name-means, and_parts, is_bare)) h)

  pub reply_line_is : (table : IsTable ids) (q : Reply) → IsAbout ids r q → AreWritableCounts r q → All (λ b. b ≢ 10) (text ids r q)
  reply_line_is table q about h = rw (reply_text q about) (compact_text_line (reply_value ids r q) (reply_read table q about h).text)

  pub read-reply : (table : IsTable ids) (q : Reply) → IsAbout ids r q → AreWritableCounts r q → read (text ids r q) ≡ Some (reply_value ids r q)
  read-reply table q about h = ap read (reply_text q about) ∙ read_value 3 (reply_value ids r q) (lit≤ tt) (reply_read table q about h)

-- the keys rise in a reply's value, and in each value inside it
pub keys_rise : (ids : List ℕ) (r : RosterValue) (q : Reply) → has_rising_keys (reply_value ids r q) ≡ true
keys_rise ids r q = fields_rise ids (fields_of r q) (has_keys ids r q).order
