-- If a line is read as an object in the usual layout, member by member, its tokens are those of this object.
-- A spaced token is a token with the white space before it. A byte is bare if it may be in a string without escapes.
use Rattle.std.proofs.lemmas.{Bool.Decides.nat_tests, Bool.and_parts, Bool.and_from, Bool.eq-eqb, Bool.both_ways, Bool.not-true, Grind.common_steps, List.take_more, List.take_all, Nat.be_bytes_4}
use Rattle.std.proofs.lemmas.{List.map-append, List.Sums.fold-append, Fmt.decimal_digit, Fmt.decimal_step, Fmt.IsAscii-decimal, Str.IsUtf8-append, Str.IsUtf8-nil, Str.IsUtf8-from_ascii}
use Rattle.std.proofs.Common.{◌≡◌, ℕ, suc, ◌+◌, ◌-◌, ◌<◌, List, [], ◌∷◌, ◌++◌, length, take, get_or, Bool, true, false, fold, map, not, ◌==◌, Some, refl, sym, ap, inl, ◌∙◌, subst, append_assoc}
use Rattle.std.proofs.Common.{length-append, decimal, ◌^◌, arith, drop, ◌≢◌, ltb-true, ◌≤◌, ◌*◌, option_map, nat_lt}
use Rattle.std.specs.{Str.IsUtf8, Int.w32, Int.to_be_bytes, Int.from_be_bytes}
use Rattle.json.proofs.{Printed.Strings.escape_byte_plain, Printed.Decimals.IsNumber-decimal, Printed.Tokens.tokens-print_spaced, Printed.Tokens.IsGap-append, Grammar.value_is}
use Rattle.json.proofs.Printed.Utf8.{are_ascii, IsUtf8-are_ascii, IsUtf8-quoted, IsUtf8-key, IsUtf8-boolean, IsUtf8-separator, IsUtf8-IsGap}
use Rattle.json.specs.{Token.Token, Lex.tokens, Print.escape, Print.token_text, Print.ends, Print.separator, Print.print_from, Print.ArePrintable, Spaced.AreGaps, Spaced.print_spaced}
use Rattle.serde_json.specs.Data.{Data, boolean, number, unsigned, string, array, object, no_items, Members, no_members, put}
use Rattle.serde_json.specs.Read.{of_json, converted}
use Rattle.serde_json.proofs.Numbers.{number_of-decimal}
use Rattle.mml_plain.specs.declared.member_value.MemberValue.{MemberValue, TheVariants.Null, TheVariants.Truth, TheVariants.Number, TheVariants.Other}
use Rattle.mml_plain.specs.{Reading.members_at, Reading.value_at, Reading.if_over, Reading.object_at, Shown.Shows, declared.fields.Fields.Fields, Fields.with}
use Rattle.mml_plain.specs.Compact.{is_bare_byte, is_bare, is_value_ended, Spaced, BeginsValue, BeginsMember, BeginsQuoted, BeginsAfter, PutsKnown, PutsMember}
use Rattle.mml_plain.proofs.ReadingLemmas.{items_next, members_suc, members_next, value_array, value_object}
use Rattle.serde_json.specs.Data as serde

abbrev SpacedTokens : Type 0
SpacedTokens = List (List ℕ × Token)

-- the tokens, without their white space
abbrev pub told : SpacedTokens → List Token
told ps = map (λ p. p.1) ps

-- these tokens, without white space before them
abbrev close : List Token → SpacedTokens
close ts = map (λ t. ([], t)) ts

told_close : (ts : List Token) → told (close ts) ≡ ts
told_close [] = refl
told_close (t ∷ ts) = ap (λ us. t ∷ us) (told_close ts)

ended_append : (c : Bool) (ts us : List Token) → fold (λ _ t. ends t) c (ts ++ us) ≡ fold (λ _ t. ends t) (fold (λ _ t. ends t) c ts) us
ended_append c ts us = fold-append (λ _ t. ends t) c ts us

gaps_append : (ps qs : SpacedTokens) → AreGaps ps → AreGaps qs → AreGaps (ps ++ qs)
gaps_append [] qs h k = k
gaps_append (p ∷ ps) qs h k = (h.0, gaps_append ps qs h.1 k)

gaps_close : (ts : List Token) → AreGaps (close ts)
gaps_close [] = tt
gaps_close (t ∷ ts) = (tt, gaps_close ts)

printable_append : (ts us : List Token) → ArePrintable ts → ArePrintable us → ArePrintable (ts ++ us)
unfolding ArePrintable
printable_append [] us h k = k
printable_append (t ∷ ts) us h k = (h.0, printable_append ts us h.1 k)

grouped : (a b c rest : List ℕ) → a ++ (b ++ (c ++ rest)) ≡ (a ++ (b ++ c)) ++ rest
grouped a b c rest = simp append_assoc

spaced_append : (c : Bool) (ps qs : SpacedTokens) → print_spaced c (ps ++ qs) ≡ print_spaced c ps ++ print_spaced (fold (λ _ t. ends t) c (told ps)) qs
unfolding print_spaced
spaced_append c [] qs = refl
spaced_append c (p ∷ ps) qs = grind (arith, grouped, append_assoc, spaced_append (ends p.1) ps qs)

spaced_close : (c : Bool) (ts : List Token) → print_spaced c (close ts) ≡ print_from c ts
unfolding print_spaced print_from
spaced_close c [] = refl
spaced_close c (t ∷ ts) = ap (λ l. separator c t ++ (token_text t ++ l)) (spaced_close (ends t) ts)

-- a list of length 1 consists of its first element
pub alone : (xs : List ℕ) (d b : ℕ) → length xs ≡ 1 → get_or xs 0 d ≡ b → xs ≡ b ∷ []
alone xs d b h e = grind (arith, common_steps)

-- ---- member by member

-- the tokens `us` are those of the members `found`: reading `us` and then more tokens has the same result as reading
-- these after `found`
pub record Begun (us : SpacedTokens) (found : Members) : Type 0 where
  pub gaps : AreGaps us
  pub printable : ArePrintable (told us)
  pub utf8 : IsUtf8 (print_spaced false us)
  pub turns : ℕ
  pub fits : turns ≤ length (told us)
  pub members : (n : ℕ) (ts : List Token) → members_at 126 no_members (turns + n) (told us ++ ts) ≡ members_at 126 found n ts

-- the line is an opening brace, the tokens of the members `found`, a comma if there are any, and `rest`
pub record Before (line rest : List ℕ) (found : Members) : Type 0 where
  pub us : SpacedTokens
  pub begun : Begun us found
  pub text : line ≡ 123 ∷ (print_spaced false us ++ (separator (is_value_ended (told us)) (Token.key []) ++ rest))

-- the line is an opening brace, the tokens of the members `found`, of which there is at least one, and `rest`
pub record After (line rest : List ℕ) (found : Members) : Type 0 where
  pub us : SpacedTokens
  pub begun : Begun us found
  pub closed : is_value_ended (told us) ≡ true
  pub text : line ≡ 123 ∷ (print_spaced false us ++ rest)

pub begun : (line rest : List ℕ) → line ≡ 123 ∷ rest → Before line rest no_members
unfolding print_spaced ArePrintable
begun line rest e = grind (arith, IsUtf8-nil)

pub comma : (line rest next : List ℕ) (found : Members) → rest ≡ 44 ∷ next → After line rest found → Before line next found
comma line rest next found e a = grind (arith, begun)

all_read : (us : SpacedTokens) (found : Members) → Begun us found → object_at (Token.begin_object ∷ (told us ++ Token.end_object ∷ [])) ≡ Some found
all_read us found b =
    let end = Token.end_object ∷ [] in
    let all = told us ++ end in
    let n = length all - b.turns in
    let counted : length all ≡ length (told us) + 1 = length-append (told us) end in
    let enough : 1 ≤ n = omega (arith, b.fits) in
    let parted : length all ≡ b.turns + n = omega (arith, b.fits, counted) in
    ap if_over (ap (λ k. members_at 126 no_members k all) parted ∙ b.members n end ∙ members_next 126 found n end enough)

-- if only a closing brace follows the members, the line is UTF-8
pub over_utf8 : (line rest : List ℕ) (found : Members) → rest ≡ 125 ∷ [] → After line rest found → IsUtf8 line
over_utf8 line rest found e a =
    let text = print_spaced false a.us ++ 125 ∷ [] in
    let whole : line ≡ 123 ∷ text = a.text ∙ ap (λ t. 123 ∷ (print_spaced false a.us ++ t)) e in
    let utf8 : IsUtf8 text = IsUtf8-append (print_spaced false a.us) (125 ∷ []) a.begun.utf8 (IsUtf8-are_ascii (125 ∷ []) refl) in
    subst IsUtf8 (sym whole) (IsUtf8-append (123 ∷ []) text (IsUtf8-are_ascii (123 ∷ []) refl) utf8)

pub over : (line rest : List ℕ) (found : Members) → rest ≡ 125 ∷ [] → After line rest found → object_at (tokens line) ≡ Some found
unfolding print_spaced ArePrintable
over line rest found e a =
    let end = ([], Token.end_object) ∷ [] in
    let ws = a.us ++ end in
    let printed : print_spaced false ws ≡ print_spaced false a.us ++ 125 ∷ [] =
    spaced_append false a.us end ∙ ap (λ b. print_spaced false a.us ++ (separator b Token.end_object ++ 125 ∷ [])) a.closed in
    let whole : line ≡ print_spaced false (([], Token.begin_object) ∷ ws) =
    a.text ∙ ap (λ t. 123 ∷ (print_spaced false a.us ++ t)) e ∙ ap (λ t. 123 ∷ t) (sym printed) in
    let said : told ws ≡ told a.us ++ Token.end_object ∷ [] = map-append (λ p. p.1) a.us end in
    let printable : ArePrintable (told ws) = subst ArePrintable (sym said) (printable_append (told a.us) (Token.end_object ∷ []) a.begun.printable (tt, tt)) in
    let read : tokens line ≡ Token.begin_object ∷ (told a.us ++ Token.end_object ∷ []) =
    ap tokens whole
    ∙ tokens-print_spaced (([], Token.begin_object) ∷ ws) (tt, gaps_append a.us end a.begun.gaps (tt, tt)) (tt, printable)
    ∙ ap (λ ts. Token.begin_object ∷ ts) said in
    ap object_at read ∙ all_read a.us found a.begun

member_text : (comma gap key between first others more : List ℕ)
    → comma ++ (gap ++ (key ++ (between ++ (first ++ (others ++ more))))) ≡ (comma ++ (gap ++ (key ++ (between ++ (first ++ others))))) ++ more
member_text comma gap key between first others more = simp append_assoc

module _ (line rest more k : List ℕ) (v : MemberValue) (found : Members) (m : BeginsMember rest k v more) (b : Before line rest found) where
  abbrev first : Token
  first = m.value.first

  abbrev others : List Token
  others = m.value.others

  -- the tokens of the member, with the white space before its key and its value
  abbrev one : SpacedTokens
  one = (m.spaced.gap, Token.key k) ∷ (m.spaced_value.gap, first) ∷ close others

  abbrev us : SpacedTokens
  us = b.us ++ one

  said : told us ≡ told b.us ++ Token.key k ∷ first ∷ others
  said = map-append (λ p. p.1) b.us one ∙ ap (λ ts. told b.us ++ Token.key k ∷ first ∷ ts) (told_close others)

  one_text : print_spaced (is_value_ended (told b.us)) one
      ≡ separator (is_value_ended (told b.us)) (Token.key k) ++ (m.spaced.gap ++ (token_text (Token.key k)
      ++ (m.spaced_value.gap ++ (token_text first ++ print_from (ends first) others))))
  unfolding print_spaced
  one_text = grind (arith, spaced_close (ends first) others)

  one_utf8 : IsUtf8 (print_spaced (is_value_ended (told b.us)) one)
  one_utf8 =
      let at_value = IsUtf8-append m.spaced_value.gap _ (IsUtf8-IsGap _ m.spaced_value.is_gap) m.value.utf8 in
      let at_key = IsUtf8-append _ _ (IsUtf8-IsGap _ m.spaced.is_gap) (IsUtf8-append (token_text (Token.key k)) _ (IsUtf8-key k m.key_utf8) at_value) in
      subst IsUtf8 (sym one_text) (IsUtf8-append (separator (is_value_ended (told b.us)) (Token.key k)) _ (IsUtf8-separator (is_value_ended (told b.us)) (Token.key k)) at_key)

  goes_on : (n : ℕ) (ts : List Token) → members_at 126 no_members ((b.begun.turns + 1) + n) (told us ++ ts) ≡ members_at 126 (put k m.value.datum found) n ts
  goes_on n ts = let counted : (b.begun.turns + 1) + n ≡ b.begun.turns + suc n = omega arith in grind (arith, nat_tests, said, append_assoc, members_suc)

  more_begun : Begun us (put k m.value.datum found)
  unfolding ArePrintable
  more_begun =
      let length_is : length (told us) ≡ length (told b.us) + length (Token.key k ∷ first ∷ others) = ap length said ∙ length-append (told b.us) _ in
      record {
        gaps = gaps_append b.us one b.begun.gaps (m.spaced.is_gap, (m.spaced_value.is_gap, gaps_close others));
        printable = subst ArePrintable (sym said) (printable_append (told b.us) (Token.key k ∷ first ∷ others) b.begun.printable (tt, m.value.printable));
        utf8 = subst IsUtf8 (sym (spaced_append false b.us one)) (IsUtf8-append (print_spaced false b.us) _ b.begun.utf8 one_utf8);
        turns = b.begun.turns + 1;
        fits = omega (arith, b.begun.fits);
        members = goes_on;
      }

  -- if a member comes next, it is added to the members `found`, and `more` comes after it
  pub member : After line more (put k m.value.datum found)
  member = grind (arith, begun, more_begun, said, ended_append, comma, member_text, one_text, append_assoc, spaced_append)

-- ---- spaces

pub no_space : (text : List ℕ) → Spaced text text
no_space text = record { gap = []; is_gap = tt; spelled = refl }

pub one_space : (text rest next : List ℕ) → rest ≡ 32 ∷ next → Spaced text rest → Spaced text next
one_space text rest next e s =
    record { gap = s.gap ++ 32 ∷ []; is_gap = IsGap-append s.gap (32 ∷ []) s.is_gap (inl refl, tt); spelled = grind (arith, append_assoc) }

-- ---- words

bare-append : (xs : List ℕ) (b : ℕ) → is_bare xs ≡ true → is_bare_byte b ≡ true → is_bare (xs ++ b ∷ []) ≡ true
bare-append [] b h one = and_from _ _ one refl
bare-append (x ∷ xs) b h one = let both = and_parts (is_bare_byte x) (is_bare xs) h in and_from _ _ both.0 (bare-append xs b both.1 one)

-- the first i + 1 bytes are bare if the first i are, and the next one is
pub bare_more : (xs : List ℕ) (i d : ℕ) → i < length xs → is_bare (take i xs) ≡ true → is_bare_byte (get_or xs i d) ≡ true → is_bare (take (i + 1) xs) ≡ true
bare_more xs i d h was one = ap is_bare (take_more xs i d h) ∙ bare-append (take i xs) (get_or xs i d) was one

-- the first i + 1 bytes are bare if the first i are, and the next one is from 93 to 127
pub bare_above : (xs : List ℕ) (i d : ℕ) → i < length xs → is_bare (take i xs) ≡ true → 92 < get_or xs i d → get_or xs i d < 128 → is_bare (take (i + 1) xs) ≡ true
bare_above xs i d h was above below = let one : is_bare_byte (get_or xs i d) ≡ true = grind (arith, nat_tests) in bare_more xs i d h was one

-- the first i + 1 bytes are bare if the first i are, and the next one is from 32 to 91 and not a quotation mark
pub bare_below : (xs : List ℕ) (i d : ℕ) → i < length xs → is_bare (take i xs) ≡ true → 31 < get_or xs i d → get_or xs i d < 92 → get_or xs i d ≢ 34 → is_bare (take (i + 1) xs) ≡ true
bare_below xs i d h was above below other = let one : is_bare_byte (get_or xs i d) ≡ true = grind (arith, nat_tests) in bare_more xs i d h was one

other_than : (b k : ℕ) → not (b == k) ≡ true → b ≢ k
other_than b k h e = both_ways _ (not-true _ h) (eq-eqb b k e)

-- escaping doesn't change a bare text
pub bare_escape : (bs : List ℕ) → is_bare bs ≡ true → escape bs ≡ bs
bare_escape [] h = refl
bare_escape (b ∷ bs) h = grind (arith, and_parts, nat_lt, ltb-true, escape_byte_plain, other_than, bare_escape bs)

pub bare_ascii : (bs : List ℕ) → is_bare bs ≡ true → are_ascii bs ≡ true
bare_ascii [] h = refl
bare_ascii (b ∷ bs) h = grind (arith, and_parts, nat_lt, and_from, bare_ascii bs)

pub bare_utf8 : (bs : List ℕ) → is_bare bs ≡ true → IsUtf8 bs
bare_utf8 bs h = IsUtf8-are_ascii bs (bare_ascii bs h)

quoted_is : (k rest : List ℕ) → is_bare k ≡ true → 34 ∷ (k ++ 34 ∷ rest) ≡ token_text (Token.string k) ++ rest
quoted_is k rest h = ap (λ t. 34 ∷ t) (sym (append_assoc k (34 ∷ []) rest) ∙ ap (λ t. (t ++ 34 ∷ []) ++ rest) (sym (bare_escape k h)))

-- a bare key in quotation marks, and a colon after it, are the text of the key's token
pub key_is : (text a b k rest : List ℕ) → text ≡ 34 ∷ a → a ≡ k ++ 34 ∷ b → is_bare k ≡ true → b ≡ 58 ∷ rest → text ≡ token_text (Token.key k) ++ rest
key_is text a b k rest one two h three = grind (arith, quoted_is, append_assoc)

-- ---- digits

pub digit_next : (xs : List ℕ) (i d n digit : ℕ) → i < length xs → take i xs ≡ decimal n → get_or xs i d ≡ 48 + digit → digit < 10 → 1 ≤ n → n < 1000000000000000000
    → take (i + 1) xs ≡ decimal (n * 10 + digit)
digit_next xs i d n digit h was here one some few = grind (arith, common_steps, nat_tests, take_more, decimal_step)

pub digit_first : (xs : List ℕ) (d digit : ℕ) → 0 < length xs → get_or xs 0 d ≡ 48 + digit → digit < 10 → take 1 xs ≡ decimal digit
digit_first xs d digit h here one = take_more xs 0 d h ∙ ap (λ b. b ∷ []) here ∙ sym (decimal_digit digit one)

-- if the first byte of a text is a digit, the text is this digit in decimal, followed by the other bytes
pub digit_off : (xs : List ℕ) (d digit : ℕ) → 0 < length xs → get_or xs 0 d ≡ 48 + digit → digit < 10 → xs ≡ decimal digit ++ take (length xs - 1) (drop 1 xs)
digit_off xs d digit h here small = grind (arith, nat_tests, decimal_digit, take_all)

-- ---- values

-- if a text begins with printed tokens from which a value is read, it begins with this value
of_tokens : (text rest : List ℕ) (v : MemberValue) (d : Data) (t : Token) (ts : List Token) → ArePrintable (t ∷ ts)
    → IsUtf8 (token_text t ++ print_from (ends t) ts) → is_value_ended (t ∷ ts) ≡ true → ((us : List Token) → value_at 126 (t ∷ (ts ++ us)) ≡ Some (d, us)) → Shows v d
    → text ≡ token_text t ++ (print_from (ends t) ts ++ rest) → BeginsValue text v rest
of_tokens text rest v d t ts printable utf8 ends_value value shows spelled = grind (arith, nat_tests)

pub text_value : (text a rest : List ℕ) (v : MemberValue) (k : List ℕ) → Shows v (string k) → text ≡ 34 ∷ a → a ≡ k ++ 34 ∷ rest → is_bare k ≡ true
    → BeginsValue text v rest
unfolding print_from ArePrintable
text_value text a rest v k shows one two h =
    of_tokens text rest v (string k) (Token.string k) [] (tt, tt) (IsUtf8-append (token_text (Token.string k)) [] (IsUtf8-quoted k (bare_utf8 k h)) IsUtf8-nil)
    refl (λ ts. ap (converted of_json) (value_is 126 (Token.string k ∷ ts))) shows (one ∙ ap (λ t. 34 ∷ t) two ∙ quoted_is k rest h)

pub number_value : (text rest : List ℕ) (n : ℕ) → n < 2 ^ 64 → text ≡ decimal n ++ rest → BeginsValue text (Number n) rest
unfolding print_from ArePrintable
number_value text rest n h e =
    of_tokens text rest (Number n) (number (unsigned n)) (Token.number (decimal n)) [] (IsNumber-decimal n h, tt)
    (IsUtf8-append (decimal n) [] (IsUtf8-from_ascii (decimal n) (IsAscii-decimal n h)) IsUtf8-nil) refl
    (λ ts. ap (converted of_json) (value_is 126 (Token.number (decimal n) ∷ ts)) ∙ ap (λ o. option_map (λ d. (d, ts)) (option_map number o)) (number_of-decimal n h))
    record { text = refl; number = refl; truth = refl; register = refl } e

pub truth_value : (text rest : List ℕ) (b : Bool) → text ≡ token_text (Token.boolean b) ++ rest → BeginsValue text (Truth b) rest
unfolding print_from ArePrintable
truth_value text rest b e =
    of_tokens text rest (Truth b) (boolean b) (Token.boolean b) [] (tt, tt) (IsUtf8-append (token_text (Token.boolean b)) [] (IsUtf8-boolean b) IsUtf8-nil)
    refl (λ ts. ap (converted of_json) (value_is 126 (Token.boolean b ∷ ts))) record { text = refl; number = refl; truth = refl; register = refl } e

pub null_value : (text rest : List ℕ) → text ≡ 110 ∷ 117 ∷ 108 ∷ 108 ∷ rest → BeginsValue text Null rest
unfolding print_from ArePrintable
null_value text rest e =
    of_tokens text rest Null serde.null Token.null [] (tt, tt) (IsUtf8-are_ascii _ refl) refl
    (λ ts. ap (converted of_json) (value_is 126 (Token.null ∷ ts))) record { text = refl; number = refl; truth = refl; register = refl } e

pub no_items_value : (text rest : List ℕ) → text ≡ 91 ∷ 93 ∷ rest → BeginsValue text Other rest
unfolding print_from ArePrintable
no_items_value text rest e =
    of_tokens text rest Other (array no_items) Token.begin_array (Token.end_array ∷ []) (tt, (tt, tt)) (IsUtf8-are_ascii _ refl) refl
    (λ ts. value_array 126 (Token.end_array ∷ ts) (omega arith)
    ∙ ap (option_map (λ p. (array p.0, p.1))) (items_next 125 (length (Token.end_array ∷ ts)) (Token.end_array ∷ ts) (omega arith)))
    record { text = refl; number = refl; truth = refl; register = refl } e

pub no_members_value : (text rest : List ℕ) → text ≡ 123 ∷ 125 ∷ rest → BeginsValue text Other rest
unfolding print_from ArePrintable
no_members_value text rest e =
    of_tokens text rest Other (object no_members) Token.begin_object (Token.end_object ∷ []) (tt, (tt, tt)) (IsUtf8-are_ascii _ refl) refl
    (λ ts. value_object 126 (Token.end_object ∷ ts) (omega arith)
    ∙ ap (option_map (λ p. (object p.0, p.1))) (members_next 125 no_members (length (Token.end_object ∷ ts)) (Token.end_object ∷ ts) (omega arith)))
    record { text = refl; number = refl; truth = refl; register = refl } e

-- ---- the frequent keys

-- four bytes and the text after them begin with a member if they are a bare key, a quotation mark, a colon and a value
pub puts_known : {front n : ℕ} {after rest : List ℕ} {old new : Fields} (key text : List ℕ) (v : MemberValue) → is_bare key ≡ true → front ≡ n
    → to_be_bytes w32 n ++ text ≡ key ++ 34 ∷ 58 ∷ after → BeginsAfter after v rest → new ≡ with key v old → PutsKnown (to_be_bytes w32 front ++ text) rest old new
puts_known {front} {n} {after} {rest} {old} {new} key text v bare same first named put = grind (arith, nat_tests)

-- if a text begins with a quotation mark, and a member with a frequent key comes after it, the text begins with this
-- member
pub known_key : (text in_key rest : List ℕ) (old new : Fields) → BeginsQuoted text in_key → PutsKnown in_key rest old new → PutsMember text rest old new
known_key text in_key rest old new quoted known = search (arith, bare_utf8, key_is)

-- ---- four bytes at once

-- a text is its first four bytes, read as the number n, followed by its other bytes
pub four_first : (xs : List ℕ) (n : ℕ) → 4 ≤ length xs → ((i : ℕ) → get_or xs i 0 < 256)
    → n ≡ from_be_bytes w32 (get_or xs 0 0 ∷ get_or xs 1 0 ∷ get_or xs 2 0 ∷ get_or xs 3 0 ∷ []) → xs ≡ to_be_bytes w32 n ++ take (length xs - 4) (drop 4 xs)
four_first xs n h small is = grind (arith, be_bytes_4, take_all)
