-- Which lines are script lines. No script line contains a newline.
use Rattle.std.proofs.Common.{◌≡◌, ◌≢◌, ℕ, ◌+◌, ◌<◌, ◌≤◌, List, [], ◌∷◌, ◌++◌, length, map, decimal, arith, subst, ◌∙◌, ap, All, Some}
use Rattle.std.proofs.lemmas.List.Elements.{All-append, All-cons, All-from_get_or, All-from_recursion, All-map, All-weaker}
use Rattle.std.{proofs.lemmas.Fmt.decimal-digits_of, specs.Int.Digits.digits_of, specs.List.AllByRecursion}
use Rattle.mml_ids.specs.Lines.{IsUnbroken}
use Rattle.mml_lines.specs.LinesOf.{IsWithinLimit}
use Rattle.mml_lines.proofs.LinesOfLemmas.{tail_unbroken}
use Rattle.mml_lab.specs.declared.TheConstants.{MAX_SESSIONS}
use Rattle.mml_codec.specs.declared.TheConstants.{MAX_REQUEST}
use Rattle.mml_journal.specs.Words.{number_in}
use Rattle.mml_journal.proofs.NumeralLemmas.{number_in-decimal, number_in_only}
use Rattle.mml_hall.specs.{declared.TheConstants.MAX_SCRIPT_LINE, Turns.RequestLine, ScriptLines.IsScriptLine, ScriptLines.request_on, ScriptLines.script_line}

-- if a word, a space and a request have no newline, the request has none
request_unbroken : (word request : List ℕ) → IsUnbroken (word ++ 32 ∷ request) → IsUnbroken request
request_unbroken [] request h = tail_unbroken 32 request h
request_unbroken (b ∷ word) request h = request_unbroken word request (tail_unbroken b (word ++ 32 ∷ request) h)

-- a line is a script line if it isn't too long, begins with the number of a connection of the lab, and has a request
-- that isn't too long
pub script_line_read : (line request : List ℕ) (n sessions : ℕ) → IsWithinLimit MAX_SCRIPT_LINE line → number_in line ≡ Some (n, request) → 0 < n
    → n ≤ sessions → length request ≤ MAX_REQUEST → IsScriptLine sessions (request_on n request) × (line ≡ script_line (request_on n request))
script_line_read line request n sessions h is some known short =
    let spelled = (number_in_only line (n, request) is).1 in
    let within = subst (IsWithinLimit MAX_SCRIPT_LINE) spelled h in
    (record { some = some; known = known; request = (request_unbroken (decimal n) request within.0, short); whole = within.1 }, spelled)

-- a script line begins with the number of its connection
pub script_line_begins : (line : List ℕ) (s : RequestLine) (sessions : ℕ) → sessions ≤ 255 → IsScriptLine sessions s → line ≡ script_line s
    → number_in line ≡ Some (s.connection, s.request)
script_line_begins line s sessions few valid e = ap number_in e ∙ number_in-decimal s.connection s.request (omega (arith, few, valid.known))

script_unbroken : (n : ℕ) → n ≤ MAX_SESSIONS → (s : RequestLine) → IsScriptLine n s → IsUnbroken (script_line s)
script_unbroken n few s valid =
    let other = λ (b : ℕ). b ≢ 10 in
    let digits = All-map other (λ d. 48 + d) (digits_of 10 s.connection) (λ k d less e. omega (arith, e)) in
    let front : All other (decimal s.connection) = rw (decimal-digits_of s.connection valid.some (omega (arith, few, valid.known))) digits in
    let request = All-cons other 32 s.request (λ e. omega (arith, e)) (All-from_get_or other s.request 0 valid.request.0) in
    λ k less. All-append other (decimal s.connection) (32 ∷ s.request) front request k 0 less

-- no script line contains a newline
pub scripts_unbroken : (n : ℕ) (ss : List RequestLine) → n ≤ MAX_SESSIONS → AllByRecursion (IsScriptLine n) ss → All IsUnbroken (map script_line ss)
scripts_unbroken n ss few each =
    All-map IsUnbroken script_line ss
    (All-weaker (IsScriptLine n) (λ s. IsUnbroken (script_line s)) (script_unbroken n few) ss (All-from_recursion (IsScriptLine n) ss each))
