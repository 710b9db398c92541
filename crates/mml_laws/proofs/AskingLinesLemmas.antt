-- The lines that ask for grants and closes, with the bye and the hello before each, can be lines of a script.
use Rattle.std.proofs.lemmas.{Bool.Decides.nat_tests, Bool.and_parts, Bool.cases_lt, Bool.false≢true, Fmt.length-decimal-le, Str.IsUtf8-from_ascii, List.get_or_default, List.get_or_past}
use Rattle.std.proofs.Common.{◌≡◌, ℕ, ◌<◌, ◌≤◌, ◌*◌, ◌^◌, true, List, [], ◌∷◌, ◌++◌, codes, decimal, length, refl, arith, length-append}
use Rattle.json.specs.Print.{escape_byte, escape, quoted}
use Rattle.mml_lab.specs.{declared.who.Who.Who, Labs.LabValue, Labs.IsLab, Rosters.IsPrincipal, Rosters.name_of, Rosters.key_of, Rosters.is_name, Rosters.is_key}
use Rattle.mml_lab.proofs.FormLemmas.{name-means, key-means}
use Rattle.mml_board.specs.{declared.event.Event.Event, World.World}
use Rattle.mml_policy.specs.{declared.command.Asked.Asked, Asking.id_of, Asking.asked_of, Asking.command_of}
use Rattle.mml_journal.{specs.EventLines.IsEventOf, proofs.NameLemmas.name_is_utf8}
use Rattle.mml_convergence.specs.Rest.{is_grant_or_close}
use Rattle.mml_codec.{specs.declared.TheConstants.MAX_REQUEST, specs.declared.request.Request.Request, specs.Canonical.canonical, specs.Canonical.IsWritable, proofs.CanonicalLemmas.canonical_line}
use Rattle.mml_hall.specs.ScriptLines.{IsScriptLine}
use Rattle.mml_laws.specs.Finishes.{line_for, hello_of}
use Rattle.mml_board.specs.declared.event.Event.TheVariants as event
use Rattle.mml_policy.specs.declared.command.Asked.TheVariants as asked
use Rattle.mml_policy.specs.declared.command.Command.TheVariants as command
use Rattle.mml_codec.specs.declared.request.Request.TheVariants as requests

-- ---- texts and their lengths

digits : (n : ℕ) → n < 2 ^ 64 → length (decimal n) ≤ 20
digits n small = length-decimal-le 20 n (omega arith) (omega arith) small

-- the text of a move after its node
abbrev ending : Asked → List ℕ
ending asked.Update = codes ",\"rule\":\"update\"}"
ending asked.Seduction = codes ",\"rule\":\"seduction\"}"
ending asked.Abandonment = codes ",\"rule\":\"abandonment\"}"
ending (asked.Marriage partner) = codes ",\"rule\":\"marriage\",\"with\":" ++ (decimal partner ++ codes "}")

move_text : (n at : ℕ) (a : Asked) → canonical (requests.Do (command.Move n a at))
    ≡ codes "{\"at\":" ++ (decimal at ++ (codes ",\"do\":\"move\",\"node\":" ++ (decimal n ++ ending a)))
unfolding canonical escape_byte
move_text n at a = grind (arith, nat_tests)

close_text : canonical (requests.Do command.Close) ≡ codes "{\"do\":\"close\"}"
unfolding canonical escape_byte
close_text = refl

pub bye_text : canonical requests.Bye ≡ codes "{\"do\":\"bye\"}"
unfolding canonical escape_byte
bye_text = refl

hello_text : (name key : List ℕ) → canonical (requests.Hello name key)
    ≡ codes "{\"do\":\"hello\",\"key\":" ++ (quoted key ++ (codes ",\"name\":" ++ (quoted name ++ codes "}")))
unfolding canonical escape_byte
hello_text name key = refl

escape_byte_short : (x : ℕ) → length (escape_byte x) ≤ 6
unfolding escape_byte
escape_byte_short x = grind (arith, nat_tests)

escape_short : (s : List ℕ) → length (escape s) ≤ 6 * length s
escape_short [] = omega arith
escape_short (x ∷ xs) = omega (arith, length-append (escape_byte x) (escape xs), escape_byte_short x, escape_short xs)

-- ---- a request on the first connection

module _ (lab : LabValue) (is : IsLab lab) where
  -- a request whose text isn't too long can be a line of a script
  comes : (q : Request) → IsWritable q → length (canonical q) ≤ MAX_REQUEST → IsWritable q × IsScriptLine lab.sessions (line_for q)
  comes q can short = (can, grind (arith, nat_tests, is.some_sessions, canonical_line, length-decimal-le, length-append))

  pub bye_comes : IsScriptLine lab.sessions (line_for requests.Bye)
  bye_comes = (comes requests.Bye (tt, tt) (rw bye_text (omega arith))).1

  pub hello_comes : (who : Who) → IsPrincipal lab.roster who → IsWritable (hello_of lab who) × IsScriptLine lab.sessions (line_for (hello_of lab who))
  hello_comes who member =
      let formed = and_parts (is_name (name_of lab.roster who)) (is_key (key_of lab.roster who)) (is.roster.formed who member) in
      comes (hello_of lab who) (grind (arith, nat_tests, formed, IsUtf8-from_ascii, cases_lt, get_or_past, key-means, name_is_utf8))
      (grind (arith, nat_tests, formed, name-means, key-means, hello_text, length-append, escape_short))

  id_small : (i : ℕ) → i < length lab.ids → id_of lab.ids i < 2 ^ 64
  id_small i there = omega (arith, is.ids.within i there, get_or_default lab.ids i 0 (id_of lab.ids i) there)

  -- the command that asks for a grant or a close can be written, and its line can be a line of a script
  pub command_comes : (w : World) (e : Event) → w.number < 2 ^ 64 → IsEventOf lab.ids lab.roster e → is_grant_or_close e ≡ true
      → IsWritable (requests.Do (command_of lab.ids w e)) × IsScriptLine lab.sessions (line_for (requests.Do (command_of lab.ids w e)))
  command_comes w (event.Grant s i q) number of forward =
      let text = move_text (id_of lab.ids i) w.number (asked_of lab.ids q) in
      comes (requests.Do (command_of lab.ids w (event.Grant s i q))) (grind (arith, nat_tests, id_small))
      (grind (arith, nat_tests, text, digits, id_small, length-append))
  command_comes w event.Close number of forward = comes (requests.Do command.Close) (tt, tt) (rw close_text (omega arith))
  command_comes w _ number of forward = absurd (false≢true forward)
