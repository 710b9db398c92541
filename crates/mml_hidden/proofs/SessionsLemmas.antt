-- Two sessions of one student, in which the same lines have the same replies. A participant is known on a connection
-- from a granted hello to a bye.
use Rattle.std.proofs.Common.{◌≡◌, ℕ, ◌-◌, false, List, [], ◌∷◌, length, take, map, Some, Result, Ok, Err, sym, ◌∙◌, subst, arith, length-append}
use Rattle.std.proofs.lemmas.{List.take_all, List.take-append-le, Bool.false≢true, Bool.eqb-true, Bool.Decides.nat_tests}
use Rattle.mml_lab.specs.{declared.who.Who.Who, Labs.LabValue, Labs.IsLab}
use Rattle.mml_board.specs.{declared.event.Event.Event, World.World, Lists.world_in}
use Rattle.mml_policy.specs.{declared.command.Command.Command, declared.ruling.Ruling.Ruling, Rulings.event_of, Alike.IsWorldOf}
use Rattle.mml_codec.specs.{declared.request.LineFault.LineFault, declared.request.Request.Request, declared.reply.Reply.Reply, Greetings.greeting, Replies.reply_line, Rulings.reply_of}
use Rattle.mml_engine.proofs.TurnsLemmas.{by_greeting}
use Rattle.mml_window.specs.Windows.{WindowValue}
use Rattle.mml_window.proofs.{ListLemmas.nodes_in, AboutLemmas.world_is}
use Rattle.mml_session.specs.Turns.{Standing, entered, places_in, Told, Settles, Asked, Turn, Run}
use Rattle.mml_hidden.specs.{CommandReplies.reply_to, Twins.AreTwins, Sessions.seen_at, Sessions.IsUnhindered, Sessions.IsToldAlike, Sessions.AreToldAlike}
use Rattle.mml_hidden.proofs.SightLemmas.{same_reply_to}

-- ---- the events that a reply takes into account

seen_plainly : (w : World) (l : List Event) (g : Ruling)
    → take (length (entered l (event_of g)) - length (places_in (reply_of w g))) (entered l (event_of g)) ≡ l
seen_plainly w l g = grind (arith, nat_tests, length-append, take_all, take-append-le)

-- the events that the reply takes into account lead to a lawful world, and the reply is that of the ruling there
plain_told : (lab : LabValue) → IsLab lab → (old new : WindowValue) (x : Who) (c : Command) (r : Reply) → IsUnhindered r → Told lab old x c r new
    → IsWorldOf lab.ids (world_in lab (seen_at r new)) × (r ≡ reply_to lab.ids lab.roster lab.events false (world_in lab (seen_at r new)) x c)
plain_told lab is old new x c r free t = grind (arith, nat_tests, seen_plainly, world_is lab is t.list t.legal, nodes_in lab t.list is)

-- ---- one line in both sessions

module _ (lab other : LabValue) (is : IsLab lab) (too : IsLab other) (t : AreTwins lab other) (s : ℕ) where
  module _ (st su : Standing) (r q : Reply) (next last : Standing) (e : st.known ≡ su.known)
      (a : IsToldAlike lab other s st.known r q next.window last.window) where
    told_both : (x : Who) (c : Command) → st.known ≡ Some x → Told lab st.window x c r next.window → Told other su.window x c q last.window → r ≡ q
    told_both x c known h k =
        let one = plain_told lab is st.window next.window x c r a.first h in
        let two = plain_told other too su.window last.window x c q a.second k in
        let same = same_reply_to lab.ids lab.roster lab.events false _ (world_in other (seen_at q last.window)) s c one.0 in
        grind (arith, nat_tests, false≢true, eqb-true, a.hers, a.worlds, one, two, same)

    -- the replies are the same, and the same participant (or nobody) is known afterwards
    asked_both : (asked : Result Request LineFault) → Asked lab st asked r next → Asked other su asked q last → (r ≡ q) × (next.known ≡ last.known)
    asked_both (Err fault) h k = grind arith
    asked_both (Ok asked) h k =
        by_greeting (λ g. Settles lab st g r next → Settles other su g q last → (r ≡ q) × (next.known ≡ last.known)) (λ x h k. grind arith) (λ h k. grind arith)
        lab.roster st.known asked (λ d h k. grind arith) (λ x c known is h k. (told_both x c known h.1 k.1, h.0 ∙ e ∙ sym k.0)) h
        (subst (λ g. Settles other su g q last) (λ z. greeting (sym t.roster z) (sym e z) asked) k)

    turn_both : (line : List ℕ) → Turn lab st line r next → Turn other su line q last → (r ≡ q) × (next.known ≡ last.known)
    turn_both line h k = grind (arith, nat_tests, asked_both)

  -- ---- all lines

  -- the same lines have the same replies in both sessions, and the same participant (or nobody) is known at the end
  pub session_both : (st su : Standing) (lines : List (List ℕ)) (rs qs : List Reply) (end fin : Standing) (one : Run lab st lines rs end)
      (two : Run other su lines qs fin) → st.known ≡ su.known → AreToldAlike lab other s st su lines rs qs end fin one two → (rs ≡ qs) × (end.known ≡ fin.known)
  session_both st su (line ∷ lines) (r ∷ rs) (q ∷ qs) end fin one two e a =
      let here = turn_both st su r q one.0 two.0 e a.0 line one.1 two.1 in
      grind (arith, nat_tests, here, session_both one.0 two.0 lines rs qs end fin one.2 two.2 here.1 a.1)
  session_both st su _ _ _ end fin one two e a = grind arith

  -- equal replies have the same bytes in both labs
  pub session_bytes : (rs qs : List Reply) → rs ≡ qs → map (reply_line lab.ids lab.roster) rs ≡ map (reply_line other.ids other.roster) qs
  session_bytes rs qs e = λ z. map (reply_line (t.ids z) (t.roster z)) (e z)
