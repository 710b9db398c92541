-- The answered lines of a session are a chain of its turns. After the reply to a bye nobody is known. A participant is
-- known on a connection from a granted hello to a bye.
use Rattle.std.{proofs.lemmas.Bool.Decides.nat_tests, proofs.lemmas.Bool.false≢true, specs.List.AllByRecursion}
use Rattle.std.proofs.Common.{◌≡◌, ℕ, true, false, List, [], ◌∷◌, ◌++◌, Option, None, refl, sym, append-nil, arith}
use Rattle.mml_lab.specs.Labs.{LabValue}
use Rattle.mml_lines.{specs.LinesOf.IsWithinLimit, specs.Runs.Chain, proofs.RunsLemmas.by_steps}
use Rattle.mml_codec.specs.{declared.TheConstants.MAX_REQUEST, declared.reply.Reply.Reply, Lines.request_in}
use Rattle.mml_engine.proofs.TurnsLemmas.{by_greeting}
use Rattle.mml_window.specs.Windows.{WindowValue}
use Rattle.mml_session.specs.{declared.session.SessionEnd.SessionEnd, Turns.Standing, Turns.Turn, Turns.Run, Turns.is_bye, Talks.Talk, Talks.LineTurn, Talks.nobody_known, Ends.Ended}
use Rattle.mml_laws.{specs.Served.Answered, specs.Served.answered, specs.Served.answers, specs.Served.answers_in, specs.Served.IsConversation, specs.OneScript.says_bye}
use Rattle.mml_session.specs.declared.session.SessionEnd.TheVariants as end

-- the turn of this answered line, which isn't too long for a request
abbrev pub TurnAt : LabValue → Answered → Standing → Standing → Type 0
TurnAt lab a st next = Turn lab st a.line a.reply next × IsWithinLimit MAX_REQUEST a.line

-- turns with these answered lines lead from the state `st` to a state with the window `new`; if the reply to a bye is
-- among them, nobody is known in the end
pub record Says (lab : LabValue) (st : Standing) (said : List Answered) (new : WindowValue) : Type 0 where
  pub end : Standing
  pub turns : Chain (TurnAt lab) st said end
  pub stands : end.window ≡ new
  pub forgets : says_bye said ≡ true → end.known ≡ None

-- after the reply to a bye nobody is known
bye_forgets : (lab : LabValue) (st next : Standing) (line : List ℕ) (r : Reply) → is_bye r ≡ true → Turn lab st line r next → next.known ≡ None
bye_forgets lab st next line r is turn = grind (arith, nat_tests, request_in line, by_greeting, false≢true)

module _ (lab : LabValue) (more : List Answered) (new : WindowValue) where
  run_first : (st mid : Standing) (lines : List (List ℕ)) (rs : List Reply) → Run lab st lines rs mid → AllByRecursion (IsWithinLimit MAX_REQUEST) lines
      → AllByRecursion (λ r. is_bye r ≡ false) rs → Says lab mid more new → Says lab st (answers lines rs ++ more) new
  run_first =
      by_steps (Turn lab) (λ st lines rs mid. AllByRecursion (IsWithinLimit MAX_REQUEST) lines → AllByRecursion (λ r. is_bye r ≡ false) rs
      → Says lab mid more new → Says lab st (answers lines rs ++ more) new) (λ st short none s. s)
      (λ st next mid line r lines rs turn rest short none s. grind (arith, nat_tests, turn, short.0, none.0, rest short.1 none.1 s))

module _ (lab : LabValue) (old new : WindowValue) where
  talk_says : (t : Talk lab (nobody_known old)) → t.end.window ≡ new → Says lab (nobody_known old) (answers t.lines t.replies) new
  talk_says t is =
      let none : Says lab t.end [] new = record { end = t.end; turns = refl; stands = is; forgets = λ bye. cc } in
      rw append-nil at (run_first lab [] new (nobody_known old) t.end t.lines t.replies t.run t.each t.goes_on none)

  last_says : (t : Talk lab (nobody_known old)) (after : Standing) (last : LineTurn lab t.end after) → after.window ≡ new
      → Says lab (nobody_known old) (answers t.lines t.replies ++ answered last.line last.reply ∷ []) new
  last_says t after last is = grind (arith, nat_tests, run_first, bye_forgets)

  ended_says : (end : SessionEnd) (input left wrote wrote' : Option (List ℕ)) (e : Ended end lab old new input left wrote wrote')
      → Says lab (nobody_known old) (answers_in end lab old new input left wrote wrote' e) new
  ended_says end.Bye input left wrote wrote' e = last_says e.1.talk e.1.after e.1.last e.1.stands
  ended_says end.WriteFault input left wrote wrote' e = last_says e.2.talk e.2.after e.2.last e.2.stands
  ended_says end.Memory input left wrote wrote' e = record { end = nobody_known old; turns = refl; stands = sym e.0; forgets = λ bye. refl }
  ended_says _ input left wrote wrote' e = talk_says e.1.talk e.1.stands

  pub conversation_says : (said : List Answered) → IsConversation lab said old new → Says lab (nobody_known old) said new
  conversation_says said c = grind (arith, nat_tests, ended_says)
