-- The participant who is known on a connection, in a hall and in a session. A participant is known on a connection from
-- a granted hello to a bye.
use Rattle.std.proofs.Common.{◌≡◌, ◌⊎◌, ℕ, List, Option, None, Some, Ok, ap, ◌∙◌, arith}
use Rattle.std.proofs.lemmas.{List.set-get_or, Bool.Decides.nat_tests}
use Rattle.mml_lab.specs.{declared.who.Who.Who, Labs.LabValue, Rosters.RosterValue, Rosters.IsRoster, RosterMeaning.IsKnownAs}
use Rattle.mml_lab.proofs.RosterMeaningLemmas.{principal-nobody}
use Rattle.mml_policy.specs.{declared.command.Command.Command, Rulings.ruling}
use Rattle.mml_codec.specs.declared.{greeting.Greeting.Greeting, greeting.Greeting.TheVariants.Answered, greeting.Greeting.TheVariants.LeftToJudge, request.Request.Request, reply.Reply.Reply}
use Rattle.mml_codec.specs.{Greetings.admitted, Greetings.greeting, Lines.request_in}
use Rattle.mml_laws.specs.Greeted.{IsTold, IsDenied}
use Rattle.mml_board.specs.declared.denial.Denial.TheVariants as denial
use Rattle.mml_codec.specs.declared.request.Request.TheVariants as requests
use Rattle.mml_codec.specs.declared.reply.Reply.TheVariants as reply
use Rattle.mml_hall.specs.Turns as hall
use Rattle.mml_session.specs.Turns as session

pub nobody_greets : (r : RosterValue) (name key : List ℕ) → IsRoster r → ((w : Who) → ¬ IsKnownAs r w name key)
    → greeting r None (requests.Hello name key) ≡ Answered (reply.Deny denial.Unknown) None
nobody_greets r name key is none = ap admitted ((principal-nobody r name key is).1 none)

-- ---- in a hall

module _ (lab : LabValue) (st : hall.State) (k : ℕ) where
  -- if x is already known on the connection, the state in which x is known is this state
  pub same_known : (x : Option Who) → hall.known_on st k ≡ x → hall.with_known st k x ≡ st
  same_known x e = grind (arith, nat_tests, set-get_or)

  module _ (line : List ℕ) where
    pub plain_so : (q : Request) (g : Greeting) → request_in line ≡ Ok q → greeting lab.roster (hall.known_on st k) q ≡ g → hall.plain_turn lab st k line ≡ hall.settled lab st k g
    unfolding hall.plain_turn
    plain_so q g asked e = ap (hall.answer_to lab st k) asked ∙ ap (hall.settled lab st k) e

    pub hall_again : (out : hall.Outcome) (x : Who) (name key : List ℕ) → hall.known_on st k ≡ Some x → request_in line ≡ Ok (requests.Hello name key)
        → hall.Turn lab st k line out → IsTold st (reply.Deny denial.Greeted) out
    unfolding hall.plain_turn
    hall_again out x name key known asked t = grind (arith, nat_tests, same_known (Some x) known)

    pub hall_judged : (x : Who) (c : Command) → hall.known_on st k ≡ Some x → request_in line ≡ Ok (requests.Do c)
        → hall.plain_turn lab st k line ≡ hall.outcome_of st (ruling lab.ids lab.roster lab.events st.halted st.world x c)
    hall_judged x c known asked = plain_so (requests.Do c) (LeftToJudge x c) asked (ap (λ (y : Option Who). greeting lab.roster y (requests.Do c)) known)

    pub hall_unknown : (out : hall.Outcome) (c : Command) → hall.known_on st k ≡ None → request_in line ≡ Ok (requests.Do c)
        → hall.Turn lab st k line out → IsTold st (reply.Deny denial.NotGreeted) out
    unfolding hall.plain_turn
    hall_unknown out c known asked t = grind (arith, nat_tests, same_known None known)

-- ---- in a session

module _ (lab : LabValue) (st next : session.Standing) (line : List ℕ) (r : Reply) where
  pub session_again : (x : Who) (name key : List ℕ) → st.known ≡ Some x → request_in line ≡ Ok (requests.Hello name key)
      → session.Turn lab st line r next → IsDenied denial.Greeted st r next
  session_again x name key known asked t = grind (arith, nat_tests)

  pub session_unknown : (c : Command) → st.known ≡ None → request_in line ≡ Ok (requests.Do c) → session.Turn lab st line r next → IsDenied denial.NotGreeted st r next
  session_unknown c known asked t = grind (arith, nat_tests)

  pub session_judged : (x : Who) (c : Command) → st.known ≡ Some x → request_in line ≡ Ok (requests.Do c) → session.Turn lab st line r next
      → ((next.known ≡ Some x) × session.Told lab st.window x c r next.window) ⊎ session.Unread st r next
  session_judged x c known asked t = grind (arith, nat_tests)
