-- The effect of a turn, for any engine. A turn is a line with its reply, and with the states before and after the line.
-- The place of an event is its number in the list of events, from 1.
use Rattle.std.proofs.lemmas.Bool.Decides.{nat_tests}
use Rattle.std.proofs.Common.{◌≡◌, ◌⊎◌, ◌∙◌, ℕ, true, List, Option, Some, None, Result, Ok, Err, refl, ap, inl, inr, arith}
use Rattle.mml_lab.specs.{declared.who.Who.Who, Rosters.RosterValue}
use Rattle.mml_board.specs.declared.denial.Denial.{Denial}
use Rattle.mml_policy.specs.declared.command.Command.{Command}
use Rattle.mml_codec.specs.declared.{request.LineFault.LineFault, request.Request.Request, reply.Reply.Reply}
use Rattle.mml_codec.specs.declared.greeting.Greeting.{Greeting, TheVariants.Answered, TheVariants.LeftToJudge}
use Rattle.mml_codec.specs.{Greetings.greeting, Lines.request_in, Replies.is_short, Replies.place_in}
use Rattle.mml_engine.specs.Turns.{Settles, Asked, Turn}
use Rattle.mml_codec.specs.declared.request.Request.TheVariants as requests
use Rattle.mml_codec.specs.declared.reply.Reply.TheVariants as replies

-- ---- the result of a request: a denial, a granted hello, a bye, or a command that is left to judge

module _ (P : Greeting → Type 0) (hello : (who : Who) → P (Answered (replies.Hello who) (Some who))) (bye : P (Answered replies.Bye None)) where
  -- P holds for the result of any request if it holds for each of these results
  pub by_greeting : (roster : RosterValue) (known : Option Who) (q : Request) → ((d : Denial) → P (Answered (replies.Deny d) known))
      → ((who : Who) (c : Command) → known ≡ Some who → q ≡ requests.Do c → P (LeftToJudge who c)) → P (greeting roster known q)
  by_greeting roster known q denied judged = grind (arith, nat_tests)

-- ---- a line is answered without the engine, or by it

-- the line was answered without the engine, which stays as it was; the reply is neither a look nor a report, and names
-- no place
pub record IsQuiet {E V : Type 0} (e : E) (v : V) (r : Reply) (e' : E) (v' : V) : Type 0 where
  pub short : is_short r ≡ true
  pub nameless : place_in r ≡ None
  pub engine : e' ≡ e
  pub view : v' ≡ v

-- the line is a command of a known participant, and the engine has answered it
pub record IsTold {E V : Type 0} (tells : E → V → Who → Command → Reply → E → V → Type 0) (known : Option Who) (line : List ℕ) (e : E) (v : V) (r : Reply)
    (known' : Option Who) (e' : E) (v' : V) : Type 0 where
  pub who : Who
  pub command : Command
  pub by : known ≡ Some who
  pub asked : request_in line ≡ Ok (requests.Do command)
  pub still : known' ≡ known
  pub told : tells e v who command r e' v'

module _ {E V : Type 0} (tells : E → V → Who → Command → Reply → E → V → Type 0) (roster : RosterValue) (known : Option Who) (e : E) (v : V) (line : List ℕ)
    (r : Reply) (known' : Option Who) (e' : E) (v' : V) where
  abbrev pub Does : Type 0
  Does = IsQuiet e v r e' v' ⊎ IsTold tells known line e v r known' e' v'

  asked_does : (asked : Result Request LineFault) → request_in line ≡ asked → Asked tells roster known e v asked r known' e' v' → Does
  asked_does (Err fault) is h = inl (grind (arith, nat_tests))
  asked_does (Ok q) is h =
      by_greeting (λ g. Settles tells known e v g r known' e' v' → Does) (λ who s. inl (grind (arith, nat_tests))) (λ s. inl (grind (arith, nat_tests)))
      roster known q (λ d s. inl (grind (arith, nat_tests)))
      (λ who c by asked s. inr (record { who = who; command = c; by = by; asked = is ∙ ap Ok asked; still = s.0; told = s.1 })) h

  -- in each turn, the line is answered without the engine, or by it
  pub turn_does : Turn tells roster known e v line r known' e' v' → Does
  turn_does (inl h) = asked_does (request_in line) refl h
  turn_does (inr h) = inl (grind (arith, nat_tests))
