-- Acts that are decided on the one book of a house, which has its list of events and its journal.
use Rattle.std.specs.Prelude.{ℕ, List}
use Rattle.mml_lab.specs.{declared.who.Who.Who, Labs.LabValue}
use Rattle.mml_lines.specs.Runs.{Runs}
use Rattle.mml_policy.specs.declared.command.Command.{Command}
use Rattle.mml_window.specs.{declared.answer.Answer.Answer, declared.answer.Answer.TheVariants.Granted, Answers.Decides, Books.BookValue}

-- a command and the participant who asked for it
pub record Act : Type 0 where
  pub who : Who
  pub command : Command

-- the act is decided on the book
abbrev pub DecidesAct : {S : Type 0} → LabValue → (S → ℕ) → BookValue S → Act → Answer → BookValue S → Type 0
DecidesAct lab failures old act answer new = Decides lab failures old act.who act.command answer new

-- acts are decided on the book, one after another
abbrev pub DecidesEach : {S : Type 0} → LabValue → (S → ℕ) → BookValue S → List Act → List Answer → BookValue S → Type 0
DecidesEach lab failures old acts answers new = Runs (DecidesAct lab failures) old acts answers new

-- the answer is no grant
abbrev pub IsNoGrant : Answer → Type 0
IsNoGrant (Granted place number done) = ⊥
IsNoGrant _ = Unit {0}
