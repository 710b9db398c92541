-- The requests of a student that were refused, by reason, and their line in the tally.
use Rattle.std.specs.Prelude.{ℕ, Bool, true, false, List, [], ◌∷◌, ◌++◌, codes, Option, Some, count_by}
use Rattle.mml_lab.specs.{Labs.LabValue, Rosters.name_of}
use Rattle.mml_policy.specs.declared.refusal.Refusal.{Refusal}
use Rattle.mml_stable.specs.Reports.{each_below}
use Rattle.mml_tally.specs.{declared.ask.Ask.Ask, declared.refusals.Refusals.Refusals, Asks.asks_by, Texts.numbers_text}
use Rattle.mml_lab.specs.declared.who.Who.TheVariants as who
use Rattle.mml_policy.specs.declared.refusal.Refusal.TheVariants as refusal

-- whether the line was refused for this reason
abbrev pub is_refused : Refusal → Option Refusal → Bool
is_refused refusal.Journal (Some refusal.Journal) = true
is_refused refusal.Memory (Some refusal.Memory) = true
is_refused refusal.Full (Some refusal.Full) = true
is_refused _ _ = false

-- how many lines were refused for each reason
abbrev pub refusals_in : List Ask → Refusals
refusals_in own = record {
  journal = count_by (λ a. is_refused refusal.Journal a.refused) own;
  memory = count_by (λ a. is_refused refusal.Memory a.refused) own;
  full = count_by (λ a. is_refused refusal.Full a.refused) own;
}

-- how many lines of a student were refused for each reason
abbrev pub refusals_of : List Ask → ℕ → Refusals
refusals_of asks s = refusals_in (asks_by s asks)

-- the line of a student: how many lines were refused because of the journal, of memory, and of the limit of events
abbrev pub refused_line : List ℕ → Refusals → List ℕ
refused_line name n = codes "refused " ++ (name ++ (numbers_text (n.journal ∷ n.memory ∷ n.full ∷ []) ++ codes "\n"))

-- a line for each student below n, in the lab's order
abbrev pub refused_text : LabValue → List Ask → ℕ → List ℕ
refused_text lab asks n = each_below n (λ s. refused_line (name_of lab.roster (who.Student s)) (refusals_of asks s))
