-- The judging task that the words of the command line ask for.
use Rattle.std.specs.Prelude.{ℕ, List, codes, Option, None, Some, if◌then◌else◌}
use Rattle.clap.specs.{declared.parser.matches.Found.Found, Matches.first_value}
use Rattle.mml_journal.specs.Words.{◌>>=◌, is_word}
use Rattle.mml_host_program.specs.declared.words.JudgingTask.{JudgingTask}
use Rattle.mml_host_program.specs.declared.words.JudgingTask.TheVariants as task

-- what a task asks for: the name of a command, and the paths of the lab, of the journal and of the record's folder
pub record Wanted : Type 0 where
  pub word : List ℕ
  pub lab : List ℕ
  pub journal : Option (List ℕ)
  pub folder : Option (List ℕ)

-- what the task asks for
abbrev pub wanted_by : JudgingTask → Wanted
wanted_by (task.Answer lab) = record { word = codes "answer"; lab = lab.now; journal = None; folder = None }
wanted_by (task.Verify t) = record { word = codes "verify"; lab = t.lab.now; journal = Some t.journal.now; folder = Some t.folder.now }
wanted_by (task.Tally t) = record { word = codes "tally"; lab = t.lab.now; journal = Some t.journal.now; folder = None }
wanted_by (task.TallyRecorded t) = record { word = codes "tally"; lab = t.lab.now; journal = Some t.journal.now; folder = Some t.folder.now }

-- what the word `answer` asks for
abbrev pub answer_wanted : List ℕ → Wanted
answer_wanted lab = record { word = codes "answer"; lab = lab; journal = None; folder = None }

-- what the word `verify` asks for
abbrev pub verify_wanted : List ℕ → List ℕ → List ℕ → Wanted
verify_wanted lab journal folder = record { word = codes "verify"; lab = lab; journal = Some journal; folder = Some folder }

-- what the word `tally` asks for: the record's folder may be left out
abbrev pub tally_wanted : List ℕ → List ℕ → Option (List ℕ) → Wanted
tally_wanted lab journal folder = record { word = codes "tally"; lab = lab; journal = Some journal; folder = folder }

-- what the word `verify` asks for, if these values have a journal and a record
unfoldable pub verify_in : List ℕ → Found → Option Wanted
verify_in lab values = do
  journal ← first_value values (codes "journal")
  folder ← first_value values (codes "record")
  Some (verify_wanted lab journal folder)

-- what the word `tally` asks for, if these values have a journal
unfoldable pub tally_in : List ℕ → Found → Option Wanted
tally_in lab values = do
  journal ← first_value values (codes "journal")
  Some (tally_wanted lab journal (first_value values (codes "record")))

-- what the word with these values asks for, over the lab with this path
unfoldable pub wanted_over : List ℕ → List ℕ → Found → Option Wanted
wanted_over lab word values =
    if is_word (codes "answer") word then Some (answer_wanted lab)
    else (if is_word (codes "verify") word then verify_in lab values else (if is_word (codes "tally") word then tally_in lab values else None))

-- what the word with these values asks for, if they have a lab
unfoldable pub wanted_in : List ℕ → Found → Option Wanted
wanted_in word values = do
  lab ← first_value values (codes "lab")
  wanted_over lab word values
