-- The tally of a journal. A world is the state of a run after some events: its network and its chosen moves.
use Rattle.std.proofs.Common.{◌≡◌, List, ℕ, ◌++◌, ◌∙◌}
use Rattle.mml_lab.specs.Labs.{LabValue}
use Rattle.mml_board.specs.{declared.event.Event.Event, World.World, Lists.world_in}
use Rattle.mml_audit.specs.AuditMeaning.{IsJournalOf}
use Rattle.mml_tally.specs.{Texts.tally_text, Rounds.rounds_line}
use Rattle.mml_host_program.specs.Tallies.{IsTally}

-- the text is the tally of the events that an audit returned, and of the world after them
pub tally_is : (lab : LabValue) (es slice : List Event) (bytes text : List ℕ) (w : World) → IsJournalOf lab es bytes
    → slice ≡ es → w ≡ world_in lab es → text ≡ tally_text lab w slice ++ rounds_line lab slice → IsTally lab bytes text
tally_is lab es slice bytes text w journal same leads told = record {
  events = es;
  journal = journal;
  told = told ∙ (λ k. tally_text lab (leads k) (same k) ++ rounds_line lab (same k));
}
