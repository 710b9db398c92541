-- When a run is over, and how many moves follow its last fault, link or cut. A world is the state of a run after some
-- events: its network and its chosen moves. A house is one run of a lab that threads share.
use Rattle.std.proofs.Common.{◌≡◌, ◌<◌, ◌≤◌, ◌+◌, ◌*◌, ℕ, Bool, true, false, List, ◌++◌, length, None, Some, Ok, refl, sym, ap, ◌∙◌, subst, arith}
use Rattle.std.{specs.List.list_all, proofs.lemmas.Bool.and_parts, proofs.lemmas.Bool.false_from_ne_true, proofs.lemmas.Bool.Decides.nat_tests}
use Rattle.mml_rules.specs.Matching.{IsStable}
use Rattle.mml_lab.specs.Labs.{LabValue, IsLab, link_count}
use Rattle.mml_lab_file.{specs.Reading.lab_of, proofs.LabMeaningLemmas.lawful, proofs.OwnersLemmas.one_or_two}
use Rattle.mml_board.specs.{declared.event.Event.Event, Events.is_legal, Events.done_by, Runs.is_legal_list, Lists.world_in, World.World, World.size, World.configuration, World.opening_of}
use Rattle.mml_board.proofs.RunsLemmas.{list-world, legal-append, place-world_of, size-world_of}
use Rattle.mml_policy.specs.{declared.ruling.Ruling.TheVariants.Granted, Alike.IsWorldOf, Asking.asker, Asking.command_of, Asking.id_of, Asking.asked_of, Rulings.event_of}
use Rattle.mml_policy.proofs.AskingLemmas.{legal_granted}
use Rattle.mml_audit.specs.AuditMeaning.{IsJournalOf}
use Rattle.mml_stable.{specs.Listed.IsMaximalMatching, specs.Reports.report_of, proofs.ListedLemmas.listed_matching, proofs.MatchingLemmas.stable-means}
use Rattle.mml_convergence.specs.{Moves.applied_over, Moves.count_closes, Rest.IsOver, Runs.is_of_step}
use Rattle.mml_convergence.proofs.{AppliedLemmas.moves_bounded, AppliedLemmas.closes_bounded, RestLemmas.ended}
use Rattle.mml_window.specs.Rulings.{ruling_while}
use Rattle.mml_tally.proofs.StudentsLemmas.{opening-world}
use Rattle.mml_laws.{specs.Ends.GrantsNoStep, proofs.RuledLemmas.ruled_granted}
use Rattle.mml_board.specs.declared.event.Event.TheVariants as event

-- ---- the world after a legal list of events

-- a legal list of a lab's events leads to a lawful world of the lab
in_lab : (lab : LabValue) → IsLab lab → (es : List Event) → is_legal_list lab.roster (opening_of lab.network) es ≡ true
    → IsWorldOf lab.ids (world_in lab es)
in_lab lab is es legal =
    record { world = list-world lab.roster (opening_of lab.network) es (opening-world lab is) legal; nodes = sym (size-world_of (opening_of lab.network) es ∙ is.nodes) }

-- ---- a house in which neither a move nor a close would be granted

module _ (lab : LabValue) (is : IsLab lab) (w : World) (in_w : IsWorldOf lab.ids w) (halted : Bool) (room : w.place < lab.events) (running : halted ≡ false)
  where
    -- a legal event is granted to the participant who may ask for it
    pub legal_takes_place : (e : Event) → is_legal lab.roster w e ≡ true
        → ruling_while lab halted w (asker e) (command_of lab.ids w e) ≡ Granted e (done_by w e)
    legal_takes_place e legal =
        (ruled_granted lab.ids lab.roster lab.events halted w (asker e) (command_of lab.ids w e) e (done_by w e)).1
        (legal_granted lab.ids is.ids w in_w lab.roster e legal, room, running, refl)

    none_legal : (e : Event) → event_of (ruling_while lab halted w (asker e) (command_of lab.ids w e)) ≡ None → is_legal lab.roster w e ≡ false
    none_legal e none = false_from_ne_true _ (λ legal. let h : Some e ≡ None = sym (ap event_of (legal_takes_place e legal)) ∙ none in cc)

    over : GrantsNoStep lab halted w → IsOver lab.roster w
    over none = record {
      no_grant = λ s i rule. none_legal (event.Grant s i rule) (none.no_move s (id_of lab.ids i) (asked_of lab.ids rule) w.number);
      no_close = none_legal event.Close none.no_close;
    }

pub over_is_stable : (bytes : List ℕ) (lab : LabValue) (es : List Event) (w : World) (halted : Bool) → lab_of bytes ≡ Ok lab
    → is_legal_list lab.roster (opening_of lab.network) es ≡ true → w ≡ world_in lab es → length es < lab.events → halted ≡ false
    → GrantsNoStep lab halted w → IsStable (configuration w) × IsMaximalMatching (configuration w) (report_of w).pairs
over_is_stable bytes lab es w halted spelled legal here room running none =
    let is = lawful bytes lab spelled in
    let there = in_lab lab is es legal in
    let place : (world_in lab es).place < lab.events = omega (arith, place-world_of (opening_of lab.network) es) in
    let done = over lab is (world_in lab es) there halted place running (subst (GrantsNoStep lab halted) here none) in
    let owned = λ (i : ℕ) (lt : i < size (opening_of lab.network)). (one_or_two bytes lab i spelled (omega (arith, lt, is.nodes))).0 in
    let stable = (ended lab.roster (opening_of lab.network) es (opening-world lab is) owned legal done).0 in
    subst (λ (v : World). IsStable (configuration v) × IsMaximalMatching (configuration v) (report_of v).pairs) (sym here)
    (stable, listed_matching _ there.world.network.lawful ((stable-means (configuration (world_in lab es))).1 stable))

-- ---- the moves after the last fault, link or cut

module _ (lab : LabValue) (es fs : List Event) (bytes : List ℕ) (is : IsLab lab) (journal : IsJournalOf lab (es ++ fs) bytes)
    (steps : list_all is_of_step fs ≡ true) where
  both_legal : (is_legal_list lab.roster (opening_of lab.network) es ≡ true) × (is_legal_list lab.roster (world_in lab es) fs ≡ true)
  both_legal = grind (arith, nat_tests, and_parts, legal-append)

  there : IsWorldOf lab.ids (world_in lab es)
  there = in_lab lab is es both_legal.0

  pub few_moves : applied_over (world_in lab es) fs ≤ 2 * link_count (world_in lab es).network + 3 * length lab.ids
  few_moves = omega (arith, moves_bounded lab.roster (world_in lab es) fs there.world both_legal.1 steps, there.nodes)

  pub few_closes : count_closes fs ≤ 2 * link_count (world_in lab es).network + 3 * length lab.ids
  few_closes = omega (arith, closes_bounded lab.roster (world_in lab es) fs there.world both_legal.1 steps, there.nodes)
