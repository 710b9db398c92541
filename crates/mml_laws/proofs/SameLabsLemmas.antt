-- Two labs that agree in everything that a journal names. A world is the state of a run after some events: its network
-- and its chosen moves.
use Rattle.std.proofs.lemmas.Bool.Decides.{nat_tests}
use Rattle.std.proofs.Common.{◌≡◌, ◌∙◌, ℕ, suc, ◌<◌, ◌≤◌, not, Bool, false, List, [], ◌∷◌, length, slice_index_or, inl, inr, refl, ap, sym, arith}
use Rattle.std.{specs.List.prefix_len, proofs.lemmas.List.same_lists, proofs.lemmas.List.get_or_default, proofs.lemmas.Bool.cases_lt, proofs.lemmas.Bool.false_from_ne_true}
use Rattle.mml_ids.specs.inside.WordsLemmas.{same_ranks}
use Rattle.mml_rules.specs.Network.{Network, IsNetwork, neighbours_at, no_regs}
use Rattle.mml_lab.specs.{declared.who.Who.Who, Labs.LabValue, Labs.IsLab}
use Rattle.mml_lab.specs.Rosters.{Account, RosterValue, IsPrincipal, name_of, owns, has_name, no_account, student_named}
use Rattle.mml_board.specs.{declared.event.Event.Event, World.opening_of, Runs.world_of, Lists.world_in}
use Rattle.mml_journal.specs.{EventWords.EventWords, EventWords.line_of, EventLines.said_by, EventLines.event_line, EventLines.event_named, EventLines.IsEventOf}
use Rattle.mml_lab_file.specs.Sameness.{IsSameLab}
use Rattle.std.specs.FinSet as set

-- ---- lines

-- whether an account doesn't have this name
abbrev lacks : List ℕ → Account → Bool
lacks name x = not (has_name name x)

-- if two lists of accounts have the same names in the same order, a name has the same index in both
names_alike : (name : List ℕ) (xs ys : List Account) → length xs ≡ length ys
    → ((k : ℕ) → k < length xs → (slice_index_or xs k no_account).name ≡ (slice_index_or ys k no_account).name)
    → prefix_len (lacks name) xs ≡ prefix_len (lacks name) ys
names_alike name [] [] long same = refl
names_alike name [] (y ∷ ys) long same = grind arith
names_alike name (x ∷ xs) [] long same = grind arith
names_alike name (x ∷ xs) (y ∷ ys) long same =
    cc (same 0 (omega arith), names_alike name xs ys (omega (arith, long)) (λ k below. same (suc k) (omega (arith, below))))

students_alike : (a b : LabValue) → IsSameLab a b → (name : List ℕ) → student_named a.roster name ≡ student_named b.roster name
students_alike a b is name = grind (arith, nat_tests, names_alike name a.roster.students b.roster.students is.names.1 is.names.2)

module _ (ids : List ℕ) (r q : RosterValue) (alike : (name : List ℕ) → student_named r name ≡ student_named q name) where
  -- if each name has the same index among the students of two rosters, the words of a line name the same event with
  -- both
  named_alike : (w : EventWords) → event_named ids r w ≡ event_named ids q w
  unfolding event_named
  named_alike w = grind (arith, nat_tests)

-- each line is read as the same event, or has the same error
pub said_alike : (a b : LabValue) (bytes : List ℕ) → IsSameLab a b → said_by a.ids a.roster bytes ≡ said_by b.ids b.roster bytes
said_alike a b bytes is = grind (arith, nat_tests, named_alike a.ids a.roster b.roster (students_alike a b is), line_of bytes)

-- each participant has the same name in both labs
pub name_alike : (a b : LabValue) (w : Who) → IsSameLab a b → IsPrincipal a.roster w → name_of a.roster w ≡ name_of b.roster w
name_alike a b w is here = grind (arith, nat_tests)

-- each event has the same line in both labs
pub line_alike : (a b : LabValue) (place before : ℕ) (e : Event) → IsSameLab a b → IsEventOf a.ids a.roster e
    → event_line a.ids a.roster place before e ≡ event_line b.ids b.roster place before e
line_alike a b place before e is of = grind (arith, nat_tests)

-- ---- worlds

-- a number that is at least the number of nodes is no neighbour of a node
no_link_past : (n : Network) (i q : ℕ) → IsNetwork n → length n.registers ≤ q → set.contains (neighbours_at n.neighbours i) q ≡ false
no_link_past n i q is past = false_from_ne_true _ (λ linked. absurd (omega (arith, past, (is.lawful.in_range i q linked).1)))

module _ (a b : LabValue) (la : IsLab a) (lb : IsLab b) (is : IsSameLab a b) where
  nodes_alike : length a.network.registers ≡ length b.network.registers
  nodes_alike = la.nodes ∙ ap (λ (ids : List ℕ). length ids) is.ids ∙ sym lb.nodes

  links_alike : (i : ℕ) → i < length a.ids → neighbours_at a.network.neighbours i ≡ neighbours_at b.network.neighbours i
  links_alike i here = same_ranks _ _ (λ q. elim (cases_lt q (length a.ids)) [
    | inl within ↦ (is.nodes i here).links q within
    | inr past ↦ no_link_past a.network i q la.network (omega (arith, past, la.nodes)) ∙ sym (no_link_past b.network i q lb.network (omega (arith, past, la.nodes, nodes_alike)))
  ])

  rows_alike : a.network.neighbours ≡ b.network.neighbours
  rows_alike =
      same_lists _ _ (la.network.rows ∙ nodes_alike ∙ sym lb.network.rows) (λ k d below.
      get_or_default a.network.neighbours k d set.empty below ∙ links_alike k (omega (arith, below, la.network.rows, la.nodes))
      ∙ get_or_default b.network.neighbours k set.empty d (omega (arith, below, la.network.rows, nodes_alike, lb.network.rows)))

  registers_alike : a.network.registers ≡ b.network.registers
  registers_alike =
      same_lists _ _ nodes_alike (λ k d below.
      get_or_default a.network.registers k d no_regs below ∙ (is.nodes k (omega (arith, below, la.nodes))).registers
      ∙ get_or_default b.network.registers k no_regs d (omega (arith, below, nodes_alike)))

  pub networks_alike : a.network ≡ b.network
  networks_alike t = record { neighbours = rows_alike t; registers = registers_alike t }

-- a list of events leads to the same world in both labs
pub world_alike : (a b : LabValue) (l : List Event) → IsLab a → IsLab b → IsSameLab a b → world_in a l ≡ world_in b l
world_alike a b l la lb is = ap (λ n. world_of (opening_of n) l) (networks_alike a b la lb is)

-- each participant owns the same nodes in both labs
pub owner_alike : (a b : LabValue) (w : Who) (i : ℕ) → IsSameLab a b → IsPrincipal a.roster w → i < length a.ids → owns a.roster w i ≡ owns b.roster w i
owner_alike a b w i is here node = grind (arith, nat_tests, is.nodes i node)
