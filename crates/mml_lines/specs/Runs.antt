-- Runs of steps. Each step takes a line, has a reply, and leads from one state to the next.
use Rattle.std.specs.{Prelude.◌≡◌, Prelude.List, Prelude.[], Prelude.◌∷◌, List.AllByRecursion}

-- a run from the state `st` to the state `end`: each step begins in the state in which the step before it ended
abbrev pub Runs : {A L R : Type 0} → (A → L → R → A → Type 0) → A → List L → List R → A → Type 0
Runs Step st [] [] end = end ≡ st
Runs {A} Step st (line ∷ lines) (r ∷ rs) end = (next : A) × Step st line r next × Runs Step next lines rs end
Runs Step st [] (r ∷ rs) end = ⊥
Runs Step st (line ∷ lines) [] end = ⊥

-- a run of steps that have no replies
abbrev pub Chain : {A L : Type 0} → (L → A → A → Type 0) → A → List L → A → Type 0
Chain Step st lines end = Runs (λ st line r next. Step line st next) st lines lines end

-- P holds at each step of a run, for the state before the step, its line, its reply, and the state after it
abbrev pub AtEach : {A L R : Type 0} (Step P : A → L → R → A → Type 0) (st : A) (lines : List L) (rs : List R) (end : A) → Runs Step st lines rs end → Type 0
AtEach Step P st [] [] end run = Unit {0}
AtEach Step P st [] (r ∷ rs) end run = Unit {0}
AtEach Step P st (line ∷ lines) [] end run = Unit {0}
AtEach Step P st (line ∷ lines) (r ∷ rs) end run = P st line r run.0 × AtEach Step P run.0 lines rs end run.2

-- an exchange: lines that may come, a reply to each that may be returned, and the state that they lead to
pub record Exchange {X A L R : Type 0} (Step : X → A → L → R → A → Type 0) (MayCome : X → L → Type 0) (MayReply : R → Type 0) (lab : X) (st : A) : Type 0 where
  pub lines : List L
  pub replies : List R
  pub end : A
  pub each : AllByRecursion (MayCome lab) lines
  pub goes_on : AllByRecursion MayReply replies
  pub run : Runs (Step lab) st lines replies end

-- one line that may come, its reply, and the step from one state to another
pub record OneStep {X A L R : Type 0} (Step : X → A → L → R → A → Type 0) (MayCome : X → L → Type 0) (lab : X) (st after : A) : Type 0 where
  pub line : L
  pub reply : R
  pub valid : MayCome lab line
  pub turn : Step lab st line reply after
