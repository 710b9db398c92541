-- Runs of steps. Each step takes a line and has a reply.
use Rattle.std.proofs.Common.{◌≡◌, List, [], ◌∷◌, ◌++◌, append-nil, flat_map, length, suc, refl, ap}
use Rattle.std.{specs.List.AllByRecursion, proofs.lemmas.List.Concat.flat_map-append}
use Rattle.mml_lines.specs.Runs.{Runs, AtEach, Exchange, OneStep}

module _ {A L R : Type 0} (Step : A → L → R → A → Type 0) where
  -- a run followed by one more step is a run
  unfoldable pub run_longer : (st mid end : A) (lines : List L) (rs : List R) (line : L) (r : R) → Runs Step st lines rs mid → Step mid line r end
      → Runs Step st (lines ++ line ∷ []) (rs ++ r ∷ []) end
  run_longer st mid end [] [] line r run one = (end, rw (← run) one, refl)
  run_longer st mid end (l ∷ lines) (q ∷ rs) line r run one = (run.0, run.1, run_longer run.0 mid end lines rs line r run.2 one)
  run_longer st mid end _ _ line r run one = absurd run

  -- P holds for each run if it holds for the run without steps, and for a step before a run if it holds for this run
  pub by_steps : (P : A → List L → List R → A → Type 0) → ((st : A) → P st [] [] st)
      → ((st next end : A) (line : L) (r : R) (lines : List L) (rs : List R) → Step st line r next → P next lines rs end → P st (line ∷ lines) (r ∷ rs) end)
      → (st end : A) (lines : List L) (rs : List R) → Runs Step st lines rs end → P st lines rs end
  by_steps P none more st end [] [] run = rw run (none st)
  by_steps P none more st end (line ∷ lines) (r ∷ rs) run = more st run.0 end line r lines rs run.1 (by_steps P none more run.0 end lines rs run.2)
  by_steps P none more st end _ _ run = absurd run

  -- a run has as many replies as lines
  pub as_many : (st end : A) (lines : List L) (rs : List R) → Runs Step st lines rs end → length rs ≡ length lines
  as_many = by_steps (λ st lines rs end. length rs ≡ length lines) (λ st. refl) (λ st next end line r lines rs one rest. ap (λ n. suc n) rest)

  -- if a reflexive and transitive relation holds between the states before and after each step, it holds between the
  -- states before and after a run
  pub run_keeps : (Keeps : A → A → Type 0) → ((st : A) → Keeps st st) → ((st next end : A) → Keeps st next → Keeps next end → Keeps st end)
      → ((st next : A) (line : L) (r : R) → Step st line r next → Keeps st next)
      → (st end : A) (lines : List L) (rs : List R) → Runs Step st lines rs end → Keeps st end
  run_keeps Keeps none trans each = by_steps (λ st _ _ end. Keeps st end) none (λ st next end line r _ _ one. trans st next end (each st next line r one))

  -- P holds at each step of a run that begins with `Begins` and ends with `Ends`. Steps must keep `Begins` forwards and
  -- `Ends` backwards, and P must follow from both
  pub run_at_each : (P : A → L → R → A → Type 0) (Begins Ends : A → Type 0)
      → ((st next : A) (line : L) (r : R) → Step st line r next → Begins st → Begins next)
      → ((st next : A) (line : L) (r : R) → Step st line r next → Ends next → Ends st)
      → ((st next : A) (line : L) (r : R) → Step st line r next → Begins st → Ends next → P st line r next)
      → (st end : A) (lines : List L) (rs : List R) (run : Runs Step st lines rs end) → Begins st → Ends end → AtEach Step P st lines rs end run
  run_at_each P Begins Ends on back here st end [] [] run b e = tt
  run_at_each P Begins Ends on back here st end (line ∷ lines) (r ∷ rs) run b e =
      let ends = run_keeps (λ st end. Ends end → Ends st) (λ st h. h) (λ st next end f g h. f (g h)) back run.0 end lines rs run.2 e in
      (here st run.0 line r run.1 b ends, run_at_each P Begins Ends on back here run.0 end lines rs run.2 (on st run.0 line r run.1 b) e)
  run_at_each P Begins Ends on back here st end _ _ run b e = absurd run

-- ---- one more step at the end

pub each_longer : {A : Type 0} (P : A → Type 0) (xs : List A) (x : A) → AllByRecursion P xs → P x → AllByRecursion P (xs ++ x ∷ [])
each_longer P [] x all one = (one, tt)
each_longer P (y ∷ xs) x all one = (all.0, each_longer P xs x all.1 one)

pub flat_longer : {A B : Type 0} (f : A → List B) (xs : List A) (x : A) → flat_map f (xs ++ x ∷ []) ≡ flat_map f xs ++ f x
flat_longer f xs x = rw (flat_map-append f xs (x ∷ []), append-nil (f x)) refl

module _ {X A L R : Type 0} {Step : X → A → L → R → A → Type 0} {MayCome : X → L → Type 0} {MayReply : R → Type 0} {lab : X} {st : A} where
  -- an exchange without a line
  abbrev pub empty : Exchange Step MayCome MayReply lab st
  empty = record { lines = []; replies = []; end = st; each = tt; goes_on = tt; run = refl }

  -- an exchange with one more line
  abbrev pub longer : (t : Exchange Step MayCome MayReply lab st) {after : A} (s : OneStep Step MayCome lab t.end after) → MayReply s.reply
      → Exchange Step MayCome MayReply lab st
  longer t {after} s may = record {
    lines = t.lines ++ s.line ∷ [];
    replies = t.replies ++ s.reply ∷ [];
    end = after;
    each = each_longer (MayCome lab) t.lines s.line t.each s.valid;
    goes_on = each_longer MayReply t.replies s.reply t.goes_on may;
    run = run_longer (Step lab) st t.end after t.lines t.replies s.line s.reply t.run s.turn;
  }
