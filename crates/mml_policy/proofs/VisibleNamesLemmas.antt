-- If nodes get other names in the same order, they are visible to the same participants.
use Rattle.std.proofs.{Common.◌≡◌, Common.ℕ, Common.◌<◌, Common.◌||◌, Common.sym, Common.ap, Common.◌∙◌, Common.arith}
use Rattle.mml_ids.proofs.SearchLemmas.{same_bool}
use Rattle.mml_policy.proofs.VisibleLemmas.{neighbour_means}
use Rattle.mml_rules.specs.{Configuration.Configuration, Naming.IsRenamed}
use Rattle.mml_lab.specs.{declared.who.Who.Who, Rosters.RosterValue, Rosters.owns, Rosters.owners_of}
use Rattle.mml_policy.specs.Visible.{is_teacher, owns_neighbour, is_visible}

module _ (f : ℕ → ℕ) (c d : Configuration) (r s : RosterValue) (names : IsRenamed f c d)
    (owners : (j : ℕ) → j < c.size → owners_of s (f j) ≡ owners_of r j) where
  owner_named : (x : Who) (j : ℕ) → j < c.size → owns s x (f j) ≡ owns r x j
  owner_named x j j_in = grind arith

  neighbour_named : (x : Who) (i : ℕ) → i < c.size → owns_neighbour s d x (f i) ≡ owns_neighbour r c x i
  neighbour_named x i i_in = same_bool _ _
      (λ h. let y = (neighbour_means s d x (f i)).0 h in let n = names.named (f i) y.0 y.2 in
      let own = sym (owner_named x n.0 n.1) ∙ ap (owns s x) n.2 ∙ y.3 in
      (neighbour_means r c x i).1 (n.0, n.1, sym (names.links i n.0 i_in n.1) ∙ ap (d.linked (f i)) n.2 ∙ y.2, own))
      (λ h. let j = (neighbour_means r c x i).0 h in
      (neighbour_means s d x (f i)).1 (f j.0, names.within j.0 j.1, names.links i j.0 i_in j.1 ∙ j.2, owner_named x j.0 j.1 ∙ j.3))

  pub visible_named : (x : Who) (i : ℕ) → i < c.size → is_visible s d x (f i) ≡ is_visible r c x i
  visible_named x i i_in = λ z. is_teacher x || owner_named x i i_in z || neighbour_named x i i_in z
