-- Sizes, and how many types take room, one more.
use Rattle.std.proofs.Common.{◌≡◌, ◌⊎◌, ℕ, suc, ◌+◌, ◌<◌, ◌≤◌, List, ◌∷◌, None, Ok, Err, true, inl, inr, length, map, drop, get_or, drop-cons, add-one, refl, subst, sym}
use Rattle.std.proofs.lemmas.List.{drop_all}
use Rattle.std.specs.Prelude.{cond, fold}
use Rattle.abi_base.specs.declared.data_layout.TargetDataLayout.{TargetDataLayout}
use Rattle.abi_tree.specs.Tree.{Tree, tree_of}
use Rattle.abi_tree.specs.declared.tree.TypeTree.{TypeTree}
use Rattle.rustc_abi.specs.Fault.{IsRefusedFor}
use Rattle.rustc_abi.specs.declared.error.LayError.{LayError}
use Rattle.abi_rust.specs.Meaning.{Meaning, then_meant, is_beside}
use Rattle.abi_rust.specs.Measure.{IsMeasure, Measure, each_meant, takes_room}
use Rattle.abi_rust.specs.declared.fault.FaultKind.TheVariants.{Layout}
use Rattle.abi_rust.specs.declared.fault.Stop.TheVariants.{Fault}

-- so many, and those of the rest that take room
abbrev pub counted_on : ℕ → Meaning (List (ℕ × ℕ)) → Meaning ℕ
counted_on n rest = then_meant (λ sizes. Ok (fold (λ k s. k + cond (takes_room s) 1 0) n sizes)) rest

counted_one : (n : ℕ) (one : Meaning (ℕ × ℕ)) (rest : Meaning (List (ℕ × ℕ)))
    → counted_on n (then_meant (λ b. then_meant (λ bs. Ok (b ∷ bs)) rest) one) ≡ then_meant (λ is. counted_on (n + cond is 1 0) rest) (then_meant (λ s. Ok (takes_room s)) one)
counted_one n (Ok s) (Ok bs) = refl
counted_one n (Ok s) (Err e) = refl
counted_one n (Err e) rest = refl

module _ (m : Measure) where
  pub takers_more : (all : List TypeTree) (i n : ℕ) (t : TypeTree) → i < length all → t ≡ get_or all i t
      → counted_on n (each_meant m (map tree_of (drop i all)))
      ≡ then_meant (λ is. counted_on (n + cond is 1 0) (each_meant m (map tree_of (drop (i + 1) all)))) (then_meant (λ s. Ok (takes_room s)) (m (tree_of t)))
  takers_more all i n t more is =
      rw (drop-cons all i t, ← is, add-one i) (counted_one n (m (tree_of t)) (each_meant m (map tree_of (drop (suc i) all))))

  pub takers_done : (all : List TypeTree) (i n : ℕ) → length all ≤ i → counted_on n (each_meant m (map tree_of (drop i all))) ≡ Ok n
  takers_done all i n done = rw (drop_all i all done) refl

-- what `lay_out` refuses a tree for is why it has no size
pub refused_is : (dl : TargetDataLayout) (m : Measure) → IsMeasure dl m → (t : Tree) (e : LayError) → IsRefusedFor dl t e
    → (m t ≡ Err (Fault None (Layout e))) ⊎ (is_beside (Fault None (Layout e)) ≡ true)
refused_is dl m is t e refused =
    elim refused [
      | inl memory ↦ inr (subst (λ (x : LayError). is_beside (Fault None (Layout x)) ≡ true) (sym memory) refl)
      | inr first ↦ inl (elim first [
        | inl unlawful ↦ subst (λ (x : LayError). m t ≡ Err (Fault None (Layout x))) (sym unlawful.1) (is.unlawful unlawful.0 t)
        | inr lawful ↦ is.lawful lawful.0 t (Err e) lawful.1
      ])
    ]
