-- What a value's bytes are in the end.
use Rattle.std.proofs.Common.{◌≡◌, ℕ, zero, suc, ◌+◌, ◌-◌, List, Bool, false, length, get_or, replicate, arith, refl, sym, ap, ◌∙◌, subst, ⊎_elim}
use Rattle.std.specs.Prelude.{◌&&◌}
use Rattle.std.proofs.Math.Bool.{and-false}
use Rattle.std.proofs.lemmas.Bool.{cases_lt}
use Rattle.std.proofs.lemmas.List.{get_or_past}
use Rattle.abi_base.specs.declared.data_layout.TargetDataLayout.{TargetDataLayout}
use Rattle.abi_tree.specs.declared.laid.Laid.{Laid}
use Rattle.abi_tree.specs.Tree.{Tree}
use Rattle.abi_tree.specs.Value.{Value}
use Rattle.abi_tree.specs.Bytes.{AreBytes}
use Rattle.abi_tree.specs.Placed.{size_of}
use Rattle.abi_tree.specs.Values.{IsValueOf}
use Rattle.abi_tree.specs.Laid.{endian_of, placed_of}
use Rattle.abi_tree.specs.Holding.{Holds}
use Rattle.abi_tree.specs.Reading.{KeepsValues}
use Rattle.abi_tree.specs.Untagged.{UntaggedNamed}
use Rattle.abi_tree.specs.Covering.{is_byte_at, is_covered}
use Rattle.abi_tree.specs.Writing.{IsPutOver}
use Rattle.abi_tree.proofs.Bytes.HoldLemmas.{length-Holds}
use Rattle.abi_tree.proofs.Deciding.DecidedLemmas.{decides}

-- a byte that no part covers is as it was
pub zero_beside : (picks : ℕ → Bool) (b old new : List ℕ) → IsPutOver picks 0 b old new → (k : ℕ) → picks k ≡ false → get_or new k 0 ≡ get_or old k 0
zero_beside picks b old new put k none =
    let same : k - 0 ≡ k = omega arith in
    put.other k (ap (λ n. is_byte_at 0 (length b) k && picks n) same ∙ ap (λ t. is_byte_at 0 (length b) k && t) none ∙ and-false (is_byte_at 0 (length b) k))

pub zeros_at : (n k : ℕ) → get_or {A = ℕ} (replicate n 0) k 0 ≡ 0
zeros_at zero k = refl
zeros_at (suc n) zero = refl
zeros_at (suc n) (suc k) = zeros_at n k

module _ (dl : TargetDataLayout) (tree : Tree) (laid : Laid) (keeps : KeepsValues dl tree laid) (v : Value) where
  -- a value of the tree is held by what was put of it
  pub value_held : (old new : List ℕ) → length new ≡ size_of (placed_of laid) → IsValueOf dl tree (placed_of laid) v →
      ((b : List ℕ) → AreBytes b → Holds (endian_of laid) (placed_of laid) b v → IsPutOver (is_covered (placed_of laid) v) 0 b old new) → Holds (endian_of laid) (placed_of laid) new v
  value_held old new long is put =
      let some = keeps.exists v is in
      let held : Holds (endian_of laid) (placed_of laid) some.0 v = subst (λ o. Holds o (placed_of laid) some.0 v) (sym keeps.order) some.2 in
      let size = length-Holds (endian_of laid) (placed_of laid) some.0 v held in
      let over = put some.0 some.1 held in
      decides (endian_of laid) (placed_of laid) (subst (λ o. UntaggedNamed o (placed_of laid)) (sym keeps.order) keeps.untagged) v some.0 new (omega (arith, size, long)) held
      (λ k covered.
      let start : 0 + k ≡ k = omega arith in
      ⊎_elim (λ lt. ap (λ n. get_or new n 0) (sym start) ∙ over.here k lt covered) (λ le. get_or_past new k 0 (omega (arith, size, long)) ∙ sym (get_or_past some.0 k 0 le)) (cases_lt k (length some.0)))

  -- bytes that hold it hold no other value
  pub held_once : (b : List ℕ) (u w : Value) → Holds (endian_of laid) (placed_of laid) b u → Holds (endian_of laid) (placed_of laid) b w → u ≡ w
  held_once b u w hu hw = keeps.unique b u w (subst (λ o. Holds o (placed_of laid) b u) keeps.order hu) (subst (λ o. Holds o (placed_of laid) b w) keeps.order hw)

  -- and it is one of the tree's
  pub held_value : (b : List ℕ) → AreBytes b → Holds (endian_of laid) (placed_of laid) b v → IsValueOf dl tree (placed_of laid) v
  held_value b all h = keeps.only b v all (subst (λ o. Holds o (placed_of laid) b v) keeps.order h)
