-- Names within less room, and a list that is checked, one more.
use Rattle.std.proofs.Common.{◌≡◌, ℕ, zero, suc, ◌+◌, ◌<◌, ◌≤◌, List, [], ◌∷◌, Bool, Ok, length, drop, get_or, drop-cons, add-one, refl, ap, arith}
use Rattle.std.proofs.lemmas.List.{drop_all}
use Rattle.rust_source.specs.declared.syntax.«Type».{«Type» as Written}
use Rattle.abi_rust.specs.declared.budget.Context.{Context}
use Rattle.abi_rust.specs.Meaning.{then_meant, too_deep}
use Rattle.abi_rust.specs.Types.{Where}
use Rattle.abi_rust.specs.WrittenNames.{Checked, each_checked, type_named, type_named_with}

module _ (cx : Context) (w : Where) where
  pub type_less : (depth_left left : ℕ) (is_argument : Bool) (t : Written) → left + 1 ≡ depth_left → type_named cx w depth_left is_argument t ≡ type_named_with cx w (type_named cx w left) is_argument t
  unfolding type_named
  type_less zero left is_argument t is = absurd (omega arith)
  type_less (suc depth_left) left is_argument t is = let q : depth_left ≡ left = omega arith in ap (λ d. type_named_with cx w (type_named cx w d) is_argument t) q

  pub type_none : (depth_left : ℕ) (is_argument : Bool) (t : Written) → depth_left ≡ 0 → type_named cx w depth_left is_argument t ≡ too_deep
  unfolding type_named
  type_none zero is_argument t is = refl
  type_none (suc depth_left) is_argument t is = absurd (omega arith)

module _ {A : Type 0} (check : A → Checked) where
  pub each_more : (all : List A) (i : ℕ) (a : A) → i < length all → a ≡ get_or all i a
      → each_checked check (drop i all) ≡ then_meant (λ _. each_checked check (drop (i + 1) all)) (check a)
  each_more all i a more is = rw (drop-cons all i a, ← is, add-one i) refl

  pub each_done : (all : List A) (i : ℕ) → length all ≤ i → each_checked check (drop i all) ≡ Ok tt
  each_done all i done = ap (λ rest. each_checked check rest) (drop_all i all done)
