-- What is aligned, within less room and one field more.
use Rattle.std.proofs.Common.{◌≡◌, ℕ, zero, suc, ◌+◌, ◌<◌, ◌≤◌, true, false, List, Ok, length, drop, get_or, drop-cons, add-one, refl, ap, arith}
use Rattle.std.specs.Prelude.{if◌then◌else◌}
use Rattle.std.proofs.lemmas.List.{drop_all}
use Rattle.rust_source.specs.declared.item.Field.{Field}
use Rattle.rust_source.specs.declared.item.Item.{Item}
use Rattle.rust_source.specs.declared.syntax.«Type».{«Type» as Written}
use Rattle.abi_rust.specs.declared.budget.Context.{Context}
use Rattle.abi_rust.specs.Aligned.{Aligning, aligning, any_aligned, fields_aligned, type_aligned}
use Rattle.abi_rust.specs.Meaning.{then_meant, too_deep}

module _ (cx : Context) where
  pub fields_less : (depth_left left : ℕ) (m : Item) (fs : List Field) → left + 1 ≡ depth_left → (aligning cx depth_left).of_fields m fs ≡ any_aligned cx (aligning cx left) m fs
  unfolding aligning
  fields_less zero left m fs is = absurd (omega arith)
  fields_less (suc depth_left) left m fs is = let q : depth_left ≡ left = omega arith in ap (λ r. any_aligned cx (aligning cx r) m fs) q

  pub fields_none : (depth_left : ℕ) (m : Item) (fs : List Field) → depth_left ≡ 0 → (aligning cx depth_left).of_fields m fs ≡ too_deep
  unfolding aligning
  fields_none zero m fs is = refl
  fields_none (suc depth_left) m fs is = absurd (omega arith)

  pub type_less : (depth_left left : ℕ) (m : Item) (t : Written) → left + 1 ≡ depth_left → (aligning cx depth_left).of_type m t ≡ type_aligned cx (aligning cx left) m t
  unfolding aligning
  type_less zero left m t is = absurd (omega arith)
  type_less (suc depth_left) left m t is = let q : depth_left ≡ left = omega arith in ap (λ r. type_aligned cx (aligning cx r) m t) q

  pub type_none : (depth_left : ℕ) (m : Item) (t : Written) → depth_left ≡ 0 → (aligning cx depth_left).of_type m t ≡ too_deep
  unfolding aligning
  type_none zero m t is = refl
  type_none (suc depth_left) m t is = absurd (omega arith)

  pub item_less : (depth_left left : ℕ) (it : Item) (fs : List Field) → left + 1 ≡ depth_left → (aligning cx depth_left).of_item it fs ≡ fields_aligned cx (aligning cx left) it fs
  unfolding aligning
  item_less zero left it fs is = absurd (omega arith)
  item_less (suc depth_left) left it fs is = let q : depth_left ≡ left = omega arith in ap (λ r. fields_aligned cx (aligning cx r) it fs) q

  pub item_none : (depth_left : ℕ) (it : Item) (fs : List Field) → depth_left ≡ 0 → (aligning cx depth_left).of_item it fs ≡ too_deep
  unfolding aligning
  item_none zero it fs is = refl
  item_none (suc depth_left) it fs is = absurd (omega arith)

  module _ (A : Aligning) where
    pub aligned_more : (m : Item) (i : ℕ) (all : List Field) (f : Field) → i < length all → f ≡ get_or all i f
        → any_aligned cx A m (drop i all) ≡ then_meant (λ is. if is then Ok true else any_aligned cx A m (drop (i + 1) all)) (A.of_type m f.ty)
    aligned_more m i all f more is = rw (drop-cons all i f, ← is, add-one i) refl

    pub aligned_done : (m : Item) (i : ℕ) (all : List Field) → length all ≤ i → any_aligned cx A m (drop i all) ≡ Ok false
    aligned_done m i all done = ap (λ rest. any_aligned cx A m rest) (drop_all i all done)
