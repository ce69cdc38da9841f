-- Whether types are `Copy` within less room, and lists of parts, one more.
use Rattle.std.proofs.Common.{◌≡◌, ℕ, zero, suc, ◌+◌, ◌<◌, ◌≤◌, Bool, true, false, List, [], ◌∷◌, Ok, Some, length, map, drop, get_or, drop-cons, add-one, refl, ap, arith}
use Rattle.std.specs.Prelude.{◌&&◌, ◌||◌}
use Rattle.std.proofs.lemmas.List.{drop_all}
use Rattle.rust_source.specs.declared.item.Field.{Field}
use Rattle.rust_source.specs.declared.item.Item.{Item}
use Rattle.rust_source.specs.declared.item.Variant.{Variant}
use Rattle.abi_rust.specs.declared.budget.Context.{Context}
use Rattle.abi_rust.specs.declared.ty.Ty.{Ty}
use Rattle.abi_rust.specs.CopyTypes.{all_fit_union, fields_lack, fits_union, is_never_copy, item_lacks_by, kind_lacks, lacks_copy, lacks_copy_with, meant_lacks, parts_lack, union_fields_checked, union_type_checked, variants_lack}
use Rattle.abi_rust.specs.Meaning.{then_meant}
use Rattle.abi_rust.specs.Resolving.{inside_item, resolved}
use Rattle.abi_rust.specs.Types.{GenericArgRead, TyRead, Where, givens, ty_of, types}
use Rattle.abi_rust.proofs.Lasts.{list_given_is}

module _ (cx : Context) where
  pub copy_less : (depth_left left : ℕ) (t : TyRead) → left + 1 ≡ depth_left → lacks_copy cx depth_left t ≡ lacks_copy_with cx (lacks_copy cx left) t
  unfolding lacks_copy
  copy_less zero left t is = absurd (omega arith)
  copy_less (suc depth_left) left t is = let q : depth_left ≡ left = omega arith in ap (λ d. lacks_copy_with cx (lacks_copy cx d) t) q

  pub copy_none : (depth_left : ℕ) (t : TyRead) → depth_left ≡ 0 → lacks_copy cx depth_left t ≡ false
  unfolding lacks_copy
  copy_none zero t is = refl
  copy_none (suc depth_left) t is = absurd (omega arith)

  module _ (lacks : TyRead → Bool) where
    -- an item that may be `Copy` lacks it where a field does, under what its parameters are given
    pub item_on : (n : ℕ) (it : Item) (gs : List GenericArgRead) → is_never_copy cx it ≡ false
        → item_lacks_by cx lacks n (givens gs) (Some it) ≡ kind_lacks cx lacks (inside_item n it gs) it.kind
    item_on n it gs may = rw (may, list_given_is gs) refl

    pub parts_on : (all : List Ty) (i : ℕ) (t : Ty) → i < length all → t ≡ get_or all i t
        → parts_lack cx lacks (types (map ty_of (drop i all))) ≡ (lacks (ty_of t) || parts_lack cx lacks (types (map ty_of (drop (i + 1) all))))
    parts_on all i t more is = rw (drop-cons all i t, ← is, add-one i) refl

    pub parts_end : (all : List Ty) (i : ℕ) → length all ≤ i → parts_lack cx lacks (types (map ty_of (drop i all))) ≡ false
    parts_end all i done = rw (drop_all i all done) refl

    pub fields_on : (w : Where) (all : List Field) (i : ℕ) (f : Field) → i < length all → f ≡ get_or all i f
        → fields_lack cx lacks w (drop i all) ≡ (meant_lacks cx lacks (resolved cx w f.ty) || fields_lack cx lacks w (drop (i + 1) all))
    fields_on w all i f more is = rw (drop-cons all i f, ← is, add-one i) refl

    pub fields_end : (w : Where) (all : List Field) (i : ℕ) → length all ≤ i → fields_lack cx lacks w (drop i all) ≡ false
    fields_end w all i done = rw (drop_all i all done) refl

    pub variants_on : (w : Where) (all : List Variant) (i : ℕ) (v : Variant) → i < length all → v ≡ get_or all i v
        → variants_lack cx lacks w (drop i all) ≡ (fields_lack cx lacks w v.fields.all.items || variants_lack cx lacks w (drop (i + 1) all))
    variants_on w all i v more is = rw (drop-cons all i v, ← is, add-one i) refl

    pub variants_end : (w : Where) (all : List Variant) (i : ℕ) → length all ≤ i → variants_lack cx lacks w (drop i all) ≡ false
    variants_end w all i done = rw (drop_all i all done) refl

  pub fits_on : (all : List Ty) (i : ℕ) (t : Ty) → i < length all → t ≡ get_or all i t
      → all_fit_union cx (types (map ty_of (drop i all))) ≡ (fits_union cx (ty_of t) && all_fit_union cx (types (map ty_of (drop (i + 1) all))))
  fits_on all i t more is = rw (drop-cons all i t, ← is, add-one i) refl

  pub fits_end : (all : List Ty) (i : ℕ) → length all ≤ i → all_fit_union cx (types (map ty_of (drop i all))) ≡ true
  fits_end all i done = rw (drop_all i all done) refl

  pub union_more : (w : Where) (all : List Field) (i : ℕ) (f : Field) → i < length all → f ≡ get_or all i f
      → union_fields_checked cx w (drop i all) ≡ then_meant (λ _. union_fields_checked cx w (drop (i + 1) all)) (then_meant (union_type_checked cx f) (resolved cx w f.ty))
  union_more w all i f more is = rw (drop-cons all i f, ← is, add-one i) refl

  pub union_done : (w : Where) (all : List Field) (i : ℕ) → length all ≤ i → union_fields_checked cx w (drop i all) ≡ Ok true
  union_done w all i done = rw (drop_all i all done) refl
