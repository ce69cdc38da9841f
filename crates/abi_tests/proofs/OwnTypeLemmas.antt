-- Types that stand in one list.
use Rattle.std.proofs.Common.{⊎_elim, ◌≡◌, ℕ, zero, suc, ◌+◌, ◌-◌, ◌<◌, ◌≤◌, List, length, slice_get, slice_index_or, Option, None, Some, refl, ap, subst, sym, ◌∙◌, arith, le_refl}
use Rattle.std.proofs.lemmas.Bool.{cases_lt}
use Rattle.std.proofs.lemmas.Option.{get_or_from_slice_get, slice_get-get_or}
use Rattle.abi_scalar.specs.Layout.{Layout}
use Rattle.abi_scalar.specs.declared.variants.Variants.{Variants}
use Rattle.abi_scalar.specs.declared.variants.Variants.TheVariants.{Empty, Single, Multiple}
use Rattle.abi_scalar.specs.Shape.{field_count, field_offset}
use Rattle.abi_scalar.specs.Variant.{variants_of}
use Rattle.abi_types.specs.Ty.Typed.{Marks, Typed, typed, no_type, at_variant, field_in, layout_in, marks_of}
use Rattle.abi_types.specs.Ty.Lawful.{CanBeNamed, DepthFalls, IsWellFormedType, NamesVariant}
use Rattle.abi_tests.specs.declared.own_types.OwnType.{OwnType}
use Rattle.abi_tests.specs.OwnTypes.{HasParts, own_marks, place_at, type_made_of, typed_in}

-- a type that may hold others
opened : (types : List OwnType) (depth at : ℕ) → 0 < depth → typed_in types depth at ≡ type_made_of (slice_get types at) (typed_in types (depth - 1))
opened types zero at some = absurd (omega (arith, some))
opened types (suc d) at some = ap (λ k. type_made_of (slice_get types at) (typed_in types k)) (let e : d ≡ suc d - 1 = omega arith in e)

-- a well-formed type stands somewhere, and may hold others
pub well_formed_deep : (types : List OwnType) (depth at : ℕ) → IsWellFormedType (typed_in types depth at) → 0 < depth
well_formed_deep types zero at law = absurd law
well_formed_deep types (suc d) at law = omega arith

made_well_formed : (own : Option OwnType) (inner : ℕ → Typed) → IsWellFormedType (type_made_of own inner) → (n : OwnType) × (own ≡ Some n)
made_well_formed None inner law = absurd law
made_well_formed (Some n) inner law = (n, refl)

-- its item of the list
item_of : (types : List OwnType) (depth at : ℕ) → IsWellFormedType (typed_in types depth at) → (n : OwnType) × (slice_get types at ≡ Some n)
item_of types zero at law = absurd law
item_of types (suc d) at law = made_well_formed (slice_get types at) (typed_in types d) law

-- the type of an item
of_own : (types : List OwnType) (depth at : ℕ) (n : OwnType) → 0 < depth → slice_get types at ≡ Some n → typed_in types depth at ≡ type_made_of (Some n) (typed_in types (depth - 1))
of_own types depth at n some e = opened types depth at some ∙ ap (λ k. type_made_of k (typed_in types (depth - 1))) e

-- a field of a well-formed type
well_formed_field : (types : List OwnType) (depth at : ℕ) (n : OwnType) (i : ℕ) → IsWellFormedType (typed_in types depth at) → slice_get types at ≡ Some n → i < field_count n.layout.fields
    → IsWellFormedType (typed_in types (depth - 1) (place_at n.fields i))
well_formed_field types depth at n i law e lt = (subst IsWellFormedType (of_own types depth at n (well_formed_deep types depth at law) e) law).1 i lt

-- the first fields lie inside and keep the laws
pub record AreWellFormedFields (types : List OwnType) (depth : ℕ) (n : OwnType) (count : ℕ) : Type 0 where
  pub kept : (i : ℕ) → i < count → IsWellFormedType (typed_in types depth (place_at n.fields i))
  pub inside : (i : ℕ) → i < count → field_offset n.layout.fields i + (layout_in (typed_in types depth (place_at n.fields i))).size ≤ n.layout.size

up_to : (P : ℕ → Type 0) (i : ℕ) → ((k : ℕ) → k < i → P k) → P i → (k : ℕ) → k < i + 1 → P k
up_to P i all p k lt = ⊎_elim (λ (below : k < i). all k below) (λ (past : i ≤ k). subst P (let e : i ≡ k = omega (arith, lt, past) in e) p) (cases_lt k i)

-- no field was looked at
pub no_fields : (types : List OwnType) (depth : ℕ) (n : OwnType) → AreWellFormedFields types depth n 0
no_fields types depth n = record { kept = λ i lt. absurd (omega (arith, lt)); inside = λ i lt. absurd (omega (arith, lt)) }

-- one field more
pub more_fields : (types : List OwnType) (depth : ℕ) (n : OwnType) (i : ℕ) → AreWellFormedFields types depth n i → IsWellFormedType (typed_in types depth (place_at n.fields i))
    → field_offset n.layout.fields i + (layout_in (typed_in types depth (place_at n.fields i))).size ≤ n.layout.size → AreWellFormedFields types depth n (i + 1)
more_fields types depth n i all law inside = record {
  kept = up_to (λ k. IsWellFormedType (typed_in types depth (place_at n.fields k))) i all.kept law;
  inside = up_to (λ k. field_offset n.layout.fields k + (layout_in (typed_in types depth (place_at n.fields k))).size ≤ n.layout.size) i all.inside inside;
}

-- an item whose fields keep the laws, and that has one variant
pub own_well_formed : (types : List OwnType) (depth at : ℕ) (n : OwnType) → 0 < depth → at < length types → n ≡ slice_index_or types at n
    → ((field : ℕ → Typed) → CanBeNamed n.layout.fields field) → length (variants_of n.layout.variants) ≡ 0 → HasParts n → AreWellFormedFields types (depth - 1) n (field_count n.layout.fields)
    → IsWellFormedType (typed_in types depth at)
own_well_formed types depth at n some within is named one parts fields =
    subst IsWellFormedType (sym (of_own types depth at n some (slice_get-get_or types at n within ∙ ap Some (sym is)))) (
      record { inside = fields.inside; within = λ i lt. absurd (omega (arith, lt, one)); named = named (λ i. typed_in types (depth - 1) (place_at n.fields i)); complex = parts.counted },
      fields.kept,
      λ i lt. absurd (omega (arith, lt, one)),
    )

-- the item that stands at the place of a well-formed type
own_is : (types : List OwnType) (depth at : ℕ) (n : OwnType) → IsWellFormedType (typed_in types depth at) → n ≡ slice_index_or types at n → slice_get types at ≡ Some n
own_is types depth at n law is =
    let found : (m : OwnType) × (slice_get types at ≡ Some m) = item_of types depth at law in
    found.1 ∙ ap Some (sym (get_or_from_slice_get types at found.0 n found.1) ∙ sym is)

type_is : (types : List OwnType) (depth at : ℕ) (n : OwnType) → IsWellFormedType (typed_in types depth at) → n ≡ slice_index_or types at n → typed_in types depth at ≡ type_made_of (Some n) (typed_in types (depth - 1))
type_is types depth at n law is = of_own types depth at n (well_formed_deep types depth at law) (own_is types depth at n law is)

-- what it says of itself
pub marks_are : (types : List OwnType) (depth at : ℕ) (n : OwnType) → IsWellFormedType (typed_in types depth at) → n ≡ slice_index_or types at n → marks_of (typed_in types depth at) ≡ own_marks n.marks
marks_are types depth at n law is = ap marks_of (type_is types depth at n law is)

-- a field's type keeps the laws
pub field_well_formed : (types : List OwnType) (depth at : ℕ) (n : OwnType) (i place : ℕ) → IsWellFormedType (typed_in types depth at) → n ≡ slice_index_or types at n → i < field_count (layout_in (typed_in types depth at)).fields
    → place ≡ place_at n.fields i → IsWellFormedType (typed_in types (depth - 1) place)
field_well_formed types depth at n i place law is lt e =
    let count : field_count (layout_in (typed_in types depth at)).fields ≡ field_count n.layout.fields = ap (λ t. field_count (layout_in t).fields) (type_is types depth at n law is) in
    subst (λ p. IsWellFormedType (typed_in types (depth - 1) p)) (sym e) (well_formed_field types depth at n i law (own_is types depth at n law is) (omega (arith, lt, count)))

-- it is the field's
pub field_type : (types : List OwnType) (depth at : ℕ) (n : OwnType) (i place : ℕ) (u : Typed) → IsWellFormedType (typed_in types depth at) → n ≡ slice_index_or types at n
    → place ≡ place_at n.fields i → u ≡ typed_in types (depth - 1) place → u ≡ field_in (typed_in types depth at) i
field_type types depth at n i place u law is e f = f ∙ ap (typed_in types (depth - 1)) e ∙ ap (λ t. field_in t i) (sym (type_is types depth at n law is))

-- an index that names a variant of such a type names the type itself
at_only : (layout : Layout) (variants : Variants ℕ ℕ) (marks : Marks) (field : ℕ → Typed) (i depth : ℕ) → layout.variants ≡ variants → ((k : ℕ) → k < length (variants_of layout.variants) → ⊥)
    → NamesVariant variants i → (typed layout marks field (λ v. no_type) ≡ at_variant (typed layout marks field (λ v. no_type)) i) × DepthFalls layout.variants depth depth
at_only layout Empty marks field i depth e none named = absurd named
at_only layout (Single k) marks field i depth e none named = (rw e refl, rw e (le_refl depth))
at_only layout (Multiple tag encoding at layouts) marks field i depth e none named = absurd (none i (rw e named))

made_at : (own : Option OwnType) (inner : ℕ → Typed) (i depth : ℕ) → IsWellFormedType (type_made_of own inner) → NamesVariant (layout_in (type_made_of own inner)).variants i
    → (type_made_of own inner ≡ at_variant (type_made_of own inner) i) × DepthFalls (layout_in (type_made_of own inner)).variants depth depth
made_at None inner i depth law named = absurd law
made_at (Some n) inner i depth law named = at_only n.layout n.layout.variants (own_marks n.marks) (λ k. inner (place_at n.fields k)) i depth refl law.2 named

pub variant_is : (types : List OwnType) (depth at i : ℕ) → IsWellFormedType (typed_in types depth at) → NamesVariant (layout_in (typed_in types depth at)).variants i
    → (typed_in types depth at ≡ at_variant (typed_in types depth at) i) × DepthFalls (layout_in (typed_in types depth at)).variants depth depth
variant_is types zero at i law named = absurd law
variant_is types (suc d) at i law named = made_at (slice_get types at) (typed_in types d) i (suc d) law named
