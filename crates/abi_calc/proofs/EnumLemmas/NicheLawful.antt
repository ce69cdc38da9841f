-- The layout of an enum whose tag lies in a niche: what it rests on, and that it is lawful.
use Rattle.std.proofs.Common.{◌≡◌, ℕ, zero, suc, ◌+◌, ◌*◌, ◌^◌, ◌==◌, ◌<◌, ◌≤◌, ◌∙◌, Bool, true, false, List, [], ◌∷◌, ap, arith, eq-eqb, eqb-true, inl, inr, refl, subst, sym}
use Rattle.std.specs.Prelude.{◌&&◌, All, IfSome, Option, None, Some, if◌then◌else◌, nat_le, slice_get}
use Rattle.std.proofs.lemmas.Bool.{leb-true}
use Rattle.std.proofs.lemmas.Nat.{pow_pos}
use Rattle.std.proofs.lemmas.Option.{IfSome_then}
use Rattle.abi_base.specs.declared.data_layout.TargetDataLayout.{TargetDataLayout}
use Rattle.abi_base.specs.DataLayout.{IsLawfulDataLayout, size_bound}
use Rattle.abi_base.specs.Primitive.{primitive_size}
use Rattle.abi_scalar.specs.declared.backend_repr.BackendRepr.{BackendRepr}
use Rattle.abi_scalar.specs.declared.backend_repr.BackendRepr.TheVariants.{Scalar as OneScalar, ScalarPair, SimdScalableVector, SimdVector, Memory}
use Rattle.abi_scalar.specs.declared.layout_data.LayoutData.{LayoutData}
use Rattle.abi_scalar.specs.declared.niche.Niche.{Niche}
use Rattle.abi_scalar.specs.declared.repr.ReprOptions.{ReprOptions}
use Rattle.abi_scalar.specs.declared.scalar.Scalar.{Scalar}
use Rattle.abi_scalar.specs.declared.scalar.Scalar.TheVariants.{Initialized, Union}
use Rattle.abi_scalar.specs.declared.variants.VariantLayout.{VariantLayout}
use Rattle.abi_scalar.specs.Lawful.{IsLawfulLayout, IsLawfulNiche, IsLawfulView, IsNicheOfView}
use Rattle.abi_scalar.specs.Niche.{available_in, niche_at, niche_size}
use Rattle.abi_scalar.specs.Range.{free_count}
use Rattle.abi_scalar.specs.Reserve.{reserved}
use Rattle.abi_scalar.specs.Scalar.{IsLawfulScalar, primitive_of, scalar_size}
use Rattle.abi_scalar.proofs.ReserveLemmas.{reserved_hands_out}
use Rattle.abi_scalar.proofs.PairLemmas.{niche_inside}
use Rattle.abi_univariant.specs.Fields.{greatest_size}
use Rattle.abi_univariant.proofs.Views.LawfulList.{by_test}
use Rattle.abi_univariant.proofs.Views.NicheLemmas.{readable_size}
use Rattle.abi_univariant.proofs.Offsets.Rounding.{rounded_to}
use Rattle.abi_calc.specs.Enums.Beside.{HasTagAt}
use Rattle.abi_calc.specs.Enums.Niche.{if_list, if_niche, if_placed, if_span, layout_in_niche, needing_numbers, niche_layout, niche_view, others_empty, room_beside, span_count, span_of, untagged_of, variants_from, view_with, with_first}
use Rattle.abi_calc.specs.Enums.Tagged.{lists_align, lists_size}
use Rattle.abi_calc.proofs.EnumLemmas.InNiche.{handed_from, handed_lawful, holds_there, of_some}
use Rattle.abi_calc.proofs.EnumLemmas.Places.{greatest_within}
use Rattle.abi_calc.proofs.EnumLemmas.Tagged.{align_of_lists_small}

-- ---- the parts

-- What a layout with a niche rests on: the span of the variants that need a number, the untagged variant's list, the niche of
-- that list, which has a free number for each place of the span, and each variant laid beside the niche.
pub record IsInNiche {F V : Type 0} (first : F) (index : ℕ → V) (dl : TargetDataLayout) (repr : ReprOptions) (variants : List (List (LayoutData F V))) (lists : List (LayoutData F V)) (l : LayoutData F V) : Type 0 where
  pub span : ℕ × ℕ
  pub list : LayoutData F V
  pub niche : Niche
  pub placed : List (VariantLayout F)
  pub ends : span_of (needing_numbers (untagged_of lists) variants) ≡ Some span
  pub there : slice_get lists (untagged_of lists) ≡ Some list
  pub known : list.largest_niche ≡ Some niche
  pub enough : span_count span ≤ available_in dl niche
  pub beside : variants_from (room_beside dl niche lists) (untagged_of lists) 0 lists ≡ Some placed
  pub is : l ≡ layout_in_niche first index dl repr (untagged_of lists) span lists list niche (reserved dl niche (span_count span)) placed

-- what a test lets through, where something comes of it
let_through : {A : Type 0} (b : Bool) (o : Option A) (x : A) → (if b then o else None) ≡ Some x → (b ≡ true) × (o ≡ Some x)
let_through true o x e = (refl, e)
let_through false o x e = cc

module _ {F V : Type 0} (first : F) (index : ℕ → V) (dl : TargetDataLayout) (repr : ReprOptions) (variants : List (List (LayoutData F V))) (lists : List (LayoutData F V)) where
  some_placed : (span : ℕ × ℕ) (list : LayoutData F V) (niche : Niche) (o : Option (List (VariantLayout F))) (l : LayoutData F V)
      → if_placed first index dl repr (untagged_of lists) span lists list niche o ≡ Some l
      → (placed : List (VariantLayout F)) × (o ≡ Some placed) × (l ≡ layout_in_niche first index dl repr (untagged_of lists) span lists list niche (reserved dl niche (span_count span)) placed)
  some_placed span list niche None l e = cc
  some_placed span list niche (Some placed) l e =
      let same : layout_in_niche first index dl repr (untagged_of lists) span lists list niche (reserved dl niche (span_count span)) placed ≡ l = cc in
      (placed, refl, sym same)

  some_niche : (span : ℕ × ℕ) (list : LayoutData F V) (o : Option Niche) (l : LayoutData F V) → if_niche first index dl repr (untagged_of lists) span lists list o ≡ Some l
      → (niche : Niche) × (o ≡ Some niche) × (span_count span ≤ available_in dl niche)
      × (if_placed first index dl repr (untagged_of lists) span lists list niche (variants_from (room_beside dl niche lists) (untagged_of lists) 0 lists) ≡ Some l)
  some_niche span list None l e = cc
  some_niche span list (Some niche) l e =
      let two = let_through (nat_le (span_count span) (available_in dl niche)) (if_placed first index dl repr (untagged_of lists) span lists list niche (variants_from (room_beside dl niche lists) (untagged_of lists) 0 lists)) l e in
      (niche, refl, leb-true (span_count span) (available_in dl niche) two.0, two.1)

  some_list : (span : ℕ × ℕ) (o : Option (LayoutData F V)) (l : LayoutData F V) → if_list first index dl repr (untagged_of lists) span lists o ≡ Some l
      → (list : LayoutData F V) × (o ≡ Some list) × (if_niche first index dl repr (untagged_of lists) span lists list list.largest_niche ≡ Some l)
  some_list span None l e = cc
  some_list span (Some list) l e = (list, refl, e)

  some_span : (o : Option (ℕ × ℕ)) (l : LayoutData F V) → if_span first index dl repr (untagged_of lists) lists o ≡ Some l
      → (span : ℕ × ℕ) × (o ≡ Some span) × (if_list first index dl repr (untagged_of lists) span lists (slice_get lists (untagged_of lists)) ≡ Some l)
  some_span None l e = cc
  some_span (Some span) l e = (span, refl, e)

  -- the parts of a layout with a niche
  pub niche_parts : (l : LayoutData F V) → niche_layout first index dl repr variants lists ≡ Some l → IsInNiche first index dl repr variants lists l
  niche_parts l e =
      let s = some_span (span_of (needing_numbers (untagged_of lists) variants)) l e in
      let m = some_list s.0 (slice_get lists (untagged_of lists)) l s.2 in
      let n = some_niche s.0 m.0 m.0.largest_niche l m.2 in
      let p = some_placed s.0 m.0 n.0 (variants_from (room_beside dl n.0 lists) (untagged_of lists) 0 lists) l n.3 in
      record { span = s.0; list = m.0; niche = n.0; placed = p.0; ends = s.1; there = m.1; known = n.1; enough = n.2; beside = p.1; is = p.2 }

  -- it is as large as the lists
  pub niche_size_is : (l : LayoutData F V) → niche_layout first index dl repr variants lists ≡ Some l → l.size ≡ lists_size dl lists
  niche_size_is l e = ap (λ m. m.size) (niche_parts l e).is

-- ---- the tag

-- it is as wide as the niche
pub tag_size : (dl : TargetDataLayout) (niche : Niche) (count : ℕ) → scalar_size dl (reserved dl niche count).1 ≡ niche_size dl niche
tag_size dl niche count = ap (primitive_size dl) (handed_from dl niche count)

-- the tag of a lawful niche is lawful
pub tag_in_niche : (dl : TargetDataLayout) (size : ℕ) (niche : Niche) (count : ℕ) → IsLawfulNiche dl size niche → 1 ≤ count → count ≤ available_in dl niche → IsLawfulScalar dl (reserved dl niche count).1
tag_in_niche dl size niche count own some room =
    handed_lawful dl niche (reserved dl niche count) count refl own.pointer (reserved_hands_out dl niche count (reserved dl niche count) own.within some room refl).within

-- ---- the niche that is left

-- what holds of a niche that is there
some_unless : (b : Bool) {A : Type 0} (niche : A) (P : A → Type 0) → (b ≡ false → P niche) → IfSome (if b then None else Some niche) P
some_unless true niche P h = tt
some_unless false niche P h = h refl

-- it lies there, and is the scalar
niche_at_is : (dl : TargetDataLayout) (offset : ℕ) (tag : Scalar) → IfSome (niche_at dl offset tag) (λ n. (n.offset ≡ offset) × (tag ≡ Initialized n.value n.valid_range))
niche_at_is dl offset (Initialized value range) =
    some_unless (free_count (primitive_size dl value) range == 0) (record { offset = offset; value = value; valid_range = range })
    (λ n. (n.offset ≡ offset) × (Initialized value range ≡ Initialized n.value n.valid_range)) (λ there. (refl, refl))
niche_at_is dl offset (Union value) = tt

-- it is that of a view that has the tag where it lies
pub niche_of_tag_at : (dl : TargetDataLayout) (offset : ℕ) (tag : Scalar) (view : BackendRepr) → HasTagAt offset tag view → IfSome (niche_at dl offset tag) (IsNicheOfView view)
niche_of_tag_at dl offset tag (OneScalar scalar) h = IfSome_then (niche_at dl offset tag) (niche_at_is dl offset tag) (λ n own. (own.0 ∙ h.0, h.1 ∙ own.1))
niche_of_tag_at dl offset tag (ScalarPair a b b_offset) (inl h) = IfSome_then (niche_at dl offset tag) (niche_at_is dl offset tag) (λ n own. inl (own.0 ∙ h.0, h.1 ∙ own.1))
niche_of_tag_at dl offset tag (ScalarPair a b b_offset) (inr h) = IfSome_then (niche_at dl offset tag) (niche_at_is dl offset tag) (λ n own. inr (own.0 ∙ h.0, h.1 ∙ own.1))
niche_of_tag_at dl offset tag (SimdScalableVector element count vectors) h = absurd h
niche_of_tag_at dl offset tag (SimdVector element count) h = absurd h
niche_of_tag_at dl offset tag (Memory sized) h = IfSome_then (niche_at dl offset tag) (niche_at_is dl offset tag) (λ n own. tt)

-- ---- the view

-- a list that is there is no larger than the greatest
pub size_at_most : {F V : Type 0} (lists : List (LayoutData F V)) (i : ℕ) (list : LayoutData F V) → slice_get lists i ≡ Some list → list.size ≤ greatest_size lists
size_at_most [] i list e = cc
size_at_most (l ∷ ls) zero list e =
    let same : l ≡ list = cc in
    let size : l.size ≡ list.size = ap (λ m. m.size) same in
    omega (arith, size)
size_at_most (l ∷ ls) (suc i) list e = let later : list.size ≤ greatest_size ls = size_at_most ls i list e in omega (arith, later)

-- a scalar of the niche's primitive and range is as wide
width_of : (dl : TargetDataLayout) (niche : Niche) (scalar tag : Scalar) → scalar ≡ Initialized niche.value niche.valid_range → primitive_of tag ≡ niche.value → scalar_size dl tag ≡ scalar_size dl scalar
width_of dl niche scalar tag is same = ap (primitive_size dl) (same ∙ sym (ap primitive_of is))

-- a lawful scalar without numbers stays lawful
union_lawful : (dl : TargetDataLayout) (scalar : Scalar) → IsLawfulScalar dl scalar → IsLawfulScalar dl (Union (primitive_of scalar))
union_lawful dl scalar h =
    let some : 0 < 2 ^ (8 * primitive_size dl (primitive_of scalar)) = pow_pos (8 * primitive_size dl (primitive_of scalar)) in
    record { pointer = h.pointer; within = (some, omega arith) }

-- the second of two lawful scalars isn't at the start
apart_from_start : (dl : TargetDataLayout) (a : Scalar) (b_offset : ℕ) → IsLawfulScalar dl a → scalar_size dl a ≤ b_offset → b_offset ≡ 0 → ⊥
apart_from_start dl a b_offset h after none =
    let some : 1 ≤ scalar_size dl a = (readable_size dl (primitive_of a) h.pointer).1 in
    omega (arith, some, after, none)

-- what is shown of a view: it is lawful, and has the tag
abbrev pub IsTagView : TargetDataLayout → (size offset : ℕ) → (tag : Scalar) → BackendRepr → Type 0
IsTagView dl size offset tag view = IsLawfulView dl size view × HasTagAt offset tag view

-- a lawful pair whose niche becomes the tag
pair_with : (dl : TargetDataLayout) (size : ℕ) (niche : Niche) (tag a b : Scalar) (b_offset : ℕ) (start : Bool) → (niche.offset == 0) ≡ start → IsLawfulScalar dl tag → primitive_of tag ≡ niche.value
    → IsLawfulView dl size (ScalarPair a b b_offset) → IsNicheOfView (ScalarPair a b b_offset) niche
    → IsTagView dl size niche.offset tag (if start then ScalarPair tag (Union (primitive_of b)) b_offset else ScalarPair (Union (primitive_of a)) tag b_offset)
pair_with dl size niche tag a b b_offset true at h same view (inl n) =
    let width : scalar_size dl tag ≡ scalar_size dl a = width_of dl niche a tag n.1 same in
    ((h, union_lawful dl b view.1, omega (arith, width, view.2), view.3), inl (n.0, refl, refl))
pair_with dl size niche tag a b b_offset true at h same view (inr n) =
    let none : b_offset ≡ 0 = sym n.0 ∙ eqb-true niche.offset 0 at in
    absurd (apart_from_start dl a b_offset view.0 view.2 none)
pair_with dl size niche tag a b b_offset false at h same view (inl n) = let yes : (niche.offset == 0) ≡ true = eq-eqb niche.offset 0 n.0 in absurd (cc)
pair_with dl size niche tag a b b_offset false at h same view (inr n) =
    let width : scalar_size dl tag ≡ scalar_size dl b = width_of dl niche b tag n.1 same in
    ((union_lawful dl a view.0, h, view.2, omega (arith, width, view.3)), inr (n.0, refl, refl))

-- the untagged list's view with the tag
view_with_tag : (dl : TargetDataLayout) (size : ℕ) (niche : Niche) (tag : Scalar) (view : BackendRepr) → IsLawfulScalar dl tag → primitive_of tag ≡ niche.value → IsLawfulView dl size view → IsNicheOfView view niche
    → IsTagView dl size niche.offset tag (view_with niche.offset tag view)
view_with_tag dl size niche tag (OneScalar scalar) h same view n = ((h, width_of dl niche scalar tag n.1 same ∙ view.1), (n.0, refl))
view_with_tag dl size niche tag (ScalarPair a b b_offset) h same view n = pair_with dl size niche tag a b b_offset (niche.offset == 0) refl h same view n
view_with_tag dl size niche tag (SimdScalableVector element count vectors) h same view n = (tt, tt)
view_with_tag dl size niche tag (SimdVector element count) h same view n = (tt, tt)
view_with_tag dl size niche tag (Memory sized) h same view n = (tt, tt)

first_of_and : (a b : Bool) → (a && b) ≡ true → a ≡ true
first_of_and true b e = refl
first_of_and false b e = cc

-- the whole's view, which is the list's only where the list fills it
niche_view_with : {F V : Type 0} (dl : TargetDataLayout) (size align untagged : ℕ) (list : LayoutData F V) (niche : Niche) (tag : Scalar) (placed : List (VariantLayout F)) → IsLawfulScalar dl tag → primitive_of tag ≡ niche.value
    → IsLawfulView dl list.size list.backend_repr → IsNicheOfView list.backend_repr niche → IsTagView dl size niche.offset tag (niche_view size align untagged list niche.offset tag placed)
niche_view_with dl size align untagged list niche tag placed h same view n =
    by_test ((size == list.size) && (align == list.align.abi) && others_empty untagged 0 placed) (IsTagView dl size niche.offset tag) (view_with niche.offset tag list.backend_repr) (Memory true)
    (λ e. let fills : size ≡ list.size = eqb-true size list.size
    (first_of_and (size == list.size) (align == list.align.abi) (first_of_and ((size == list.size) && (align == list.align.abi)) (others_empty untagged 0 placed) e)) in
    rw fills (view_with_tag dl list.size niche tag list.backend_repr h same view n)) (tt, tt)

-- ---- the layout is lawful

module _ {F V : Type 0} (first : F) (index : ℕ → V) (dl : TargetDataLayout) (repr : ReprOptions) (variants : List (List (LayoutData F V))) (lists : List (LayoutData F V)) where
  -- the untagged list is lawful
  pub own_list : All (IsLawfulLayout dl) lists → (l : LayoutData F V) (p : IsInNiche first index dl repr variants lists l) → IsLawfulLayout dl p.list
  own_list all l p = (holds_there (IsLawfulLayout dl) lists (untagged_of lists) p.list all p.there).0

  -- and so is its niche
  pub own_niche : All (IsLawfulLayout dl) lists → (l : LayoutData F V) (p : IsInNiche first index dl repr variants lists l) → IsLawfulNiche dl p.list.size p.niche
  own_niche all l p = of_some (IsLawfulNiche dl p.list.size) p.list.largest_niche p.niche p.known (own_list all l p).niche

  -- and the tag
  pub own_tag : All (IsLawfulLayout dl) lists → (l : LayoutData F V) (p : IsInNiche first index dl repr variants lists l) → IsLawfulScalar dl (reserved dl p.niche (span_count p.span)).1
  own_tag all l p = tag_in_niche dl p.list.size p.niche (span_count p.span) (own_niche all l p) (omega arith) p.enough

  -- the tag lies inside the whole
  pub tag_inside : All (IsLawfulLayout dl) lists → (l : LayoutData F V) (p : IsInNiche first index dl repr variants lists l) → p.niche.offset + scalar_size dl (reserved dl p.niche (span_count p.span)).1 ≤ lists_size dl lists
  tag_inside all l p =
      let inside : p.niche.offset + niche_size dl p.niche ≤ p.list.size = (own_niche all l p).inside in
      let small : p.list.size ≤ greatest_size lists = size_at_most lists (untagged_of lists) p.list p.there in
      let whole : greatest_size lists ≤ lists_size dl lists = greatest_within dl lists in
      let width : scalar_size dl (reserved dl p.niche (span_count p.span)).1 ≡ niche_size dl p.niche = tag_size dl p.niche (span_count p.span) in
      omega (arith, inside, small, whole, width)

  -- the whole's view is lawful and has the tag
  own_view : All (IsLawfulLayout dl) lists → (l : LayoutData F V) (p : IsInNiche first index dl repr variants lists l)
      → IsTagView dl (lists_size dl lists) p.niche.offset (reserved dl p.niche (span_count p.span)).1
      (niche_view (lists_size dl lists) (lists_align dl lists) (untagged_of lists) p.list p.niche.offset (reserved dl p.niche (span_count p.span)).1 p.placed)
  own_view all l p =
      let own = own_list all l p in
      niche_view_with dl (lists_size dl lists) (lists_align dl lists) (untagged_of lists) p.list p.niche (reserved dl p.niche (span_count p.span)).1 p.placed (own_tag all l p)
      (handed_from dl p.niche (span_count p.span)) own.view (of_some (IsNicheOfView p.list.backend_repr) p.list.largest_niche p.niche p.known own.niche_of_view)

  -- a view of scalars has the tag where the niche lay
  pub niche_view_tag : All (IsLawfulLayout dl) lists → (l : LayoutData F V) (p : IsInNiche first index dl repr variants lists l)
      → HasTagAt p.niche.offset (reserved dl p.niche (span_count p.span)).1 l.backend_repr
  niche_view_tag all l p = subst (λ m. HasTagAt p.niche.offset (reserved dl p.niche (span_count p.span)).1 m.backend_repr) (sym p.is) (own_view all l p).1

  -- the niche that is left is a lawful one
  pub niche_of_niche : All (IsLawfulLayout dl) lists → (l : LayoutData F V) → niche_layout first index dl repr variants lists ≡ Some l → IfSome l.largest_niche (IsLawfulNiche dl l.size)
  niche_of_niche all l e =
      let p = niche_parts first index dl repr variants lists l e in
      subst (λ m. IfSome m.largest_niche (IsLawfulNiche dl m.size)) (sym p.is)
      (niche_inside dl p.niche.offset (lists_size dl lists) (reserved dl p.niche (span_count p.span)).1 (own_tag all l p) (tag_inside all l p))

  -- the layout is lawful where its size is below the bound
  pub niche_lawful : IsLawfulDataLayout dl → All (IsLawfulLayout dl) lists → (l : LayoutData F V) → niche_layout first index dl repr variants lists ≡ Some l → l.size < size_bound dl → IsLawfulLayout dl l
  niche_lawful law all l e small =
      let p = niche_parts first index dl repr variants lists l e in
      let tag : Scalar = (reserved dl p.niche (span_count p.span)).1 in
      let size : l.size ≡ lists_size dl lists = niche_size_is first index dl repr variants lists l e in
      let view = own_view all l p in
      subst (IsLawfulLayout dl) (sym p.is) (record {
        multiple = (rounded_to (greatest_size lists) (lists_align dl lists)).multiple;
        bound = omega (arith, small, size);
        limit = align_of_lists_small dl lists law all;
        niche = niche_inside dl p.niche.offset (lists_size dl lists) tag (own_tag all l p) (tag_inside all l p);
        view = view.0;
        niche_of_view = niche_of_tag_at dl p.niche.offset tag (niche_view (lists_size dl lists) (lists_align dl lists) (untagged_of lists) p.list p.niche.offset tag p.placed) view.1;
        tag = own_tag all l p;
      })

-- ---- lists that begin with an item

-- a first item and the others, where there are some
pub first_parts : {A : Type 0} (o : Option A) (more : Option (List A)) (x : A) (xs : List A) → with_first o more ≡ Some (x ∷ xs) → (o ≡ Some x) × (more ≡ Some xs)
first_parts None more x xs e = absurd (cc)
first_parts (Some y) None x xs e = absurd (cc)
first_parts (Some y) (Some ys) x xs e = let same : y ∷ ys ≡ x ∷ xs = cc in (cc, cc)

-- with a first item there are some
pub never_empty : {A : Type 0} (o : Option A) (more : Option (List A)) → with_first o more ≡ Some [] → ⊥
never_empty None more e = absurd (cc)
never_empty (Some y) None e = absurd (cc)
never_empty (Some y) (Some ys) e = absurd (cc)
