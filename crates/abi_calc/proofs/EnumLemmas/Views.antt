-- How a code generator sees a tagged enum: truly of each variant, and lawfully.
use Rattle.std.proofs.Common.{◌≡◌, ℕ, ◌^◌, ◌*◌, ◌<◌, ◌≤◌, ◌==◌, Bool, true, false, List, [], ◌∷◌, Option, None, Some, arith, eqb-true, inl, map, refl, if◌then◌else◌}
use Rattle.std.specs.Prelude.{⊤, ◌&&◌, All, IfSome, fold}
use Rattle.std.proofs.lemmas.List.Elements.{All-cons, All-head, All-nil, All-tail}
use Rattle.std.proofs.lemmas.Nat.{pow_pos}
use Rattle.std.proofs.lemmas.Option.{IfSome_then}
use Rattle.abi_base.specs.declared.data_layout.TargetDataLayout.{TargetDataLayout}
use Rattle.abi_base.specs.declared.primitive.Primitive.{Primitive}
use Rattle.abi_base.specs.declared.primitive.Primitive.TheVariants.{Int, Float, Pointer}
use Rattle.abi_base.specs.Integer.{integer_size}
use Rattle.abi_base.specs.Primitive.{IsLawfulPrimitive, primitive_size}
use Rattle.abi_scalar.specs.declared.backend_repr.BackendRepr.{BackendRepr}
use Rattle.abi_scalar.specs.declared.backend_repr.BackendRepr.TheVariants.{Scalar as OneScalar, ScalarPair, SimdScalableVector, SimdVector, Memory}
use Rattle.abi_scalar.specs.declared.layout_data.LayoutData.{LayoutData}
use Rattle.abi_scalar.specs.declared.scalar.Scalar.{Scalar}
use Rattle.abi_scalar.specs.declared.scalar.Scalar.TheVariants.{Initialized, Union}
use Rattle.abi_scalar.specs.Lawful.{IsLawfulLayout, IsLawfulNiche, IsLawfulView, IsNicheOfView}
use Rattle.abi_scalar.specs.Niche.{niche_at}
use Rattle.abi_scalar.specs.Pair.{pair_align, pair_size, second_offset}
use Rattle.abi_scalar.specs.Scalar.{IsLawfulScalar, primitive_of, scalar_size}
use Rattle.abi_scalar.specs.Shape.{listed_offsets}
use Rattle.abi_scalar.proofs.LawfulLemmas.{niche_lawful, niche_viewed}
use Rattle.abi_univariant.specs.Part.{is_empty_view}
use Rattle.abi_univariant.proofs.Views.Lawful.{niche_within}
use Rattle.abi_univariant.proofs.Views.LawfulList.{by_test, pair_lawful}
use Rattle.abi_calc.specs.declared.enums.payload.Payload.{Payload}
use Rattle.abi_calc.specs.declared.enums.payload.Payload.TheVariants.{Nothing, One, Other}
use Rattle.abi_calc.specs.Enums.Growth.{moved_offset}
use Rattle.abi_calc.specs.Enums.Payload.{IsWellFormedPayload, BeginsWithTag, IsWide, payload_of_two, beside_tag, common_payload, common_of, has_same_place, is_initialized, is_same_float, payload_at, payload_of, payload_of_field, payload_of_view, scalar_of, shared_primitive, tagged_view}
use Rattle.abi_calc.specs.Enums.Single.{widened_scalar}
use Rattle.abi_calc.specs.Enums.Tagged.{payloads_of}
use Rattle.abi_calc.proofs.EnumLemmas.Payload.{beside_lawful}
use Rattle.abi_calc.proofs.EnumLemmas.Single.{widened_lawful}

-- the payload's scalar holds any number of its width, or any bytes
abbrev pub IsWidePayload : TargetDataLayout → Payload → Type 0
IsWidePayload dl (One scalar offset) = IsWide dl scalar
IsWidePayload dl Nothing = ⊤
IsWidePayload dl Other = ⊤

-- ---- wide payloads

widened_wide : (dl : TargetDataLayout) (scalar : Scalar) → IsWide dl (widened_scalar dl scalar)
widened_wide dl (Initialized value range) = refl
widened_wide dl (Union value) = tt

-- what a field with bytes is, is wide
view_wide : (dl : TargetDataLayout) (view : BackendRepr) (offset : ℕ) → IsWidePayload dl (payload_of_view dl view offset)
view_wide dl (OneScalar scalar) offset = widened_wide dl scalar
view_wide dl (ScalarPair a b b_offset) offset = tt
view_wide dl (SimdScalableVector element count vectors) offset = tt
view_wide dl (SimdVector element count) offset = tt
view_wide dl (Memory sized) offset = tt

-- what any field is, is wide
field_wide : {F V : Type 0} (dl : TargetDataLayout) (field : LayoutData F V) (offset : ℕ) → IsWidePayload dl (payload_of_field dl field offset)
field_wide dl field offset =
    by_test (is_empty_view field.backend_repr field.size) (IsWidePayload dl) Nothing (payload_of_view dl field.backend_repr offset) (λ e. tt) (view_wide dl field.backend_repr offset)

-- two wide payloads are wide together
beside_wide : (dl : TargetDataLayout) (p q : Payload) → IsWidePayload dl p → IsWidePayload dl q → IsWidePayload dl (payload_of_two p q)
beside_wide dl Nothing q wide other = other
beside_wide dl (One a i) Nothing wide other = wide
beside_wide dl (One a i) (One b j) wide other = tt
beside_wide dl (One a i) Other wide other = tt
beside_wide dl Other q wide other = tt

-- what a variant's fields are together, is wide
payload_wide : {F V : Type 0} (dl : TargetDataLayout) (fields : List (LayoutData F V)) (offsets : List ℕ) → IsWidePayload dl (payload_of dl fields offsets)
payload_wide dl [] offsets = tt
payload_wide dl (field ∷ fields) [] = tt
payload_wide dl (field ∷ fields) (offset ∷ offsets) =
    beside_wide dl (payload_of_field dl field offset) (payload_of dl fields offsets) (field_wide dl field offset) (payload_wide dl fields offsets)

-- what each variant's fields are, is wide
pub payloads_wide : {F V : Type 0} (dl : TargetDataLayout) (old new : ℕ) (variants : List (List (LayoutData F V))) (lists : List (LayoutData F V)) → All (IsWidePayload dl) (payloads_of dl old new variants lists)
payloads_wide dl old new [] lists = All-nil (IsWidePayload dl)
payloads_wide dl old new (fields ∷ variants) [] = All-nil (IsWidePayload dl)
payloads_wide dl old new (fields ∷ variants) (list ∷ lists) =
    All-cons (IsWidePayload dl) (payload_of dl fields (map (moved_offset old new) (listed_offsets list.fields))) (payloads_of dl old new variants lists)
    (payload_wide dl fields (map (moved_offset old new) (listed_offsets list.fields))) (payloads_wide dl old new variants lists)

-- a scalar made for several variants is wide
scalar_wide : (dl : TargetDataLayout) (initialized : Bool) (value : Primitive) → IsWide dl (scalar_of dl initialized value)
scalar_wide dl true value = refl
scalar_wide dl false value = tt

payload_at_wide : (dl : TargetDataLayout) (initialized : Bool) (offset : ℕ) (value : Option Primitive) → IsWidePayload dl (payload_at dl initialized offset value)
payload_at_wide dl initialized offset None = tt
payload_at_wide dl initialized offset (Some value) = scalar_wide dl initialized value

-- what two variants have in common is wide
common_wide : (dl : TargetDataLayout) (p q : Payload) → IsWidePayload dl (common_payload dl p q)
common_wide dl Nothing Nothing = tt
common_wide dl Nothing (One b j) = tt
common_wide dl Nothing Other = tt
common_wide dl (One a i) Nothing = tt
common_wide dl (One a i) (One b j) =
    let shared : Option Primitive = shared_primitive dl (primitive_of a) (primitive_of b) in
    by_test (i == j) (IsWidePayload dl) (payload_at dl (is_initialized a && is_initialized b) i shared) Other
    (λ e. payload_at_wide dl (is_initialized a && is_initialized b) i shared) tt
common_wide dl (One a i) Other = tt
common_wide dl Other q = tt

-- what is taken together with more variants stays wide
fold_wide : (dl : TargetDataLayout) (p : Payload) (ps : List Payload) → IsWidePayload dl p → IsWidePayload dl (fold (common_payload dl) p ps)
fold_wide dl p [] wide = wide
fold_wide dl p (q ∷ ps) wide = fold_wide dl (common_payload dl p q) ps (common_wide dl p q)

-- what all variants have in common is wide
pub common_of_wide : (dl : TargetDataLayout) (ps : List Payload) → All (IsWidePayload dl) ps → IsWidePayload dl (common_of dl ps)
common_of_wide dl [] wide = tt
common_of_wide dl (p ∷ ps) wide = fold_wide dl p ps (All-head (IsWidePayload dl) p ps wide)

-- ---- the view is true

-- beside the tag there is a wide scalar
beside_true : (dl : TargetDataLayout) (tag : Scalar) (size align : ℕ) (p : Payload) → IsWidePayload dl p → BeginsWithTag dl tag (beside_tag dl tag size align p)
beside_true dl tag size align Nothing wide = tt
beside_true dl tag size align (One b j) wide =
    by_test ((0 == 0) && (j == second_offset dl tag b) && (align == pair_align dl tag b) && (size == pair_size dl tag b)) (BeginsWithTag dl tag) (ScalarPair tag b (second_offset dl tag b)) (Memory true)
    (λ e. (refl, wide)) tt
beside_true dl tag size align Other wide = tt

-- an enum's view is true of each of its variants
pub view_true : (dl : TargetDataLayout) (tag : Scalar) (size align : ℕ) (payloads : List Payload) → All (IsWidePayload dl) payloads → BeginsWithTag dl tag (tagged_view dl tag size align payloads)
view_true dl tag size align payloads wide =
    by_test (scalar_size dl tag == size) (BeginsWithTag dl tag) (OneScalar tag) (beside_tag dl tag size align (common_of dl payloads)) (λ e. refl)
    (beside_true dl tag size align (common_of dl payloads) (common_of_wide dl payloads wide))

-- ---- lawful payloads

-- what a field with bytes is, is lawful where its view is
view_payload_lawful : (dl : TargetDataLayout) (size : ℕ) (view : BackendRepr) (offset : ℕ) → IsLawfulView dl size view → IsWellFormedPayload dl (payload_of_view dl view offset)
view_payload_lawful dl size (OneScalar scalar) offset h = widened_lawful dl scalar h.0
view_payload_lawful dl size (ScalarPair a b b_offset) offset h = tt
view_payload_lawful dl size (SimdScalableVector element count vectors) offset h = tt
view_payload_lawful dl size (SimdVector element count) offset h = tt
view_payload_lawful dl size (Memory sized) offset h = tt

-- what a lawful field is, is lawful
field_payload_lawful : {F V : Type 0} (dl : TargetDataLayout) (field : LayoutData F V) (offset : ℕ) → IsLawfulLayout dl field → IsWellFormedPayload dl (payload_of_field dl field offset)
field_payload_lawful dl field offset h =
    by_test (is_empty_view field.backend_repr field.size) (IsWellFormedPayload dl) Nothing (payload_of_view dl field.backend_repr offset) (λ e. tt)
    (view_payload_lawful dl field.size field.backend_repr offset h.view)

-- what a variant's lawful fields are together, is lawful
payload_lawful : {F V : Type 0} (dl : TargetDataLayout) (fields : List (LayoutData F V)) (offsets : List ℕ) → All (IsLawfulLayout dl) fields → IsWellFormedPayload dl (payload_of dl fields offsets)
payload_lawful dl [] offsets h = tt
payload_lawful dl (field ∷ fields) [] h = tt
payload_lawful dl (field ∷ fields) (offset ∷ offsets) h =
    beside_lawful dl (payload_of_field dl field offset) (payload_of dl fields offsets) (field_payload_lawful dl field offset (All-head (IsLawfulLayout dl) field fields h))
    (payload_lawful dl fields offsets (All-tail (IsLawfulLayout dl) field fields h))

-- what each variant's fields are, is lawful
pub payloads_lawful : {F V : Type 0} (dl : TargetDataLayout) (old new : ℕ) (variants : List (List (LayoutData F V))) (lists : List (LayoutData F V)) → All (All (IsLawfulLayout dl)) variants
    → All (IsWellFormedPayload dl) (payloads_of dl old new variants lists)
payloads_lawful dl old new [] lists h = All-nil (IsWellFormedPayload dl)
payloads_lawful dl old new (fields ∷ variants) [] h = All-nil (IsWellFormedPayload dl)
payloads_lawful dl old new (fields ∷ variants) (list ∷ lists) h =
    All-cons (IsWellFormedPayload dl) (payload_of dl fields (map (moved_offset old new) (listed_offsets list.fields))) (payloads_of dl old new variants lists)
    (payload_lawful dl fields (map (moved_offset old new) (listed_offsets list.fields)) (All-head (All (IsLawfulLayout dl)) fields variants h))
    (payloads_lawful dl old new variants lists (All-tail (All (IsLawfulLayout dl)) fields variants h))

-- ---- what lawful payloads have in common is lawful

-- what holds of the one thing that a test may give
if_tested : (b : Bool) {A : Type 0} (x : A) (P : A → Type 0) → P x → IfSome (if b then Some x else None) P
if_tested true x P h = h
if_tested false x P h = tt

-- the primitive that two lawful ones share is lawful
pub shared_lawful : (dl : TargetDataLayout) (a b : Primitive) → IsLawfulPrimitive dl a → IsLawfulPrimitive dl b → IfSome (shared_primitive dl a b) (IsLawfulPrimitive dl)
shared_lawful dl (Int i signed) (Int j signed') ha hb = if_tested (integer_size i == integer_size j) (Int i signed) (IsLawfulPrimitive dl) tt
shared_lawful dl (Int i signed) (Float f) ha hb = tt
shared_lawful dl (Int i signed) (Pointer space) ha hb = if_tested (has_same_place dl (Int i signed) (Pointer space)) (Pointer space) (IsLawfulPrimitive dl) hb
shared_lawful dl (Float f) (Int j signed') ha hb = tt
shared_lawful dl (Float f) (Float g) ha hb = if_tested (is_same_float f g) (Float f) (IsLawfulPrimitive dl) tt
shared_lawful dl (Float f) (Pointer space) ha hb = tt
shared_lawful dl (Pointer space) (Int j signed') ha hb = if_tested (has_same_place dl (Pointer space) (Int j signed')) (Pointer space) (IsLawfulPrimitive dl) ha
shared_lawful dl (Pointer space) (Float g) ha hb = tt
shared_lawful dl (Pointer space) (Pointer other) ha hb = if_tested (space.0 == other.0) (Pointer space) (IsLawfulPrimitive dl) ha

-- a wide scalar of a lawful primitive is lawful
scalar_of_lawful : (dl : TargetDataLayout) (initialized : Bool) (value : Primitive) → IsLawfulPrimitive dl value → IsLawfulScalar dl (scalar_of dl initialized value)
scalar_of_lawful dl true value h =
    let some : 0 < 2 ^ (8 * primitive_size dl value) = pow_pos (8 * primitive_size dl value) in
    record { pointer = h; within = (some, omega arith) }
scalar_of_lawful dl false value h =
    let some : 0 < 2 ^ (8 * primitive_size dl value) = pow_pos (8 * primitive_size dl value) in
    record { pointer = h; within = (some, omega arith) }

payload_at_lawful : (dl : TargetDataLayout) (initialized : Bool) (offset : ℕ) (value : Option Primitive) → IfSome value (IsLawfulPrimitive dl) → IsWellFormedPayload dl (payload_at dl initialized offset value)
payload_at_lawful dl initialized offset None h = tt
payload_at_lawful dl initialized offset (Some value) h = scalar_of_lawful dl initialized value h

-- what two lawful payloads have in common is lawful
pub common_lawful : (dl : TargetDataLayout) (p q : Payload) → IsWellFormedPayload dl p → IsWellFormedPayload dl q → IsWellFormedPayload dl (common_payload dl p q)
common_lawful dl Nothing Nothing hp hq = tt
common_lawful dl Nothing (One b j) hp hq = scalar_of_lawful dl false (primitive_of b) hq.pointer
common_lawful dl Nothing Other hp hq = tt
common_lawful dl (One a i) Nothing hp hq = scalar_of_lawful dl false (primitive_of a) hp.pointer
common_lawful dl (One a i) (One b j) hp hq =
    let shared : Option Primitive = shared_primitive dl (primitive_of a) (primitive_of b) in
    by_test (i == j) (IsWellFormedPayload dl) (payload_at dl (is_initialized a && is_initialized b) i shared) Other
    (λ e. payload_at_lawful dl (is_initialized a && is_initialized b) i shared (shared_lawful dl (primitive_of a) (primitive_of b) hp.pointer hq.pointer)) tt
common_lawful dl (One a i) Other hp hq = tt
common_lawful dl Other q hp hq = tt

-- what is taken together with more lawful ones stays lawful
fold_lawful : (dl : TargetDataLayout) (p : Payload) (ps : List Payload) → IsWellFormedPayload dl p → All (IsWellFormedPayload dl) ps → IsWellFormedPayload dl (fold (common_payload dl) p ps)
fold_lawful dl p [] hp h = hp
fold_lawful dl p (q ∷ ps) hp h =
    fold_lawful dl (common_payload dl p q) ps (common_lawful dl p q hp (All-head (IsWellFormedPayload dl) q ps h)) (All-tail (IsWellFormedPayload dl) q ps h)

-- what all variants have in common is lawful
pub common_of_lawful : (dl : TargetDataLayout) (ps : List Payload) → All (IsWellFormedPayload dl) ps → IsWellFormedPayload dl (common_of dl ps)
common_of_lawful dl [] h = tt
common_of_lawful dl (p ∷ ps) h = fold_lawful dl p ps (All-head (IsWellFormedPayload dl) p ps h) (All-tail (IsWellFormedPayload dl) p ps h)

-- ---- the view is lawful

-- the tag and a lawful scalar beside it
beside_tag_lawful : (dl : TargetDataLayout) (tag : Scalar) (size align : ℕ) (p : Payload) → IsLawfulScalar dl tag → IsWellFormedPayload dl p → IsLawfulView dl size (beside_tag dl tag size align p)
beside_tag_lawful dl tag size align Nothing ht hp = tt
beside_tag_lawful dl tag size align (One b j) ht hp = pair_lawful dl size align 0 j tag b (ht, refl) (hp, refl)
beside_tag_lawful dl tag size align Other ht hp = tt

-- an enum's view is lawful
pub view_lawful : (dl : TargetDataLayout) (tag : Scalar) (size align : ℕ) (payloads : List Payload) → IsLawfulScalar dl tag → All (IsWellFormedPayload dl) payloads
    → IsLawfulView dl size (tagged_view dl tag size align payloads)
view_lawful dl tag size align payloads ht h =
    by_test (scalar_size dl tag == size) (IsLawfulView dl size) (OneScalar tag) (beside_tag dl tag size align (common_of dl payloads)) (λ e. (ht, eqb-true (scalar_size dl tag) size e))
    (beside_tag_lawful dl tag size align (common_of dl payloads) ht (common_of_lawful dl payloads h))

-- ---- the niche

-- what always holds, holds of what is there
some_always : {A : Type 0} (o : Option A) {P : A → Type 0} → ((x : A) → P x) → IfSome o P
some_always None h = tt
some_always (Some x) h = h x

-- the tag's niche is that of a view that is true of each variant
pub niche_of_tag : (dl : TargetDataLayout) (tag : Scalar) (view : BackendRepr) → BeginsWithTag dl tag view → IfSome (niche_at dl 0 tag) (IsNicheOfView view)
niche_of_tag dl tag (OneScalar scalar) h = rw h (niche_viewed dl tag)
niche_of_tag dl tag (ScalarPair a b b_offset) h =
    let same : a ≡ tag = h.0 in
    IfSome_then (niche_at dl 0 tag) (niche_viewed dl tag) (λ n own. inl (own.0, rw same own.1))
niche_of_tag dl tag (SimdScalableVector element count vectors) h = absurd h
niche_of_tag dl tag (SimdVector element count) h = absurd h
niche_of_tag dl tag (Memory sized) h = some_always (niche_at dl 0 tag) (λ n. tt)

-- a lawful tag's niche is one of any type that is as large at least
pub niche_inside : (dl : TargetDataLayout) (tag : Scalar) (size : ℕ) → IsLawfulScalar dl tag → scalar_size dl tag ≤ size → IfSome (niche_at dl 0 tag) (IsLawfulNiche dl size)
niche_inside dl tag size h le = niche_within dl (scalar_size dl tag) size (niche_at dl 0 tag) le (niche_lawful dl tag h)
