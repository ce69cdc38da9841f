-- What the variants of a tagged enum hold beside the tag.
use Rattle.std.proofs.Common.{◌≡◌, ℕ, zero, suc, ◌+◌, ◌<◌, ◌≤◌, List, [], ◌∷◌, ap, arith, drop, get_or, length, map, refl, sym, ◌∙◌}
use Rattle.std.specs.Prelude.{Some, fold, slice_get}
use Rattle.std.proofs.lemmas.List.{drop_all}
use Rattle.abi_base.specs.declared.data_layout.TargetDataLayout.{TargetDataLayout}
use Rattle.abi_scalar.specs.declared.layout_data.LayoutData.{LayoutData}
use Rattle.abi_base.specs.Primitive.{KnowsPrimitive}
use Rattle.abi_scalar.specs.declared.scalar.Scalar.{Scalar}
use Rattle.abi_scalar.specs.Scalar.{IsLawfulScalar, primitive_of}
use Rattle.abi_univariant.proofs.Views.NicheLemmas.{readable_size}
use Rattle.abi_calc.specs.declared.enums.payload.Payload.{Payload}
use Rattle.abi_calc.specs.declared.enums.payload.Payload.TheVariants.{Nothing, One, Other}
use Rattle.abi_calc.proofs.AtIndex.{left_at}
use Rattle.abi_calc.specs.Enums.Payload.{IsWellFormedPayload, payload_of_two, common_payload, common_of, payload_of, payload_of_field}
use Rattle.abi_calc.specs.Enums.Growth.{moved_offset}
use Rattle.abi_calc.specs.Enums.Lists.{AreListsOf}
use Rattle.abi_calc.specs.Enums.Tagged.{payloads_of}
use Rattle.abi_scalar.specs.Shape.{listed_offsets}

-- ---- one variant

-- of three payloads it doesn't matter which two are taken together first
pub beside_three : (p q r : Payload) → payload_of_two (payload_of_two p q) r ≡ payload_of_two p (payload_of_two q r)
beside_three Nothing q r = refl
beside_three (One a i) Nothing r = refl
beside_three (One a i) (One b j) Nothing = refl
beside_three (One a i) (One b j) (One c k) = refl
beside_three (One a i) (One b j) Other = refl
beside_three (One a i) Other r = refl
beside_three Other q r = refl

-- two lawful payloads are lawful together
pub beside_lawful : (dl : TargetDataLayout) (p q : Payload) → IsWellFormedPayload dl p → IsWellFormedPayload dl q → IsWellFormedPayload dl (payload_of_two p q)
beside_lawful dl Nothing q lawful other = other
beside_lawful dl (One a i) Nothing lawful other = lawful
beside_lawful dl (One a i) (One b j) lawful other = tt
beside_lawful dl (One a i) Other lawful other = tt
beside_lawful dl Other q lawful other = tt

-- one more field is taken beside those before it
pub payload_step : {F V H : Type 0} (dl : TargetDataLayout) (layout_of : H → LayoutData F V) (move : ℕ → ℕ) (fields : List H) (offsets : List ℕ) (i : ℕ) (field : H) (offset : ℕ) (now whole : Payload)
    → i < length fields → length offsets ≡ length fields → field ≡ get_or fields i field → offset ≡ get_or offsets i offset
    → payload_of_two now (payload_of dl (map layout_of (drop i fields)) (map move (drop i offsets))) ≡ whole
    → payload_of_two (payload_of_two now (payload_of_field dl (layout_of field) (move offset))) (payload_of dl (map layout_of (drop (i + 1) fields)) (map move (drop (i + 1) offsets))) ≡ whole
payload_step dl layout_of move fields offsets i field offset now whole short count is at before =
    let fits : i < length offsets = omega arith in
    let taken = rw (left_at fields i field short is, left_at offsets i offset fits at) at before in
    beside_three now (payload_of_field dl (layout_of field) (move offset)) (payload_of dl (map layout_of (drop (i + 1) fields)) (map move (drop (i + 1) offsets))) ∙ taken

-- ---- all variants

-- each list's variant has a payload
pub payloads_count : {F V H : Type 0} (dl : TargetDataLayout) (old new : ℕ) (layout_of : H → LayoutData F V) (variants : List (List H)) (lists : List (LayoutData F V)) → AreListsOf variants lists
    → length (payloads_of dl old new (map (map layout_of) variants) lists) ≡ length lists
payloads_count dl old new layout_of [] [] h = refl
payloads_count dl old new layout_of [] (list ∷ lists) h = absurd h
payloads_count dl old new layout_of (fields ∷ variants) [] h = refl
payloads_count dl old new layout_of (fields ∷ variants) (list ∷ lists) h = ap suc (payloads_count dl old new layout_of variants lists h.1)

-- that of the variant at a place
pub payload_there : {F V H : Type 0} (dl : TargetDataLayout) (old new : ℕ) (layout_of : H → LayoutData F V) (variants : List (List H)) (lists : List (LayoutData F V)) (i : ℕ) (fields : List H) (list : LayoutData F V)
    → AreListsOf variants lists → i < length lists
    → slice_get (payloads_of dl old new (map (map layout_of) variants) lists) i ≡ Some (payload_of dl (map layout_of (get_or variants i fields)) (map (moved_offset old new) (listed_offsets (get_or lists i list).fields)))
payload_there dl old new layout_of [] [] i fields list h short = absurd (omega arith)
payload_there dl old new layout_of [] (l ∷ lists) i fields list h short = absurd h
payload_there dl old new layout_of (v ∷ variants) [] i fields list h short = absurd h
payload_there dl old new layout_of (v ∷ variants) (l ∷ lists) zero fields list h short = refl
payload_there dl old new layout_of (v ∷ variants) (l ∷ lists) (suc i) fields list h short = payload_there dl old new layout_of variants lists i fields list h.1 (omega arith)

-- the first payload begins what all have in common
pub common_begin : (dl : TargetDataLayout) (ps : List Payload) (p : Payload) → slice_get ps 0 ≡ Some p → fold (common_payload dl) p (drop 1 ps) ≡ common_of dl ps
common_begin dl [] p is = cc
common_begin dl (q ∷ ps) p is = let e : q ≡ p = cc in ap (λ x. fold (common_payload dl) x ps) (sym e)

-- one more is taken together with those before it
pub common_step : (dl : TargetDataLayout) (ps : List Payload) (i : ℕ) (now p whole : Payload) → slice_get ps i ≡ Some p → fold (common_payload dl) now (drop i ps) ≡ whole
    → fold (common_payload dl) (common_payload dl now p) (drop (i + 1) ps) ≡ whole
common_step dl [] i now p whole is before = cc
common_step dl (q ∷ ps) zero now p whole is before = let e : q ≡ p = cc in ap (λ x. fold (common_payload dl) (common_payload dl now x) ps) (sym e) ∙ before
common_step dl (q ∷ ps) (suc i) now p whole is before = let one : suc i + 1 ≡ suc (i + 1) = omega arith in rw one (common_step dl ps i now p whole is before)

-- behind the last there is nothing left to take
pub common_end : {F V H : Type 0} (dl : TargetDataLayout) (old new : ℕ) (layout_of : H → LayoutData F V) (variants : List (List H)) (lists : List (LayoutData F V)) (i : ℕ) (now whole : Payload)
    → AreListsOf variants lists → length lists ≤ i → fold (common_payload dl) now (drop i (payloads_of dl old new (map (map layout_of) variants) lists)) ≡ whole → now ≡ whole
common_end dl old new layout_of variants lists i now whole are far before =
    let past : length (payloads_of dl old new (map (map layout_of) variants) lists) ≤ i = omega (arith, payloads_count dl old new layout_of variants lists are) in
    rw (drop_all i (payloads_of dl old new (map (map layout_of) variants) lists) past) at before

-- no lists, nothing in common
pub common_none : {F V H : Type 0} (dl : TargetDataLayout) (old new : ℕ) (layout_of : H → LayoutData F V) (variants : List (List H)) (lists : List (LayoutData F V)) → length lists ≡ 0
    → Nothing ≡ common_of dl (payloads_of dl old new (map (map layout_of) variants) lists)
common_none dl old new layout_of [] [] none = refl
common_none dl old new layout_of (fields ∷ variants) [] none = refl
common_none dl old new layout_of variants (list ∷ lists) none = absurd (omega (arith, none))

-- ---- the tag

-- a lawful scalar's primitive has a size that the data layout says
pub tag_known : (dl : TargetDataLayout) (tag : Scalar) → IsLawfulScalar dl tag → KnowsPrimitive dl (primitive_of tag)
tag_known dl tag h = (readable_size dl (primitive_of tag) h.pointer).0
