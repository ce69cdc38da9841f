-- Runs over a list's fields, and the choice between two of them.
use Rattle.std.proofs.Common.{◌≡◌, ℕ, ◌+◌, ◌<◌, ◌≤◌, Bool, true, false, List, [], ◌∷◌, Option, None, Some, inl, inr, length, refl, sym, ap, ap₂, subst, ◌∙◌, arith, ⊎_elim}
use Rattle.std.specs.Prelude.{◌⊎◌, All, IfSome, IsPermutation, MatchBool, MatchOption, if◌then◌else◌}
use Rattle.std.proofs.lemmas.List.Sorted.{All-permutation, IsPermutation-sym}
use Rattle.abi_base.specs.declared.data_layout.TargetDataLayout.{TargetDataLayout}
use Rattle.abi_base.specs.declared.struct_kind.StructKind.{StructKind}
use Rattle.abi_base.specs.declared.struct_kind.StructKind.TheVariants.{AlwaysSized, MaybeUnsized, Prefixed}
use Rattle.abi_base.specs.DataLayout.{size_bound}
use Rattle.abi_scalar.specs.declared.niche.Niche.{Niche}
use Rattle.abi_scalar.specs.Lawful.{IsLawfulNiche}
use Rattle.abi_univariant.specs.declared.part.Part.{Part}
use Rattle.abi_univariant.specs.declared.fields_repr.FieldsRepr.{FieldsRepr}
use Rattle.abi_univariant.specs.declared.order.NicheBias.{NicheBias}
use Rattle.abi_univariant.specs.declared.order.NicheBias.TheVariants.{Start, End}
use Rattle.abi_univariant.specs.declared.placing.FieldsFault.{FieldsFault}
use Rattle.abi_univariant.specs.Fault.{fault_in, is_maybe_unsized}
use Rattle.abi_univariant.specs.ListNiche.{begins_after, biased_niche, greatest_niche, niche_in, space_beside}
use Rattle.abi_univariant.specs.Order.{IsNamedOrder, IsSortedBefore}
use Rattle.abi_univariant.specs.LawfulPart.{IsAlignedPart, IsLawfulPart}
use Rattle.abi_univariant.specs.Placement.{IsNonEmptyIfUnsized, align_of, end_from, in_order, offsets_from, place_of, size_in, source_order, start_of}
use Rattle.abi_univariant.specs.Run.{IsFaultOf, IsNamedLayout, IsPlacedIn, may_move, space_wanted}
use Rattle.abi_univariant.proofs.Offsets.Ends.{end_from-above}
use Rattle.abi_univariant.proofs.Placed.FaultLemmas.{IsSizedAt, clear_of, fault_in-none, faultless_of_sized, sized_of_faultless}
use Rattle.abi_univariant.proofs.Sorted.Least.{allowed_permutes, named_allowed, named_least}
use Rattle.abi_univariant.proofs.Views.NicheLemmas.{greater_has, part_lawful}
use Rattle.abi_univariant.proofs.Offsets.Rounding.{rounded_to}
use Rattle.abi_univariant.proofs.Sorted.Sorting.{in_order-permutation}
use Rattle.std.proofs.lemmas.List.Elements.{All-head, All-tail}

pub aligned_parts : (dl : TargetDataLayout) (parts : List Part) → All (IsLawfulPart dl) parts → All IsAlignedPart parts
aligned_parts dl parts law k d h = let p : IsLawfulPart dl _ = law k d h in record { aligned = p.aligned; whole = p.whole }

-- ---- the niche of parts that follow one another lies inside

greatest_inside : (bias : NicheBias) (dl : TargetDataLayout) (pack : Option ℕ) (whole from : ℕ) (ps : List Part) → All (IsLawfulPart dl) ps → end_from pack from ps ≤ whole
    → IfSome (greatest_niche bias dl (offsets_from pack from ps) ps) (IsLawfulNiche dl whole)
greatest_inside bias dl pack whole from [] law inside = tt
greatest_inside bias dl pack whole from (p ∷ ps) law inside =
    let place = place_of pack from p in
    let later : place_of pack from p + p.size ≤ end_from pack (place_of pack from p + p.size) ps = omega (arith, end_from-above pack (place_of pack from p + p.size) ps) in
    let one : IsLawfulPart dl p = All-head (IsLawfulPart dl) p ps law in
    greater_has bias dl (IsLawfulNiche dl whole) _ _ (part_lawful dl (place_of pack from p) p.size whole p.largest_niche one.niche (omega (arith, later, inside)))
    (greatest_inside bias dl pack whole (place_of pack from p + p.size) ps (All-tail (IsLawfulPart dl) p ps law) inside)

pub niche_inside : (bias : NicheBias) (dl : TargetDataLayout) (repr : FieldsRepr) (parts : List Part) (order : List ℕ) → All (IsLawfulPart dl) parts → IsPermutation (source_order (length parts)) order
    → IfSome (niche_in dl repr bias parts order) (IsLawfulNiche dl (size_in repr parts order))
niche_inside bias dl repr parts order law p =
    greatest_inside bias dl repr.pack (size_in repr parts order) (start_of repr.pack repr.kind) (in_order parts order)
    (All-permutation (IsLawfulPart dl) parts (in_order parts order) (in_order-permutation parts order p) law)
    (rounded_to (end_from repr.pack (start_of repr.pack repr.kind) (in_order parts order)) (align_of repr parts)).above

-- ---- the choice

second_is : (b : Bool) (A B : Type 0) → b ≡ true → A → MatchBool b A B
second_is true A B e a = a
second_is false A B e a = cc

first_is : (b : Bool) (A B : Type 0) → b ≡ false → B → MatchBool b A B
first_is true A B e a = cc
first_is false A B e a = a

pub named_second : (dl : TargetDataLayout) (repr : FieldsRepr) (parts : List Part) (first order offsets : List ℕ) (size1 size align space : ℕ) (niche1 niche : Option Niche)
    → IsNamedOrder repr Start parts first → fault_in repr (size_bound dl) parts first ≡ None → size1 ≡ size_in repr parts first → niche1 ≡ niche_in dl repr Start parts first
    → (if may_move repr.kind (length parts) then space_beside dl size1 niche1 else None) ≡ Some space
    → IsNamedOrder repr End parts order → IsPlacedIn dl repr End parts order offsets size align niche → begins_after space niche ≡ true
    → IsNamedLayout dl repr parts order offsets size align niche
named_second dl repr parts first order offsets size1 size align space niche1 niche named clear extent largest some second placed late =
    let wanted : space_wanted dl repr parts first ≡ Some space = ap₂ (λ s n. if may_move repr.kind (length parts) then space_beside dl s n else None) (sym extent) (sym largest) ∙ some in
    let P : Option ℕ → Type 0 = λ o. MatchOption o ((order ≡ first) × IsPlacedIn dl repr Start parts order offsets size align niche) (λ space.
    (second : List ℕ) × IsNamedOrder repr End parts second
    × MatchBool (begins_after space (niche_in dl repr End parts second))
    ((order ≡ second) × IsPlacedIn dl repr End parts order offsets size align niche)
    ((order ≡ first) × IsPlacedIn dl repr Start parts order offsets size align niche)) in
    (first, named, clear, subst P (sym wanted) (order, second, second_is _ _ _ (ap (begins_after space) (sym placed.largest) ∙ late) (refl, placed)))

pub named_still : (dl : TargetDataLayout) (repr : FieldsRepr) (parts : List Part) (order second offsets : List ℕ) (size align space : ℕ) (niche niche2 : Option Niche)
    → IsNamedOrder repr Start parts order → IsPlacedIn dl repr Start parts order offsets size align niche
    → (if may_move repr.kind (length parts) then space_beside dl size niche else None) ≡ Some space
    → IsNamedOrder repr End parts second → niche2 ≡ niche_in dl repr End parts second → begins_after space niche2 ≡ false
    → IsNamedLayout dl repr parts order offsets size align niche
named_still dl repr parts order second offsets size align space niche niche2 named placed some ends largest late =
    let wanted : space_wanted dl repr parts order ≡ Some space = ap₂ (λ s n. if may_move repr.kind (length parts) then space_beside dl s n else None) (sym placed.extent) (sym placed.largest) ∙ some in
    let P : Option ℕ → Type 0 = λ o. MatchOption o ((order ≡ order) × IsPlacedIn dl repr Start parts order offsets size align niche) (λ space.
    (second : List ℕ) × IsNamedOrder repr End parts second
    × MatchBool (begins_after space (niche_in dl repr End parts second))
    ((order ≡ second) × IsPlacedIn dl repr End parts order offsets size align niche)
    ((order ≡ order) × IsPlacedIn dl repr Start parts order offsets size align niche)) in
    (order, named, placed.faultless, subst P (sym wanted) (second, ends, first_is _ _ _ (ap (begins_after space) (sym largest) ∙ late) (refl, placed)))

-- ---- a list whose order is fixed is placed once

-- the greatest niche for a bias is the one that counts for it
pub biased_is : (bias : NicheBias) (first last : Option Niche) (Q : NicheBias → Option Niche) → first ≡ Q Start → last ≡ Q End → biased_niche bias first last ≡ Q bias
biased_is Start first last Q f l = f
biased_is End first last Q f l = l

-- source order is named for either bias
named_in_source : (b : Bool) (repr : FieldsRepr) (parts : List Part) (order : List ℕ) → b ≡ false → MatchBool b (IsSortedBefore repr Start parts order) (order ≡ source_order (length parts))
    → MatchBool b (IsSortedBefore repr End parts order) (order ≡ source_order (length parts))
named_in_source true repr parts order e named = cc
named_in_source false repr parts order e named = named

placed_last : (dl : TargetDataLayout) (repr : FieldsRepr) (parts : List Part) (order offsets : List ℕ) (size align : ℕ) (niche last : Option Niche) → IsPlacedIn dl repr Start parts order offsets size align niche
    → last ≡ niche_in dl repr End parts order → IsPlacedIn dl repr End parts order offsets size align last
placed_last dl repr parts order offsets size align niche last p e =
    record { count = p.count; places = p.places; alignment = p.alignment; extent = p.extent; faultless = p.faultless; largest = e }

by_last : (b : Bool) (dl : TargetDataLayout) (repr : FieldsRepr) (parts : List Part) (order offsets : List ℕ) (size align space : ℕ) (niche last : Option Niche) → begins_after space last ≡ b
    → repr.reorderable ≡ false → IsNamedOrder repr Start parts order → IsPlacedIn dl repr Start parts order offsets size align niche
    → (if may_move repr.kind (length parts) then space_beside dl size niche else None) ≡ Some space → last ≡ niche_in dl repr End parts order
    → IsNamedLayout dl repr parts order offsets size align (if b then last else niche)
by_last true dl repr parts order offsets size align space niche last late fixed named placed some ends =
    named_second dl repr parts order order offsets size size align space niche last named placed.faultless placed.extent placed.largest some
    (named_in_source repr.reorderable repr parts order fixed named) (placed_last dl repr parts order offsets size align niche last placed ends) late
by_last false dl repr parts order offsets size align space niche last late fixed named placed some ends =
    named_still dl repr parts order order offsets size align space niche last named placed some (named_in_source repr.reorderable repr parts order fixed named) ends late

-- so its layout has the last of its greatest niches where that begins late enough
pub named_fixed : (dl : TargetDataLayout) (repr : FieldsRepr) (parts : List Part) (order offsets : List ℕ) (size align space : ℕ) (niche last : Option Niche)
    → repr.reorderable ≡ false → IsNamedOrder repr Start parts order → IsPlacedIn dl repr Start parts order offsets size align niche
    → (if may_move repr.kind (length parts) then space_beside dl size niche else None) ≡ Some space → last ≡ niche_in dl repr End parts order
    → IsNamedLayout dl repr parts order offsets size align (if begins_after space last then last else niche)
named_fixed dl repr parts order offsets size align space niche last fixed named placed some ends =
    by_last (begins_after space last) dl repr parts order offsets size align space niche last refl fixed named placed some ends

-- ---- the second run doesn't fail

moves_sized : (kind : StructKind) (count : ℕ) → may_move kind count ≡ true → is_maybe_unsized kind ≡ false
moves_sized AlwaysSized count e = refl
moves_sized MaybeUnsized count e = cc
moves_sized (Prefixed size align) count e = refl

some_moves : (b : Bool) (o : Option ℕ) (space : ℕ) → (if b then o else None) ≡ Some space → b ≡ true
some_moves true o space e = refl
some_moves false o space e = cc

pub second_clear : (dl : TargetDataLayout) (repr : FieldsRepr) (parts : List Part) (first second : List ℕ) (o : Option ℕ) (space : ℕ) → All (IsLawfulPart dl) parts → IsNonEmptyIfUnsized repr.kind (length parts)
    → IsNamedOrder repr Start parts first → fault_in repr (size_bound dl) parts first ≡ None
    → (if may_move repr.kind (length parts) then o else None) ≡ Some space
    → IsNamedOrder repr End parts second → fault_in repr (size_bound dl) parts second ≡ None
second_clear dl repr parts first second o space law some named clear wanted ends =
    let before = clear_of repr (size_bound dl) parts first clear in
    let sized : All (IsSizedAt parts) first
    = sized_of_faultless repr (size_bound dl) parts (start_of repr.pack repr.kind) first before.0 (moves_sized repr.kind (length parts) (some_moves (may_move repr.kind (length parts)) o space wanted)) in
    let p = allowed_permutes repr (length parts) first (named_allowed repr Start parts first some named) in
    let q = allowed_permutes repr (length parts) second (named_allowed repr End parts second some ends) in
    let source : All (IsSizedAt parts) (source_order (length parts)) = All-permutation (IsSizedAt parts) first (source_order (length parts)) (IsPermutation-sym (source_order (length parts)) first p) sized in
    let there : All (IsSizedAt parts) second = All-permutation (IsSizedAt parts) (source_order (length parts)) second q source in
    let least : size_in repr parts second ≤ size_in repr parts first = named_least repr End parts second first (aligned_parts dl parts law) some ends (named_allowed repr Start parts first some named) in
    let small : size_in repr parts second < size_bound dl = omega (arith, least, before.1) in
    let up : end_from repr.pack (start_of repr.pack repr.kind) (in_order parts second) ≤ size_in repr parts second
    = (rounded_to (end_from repr.pack (start_of repr.pack repr.kind) (in_order parts second)) (align_of repr parts)).above in
    fault_in-none repr (size_bound dl) parts second (faultless_of_sized repr (size_bound dl) parts (start_of repr.pack repr.kind) second there (omega (arith, up, small))) small

pub second_never : (dl : TargetDataLayout) (repr : FieldsRepr) (parts : List Part) (first : List ℕ) (o : Option ℕ) (space : ℕ) (fault : FieldsFault) → All (IsLawfulPart dl) parts → IsNonEmptyIfUnsized repr.kind (length parts)
    → IsNamedOrder repr Start parts first → fault_in repr (size_bound dl) parts first ≡ None
    → (if may_move repr.kind (length parts) then o else None) ≡ Some space
    → IsFaultOf dl repr End parts fault → IsFaultOf dl repr Start parts fault
second_never dl repr parts first o space fault law some named clear wanted (inr e) = inr e
second_never dl repr parts first o space fault law some named clear wanted (inl f) =
    let none : fault_in repr (size_bound dl) parts f.0 ≡ None = second_clear dl repr parts first f.0 o space law some named clear wanted f.1 in
    let that : fault_in repr (size_bound dl) parts f.0 ≡ Some fault = f.2 in
    cc

-- ---- what a named layout is, whichever run it comes from

either_run : (b : Bool) (A B : Type 0) → MatchBool b A B → A ⊎ B
either_run true A B m = inl m
either_run false A B m = inr m

maybe_run : (o : Option ℕ) (A : Type 0) (B : ℕ → Type 0) → MatchOption o A B → A ⊎ ((n : ℕ) × B n)
maybe_run None A B m = inl m
maybe_run (Some n) A B m = inr (n, m)

-- The layout is that of a named order.
pub record IsBiased (dl : TargetDataLayout) (repr : FieldsRepr) (parts : List Part) (order offsets : List ℕ) (size align : ℕ) (niche : Option Niche) : Type 0 where
  pub bias : NicheBias
  pub named : IsNamedOrder repr bias parts order
  pub placed : IsPlacedIn dl repr bias parts order offsets size align niche

started : (dl : TargetDataLayout) (repr : FieldsRepr) (parts : List Part) (bias : NicheBias) (named_one order offsets : List ℕ) (size align : ℕ) (niche : Option Niche)
    → IsNamedOrder repr bias parts named_one → order ≡ named_one → IsPlacedIn dl repr bias parts order offsets size align niche → IsBiased dl repr parts order offsets size align niche
started dl repr parts bias one order offsets size align niche named same placed = record { bias = bias; named = subst (IsNamedOrder repr bias parts) (sym same) named; placed = placed }

run_cases : (dl : TargetDataLayout) (repr : FieldsRepr) (parts : List Part) (first order offsets : List ℕ) (size align : ℕ) (niche : Option Niche) → IsNamedOrder repr Start parts first
    → ((order ≡ first) × IsPlacedIn dl repr Start parts order offsets size align niche)
    ⊎ ((space : ℕ) × ((second : List ℕ) × IsNamedOrder repr End parts second
    × MatchBool (begins_after space (niche_in dl repr End parts second))
    ((order ≡ second) × IsPlacedIn dl repr End parts order offsets size align niche)
    ((order ≡ first) × IsPlacedIn dl repr Start parts order offsets size align niche)))
    → IsBiased dl repr parts order offsets size align niche
run_cases dl repr parts first order offsets size align niche named (inl r) = started dl repr parts Start first order offsets size align niche named r.0 r.1
run_cases dl repr parts first order offsets size align niche named (inr r) =
    ⊎_elim (λ (s : (order ≡ r.1.0) × IsPlacedIn dl repr End parts order offsets size align niche). started dl repr parts End r.1.0 order offsets size align niche r.1.1 s.0 s.1)
    (λ (s : (order ≡ first) × IsPlacedIn dl repr Start parts order offsets size align niche). started dl repr parts Start first order offsets size align niche named s.0 s.1)
    (either_run (begins_after r.0 (niche_in dl repr End parts r.1.0)) ((order ≡ r.1.0) × IsPlacedIn dl repr End parts order offsets size align niche)
    ((order ≡ first) × IsPlacedIn dl repr Start parts order offsets size align niche) r.1.2)

pub biased_of : (dl : TargetDataLayout) (repr : FieldsRepr) (parts : List Part) (order offsets : List ℕ) (size align : ℕ) (niche : Option Niche)
    → IsNamedLayout dl repr parts order offsets size align niche → IsBiased dl repr parts order offsets size align niche
biased_of dl repr parts order offsets size align niche n =
    run_cases dl repr parts n.0 order offsets size align niche n.1
    (maybe_run (space_wanted dl repr parts n.0) ((order ≡ n.0) × IsPlacedIn dl repr Start parts order offsets size align niche)
    (λ space. (second : List ℕ) × IsNamedOrder repr End parts second
    × MatchBool (begins_after space (niche_in dl repr End parts second))
    ((order ≡ second) × IsPlacedIn dl repr End parts order offsets size align niche)
    ((order ≡ n.0) × IsPlacedIn dl repr Start parts order offsets size align niche)) n.3)
