-- What is promised of a list that lies in an allowed order.
use Rattle.std.proofs.Common.{◌≡◌, ℕ, ◌<◌, ◌≤◌, List, [], ◌∷◌, Option, length, map, get_or, refl, ap, subst, ◌∙◌, arith}
use Rattle.std.specs.Prelude.{All, IfSome, IsPermutation}
use Rattle.std.proofs.lemmas.List.Sorted.{All-permutation, IsPermutation-sym}
use Rattle.abi_base.specs.declared.data_layout.TargetDataLayout.{TargetDataLayout}
use Rattle.abi_scalar.specs.declared.layout_data.LayoutData.{LayoutData}
use Rattle.abi_scalar.specs.declared.niche.Niche.{Niche}
use Rattle.abi_scalar.specs.Lawful.{IsLawfulLayout, IsLawfulNiche}
use Rattle.abi_univariant.specs.declared.part.Part.{Part}
use Rattle.abi_univariant.specs.declared.fields_repr.FieldsRepr.{FieldsRepr}
use Rattle.abi_univariant.specs.Apart.{AreAligned, AreApart}
use Rattle.abi_univariant.specs.ListNiche.{HasLargestNiche, IsNicheOfPart, niche_in}
use Rattle.abi_univariant.specs.LawfulPart.{IsLawfulPart}
use Rattle.abi_univariant.specs.Part.{parts_of}
use Rattle.abi_univariant.specs.Placement.{align_of, cut, end_from, in_order, offsets_from, source_order, start_of}
use Rattle.abi_univariant.specs.Run.{IsInOrder}
use Rattle.abi_univariant.proofs.Sorted.Least.{allowed_permutes}
use Rattle.abi_univariant.proofs.Layouts.ListLemmas.{length-parts}
use Rattle.abi_univariant.proofs.Views.NicheLemmas.{IsBelow, IsNicheOfIndex, greatest_below, greatest_of_index, largest_of_parts, of_part, weaken_niche}
use Rattle.abi_univariant.proofs.Placed.PlacingLemmas.{length-offsets}
use Rattle.abi_univariant.proofs.Offsets.Rounding.{rounded_to}
use Rattle.abi_univariant.proofs.Placed.RunLemmas.{niche_inside}
use Rattle.abi_univariant.proofs.Sorted.Sorting.{in_order-permutation, within_order}
use Rattle.abi_univariant.proofs.Placed.SourceLemmas.{Lies, length-in, offset_at, part_in, parts_after, parts_aligned, parts_apart}

pub ordered_permutes : (dl : TargetDataLayout) (repr : FieldsRepr) (parts : List Part) (order offsets : List ℕ) (size align : ℕ) (niche : Option Niche) → IsInOrder dl repr parts order offsets size align niche → IsPermutation (source_order (length parts)) order
ordered_permutes dl repr parts order offsets size align niche b = allowed_permutes repr (length parts) order b.allowed

pub ordered_lies : (dl : TargetDataLayout) (repr : FieldsRepr) (parts : List Part) (order offsets : List ℕ) (size align : ℕ) (niche : Option Niche) → IsInOrder dl repr parts order offsets size align niche → Lies repr.pack (start_of repr.pack repr.kind) parts order offsets
ordered_lies dl repr parts order offsets size align niche b = record { permutes = ordered_permutes dl repr parts order offsets size align niche b; count = b.placed.count; places = b.placed.places }

ordered_up : (dl : TargetDataLayout) (repr : FieldsRepr) (parts : List Part) (order offsets : List ℕ) (size align : ℕ) (niche : Option Niche)
    → IsInOrder dl repr parts order offsets size align niche → end_from repr.pack (start_of repr.pack repr.kind) (in_order parts order) ≤ size
ordered_up dl repr parts order offsets size align niche b = rw b.placed.extent (rounded_to (end_from repr.pack (start_of repr.pack repr.kind) (in_order parts order)) (align_of repr parts)).above

sizes_of : {F V H : Type 0} (layout_of : H → LayoutData F V) (dl : TargetDataLayout) (hs : List H) → map (λ (p : Part). p.size) (parts_of dl (map layout_of hs)) ≡ map (λ h. (layout_of h).size) hs
sizes_of layout_of dl [] = refl
sizes_of layout_of dl (h ∷ hs) = ap (λ xs. (layout_of h).size ∷ xs) (sizes_of layout_of dl hs)

aligns_of : {F V H : Type 0} (layout_of : H → LayoutData F V) (dl : TargetDataLayout) (pack : Option ℕ) (hs : List H) → map (λ (p : Part). cut pack p.align) (parts_of dl (map layout_of hs)) ≡ map (λ h. cut pack (layout_of h).align.abi) hs
aligns_of layout_of dl pack [] = refl
aligns_of layout_of dl pack (h ∷ hs) = ap (λ xs. cut pack (layout_of h).align.abi ∷ xs) (aligns_of layout_of dl pack hs)

pub ordered_apart : {F V H : Type 0} (layout_of : H → LayoutData F V) (dl : TargetDataLayout) (repr : FieldsRepr) (hs : List H) (order offsets : List ℕ) (size align : ℕ) (niche : Option Niche)
    → IsInOrder dl repr (parts_of dl (map layout_of hs)) order offsets size align niche
    → AreApart size offsets (map (λ h. (layout_of h).size) hs)
ordered_apart layout_of dl repr hs order offsets size align niche b =
    subst (AreApart size offsets) (sizes_of layout_of dl hs)
    (parts_apart repr.pack (start_of repr.pack repr.kind) size (parts_of dl (map layout_of hs)) order offsets
    (ordered_lies dl repr (parts_of dl (map layout_of hs)) order offsets size align niche b) (ordered_up dl repr (parts_of dl (map layout_of hs)) order offsets size align niche b))

pub ordered_aligned : {F V H : Type 0} (layout_of : H → LayoutData F V) (dl : TargetDataLayout) (repr : FieldsRepr) (hs : List H) (order offsets : List ℕ) (size align : ℕ) (niche : Option Niche)
    → IsInOrder dl repr (parts_of dl (map layout_of hs)) order offsets size align niche
    → AreAligned offsets (map (λ h. cut repr.pack (layout_of h).align.abi) hs)
ordered_aligned layout_of dl repr hs order offsets size align niche b =
    subst (AreAligned offsets) (aligns_of layout_of dl repr.pack hs)
    (parts_aligned repr.pack (start_of repr.pack repr.kind) (parts_of dl (map layout_of hs)) order offsets (ordered_lies dl repr (parts_of dl (map layout_of hs)) order offsets size align niche b))

pub ordered_after : (dl : TargetDataLayout) (repr : FieldsRepr) (parts : List Part) (order offsets : List ℕ) (size align : ℕ) (niche : Option Niche)
    → IsInOrder dl repr parts order offsets size align niche → All (λ o. start_of repr.pack repr.kind ≤ o) offsets
ordered_after dl repr parts order offsets size align niche b =
    parts_after repr.pack (start_of repr.pack repr.kind) parts order offsets (ordered_lies dl repr parts order offsets size align niche b)

-- ---- the niche

pub ordered_inside : (dl : TargetDataLayout) (repr : FieldsRepr) (parts : List Part) (order offsets : List ℕ) (size align : ℕ) (niche : Option Niche) → All (IsLawfulPart dl) parts
    → IsInOrder dl repr parts order offsets size align niche → IfSome niche (IsLawfulNiche dl size)
ordered_inside dl repr parts order offsets size align niche law b =
    rw (b.placed.largest, b.placed.extent) (niche_inside b.bias dl repr parts order law (ordered_permutes dl repr parts order offsets size align niche b))

from_memory : (pack : Option ℕ) (from : ℕ) (parts : List Part) (order offsets : List ℕ) (n : Niche) → Lies pack from parts order offsets → IsNicheOfIndex (offsets_from pack from (in_order parts order)) (in_order parts order) n
    → IsNicheOfIndex offsets parts n
from_memory pack from parts order offsets n l h =
    let short : h.index < length order = omega (arith, length-in parts order, h.within) in
    record {
      index = get_or order h.index 0;
      within = within_order (length parts) order l.permutes h.index 0 short;
      own = rw (← offset_at pack from parts order offsets h.index (get_or order h.index 0) l short refl, ← part_in parts order h.index (get_or order h.index 0) short refl) h.own;
    }

pub ordered_index : (dl : TargetDataLayout) (repr : FieldsRepr) (parts : List Part) (order offsets : List ℕ) (size align : ℕ) (niche : Option Niche)
    → IsInOrder dl repr parts order offsets size align niche → IfSome niche (IsNicheOfIndex offsets parts)
ordered_index dl repr parts order offsets size align niche b =
    rw b.placed.largest (weaken_niche (IsNicheOfIndex (offsets_from repr.pack (start_of repr.pack repr.kind) (in_order parts order)) (in_order parts order)) (IsNicheOfIndex offsets parts) (niche_in dl repr b.bias parts order)
    (λ n h. from_memory repr.pack (start_of repr.pack repr.kind) parts order offsets n (ordered_lies dl repr parts order offsets size align niche b) h)
    (greatest_of_index b.bias dl (offsets_from repr.pack (start_of repr.pack repr.kind) (in_order parts order)) (in_order parts order)))

pub ordered_of_part : {F V H : Type 0} (layout_of : H → LayoutData F V) (dl : TargetDataLayout) (repr : FieldsRepr) (hs : List H) (order offsets : List ℕ) (size align : ℕ) (niche : Option Niche)
    → IsInOrder dl repr (parts_of dl (map layout_of hs)) order offsets size align niche
    → IfSome niche (IsNicheOfPart offsets (map layout_of hs))
ordered_of_part layout_of dl repr hs order offsets size align niche b =
    weaken_niche (IsNicheOfIndex offsets (parts_of dl (map layout_of hs))) (IsNicheOfPart offsets (map layout_of hs)) niche
    (λ n h. of_part layout_of dl offsets hs n h.index (b.placed.count ∙ length-parts layout_of dl hs) (omega (arith, h.within, length-parts layout_of dl hs)) h.own)
    (ordered_index dl repr (parts_of dl (map layout_of hs)) order offsets size align niche b)

pub ordered_largest : {F V H : Type 0} (layout_of : H → LayoutData F V) (dl : TargetDataLayout) (repr : FieldsRepr) (hs : List H) (order offsets : List ℕ) (size align : ℕ) (niche : Option Niche)
    → All (λ h. IsLawfulLayout dl (layout_of h)) hs → IsInOrder dl repr (parts_of dl (map layout_of hs)) order offsets size align niche
    → HasLargestNiche dl niche (map layout_of hs)
ordered_largest layout_of dl repr hs order offsets size align niche law b =
    let parts = parts_of dl (map layout_of hs) in
    let from = start_of repr.pack repr.kind in
    let p = ordered_permutes dl repr (parts_of dl (map layout_of hs)) order offsets size align niche b in
    let many : length (offsets_from repr.pack (start_of repr.pack repr.kind) (in_order (parts_of dl (map layout_of hs)) order)) ≡ length (in_order (parts_of dl (map layout_of hs)) order)
    = length-offsets repr.pack (start_of repr.pack repr.kind) (in_order (parts_of dl (map layout_of hs)) order) in
    let own : IfSome (niche_in dl repr b.bias (parts_of dl (map layout_of hs)) order) (IsNicheOfPart offsets (map layout_of hs))
    = subst (λ n. IfSome n (IsNicheOfPart offsets (map layout_of hs))) b.placed.largest (ordered_of_part layout_of dl repr hs order offsets size align niche b) in
    rw b.placed.largest (largest_of_parts layout_of dl (niche_in dl repr b.bias (parts_of dl (map layout_of hs)) order) hs offsets law own
    (All-permutation (λ p. IsBelow dl p.largest_niche (niche_in dl repr b.bias (parts_of dl (map layout_of hs)) order)) (in_order (parts_of dl (map layout_of hs)) order) (parts_of dl (map layout_of hs))
    (IsPermutation-sym (parts_of dl (map layout_of hs)) (in_order (parts_of dl (map layout_of hs)) order) (in_order-permutation (parts_of dl (map layout_of hs)) order p))
    (greatest_below b.bias dl (offsets_from repr.pack (start_of repr.pack repr.kind) (in_order (parts_of dl (map layout_of hs)) order)) (in_order (parts_of dl (map layout_of hs)) order) many)))
