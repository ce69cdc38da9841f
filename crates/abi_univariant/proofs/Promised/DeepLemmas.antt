-- What is promised of a list, from the run that laid it out.
use Rattle.std.proofs.Common.{◌≡◌, ℕ, zero, suc, ◌<◌, ◌≤◌, true, false, List, [], ◌∷◌, Option, Some, inl, inr, length, map, get_or, refl, sym, ap, ◌∙◌, arith}
use Rattle.std.specs.Prelude.{◌⊎◌, All, IfSome, IsTrue}
use Rattle.std.proofs.lemmas.List.Elements.{All-head, All-tail}
use Rattle.abi_base.specs.declared.data_layout.TargetDataLayout.{TargetDataLayout}
use Rattle.abi_base.specs.DataLayout.{size_bound}
use Rattle.abi_scalar.specs.declared.layout_data.LayoutData.{LayoutData}
use Rattle.abi_scalar.specs.declared.niche.Niche.{Niche}
use Rattle.abi_scalar.specs.Lawful.{IsLawfulNiche}
use Rattle.abi_univariant.specs.declared.part.Part.{Part}
use Rattle.abi_univariant.specs.declared.fields_repr.FieldsRepr.{FieldsRepr}
use Rattle.abi_univariant.specs.declared.order.NicheBias.TheVariants.{Start}
use Rattle.abi_univariant.specs.declared.placing.FieldsFault.{FieldsFault}
use Rattle.abi_univariant.specs.declared.placing.FieldsFault.TheVariants.{Unsized, TooLarge, OutOfMemory}
use Rattle.abi_univariant.specs.Fault.{fault_in}
use Rattle.abi_univariant.specs.List.{AreSized}
use Rattle.abi_univariant.specs.Part.{is_unsized, parts_of}
use Rattle.abi_univariant.specs.LawfulPart.{IsLawfulPart}
use Rattle.abi_univariant.specs.Placement.{IsAllowed, IsNonEmptyIfUnsized, IsSized, no_part, size_in, sum_rounded}
use Rattle.abi_univariant.specs.Run.{IsFaultOf, IsInOrder}
use Rattle.abi_univariant.proofs.Placed.FaultLemmas.{clear_of, large_in, memory_in, unsized_in}
use Rattle.abi_univariant.proofs.Sorted.Least.{all_too_large, allowed_permutes, named_allowed, named_least, named_tight}
use Rattle.abi_univariant.proofs.Layouts.ListLemmas.{length-parts}
use Rattle.abi_univariant.proofs.Views.NicheLemmas.{IsNicheOfIndex}
use Rattle.abi_univariant.proofs.Promised.OrderedLemmas.{ordered_index, ordered_inside}
use Rattle.abi_univariant.proofs.Placed.RunLemmas.{IsBiased, aligned_parts}
use Rattle.abi_univariant.proofs.Sorted.Sorting.{within_order}

-- an order that is named for a bias is allowed
pub in_order_of : (dl : TargetDataLayout) (repr : FieldsRepr) (parts : List Part) (order offsets : List ℕ) (size align : ℕ) (niche : Option Niche) → IsNonEmptyIfUnsized repr.kind (length parts)
    → IsBiased dl repr parts order offsets size align niche → IsInOrder dl repr parts order offsets size align niche
in_order_of dl repr parts order offsets size align niche tail b = record { allowed = named_allowed repr b.bias parts order tail b.named; bias = b.bias; placed = b.placed }

pub biased_least : (dl : TargetDataLayout) (repr : FieldsRepr) (parts : List Part) (order offsets : List ℕ) (size align : ℕ) (niche : Option Niche) (other : List ℕ) → All (IsLawfulPart dl) parts
    → IsNonEmptyIfUnsized repr.kind (length parts) → IsBiased dl repr parts order offsets size align niche → IsAllowed repr (length parts) other → size ≤ size_in repr parts other
biased_least dl repr parts order offsets size align niche other law tail b q =
    rw b.placed.extent (named_least repr b.bias parts order other (aligned_parts dl parts law) tail b.named q)

pub biased_sum : (dl : TargetDataLayout) (repr : FieldsRepr) (parts : List Part) (order offsets : List ℕ) (size align : ℕ) (niche : Option Niche) → All (IsLawfulPart dl) parts
    → IsTrue repr.reorderable → IsSized repr.kind → IsBiased dl repr parts order offsets size align niche → size ≡ sum_rounded repr parts
biased_sum dl repr parts order offsets size align niche law free sized b = b.placed.extent ∙ named_tight repr b.bias parts order (aligned_parts dl parts law) free sized b.named

-- ---- the niche

pub biased_inside : (dl : TargetDataLayout) (repr : FieldsRepr) (parts : List Part) (order offsets : List ℕ) (size align : ℕ) (niche : Option Niche) → All (IsLawfulPart dl) parts
    → IsNonEmptyIfUnsized repr.kind (length parts) → IsBiased dl repr parts order offsets size align niche → IfSome niche (IsLawfulNiche dl size)
biased_inside dl repr parts order offsets size align niche law tail b =
    ordered_inside dl repr parts order offsets size align niche law (in_order_of dl repr parts order offsets size align niche tail b)

pub biased_index : (dl : TargetDataLayout) (repr : FieldsRepr) (parts : List Part) (order offsets : List ℕ) (size align : ℕ) (niche : Option Niche)
    → IsNonEmptyIfUnsized repr.kind (length parts) → IsBiased dl repr parts order offsets size align niche → IfSome niche (IsNicheOfIndex offsets parts)
biased_index dl repr parts order offsets size align niche tail b =
    ordered_index dl repr parts order offsets size align niche (in_order_of dl repr parts order offsets size align niche tail b)

-- ---- the refusal

-- a list that is refused for its size is too large in each order
pub fault_large_all : (dl : TargetDataLayout) (repr : FieldsRepr) (parts : List Part) (fault : FieldsFault) → All (IsLawfulPart dl) parts → IsNonEmptyIfUnsized repr.kind (length parts)
    → IsFaultOf dl repr Start parts fault → fault ≡ TooLarge → (other : List ℕ) → IsAllowed repr (length parts) other → size_bound dl ≤ size_in repr parts other
fault_large_all dl repr parts fault law tail (inl f) is other q =
    all_too_large repr Start parts f.0 (size_bound dl) (aligned_parts dl parts law) tail f.1 (large_in repr (size_bound dl) parts f.0 (f.2 ∙ ap (λ x. Some x) is)) other q
fault_large_all dl repr parts fault law tail (inr e) is other q = cc

sized_at : {F V H : Type 0} (layout_of : H → LayoutData F V) (dl : TargetDataLayout) (hs : List H) (i : ℕ) → AreSized (map layout_of hs) → i < length hs
    → is_unsized (get_or (parts_of dl (map layout_of hs)) i no_part).view ≡ false
sized_at layout_of dl [] i sized short = absurd (omega arith)
sized_at layout_of dl (h ∷ hs) zero sized short = All-head (λ f. is_unsized f.backend_repr ≡ false) (layout_of h) (map layout_of hs) sized
sized_at layout_of dl (h ∷ hs) (suc i) sized short = sized_at layout_of dl hs i (All-tail (λ f. is_unsized f.backend_repr ≡ false) (layout_of h) (map layout_of hs) sized) (omega arith)

-- fields that are sized have no fault but their size
pub sized_cases : {F V H : Type 0} (layout_of : H → LayoutData F V) (dl : TargetDataLayout) (repr : FieldsRepr) (hs : List H) (order : List ℕ) (fault : FieldsFault) → AreSized (map layout_of hs)
    → All (λ i. i < length (parts_of dl (map layout_of hs))) order → fault_in repr (size_bound dl) (parts_of dl (map layout_of hs)) order ≡ Some fault → fault ≡ TooLarge
sized_cases layout_of dl repr hs order (Unsized i) sized within e =
    let u = unsized_in repr (size_bound dl) (parts_of dl (map layout_of hs)) order (λ i. i < length (parts_of dl (map layout_of hs))) i e within in
    let s = sized_at layout_of dl hs i sized (omega (arith, u.0, length-parts layout_of dl hs)) in
    let bad : true ≡ false = sym u.1 ∙ s in
    cc
sized_cases layout_of dl repr hs order TooLarge sized within e = refl
sized_cases layout_of dl repr hs order OutOfMemory sized within e = absurd (memory_in repr (size_bound dl) (parts_of dl (map layout_of hs)) order e)

-- in an allowed order sized fields have no other fault than the size
pub sized_in_order : {F V H : Type 0} (layout_of : H → LayoutData F V) (dl : TargetDataLayout) (repr : FieldsRepr) (hs : List H) (order : List ℕ) (fault : FieldsFault) → AreSized (map layout_of hs)
    → IsAllowed repr (length (parts_of dl (map layout_of hs))) order → fault_in repr (size_bound dl) (parts_of dl (map layout_of hs)) order ≡ Some fault → fault ≡ TooLarge
sized_in_order layout_of dl repr hs order fault sized allowed e =
    let count = length (parts_of dl (map layout_of hs)) in
    sized_cases layout_of dl repr hs order fault sized (within_order count order (allowed_permutes repr count order allowed)) e

-- a list of sized fields is refused for its size, or for that memory ran out
pub sized_fault : {F V H : Type 0} (layout_of : H → LayoutData F V) (dl : TargetDataLayout) (repr : FieldsRepr) (hs : List H) (fault : FieldsFault) → AreSized (map layout_of hs)
    → IsNonEmptyIfUnsized repr.kind (length (parts_of dl (map layout_of hs))) → IsFaultOf dl repr Start (parts_of dl (map layout_of hs)) fault → (fault ≡ TooLarge) ⊎ (fault ≡ OutOfMemory)
sized_fault layout_of dl repr hs fault sized tail (inl f) =
    inl (sized_in_order layout_of dl repr hs f.0 fault sized (named_allowed repr Start (parts_of dl (map layout_of hs)) f.0 tail f.1) f.2)
sized_fault layout_of dl repr hs fault sized tail (inr e) = inr e

-- what is laid out has an order that is not too large
pub biased_fits : (dl : TargetDataLayout) (repr : FieldsRepr) (parts : List Part) (order offsets : List ℕ) (size align : ℕ) (niche : Option Niche)
    → IsNonEmptyIfUnsized repr.kind (length parts) → IsBiased dl repr parts order offsets size align niche
    → ((other : List ℕ) → IsAllowed repr (length parts) other → size_bound dl ≤ size_in repr parts other) → ⊥
biased_fits dl repr parts order offsets size align niche tail b all =
    let over = all order (named_allowed repr b.bias parts order tail b.named) in
    let under = (clear_of repr (size_bound dl) parts order b.placed.faultless).1 in
    omega arith
