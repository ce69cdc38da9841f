-- Lists in an order that is handed in.
use Rattle.std.proofs.Common.{◌≡◌, ℕ, ◌+◌, ◌≤◌, List, Some, inl, inr, length, map, sym, ap, ap₂, subst, ◌∙◌, arith}
use Rattle.std.specs.Prelude.{◌⊎◌, All, Err, IfErr, IfOk, IfSome, IsPermutation, Ok, Result}
use Rattle.std.proofs.lemmas.List.{length-map}
use Rattle.abi_base.specs.declared.data_layout.TargetDataLayout.{TargetDataLayout}
use Rattle.abi_base.specs.declared.struct_kind.StructKind.{StructKind}
use Rattle.abi_base.specs.DataLayout.{size_bound}
use Rattle.abi_scalar.specs.declared.error.LayoutCalculatorError.{LayoutCalculatorError}
use Rattle.abi_scalar.specs.declared.error.LayoutCalculatorError.TheVariants.{BadOrder, OutOfMemory as NoMemory, SizeOverflow, UnexpectedUnsized}
use Rattle.abi_scalar.specs.declared.fields_shape.FieldsShape.TheVariants.{Arbitrary}
use Rattle.abi_scalar.specs.declared.layout_data.LayoutData.{LayoutData}
use Rattle.abi_scalar.specs.declared.repr.ReprOptions.{ReprOptions}
use Rattle.abi_scalar.specs.Lawful.{IsLawfulLayout}
use Rattle.abi_scalar.specs.Order.{HasPlaceForEach, IsAscending}
use Rattle.abi_scalar.specs.Shape.{listed_offsets}
use Rattle.abi_univariant.specs.declared.fields_repr.FieldsRepr.{FieldsRepr}
use Rattle.abi_univariant.specs.declared.order.NicheBias.TheVariants.{Start}
use Rattle.abi_univariant.specs.declared.part.Part.{Part}
use Rattle.abi_univariant.specs.declared.placing.FieldsFault.{FieldsFault}
use Rattle.abi_univariant.specs.declared.placing.FieldsFault.TheVariants.{Unsized, TooLarge, OutOfMemory}
use Rattle.abi_univariant.specs.Answer.{IsAnswer}
use Rattle.abi_univariant.specs.Apart.{AreAligned, AreApart}
use Rattle.abi_univariant.specs.Fault.{IsErrorOf, IsFaultIndex, fault_in}
use Rattle.abi_univariant.specs.InOrder.{IsOrderedAnswer, IsOrderedError, IsOrderedLayout}
use Rattle.abi_univariant.specs.Least.{IsOrderOf, IsPlacedBy, LiesInOrder, size_by}
use Rattle.abi_univariant.specs.List.{AreSized}
use Rattle.abi_univariant.specs.ListNiche.{HasLargestNiche, IsNicheOfPart}
use Rattle.abi_univariant.specs.Part.{parts_of}
use Rattle.abi_univariant.specs.Placement.{IsAllowed, cut, fields_repr, source_order, start_of}
use Rattle.abi_univariant.specs.Run.{IsInOrder}
use Rattle.abi_univariant.proofs.Offsets.ByNumber.{named_again}
use Rattle.abi_univariant.proofs.Promised.DeepLemmas.{sized_cases}
use Rattle.abi_univariant.proofs.Placed.FaultLemmas.{clear_of, large_in}
use Rattle.abi_univariant.proofs.Sorted.Least.{allowed_permutes}
use Rattle.abi_univariant.proofs.Promised.LeastLemmas.{many}
use Rattle.abi_univariant.proofs.Layouts.ListLemmas.{error_answer, error_large, fault_index, memory_error, memory_index}
use Rattle.abi_univariant.proofs.Sorted.MemoryOrder.{ascending_listed, places_listed}
use Rattle.abi_univariant.proofs.Promised.OrderedLemmas.{ordered_after, ordered_aligned, ordered_apart, ordered_largest, ordered_lies, ordered_of_part, ordered_permutes}
use Rattle.abi_univariant.proofs.Sorted.Sorting.{within_order}

-- the field that a fault names is there
pub fault_placed : (repr : FieldsRepr) (dl : TargetDataLayout) (parts : List Part) (order : List ℕ) (fault : FieldsFault) → IsPermutation (source_order (length parts)) order
    → (fault_in repr (size_bound dl) parts order ≡ Some fault) ⊎ (fault ≡ OutOfMemory) → IsFaultIndex (length parts) fault
fault_placed repr dl parts order fault p (inl e) = fault_index repr dl parts order fault e (within_order (length parts) order p)
fault_placed repr dl parts order fault p (inr m) = memory_index (length parts) fault m

-- the error of a list that was placed in an allowed order
pub error_in_order : {F V H : Type 0} (layout_of : H → LayoutData F V) (dl : TargetDataLayout) (repr : ReprOptions) (kind : StructKind) (list : FieldsRepr) (order : List ℕ) (fields : List H) (parts : List Part)
    (fault : FieldsFault) (error : LayoutCalculatorError H) → parts ≡ parts_of dl (map layout_of fields) → IsAllowed list (length fields) order
    → (fault_in list (size_bound dl) parts order ≡ Some fault) ⊎ (fault ≡ OutOfMemory) → IsErrorOf fields fault error → list ≡ fields_repr dl repr kind
    → IsOrderedError layout_of dl repr kind order fields error ⊎ (error ≡ NoMemory)
error_in_order layout_of dl repr kind list order fields parts fault error read allowed (inl f) h e =
    inl (inr (
      subst (λ (r : FieldsRepr). IsAllowed r (length fields) order) e allowed,
      fault,
      subst (λ (r : FieldsRepr). fault_in r (size_bound dl) (parts_of dl (map layout_of fields)) order ≡ Some fault) e
          (subst (λ (ps : List Part). fault_in list (size_bound dl) ps order ≡ Some fault) read f),
      h,
    ))
error_in_order layout_of dl repr kind list order fields parts fault error read allowed (inr m) h e = inr (memory_error fields fault error h m)

-- a list's fault is no fault of its order
never_bad : {H : Type 0} (fields : List H) (fault : FieldsFault) (error : LayoutCalculatorError H) → IsErrorOf fields fault error → error ≡ BadOrder → ⊥
never_bad fields (Unsized i) error h is = let other : error ≡ UnexpectedUnsized h.0 = h.2 in absurd (cc)
never_bad fields TooLarge error h is = absurd (cc)
never_bad fields OutOfMemory error h is = absurd (cc)

module _ {F V H : Type 0} (layout_of : H → LayoutData F V) (at : ℕ → F) (first : V) (dl : TargetDataLayout) (repr : ReprOptions) (kind : StructKind) (order : List ℕ) (hs : List H) where
  -- what holds of each layout in this order holds of the answer
  pub handed_ok : (P : LayoutData F V → Type 0) → ((offsets : List ℕ) (l : LayoutData F V) → IsOrderedLayout at first dl repr kind (map layout_of hs) order offsets l → P l)
      → (result : Result (LayoutData F V) (LayoutCalculatorError H)) → IsOrderedAnswer layout_of at first dl repr kind order hs result → IfOk result P
  handed_ok P each (Ok l) a = each a.0 l a.1
  handed_ok P each (Err e) a = tt

  as_many : length (parts_of dl (map layout_of hs)) ≡ length (map layout_of hs)
  as_many = many layout_of at first dl repr kind hs

  -- the list lies in the order
  pub handed : (offsets : List ℕ) (l : LayoutData F V) → IsOrderedLayout at first dl repr kind (map layout_of hs) order offsets l
      → IsInOrder dl (fields_repr dl repr kind) (parts_of dl (map layout_of hs)) order offsets l.size l.align.abi l.largest_niche
  handed offsets l r = record { allowed = subst (λ (n : ℕ). IsAllowed (fields_repr dl repr kind) n order) (sym as_many) r.named.0; bias = Start; placed = r.named.1 }

  pub handed_placed : (offsets : List ℕ) (l : LayoutData F V) → IsOrderedLayout at first dl repr kind (map layout_of hs) order offsets l
      → IsPlacedBy dl repr kind (map layout_of hs) order (listed_offsets l.fields) l.size l.align.abi
  handed_placed offsets l r =
      subst (λ (os : List ℕ). IsPlacedBy dl repr kind (map layout_of hs) order os l.size l.align.abi) (sym (ap listed_offsets r.shape))
      (record { allowed = r.named.0; count = r.named.1.count ∙ as_many; places = r.named.1.places; extent = r.named.1.extent; alignment = r.named.1.alignment })

  -- its fields share no byte, and lie inside
  pub handed_apart : (offsets : List ℕ) (l : LayoutData F V) → IsOrderedLayout at first dl repr kind (map layout_of hs) order offsets l → AreApart l.size (listed_offsets l.fields) (map (λ h. (layout_of h).size) hs)
  handed_apart offsets l r = rw r.shape (ordered_apart layout_of dl (fields_repr dl repr kind) hs order offsets l.size l.align.abi l.largest_niche (handed offsets l r))

  -- behind the prefix
  pub handed_after : (offsets : List ℕ) (l : LayoutData F V) → IsOrderedLayout at first dl repr kind (map layout_of hs) order offsets l → All (λ o. start_of repr.pack kind ≤ o) (listed_offsets l.fields)
  handed_after offsets l r = rw r.shape (ordered_after dl (fields_repr dl repr kind) (parts_of dl (map layout_of hs)) order offsets l.size l.align.abi l.largest_niche (handed offsets l r))

  -- each at a multiple of its alignment
  pub handed_aligned : (offsets : List ℕ) (l : LayoutData F V) → IsOrderedLayout at first dl repr kind (map layout_of hs) order offsets l
      → AreAligned (listed_offsets l.fields) (map (λ h. cut repr.pack (layout_of h).align.abi) hs)
  handed_aligned offsets l r = rw r.shape (ordered_aligned layout_of dl (fields_repr dl repr kind) hs order offsets l.size l.align.abi l.largest_niche (handed offsets l r))

  -- its niche is that of a field
  pub handed_niche : (offsets : List ℕ) (l : LayoutData F V) → IsOrderedLayout at first dl repr kind (map layout_of hs) order offsets l
      → IfSome l.largest_niche (IsNicheOfPart (listed_offsets l.fields) (map layout_of hs))
  handed_niche offsets l r = rw r.shape (ordered_of_part layout_of dl (fields_repr dl repr kind) hs order offsets l.size l.align.abi l.largest_niche (handed offsets l r))

  -- and no field's is greater
  pub handed_largest : (offsets : List ℕ) (l : LayoutData F V) → All (λ h. IsLawfulLayout dl (layout_of h)) hs → IsOrderedLayout at first dl repr kind (map layout_of hs) order offsets l
      → HasLargestNiche dl l.largest_niche (map layout_of hs)
  handed_largest offsets l law r = ordered_largest layout_of dl (fields_repr dl repr kind) hs order offsets l.size l.align.abi l.largest_niche law (handed offsets l r)

  -- its memory order has a place for each field
  pub handed_places : (offsets : List ℕ) (l : LayoutData F V) → IsOrderedLayout at first dl repr kind (map layout_of hs) order offsets l → HasPlaceForEach l.fields
  handed_places offsets l r =
      let b = handed offsets l r in
      rw r.shape (places_listed at (length (parts_of dl (map layout_of hs))) order offsets b.placed.count
      (ordered_permutes dl (fields_repr dl repr kind) (parts_of dl (map layout_of hs)) order offsets l.size l.align.abi l.largest_niche b))

  -- and never steps back
  pub handed_ascends : (number : F → ℕ) (most : ℕ) → ((i : ℕ) → i ≤ most → number (at i) ≡ i) → length hs ≤ most + 1 → (offsets : List ℕ) (l : LayoutData F V)
      → IsOrderedLayout at first dl repr kind (map layout_of hs) order offsets l → IsAscending number l.fields
  handed_ascends number most law small offsets l r =
      let all : length (parts_of dl (map layout_of hs)) ≡ length hs = as_many ∙ length-map hs layout_of in
      rw r.shape (ascending_listed at number most law (start_of repr.pack kind) repr.pack (parts_of dl (map layout_of hs)) order offsets (omega (arith, all, small))
      (ordered_lies dl (fields_repr dl repr kind) (parts_of dl (map layout_of hs)) order offsets l.size l.align.abi l.largest_niche (handed offsets l r)))

  -- ---- refusals

  pub handed_bad : (result : Result (LayoutData F V) (LayoutCalculatorError H)) → IsOrderedAnswer layout_of at first dl repr kind order hs result → result ≡ Err BadOrder
      → IsOrderOf dl repr kind (length hs) order → ⊥
  handed_bad (Ok l) a is allowed = absurd (cc)
  handed_bad (Err e) (inl (inl r)) is allowed = r.0 allowed
  handed_bad (Err e) (inl (inr r)) is allowed = never_bad hs r.1 e r.3 (cc)
  handed_bad (Err e) (inr m) is allowed = absurd (cc)

  pub handed_told : (result : Result (LayoutData F V) (LayoutCalculatorError H)) → IsOrderedAnswer layout_of at first dl repr kind order hs result → (IsOrderOf dl repr kind (length hs) order → ⊥)
      → IsAnswer (Err BadOrder) result
  handed_told (Ok l) a never = absurd (never (subst (λ (n : ℕ). IsOrderOf dl repr kind n order) (length-map hs layout_of) a.1.named.0))
  handed_told (Err e) (inl (inl r)) never = inl (ap (λ x. Err x) r.1)
  handed_told (Err e) (inl (inr r)) never = absurd (never r.0)
  handed_told (Err e) (inr m) never = inr (ap (λ x. Err x) m)

  -- the list is refused for its size where it is too large in this order
  pub handed_large : (result : Result (LayoutData F V) (LayoutCalculatorError H)) → IsOrderedAnswer layout_of at first dl repr kind order hs result → result ≡ Err SizeOverflow
      → size_bound dl ≤ size_by dl repr kind (map layout_of hs) order
  handed_large (Ok l) a is = absurd (cc)
  handed_large (Err e) (inl (inl r)) is = let bad : e ≡ BadOrder = r.1 in absurd (cc)
  handed_large (Err e) (inl (inr r)) is =
      large_in (fields_repr dl repr kind) (size_bound dl) (parts_of dl (map layout_of hs)) order (r.2 ∙ ap (λ f. Some f) (error_large hs r.1 e r.3 (cc)))
  handed_large (Err e) (inr m) is = absurd (cc)

  sized_answer : (e : LayoutCalculatorError H) → AreSized (map layout_of hs) → IsOrderOf dl repr kind (length hs) order
      → IsOrderedError layout_of dl repr kind order hs e → IsAnswer {A = LayoutData F V} (Err SizeOverflow) (Err e)
  sized_answer e sized allowed (inl r) = absurd (r.0 allowed)
  sized_answer e sized allowed (inr r) =
      let all : length (parts_of dl (map layout_of hs)) ≡ length hs = as_many ∙ length-map hs layout_of in
      let p = subst (λ (n : ℕ). IsPermutation (source_order n) order) (sym all) (allowed_permutes (fields_repr dl repr kind) (length hs) order allowed) in
      error_answer hs r.1 e (inl (sized_cases layout_of dl (fields_repr dl repr kind) hs order r.1 sized (within_order (length (parts_of dl (map layout_of hs))) order p) r.2)) r.3

  -- and sized fields always there
  pub handed_refused : (result : Result (LayoutData F V) (LayoutCalculatorError H)) → IsOrderedAnswer layout_of at first dl repr kind order hs result → AreSized (map layout_of hs)
      → IsOrderOf dl repr kind (length hs) order → size_bound dl ≤ size_by dl repr kind (map layout_of hs) order → IsAnswer (Err SizeOverflow) result
  handed_refused (Ok l) a sized allowed large =
      let under = (clear_of (fields_repr dl repr kind) (size_bound dl) (parts_of dl (map layout_of hs)) order a.1.named.1.faultless).1 in
      absurd (omega (arith, under, large))
  handed_refused (Err e) (inl r) sized allowed large = sized_answer e sized allowed r
  handed_refused (Err e) (inr m) sized allowed large = inr (ap (λ x. Err x) m)

  one_error : (e : LayoutCalculatorError H) → IsAnswer {A = LayoutData F V} (Err SizeOverflow) (Err e) → (e ≡ SizeOverflow) ⊎ (e ≡ NoMemory)
  one_error e (inl is) = inl (cc)
  one_error e (inr is) = inr (cc)

  -- and by no other name
  pub handed_no_other : (result : Result (LayoutData F V) (LayoutCalculatorError H)) → IsOrderedAnswer layout_of at first dl repr kind order hs result → AreSized (map layout_of hs)
      → IsOrderOf dl repr kind (length hs) order → IfErr result (λ e. (e ≡ SizeOverflow) ⊎ (e ≡ NoMemory))
  handed_no_other (Ok l) a sized allowed = tt
  handed_no_other (Err e) (inl r) sized allowed = one_error e (sized_answer e sized allowed r)
  handed_no_other (Err e) (inr m) sized allowed = inr m

-- ---- the order by the fields' indices

module _ {F V H : Type 0} (layout_of : H → LayoutData F V) (at : ℕ → F) (number : F → ℕ) (first : V) (dl : TargetDataLayout) (repr : ReprOptions) (kind : StructKind) (order : List F) (hs : List H) where
  -- the memory order is the one that was handed in
  pub handed_lies : (most : ℕ) → ((x : F) → number x ≤ most → at (number x) ≡ x) → length hs ≤ most + 1 → (offsets : List ℕ) (l : LayoutData F V)
      → IsOrderedLayout at first dl repr kind (map layout_of hs) (map number order) offsets l → LiesInOrder number dl repr kind (map layout_of hs) order l
  handed_lies most law small offsets l r =
      let all : length (map layout_of hs) ≡ length hs = length-map hs layout_of in
      let p = allowed_permutes (fields_repr dl repr kind) (length (map layout_of hs)) (map number order) r.named.0 in
      let within : All (λ i. i ≤ most) (map number order) = λ k d lt. omega (arith, within_order (length (map layout_of hs)) (map number order) p k d lt, all, small) in
      let own : listed_offsets l.fields ≡ offsets = ap listed_offsets r.shape in (
        r.shape ∙ ap₂ (λ os is. Arbitrary os is) (sym own) (named_again at number most law order within),
        handed_placed layout_of at first dl repr kind (map number order) hs offsets l r,
      )
