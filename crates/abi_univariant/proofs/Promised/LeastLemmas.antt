-- What is promised of a list, from the answer that the rules give it.
use Rattle.std.proofs.Common.{◌≡◌, ℕ, ◌+◌, ◌≤◌, List, None, Some, Ok, Err, inl, inr, length, map, sym, ap, subst, ◌∙◌, arith}
use Rattle.std.specs.Prelude.{◌⊎◌, All, IfErr, IfOk, IfSome, IsTrue, Result}
use Rattle.std.proofs.lemmas.List.{length-map}
use Rattle.abi_base.specs.declared.data_layout.TargetDataLayout.{TargetDataLayout}
use Rattle.abi_base.specs.declared.struct_kind.StructKind.{StructKind}
use Rattle.abi_base.specs.DataLayout.{size_bound}
use Rattle.abi_scalar.specs.declared.error.LayoutCalculatorError.{LayoutCalculatorError}
use Rattle.abi_scalar.specs.declared.error.LayoutCalculatorError.TheVariants.{OutOfMemory, SizeOverflow}
use Rattle.abi_scalar.specs.declared.fields_shape.FieldsShape.TheVariants.{Arbitrary}
use Rattle.abi_scalar.specs.declared.layout_data.LayoutData.{LayoutData}
use Rattle.abi_scalar.specs.declared.repr.ReprOptions.{ReprOptions}
use Rattle.abi_scalar.specs.Lawful.{IsLawfulLayout}
use Rattle.abi_scalar.specs.Order.{HasPlaceForEach, IsAscending}
use Rattle.abi_scalar.specs.Shape.{listed_offsets}
use Rattle.abi_univariant.specs.declared.order.NicheBias.TheVariants.{Start}
use Rattle.abi_univariant.specs.Answer.{IsAnswer}
use Rattle.abi_univariant.specs.Apart.{AreAligned, AreApart}
use Rattle.abi_univariant.specs.Fault.{fault_in}
use Rattle.abi_univariant.specs.Least.{IsEachOrderTooLarge, IsLeastSize, IsOrderOf, IsPlacedBy, LiesInSomeOrder}
use Rattle.abi_univariant.specs.List.{AreSized, IsFirstFaultless, IsUnivariantAnswer, IsUnivariantError, IsUnivariantLayout}
use Rattle.abi_univariant.specs.ListNiche.{HasLargestNiche, IsNicheOfPart}
use Rattle.abi_univariant.specs.Part.{part_of, parts_of}
use Rattle.abi_univariant.specs.Placement.{IsAllowed, IsNonEmptyIfUnsized, IsSized, cut, fields_repr, start_of, sum_rounded}
use Rattle.abi_univariant.specs.Run.{IsFaultOf, IsInOrder}
use Rattle.abi_univariant.proofs.Promised.DeepLemmas.{biased_fits, biased_least, biased_sum, fault_large_all, in_order_of, sized_fault}
use Rattle.abi_univariant.proofs.Layouts.ListLemmas.{error_answer, error_large, parts_lawful}
use Rattle.abi_univariant.proofs.Sorted.MemoryOrder.{ascending_listed, places_listed}
use Rattle.abi_univariant.proofs.Layouts.OneOrder.{one_named}
use Rattle.abi_univariant.proofs.Promised.OrderedLemmas.{ordered_after, ordered_aligned, ordered_apart, ordered_largest, ordered_lies, ordered_of_part, ordered_permutes}
use Rattle.abi_univariant.proofs.Placed.RunLemmas.{IsBiased, biased_of}

module _ {F V H : Type 0} (layout_of : H → LayoutData F V) (at : ℕ → F) (first : V) (dl : TargetDataLayout) (repr : ReprOptions) (kind : StructKind) (hs : List H) where
  -- what holds of each layout that the rules give holds of the answer
  pub listed_ok : (P : LayoutData F V → Type 0) → ((order offsets : List ℕ) (l : LayoutData F V) → IsUnivariantLayout at first dl repr kind (map layout_of hs) order offsets l → P l)
      → (result : Result (LayoutData F V) (LayoutCalculatorError H)) → IsUnivariantAnswer layout_of at first dl repr kind hs result → IfOk result P
  listed_ok P each (Ok l) a = each a.0 a.1 l a.2
  listed_ok P each (Err e) a = tt

  -- and what holds of each refusal
  pub listed_err : (P : LayoutCalculatorError H → Type 0) → ((e : LayoutCalculatorError H) → IsUnivariantError layout_of dl repr kind hs e → P e) → P OutOfMemory
      → (result : Result (LayoutData F V) (LayoutCalculatorError H)) → IsUnivariantAnswer layout_of at first dl repr kind hs result → IfErr result P
  listed_err P each memory (Ok l) a = tt
  listed_err P each memory (Err e) (inl r) = each e r
  listed_err P each memory (Err e) (inr is) = subst P (sym is) memory

  -- as many parts as fields
  pub many : length (parts_of dl (map layout_of hs)) ≡ length (map layout_of hs)
  many = length-map (map layout_of hs) (λ f. part_of dl f)

  tailed : IsNonEmptyIfUnsized kind (length hs) → IsNonEmptyIfUnsized kind (length (parts_of dl (map layout_of hs)))
  tailed tail = subst (IsNonEmptyIfUnsized kind) (sym (many ∙ length-map hs layout_of)) tail

  pub niche_by_bias : (order offsets : List ℕ) (l : LayoutData F V) → IsUnivariantLayout at first dl repr kind (map layout_of hs) order offsets l
      → IsBiased dl (fields_repr dl repr kind) (parts_of dl (map layout_of hs)) order offsets l.size l.align.abi l.largest_niche
  niche_by_bias order offsets l r = biased_of dl (fields_repr dl repr kind) (parts_of dl (map layout_of hs)) order offsets l.size l.align.abi l.largest_niche r.named

  -- its order is allowed
  pub laid : (order offsets : List ℕ) (l : LayoutData F V) → IsNonEmptyIfUnsized kind (length hs) → IsUnivariantLayout at first dl repr kind (map layout_of hs) order offsets l
      → IsInOrder dl (fields_repr dl repr kind) (parts_of dl (map layout_of hs)) order offsets l.size l.align.abi l.largest_niche
  laid order offsets l tail r =
      in_order_of dl (fields_repr dl repr kind) (parts_of dl (map layout_of hs)) order offsets l.size l.align.abi l.largest_niche (tailed tail) (niche_by_bias order offsets l r)

  order_of : (order offsets : List ℕ) (l : LayoutData F V) → IsNonEmptyIfUnsized kind (length hs) → IsUnivariantLayout at first dl repr kind (map layout_of hs) order offsets l
      → IsOrderOf dl repr kind (length (map layout_of hs)) order
  order_of order offsets l tail r = let b = laid order offsets l tail r in subst (λ n. IsAllowed (fields_repr dl repr kind) n order) many b.allowed

  placed_by : (order offsets : List ℕ) (l : LayoutData F V) → IsNonEmptyIfUnsized kind (length hs) → IsUnivariantLayout at first dl repr kind (map layout_of hs) order offsets l
      → IsPlacedBy dl repr kind (map layout_of hs) order offsets l.size l.align.abi
  placed_by order offsets l tail r =
      let b = niche_by_bias order offsets l r in
      record { allowed = order_of order offsets l tail r; count = b.placed.count ∙ many; places = b.placed.places; extent = b.placed.extent; alignment = b.placed.alignment }

  -- an accepted list lies in an allowed order
  pub lies_in_order : (order offsets : List ℕ) (l : LayoutData F V) → IsNonEmptyIfUnsized kind (length hs) → IsUnivariantLayout at first dl repr kind (map layout_of hs) order offsets l
      → LiesInSomeOrder at dl repr kind (map layout_of hs) l
  lies_in_order order offsets l tail r =
      let own : listed_offsets l.fields ≡ offsets = ap listed_offsets r.shape in (
        order,
        r.shape ∙ ap (λ os. Arbitrary os (map at order)) (sym own),
        subst (λ os. IsPlacedBy dl repr kind (map layout_of hs) order os l.size l.align.abi) (sym own) (placed_by order offsets l tail r),
      )

  -- and has the least size
  pub has_least : (order offsets : List ℕ) (l : LayoutData F V) → All (λ h. IsLawfulLayout dl (layout_of h)) hs → IsNonEmptyIfUnsized kind (length hs)
      → IsUnivariantLayout at first dl repr kind (map layout_of hs) order offsets l → IsLeastSize dl repr kind (map layout_of hs) l.size
  has_least order offsets l law tail r =
      let b = niche_by_bias order offsets l r in
      record {
        some = (order, order_of order offsets l tail r, b.placed.extent);
        least = λ other q.
            biased_least dl (fields_repr dl repr kind) (parts_of dl (map layout_of hs)) order offsets l.size l.align.abi l.largest_niche other (parts_lawful layout_of dl hs law) (tailed tail) b
            (subst (λ n. IsAllowed (fields_repr dl repr kind) n other) (sym many) q);
      }

  -- its fields share no byte, and lie inside
  pub keeps_apart : (order offsets : List ℕ) (l : LayoutData F V) → IsNonEmptyIfUnsized kind (length hs) → IsUnivariantLayout at first dl repr kind (map layout_of hs) order offsets l
      → AreApart l.size (listed_offsets l.fields) (map (λ h. (layout_of h).size) hs)
  keeps_apart order offsets l tail r =
      rw r.shape (ordered_apart layout_of dl (fields_repr dl repr kind) hs order offsets l.size l.align.abi l.largest_niche (laid order offsets l tail r))

  -- behind the prefix
  pub lies_after : (order offsets : List ℕ) (l : LayoutData F V) → IsNonEmptyIfUnsized kind (length hs) → IsUnivariantLayout at first dl repr kind (map layout_of hs) order offsets l
      → All (λ o. start_of repr.pack kind ≤ o) (listed_offsets l.fields)
  lies_after order offsets l tail r =
      rw r.shape (ordered_after dl (fields_repr dl repr kind) (parts_of dl (map layout_of hs)) order offsets l.size l.align.abi l.largest_niche (laid order offsets l tail r))

  -- each at a multiple of its alignment
  pub lies_aligned : (order offsets : List ℕ) (l : LayoutData F V) → IsNonEmptyIfUnsized kind (length hs) → IsUnivariantLayout at first dl repr kind (map layout_of hs) order offsets l
      → AreAligned (listed_offsets l.fields) (map (λ h. cut repr.pack (layout_of h).align.abi) hs)
  lies_aligned order offsets l tail r =
      rw r.shape (ordered_aligned layout_of dl (fields_repr dl repr kind) hs order offsets l.size l.align.abi l.largest_niche (laid order offsets l tail r))

  -- its niche is that of a field
  pub has_own_niche : (order offsets : List ℕ) (l : LayoutData F V) → IsNonEmptyIfUnsized kind (length hs) → IsUnivariantLayout at first dl repr kind (map layout_of hs) order offsets l
      → IfSome l.largest_niche (IsNicheOfPart (listed_offsets l.fields) (map layout_of hs))
  has_own_niche order offsets l tail r =
      rw r.shape (ordered_of_part layout_of dl (fields_repr dl repr kind) hs order offsets l.size l.align.abi l.largest_niche (laid order offsets l tail r))

  -- and no field's is greater
  pub has_greatest_niche : (order offsets : List ℕ) (l : LayoutData F V) → All (λ h. IsLawfulLayout dl (layout_of h)) hs → IsNonEmptyIfUnsized kind (length hs)
      → IsUnivariantLayout at first dl repr kind (map layout_of hs) order offsets l → HasLargestNiche dl l.largest_niche (map layout_of hs)
  has_greatest_niche order offsets l law tail r =
      ordered_largest layout_of dl (fields_repr dl repr kind) hs order offsets l.size l.align.abi l.largest_niche law (laid order offsets l tail r)

  -- in free order its size is the sum of the fields', rounded up once
  pub sums_up : (order offsets : List ℕ) (l : LayoutData F V) → All (λ h. IsLawfulLayout dl (layout_of h)) hs → IsTrue (fields_repr dl repr kind).reorderable → IsSized kind
      → IsUnivariantLayout at first dl repr kind (map layout_of hs) order offsets l → l.size ≡ sum_rounded (fields_repr dl repr kind) (parts_of dl (map layout_of hs))
  sums_up order offsets l law free sized r =
      biased_sum dl (fields_repr dl repr kind) (parts_of dl (map layout_of hs)) order offsets l.size l.align.abi l.largest_niche (parts_lawful layout_of dl hs law) free sized (niche_by_bias order offsets l r)

  -- its memory order has a place for each field
  pub has_places : (order offsets : List ℕ) (l : LayoutData F V) → IsNonEmptyIfUnsized kind (length hs) → IsUnivariantLayout at first dl repr kind (map layout_of hs) order offsets l → HasPlaceForEach l.fields
  has_places order offsets l tail r =
      let b = laid order offsets l tail r in
      rw r.shape (places_listed at (length (parts_of dl (map layout_of hs))) order offsets b.placed.count
      (ordered_permutes dl (fields_repr dl repr kind) (parts_of dl (map layout_of hs)) order offsets l.size l.align.abi l.largest_niche b))

  -- and never steps back
  pub ascends : (number : F → ℕ) (most : ℕ) → ((i : ℕ) → i ≤ most → number (at i) ≡ i) → length hs ≤ most + 1 → (order offsets : List ℕ) (l : LayoutData F V) → IsNonEmptyIfUnsized kind (length hs)
      → IsUnivariantLayout at first dl repr kind (map layout_of hs) order offsets l → IsAscending number l.fields
  ascends number most law small order offsets l tail r =
      let all : length (parts_of dl (map layout_of hs)) ≡ length hs = many ∙ length-map hs layout_of in
      rw r.shape (ascending_listed at number most law (start_of repr.pack kind) repr.pack (parts_of dl (map layout_of hs)) order offsets (omega (arith, all, small))
      (ordered_lies dl (fields_repr dl repr kind) (parts_of dl (map layout_of hs)) order offsets l.size l.align.abi l.largest_niche (laid order offsets l tail r)))

  -- it is never laid out where each order is too large
  pub never_large : (order offsets : List ℕ) (l : LayoutData F V) → IsNonEmptyIfUnsized kind (length hs) → IsUnivariantLayout at first dl repr kind (map layout_of hs) order offsets l
      → IsEachOrderTooLarge dl repr kind (map layout_of hs) → ⊥
  never_large order offsets l tail r all =
      biased_fits dl (fields_repr dl repr kind) (parts_of dl (map layout_of hs)) order offsets l.size l.align.abi l.largest_niche (tailed tail) (niche_by_bias order offsets l r)
      (λ other q. all other (subst (λ n. IsAllowed (fields_repr dl repr kind) n other) many q))

  -- ---- refusals

  fault_of : (e : LayoutCalculatorError H) (r : IsUnivariantError layout_of dl repr kind hs e) → IsFaultOf dl (fields_repr dl repr kind) Start (parts_of dl (map layout_of hs)) r.2
  fault_of e r = inl (r.0, r.1, r.3)

  -- a list that is refused for its size is too large in each order
  pub large_in_each : (e : LayoutCalculatorError H) → All (λ h. IsLawfulLayout dl (layout_of h)) hs → IsNonEmptyIfUnsized kind (length hs) → IsUnivariantError layout_of dl repr kind hs e → e ≡ SizeOverflow
      → IsEachOrderTooLarge dl repr kind (map layout_of hs)
  large_in_each e law tail r is other q =
      fault_large_all dl (fields_repr dl repr kind) (parts_of dl (map layout_of hs)) r.2 (parts_lawful layout_of dl hs law) (tailed tail) (fault_of e r) (error_large hs r.2 e r.4 is) other
      (subst (λ n. IsAllowed (fields_repr dl repr kind) n other) (sym many) q)

  sized_answer : (e : LayoutCalculatorError H) → AreSized (map layout_of hs) → IsNonEmptyIfUnsized kind (length hs) → IsUnivariantError layout_of dl repr kind hs e
      → IsAnswer {A = LayoutData F V} (Err SizeOverflow) (Err e)
  sized_answer e sized tail r = error_answer hs r.2 e (sized_fault layout_of dl (fields_repr dl repr kind) hs r.2 sized (tailed tail) (fault_of e r)) r.4

  one_error : (e : LayoutCalculatorError H) → IsAnswer {A = LayoutData F V} (Err SizeOverflow) (Err e) → (e ≡ SizeOverflow) ⊎ (e ≡ OutOfMemory)
  one_error e (inl is) = inl (cc)
  one_error e (inr is) = inr (cc)

  -- sized fields are refused for their size, and by no other name
  pub sized_error : (e : LayoutCalculatorError H) → AreSized (map layout_of hs) → IsNonEmptyIfUnsized kind (length hs) → IsUnivariantError layout_of dl repr kind hs e → (e ≡ SizeOverflow) ⊎ (e ≡ OutOfMemory)
  sized_error e sized tail r = one_error e (sized_answer e sized tail r)

  -- what has no fault in the first order isn't refused
  pub first_never : (e : LayoutCalculatorError H) → IsFirstFaultless dl repr kind (map layout_of hs) → IsUnivariantError layout_of dl repr kind hs e → e ≡ OutOfMemory
  first_never e clear r =
      let same : r.0 ≡ clear.0 = one_named (fields_repr dl repr kind) Start (parts_of dl (map layout_of hs)) r.0 clear.0 r.1 clear.1 in
      let none : fault_in (fields_repr dl repr kind) (size_bound dl) (parts_of dl (map layout_of hs)) r.0 ≡ None
      = ap (fault_in (fields_repr dl repr kind) (size_bound dl) (parts_of dl (map layout_of hs))) same ∙ clear.2 in
      let some : fault_in (fields_repr dl repr kind) (size_bound dl) (parts_of dl (map layout_of hs)) r.0 ≡ Some r.2 = r.3 in
      let bad : None ≡ Some r.2 = sym none ∙ some in
      absurd (cc)

  -- ---- the answer

  pub answer_large : (result : Result (LayoutData F V) (LayoutCalculatorError H)) → All (λ h. IsLawfulLayout dl (layout_of h)) hs → IsNonEmptyIfUnsized kind (length hs)
      → IsUnivariantAnswer layout_of at first dl repr kind hs result → result ≡ Err SizeOverflow → IsEachOrderTooLarge dl repr kind (map layout_of hs)
  answer_large (Ok l) law tail a is = absurd (cc)
  answer_large (Err e) law tail (inl r) is = large_in_each e law tail r (cc)
  answer_large (Err e) law tail (inr m) is = absurd (cc)

  pub answer_refused : (result : Result (LayoutData F V) (LayoutCalculatorError H)) → IsNonEmptyIfUnsized kind (length hs) → IsUnivariantAnswer layout_of at first dl repr kind hs result
      → AreSized (map layout_of hs) → IsEachOrderTooLarge dl repr kind (map layout_of hs) → IsAnswer (Err SizeOverflow) result
  answer_refused (Ok l) tail a sized all = absurd (never_large a.0 a.1 l tail a.2 all)
  answer_refused (Err e) tail (inl r) sized all = sized_answer e sized tail r
  answer_refused (Err e) tail (inr m) sized all = inr (ap (λ x. Err x) m)
