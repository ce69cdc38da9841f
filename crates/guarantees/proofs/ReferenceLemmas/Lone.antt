-- Lists of one field or of none, which have one order.
use Rattle.std.proofs.Common.{◌≡◌, ℕ, ◌+◌, ◌^◌, ◌<◌, List, [], ◌∷◌, ◌++◌, Option, None, Some, length, refl, sym, ap, ◌∙◌, subst, arith, Ok}
use Rattle.std.specs.Prelude.{All, IsPermutation, MatchBool, max, nat_lt, slice_index, unwrap_or, if◌then◌else◌}
use Rattle.std.specs.Int.{next_multiple_of}
use Rattle.std.proofs.lemmas.Bool.{lt-ltb}
use Rattle.std.proofs.lemmas.List.Elements.{All-cons, All-head, All-nil}
use Rattle.std.proofs.lemmas.List.Sorted.{All-permutation, length_permutation}
use Rattle.std.proofs.lemmas.Nat.Gcd.{dvd-zero}
use Rattle.abi_base.specs.declared.data_layout.TargetDataLayout.{TargetDataLayout}
use Rattle.abi_base.specs.declared.struct_kind.StructKind.{StructKind}
use Rattle.abi_base.specs.declared.struct_kind.StructKind.TheVariants.{AlwaysSized, MaybeUnsized, Prefixed}
use Rattle.abi_base.specs.DataLayout.{size_bound}
use Rattle.abi_scalar.specs.declared.error.LayoutCalculatorError.{LayoutCalculatorError}
use Rattle.abi_scalar.specs.declared.niche.Niche.{Niche}
use Rattle.abi_scalar.specs.declared.repr.ReprOptions.{ReprOptions}
use Rattle.abi_scalar.specs.Shape.{listed_offsets}
use Rattle.abi_univariant.specs.declared.fields_repr.FieldsRepr.{FieldsRepr}
use Rattle.abi_univariant.specs.declared.order.NicheBias.{NicheBias}
use Rattle.abi_univariant.specs.declared.order.NicheBias.TheVariants.{Start, End}
use Rattle.abi_univariant.specs.declared.part.Part.{Part}
use Rattle.abi_univariant.specs.declared.placing.FieldsFault.{FieldsFault}
use Rattle.abi_univariant.specs.Fault.{fault_in}
use Rattle.abi_univariant.specs.List.{IsUnivariantAnswer, IsUnivariantError}
use Rattle.abi_univariant.specs.ListNiche.{begins_after, greater_niche, niche_in, niche_of_part}
use Rattle.abi_univariant.specs.Order.{IsNamedOrder, IsSortedBefore}
use Rattle.abi_univariant.specs.Part.{part_of}
use Rattle.abi_univariant.specs.Placement.{IsSized, cut, fields_repr, own_align, place_of, prefix_align, start_of}
use Rattle.abi_univariant.specs.Run.{IsPlacedIn, IsRun, space_wanted}
use Rattle.abi_tree.specs.Placed.{Placed, layout_of}
use Rattle.abi_scalar.specs.Layout.{Layout}
use Rattle.guarantees.proofs.ReferenceLemmas.Over.{either, perhaps}
use Rattle.abi_univariant.proofs.Offsets.Rounding.{round_multiple}

-- ---- one order

no_order : (order : List ℕ) → IsPermutation [] order → order ≡ []
no_order [] h = refl
no_order (i ∷ order) h = absurd (let long = length_permutation [] (i ∷ order) h in omega (arith, long))

one_order : (order : List ℕ) → IsPermutation (0 ∷ []) order → order ≡ 0 ∷ []
one_order order h = by order (length_permutation (0 ∷ []) order h)
    (All-permutation (λ (i : ℕ). i ≡ 0) (0 ∷ []) order h (All-cons (λ (i : ℕ). i ≡ 0) 0 [] refl (All-nil (λ (i : ℕ). i ≡ 0))))
  where
    by : (order : List ℕ) → length order ≡ 1 → All (λ (i : ℕ). i ≡ 0) order → order ≡ 0 ∷ []
    by [] long all = absurd (omega (arith, long))
    by (i ∷ j ∷ more) long all = absurd (omega (arith, long))
    by (i ∷ []) long all = ap (λ (n : ℕ). n ∷ []) (All-head (λ (i : ℕ). i ≡ 0) i [] all)

module _ (dl : TargetDataLayout) (repr : ReprOptions) where
  -- the order that is named for a list of one field
  named_alone : (kind : StructKind) → IsSized kind → (bias : NicheBias) (p : Part) (order : List ℕ) → IsNamedOrder (fields_repr dl repr kind) bias (p ∷ []) order → order ≡ 0 ∷ []
  named_alone AlwaysSized sized bias p order named =
      either (order ≡ 0 ∷ []) (IsSortedBefore (fields_repr dl repr AlwaysSized) bias (p ∷ []) order) (order ≡ 0 ∷ []) (fields_repr dl repr AlwaysSized).reorderable
      (λ h. h.2 ∙ ap (λ (f : List ℕ). f ++ []) (one_order h.0 h.1.permutes)) (λ e. e) named
  named_alone MaybeUnsized sized bias p order named = absurd sized
  named_alone (Prefixed size align) sized bias p order named =
      either (order ≡ 0 ∷ []) (IsSortedBefore (fields_repr dl repr (Prefixed size align)) bias (p ∷ []) order) (order ≡ 0 ∷ []) (fields_repr dl repr (Prefixed size align)).reorderable
      (λ h. h.2 ∙ ap (λ (f : List ℕ). f ++ []) (one_order h.0 h.1.permutes)) (λ e. e) named

  -- and for one of none
  named_none : (bias : NicheBias) (order : List ℕ) → IsNamedOrder (fields_repr dl repr AlwaysSized) bias [] order → order ≡ []
  named_none bias order named =
      either (order ≡ []) (IsSortedBefore (fields_repr dl repr AlwaysSized) bias [] order) (order ≡ []) (fields_repr dl repr AlwaysSized).reorderable
      (λ h. h.2 ∙ ap (λ (f : List ℕ). f ++ []) (no_order h.0 h.1.permutes)) (λ e. e) named

-- what the list has in the one order that is named for it
named_run : (dl : TargetDataLayout) (repr : FieldsRepr) (parts : List Part) (only first order offsets : List ℕ) (size align : ℕ) (niche : Option Niche) (C : Type 0)
    → ((bias : NicheBias) (o : List ℕ) → IsNamedOrder repr bias parts o → o ≡ only) → IsNamedOrder repr Start parts first
    → ((bias : NicheBias) → IsPlacedIn dl repr bias parts only offsets size align niche → C)
    → IsRun dl repr parts first order offsets size align niche → C
named_run dl repr parts only first order offsets size align niche C one named each run =
    let A : Type 0 = (order ≡ first) × IsPlacedIn dl repr Start parts order offsets size align niche in
    let start = λ (h : A). each Start (subst (λ o. IsPlacedIn dl repr Start parts o offsets size align niche) (h.0 ∙ one Start first named) h.1) in
    perhaps C A
    (λ space. (second : List ℕ) × IsNamedOrder repr End parts second × MatchBool (begins_after space (niche_in dl repr End parts second))
    ((order ≡ second) × IsPlacedIn dl repr End parts order offsets size align niche) A)
    (space_wanted dl repr parts first) start
    (λ space h. either C ((order ≡ h.0) × IsPlacedIn dl repr End parts order offsets size align niche) A
    (begins_after space (niche_in dl repr End parts h.0))
    (λ g. each End (subst (λ o. IsPlacedIn dl repr End parts o offsets size align niche) (g.0 ∙ one End h.0 h.1) g.1)) start h.2) run

-- ---- what such a list is

pub greater_alone : (dl : TargetDataLayout) (bias : NicheBias) (niche : Option Niche) → greater_niche bias dl niche None ≡ niche
greater_alone dl Start None = refl
greater_alone dl Start (Some n) = refl
greater_alone dl End niche = refl

one_offset : (offsets : List ℕ) (n : ℕ) → length offsets ≡ 1 → slice_index offsets 0 ≡ n → offsets ≡ n ∷ []
one_offset [] n long at = absurd (omega (arith, long))
one_offset (o ∷ p ∷ more) n long at = absurd (omega (arith, long))
one_offset (o ∷ []) n long at = ap (λ (m : ℕ). m ∷ []) at

no_offset : (offsets : List ℕ) → length offsets ≡ 0 → offsets ≡ []
no_offset [] long = refl
no_offset (o ∷ offsets) long = absurd (omega (arith, long))

abbrev first_of : List ℕ → ℕ
first_of [] = 0
first_of (o ∷ offsets) = o

-- A list of one field.
pub record IsLoneList (dl : TargetDataLayout) (repr : ReprOptions) (kind : StructKind) (field : Layout) (list : Layout) : Type 0 where
  pub place : ℕ
  pub at : place ≡ place_of repr.pack (start_of repr.pack kind) (part_of dl field)
  pub offsets : listed_offsets list.fields ≡ place ∷ []
  pub size : list.size ≡ next_multiple_of (place + field.size) (2 ^ list.align.abi)
  pub align : list.align.abi
      ≡ max (max (max (own_align dl repr) (unwrap_or repr.align 0)) (prefix_align repr.pack kind)) (cut repr.pack field.align.abi)
  pub niche : list.largest_niche ≡ niche_of_part place field.largest_niche

-- One of none.
pub record IsEmptyList (dl : TargetDataLayout) (repr : ReprOptions) (list : Layout) : Type 0 where
  pub offsets : listed_offsets list.fields ≡ []
  pub size : list.size ≡ 0
  pub align : list.align.abi ≡ max (max (own_align dl repr) (unwrap_or repr.align 0)) (prefix_align repr.pack AlwaysSized)

module _ (dl : TargetDataLayout) (repr : ReprOptions) where
  pub lone_list : (kind : StructKind) → IsSized kind → (p : Placed) (l : Layout) → IsUnivariantAnswer layout_of (λ i. i) 0 dl repr kind (p ∷ []) (Ok l)
      → IsLoneList dl repr kind (layout_of p) l
  lone_list kind sized p l (order, offsets, h) =
      let asked : Part = part_of dl (layout_of p) in
      let place : ℕ = place_of repr.pack (start_of repr.pack kind) asked in
      named_run dl (fields_repr dl repr kind) (asked ∷ []) (0 ∷ []) h.named.0 order offsets l.size l.align.abi l.largest_niche
      (IsLoneList dl repr kind (layout_of p) l)
      (λ bias o named. named_alone dl repr kind sized bias asked o named) h.named.1
      (λ bias placed.
      let own : listed_offsets l.fields ≡ offsets = ap listed_offsets h.shape in
      record {
        place = place;
        at = refl;
        offsets = own ∙ one_offset offsets place placed.count (ap first_of placed.places);
        size = placed.extent ∙ ap (λ a. next_multiple_of (place + (layout_of p).size) (2 ^ a)) (sym placed.alignment);
        align = placed.alignment;
        niche = placed.largest ∙ greater_alone dl bias (niche_of_part place (layout_of p).largest_niche);
      }) h.named.3

  pub empty_list : (l : Layout) → IsUnivariantAnswer {H = Placed} layout_of (λ i. i) 0 dl repr AlwaysSized [] (Ok l) → IsEmptyList dl repr l
  empty_list l (order, offsets, h) =
      named_run dl (fields_repr dl repr AlwaysSized) [] [] h.named.0 order offsets l.size l.align.abi l.largest_niche
      (IsEmptyList dl repr l) (λ bias o named. named_none dl repr bias o named) h.named.1
      (λ bias placed.
      let own : listed_offsets l.fields ≡ offsets = ap listed_offsets h.shape in
      record {
        offsets = own ∙ no_offset offsets placed.count;
        size = placed.extent ∙ round_multiple 0 _ (dvd-zero (2 ^ _));
        align = placed.alignment;
      }) h.named.3

-- ---- they have no fault

abbrev some_fault : FieldsFault → Option FieldsFault
some_fault f = Some f

no_fault : (o : Option FieldsFault) (f : FieldsFault) → o ≡ None → o ≡ Some f → ⊥
no_fault o f none is = absurd (let bad : None ≡ some_fault f = sym none ∙ is in cc)

module _ (dl : TargetDataLayout) (repr : ReprOptions) where
  pub no_lone_error : (p : Placed) (error : LayoutCalculatorError Placed)
      → fault_in (fields_repr dl repr AlwaysSized) (size_bound dl) (part_of dl (layout_of p) ∷ []) (0 ∷ []) ≡ None
      → IsUnivariantError layout_of dl repr AlwaysSized (p ∷ []) error → ⊥
  no_lone_error p error none (order, named, fault, is, tag_distinguishes) =
      let asked : Part = part_of dl (layout_of p) in
      let one : order ≡ 0 ∷ [] = named_alone dl repr AlwaysSized tt Start asked order named in
      no_fault (fault_in (fields_repr dl repr AlwaysSized) (size_bound dl) (asked ∷ []) order) fault
      (ap (fault_in (fields_repr dl repr AlwaysSized) (size_bound dl) (asked ∷ [])) one ∙ none) is

  pub no_empty_error : 0 < size_bound dl → (error : LayoutCalculatorError Placed) → IsUnivariantError {H = Placed} layout_of dl repr AlwaysSized [] error → ⊥
  no_empty_error some error (order, named, fault, is, tag_distinguishes) =
      let one : order ≡ [] = named_none dl repr Start order named in
      let none : fault_in (fields_repr dl repr AlwaysSized) (size_bound dl) [] [] ≡ None =
      ap (λ n. if nat_lt n (size_bound dl) then None else Some FieldsFault.TooLarge) (round_multiple 0 _ (dvd-zero (2 ^ _)))
      ∙ ap (λ b. if b then None else Some FieldsFault.TooLarge) (lt-ltb 0 (size_bound dl) some) in
      no_fault (fault_in (fields_repr dl repr AlwaysSized) (size_bound dl) [] order) fault
      (ap (fault_in (fields_repr dl repr AlwaysSized) (size_bound dl) []) one ∙ none) is
