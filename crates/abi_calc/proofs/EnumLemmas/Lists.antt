-- The lists of an enum's variants.
use Rattle.std.proofs.Common.{◌≡◌, ℕ, ◌+◌, ◌<◌, ◌≤◌, List, [], ◌∷◌, ◌++◌, ◌∙◌, ap, arith, drop, inl, inr, length, map, slice_index_or, subst, suc, sym, take}
use Rattle.std.specs.Prelude.{◌⊎◌, All, IfErr, IfOk, IfSome, Result, Ok, Err}
use Rattle.std.proofs.lemmas.List.{length-map, take-append-drop, take_more}
use Rattle.std.proofs.Math.Seq.{drop-cons}
use Rattle.std.proofs.lemmas.List.Elements.{All-append, All-cons, All-get_or, All-head, All-nil, All-tail}
use Rattle.abi_base.specs.declared.data_layout.TargetDataLayout.{TargetDataLayout}
use Rattle.abi_base.specs.declared.integer.Integer.{Integer}
use Rattle.abi_base.specs.declared.integer.Integer.TheVariants.{I8, I16, I32, I64, I128}
use Rattle.abi_base.specs.DataLayout.{IsLawfulDataLayout, IsPointerWidth, alignments_of, bound_of_pointer, size_bound}
use Rattle.abi_base.specs.Integer.{integer_align, integer_size}
use Rattle.abi_scalar.specs.declared.layout_data.LayoutData.{LayoutData}
use Rattle.abi_base.specs.declared.struct_kind.StructKind.{StructKind}
use Rattle.abi_scalar.specs.declared.error.LayoutCalculatorError.{LayoutCalculatorError}
use Rattle.abi_scalar.specs.declared.repr.ReprOptions.{ReprOptions}
use Rattle.abi_scalar.specs.declared.error.LayoutCalculatorError.TheVariants.{OutOfMemory}
use Rattle.abi_scalar.specs.declared.fields_shape.FieldsShape.{FieldsShape}
use Rattle.abi_scalar.specs.declared.fields_shape.FieldsShape.TheVariants.{Arbitrary}
use Rattle.abi_scalar.specs.Lawful.{IsLawfulLayout}
use Rattle.abi_scalar.specs.Order.{HasPlaceForEach}
use Rattle.abi_scalar.specs.Shape.{IsListed, listed_offsets}
use Rattle.abi_univariant.specs.Apart.{AreApart}
use Rattle.abi_univariant.specs.ListNiche.{HasLargestNiche, IsNicheOfPart}
use Rattle.abi_univariant.specs.Least.{IsLeastSize, LiesInSomeOrder}
use Rattle.abi_univariant.specs.Placement.{start_of}
use Rattle.abi_univariant.specs.List.{IsUnivariantAnswer, IsUnivariantError}
use Rattle.abi_univariant.specs.Fields.{greatest_align}
use Rattle.abi_calc.specs.Enums.Lists.{AreGoodLists, AreListLayouts, AreListsOf, IsFirstListError, IsGoodList, align_with_all}

large_bound_at : (bytes : ℕ) → IsPointerWidth bytes → 16 < bound_of_pointer bytes
large_bound_at bytes (inl e) = rw e (omega arith)
large_bound_at bytes (inr (inl e)) = rw e (omega arith)
large_bound_at bytes (inr (inr e)) = rw e (omega arith)

integer_most : (i : Integer) (bound : ℕ) → 16 < bound → integer_size i < bound
integer_most I8 bound h = omega (arith, h)
integer_most I16 bound h = omega (arith, h)
integer_most I32 bound h = omega (arith, h)
integer_most I64 bound h = omega (arith, h)
integer_most I128 bound h = h

-- each integer is smaller than the bound
pub integer_below : (dl : TargetDataLayout) (i : Integer) → IsLawfulDataLayout dl → integer_size i < size_bound dl
integer_below dl i law = integer_most i (size_bound dl) (large_bound_at dl.default_address_space_pointer_spec.pointer_size law.pointer)

-- each integer's alignment has its limit
pub integer_small : (dl : TargetDataLayout) (i : Integer) → IsLawfulDataLayout dl → integer_align dl i ≤ 29
integer_small dl I8 h = All-get_or (λ a. a ≤ 29) (alignments_of dl) 1 0 (omega arith) h.limit
integer_small dl I16 h = All-get_or (λ a. a ≤ 29) (alignments_of dl) 2 0 (omega arith) h.limit
integer_small dl I32 h = All-get_or (λ a. a ≤ 29) (alignments_of dl) 3 0 (omega arith) h.limit
integer_small dl I64 h = All-get_or (λ a. a ≤ 29) (alignments_of dl) 4 0 (omega arith) h.limit
integer_small dl I128 h = All-get_or (λ a. a ≤ 29) (alignments_of dl) 5 0 (omega arith) h.limit

-- the greatest alignment of lawful fields has its limit
pub align_small : {F V H : Type 0} (layout_of : H → LayoutData F V) (dl : TargetDataLayout) (own : ℕ) (fields : List H) → own ≤ 29 → All (λ f. IsLawfulLayout dl (layout_of f)) fields
    → greatest_align own (map layout_of fields) ≤ 29
align_small layout_of dl own [] h all = omega (arith, h)
align_small layout_of dl own (f ∷ fs) h all =
    let rest : greatest_align own (map layout_of fs) ≤ 29 = align_small layout_of dl own fs h (All-tail (λ f. IsLawfulLayout dl (layout_of f)) f fs all) in
    let one : (layout_of f).align.abi ≤ 29 = (All-head (λ f. IsLawfulLayout dl (layout_of f)) f fs all).limit in
    omega (arith, rest, one)

-- and that of all variants' fields
pub align_small_all : {F V H : Type 0} (layout_of : H → LayoutData F V) (dl : TargetDataLayout) (own : ℕ) (variants : List (List H)) → own ≤ 29
    → All (All (λ f. IsLawfulLayout dl (layout_of f))) variants → align_with_all own (map (map layout_of) variants) ≤ 29
align_small_all layout_of dl own [] h all = h
align_small_all layout_of dl own (v ∷ vs) h all =
    align_small_all layout_of dl (greatest_align own (map layout_of v)) vs
    (align_small layout_of dl own v h (All-head (All (λ f. IsLawfulLayout dl (layout_of f))) v vs all))
    (All-tail (All (λ f. IsLawfulLayout dl (layout_of f))) v vs all)

-- ---- the lists of all variants

-- one more
pub good_snoc : {F V H : Type 0} (layout_of : H → LayoutData F V) (at : ℕ → F) (first : V) (dl : TargetDataLayout) (repr : ReprOptions) (kind : StructKind) (vs : List (List H)) (ls : List (LayoutData F V)) (v : List H) (l : LayoutData F V)
    → AreGoodLists layout_of at first dl repr kind vs ls → IsGoodList layout_of at first dl repr kind v l → AreGoodLists layout_of at first dl repr kind (vs ++ (v ∷ [])) (ls ++ (l ∷ []))
good_snoc layout_of at first dl repr kind [] [] v l h g = (g, tt)
good_snoc layout_of at first dl repr kind [] (m ∷ ls) v l h g = elim h [ ]
good_snoc layout_of at first dl repr kind (w ∷ vs) [] v l h g = elim h [ ]
good_snoc layout_of at first dl repr kind (w ∷ vs) (m ∷ ls) v l h g = (h.0, good_snoc layout_of at first dl repr kind vs ls v l h.1 g)

pub good_exact : {F V H : Type 0} (layout_of : H → LayoutData F V) (at : ℕ → F) (first : V) (dl : TargetDataLayout) (repr : ReprOptions) (kind : StructKind) (vs : List (List H)) (ls : List (LayoutData F V))
    → AreGoodLists layout_of at first dl repr kind vs ls → AreListLayouts layout_of at first dl repr kind vs ls
good_exact layout_of at first dl repr kind [] [] h = tt
good_exact layout_of at first dl repr kind [] (l ∷ ls) h = elim h [ ]
good_exact layout_of at first dl repr kind (v ∷ vs) [] h = elim h [ ]
good_exact layout_of at first dl repr kind (v ∷ vs) (l ∷ ls) h = (h.0.exact, good_exact layout_of at first dl repr kind vs ls h.1)

pub good_listed : {F V H : Type 0} (layout_of : H → LayoutData F V) (at : ℕ → F) (first : V) (dl : TargetDataLayout) (repr : ReprOptions) (kind : StructKind) (vs : List (List H)) (ls : List (LayoutData F V))
    → AreGoodLists layout_of at first dl repr kind vs ls → AreListsOf vs ls
good_listed layout_of at first dl repr kind [] [] h = tt
good_listed layout_of at first dl repr kind [] (l ∷ ls) h = elim h [ ]
good_listed layout_of at first dl repr kind (v ∷ vs) [] h = elim h [ ]
good_listed layout_of at first dl repr kind (v ∷ vs) (l ∷ ls) h = (h.0.listed, good_listed layout_of at first dl repr kind vs ls h.1)

pub good_lawful : {F V H : Type 0} (layout_of : H → LayoutData F V) (at : ℕ → F) (first : V) (dl : TargetDataLayout) (repr : ReprOptions) (kind : StructKind) (vs : List (List H)) (ls : List (LayoutData F V))
    → AreGoodLists layout_of at first dl repr kind vs ls → All (IsLawfulLayout dl) ls
good_lawful layout_of at first dl repr kind [] [] h = All-nil (IsLawfulLayout dl)
good_lawful layout_of at first dl repr kind [] (l ∷ ls) h = elim h [ ]
good_lawful layout_of at first dl repr kind (v ∷ vs) [] h = elim h [ ]
good_lawful layout_of at first dl repr kind (v ∷ vs) (l ∷ ls) h = All-cons (IsLawfulLayout dl) l ls h.0.lawful (good_lawful layout_of at first dl repr kind vs ls h.1)

-- the first variant without a layout, after some that have one
pub first_error : {F V H : Type 0} (layout_of : H → LayoutData F V) (at : ℕ → F) (first : V) (dl : TargetDataLayout) (repr : ReprOptions) (kind : StructKind) (vs : List (List H)) (ls : List (LayoutData F V)) (v : List H) (more : List (List H)) (e : LayoutCalculatorError H)
    → AreGoodLists layout_of at first dl repr kind vs ls → IsUnivariantError layout_of dl repr kind v e → IsFirstListError layout_of at first dl repr kind (vs ++ (v ∷ more)) e
first_error layout_of at first dl repr kind [] [] v more e h is = inl is
first_error layout_of at first dl repr kind [] (l ∷ ls) v more e h is = elim h [ ]
first_error layout_of at first dl repr kind (w ∷ vs) [] v more e h is = elim h [ ]
first_error layout_of at first dl repr kind (w ∷ vs) (l ∷ ls) v more e h is = inr (l, h.0.exact, first_error layout_of at first dl repr kind vs ls v more e h.1 is)

-- ---- one list

is_listed : {F : Type 0} (shape : FieldsShape F) (offsets : List ℕ) (order : List F) → shape ≡ Arbitrary offsets order → IsListed shape
is_listed shape offsets order e = rw e tt

-- a list's layout is lawful and has an offset and a place for each field
pub good_of : {F V H : Type 0} (layout_of : H → LayoutData F V) (at : ℕ → F) (first : V) (dl : TargetDataLayout) (repr : ReprOptions) (kind : StructKind) (fields : List H) (r : Result (LayoutData F V) (LayoutCalculatorError H))
    → IsUnivariantAnswer layout_of at first dl repr kind fields r → IfOk r (IsLawfulLayout dl) → IfOk r (LiesInSomeOrder at dl repr kind (map layout_of fields)) → IfOk r (λ l. HasPlaceForEach l.fields)
    → IfOk r (λ l. IsLeastSize dl repr kind (map layout_of fields) l.size) → IfOk r (λ l. AreApart l.size (listed_offsets l.fields) (map (λ f. (layout_of f).size) fields))
    → IfOk r (λ l. All (λ o. start_of repr.pack kind ≤ o) (listed_offsets l.fields)) → IfOk r (λ l. IfSome l.largest_niche (IsNicheOfPart (listed_offsets l.fields) (map layout_of fields)))
    → IfOk r (λ l. HasLargestNiche dl l.largest_niche (map layout_of fields))
    → IfOk r (IsGoodList layout_of at first dl repr kind fields)
good_of layout_of at first dl repr kind fields (Ok l) exact lawful placed places least apart after niche largest = record {
  exact = exact;
  listed = record {
    listed = is_listed l.fields (listed_offsets l.fields) (map at placed.0) placed.1;
    count = placed.2.count ∙ length-map fields layout_of;
    places = places;
  };
  lawful = lawful;
  placed = placed;
  least = least;
  apart = apart;
  after = after;
  niche = niche;
  largest = largest;
}
good_of layout_of at first dl repr kind fields (Err e) exact lawful placed places least apart after niche largest = tt

pub fault_of : {F V H : Type 0} (layout_of : H → LayoutData F V) (at : ℕ → F) (first : V) (dl : TargetDataLayout) (repr : ReprOptions) (kind : StructKind) (fields : List H) (r : Result (LayoutData F V) (LayoutCalculatorError H))
    → IsUnivariantAnswer layout_of at first dl repr kind fields r → IfErr r (λ e. IsUnivariantError layout_of dl repr kind fields e ⊎ (e ≡ OutOfMemory))
fault_of layout_of at first dl repr kind fields (Ok l) exact = tt
fault_of layout_of at first dl repr kind fields (Err e) exact = exact

-- ---- the variant at a place

-- with the list of the variant at the place
pub good_next : {F V H : Type 0} (layout_of : H → LayoutData F V) (at : ℕ → F) (first : V) (dl : TargetDataLayout) (repr : ReprOptions) (kind : StructKind) (vs : List (List H)) (i : ℕ) (ls : List (LayoutData F V)) (v : List H) (l : LayoutData F V)
    → i < length vs → v ≡ slice_index_or vs i v → AreGoodLists layout_of at first dl repr kind (take i vs) ls → IsGoodList layout_of at first dl repr kind v l
    → AreGoodLists layout_of at first dl repr kind (take (i + 1) vs) (ls ++ (l ∷ []))
good_next layout_of at first dl repr kind vs i ls v l lt is h g =
    let more : take (i + 1) vs ≡ take i vs ++ (v ∷ []) = take_more vs i v lt ∙ ap (λ w. take i vs ++ (w ∷ [])) (sym is) in
    subst (λ x. AreGoodLists layout_of at first dl repr kind x (ls ++ (l ∷ []))) (sym more) (good_snoc layout_of at first dl repr kind (take i vs) ls v l h g)

-- its error is the first
pub error_next : {F V H : Type 0} (layout_of : H → LayoutData F V) (at : ℕ → F) (first : V) (dl : TargetDataLayout) (repr : ReprOptions) (kind : StructKind) (vs : List (List H)) (i : ℕ) (ls : List (LayoutData F V)) (v : List H) (e : LayoutCalculatorError H)
    → i < length vs → v ≡ slice_index_or vs i v → AreGoodLists layout_of at first dl repr kind (take i vs) ls → IsUnivariantError layout_of dl repr kind v e ⊎ (e ≡ OutOfMemory)
    → IsFirstListError layout_of at first dl repr kind vs e ⊎ (e ≡ OutOfMemory)
error_next layout_of at first dl repr kind vs i ls v e lt is h (inr want) = inr want
error_next layout_of at first dl repr kind vs i ls v e lt is h (inl error) =
    let rest : drop i vs ≡ v ∷ drop (suc i) vs = drop-cons vs i v lt ∙ ap (λ w. w ∷ drop (suc i) vs) (sym is) in
    let all : take i vs ++ (v ∷ drop (suc i) vs) ≡ vs = ap (λ x. take i vs ++ x) (sym rest) ∙ take-append-drop i vs in
    inl (subst (λ x. IsFirstListError layout_of at first dl repr kind x e) all (first_error layout_of at first dl repr kind (take i vs) ls v (drop (suc i) vs) e h error))

-- what holds of the items before, and of the one at the place, holds with it
pub all_next : {A : Type 0} (P : A → Type 0) (xs : List A) (i : ℕ) (x : A) → i < length xs → x ≡ slice_index_or xs i x → All P (take i xs) → P x → All P (take (i + 1) xs)
all_next P xs i x lt is all one =
    subst (All P) (sym (take_more xs i x lt ∙ ap (λ w. take i xs ++ (w ∷ [])) (sym is))) (All-append P (take i xs) (x ∷ []) all (All-cons P x [] one (All-nil P)))
