-- The data places of a type.
use Rattle.std.proofs.Common.{◌≡◌, ℕ, zero, suc, ◌+◌, ◌-◌, ◌*◌, ◌/◌, ◌%◌, ◌<◌, ◌≤◌, ⊎_elim, List, [], ◌∷◌, ◌++◌, Bool, true, false, length, arith, refl, sym, ap, subst, ◌∙◌, All, le_refl}
use Rattle.std.specs.Prelude.{◌&&◌, ◌||◌, ◌^◌, nat_lt, nat_le, not}
use Rattle.std.specs.List.{list_any, range_with_len}
use Rattle.std.specs.Cmp.Derive.{both_true}
use Rattle.std.proofs.Math.Bool.{and-false, or-false}
use Rattle.std.proofs.Math.Nat.{div-zero, mod-zero}
use Rattle.std.proofs.lemmas.Bool.{cases_lt, le-leb, le-ltb, lt-ltb, or_parts, true≢false}
use Rattle.std.proofs.lemmas.List.{get_or_append_left, get_or_push, length-append, map-id}
use Rattle.std.proofs.lemmas.List.Elements.{All-nil, All-cons}
use Rattle.std.proofs.lemmas.List.Folds.{list_any-append}
use Rattle.std.proofs.lemmas.List.FromFn.{map-range_with_len_more}
use Rattle.abi_index.specs.RangeSet.{AreMaximalRuns, is_in_run, is_in_ranges}
use Rattle.abi_scalar.specs.declared.backend_repr.BackendRepr.{BackendRepr}
use Rattle.abi_scalar.specs.declared.backend_repr.BackendRepr.TheVariants.{Scalar as OneScalar}
use Rattle.abi_scalar.specs.declared.fields_shape.FieldsShape.{FieldsShape}
use Rattle.abi_scalar.specs.declared.fields_shape.FieldsShape.TheVariants.{Primitive, Union, Array, Arbitrary}
use Rattle.abi_scalar.specs.declared.scalar.Scalar.{Scalar}
use Rattle.abi_scalar.specs.declared.variants.TagEncoding.{TagEncoding}
use Rattle.abi_scalar.specs.declared.variants.VariantLayout.{VariantLayout}
use Rattle.abi_scalar.specs.declared.variants.Variants.{Variants}
use Rattle.abi_scalar.specs.declared.variants.Variants.TheVariants.{Empty, Single, Multiple}
use Rattle.abi_scalar.specs.Shape.{field_count, field_offset}
use Rattle.abi_scalar.specs.Variant.{variants_of}
use Rattle.abi_types.specs.Ty.Typed.{Typed, typed, no_type, at_variant, field_in, layout_in, variant_in}
use Rattle.abi_scalar.specs.Layout.{Layout}
use Rattle.abi_types.specs.Ty.Lawful.{CanBeNamed, DepthFalls, IsWellFormedType, NamesVariant}
use Rattle.abi_types.specs.Ty.Places.{covers_element, fields_cover, is_place, is_shared_place, is_unused, variants_cover}
use Rattle.abi_index.specs.Runs.{Adds, moved_to, repeated}
use Rattle.abi_types.specs.Ty.Runs.{AreUnusedOf, IsVariantOfSeveral, IsVariantIndex, elements_cover, first_cover, variant_count}
use Rattle.abi_index.proofs.RunsLemmas.{adds_both, adds_nothing, adds_same, moved-moved, moved-none, moved-or, moved-same, moved-zero}

-- ---- tests of numbers that follow one another

none_in : (p : ℕ → Bool) (i n : ℕ) → ((j : ℕ) → i ≤ j → j < i + n → p j ≡ false) → list_any p (range_with_len i n) ≡ false
none_in p i zero none = refl
none_in p i (suc n) none = ap (λ b. b || list_any p (range_with_len (i + 1) n)) (none i (le_refl i) (omega arith)) ∙ none_in p (i + 1) n (λ j le lt. none j (omega (arith, le)) (omega (arith, lt)))

any_more : (p : ℕ → Bool) (n : ℕ) → list_any p (range_with_len 0 (n + 1)) ≡ (list_any p (range_with_len 0 n) || p n)
any_more p n =
    ap (list_any p) (sym (map-id (range_with_len 0 (n + 1))) ∙ map-range_with_len_more (λ k. k) 0 n n (omega arith) ∙ ap (λ xs. xs ++ n ∷ []) (map-id (range_with_len 0 n)))
    ∙ list_any-append p (range_with_len 0 n) (n ∷ []) ∙ ap (λ b. list_any p (range_with_len 0 n) || b) (or-false (p n))

any_same : (p q : ℕ → Bool) → ((j : ℕ) → p j ≡ q j) → (xs : List ℕ) → list_any p xs ≡ list_any q xs
any_same p q same [] = refl
any_same p q same (x ∷ xs) = ap (λ b. b || list_any p xs) (same x) ∙ ap (λ b. q x || b) (any_same p q same xs)

-- ---- all data places lie inside

view_inside : (view : BackendRepr) (l : Layout) (own : ℕ → Bool) (k : ℕ) → l.backend_repr ≡ view → l.size ≤ k → own k ≡ false → covers_element l own k ≡ false
view_inside (OneScalar s) l own k e past none = rw e (le-ltb k l.size past)
view_inside _ l own k e past none = rw e none

-- what an element covers lies inside it
element_inside : (l : Layout) (own : ℕ → Bool) (k : ℕ) → l.size ≤ k → own k ≡ false → covers_element l own k ≡ false
element_inside l own k past none = view_inside l.backend_repr l own k refl past none

abbrev AreInside : (size : ℕ) → FieldsShape ℕ → (field : ℕ → Typed) → Type 0
AreInside size s field = (i : ℕ) → i < field_count s → field_offset s i + (layout_in (field i)).size ≤ size

fields_inside : (size : ℕ) (s : FieldsShape ℕ) (field : ℕ → Typed) (own : ℕ → ℕ → Bool) (k : ℕ) → AreInside size s field → CanBeNamed s field
    → ((i j : ℕ) → i < field_count s → (layout_in (field i)).size ≤ j → own i j ≡ false) → size ≤ k → fields_cover size s field own k ≡ false
fields_inside size Primitive field own k inside named none past = le-ltb k size past
fields_inside size (Union count) field own k inside named none past =
    none_in (λ i. own i k) 0 count (λ j le lt. let below : j < count = omega (arith, lt) in none j k below (omega (arith, past, inside j below)))
fields_inside size (Arbitrary offsets order) field own k inside named none past =
    let off = field_offset (Arbitrary offsets order) in
    none_in (λ i. nat_le (off i) k && own i (k - off i)) 0 (length offsets)
    (λ j le lt. let below : j < length offsets = omega (arith, lt) in
    ap (λ b. nat_le (off j) k && b) (none j (k - off j) below (omega (arith, past, inside j below))) ∙ and-false (nat_le (off j) k))
fields_inside size (Array stride count) field own k inside named none past =
    let e : Layout = layout_in (field 0) in
    ⊎_elim
    (λ (lt : k / stride < count).
    let at : stride * (k / stride) + (layout_in (field (k / stride))).size ≤ size = inside (k / stride) lt in
    let same : (layout_in (field (k / stride))).size ≡ e.size = ap (λ t. (layout_in t).size) (named.0 (k / stride) lt) in
    let split : k ≡ stride * (k / stride) + k % stride = omega arith in
    let beyond : e.size ≤ k % stride = omega (arith, at, same, split, past) in
    ap (λ b. nat_lt (k / stride) count && b) (element_inside e (own 0) (k % stride) beyond (none 0 (k % stride) (omega (arith, lt)) beyond)) ∙ and-false (nat_lt (k / stride) count))
    (λ (le : count ≤ k / stride). ap (λ b. b && covers_element e (own 0) (k % stride)) (le-ltb (k / stride) count le))
    (cases_lt (k / stride) count)

variants_inside : (vs : Variants ℕ ℕ) (own : ℕ → ℕ → Bool) (k : ℕ) → ((i : ℕ) → i < length (variants_of vs) → own i k ≡ false) → variants_cover vs own k ≡ false
variants_inside (Multiple tag encoding at layouts) own k none = none_in (λ v. own v k) 0 (length layouts) (λ j le lt. none j (omega (arith, lt)))
variants_inside Empty own k none = refl
variants_inside (Single i) own k none = refl

or_none : (a b : Bool) → a ≡ false → b ≡ false → (a || b) ≡ false
or_none a b e f = ap (λ x. x || b) e ∙ f

-- no byte behind the size is a data place
pub place_inside : (t : Typed) → IsWellFormedType t → (k : ℕ) → (layout_in t).size ≤ k → is_place t k ≡ false
place_inside no_type law k past = refl
place_inside (typed l m f v) law k past =
    or_none (fields_cover l.size l.fields f (λ i. is_place (f i)) k) (variants_cover l.variants (λ i. is_place (v i)) k)
    (fields_inside l.size l.fields f (λ i. is_place (f i)) k law.0.inside law.0.named (λ i j lt le. place_inside (f i) (law.1 i lt) j le) past)
    (variants_inside l.variants (λ i. is_place (v i)) k (λ i lt. place_inside (v i) (law.2 i lt) k (let le : (layout_in (v i)).size ≤ l.size = law.0.within i lt in omega (arith, le, past))))

-- nor is it one of an element
covers_inside : (t : Typed) → IsWellFormedType t → (k : ℕ) → (layout_in t).size ≤ k → covers_element (layout_in t) (is_place t) k ≡ false
covers_inside t law k past = element_inside (layout_in t) (is_place t) k past (place_inside t law k past)

-- byte k is covered by one of the first n variants
abbrev pub first_variants : Typed → (n k : ℕ) → Bool
first_variants t n k = list_any (λ v. is_place (variant_in t v) k) (range_with_len 0 n)

-- ---- fields and variants, one by one

-- the type at a variant that a tag distinguishes
pub of_variant : (t : Typed) (i : ℕ) (tag : Scalar) (encoding : TagEncoding ℕ) (at : ℕ) (layouts : List (VariantLayout ℕ)) → (layout_in t).variants ≡ Multiple tag encoding at layouts → at_variant t i ≡ variant_in t i
of_variant t i tag encoding at layouts e = rw e refl

adds_field_at : (all old new : List (ℕ × ℕ)) (offset : ℕ) (t : Typed) (i : ℕ) → Adds all old (moved_to offset (first_cover t i))
    → Adds old new (moved_to (offset + field_offset (layout_in t).fields i) (is_place (field_in t i))) → Adds all new (moved_to offset (first_cover t (i + 1)))
adds_field_at all old new offset t i before next =
    let off : ℕ = field_offset (layout_in t).fields i in
    let p : ℕ → Bool = is_place (field_in t i) in
    adds_same all new (λ k. moved_to offset (first_cover t i) k || moved_to (offset + off) p k) (moved_to offset (first_cover t (i + 1)))
    (adds_both all old new (moved_to offset (first_cover t i)) (moved_to (offset + off) p) before next)
    (λ k. ap (λ b. moved_to offset (first_cover t i) k || b) (moved-moved offset off p k) ∙ sym (moved-or offset (first_cover t i) (moved_to off p) k)
    ∙ sym (moved-same offset (first_cover t (i + 1)) (λ j. first_cover t i j || moved_to off p j) (λ j. any_more (λ n. moved_to (field_offset (layout_in t).fields n) (is_place (field_in t n)) j) i) k))

-- the next field, at its place
pub adds_field : (all old new : List (ℕ × ℕ)) (offset : ℕ) (t u : Typed) (i place : ℕ) → place ≡ field_offset (layout_in t).fields i → u ≡ field_in t i → Adds all old (moved_to offset (first_cover t i))
    → Adds old new (moved_to (offset + place) (is_place u)) → Adds all new (moved_to offset (first_cover t (i + 1)))
adds_field all old new offset t u i place e f before next =
    adds_field_at all old new offset t i before
    (subst (λ w. Adds old new (moved_to (offset + field_offset (layout_in t).fields i) (is_place w))) f (subst (λ m. Adds old new (moved_to (offset + m) (is_place u))) e next))

adds_variant_in : (all old new : List (ℕ × ℕ)) (offset : ℕ) (t : Typed) (i : ℕ) → Adds all old (moved_to offset (first_variants t i)) → Adds old new (moved_to offset (is_place (variant_in t i)))
    → Adds all new (moved_to offset (first_variants t (i + 1)))
adds_variant_in all old new offset t i before next =
    let p : ℕ → Bool = is_place (variant_in t i) in
    adds_same all new (λ k. moved_to offset (first_variants t i) k || moved_to offset p k) (moved_to offset (first_variants t (i + 1)))
    (adds_both all old new (moved_to offset (first_variants t i)) (moved_to offset p) before next)
    (λ k. sym (moved-or offset (first_variants t i) p k)
    ∙ sym (moved-same offset (first_variants t (i + 1)) (λ j. first_variants t i j || p j) (λ j. any_more (λ n. is_place (variant_in t n) j) i) k))

-- the next variant
pub adds_variant : (all old new : List (ℕ × ℕ)) (offset : ℕ) (t u : Typed) (i n : ℕ) (tag : Scalar) (encoding : TagEncoding ℕ) (at : ℕ) (layouts : List (VariantLayout ℕ))
    → (layout_in t).variants ≡ Multiple tag encoding at layouts → u ≡ at_variant t n → n ≡ i → Adds all old (moved_to offset (first_variants t i)) → Adds old new (moved_to offset (is_place u))
    → Adds all new (moved_to offset (first_variants t (i + 1)))
adds_variant all old new offset t u i n tag encoding at layouts several e f before next =
    adds_variant_in all old new offset t i before
    (subst (λ w. Adds old new (moved_to offset (is_place w))) (e ∙ ap (at_variant t) f ∙ of_variant t i tag encoding at layouts several) next)

variant_inside : (t : Typed) (i : ℕ) → IsWellFormedType t → i < length (variants_of (layout_in t).variants) → (layout_in (variant_in t i)).size ≤ (layout_in t).size
variant_inside (typed l m f v) i law lt = law.0.within i lt
variant_inside no_type i law lt = absurd law

-- a variant that a tag distinguishes fits where its type does
pub variant_fits : (t : Typed) (i offset : ℕ) (tag : Scalar) (encoding : TagEncoding ℕ) (at : ℕ) (layouts : List (VariantLayout ℕ)) → IsWellFormedType t
    → (layout_in t).variants ≡ Multiple tag encoding at layouts → i < length layouts → offset + (layout_in t).size < 2 ^ 64 → offset + (layout_in (at_variant t i)).size < 2 ^ 64
variant_fits t i offset tag encoding at layouts law e lt fits =
    let same : at_variant t i ≡ variant_in t i = of_variant t i tag encoding at layouts e in
    let size : (layout_in (at_variant t i)).size ≡ (layout_in (variant_in t i)).size = ap (λ u. (layout_in u).size) same in
    let inside : (layout_in (variant_in t i)).size ≤ (layout_in t).size = variant_inside t i law (let n : length (variants_of (layout_in t).variants) ≡ length layouts = ap (λ vs. length (variants_of vs)) e in omega (arith, n, lt)) in
    omega (arith, size, inside, fits)

-- and lies less deep
pub variant_falls : (vs : Variants ℕ ℕ) (tag : Scalar) (encoding : TagEncoding ℕ) (at : ℕ) (layouts : List (VariantLayout ℕ)) (below depth : ℕ) → DepthFalls vs below depth → vs ≡ Multiple tag encoding at layouts → below < depth
variant_falls vs tag encoding at layouts below depth falls e = subst (λ w. DepthFalls w below depth) e falls

-- ---- what fields and variants cover together

-- of a layout that is the type's
pub several_of : (t : Typed) (l : Layout) (tag : Scalar) (encoding : TagEncoding ℕ) (at : ℕ) (layouts : List (VariantLayout ℕ)) → l ≡ layout_in t → l.variants ≡ Multiple tag encoding at layouts
    → (layout_in t).variants ≡ Multiple tag encoding at layouts
several_of t l tag encoding at layouts same e = sym (ap (λ m. m.variants) same) ∙ e

pub size_of : (t : Typed) (l : Layout) (size : ℕ) → l ≡ layout_in t → size ≡ l.size → size ≡ (layout_in t).size
size_of t l size same e = e ∙ ap (λ m. m.size) same

pub offset_of : (t : Typed) (l : Layout) (i place offset : ℕ) → l ≡ layout_in t → offset ≡ field_offset l.fields i → place ≡ offset → place ≡ field_offset (layout_in t).fields i
offset_of t l i place offset same e f = f ∙ e ∙ ap (λ m. field_offset m.fields i) same

-- all fields of a union
union_covered : (t : Typed) (count : ℕ) → (layout_in t).fields ≡ Union count → (k : ℕ) → first_cover t count k ≡ is_shared_place t k
union_covered t count e k =
    any_same (λ i. moved_to (field_offset (layout_in t).fields i) (is_place (field_in t i)) k) (λ i. is_place (field_in t i) k)
    (λ i. ap (λ s. moved_to (field_offset s i) (is_place (field_in t i)) k) e ∙ moved-zero (is_place (field_in t i)) k) (range_with_len 0 count)
    ∙ sym (ap (λ s. fields_cover (layout_in t).size s (field_in t) (λ i. is_place (field_in t i)) k) e)

pub adds_union : (all new : List (ℕ × ℕ)) (offset : ℕ) (t : Typed) (l : Layout) (n count : ℕ) → l ≡ layout_in t → l.fields ≡ Union n → count ≡ n → Adds all new (moved_to offset (first_cover t count))
    → Adds all new (moved_to offset (is_shared_place t))
adds_union all new offset t l n count same e f adds =
    adds_same all new (moved_to offset (first_cover t count)) (moved_to offset (is_shared_place t)) adds
    (moved-same offset (first_cover t count) (is_shared_place t) (union_covered t count (sym (ap (λ m. m.fields) same) ∙ e ∙ ap Union (sym f))))

-- fields, and variants
place_split : (t : Typed) (k : ℕ) → is_place t k ≡ (is_shared_place t k || variants_cover (layout_in t).variants (λ v. is_place (variant_in t v)) k)
place_split (typed l m f v) k = refl
place_split no_type k = sym (ap (λ b. b || false) (le-ltb k 0 (omega arith)))

-- what fields cover, and behind it what variants cover
pub adds_type : (all old new : List (ℕ × ℕ)) (offset : ℕ) (t : Typed) → Adds all old (moved_to offset (is_shared_place t))
    → Adds old new (moved_to offset (variants_cover (layout_in t).variants (λ v. is_place (variant_in t v)))) → Adds all new (moved_to offset (is_place t))
adds_type all old new offset t fields variants =
    let q : ℕ → Bool = variants_cover (layout_in t).variants (λ v. is_place (variant_in t v)) in
    adds_same all new (λ k. moved_to offset (is_shared_place t) k || moved_to offset q k) (moved_to offset (is_place t))
    (adds_both all old new (moved_to offset (is_shared_place t)) (moved_to offset q) fields variants)
    (λ k. sym (moved-or offset (is_shared_place t) q k) ∙ sym (moved-same offset (is_place t) (λ j. is_shared_place t j || q j) (place_split t) k))

-- a type of no bytes has no data places
pub adds_empty : (all : List (ℕ × ℕ)) (offset : ℕ) (t : Typed) → IsWellFormedType t → (layout_in t).size ≡ 0 → Adds all all (moved_to offset (is_place t))
adds_empty all offset t law none =
    adds_nothing all (moved_to offset (is_place t)) (λ k. moved-same offset (is_place t) (λ j. false) (λ j. place_inside t law j (omega (arith, none))) k ∙ moved-none offset k)

-- ---- elements

-- runs of bytes below a number end no later
runs_end : (size low : ℕ) (runs : List (ℕ × ℕ)) → AreMaximalRuns low runs → ((k : ℕ) → size ≤ k → is_in_ranges runs k ≡ false) → All (λ run. run.0 + run.1 ≤ size) runs
runs_end size low [] runs none = All-nil (λ run. run.0 + run.1 ≤ size)
runs_end size low (run ∷ runs) maximal none =
    All-cons (λ run. run.0 + run.1 ≤ size) run runs
    (⊎_elim
    (λ (past : size < run.0 + run.1).
    let last : ℕ = run.0 + run.1 - 1 in
    let in_it : is_in_run last run ≡ true = both_true (le-leb run.0 last (omega (arith, maximal.1))) (lt-ltb last (run.0 + run.1) (omega (arith, maximal.1))) in
    absurd (true≢false (sym (ap (λ b. b || is_in_ranges runs last) in_it) ∙ none last (omega (arith, past)))))
    (λ (within : run.0 + run.1 ≤ size). within)
    (cases_lt size (run.0 + run.1)))
    (runs_end size (run.0 + run.1 + 1) runs maximal.3 (λ k past. (or_parts (is_in_run k run) (is_in_ranges runs k) (none k past)).1))

-- a set of what an element covers ends inside the element
pub one_ends : (t : Typed) (set : List (ℕ × ℕ)) → IsWellFormedType t → AreMaximalRuns 0 set → ((k : ℕ) → is_in_ranges set k ≡ covers_element (layout_in t) (is_place t) k)
    → All (λ run. run.0 + run.1 ≤ (layout_in t).size) set
one_ends t set law maximal same = runs_end (layout_in t).size 0 set maximal (λ k past. same k ∙ covers_inside t law k past)

-- its part below a number ends there
pub cut_ends : (set below : List (ℕ × ℕ)) (stride : ℕ) → AreMaximalRuns 0 below → ((k : ℕ) → is_in_ranges below k ≡ (nat_lt k stride && is_in_ranges set k))
    → All (λ run. run.0 + run.1 ≤ stride) below
cut_ends set below stride maximal same = runs_end stride 0 below maximal (λ k past. same k ∙ ap (λ b. b && is_in_ranges set k) (le-ltb k stride past))

-- and inside the element
pub cut_ends_inside : (t : Typed) (set below : List (ℕ × ℕ)) (stride : ℕ) → IsWellFormedType t → AreMaximalRuns 0 below
    → ((k : ℕ) → is_in_ranges set k ≡ covers_element (layout_in t) (is_place t) k) → ((k : ℕ) → is_in_ranges below k ≡ (nat_lt k stride && is_in_ranges set k))
    → All (λ run. run.0 + run.1 ≤ (layout_in t).size) below
cut_ends_inside t set below stride law maximal one same =
    runs_end (layout_in t).size 0 below maximal (λ k past. same k ∙ ap (λ b. nat_lt k stride && b) (one k ∙ covers_inside t law k past) ∙ and-false (nat_lt k stride))

stacked : (count : ℕ) (c : ℕ → Bool) → 0 < count → (k : ℕ) → c k ≡ repeated 0 count c k
stacked count c some k = sym (ap (λ n. nat_lt n count && c (k % 0)) (div-zero k) ∙ ap (λ b. b && c (k % 0)) (lt-ltb 0 count some) ∙ ap c (mod-zero k))

-- elements that all lie at one place
pub adds_stacked : (all new : List (ℕ × ℕ)) (offset : ℕ) (t : Typed) (set : List (ℕ × ℕ)) (stride count : ℕ)
    → ((k : ℕ) → is_in_ranges set k ≡ covers_element (layout_in t) (is_place t) k) → 0 < count → stride ≡ 0
    → Adds all new (moved_to offset (is_in_ranges set)) → Adds all new (moved_to offset (elements_cover t stride count))
adds_stacked all new offset t set stride count same some none adds =
    let p : ℕ → Bool = covers_element (layout_in t) (is_place t) in
    adds_same all new (moved_to offset (is_in_ranges set)) (moved_to offset (elements_cover t stride count)) adds
    (moved-same offset (is_in_ranges set) (elements_cover t stride count) (λ k. same k ∙ stacked count p some k ∙ ap (λ m. repeated m count p k) (sym none)))

-- ---- what a variant leaves unused

pub beside_at : (vs : Variants ℕ ℕ) (i : ℕ) (tag : Scalar) (encoding : TagEncoding ℕ) (at : ℕ) (layouts : List (VariantLayout ℕ)) → IsVariantIndex vs i → vs ≡ Multiple tag encoding at layouts
    → i < length layouts
beside_at vs i tag encoding at layouts h e = subst (λ w. IsVariantIndex w i) e h

pub beside_parts : (vs : Variants ℕ ℕ) (i : ℕ) → IsVariantOfSeveral vs i
    → (tag : Scalar) × (encoding : TagEncoding ℕ) × (at : ℕ) × (layouts : List (VariantLayout ℕ)) × (vs ≡ Multiple tag encoding at layouts) × (i < length layouts)
beside_parts (Multiple tag encoding at layouts) i h = (tag, encoding, at, layouts, refl, h)
beside_parts Empty i h = absurd h
beside_parts (Single only) i h = absurd h

-- where a tag distinguishes variants
unused_split : (t : Typed) (i k : ℕ) (tag : Scalar) (encoding : TagEncoding ℕ) (at : ℕ) (layouts : List (VariantLayout ℕ)) → (layout_in t).variants ≡ Multiple tag encoding at layouts
    → is_unused t i k ≡ (is_place t k && not (is_shared_place t k || is_place (variant_in t i) k))
unused_split t i k tag encoding at layouts e = rw e refl

-- what is put behind nothing
pub first_bytes : (old new : List (ℕ × ℕ)) (p : ℕ → Bool) → old ≡ [] → Adds old new (moved_to 0 p) → (k : ℕ) → is_in_ranges new k ≡ p k
first_bytes old new p e put k = put k ∙ ap (λ rs. is_in_ranges rs k || moved_to 0 p k) e ∙ moved-zero p k

-- without one, and without another
without_both : (p s o : Bool) → ((p && not s) && not o) ≡ (p && not (s || o))
without_both true true o = refl
without_both true false o = refl
without_both false s o = refl

-- what any variant covers and no shared field, without what this variant covers
pub unused_bytes : (t u : Typed) (i : ℕ) → IsVariantOfSeveral (layout_in t).variants i → u ≡ at_variant t i → (beside own rest : List (ℕ × ℕ))
    → ((k : ℕ) → is_in_ranges beside k ≡ (is_place t k && not (is_shared_place t k))) → ((k : ℕ) → is_in_ranges own k ≡ is_place u k)
    → ((k : ℕ) → is_in_ranges rest k ≡ (is_in_ranges beside k && not (is_in_ranges own k))) → (k : ℕ) → is_in_ranges rest k ≡ is_unused t i k
unused_bytes t u i several same beside own rest all mine left k =
    let (tag, encoding, at, layouts, e, lt) = beside_parts (layout_in t).variants i several in
    let covered : is_in_ranges own k ≡ is_place (variant_in t i) k = mine k ∙ ap (λ w. is_place w k) (same ∙ of_variant t i tag encoding at layouts e) in
    left k ∙ ap (λ b. b && not (is_in_ranges own k)) (all k) ∙ ap (λ b. (is_place t k && not (is_shared_place t k)) && not b) covered
    ∙ without_both (is_place t k) (is_shared_place t k) (is_place (variant_in t i) k) ∙ sym (unused_split t i k tag encoding at layouts e)

-- such a variant is one of the type's, one of those that are counted, and fits where the type does
pub beside_index : (vs : Variants ℕ ℕ) (i : ℕ) → IsVariantOfSeveral vs i → IsVariantIndex vs i
beside_index (Multiple tag encoding at layouts) i h = h
beside_index Empty i h = absurd h
beside_index (Single only) i h = absurd h

beside_count : (vs : Variants ℕ ℕ) (i : ℕ) → IsVariantOfSeveral vs i → i < variant_count vs
beside_count (Multiple tag encoding at layouts) i h = h
beside_count Empty i h = absurd h
beside_count (Single only) i h = absurd h

pub beside_counted : (l m : Layout) (i : ℕ) → l ≡ m → IsVariantOfSeveral m.variants i → i < variant_count l.variants
beside_counted l m i same h = subst (λ k. i < variant_count k.variants) (sym same) (beside_count m.variants i h)

pub beside_named : (vs : Variants ℕ ℕ) (i : ℕ) → IsVariantOfSeveral vs i → NamesVariant vs i
beside_named (Multiple tag encoding at layouts) i h = h
beside_named Empty i h = absurd h
beside_named (Single only) i h = absurd h

pub beside_fits : (t : Typed) (i : ℕ) → IsWellFormedType t → IsVariantOfSeveral (layout_in t).variants i → (layout_in t).size < 2 ^ 64 → (layout_in (at_variant t i)).size < 2 ^ 64
beside_fits t i law several fits =
    let (tag, encoding, at, layouts, e, lt) = beside_parts (layout_in t).variants i several in
    let all = variant_fits t i 0 tag encoding at layouts law e lt (omega (arith, fits)) in
    omega (arith, all)

-- what one variant more leaves unused
pub unused_more : (t : Typed) (n : ℕ) (sets : List (List (ℕ × ℕ))) (set : List (ℕ × ℕ)) → AreUnusedOf t n sets → ((k : ℕ) → is_in_ranges set k ≡ is_unused t n k)
    → AreUnusedOf t (n + 1) (sets ++ set ∷ [])
unused_more t n sets set h one = (
  length-append sets (set ∷ []) ∙ ap (λ m. m + 1) h.0,
  λ v k lt. ⊎_elim
      (λ less. ap (λ s. is_in_ranges s k) (get_or_append_left sets (set ∷ []) [] v (omega (arith, less, h.0))) ∙ h.1 v k less)
      (λ above. let at : n ≡ v = omega (arith, lt, above) in
      ap (λ s. is_in_ranges s k) (get_or_push sets set [] v (h.0 ∙ at)) ∙ one k ∙ ap (λ m. is_unused t m k) at)
      (cases_lt v n),
)
