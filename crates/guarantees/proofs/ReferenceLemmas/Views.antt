-- How types that were laid out are seen: lists of sized fields, and that each type is sized.
use Rattle.std.proofs.Common.{◌≡◌, ℕ, ◌*◌, ◌<◌, ◌≤◌, Bool, true, false, List, [], ◌∷◌, Option, None, Some, length, map, refl, sym, ap, ap₂, ◌∙◌, subst, arith, mul-pos, inl, inr, ⊎_elim, zero, suc, Ok, Err, Result}
use Rattle.std.specs.Prelude.{◌==◌, ◌||◌, ◌⊎◌, ⊤, All, MatchOption, nat_lt, if◌then◌else◌}
use Rattle.std.proofs.lemmas.Bool.{cases_lt, eqb-false}
use Rattle.std.proofs.lemmas.List.{length-map}
use Rattle.std.proofs.lemmas.List.Elements.{All-cons, All-contains, All-head, All-nil, All-tail}
use Rattle.abi_base.specs.declared.data_layout.TargetDataLayout.{TargetDataLayout}
use Rattle.abi_base.specs.declared.niche_optimizations.NicheOptimizations.TheVariants.{Enabled}
use Rattle.abi_base.specs.declared.struct_kind.StructKind.{StructKind}
use Rattle.abi_base.specs.declared.struct_kind.StructKind.TheVariants.{AlwaysSized}
use Rattle.abi_base.specs.DataLayout.{size_bound}
use Rattle.abi_scalar.specs.declared.backend_repr.BackendRepr.{BackendRepr}
use Rattle.abi_scalar.specs.declared.backend_repr.BackendRepr.TheVariants.{Scalar as OneScalar, ScalarPair, SimdScalableVector, SimdVector, Memory}
use Rattle.abi_scalar.specs.declared.error.LayoutCalculatorError.{LayoutCalculatorError}
use Rattle.abi_scalar.specs.declared.error.LayoutCalculatorError.TheVariants.{OversizedSimdType, SizeOverflow, ZeroLengthSimdType}
use Rattle.abi_scalar.specs.declared.repr.ReprOptions.{ReprOptions}
use Rattle.abi_scalar.specs.declared.scalar.Scalar.{Scalar}
use Rattle.abi_scalar.specs.declared.variants.Variants.{Variants as LayoutVariants}
use Rattle.abi_scalar.specs.declared.variants.Variants.TheVariants.{Empty}
use Rattle.abi_scalar.specs.Repr.{is_abi_fixed}
use Rattle.abi_scalar.specs.LaneCount.{lane_count, max_lanes}
use Rattle.abi_scalar.specs.Shape.{listed_offsets}
use Rattle.abi_scalar.specs.Simple.{never_layout}
use Rattle.abi_scalar.specs.View.{union_view}
use Rattle.abi_univariant.specs.declared.part.Part.{Part}
use Rattle.abi_univariant.specs.Array.{elements_layout}
use Rattle.abi_univariant.specs.List.{IsUnivariantAnswer}
use Rattle.abi_univariant.specs.ListView.{any_unsized, bulky_parts, bulky_view, kept_view, list_view, pair_view, part_at, two_view}
use Rattle.abi_univariant.specs.declared.order.NicheBias.TheVariants.{Start}
use Rattle.abi_univariant.specs.Part.{is_unsized, part_of, parts_of as asked_of}
use Rattle.abi_univariant.specs.Placement.{IsAllowed, IsNonEmptyIfUnsized, fields_repr, start_of}
use Rattle.abi_univariant.specs.Simd.{after, element_scalar, if_below, is_tight, lanes_answer, simd_align, simd_answer, simd_view, vector_layout}
use Rattle.abi_univariant.specs.Union.{CountsForView, HasView, KeepsView}
use Rattle.abi_scalar.specs.Pair.{pair_size}
use Rattle.abi_calc.specs.Coroutine.Layout.{IsStateTag}
use Rattle.abi_calc.specs.declared.enums.strategy.EnumStrategy.{EnumStrategy}
use Rattle.abi_calc.specs.declared.enums.strategy.EnumStrategy.TheVariants.{NoValue, OneList, Several}
use Rattle.abi_calc.specs.declared.enums.payload.Payload.{Payload}
use Rattle.abi_calc.specs.declared.enums.payload.Payload.TheVariants.{Nothing, One, Other}
use Rattle.abi_calc.specs.Enums.Answer.{IsTypeAnswer}
use Rattle.abi_calc.specs.Enums.Choice.{IsNicheAnswer}
use Rattle.abi_calc.specs.Enums.Lists.{AreListLayouts}
use Rattle.abi_calc.specs.Enums.Niche.{needing_numbers, span_of, untagged_of, view_with}
use Rattle.abi_calc.specs.Enums.EnumStrategy.{strategy_of, variant_at}
use Rattle.abi_calc.specs.Enums.Payload.{beside_tag, common_of, tagged_view}
use Rattle.abi_calc.specs.Enums.Several.{IsAskedAnswer}
use Rattle.abi_calc.specs.Enums.Growth.{grown_tag, start_align}
use Rattle.abi_calc.specs.Enums.Tagged.{lists_align, lists_size, payloads_of}
use Rattle.abi_base.specs.declared.integer.Integer.{Integer}
use Rattle.abi_base.specs.declared.primitive.Primitive.TheVariants.{Int}
use Rattle.abi_base.specs.Integer.{integer_size}
use Rattle.abi_scalar.specs.declared.scalar.Scalar.TheVariants.{Initialized}
use Rattle.abi_scalar.specs.Scalar.{scalar_size}
use Rattle.abi_tree.specs.Placed.{Placed, layout_of, size_of, vector as placed_vector}
use Rattle.abi_scalar.specs.Layout.{Layout}
use Rattle.abi_tree.specs.Tree.{Tree, Trees, no_trees, more_trees, Variants, no_variants, more_variants, scalar, pair, never, unit, array, vector, struct, union, enum, coroutine}
use Rattle.rustc_abi.specs.Enums.{IsEnumed, IsTagIntegerAnswer as IsAsking, discriminants_of, layouts_of, numbered_from}
use Rattle.rustc_abi.specs.Laying.{AreLaying, IsLaying, IsLaidList, IsListedInOrder, IsUnited, VariantsLaying, enum_fault, fields_fault, kind_of, one_scalar, ordered_fault, placed_enum, placed_fields, placed_together, placed_variants, with_randomize_flag, IsCoroutineOf, coroutine_fault, lanes_of, placed_by, placed_coroutine, vector_answer}
use Rattle.rustc_abi.specs.Coroutines.{IsCoroutined}
use Rattle.rustc_abi.specs.Error.{Follows, lay_error, named}
use Rattle.rustc_abi.specs.declared.error.LayError.{LayError}
use Rattle.rustc_abi.specs.ScalarFault.{scalar_fault}
use Rattle.guarantees.proofs.ReferenceLemmas.Answers.{faultless, inj-Ok, laid_by, no_error}
use Rattle.guarantees.proofs.ReferenceLemmas.Arrays.{elements_there}
use Rattle.guarantees.proofs.ReferenceLemmas.Beside.{two_faultless}
use Rattle.guarantees.proofs.ReferenceLemmas.Niches.{HasNicheIn, run_niche}
use Rattle.guarantees.proofs.ReferenceLemmas.Over.{asked_count, list_count}
use Rattle.guarantees.proofs.ReferenceLemmas.Rows.{permutes}
use Rattle.abi_univariant.proofs.Offsets.Rounding.{rounded_to}
use Rattle.guarantees.proofs.ReferenceLemmas.Several.{several_is}
use Rattle.guarantees.proofs.ReferenceLemmas.Variants.{better_has, inj-answer, no_layout, of_span}

abbrev calculated : Layout → Result Layout (LayoutCalculatorError Layout)
calculated l = Ok l

abbrev counting : ℕ → Result ℕ (LayoutCalculatorError Layout)
counting n = Ok n

-- what is answered after an answer
after_is : {A B E : Type 0} (r : Result A E) (next : A → Result B E) (b : B) → after r next ≡ Ok b → (a : A) × (r ≡ Ok a) × (next a ≡ Ok b)
after_is (Ok a) next b e = (a, refl, e)
after_is (Err x) next b e = absurd (cc)

if_ok : {A E : Type 0} (c : Bool) (x l : A) (error : E) → (if c then Ok x else Err error) ≡ Ok l → x ≡ l
if_ok true x l error e = cc
if_ok false x l error e = absurd (cc)

positive_product : (m n : ℕ) → 0 < m → 0 < n → 0 < m * n
positive_product m n p q = mul-pos p q

one_scalar_view : (h : Layout) (view : BackendRepr) (s : Scalar) → element_scalar h view ≡ Ok s → view ≡ OneScalar s
one_scalar_view h (OneScalar t) s e = let same : t ≡ s = cc in ap OneScalar same
one_scalar_view h _ s e = absurd (cc)

-- ---- the view of a list of sized fields

abbrev pub IsPlain : BackendRepr → (size : ℕ) → Type 0
IsPlain (OneScalar s) size = ⊤
IsPlain (ScalarPair a b offset) size = ⊤
IsPlain (SimdVector element count) size = 0 < size
IsPlain (SimdScalableVector element count vectors) size = ⊥
IsPlain (Memory sized) size = sized ≡ true

pub plain_sized : (view : BackendRepr) (size : ℕ) → IsPlain view size → is_unsized view ≡ false
plain_sized (SimdScalableVector element count vectors) size h = absurd h
plain_sized (Memory true) size h = refl
plain_sized (Memory false) size h = absurd (cc)
plain_sized _ size h = refl

pub plain_either : (b : Bool) (v w : BackendRepr) (size : ℕ) → IsPlain v size → IsPlain w size → IsPlain (if b then v else w) size
plain_either true v w size h k = h
plain_either false v w size h k = k

plain_kept : (fixed : Bool) (view : BackendRepr) (size : ℕ) → 0 < size → IsPlain (kept_view fixed view) size
plain_kept true (OneScalar s) size some = refl
plain_kept false (OneScalar s) size some = tt
plain_kept true (SimdVector element count) size some = refl
plain_kept false (SimdVector element count) size some = some
plain_kept fixed (ScalarPair a b offset) size some = tt
plain_kept fixed (SimdScalableVector element count vectors) size some = refl
plain_kept fixed (Memory sized) size some = refl

module _ (dl : TargetDataLayout) where
  pub plain_pair : (size align low : ℕ) (a : Scalar) (high : ℕ) (b : Scalar) → IsPlain (pair_view dl size align low a high b) size
  plain_pair size align low a high b = plain_either _ (ScalarPair a b _) (Memory true) size tt refl

  plain_two : (size align first : ℕ) (v : BackendRepr) (second : ℕ) (w : BackendRepr) → IsPlain (two_view dl size align first v second w) size
  plain_two size align first (OneScalar a) second (OneScalar b) =
      plain_either (nat_lt first second) (pair_view dl size align first a second b) (pair_view dl size align second b first a) size
      (plain_pair size align first a second b) (plain_pair size align second b first a)
  plain_two size align first v second w = refl

  plain_bulky : (fixed : Bool) (size align : ℕ) (parts : List Part) (offsets bulky : List ℕ) → 0 < size → IsPlain (bulky_view dl fixed size align parts offsets bulky) size
  plain_bulky fixed size align parts offsets [] some = refl
  plain_bulky fixed size align parts offsets (i ∷ []) some =
      plain_either _ (kept_view fixed (part_at parts i).view) (Memory true) size (plain_kept fixed (part_at parts i).view size some) refl
  plain_bulky fixed size align parts offsets (i ∷ j ∷ []) some = plain_two size align _ (part_at parts i).view _ (part_at parts j).view
  plain_bulky fixed size align parts offsets (i ∷ j ∷ k ∷ more) some = refl

  plain_list : (fixed : Bool) (size align : ℕ) (parts : List Part) (offsets : List ℕ) → any_unsized parts ≡ false → IsPlain (list_view dl fixed size align parts offsets) size
  plain_list fixed size align parts offsets none = by (any_unsized parts) none (size == 0) refl
    where
      positive : (n : ℕ) → (n == 0) ≡ false → 0 < n
      positive n f = ⊎_elim (λ (lt : 0 < n). lt) (λ (le : n ≤ 0). absurd (eqb-false n 0 f (omega (arith, le)))) (cases_lt 0 n)

      by : (u : Bool) → u ≡ false → (b : Bool) → (size == 0) ≡ b
          → IsPlain (if u then Memory false else (if b then Memory true else bulky_view dl fixed size align parts offsets (bulky_parts parts))) size
      by true e b is = absurd (cc)
      by false e true is = refl
      by false e false is = plain_bulky fixed size align parts offsets (bulky_parts parts) (positive size is)

-- ---- each type is sized

abbrev pub IsSeenSized : Placed → Type 0
IsSeenSized p = is_unsized (layout_of p).backend_repr ≡ false

-- as the calculator's layout is
pub layout_there : (dl : TargetDataLayout) (repr : ReprOptions) (numbers : List ℕ) (variants : List (List Placed)) (layout : Layout) (vs : LayoutVariants ℕ ℕ)
    → layout_of (placed_variants dl repr numbers variants layout vs) ≡ layout
layout_there dl repr numbers variants layout Empty = refl
layout_there dl repr numbers variants layout _ = refl

module _ (dl : TargetDataLayout) where
  pub all_sized : (ps : List Placed) → All IsSeenSized ps → any_unsized (asked_of dl (map layout_of ps)) ≡ false
  all_sized [] h = refl
  all_sized (p ∷ ps) h = ap₂ (λ a b. a || b) (All-head IsSeenSized p ps h) (all_sized ps (All-tail IsSeenSized p ps h))

  pub plain_answer : (repr : ReprOptions) (kind : StructKind) (ps : List Placed) (l : Layout) → All IsSeenSized ps → IsUnivariantAnswer layout_of (λ i. i) 0 dl repr kind ps (Ok l)
      → IsPlain l.backend_repr l.size
  plain_answer repr kind ps l all (order, offsets, h) =
      subst (λ v. IsPlain v l.size) (sym h.view)
      (plain_list dl (is_abi_fixed repr) l.size l.align.abi (asked_of dl (map layout_of ps)) offsets (all_sized ps all))

  list_sized : (repr : ReprOptions) (kind : StructKind) (ps : List Placed) (l : Layout) → All IsSeenSized ps → IsUnivariantAnswer layout_of (λ i. i) 0 dl repr kind ps (Ok l)
      → is_unsized l.backend_repr ≡ false
  list_sized repr kind ps l all h = plain_sized l.backend_repr l.size (plain_answer repr kind ps l all h)

  -- ---- structs

  -- it begins at 0, and one that may lose its size has a field
  no_start : (always_sized : Bool) (ps : List Placed) → start_of None (kind_of always_sized ps) ≡ 0
  no_start always_sized [] = refl
  no_start true (p ∷ ps) = refl
  no_start false (p ∷ ps) = refl

  some_field : (always_sized : Bool) (ps : List Placed) → IsNonEmptyIfUnsized (kind_of always_sized ps) (length (asked_of dl (map layout_of ps)))
  some_field always_sized [] = tt
  some_field true (p ∷ ps) = tt
  some_field false (p ∷ ps) = omega arith

  -- A struct: its fields by themselves, and the view and the niche of its list.
  pub record IsSeenStruct (repr : ReprOptions) (all : Trees) (whole : Placed) : Type 0 where
    pub fields : List Placed
    pub layout : Layout
    pub are : AreLaying dl all (Ok fields)
    pub by : ReprOptions
    pub alike : (by ≡ repr) ⊎ (by ≡ with_randomize_flag repr)
    pub offsets : List ℕ
    pub at : listed_offsets layout.fields ≡ offsets
    pub count : length (listed_offsets layout.fields) ≡ length fields
    pub view : layout.backend_repr ≡ list_view dl (is_abi_fixed by) layout.size layout.align.abi (asked_of dl (map layout_of fields)) offsets
    pub kind : StructKind
    pub starts : start_of None kind ≡ 0
    pub niche : HasNicheIn dl by kind (asked_of dl (map layout_of fields)) layout.largest_niche
    pub is : placed_fields repr fields layout ≡ whole

  pub struct_seen : (repr : ReprOptions) (always_sized : Bool) (order : Option (List ℕ)) (all : Trees) (p : Placed)
      → IsLaying dl (struct repr always_sized order all) (Ok p) → IsSeenStruct repr all p
  struct_seen repr always_sized order all p (inl f) = absurd (cc f.2)
  struct_seen repr always_sized None all p (inr (ps, there, answer)) =
      let found = laid_by (fields_fault repr ps) (IsLaidList dl repr (kind_of always_sized ps) (map layout_of ps)) (placed_fields repr ps) p answer in
      let l = found.1.2 in
      record {
        fields = ps;
        layout = found.0;
        are = there;
        by = repr;
        alike = inl refl;
        offsets = found.1.1;
        at = ap listed_offsets l.shape;
        count = list_count dl repr always_sized ps found.0 found.1;
        view = l.view;
        kind = kind_of always_sized ps;
        starts = no_start always_sized ps;
        niche = run_niche dl repr (kind_of always_sized ps) (asked_of dl (map layout_of ps)) l.named.0 found.1.0 found.1.1 found.0.size found.0.align.abi found.0.largest_niche
            (some_field always_sized ps) l.named.1 l.named.3;
        is = found.2;
      }
  struct_seen repr always_sized (Some order) all p (inr (ps, there, answer)) =
      let found = laid_by (ordered_fault repr ps) (IsListedInOrder dl (with_randomize_flag repr) (kind_of always_sized ps) order (map layout_of ps)) (placed_fields repr ps) p answer in
      let l = found.1.1 in
      record {
        fields = ps;
        layout = found.0;
        are = there;
        by = with_randomize_flag repr;
        alike = inr refl;
        offsets = found.1.0;
        at = ap listed_offsets l.shape;
        count = ap length (ap listed_offsets l.shape) ∙ l.named.1.count ∙ asked_count dl ps;
        view = l.view;
        kind = kind_of always_sized ps;
        starts = no_start always_sized ps;
        niche = record {
          bias = Start;
          order = order;
          permutes = permutes (fields_repr dl (with_randomize_flag repr) (kind_of always_sized ps)) (length (asked_of dl (map layout_of ps))) order
              (subst (λ n. IsAllowed (fields_repr dl (with_randomize_flag repr) (kind_of always_sized ps)) n order) (sym (length-map (map layout_of ps) (λ f. part_of dl f))) l.named.0);
          is = l.named.1.largest;
        };
        is = found.2;
      }

  -- sized, and seen as such a list, where its fields are sized
  pub struct_plain : (repr : ReprOptions) (all : Trees) (p : Placed) → (s : IsSeenStruct repr all p) → All IsSeenSized s.fields
      → IsPlain (layout_of p).backend_repr (size_of p)
  struct_plain repr all p s sized =
      subst (λ q. IsPlain (layout_of q).backend_repr (size_of q)) s.is
      (subst (λ view. IsPlain view s.layout.size) (sym s.view)
      (plain_list dl (is_abi_fixed s.by) s.layout.size s.layout.align.abi (asked_of dl (map layout_of s.fields)) s.offsets (all_sized s.fields sized)))

  -- ---- vectors, unions

  abbrev pub seen : Layout → Bool
  seen l = is_unsized l.backend_repr

  union_sized : (view : BackendRepr) → is_unsized (union_view view) ≡ false
  union_sized (OneScalar s) = refl
  union_sized _ = refl

  kept_common : (repr : ReprOptions) (layouts : List Layout) (view : BackendRepr) → KeepsView dl repr layouts view → is_unsized view ≡ false
  kept_common repr layouts view h =
      let c = h.common.1 in
      let f : Layout = c.some.0 in
      let own = All-contains (λ l. CountsForView l → HasView view h.common.0 l) layouts f c.all c.some.1 in
      ap is_unsized (sym (own c.some.2).0) ∙ union_sized f.backend_repr

  -- ---- enums

  tagged_sized : (tag : Scalar) (size align : ℕ) (payload : Payload) → is_unsized (beside_tag dl tag size align payload) ≡ false
  tagged_sized tag size align Nothing = refl
  tagged_sized tag size align (One s offset) = plain_sized _ size (plain_pair dl size align 0 tag offset s)
  tagged_sized tag size align Other = refl

  sized_either : (b : Bool) (v w : BackendRepr) → is_unsized v ≡ false → is_unsized w ≡ false → is_unsized (if b then v else w) ≡ false
  sized_either true v w e f = e
  sized_either false v w e f = f

  view_sized : (tag : Scalar) (size align : ℕ) (payloads : List Payload) → is_unsized (tagged_view dl tag size align payloads) ≡ false
  view_sized tag size align payloads =
      sized_either (scalar_size dl tag == size) (OneScalar tag) (beside_tag dl tag size align (common_of dl payloads)) refl
      (tagged_sized tag size align (common_of dl payloads))

  with_sized : (offset : ℕ) (tag : Scalar) (view : BackendRepr) → is_unsized (view_with offset tag view) ≡ false
  with_sized offset tag (OneScalar s) = refl
  with_sized offset tag (ScalarPair a b b_offset) = sized_either (offset == 0) _ _ refl refl
  with_sized offset tag _ = refl

  niche_sized : (repr : ReprOptions) (variants : List (List Placed)) (found : Option Layout) (n : Layout) → found ≡ Some n
      → IsNicheAnswer AreListLayouts layout_of (λ i. i) (λ i. i) dl repr variants found → is_unsized n.backend_repr ≡ false
  niche_sized repr variants found n is (inl h) = absurd (no_layout n (sym h.1 ∙ is))
  niche_sized repr variants found n is (inr (inl h)) = absurd (no_layout n (sym h.3 ∙ is))
  niche_sized repr variants found n is (inr (inr (free, lists, are, e))) =
      of_span dl repr (untagged_of lists) lists (λ l. is_unsized l.backend_repr ≡ false)
      (λ span list niche vs made. sized_either _ _ (Memory true) (with_sized niche.offset _ list.backend_repr) refl)
      (span_of (needing_numbers (untagged_of lists) (layouts_of variants))) n (sym e ∙ is)

  asked_sized : (repr : ReprOptions) (values : List ℕ) (variants : List (List Placed)) (l : Layout)
      → IsAskedAnswer layout_of (λ i. i) (λ i. i) 0 dl repr (IsAsking dl repr) values variants (Ok l) → is_unsized l.backend_repr ≡ false
  asked_sized repr values variants l (asked, signed, for, (lists, are, by)) =
      let grown : Integer = grown_tag dl repr asked (start_align (λ i. i) (layouts_of variants) lists) in
      ap (λ (k : Layout). is_unsized k.backend_repr) by.ranged.2
      ∙ view_sized (Initialized (Int grown signed) by.ranged.0) (lists_size dl lists) (lists_align dl lists)
      (payloads_of dl (integer_size asked) (integer_size grown) (layouts_of variants) lists)

  pub at_index : (variants : List (List Placed)) (i : ℕ) → All (All IsSeenSized) variants → All IsSeenSized (variant_at variants i)
  at_index [] i all = All-nil IsSeenSized
  at_index (v ∷ vs) zero all = All-head (All IsSeenSized) v vs all
  at_index (v ∷ vs) (suc i) all = at_index vs i (All-tail (All IsSeenSized) v vs all)

  on_path : (repr : ReprOptions) (numbers : List ℕ) (strategy : EnumStrategy) (variants : List (List Placed)) (layout : Layout) → All (All IsSeenSized) variants
      → IsTypeAnswer layout_of (λ i. i) (λ i. i) (λ i. i) (λ i. i) dl repr variants true true Enabled (IsAsking dl repr) (λ items. items ≡ numbered_from 0 numbers) strategy (Ok layout)
      → is_unsized layout.backend_repr ≡ false
  on_path repr numbers NoValue variants layout all e = ap seen (inj-answer layout (never_layout dl) e)
  on_path repr numbers (OneList i) variants layout all e =
      ap seen e.2 ∙ list_sized repr AlwaysSized (variant_at variants i) e.0 (at_index variants i all) e.1
  on_path repr numbers Several variants layout all e =
      let b = several_is dl repr numbers variants layout e in
      ap seen b.is
      ∙ better_has dl (λ l. seen l ≡ false) b.tagged b.niche (asked_sized repr _ variants b.tagged b.asked)
      (λ n some. niche_sized repr variants b.niche n some b.beside)

  -- ---- each type

  -- the calculator's layout that was answered
  pub layout_of_answer : (r : Result Layout (LayoutCalculatorError Layout)) (p : Placed) (make : Layout → Placed) → Ok p ≡ placed_by make (named r)
      → (layout : Layout) × (r ≡ Ok layout) × (p ≡ make layout)
  layout_of_answer (Ok layout) p make e = (layout, refl, inj-Ok p (make layout) e)
  layout_of_answer (Err error) p make e = absurd (no_error p (lay_error error) e)

  -- A vector: it is sized, and has bytes where its element, a scalar, has them.
  pub record IsVector (q : Placed) (layout : Layout) : Type 0 where
    pub element : Scalar
    pub is : (layout_of q).backend_repr ≡ OneScalar element
    pub sized : is_unsized layout.backend_repr ≡ false
    pub plain : 0 < (layout_of q).size → IsPlain layout.backend_repr layout.size

  pub vector_is : (lanes : ℕ) (packed : Bool) (q : Placed) (layout : Layout) → simd_answer (λ l. l) 0 0 dl (layout_of q) lanes packed ≡ Ok layout → IsVector q layout
  vector_is lanes packed q layout e =
      let found = after_is (lanes_answer (λ (l : Layout). l) (size_bound dl) (layout_of q) lanes)
      (λ l. if_below (size_bound dl) (vector_layout 0 0 (layout_of q) (simd_view packed l) l.size (simd_align dl packed l) l.count)) layout e in
      let own : Layout = vector_layout 0 0 (layout_of q) (simd_view packed found.0) found.0.size (simd_align dl packed found.0) found.0.count in
      let is : own ≡ layout = if_ok (nat_lt own.size (size_bound dl)) own layout SizeOverflow found.2 in
      let counted = after_is (lane_count lanes) _ found.0 found.1 in
      let scalar_found = after_is (element_scalar (layout_of q) (layout_of q).backend_repr) _ found.0 counted.2 in
      let made = if_ok (nat_lt ((layout_of q).size * counted.0) (size_bound dl)) _ found.0 SizeOverflow scalar_found.2 in
      let size : (layout_of q).size * counted.0 ≡ found.0.size = ap (λ l. l.size) made in
      let above : found.0.size ≤ own.size = (rounded_to found.0.size (simd_align dl packed found.0)).above in
      record {
        element = scalar_found.0;
        is = one_scalar_view (layout_of q) (layout_of q).backend_repr scalar_found.0 scalar_found.1;
        sized = ap seen (sym is) ∙ sized_either (is_tight packed found.0.count) (Memory true) (SimdVector found.0.scalar found.0.count) refl refl;
        plain = λ some. subst (λ (l : Layout). IsPlain l.backend_repr l.size) is
            (plain_either (is_tight packed found.0.count) (Memory true) (SimdVector found.0.scalar found.0.count) own.size refl
            (let bytes : 0 < (layout_of q).size * counted.0 = positive_product (layout_of q).size counted.0 some (some_lanes lanes counted.0 counted.1) in
            omega (arith, bytes, size, above)));
      }
    where
      some_lanes : (lanes m : ℕ) → lane_count {F = Layout} lanes ≡ Ok m → 0 < m
      some_lanes lanes m e = by (nat_lt max_lanes lanes) (lanes == 0) refl e
        where
          by : (many none : Bool) → (lanes == 0) ≡ none
              → (if many then Err (OversizedSimdType max_lanes) else (if none then Err ZeroLengthSimdType else Ok lanes)) ≡ counting m → 0 < m
          by true none is e = absurd (cc)
          by false true is e = absurd (cc)
          by false false is e =
              let same : lanes ≡ m = cc in
              ⊎_elim (λ (lt : 0 < m). lt) (λ (le : m ≤ 0). absurd (eqb-false lanes 0 is (omega (arith, le, same)))) (cases_lt 0 m)

  vector_there : (lanes : ℕ) (packed : Bool) (q p : Placed) → Ok p ≡ vector_answer dl lanes packed q → IsSeenSized p
  vector_there lanes packed q p e =
      let l = layout_of_answer (simd_answer (λ (l : Layout). l) 0 0 dl (layout_of q) lanes packed) p (λ layout. placed_vector layout (lanes_of lanes q)) e in
      ap (λ r. seen (layout_of r)) l.2 ∙ (vector_is lanes packed q l.0 l.1).sized

  pub coroutine_there : (pres ps : List Placed) (states : List (List ℕ)) (conflicts : List (ℕ × ℕ)) (p : Placed) → IsCoroutineOf dl pres ps states conflicts (Ok p)
      → (layout_of p).backend_repr ≡ Memory true
  coroutine_there pres ps states conflicts p h = by (coroutine_fault (length pres) (length ps) states conflicts) h
    where
      by : (fault : Option LayError) → MatchOption fault
          ((tag : Scalar) × IsStateTag (length states) tag
          × Follows (IsCoroutined dl pres tag (one_scalar dl tag) ps states conflicts) (λ layout r. r ≡ Ok (placed_coroutine dl pres tag ps states layout)) (Ok p))
          (λ e. Ok p ≡ Err e) → (layout_of p).backend_repr ≡ Memory true
      by None (tag, least, inl f) = absurd (cc f.2)
      by None (tag, least, inr (layout, made, e)) =
          ap (λ r. (layout_of r).backend_repr) (inj-Ok p (placed_coroutine dl pres tag ps states layout) e) ∙ ap (λ (l : Layout). l.backend_repr) made.5
      by (Some f) e = absurd (no_error p f e)

  mutual
    pub sized : (t : Tree) (p : Placed) → IsLaying dl t (Ok p) → IsSeenSized p
    sized (scalar s) p h = ap (λ q. seen (layout_of q)) (faultless (one_scalar dl s) p (scalar_fault dl s) h)
    sized (pair a b) p h =
        ap (λ q. seen (layout_of q)) (two_faultless dl a b p (scalar_fault dl a) (scalar_fault dl b) (nat_lt (pair_size dl a b) (size_bound dl)) h)
    sized never p h = ap (λ q. seen (layout_of q)) (inj-Ok p _ h)
    sized unit p h = ap (λ q. seen (layout_of q)) (inj-Ok p _ h)
    sized (array count element) p (inl f) = absurd (cc f.2)
    sized (array count element) p (inr (q, there, e)) =
        ap (λ q. seen (layout_of q))
        (sym (elements_there (nat_lt (size_of q * count) (size_bound dl)) count (elements_layout 0 true count (layout_of q)) q p e))
    sized (vector lanes packed element) p (inl f) = absurd (cc f.2)
    sized (vector lanes packed element) p (inr (q, there, e)) = vector_there lanes packed q p e
    sized (struct repr always_sized order all) p h =
        let s = struct_seen repr always_sized order all p h in
        plain_sized _ (size_of p) (struct_plain repr all p s (each_sized all s.fields s.are))
    sized (union repr all) p (inl f) = absurd (cc f.2)
    sized (union repr all) p (inr (ps, there, answer)) =
        let found = laid_by (fields_fault repr ps) (IsUnited dl repr (map layout_of ps)) (placed_together repr ps) p answer in
        ap (λ q. seen (layout_of q)) (sym found.2)
        ∙ ⊎_elim (λ (k : KeepsView dl repr (map (λ l. l) (map layout_of ps)) found.0.backend_repr). kept_common repr (map (λ l. l) (map layout_of ps)) found.0.backend_repr k)
        (λ k. ap is_unsized k.0) found.1.1
    sized (enum repr all) p (inl f) = absurd (cc f.2)
    sized (enum repr all) p (inr (variants, there, answer)) =
        let numbers = discriminants_of all in
        let found = laid_by (enum_fault dl repr numbers variants) (IsEnumed dl repr numbers variants) (placed_enum dl repr numbers variants) p answer in
        ap (λ q. seen (layout_of q)) (sym found.2) ∙ ap seen (layout_there dl repr numbers variants found.0 found.0.variants)
        ∙ on_path repr numbers (strategy_of true repr (layouts_of variants)) variants found.0 (variants_sized all variants there) found.1
    sized (coroutine prefix locals states conflicts) p (inl f) = absurd (cc f.2)
    sized (coroutine prefix locals states conflicts) p (inr (pres, there, inl f)) = absurd (cc f.2)
    sized (coroutine prefix locals states conflicts) p (inr (pres, there, inr (ps, here, answer))) = ap is_unsized (coroutine_there pres ps states conflicts p answer)

    pub each_sized : (ts : Trees) (ps : List Placed) → AreLaying dl ts (Ok ps) → All IsSeenSized ps
    each_sized no_trees [] h = All-nil IsSeenSized
    each_sized no_trees (p ∷ ps) h = absurd (cc h)
    each_sized (more_trees t ts) ps (inl f) = absurd (cc f.2)
    each_sized (more_trees t ts) ps (inr (q, here, inl f)) = absurd (cc f.2)
    each_sized (more_trees t ts) ps (inr (q, here, inr (rest, later, is))) =
        subst (All IsSeenSized) (let same : q ∷ rest ≡ ps = cc in same) (All-cons IsSeenSized q rest (sized t q here) (each_sized ts rest later))

    pub variants_sized : (all : Variants) (variants : List (List Placed)) → VariantsLaying dl all (Ok variants) → All (All IsSeenSized) variants
    variants_sized no_variants [] h = All-nil (All IsSeenSized)
    variants_sized no_variants (v ∷ vs) h = absurd (cc h)
    variants_sized (more_variants d ts others) variants (inl f) = absurd (cc f.2)
    variants_sized (more_variants d ts others) variants (inr (ps, here, inl f)) = absurd (cc f.2)
    variants_sized (more_variants d ts others) variants (inr (ps, here, inr (rest, later, is))) =
        subst (All (All IsSeenSized)) (let same : ps ∷ rest ≡ variants = cc in same)
        (All-cons (All IsSeenSized) ps rest (each_sized ts ps here) (variants_sized others rest later))
