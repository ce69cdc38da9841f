-- What follows of the way that a type with variants is laid out, and of the discriminants that are given.
use Rattle.std.proofs.Common.{◌≡◌, ℕ, ◌<◌, Bool, true, false, List, [], ◌∷◌, length, get_or, map, refl, sym, ap, subst, ◌∙◌, arith}
use Rattle.std.specs.Prelude.{All, IfOk, IsTrue, ℤ, Option, None, Some, Result, Ok, Err, is_some}
use Rattle.std.specs.Iterator.Runs.{EachRunFrom, WholeRun}
use Rattle.std.proofs.lemmas.List.{get_or-map, get_or_default, length-map}
use Rattle.std.proofs.lemmas.List.Elements.{All-filter, All-get_or, All-head}
use Rattle.std.proofs.lemmas.List.Sorted.{IsPermutation-refl}
use Rattle.abi_base.specs.declared.data_layout.TargetDataLayout.{TargetDataLayout}
use Rattle.abi_base.specs.declared.integer.Integer.{Integer}
use Rattle.abi_base.specs.declared.niche_optimizations.NicheOptimizations.{NicheOptimizations}
use Rattle.abi_base.specs.declared.struct_kind.StructKind.{StructKind}
use Rattle.abi_scalar.specs.declared.error.LayoutCalculatorError.{LayoutCalculatorError}
use Rattle.abi_scalar.specs.declared.layout_data.LayoutData.{LayoutData}
use Rattle.abi_scalar.specs.declared.repr.ReprOptions.{ReprOptions}
use Rattle.abi_scalar.specs.declared.variants.RangeFrom.{RangeFrom}
use Rattle.abi_scalar.specs.declared.variants.RangeToInclusive.{RangeToInclusive}
use Rattle.abi_scalar.specs.Order.{HasPlaceForEach, IsAscending}
use Rattle.abi_scalar.specs.Shape.{listed_offsets}
use Rattle.abi_univariant.specs.Apart.{AreApart}
use Rattle.abi_univariant.specs.Least.{IsLeastSize, LiesInSomeOrder}
use Rattle.abi_univariant.specs.Placement.{source_order}
use Rattle.abi_univariant.proofs.Sorted.Sorting.{within_order}
use Rattle.abi_calc.specs.declared.enums.strategy.EnumStrategy.{EnumStrategy}
use Rattle.abi_calc.specs.declared.enums.strategy.EnumStrategy.TheVariants.{NoValue, OneList, Several}
use Rattle.abi_calc.specs.Enums.Answer.{HasOneEach, IsGoodSingle, IsTypeAnswer, kind_at}
use Rattle.abi_calc.specs.Enums.EnumStrategy.{is_free, is_present, strategy_among, strategy_of, present_of, variant_at}
use Rattle.abi_calc.specs.Enums.Several.{IsSeveralAnswer}
use Rattle.abi_calc.specs.Enums.Single.{IsSingleAnswer, single_kind}

-- ---- where the variant lies whose list the type is

-- the variant is one of those that are present
among_one : (P : ℕ → Type 0) (free : Bool) (present : List ℕ) (i : ℕ) → strategy_among free present ≡ OneList i → All P present → P i
among_one P true [] i strategy all = absurd (cc)
among_one P false [] i strategy all = absurd (cc)
among_one P true (j ∷ []) i strategy all = let same : j ≡ i = cc in subst P same (All-head P j [] all)
among_one P false (j ∷ []) i strategy all = absurd (cc)
among_one P true (j ∷ k ∷ more) i strategy all = absurd (cc)
among_one P false (j ∷ k ∷ more) i strategy all = absurd (cc)

-- those that are present are variants
present_within : {F V : Type 0} (repr : ReprOptions) (variants : List (List (LayoutData F V))) → All (λ i. i < length variants) (present_of repr variants)
present_within repr variants =
    let n = length variants in
    All-filter (λ i. is_present repr (variant_at variants i)) (λ i. i < n) (source_order n) (within_order n (source_order n) (IsPermutation-refl (source_order n)))

-- the same of a type that is laid out so
pub index_within : {F V H : Type 0} (layout_of : H → LayoutData F V) (repr : ReprOptions) (variants : List (List H)) (is_enum : Bool) (i : ℕ) → (is_enum ≡ false → length variants ≡ 1)
    → strategy_of is_enum repr (map (map layout_of) variants) ≡ OneList i → i < length variants
index_within layout_of repr variants false i one strategy =
    let count : length variants ≡ 1 = one refl in
    let way : OneList 0 ≡ OneList i = strategy in
    let same : 0 ≡ i = cc in
    omega arith
index_within layout_of repr variants true i one strategy =
    let vs = map (map layout_of) variants in
    let below : i < length vs = among_one (λ i. i < length vs) (is_free repr) (present_of repr vs) i strategy (present_within repr vs) in
    omega (arith, below, length-map variants (map layout_of))

-- where variants are distinguished, there is one
pub several_some : {F V H : Type 0} (layout_of : H → LayoutData F V) (repr : ReprOptions) (variants : List (List H)) (is_enum : Bool)
    → strategy_of is_enum repr (map (map layout_of) variants) ≡ Several → 0 < length variants
several_some layout_of repr variants false strategy = let way : OneList 0 ≡ Several = strategy in absurd (cc)
several_some layout_of repr [] true strategy = let way : NoValue ≡ Several = strategy in absurd (cc)
several_some layout_of repr (v ∷ variants) true strategy = omega arith

-- ---- the list of one variant

-- The type is the list of the variant at a place: what was read there are that variant's fields, and the kind of their list.
pub record IsReadAt {H : Type 0} (is_enum always_sized : Bool) (variants : List (List H)) (strategy : EnumStrategy) (i : ℕ) (kind : StructKind) (fields : List H) : Type 0 where
  pub way : strategy ≡ OneList i
  pub kinds : kind ≡ kind_at is_enum always_sized variants i
  pub same : fields ≡ variant_at variants i

-- what is read at a place is the variant there
pub read_fields : {H : Type 0} (all variants : List (List H)) (i : ℕ) (item : List H) → all ≡ variants → i < length all → item ≡ get_or all i item → item ≡ variant_at variants i
read_fields all variants i item same short is = is ∙ get_or_default all i item [] short ∙ ap (λ vs. variant_at vs i) same

-- what holds of each field of each variant holds of those that were read
pub fields_hold : {H : Type 0} (P : H → Type 0) (all variants : List (List H)) (i : ℕ) (item fields : List H) → all ≡ variants → i < length all → item ≡ get_or all i item → fields ≡ item → All (All P) variants → All P fields
fields_hold P all variants i item fields same short is read each =
    let within : i < length variants = omega (arith, ap length same) in
    subst (All P) (sym (read ∙ read_fields all variants i item same short is)) (All-get_or (All P) variants i [] within each)

-- the list of what was read there
pub read_at : {H : Type 0} (is_enum always_sized : Bool) (all variants : List (List H)) (strategy : EnumStrategy) (i count : ℕ) (item fields : List H) (kind : StructKind) → strategy ≡ OneList i → all ≡ variants → i < length all
    → item ≡ get_or all i item → fields ≡ item → count ≡ length item → kind ≡ single_kind is_enum always_sized count → IsReadAt is_enum always_sized variants strategy i kind fields
read_at is_enum always_sized all variants strategy i count item fields kind way same short is read counted kinds =
    let here : item ≡ variant_at variants i = read_fields all variants i item same short is in
    record {
      way = way;
      kinds = kinds ∙ ap (single_kind is_enum always_sized) (counted ∙ ap length here);
      same = read ∙ here;
    }

-- the place is the one that the type's way names
same_place : {strategy : EnumStrategy} (i j : ℕ) → strategy ≡ OneList i → strategy ≡ OneList j → i ≡ j
same_place i j here there = cc

-- what holds of the list that was read holds of the one that the type's way names
pub at_listed : {H : Type 0} (P : StructKind → List H → Type 0) (is_enum always_sized : Bool) (variants : List (List H)) (strategy : EnumStrategy) (i : ℕ) (kind : StructKind) (fields : List H)
    → IsReadAt is_enum always_sized variants strategy i kind fields → P kind fields → (j : ℕ) → strategy ≡ OneList j → P (kind_at is_enum always_sized variants j) (variant_at variants j)
at_listed P is_enum always_sized variants strategy i kind fields read h j there =
    subst (λ k. P (kind_at is_enum always_sized variants k) (variant_at variants k)) (same_place i j read.way there)
    (subst (λ fs. P (kind_at is_enum always_sized variants i) fs) read.same (subst (λ k. P k fields) read.kinds h))

-- what is promised of one list
pub good_single : {F V H : Type 0} (layout_of : H → LayoutData F V) (at : ℕ → F) (number : F → ℕ) (dl : TargetDataLayout) (repr : ReprOptions) (kind : StructKind) (fields : List H) (r : Result (LayoutData F V) (LayoutCalculatorError H))
    → IfOk r (λ l. AreApart l.size (listed_offsets l.fields) (map (λ f. (layout_of f).size) fields)) → IfOk r (LiesInSomeOrder at dl repr kind (map layout_of fields))
    → IfOk r (λ l. IsLeastSize dl repr kind (map layout_of fields) l.size) → IfOk r (λ l. HasPlaceForEach l.fields) → IfOk r (λ l. IsAscending number l.fields)
    → IfOk r (IsGoodSingle layout_of at number dl repr kind fields)
good_single layout_of at number dl repr kind fields (Ok l) apart placed least places ascending = record { apart = apart; placed = placed; least = least; places = places; ascending = ascending }
good_single layout_of at number dl repr kind fields (Err e) apart placed least places ascending = tt

module _ {F V H : Type 0} (layout_of : H → LayoutData F V) (at : ℕ → F) (number : F → ℕ) (index : ℕ → V) (place : V → ℕ) (dl : TargetDataLayout) (repr : ReprOptions) (variants : List (List H))
    (is_enum always_sized : Bool) (optimizations : NicheOptimizations) (asks : RangeFrom ℤ → RangeToInclusive ℕ → Integer × Bool → Type 0) (gives : List (V × ℕ) → Type 0) (strategy : EnumStrategy)
    (r : Result (LayoutData F V) (LayoutCalculatorError H)) where
  -- the answer to one list is the answer to the type
  pub single_exact : (i : ℕ) (kind : StructKind) (fields : List H) (named : V) → IsReadAt is_enum always_sized variants strategy i kind fields → named ≡ index i
      → IsSingleAnswer layout_of at (index 0) named dl repr kind optimizations fields r
      → IsTypeAnswer layout_of at number index place dl repr variants is_enum always_sized optimizations asks gives strategy r
  single_exact i kind fields named read same h =
      subst (λ p. IsTypeAnswer layout_of at number index place dl repr variants is_enum always_sized optimizations asks gives p r) (sym read.way)
      (at_listed (λ k fs. IsSingleAnswer layout_of at (index 0) (index i) dl repr k optimizations fs r) is_enum always_sized variants strategy i kind fields read
      (subst (λ v. IsSingleAnswer layout_of at (index 0) v dl repr kind optimizations fields r) same h) i read.way)

  -- the answer to several variants is the answer to the type
  pub several_exact : (all : List (List H)) → strategy ≡ Several → all ≡ variants → IsSeveralAnswer layout_of at number index place dl repr asks all gives r
      → IsTypeAnswer layout_of at number index place dl repr variants is_enum always_sized optimizations asks gives strategy r
  several_exact all way same h =
      subst (λ p. IsTypeAnswer layout_of at number index place dl repr variants is_enum always_sized optimizations asks gives p r) (sym way)
      (subst (λ vs. IsSeveralAnswer layout_of at number index place dl repr asks vs gives r) same h)

-- ---- the discriminants that are given

-- each is that of one of the variants
pub each_named : {V : Type 0} (number : V → ℕ) (count : ℕ) (items : List (V × ℕ)) → HasOneEach number count items → All (λ item. number item.0 < count) items
each_named {V} number count items one k d short =
    let f : V × ℕ → ℕ = λ item. number item.0 in
    let long : k < length (map f items) = omega (arith, length-map items f) in
    let all : All (λ i. i < count) (map f items) = within_order count (map f items) one in
    subst (λ i. i < count) (get_or-map f items k d 0 short) (all k 0 long)

-- what isn't there is None
pub none_there : {T : Type 0} (o : Option T) → is_some o ≡ false → o ≡ None
none_there None missing = refl
none_there (Some x) missing = absurd (cc)

module _ {S A : Type 0} (steps : S → Option A → S → Type 0) (s : S) (list given : List A) (same : list ≡ given) (run : WholeRun steps s (λ run. given ≡ run.items)) where
  -- the list is what a whole run gives
  pub list_given : WholeRun steps s (λ run. list ≡ run.items)
  list_given = (run.0, run.1, run.2, same ∙ run.3)

  -- what holds of what each whole run gives holds of the list
  pub list_of_each : (P : List A → Type 0) → EachRunFrom steps s (λ run. IsTrue run.whole → P run.items) → P list
  list_of_each P each = subst P (sym (same ∙ run.3)) (each run.0 run.0.seen run.1 run.2)

  -- what holds of the list holds of what some whole run gives
  pub whole_of_list : (P : List A → Type 0) → P list → WholeRun steps s (λ run. P run.items)
  whole_of_list P h = (run.0, run.1, run.2, subst P (same ∙ run.3) h)

  -- the same of a value that is there
  pub whole_if_ok : {B E : Type 0} (P : B → List A → Type 0) (r : Result B E) → IfOk r (λ b. P b list) → IfOk r (λ b. WholeRun steps s (λ run. P b run.items))
  whole_if_ok P (Ok b) h = whole_of_list (P b) h
  whole_if_ok P (Err e) h = tt
