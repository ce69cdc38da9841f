-- How enums are laid out, once the fields of their variants are.
use Rattle.std.proofs.Common.{◌≡◌, ℕ, List, [], ◌∷◌, map, length, None, true, refl, sym, ap, subst, ◌∙◌, inl, inr, All, Ok, Err, Result, ⊎_elim, Bool, Some}
use Rattle.std.specs.Prelude.{ℤ, ◌⊎◌}
use Rattle.std.proofs.lemmas.List.Elements.{All-map, All-weaker}
use Rattle.std.proofs.lemmas.List.{length-map}
use Rattle.abi_base.specs.declared.data_layout.TargetDataLayout.{TargetDataLayout}
use Rattle.abi_base.specs.declared.integer.Integer.{Integer}
use Rattle.abi_base.specs.declared.niche_optimizations.NicheOptimizations.TheVariants.{Enabled}
use Rattle.abi_base.specs.DataLayout.{IsLawfulDataLayout}
use Rattle.abi_scalar.specs.declared.error.LayoutCalculatorError.{LayoutCalculatorError}
use Rattle.abi_scalar.specs.declared.repr.ReprOptions.{ReprOptions}
use Rattle.abi_scalar.specs.declared.variants.RangeFrom.{RangeFrom}
use Rattle.abi_scalar.specs.declared.variants.RangeToInclusive.{RangeToInclusive}
use Rattle.abi_scalar.specs.Lawful.{IsLawfulLayout}
use Rattle.abi_calc.specs.declared.enums.strategy.EnumStrategy.{EnumStrategy}
use Rattle.abi_calc.specs.declared.enums.strategy.EnumStrategy.TheVariants.{NoValue, OneList, Several}
use Rattle.abi_calc.specs.Enums.Answer.{IsTypeAnswer}
use Rattle.abi_calc.specs.Enums.EnumStrategy.{strategy_of}
use Rattle.abi_calc.proofs.EnumLemmas.SameType.{IsSameError, same_type, same_type_error}
use Rattle.rustc_abi.specs.declared.error.LayError.{LayError}
use Rattle.rustc_abi.specs.declared.error.LayError.TheVariants.{OutOfMemory}
use Rattle.std.specs.Prelude.{Vec}
use Rattle.std.specs.declared.alloc.Global.{Global}
use Rattle.abi_tree.specs.declared.node.Node.{Node}
use Rattle.abi_tree.specs.Tree.{Variants, enum}
use Rattle.abi_tree.specs.Placed.{Placed, layout_of}
use Rattle.abi_scalar.specs.Layout.{Layout}
use Rattle.rustc_abi.specs.Error.{IsRefused, lay_error}
use Rattle.rustc_abi.specs.Enums.{IsCalculated, IsEnumed, IsTagIntegerAnswer, discriminants_of, layouts_of, numbered_from}
use Rattle.rustc_abi.specs.Laying.{IsEnumOf, IsLaying, VariantsLaying, enum_fault, placed_enum}
use Rattle.abi_tree.specs.Well.{IsPut}
use Rattle.rustc_abi.specs.Adding.{HasWellFormedTag, HasVariants, IsAdded, VariantsFit, variants_in}
use Rattle.abi_tree.specs.Nodes.{placed_in, types_in}
use Rattle.rustc_abi.proofs.Enums.CalculatedLemmas.{calculated_fits, calculated_tag, calculated_variants}
use Rattle.rustc_abi.proofs.Trees.LaidLemmas.{aligns_of, each_of, numbers_for, tags_of}
use Rattle.rustc_abi.proofs.Trees.LayLemmas.{VariantsFit-lawful, IsAdded-put}
use Rattle.rustc_abi.proofs.Trees.ListLemmas.{All-from_map}
use Rattle.abi_scalar.specs.declared.error.LayoutCalculatorError.TheVariants as calculator

-- the calculator's refusal is the enum's
pub enum_refused : (dl : TargetDataLayout) (repr : ReprOptions) (numbers : List ℕ) (variants : List (List Placed)) (e : LayError) → enum_fault dl repr numbers variants ≡ None →
    IsRefused (IsEnumed dl repr numbers variants) e → IsRefused (IsEnumOf dl repr numbers variants) e
enum_refused dl repr numbers variants e faultless (inl memory) = inl memory
enum_refused dl repr numbers variants e faultless (inr f) = inr (rw faultless (inl (e, f, refl)))

-- an enum's refusal is the tree's
pub enum_tree_refused : (dl : TargetDataLayout) (repr : ReprOptions) (all : Variants) (variants : List (List Placed)) (e : LayError) → VariantsLaying dl all (Ok variants) →
    IsRefused (IsEnumOf dl repr (discriminants_of all) variants) e → IsRefused (IsLaying dl (enum repr all)) e
enum_tree_refused dl repr all variants e exact (inl memory) = inl memory
enum_tree_refused dl repr all variants e exact (inr f) = inr (inr (variants, exact, f))

-- what nodes an enum's layout asks for
pub enumed_nodes : (dl : TargetDataLayout) → IsLawfulDataLayout dl → (repr : ReprOptions) (numbers : List ℕ) (variants : List (List Placed)) (layout : Layout) → enum_fault dl repr numbers variants ≡ None →
    length numbers ≡ length variants → All (All (λ p. IsLawfulLayout dl (layout_of p))) variants → IsEnumed dl repr numbers variants (Ok layout) →
    HasVariants (length variants) layout.variants × HasWellFormedTag dl layout.variants
enumed_nodes dl law repr numbers variants layout none long lawful enumed =
    let aligns = aligns_of dl law repr numbers variants none long in
    let each = each_of dl law repr numbers variants none long in
    let tags = tags_of dl law repr numbers variants none long in
    (calculated_variants dl law repr numbers variants aligns lawful each tags layout enumed, calculated_tag dl law repr numbers variants aligns lawful each tags layout enumed)

-- an enum's layout
pub IsAdded-enum : (dl : TargetDataLayout) → IsLawfulDataLayout dl → (old new : List Node) (i : ℕ) (repr : ReprOptions) (variants : List (List Placed)) (layout : Layout) (all : Variants) →
    enum_fault dl repr (discriminants_of all) variants ≡ None → IsEnumed dl repr (discriminants_of all) variants (Ok layout) →
    IsPut old new i (placed_enum dl repr (discriminants_of all) variants layout) → VariantsLaying dl all (Ok variants) → VariantsFit dl all variants → IsAdded dl old new i (enum repr all)
IsAdded-enum dl law old new i repr variants layout all faultless enumed put exact fits =
    let numbers : List ℕ = discriminants_of all in
    let long = numbers_for dl law all variants exact in
    let answer : IsEnumOf dl repr numbers variants (Ok (placed_enum dl repr numbers variants layout)) = rw faultless (inr (layout, enumed, refl)) in
    IsAdded-put dl old new i (placed_enum dl repr numbers variants layout) (enum repr all) put (inr (variants, exact, answer))
    (calculated_fits dl law repr numbers variants (aligns_of dl law repr numbers variants faultless long) (VariantsFit-lawful dl all variants fits)
    (each_of dl law repr numbers variants faultless long) (tags_of dl law repr numbers variants faultless long) all refl fits layout enumed)

-- errors of one name are told alike
pub same_name : {H K : Type 0} (e : LayoutCalculatorError H) (f : LayoutCalculatorError K) → IsSameError e f → lay_error e ≡ lay_error f
same_name (calculator.UnexpectedUnsized a) (calculator.UnexpectedUnsized b) h = refl
same_name calculator.SizeOverflow calculator.SizeOverflow h = refl
same_name calculator.EmptyUnion calculator.EmptyUnion h = refl
same_name calculator.ReprConflict calculator.ReprConflict h = refl
same_name calculator.ZeroLengthSimdType calculator.ZeroLengthSimdType h = refl
same_name (calculator.OversizedSimdType a) (calculator.OversizedSimdType b) h = refl
same_name (calculator.NonPrimitiveSimdType a) (calculator.NonPrimitiveSimdType b) h = refl
same_name calculator.BadOrder calculator.BadOrder h = refl
same_name calculator.OutOfMemory calculator.OutOfMemory h = refl
same_name _ _ h = absurd h

-- either it is that memory ran out, or it isn't
pub memory_or : {H : Type 0} (e : LayoutCalculatorError H) → (lay_error e ≡ OutOfMemory) ⊎ (e ≡ calculator.OutOfMemory → ⊥)
memory_or (calculator.UnexpectedUnsized a) = inr (λ e. cc)
memory_or calculator.SizeOverflow = inr (λ e. cc)
memory_or calculator.EmptyUnion = inr (λ e. cc)
memory_or calculator.ReprConflict = inr (λ e. cc)
memory_or calculator.ZeroLengthSimdType = inr (λ e. cc)
memory_or (calculator.OversizedSimdType a) = inr (λ e. cc)
memory_or (calculator.NonPrimitiveSimdType a) = inr (λ e. cc)
memory_or calculator.BadOrder = inr (λ e. cc)
memory_or calculator.OutOfMemory = inl refl

-- the calculator's answer to layouts that are lent
module _ {H : Type 0} (f : H → Layout) (dl : TargetDataLayout) (repr : ReprOptions) (numbers : List ℕ) (hs : List (List H)) (variants : List (List Placed)) (same : map (map f) hs ≡ layouts_of variants) where
  abbrev Lent : Result Layout (LayoutCalculatorError H) → Type 0
  Lent r =
      IsTypeAnswer f (λ i. i) (λ i. i) (λ i. i) (λ i. i) dl repr hs true true Enabled (IsTagIntegerAnswer dl repr) (λ items. items ≡ numbered_from 0 numbers) (strategy_of true repr (map (map f) hs)) r

  pub enumed_ok : (l : Layout) → Lent (Ok l) → IsEnumed dl repr numbers variants (Ok l)
  enumed_ok l h =
      subst (λ ls. IsTypeAnswer layout_of (λ i. i) (λ i. i) (λ i. i) (λ i. i) dl repr variants true true Enabled (IsTagIntegerAnswer dl repr) (λ items. items ≡ numbered_from 0 numbers) (strategy_of true repr ls) (Ok l)) same
      (same_type f layout_of dl repr hs variants same true true Enabled (IsTagIntegerAnswer dl repr) (λ items. items ≡ numbered_from 0 numbers) (strategy_of true repr (map (map f) hs)) l h)

  pub enumed_err : (e : LayoutCalculatorError H) → Lent (Err e) → IsRefused (IsEnumed dl repr numbers variants) (lay_error e)
  enumed_err e h =
      let found = same_type_error f layout_of dl repr hs variants same true true Enabled (IsTagIntegerAnswer dl repr) (λ items. items ≡ numbered_from 0 numbers) (strategy_of true repr (map (map f) hs)) e h in
      let name : lay_error e ≡ lay_error found.0 = same_name e found.0 found.2 in
      let answer : IsCalculated dl repr numbers variants (Err found.0) =
      subst (λ ls. IsTypeAnswer layout_of (λ i. i) (λ i. i) (λ i. i) (λ i. i) dl repr variants true true Enabled (IsTagIntegerAnswer dl repr) (λ items. items ≡ numbered_from 0 numbers) (strategy_of true repr ls) (Err found.0)) same found.1 in
      ⊎_elim (λ want. inl (name ∙ want)) (λ other. inr (found.0, answer, other, name)) (memory_or found.0)

-- layouts that are lent are lawful where the types' are
pub lent_lawful : {H : Type 0} (f : H → Layout) (dl : TargetDataLayout) (hs : List (List H)) (variants : List (List Placed)) → map (map f) hs ≡ layouts_of variants →
    All (All (λ p. IsLawfulLayout dl (layout_of p))) variants → All (All (λ h. IsLawfulLayout dl (f h))) hs
lent_lawful f dl hs variants same lawful =
    let each : All (All (IsLawfulLayout dl)) (layouts_of variants) =
    All-map (All (IsLawfulLayout dl)) (map layout_of) variants
    (All-weaker (All (λ p. IsLawfulLayout dl (layout_of p))) (λ ps. All (IsLawfulLayout dl) (map layout_of ps)) (λ ps one. All-map (IsLawfulLayout dl) layout_of ps one) variants lawful) in
    All-weaker (λ xs. All (IsLawfulLayout dl) (map f xs)) (All (λ h. IsLawfulLayout dl (f h))) (λ xs one. All-from_map (IsLawfulLayout dl) f xs one) hs
    (All-from_map (All (IsLawfulLayout dl)) (map f) hs (subst (All (All (IsLawfulLayout dl))) (sym same) each))

-- an answer to one question, from discriminants that are given in one way, is an answer to another, where what is asked and given there
-- is asked and given here
pub asked_otherwise : {H : Type 0} (f : H → Layout) (dl : TargetDataLayout) (repr : ReprOptions) (hs : List (List H)) (asks : RangeFrom ℤ → RangeToInclusive ℕ → Integer × Bool → Type 0) (gives : List (ℕ × ℕ) → Type 0)
    (strategy : EnumStrategy) (r : Result Layout (LayoutCalculatorError H)) → IsTypeAnswer f (λ i. i) (λ i. i) (λ i. i) (λ i. i) dl repr hs true true Enabled asks gives strategy r
    → (ask : RangeFrom ℤ → RangeToInclusive ℕ → Integer × Bool → Type 0) (give : List (ℕ × ℕ) → Type 0) → ((items : List (ℕ × ℕ)) → gives items → give items)
    → ((least : ℤ) (greatest : ℕ) (answer : Integer × Bool) → asks (record { start = least }) (record { last = greatest }) answer → ask (record { start = least }) (record { last = greatest }) answer)
    → IsTypeAnswer f (λ i. i) (λ i. i) (λ i. i) (λ i. i) dl repr hs true true Enabled ask give strategy r
asked_otherwise f dl repr hs asks gives NoValue r h ask give given asked = h
asked_otherwise f dl repr hs asks gives (OneList i) r h ask give given asked = h
asked_otherwise f dl repr hs asks gives Several r (inl packed) ask give given asked = inl packed
asked_otherwise f dl repr hs asks gives Several r (inr (inl want)) ask give given asked = inr (inl want)
asked_otherwise f dl repr hs asks gives Several r (inr (inr (none, items, there, inl want))) ask give given asked = inr (inr (none, items, given items there, inl want))
asked_otherwise f dl repr hs asks gives Several r (inr (inr (none, items, there, inr (niche, one, tagged, (integer, signed, (least, greatest, ends, question), answer), is)))) ask give given asked =
    inr (inr (none, items, given items there, inr (niche, one, tagged, (integer, signed, (least, greatest, ends, asked least greatest (integer, signed) question), answer), is)))

-- the same, where the discriminants are known by a list of their own
pub IsAdded-enum-as : (dl : TargetDataLayout) → IsLawfulDataLayout dl → (old new : List Node) (i : ℕ) (repr : ReprOptions) (numbers : List ℕ) (variants : List (List Placed)) (layout : Layout) (all : Variants) →
    numbers ≡ discriminants_of all → enum_fault dl repr numbers variants ≡ None → IsEnumed dl repr numbers variants (Ok layout) → IsPut old new i (placed_enum dl repr numbers variants layout) →
    VariantsLaying dl all (Ok variants) → VariantsFit dl all variants → IsAdded dl old new i (enum repr all)
IsAdded-enum-as dl law old new i repr numbers variants layout all is faultless enumed put exact fits =
    IsAdded-enum dl law old new i repr variants layout all (subst (λ ns. enum_fault dl repr ns variants ≡ None) is faultless) (subst (λ ns. IsEnumed dl repr ns variants (Ok layout)) is enumed)
    (subst (λ ns. IsPut old new i (placed_enum dl repr ns variants layout)) is put) exact fits

-- there are as many types as nodes
pub lengths_in : (ns : List Node) (children : List (Vec ℕ Global)) → map length (variants_in ns children) ≡ map (λ fields. length fields.items) children
lengths_in ns [] = refl
lengths_in ns (fields ∷ children) =
    ap (λ n. n ∷ map length (variants_in ns children)) (length-map fields.items (placed_in (types_in ns))) ∙ ap (λ rest. length fields.items ∷ rest) (lengths_in ns children)

-- an own fault is the enum's refusal
pub own_fault : (dl : TargetDataLayout) (repr : ReprOptions) (numbers : List ℕ) (variants : List (List Placed)) (e : LayError) → enum_fault dl repr numbers variants ≡ Some e → IsRefused (IsEnumOf dl repr numbers variants) e
own_fault dl repr numbers variants e fault = inr (rw fault refl)
