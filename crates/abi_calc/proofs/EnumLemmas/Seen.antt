-- How a type of one list is seen, by the way that its variants tell.
use Rattle.std.proofs.Common.{◌≡◌, ℕ, ◌∙◌, Bool, List, ap, length, map, subst}
use Rattle.std.specs.Prelude.{All, IfOk, Result}
use Rattle.abi_base.specs.declared.data_layout.TargetDataLayout.{TargetDataLayout}
use Rattle.abi_base.specs.declared.niche_optimizations.NicheOptimizations.{NicheOptimizations}
use Rattle.abi_base.specs.declared.struct_kind.StructKind.{StructKind}
use Rattle.abi_scalar.specs.declared.error.LayoutCalculatorError.{LayoutCalculatorError}
use Rattle.abi_scalar.specs.declared.layout_data.LayoutData.{LayoutData}
use Rattle.abi_scalar.specs.declared.repr.ReprOptions.{ReprOptions}
use Rattle.abi_scalar.specs.Lawful.{IsLawfulLayout}
use Rattle.abi_univariant.specs.Placement.{IsNonEmptyIfUnsized}
use Rattle.abi_calc.specs.declared.enums.strategy.EnumStrategy.{EnumStrategy}
use Rattle.abi_calc.specs.declared.enums.strategy.EnumStrategy.TheVariants.{OneList}
use Rattle.abi_calc.specs.Enums.Answer.{kind_at}
use Rattle.abi_calc.specs.Enums.EnumStrategy.{variant_at}
use Rattle.abi_calc.specs.Enums.Single.{IsSingleAnswer}
use Rattle.abi_calc.specs.Seen.{HasViewOfFields}
use Rattle.abi_calc.proofs.EnumLemmas.EnumExtent.{IsReadAt, at_listed}
use Rattle.abi_calc.proofs.Seen.{single_seen}

-- the place is the one that the type's way names
same_place : {strategy : EnumStrategy} (i j : ℕ) → strategy ≡ OneList i → strategy ≡ OneList j → i ≡ j
same_place i j here there = cc

-- the list that was read is seen as that of the variant that the type's way names
pub seen_at : {F V H : Type 0} (layout_of : H → LayoutData F V) (at : ℕ → F) (index : ℕ → V) (dl : TargetDataLayout) (repr : ReprOptions) (variants : List (List H)) (is_enum always_sized : Bool)
    (optimizations : NicheOptimizations) (strategy : EnumStrategy) (r : Result (LayoutData F V) (LayoutCalculatorError H)) (i : ℕ) (kind : StructKind) (fields : List H) (named : V)
    → IsReadAt is_enum always_sized variants strategy i kind fields → named ≡ index i → All (λ f. IsLawfulLayout dl (layout_of f)) fields → IsNonEmptyIfUnsized kind (length fields)
    → IsSingleAnswer layout_of at (index 0) named dl repr kind optimizations fields r
    → (j : ℕ) → strategy ≡ OneList j → IfOk r (HasViewOfFields (index j) dl repr (kind_at is_enum always_sized variants j) optimizations (map layout_of (variant_at variants j)))
seen_at layout_of at index dl repr variants is_enum always_sized optimizations strategy r i kind fields named read same law tail h j there =
    let here : IfOk r (HasViewOfFields named dl repr kind optimizations (map layout_of fields)) = single_seen layout_of at (index 0) dl repr kind fields optimizations named r law tail h in
    at_listed (λ k fs. IfOk r (HasViewOfFields (index j) dl repr k optimizations (map layout_of fs))) is_enum always_sized variants strategy i kind fields read
    (subst (λ v. IfOk r (HasViewOfFields v dl repr kind optimizations (map layout_of fields))) (same ∙ ap index (same_place i j read.way there)) here) j there
