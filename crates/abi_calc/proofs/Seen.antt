-- How lists, unions and types of one list are seen, from the answers that the rules give them.
use Rattle.std.proofs.Common.{◌≡◌, ℕ, ◌∙◌, List, ap, length, map, refl, subst, sym}
use Rattle.std.specs.Prelude.{All, IfOk, Result, Ok, Err}
use Rattle.std.proofs.lemmas.List.{length-map}
use Rattle.abi_base.specs.declared.data_layout.TargetDataLayout.{TargetDataLayout}
use Rattle.abi_base.specs.declared.niche_optimizations.NicheOptimizations.{NicheOptimizations}
use Rattle.abi_base.specs.declared.niche_optimizations.NicheOptimizations.TheVariants.{Enabled, Disabled}
use Rattle.abi_base.specs.declared.struct_kind.StructKind.{StructKind}
use Rattle.abi_scalar.specs.declared.error.LayoutCalculatorError.{LayoutCalculatorError}
use Rattle.abi_scalar.specs.declared.layout_data.LayoutData.{LayoutData}
use Rattle.abi_scalar.specs.declared.repr.ReprOptions.{ReprOptions}
use Rattle.abi_scalar.specs.declared.fields_shape.FieldsShape.TheVariants.{Union}
use Rattle.abi_scalar.specs.declared.variants.Variants.TheVariants.{Single}
use Rattle.abi_scalar.specs.Lawful.{IsLawfulLayout}
use Rattle.abi_scalar.specs.Repr.{is_abi_fixed}
use Rattle.abi_scalar.specs.Shape.{listed_offsets}
use Rattle.abi_univariant.specs.List.{IsUnivariantLayout}
use Rattle.abi_univariant.specs.ListView.{list_view}
use Rattle.abi_univariant.specs.Part.{parts_of}
use Rattle.abi_univariant.specs.Placement.{IsNonEmptyIfUnsized}
use Rattle.abi_univariant.specs.Union.{IsUnionAnswer, IsUnionView, union_align}
use Rattle.abi_univariant.proofs.Promised.LeastLemmas.{has_greatest_niche, has_own_niche}
use Rattle.abi_calc.specs.Enums.Single.{IsSingleAnswer, single_layout, widened_view}
use Rattle.abi_calc.specs.Marks.{HasListMarks, HasUnionMarks}
use Rattle.abi_calc.specs.Seen.{HasViewOfFields, view_of_fields}

module _ {F V H : Type 0} (layout_of : H → LayoutData F V) (at : ℕ → F) (first : V) (dl : TargetDataLayout) (repr : ReprOptions) (kind : StructKind) (hs : List H) where
  -- a list is marked as its fields are
  pub list_marks : (order offsets : List ℕ) (l : LayoutData F V) → IsUnivariantLayout at first dl repr kind (map layout_of hs) order offsets l → HasListMarks dl repr kind (map layout_of hs) l
  list_marks order offsets l r = record {
    uninhabited = r.uninhabited;
    max_repr_align = r.max_repr_align;
    unadjusted_abi_align = r.unadjusted_abi_align;
    repr_c = r.repr_c;
    seed = r.seed;
  }

  -- and has their view
  pub list_viewed : (order offsets : List ℕ) (l : LayoutData F V) → IsUnivariantLayout at first dl repr kind (map layout_of hs) order offsets l → l.backend_repr ≡ view_of_fields dl repr (map layout_of hs) l
  list_viewed order offsets l r =
      r.view ∙ ap (λ os. list_view dl (is_abi_fixed repr) l.size l.align.abi (parts_of dl (map layout_of hs)) os) (sym (ap listed_offsets r.shape))

  -- as a type it is seen so
  as_type : (optimizations : NicheOptimizations) (index : V) (order offsets : List ℕ) (l : LayoutData F V) → All (λ h. IsLawfulLayout dl (layout_of h)) hs → IsNonEmptyIfUnsized kind (length hs) → IsUnivariantLayout at first dl repr kind (map layout_of hs) order offsets l
      → HasViewOfFields index dl repr kind optimizations (map layout_of hs) (single_layout index dl optimizations l)
  as_type Enabled index order offsets l law tail r = record {
    variants = refl;
    view = list_viewed order offsets l r;
    niche = has_own_niche layout_of at first dl repr kind hs order offsets l tail r;
    largest = has_greatest_niche layout_of at first dl repr kind hs order offsets l law tail r;
    marks = record { uninhabited = r.uninhabited; max_repr_align = r.max_repr_align; unadjusted_abi_align = r.unadjusted_abi_align; repr_c = r.repr_c; seed = r.seed };
  }
  as_type Disabled index order offsets l law tail r = record {
    variants = refl;
    view = ap (widened_view dl) (list_viewed order offsets l r);
    niche = tt;
    largest = refl;
    marks = record { uninhabited = r.uninhabited; max_repr_align = r.max_repr_align; unadjusted_abi_align = r.unadjusted_abi_align; repr_c = r.repr_c; seed = r.seed };
  }

  pub single_seen : (optimizations : NicheOptimizations) (index : V) (result : Result (LayoutData F V) (LayoutCalculatorError H)) → All (λ h. IsLawfulLayout dl (layout_of h)) hs → IsNonEmptyIfUnsized kind (length hs)
      → IsSingleAnswer layout_of at first index dl repr kind optimizations hs result → IfOk result (HasViewOfFields index dl repr kind optimizations (map layout_of hs))
  single_seen optimizations index (Ok l) law tail (list, (order, offsets, r), is) =
      subst (HasViewOfFields index dl repr kind optimizations (map layout_of hs)) (sym is) (as_type optimizations index order offsets list law tail r)
  single_seen optimizations index (Err e) law tail h = tt

-- a union has one variant, is aligned as its fields ask, and is seen as they tell
pub union_fields : {F V H : Type 0} (layout_of : H → LayoutData F V) (first : V) (dl : TargetDataLayout) (repr : ReprOptions) (fields : List H) (result : Result (LayoutData F V) (LayoutCalculatorError H))
    → IsUnionAnswer layout_of first dl repr fields result → IfOk result (λ l. l.fields ≡ Union (length fields))
union_fields layout_of first dl repr fields (Ok l) (none, view, is) = ap (λ m. m.fields) is ∙ ap (λ n. Union n) (length-map fields layout_of)
union_fields layout_of first dl repr fields (Err e) h = tt

pub union_single : {F V H : Type 0} (layout_of : H → LayoutData F V) (first : V) (dl : TargetDataLayout) (repr : ReprOptions) (fields : List H) (result : Result (LayoutData F V) (LayoutCalculatorError H))
    → IsUnionAnswer layout_of first dl repr fields result → IfOk result (λ l. l.variants ≡ Single first)
union_single layout_of first dl repr fields (Ok l) (none, view, is) = ap (λ m. m.variants) is
union_single layout_of first dl repr fields (Err e) h = tt

pub union_aligned : {F V H : Type 0} (layout_of : H → LayoutData F V) (first : V) (dl : TargetDataLayout) (repr : ReprOptions) (fields : List H) (result : Result (LayoutData F V) (LayoutCalculatorError H))
    → IsUnionAnswer layout_of first dl repr fields result → IfOk result (λ l. l.align.abi ≡ union_align dl repr (map layout_of fields))
union_aligned layout_of first dl repr fields (Ok l) (none, view, is) = ap (λ m. m.align.abi) is
union_aligned layout_of first dl repr fields (Err e) h = tt

pub union_viewed : {F V H : Type 0} (layout_of : H → LayoutData F V) (first : V) (dl : TargetDataLayout) (repr : ReprOptions) (fields : List H) (result : Result (LayoutData F V) (LayoutCalculatorError H))
    → IsUnionAnswer layout_of first dl repr fields result → IfOk result (λ l. IsUnionView dl repr (map layout_of fields) l.backend_repr)
union_viewed layout_of first dl repr fields (Ok l) (none, view, is) = view
union_viewed layout_of first dl repr fields (Err e) h = tt

-- a union is marked as its fields are
pub union_marks : {F V H : Type 0} (layout_of : H → LayoutData F V) (first : V) (dl : TargetDataLayout) (repr : ReprOptions) (fields : List H) (result : Result (LayoutData F V) (LayoutCalculatorError H))
    → IsUnionAnswer layout_of first dl repr fields result → IfOk result (HasUnionMarks dl repr (map layout_of fields))
union_marks layout_of first dl repr fields (Ok l) (none, view, is) = record {
  uninhabited = ap (λ m. m.uninhabited) is;
  max_repr_align = ap (λ m. m.max_repr_align) is;
  unadjusted_abi_align = ap (λ m. m.unadjusted_abi_align) is;
  repr_c = ap (λ m. m.repr_c) is;
  seed = ap (λ m. m.randomization_seed) is;
}
union_marks layout_of first dl repr fields (Err e) h = tt
