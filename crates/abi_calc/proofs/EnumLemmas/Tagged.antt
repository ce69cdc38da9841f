-- The layout of an enum with a tag.
use Rattle.std.proofs.Common.{◌≡◌, ℕ, ◌^◌, ◌<◌, ◌≤◌, List, ◌∙◌, ap, arith, inl, inr, map, subst, sym}
use Rattle.std.proofs.Common.{◌*◌, ◌%◌, Bool}
use Rattle.std.specs.Prelude.{◌⊎◌, All, IfErr, IfOk, Option, None, Some, Result, Ok, Err, unwrap_or}
use Rattle.std.proofs.lemmas.Nat.{pow_pos}
use Rattle.abi_base.specs.declared.integer.Integer.{Integer}
use Rattle.abi_base.specs.declared.integer.Integer.TheVariants.{I8, I16, I32, I64, I128}
use Rattle.abi_base.specs.declared.primitive.Primitive.TheVariants.{Int}
use Rattle.abi_base.specs.Integer.{integer_size}
use Rattle.abi_scalar.specs.declared.backend_repr.BackendRepr.{BackendRepr}
use Rattle.abi_scalar.specs.declared.repr.ReprOptions.{ReprOptions}
use Rattle.abi_scalar.specs.declared.scalar.Scalar.TheVariants.{Initialized}
use Rattle.abi_scalar.specs.declared.wrapping_range.WrappingRange.{WrappingRange}
use Rattle.abi_scalar.specs.LeastRange.{IsSmallestOf}
use Rattle.abi_scalar.specs.Range.{AreWithin, numbers_of}
use Rattle.abi_scalar.specs.Scalar.{IsLawfulScalar}
use Rattle.abi_calc.specs.Enums.Discriminants.{IsTagRange}
use Rattle.abi_calc.specs.Enums.Growth.{grown_tag, start_align}
use Rattle.abi_calc.specs.Enums.Lists.{AreListLayouts, behind_tag}
use Rattle.abi_calc.specs.Enums.Payload.{tagged_view}
use Rattle.std.proofs.lemmas.List.{map-id}
use Rattle.abi_base.specs.declared.data_layout.TargetDataLayout.{TargetDataLayout}
use Rattle.abi_base.specs.declared.struct_kind.StructKind.{StructKind}
use Rattle.abi_base.specs.DataLayout.{IsLawfulDataLayout, size_bound}
use Rattle.abi_scalar.specs.declared.error.LayoutCalculatorError.{LayoutCalculatorError}
use Rattle.abi_scalar.specs.declared.error.LayoutCalculatorError.TheVariants.{OutOfMemory, SizeOverflow}
use Rattle.abi_scalar.specs.declared.layout_data.LayoutData.{LayoutData}
use Rattle.abi_scalar.specs.Lawful.{IsLawfulLayout}
use Rattle.abi_univariant.specs.Fields.{greatest_align, greatest_size}
use Rattle.abi_univariant.proofs.Views.Lawful.{aggregate_small}
use Rattle.abi_univariant.proofs.UnionsVectors.UnionLawful.{greatest_size_small}
use Rattle.abi_calc.specs.Enums.Tagged.{IsTaggedAnswer, IsTaggedBy, layout_with_view, lists_align, lists_size, payloads_of, tagged_layout}
use Rattle.abi_calc.proofs.EnumLemmas.Lists.{align_small}

-- lawful lists are small
pub size_of_lists_small : {F V : Type 0} (dl : TargetDataLayout) (lists : List (LayoutData F V)) → IsLawfulDataLayout dl → All (IsLawfulLayout dl) lists → greatest_size lists < 2 ^ 62
size_of_lists_small dl lists law all = subst (λ ls. greatest_size ls < 2 ^ 62) (map-id lists) (greatest_size_small (λ l. l) dl lists law all)

-- and their greatest alignment has its limit
pub align_of_lists_small : {F V : Type 0} (dl : TargetDataLayout) (lists : List (LayoutData F V)) → IsLawfulDataLayout dl → All (IsLawfulLayout dl) lists → lists_align dl lists ≤ 29
align_of_lists_small dl lists law all = subst (λ ls. greatest_align dl.aggregate_align ls ≤ 29) (map-id lists) (align_small (λ l. l) dl dl.aggregate_align lists (aggregate_small dl law) all)

-- ---- the layout, part by part

-- a layout is made of its parts
pub same_parts : {F V : Type 0} (a b : LayoutData F V) → a.fields ≡ b.fields → a.variants ≡ b.variants → a.backend_repr ≡ b.backend_repr → a.largest_niche ≡ b.largest_niche → a.uninhabited ≡ b.uninhabited
    → a.align ≡ b.align → a.size ≡ b.size → a.max_repr_align ≡ b.max_repr_align → a.unadjusted_abi_align ≡ b.unadjusted_abi_align → a.repr_c ≡ b.repr_c → a.randomization_seed ≡ b.randomization_seed → a ≡ b
same_parts a b fields variants view niche uninhabited align size asked unadjusted c seed = λ i. record {
  fields = fields i;
  variants = variants i;
  backend_repr = view i;
  largest_niche = niche i;
  uninhabited = uninhabited i;
  align = align i;
  size = size i;
  max_repr_align = asked i;
  unadjusted_abi_align = unadjusted i;
  repr_c = c i;
  randomization_seed = seed i;
}

-- ---- the tag

-- an integer has 1 to 16 bytes
pub integer_some : (i : Integer) → 1 ≤ integer_size i
integer_some I8 = omega arith
integer_some I16 = omega arith
integer_some I32 = omega arith
integer_some I64 = omega arith
integer_some I128 = omega arith

pub integer_most : (i : Integer) → integer_size i ≤ 16
integer_most I8 = omega arith
integer_most I16 = omega arith
integer_most I32 = omega arith
integer_most I64 = omega arith
integer_most I128 = omega arith

found_within : (width : ℕ) (values : List ℕ) (found : Option WrappingRange) → IsSmallestOf width values found → AreWithin width (unwrap_or found (record { start = 0; end = 0 }))
found_within width values None h = let some : 0 < 2 ^ (8 * width) = pow_pos (8 * width) in (some, some)
found_within width values (Some range) h = h.1.within

-- the tag's range has numbers of its width
pub range_within : (width : ℕ) (values : List ℕ) (range : WrappingRange) → IsTagRange width values range → AreWithin width range
range_within width values range h = subst (AreWithin width) (sym h.2) (found_within width (map (λ v. v % numbers_of width) values) h.0 h.1)

-- the tag is a lawful scalar
pub tag_lawful : (dl : TargetDataLayout) (i : Integer) (signed : Bool) (values : List ℕ) (range : WrappingRange) → IsTagRange (integer_size i) values range → IsLawfulScalar dl (Initialized (Int i signed) range)
tag_lawful dl i signed values range h = record { pointer = tt; within = range_within (integer_size i) values range h }

-- ---- the whole

-- the layout is the one that is named, whichever way its parts were told
pub tagged_exact : {F V : Type 0} (number : F → ℕ) (first : F) (dl : TargetDataLayout) (repr : ReprOptions) (asked grown : Integer) (signed : Bool) (range : WrappingRange)
    (variants : List (List (LayoutData F V))) (lists : List (LayoutData F V)) (old size align : ℕ) (view : BackendRepr) (layout : LayoutData F V)
    → grown ≡ grown_tag dl repr asked (start_align number variants lists) → old ≡ integer_size asked → size ≡ lists_size dl lists → align ≡ lists_align dl lists
    → view ≡ tagged_view dl (Initialized (Int grown signed) range) size align (payloads_of dl old (integer_size grown) variants lists)
    → layout ≡ layout_with_view first dl repr old (Initialized (Int grown signed) range) (integer_size grown) lists view
    → layout ≡ tagged_layout number first dl repr asked signed range variants lists
tagged_exact number first dl repr asked grown signed range variants lists old size align view layout eg eo es ea ev el =
    el ∙ ap (λ v. layout_with_view first dl repr old (Initialized (Int grown signed) range) (integer_size grown) lists v) ev
    ∙ (λ i. layout_with_view first dl repr (eo i) (Initialized (Int (eg i) signed) range) (integer_size (eg i)) lists
    (tagged_view dl (Initialized (Int (eg i) signed) range) (es i) (ea i) (payloads_of dl (eo i) (integer_size (eg i)) variants lists)))

-- ---- the answer

-- of lists that the variants have, by a data layout that is the same
pub tagged_answer : {F V H : Type 0} (layout_of : H → LayoutData F V) (at : ℕ → F) (number : F → ℕ) (first : V) (dl same : TargetDataLayout) (repr : ReprOptions) (asked : Integer) (signed : Bool) (values : List ℕ)
    (variants : List (List H)) (kind : StructKind) (lists : List (LayoutData F V)) (r : Result (LayoutData F V) (LayoutCalculatorError H))
    → same ≡ dl → kind ≡ behind_tag same repr asked (map (map layout_of) variants) → AreListLayouts layout_of at first dl repr kind variants lists
    → IfOk r (IsTaggedBy number (at 0) same repr asked signed values (map (map layout_of) variants) lists)
    → IfErr r (λ e. ((size_bound same ≤ lists_size same lists) × (e ≡ SizeOverflow)) ⊎ (e ≡ OutOfMemory))
    → IsTaggedAnswer layout_of at number first dl repr asked signed values variants r
tagged_answer layout_of at number first dl same repr asked signed values variants kind lists (Ok layout) e is exact by fault = (
  lists,
  subst (λ k. AreListLayouts layout_of at first dl repr k variants lists) (is ∙ ap (λ d. behind_tag d repr asked (map (map layout_of) variants)) e) exact,
  subst (λ d. IsTaggedBy number (at 0) d repr asked signed values (map (map layout_of) variants) lists layout) e by,
)
tagged_answer layout_of at number first dl same repr asked signed values variants kind lists (Err error) e is exact by (inr want) = inr (inr want)
tagged_answer layout_of at number first dl same repr asked signed values variants kind lists (Err error) e is exact by (inl large) =
    inr (inl (
      lists,
      subst (λ k. AreListLayouts layout_of at first dl repr k variants lists) (is ∙ ap (λ d. behind_tag d repr asked (map (map layout_of) variants)) e) exact,
      subst (λ d. size_bound d ≤ lists_size d lists) e large.0,
      large.1,
    ))
