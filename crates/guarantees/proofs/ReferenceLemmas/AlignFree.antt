-- Enums in Rust's own representation under `align(n)`, with discriminants of a byte, beside structs under it around the same
-- enums without it.
use Rattle.std.proofs.Common.{◌≡◌, ℕ, zero, suc, ◌+◌, ◌^◌, ◌<◌, ◌≤◌, Bool, true, false, List, [], ◌∷◌, Option, None, Some, length, map, refl, sym, ap, ap₂, ◌∙◌, subst, arith, lit<, inl, inr, Ok, Err}
use Rattle.std.specs.Prelude.{◌&&◌, ◌⊎◌, ◌==◌, ◌||◌, ⊤, All, filter, is_some, max, min, nat_le, nat_lt, not, option_map, unwrap_or, ℤ, pos, if◌then◌else◌}
use Rattle.std.proofs.lemmas.Bool.{and_from, le-leb, lt-ltb}
use Rattle.std.proofs.lemmas.List.{length-map}
use Rattle.std.proofs.lemmas.List.Elements.{All-cons, All-contains, All-filter, All-head, All-map, All-nil, All-tail}
use Rattle.std.proofs.lemmas.Nat.{pow_pos}
use Rattle.abi_base.specs.declared.data_layout.TargetDataLayout.{TargetDataLayout}
use Rattle.abi_base.specs.declared.integer.Integer.{Integer}
use Rattle.abi_base.specs.declared.integer.Integer.TheVariants.{I8}
use Rattle.abi_base.specs.declared.integer.IntegerType.{IntegerType}
use Rattle.abi_base.specs.declared.integer.IntegerType.TheVariants.{Pointer}
use Rattle.abi_base.specs.declared.niche_optimizations.NicheOptimizations.TheVariants.{Enabled}
use Rattle.abi_base.specs.declared.struct_kind.StructKind.{StructKind}
use Rattle.abi_base.specs.declared.struct_kind.StructKind.TheVariants.{AlwaysSized}
use Rattle.abi_base.specs.DataLayout.{IsLawfulDataLayout}
use Rattle.abi_base.specs.Integer.{integer_align, integer_size}
use Rattle.abi_base.specs.IntegerType.{integer_of_type, is_signed_type}
use Rattle.abi_scalar.specs.declared.backend_repr.BackendRepr.{BackendRepr}
use Rattle.abi_base.specs.declared.primitive.Primitive.TheVariants.{Int}
use Rattle.abi_scalar.specs.declared.scalar.Scalar.TheVariants.{Initialized}
use Rattle.abi_scalar.specs.declared.repr.ReprOptions.{ReprOptions}
use Rattle.abi_scalar.specs.declared.variants.VariantLayout.{VariantLayout}
use Rattle.abi_scalar.specs.declared.variants.Variants.{Variants as LayoutVariants}
use Rattle.abi_scalar.specs.declared.variants.Variants.TheVariants.{Empty, Multiple, Single}
use Rattle.abi_scalar.specs.Repr.{is_c}
use Rattle.abi_scalar.specs.Shape.{listed_offsets}
use Rattle.abi_scalar.specs.Simple.{never_layout}
use Rattle.abi_scalar.specs.Variant.{variant_of}
use Rattle.abi_univariant.specs.declared.part.Part.{Part}
use Rattle.abi_univariant.specs.Fields.{greatest}
use Rattle.abi_univariant.specs.List.{IsUnivariantAnswer}
use Rattle.abi_univariant.specs.Part.{parts_of as asked_of}
use Rattle.abi_univariant.specs.Placement.{align_of as list_align, cut, fields_repr, prefix_align}
use Rattle.abi_calc.specs.declared.enums.niche.Room.{Room}
use Rattle.abi_calc.specs.declared.enums.strategy.EnumStrategy.{EnumStrategy}
use Rattle.abi_calc.specs.declared.enums.strategy.EnumStrategy.TheVariants.{NoValue, OneList, Several}
use Rattle.abi_calc.specs.Enums.Answer.{IsTypeAnswer}
use Rattle.abi_calc.specs.Enums.Choice.{IsNicheAnswer}
use Rattle.abi_calc.specs.Enums.Discriminants.{counted_discriminants, counts, meant_by}
use Rattle.abi_calc.specs.Enums.Growth.{grown_tag, grown_variant, moved_offset, start_align}
use Rattle.abi_calc.specs.Enums.Lists.{AreListLayouts, align_with_all, behind_tag}
use Rattle.abi_calc.specs.Enums.Niche.{beside_niche, moved_on, needing_numbers, place_after, room_beside, span_of, untagged_of, variants_from, with_first, without_niche}
use Rattle.abi_calc.specs.Enums.EnumStrategy.{is_free, strategy_of, variant_at}
use Rattle.abi_calc.specs.Enums.Payload.{variant_with_view, tagged_view}
use Rattle.abi_calc.specs.Enums.Several.{IsAskedAnswer, IsAskedFor, IsSeveralAnswer}
use Rattle.abi_calc.specs.Enums.Tagged.{lists_align, lists_size, payloads_of}
use Rattle.abi_tree.specs.Mark.{mark_of}
use Rattle.abi_tree.specs.Nodes.{parts_at}
use Rattle.abi_tree.specs.Placed.{Placed, layout_of}
use Rattle.abi_scalar.specs.Layout.{Layout}
use Rattle.abi_tree.specs.Tree.{Tree, Trees, Variants, no_variants, more_variants, enum}
use Rattle.rustc_abi.specs.Enums.{IsEnumed, IsTagIntegerAnswer as IsAsking, discriminants_of, holds_both, is_negative, layouts_of, least_integer, least_tag, numbered_from}
use Rattle.rustc_abi.specs.Everywhere.{ByThemselves, OfAbsent, OfEach, OfVariant, Within}
use Rattle.rustc_abi.specs.Laying.{AreLaying, IsLaying, VariantsLaying, enum_fault, placed_enum, placed_variants}
use Rattle.guarantees.specs.Reference.Words.{align_in_bytes, extent_of, most_aligned}
use Rattle.guarantees.specs.Reference.Modifiers.{HasVariant, IsRaisable, IsRaisedEnum, unaligned}
use Rattle.guarantees.proofs.ReferenceLemmas.Answers.{laid_by}
use Rattle.guarantees.proofs.ReferenceLemmas.AlignEnums.{HaveCounts, around_is, inj-variants, most_of, raised_alike, raised_foreign, same_variants, twice}
use Rattle.guarantees.proofs.Integers.{first_integer}
use Rattle.guarantees.proofs.ReferenceLemmas.CTags.{low_meant, same_numbers}
use Rattle.guarantees.proofs.ReferenceLemmas.EnumLists.{either_keeps}
use Rattle.guarantees.proofs.ReferenceLemmas.Everywhere.{IsOnly, same_fields}
use Rattle.guarantees.proofs.ReferenceLemmas.Lists.{align_same, extents_for, pow_max}
use Rattle.guarantees.proofs.ReferenceLemmas.Over.{asked_count, byte_align, least_align, run_has}
use Rattle.guarantees.proofs.ReferenceLemmas.Variants.{better_has, inj-answer, no_error, no_layout, of_span}

-- ---- the lists: how many offsets they have, and how they are aligned

abbrev ListCounts : List Layout → List (List Placed) → Type 0
ListCounts [] [] = ⊤
ListCounts (l ∷ lists) (ps ∷ variants) = (length (listed_offsets l.fields) ≡ length ps) × ListCounts lists variants
ListCounts _ _ = ⊥

module _ (dl : TargetDataLayout) (repr : ReprOptions) where
  pub list_count : (kind : StructKind) (ps : List Placed) (l : Layout) → IsUnivariantAnswer layout_of (λ i. i) 0 dl repr kind ps (Ok l) → length (listed_offsets l.fields) ≡ length ps
  list_count kind ps l (order, offsets, h) =
      let parts : List Part = asked_of dl (map layout_of ps) in
      ap length (ap listed_offsets h.shape)
      ∙ run_has dl (fields_repr dl repr kind) parts h.named.0 order offsets l.size l.align.abi l.largest_niche (length offsets ≡ length parts) (λ bias own. own.count) h.named.3
      ∙ asked_count dl ps

  lists_count : (kind : StructKind) (variants : List (List Placed)) (lists : List Layout) → AreListLayouts layout_of (λ i. i) 0 dl repr kind variants lists → ListCounts lists variants
  lists_count kind [] [] h = tt
  lists_count kind [] (l ∷ lists) h = absurd h
  lists_count kind (ps ∷ variants) [] h = absurd h
  lists_count kind (ps ∷ variants) (l ∷ lists) h = (list_count kind ps l h.0, lists_count kind variants lists h.1)

  list_most : (kind : StructKind) (ps : List Placed) (l : Layout) → repr.pack ≡ None → prefix_align repr.pack kind ≡ 0
      → IsUnivariantAnswer layout_of (λ i. i) 0 dl repr kind ps (Ok l) → 2 ^ l.align.abi ≡ max (2 ^ least_align dl repr) (most_aligned (map extent_of ps))
  list_most kind ps l loose prefix (order, offsets, h) =
      let parts : List Part = asked_of dl (map layout_of ps) in
      let high : l.align.abi ≡ list_align (fields_repr dl repr kind) parts =
      run_has dl (fields_repr dl repr kind) parts h.named.0 order offsets l.size l.align.abi l.largest_niche
      (l.align.abi ≡ list_align (fields_repr dl repr kind) parts) (λ bias own. own.alignment) h.named.3 in
      let begin : ℕ = least_align dl repr in
      let least : max begin (prefix_align repr.pack kind) ≡ begin = ap (max begin) prefix ∙ omega arith in
      ap (λ a. 2 ^ a) high ∙ align_same dl repr.pack (max begin (prefix_align repr.pack kind)) ps
      ∙ ap₂ (λ (a : ℕ) pack. max (2 ^ a) (most_aligned (extents_for pack ps))) least loose

  lists_most : (kind : StructKind) (v : List Placed) (vs : List (List Placed)) (lists : List Layout) → repr.pack ≡ None → prefix_align repr.pack kind ≡ 0
      → AreListLayouts layout_of (λ i. i) 0 dl repr kind (v ∷ vs) lists
      → 2 ^ greatest (map (λ (f : Layout). f.align.abi) lists) ≡ max (2 ^ least_align dl repr) (most_of (v ∷ vs))
  lists_most kind v vs [] loose prefix h = absurd h
  lists_most kind v [] (l ∷ m ∷ lists) loose prefix h = absurd h.1
  lists_most kind v [] (l ∷ []) loose prefix h =
      let one : 2 ^ max l.align.abi 0 ≡ max (2 ^ l.align.abi) 1 = pow_max l.align.abi 0 in
      let is : 2 ^ l.align.abi ≡ max (2 ^ least_align dl repr) (most_aligned (map extent_of v)) = list_most kind v l loose prefix h.0 in
      omega arith
  lists_most kind v (x ∷ xs) (l ∷ lists) loose prefix h =
      let rest : ℕ = greatest (map (λ (f : Layout). f.align.abi) lists) in
      let both : 2 ^ max l.align.abi rest ≡ max (2 ^ l.align.abi) (2 ^ rest) = pow_max l.align.abi rest in
      let is : 2 ^ l.align.abi ≡ max (2 ^ least_align dl repr) (most_aligned (map extent_of v)) = list_most kind v l loose prefix h.0 in
      let more : 2 ^ rest ≡ max (2 ^ least_align dl repr) (most_of (x ∷ xs)) = lists_most kind x xs lists loose prefix h.1 in
      omega arith

-- ---- variants beside a tag have as many offsets

grown_long : (b : Bool) (v w : VariantLayout ℕ) → length v.field_offsets ≡ length w.field_offsets → length (if b then v else w).field_offsets ≡ length w.field_offsets
grown_long true v w e = e
grown_long false v w e = refl

tagged_counts : (old new : ℕ) (view : BackendRepr) (size : ℕ) (lists : List Layout) (variants : List (List Placed)) → ListCounts lists variants
    → HaveCounts (map (λ list. variant_with_view view size (grown_variant old new (variant_of list))) lists) variants
tagged_counts old new view size [] [] h = tt
tagged_counts old new view size [] (ps ∷ variants) h = absurd h
tagged_counts old new view size (l ∷ lists) [] h = absurd h
tagged_counts old new view size (l ∷ lists) (ps ∷ variants) h =
    let grown : VariantLayout ℕ = grown_variant old new (variant_of l) in (
      ap length (either_keeps _ _ grown refl)
          ∙ grown_long (nat_lt old new) _ (variant_of l) (length-map (listed_offsets l.fields) (moved_offset old new)) ∙ h.0,
      tagged_counts old new view size lists variants h.1,
    )

-- ---- and beside a niche

abbrev one : VariantLayout ℕ → Option (VariantLayout ℕ)
one v = Some v

inj-one : (v w : VariantLayout ℕ) → one v ≡ one w → v ≡ w
inj-one v w e = cc

no_one : (v : VariantLayout ℕ) → None ≡ one v → ⊥
no_one v e = cc

first_long : (own before after : Bool) (by : ℕ) (v x : VariantLayout ℕ)
    → (if own then Some v else (if before then Some (without_niche v) else (if after then Some (moved_on by v) else None))) ≡ Some x
    → length x.field_offsets ≡ length v.field_offsets
first_long true before after by v x e = ap (λ (w : VariantLayout ℕ). length w.field_offsets) (sym (inj-one v x e))
first_long false true after by v x e = ap (λ (w : VariantLayout ℕ). length w.field_offsets) (sym (inj-one (without_niche v) x e))
first_long false false true by v x e =
    ap (λ (w : VariantLayout ℕ). length w.field_offsets) (sym (inj-one (moved_on by v) x e)) ∙ length-map v.field_offsets (λ o. by + o)
first_long false false false by v x e = absurd (no_one x e)

abbrev all_of : List (VariantLayout ℕ) → Option (List (VariantLayout ℕ))
all_of vs = Some vs

inj-all : (v w : List (VariantLayout ℕ)) → all_of v ≡ all_of w → v ≡ w
inj-all v w e = cc

no_all : (v : List (VariantLayout ℕ)) → None ≡ all_of v → ⊥
no_all v e = cc

with_first_is : (o : Option (VariantLayout ℕ)) (os : Option (List (VariantLayout ℕ))) (vs : List (VariantLayout ℕ)) → with_first o os ≡ Some vs
    → (x : VariantLayout ℕ) × (xs : List (VariantLayout ℕ)) × (o ≡ Some x) × (os ≡ Some xs) × (x ∷ xs ≡ vs)
with_first_is None os vs e = absurd (no_all vs e)
with_first_is (Some x) None vs e = absurd (no_all vs e)
with_first_is (Some x) (Some xs) vs e = (x, xs, refl, refl, inj-all (x ∷ xs) vs e)

niche_counts : (room : Room) (untagged from : ℕ) (lists : List Layout) (variants : List (List Placed)) (vs : List (VariantLayout ℕ)) → ListCounts lists variants
    → variants_from room untagged from lists ≡ Some vs → HaveCounts vs variants
niche_counts room untagged from [] [] vs h e = subst (λ ws. HaveCounts ws []) (inj-all [] vs e) tt
niche_counts room untagged from [] (ps ∷ variants) vs h e = absurd h
niche_counts room untagged from (l ∷ lists) [] vs h e = absurd h
niche_counts room untagged from (l ∷ lists) (ps ∷ variants) vs h e =
    let w = with_first_is (if from == untagged then Some (variant_of l) else beside_niche room l.align.abi (variant_of l)) (variants_from room untagged (from + 1) lists) vs e in
    let own : length w.0.field_offsets ≡ length ps =
    first_long (from == untagged) (nat_le l.size room.before) (nat_le (place_after room l.align.abi + l.size) room.whole) (place_after room l.align.abi) (variant_of l) w.0 w.2
    ∙ h.0 in
    subst (λ ws. HaveCounts ws (ps ∷ variants)) w.4 (own, niche_counts room untagged (from + 1) lists variants w.1 h.1 w.3)

-- ---- a tag of a byte

all_numbered : (P : ℕ → Type 0) (from : ℕ) (numbers : List ℕ) → All P numbers → All (λ item. P item.1) (numbered_from from numbers)
all_numbered P from [] all = All-nil (λ item. P item.1)
all_numbered P from (n ∷ ns) all =
    All-cons (λ item. P item.1) (from, n) (numbered_from (from + 1) ns) (All-head P n ns all) (all_numbered P (from + 1) ns (All-tail P n ns all))

free_by : (b c : Bool) → not (b || c) ≡ true → (b ≡ false) × (c ≡ false)
free_by true c e = absurd (cc)
free_by false true e = absurd (cc)
free_by false false e = (refl, refl)

no_name : (o : Option IntegerType) → is_some o ≡ false → o ≡ None
no_name None e = refl
no_name (Some type) e = absurd (cc)

byte_by : (dl : TargetDataLayout) → IsLawfulDataLayout dl → (i : Integer) → integer_size i ≤ 1 → integer_align dl i ≡ 0
byte_by dl law I8 le = byte_align dl law
byte_by dl law _ le = absurd (omega arith)

natural_is : (m n : ℕ) → pos m ≡ pos n → m ≡ n
natural_is m n e = cc

-- a natural number of a byte
abbrev IsSmall : ℤ → Type 0
IsSmall z = (n : ℕ) × (n < 256) × (z ≡ pos n)

module _ (dl : TargetDataLayout) (law : IsLawfulDataLayout dl) (repr : ReprOptions) (free : is_free repr ≡ true) where
  unnamed : repr.int ≡ None
  unnamed = no_name repr.int (free_by (is_c repr) (is_some repr.int) free).1

  asked_small : (layouts : List (List Layout)) (numbers : List ℕ) (items : List (ℕ × ℕ)) (asked : Integer) (signed : Bool) → All (λ d. d < 256) numbers → items ≡ numbered_from 0 numbers
      → IsAskedFor dl repr (IsAsking dl repr) (counted_discriminants (λ v. v) repr layouts items) asked signed → integer_size asked ≤ 1
  asked_small layouts numbers items asked signed small are (least, greatest, with, is) =
      let test = counts (λ (v : ℕ). v) repr layouts in
      let values : List ℕ = counted_discriminants (λ v. v) repr layouts items in
      let each : All (λ d. d < 256) values =
      All-map (λ d. d < 256) (λ (item : ℕ × ℕ). item.1) (filter test items)
      (All-filter test (λ item. item.1 < 256) items (subst (All (λ (item : ℕ × ℕ). item.1 < 256)) (sym are) (all_numbered (λ d. d < 256) 0 numbers small))) in
      let means : All (λ d. IsSmall (meant_by dl repr d)) values =
      λ k d lt. (_, each k d lt, low_meant dl law repr (ap (λ o. unwrap_or o (Pointer true)) unnamed) _ (each k d lt)) in
      let zs : List ℤ = pos 0 ∷ map (meant_by dl repr) values in
      let all : All IsSmall zs =
      All-cons IsSmall (pos 0) (map (meant_by dl repr) values) (0, lit< tt, refl) (All-map IsSmall (meant_by dl repr) values means) in
      let low : IsSmall least = All-contains IsSmall zs least all with.0.0 in
      let high : IsSmall (pos greatest) = All-contains IsSmall zs (pos greatest) all with.1.0 in
      let most : greatest < 256 = subst (λ n. n < 256) (natural_is high.0 greatest (sym high.2)) high.1 in
      let bytes : least_tag dl repr ≡ 1 = ap (λ b. if b then min (integer_size dl.c_enum_min_size) dl.default_address_space_pointer_spec.pointer_offset else 1) (free_by (is_c repr) (is_some repr.int) free).0 in
      let holds : holds_both least greatest I8 ≡ true = subst (λ z. holds_both z greatest I8 ≡ true) (sym low.2) (lt-ltb greatest 256 most) in
      let chosen : Integer = least_integer (least_tag dl repr) least greatest in
      let first = first_integer (λ i. nat_le (least_tag dl repr) (integer_size i) && holds_both least greatest i) I8
      (and_from (nat_le (least_tag dl repr) 1) (holds_both least greatest I8) (le-leb (least_tag dl repr) 1 (omega (arith, bytes))) holds) in
      let own : asked ≡ chosen =
      ap (λ (x : Integer × Bool). x.0)
      (is ∙ ap (λ o. unwrap_or (option_map (λ type. (integer_of_type dl type, is_signed_type type)) o) (least_integer (least_tag dl repr) least greatest, is_negative least)) unnamed) in
      subst (λ i. integer_size i ≤ 1) (sym own) first.0

  -- ---- several variants

  -- the alignment by the fields', and as many offsets as fields
  abbrev CountsIn : Layout → LayoutVariants ℕ ℕ → List (List Placed) → Type 0
  CountsIn layout Empty variants = ⊤
  CountsIn layout (Single i) variants = length (listed_offsets layout.fields) ≡ length (variant_at variants i)
  CountsIn layout (Multiple tag encoding field layouts) variants = HaveCounts layouts variants

  abbrev IsMost : List (List Placed) → Layout → Type 0
  IsMost variants layout =
      (2 ^ layout.align.abi ≡ max (2 ^ dl.aggregate_align) (max (2 ^ least_align dl repr) (most_of variants))) × CountsIn layout layout.variants variants

  most_by : (kind : StructKind) (v : List Placed) (vs : List (List Placed)) (lists : List Layout) → repr.pack ≡ None → prefix_align repr.pack kind ≡ 0
      → AreListLayouts layout_of (λ i. i) 0 dl repr kind (v ∷ vs) lists
      → 2 ^ lists_align dl lists ≡ max (2 ^ dl.aggregate_align) (max (2 ^ least_align dl repr) (most_of (v ∷ vs)))
  most_by kind v vs lists loose prefix are =
      pow_max dl.aggregate_align (greatest (map (λ (f : Layout). f.align.abi) lists))
      ∙ ap (max (2 ^ dl.aggregate_align)) (lists_most dl repr kind v vs lists loose prefix are)

  module _ (numbers : List ℕ) (small : All (λ d. d < 256) numbers) (v : List Placed) (vs : List (List Placed)) where
    niche_most : (found : Option Layout) (n : Layout) → repr.pack ≡ None → found ≡ Some n
        → IsNicheAnswer AreListLayouts layout_of (λ i. i) (λ i. i) dl repr (v ∷ vs) found → IsMost (v ∷ vs) n
    niche_most found n loose is (inl h) = absurd (no_layout n (sym h.1 ∙ is))
    niche_most found n loose is (inr (inl h)) = absurd (no_layout n (sym h.3 ∙ is))
    niche_most found n loose is (inr (inr (own, lists, are, e))) =
        of_span dl repr (untagged_of lists) lists (IsMost (v ∷ vs))
        (λ span list niche ws made.
        (most_by AlwaysSized v vs lists loose refl are, niche_counts (room_beside dl niche lists) (untagged_of lists) 0 lists (v ∷ vs) ws (lists_count dl repr AlwaysSized (v ∷ vs) lists are) made))
        (span_of (needing_numbers (untagged_of lists) (layouts_of (v ∷ vs)))) n (sym e ∙ is)

    tagged_most : (items : List (ℕ × ℕ)) (l : Layout) → repr.pack ≡ None → items ≡ numbered_from 0 numbers
        → IsAskedAnswer layout_of (λ i. i) (λ i. i) 0 dl repr (IsAsking dl repr) (counted_discriminants (λ v. v) repr (layouts_of (v ∷ vs)) items) (v ∷ vs) (Ok l) → IsMost (v ∷ vs) l
    tagged_most items l loose same (asked, signed, for, (lists, are, by)) =
        let narrow : integer_size asked ≤ 1 = asked_small (layouts_of (v ∷ vs)) numbers items asked signed small same for in
        let kind : StructKind = behind_tag dl repr asked (layouts_of (v ∷ vs)) in
        let none : prefix_align repr.pack kind ≡ 0 =
        ap₂ (λ (pack : Option ℕ) c. cut pack (if c then align_with_all (integer_align dl asked) (layouts_of (v ∷ vs)) else integer_align dl asked)) loose (free_by (is_c repr) (is_some repr.int) free).0
        ∙ byte_by dl law asked narrow in
        let grown : Integer = grown_tag dl repr asked (start_align (λ i. i) (layouts_of (v ∷ vs)) lists) in
        let view : BackendRepr = tagged_view dl (Initialized (Int grown signed) by.ranged.0) (lists_size dl lists) (lists_align dl lists)
        (payloads_of dl (integer_size asked) (integer_size grown) (layouts_of (v ∷ vs)) lists) in
        subst (IsMost (v ∷ vs)) (sym by.ranged.2)
        (most_by kind v vs lists loose none are, tagged_counts (integer_size asked) (integer_size grown) view (lists_size dl lists) lists (v ∷ vs) (lists_count dl repr kind (v ∷ vs) lists are))

    several_most : (layout : Layout)
        → IsSeveralAnswer layout_of (λ i. i) (λ i. i) (λ i. i) (λ i. i) dl repr (IsAsking dl repr) (v ∷ vs) (λ items. items ≡ numbered_from 0 numbers) (Ok layout)
        → IsMost (v ∷ vs) layout
    several_most layout (inl packed) = absurd (no_error layout _ packed.1)
    several_most layout (inr (inl want)) = absurd (no_error layout _ want.1)
    several_most layout (inr (inr (loose, items, are, inl want))) = absurd (no_error layout _ want)
    several_most layout (inr (inr (loose, items, are, inr (niche, beside, Err e, asked, is)))) = absurd (no_error layout e is)
    several_most layout (inr (inr (loose, items, are, inr (niche, beside, Ok l, asked, is)))) =
        subst (IsMost (v ∷ vs)) (sym (inj-answer layout _ is))
        (better_has dl (IsMost (v ∷ vs)) l niche (tagged_most items l loose are asked)
        (λ n some. niche_most niche n loose some beside))

  -- ---- of each way in which such an enum is laid out

  abbrev IsAlignedOn : EnumStrategy → List (List Placed) → ℕ → Type 0
  IsAlignedOn NoValue variants align = ⊤
  IsAlignedOn (OneList i) variants align = align ≡ max (2 ^ least_align dl repr) (most_aligned (map extent_of (variant_at variants i)))
  IsAlignedOn Several variants align = align ≡ max (2 ^ dl.aggregate_align) (max (2 ^ least_align dl repr) (most_of variants))

  abbrev IsAnswerOn : List ℕ → EnumStrategy → List (List Placed) → Layout → Type 0
  IsAnswerOn numbers strategy variants layout =
      IsTypeAnswer layout_of (λ i. i) (λ i. i) (λ i. i) (λ i. i) dl repr variants true true Enabled (IsAsking dl repr) (λ items. items ≡ numbered_from 0 numbers) strategy (Ok layout)

  on_path : (numbers : List ℕ) → All (λ d. d < 256) numbers → repr.pack ≡ None → (strategy : EnumStrategy) (v : List Placed) (vs : List (List Placed)) (layout : Layout)
      → IsAnswerOn numbers strategy (v ∷ vs) layout → IsAlignedOn strategy (v ∷ vs) (2 ^ layout.align.abi) × CountsIn layout layout.variants (v ∷ vs)
  on_path numbers small loose NoValue v vs layout e =
      (tt, subst (λ (l : Layout). CountsIn l l.variants (v ∷ vs)) (sym (inj-answer layout (never_layout dl) e)) tt)
  on_path numbers small loose (OneList i) v vs layout e =
      subst (λ (l : Layout). IsAlignedOn (OneList i) (v ∷ vs) (2 ^ l.align.abi) × CountsIn l l.variants (v ∷ vs)) (sym e.2)
      (list_most dl repr AlwaysSized (variant_at (v ∷ vs) i) e.0 loose refl e.1, list_count dl repr AlwaysSized (variant_at (v ∷ vs) i) e.0 e.1)
  on_path numbers small loose Several v vs layout e = several_most numbers small v vs layout e

-- ---- the variants' fields have no other layouts

module _ (dl : TargetDataLayout) where
  only_one : (t : Tree) (p : Placed) → IsOnly dl t p → (q : Placed) → IsLaying dl t (Ok q) → q ≡ p
  only_one t p h = h.0

  -- those that have no place
  same_alone : (ts : Trees) → (h : ByThemselves dl ts (OfEach dl (IsOnly dl) ts)) → (ps : List Placed) → AreLaying dl ts (Ok ps) → ps ≡ h.0
  same_alone ts h ps are = same_fields dl (IsOnly dl) only_one ts (map (λ q. 0) h.0) h.0 ps (length-map {B = ℕ} h.0 (λ q. 0)) h.1 h.2 are

  same_absent : (all : Variants) (variants others : List (List Placed)) → OfAbsent dl (IsOnly dl) all → VariantsLaying dl all (Ok variants) → VariantsLaying dl all (Ok others)
      → others ≡ variants
  same_absent no_variants variants others h are k = inj-variants dl others variants (k ∙ sym are)
  same_absent (more_variants d ts rest) variants others h (inl f) k = absurd (cc f.2)
  same_absent (more_variants d ts rest) variants others h (inr (ps, here, inl f)) k = absurd (cc f.2)
  same_absent (more_variants d ts rest) variants others h (inr (ps, here, inr (more, later, is))) (inl f) = absurd (cc f.2)
  same_absent (more_variants d ts rest) variants others h (inr (ps, here, inr (more, later, is))) (inr (qs, there, inl f)) = absurd (cc f.2)
  same_absent (more_variants d ts rest) variants others h (inr (ps, here, inr (more, later, is))) (inr (qs, there, inr (last, after, that))) =
      let own : qs ≡ ps = same_alone ts h.0 qs there ∙ sym (same_alone ts h.0 ps here) in
      inj-variants dl others (qs ∷ last) that ∙ ap₂ (λ (y : List Placed) (ys : List (List Placed)). y ∷ ys) own (same_absent rest more last h.1 later after)
      ∙ sym (inj-variants dl variants (ps ∷ more) is)

  same_single : (all : Variants) (i : ℕ) (os : List ℕ) (variants others : List (List Placed)) → length os ≡ length (variant_at variants i)
      → OfVariant dl (IsOnly dl) all i (parts_at os (variant_at variants i)) → VariantsLaying dl all (Ok variants) → VariantsLaying dl all (Ok others) → others ≡ variants
  same_single no_variants i os variants others long h are k = absurd h
  same_single (more_variants d ts rest) i os variants others long h (inl f) k = absurd (cc f.2)
  same_single (more_variants d ts rest) i os variants others long h (inr (ps, here, inl f)) k = absurd (cc f.2)
  same_single (more_variants d ts rest) i os variants others long h (inr (ps, here, inr (more, later, is))) (inl f) = absurd (cc f.2)
  same_single (more_variants d ts rest) i os variants others long h (inr (ps, here, inr (more, later, is))) (inr (qs, there, inl f)) = absurd (cc f.2)
  same_single (more_variants d ts rest) i os [] others long h (inr (ps, here, inr (more, later, is))) (inr (qs, there, inr (last, after, that))) = absurd (cc)
  same_single (more_variants d ts rest) zero os (xs ∷ variants) others long h (inr (ps, here, inr (more, later, is))) (inr (qs, there, inr (last, after, that))) =
      let first : ps ≡ xs = cc in
      let tail : more ≡ variants = cc in
      let own : qs ≡ xs = same_fields dl (IsOnly dl) only_one ts os xs qs long (subst (λ zs. AreLaying dl ts (Ok zs)) first here) h.0 there in
      let rests : last ≡ variants = same_absent rest variants last h.1 (subst (λ zs. VariantsLaying dl rest (Ok zs)) tail later) after in
      inj-variants dl others (qs ∷ last) that ∙ ap₂ (λ (y : List Placed) (ys : List (List Placed)). y ∷ ys) own rests
  same_single (more_variants d ts rest) (suc i) os (xs ∷ variants) others long h (inr (ps, here, inr (more, later, is))) (inr (qs, there, inr (last, after, that))) =
      let first : ps ≡ xs = cc in
      let tail : more ≡ variants = cc in
      let own : qs ≡ xs = same_alone ts h.0 qs there ∙ sym (same_alone ts h.0 ps here) ∙ first in
      let rests : last ≡ variants = same_single rest i os variants last long h.1 (subst (λ zs. VariantsLaying dl rest (Ok zs)) tail later) after in
      inj-variants dl others (qs ∷ last) that ∙ ap₂ (λ (y : List Placed) (ys : List (List Placed)). y ∷ ys) own rests

-- ---- the rule

-- what a whole is aligned to, whichever way it is laid out
pub whole_align : (dl : TargetDataLayout) (repr : ReprOptions) (numbers : List ℕ) (variants : List (List Placed)) (layout : Layout) (vs : LayoutVariants ℕ ℕ)
    → align_in_bytes (placed_variants dl repr numbers variants layout vs) ≡ 2 ^ layout.align.abi
whole_align dl repr numbers variants layout Empty = refl
whole_align dl repr numbers variants layout _ = refl

lone_join : (a n m : ℕ) → 0 < a → max (max a n) m ≡ max (max a n) (max (max a 1) m)
lone_join a n m some =
    let one : max a 1 ≡ a = omega arith in
    let both : max (max a n) m ≡ max (max a n) (max a m) = omega arith in
    both ∙ ap (λ k. max (max a n) (max k m)) (sym one)

many_join : (a n m : ℕ) → 0 < a → max a (max (max a n) m) ≡ max (max a n) (max a (max (max a 1) m))
many_join a n m some =
    let one : max a 1 ≡ a = omega arith in
    raised_alike a n m ∙ ap (max (max a n)) (sym (ap (λ k. max a (max k m)) one ∙ twice a m))

-- without variants there is no value
none_by : (dl : TargetDataLayout) (repr : ReprOptions) (numbers : List ℕ) (layout : Layout) → IsEnumed dl repr numbers [] (Ok layout) → layout ≡ never_layout dl
none_by dl repr numbers layout h = inj-answer layout (never_layout dl) h

module _ (dl : TargetDataLayout) (law : IsLawfulDataLayout dl) (repr : ReprOptions) (free : is_free repr ≡ true) (loose : repr.pack ≡ None) (n : ℕ) (raised : repr.align ≡ Some n)
    (all : Variants) (small : All (λ d. d < 256) (discriminants_of all)) where
  abbrev numbers : List ℕ
  numbers = discriminants_of all

  -- the greatest of both least alignments
  high_least : 2 ^ least_align dl repr ≡ max (2 ^ dl.aggregate_align) (2 ^ n)
  high_least =
      ap₂ (λ (pack raised : Option ℕ). 2 ^ max (if is_some pack then dl.i8_align else dl.aggregate_align) (unwrap_or raised 0)) loose raised ∙ pow_max dl.aggregate_align n

  low_least : 2 ^ least_align dl (unaligned repr) ≡ max (2 ^ dl.aggregate_align) 1
  low_least = ap (λ (pack : Option ℕ). 2 ^ max (if is_some pack then dl.i8_align else dl.aggregate_align) 0) loose ∙ pow_max dl.aggregate_align 0

  some : 0 < 2 ^ dl.aggregate_align
  some = pow_pos dl.aggregate_align

  by_way : (strategy : EnumStrategy) (v : List Placed) (vs : List (List Placed)) (layout lower : Layout) → IsAnswerOn dl law repr free numbers strategy (v ∷ vs) layout
      → IsAnswerOn dl law (unaligned repr) free numbers strategy (v ∷ vs) lower → HasVariant (placed_enum dl repr numbers (v ∷ vs) layout)
      → 2 ^ layout.align.abi ≡ max (max (2 ^ dl.aggregate_align) (2 ^ n)) (2 ^ lower.align.abi)
  by_way NoValue v vs layout lower h k left =
      absurd (subst (λ l. HasVariant (placed_enum dl repr numbers (v ∷ vs) l)) (inj-answer layout (never_layout dl) h) left)
  by_way (OneList i) v vs layout lower h k left =
      let m : ℕ = most_aligned (map extent_of (variant_at (v ∷ vs) i)) in
      let high = (on_path dl law repr free numbers small loose (OneList i) v vs layout h).0 in
      let low = (on_path dl law (unaligned repr) free numbers small loose (OneList i) v vs lower k).0 in
      high ∙ ap (λ a. max a m) high_least ∙ lone_join (2 ^ dl.aggregate_align) (2 ^ n) m some
      ∙ ap (max (max (2 ^ dl.aggregate_align) (2 ^ n))) (sym (low ∙ ap (λ a. max a m) low_least))
  by_way Several v vs layout lower h k left =
      let m : ℕ = most_of (v ∷ vs) in
      let high = (on_path dl law repr free numbers small loose Several v vs layout h).0 in
      let low = (on_path dl law (unaligned repr) free numbers small loose Several v vs lower k).0 in
      high ∙ ap (λ a. max (2 ^ dl.aggregate_align) (max a m)) high_least ∙ many_join (2 ^ dl.aggregate_align) (2 ^ n) m some
      ∙ ap (max (max (2 ^ dl.aggregate_align) (2 ^ n))) (sym (low ∙ ap (λ a. max (2 ^ dl.aggregate_align) (max a m)) low_least))

  same_of : (variants others : List (List Placed)) (layout : Layout) (vs : LayoutVariants ℕ ℕ) → CountsIn dl law repr free layout vs variants
      → HasVariant (placed_variants dl repr numbers variants layout vs) → Within dl (IsOnly dl) (enum repr all) (placed_variants dl repr numbers variants layout vs)
      → VariantsLaying dl all (Ok variants) → VariantsLaying dl all (Ok others) → others ≡ variants
  same_of variants others layout Empty counts left inside are k = absurd left
  same_of variants others layout (Single i) counts left inside are k = same_single dl all i (listed_offsets layout.fields) variants others counts inside are k
  same_of variants others layout (Multiple tag encoding field layouts) counts left inside are k =
      same_variants dl layout (mark_of true repr) 0 all variants others layouts counts are inside k

  pub free_raised : (p q : Placed) → HasVariant p → Within dl (IsOnly dl) (enum repr all) p → IsLaying dl (enum repr all) (Ok p) → IsLaying dl (enum (unaligned repr) all) (Ok q)
      → align_in_bytes p ≡ max (max (2 ^ dl.aggregate_align) (2 ^ n)) (align_in_bytes q)
  free_raised p q left inside (inl f) k = absurd (cc f.2)
  free_raised p q left inside (inr h) (inl f) = absurd (cc f.2)
  free_raised p q left inside (inr (variants, there, answer)) (inr (others, here, other)) =
      let found = laid_by (enum_fault dl repr numbers variants) (IsEnumed dl repr numbers variants) (placed_enum dl repr numbers variants) p answer in
      let lower = laid_by (enum_fault dl (unaligned repr) numbers others) (IsEnumed dl (unaligned repr) numbers others) (placed_enum dl (unaligned repr) numbers others) q other in
      let own : HasVariant (placed_enum dl repr numbers variants found.0) = subst HasVariant (sym found.2) left in
      let inner : Within dl (IsOnly dl) (enum repr all) (placed_enum dl repr numbers variants found.0) = subst (Within dl (IsOnly dl) (enum repr all)) (sym found.2) inside in
      let high : align_in_bytes p ≡ 2 ^ found.0.align.abi = ap align_in_bytes (sym found.2) ∙ whole_align dl repr numbers variants found.0 found.0.variants in
      let low : align_in_bytes q ≡ 2 ^ lower.0.align.abi = ap align_in_bytes (sym lower.2) ∙ whole_align dl (unaligned repr) numbers others lower.0 lower.0.variants in
      high ∙ go variants others found.0 lower.0 there here found.1 lower.1 own inner ∙ ap (max (max (2 ^ dl.aggregate_align) (2 ^ n))) (sym low)
    where
      go : (variants others : List (List Placed)) (layout lower : Layout) → VariantsLaying dl all (Ok variants) → VariantsLaying dl all (Ok others)
          → IsEnumed dl repr numbers variants (Ok layout) → IsEnumed dl (unaligned repr) numbers others (Ok lower)
          → HasVariant (placed_enum dl repr numbers variants layout) → Within dl (IsOnly dl) (enum repr all) (placed_enum dl repr numbers variants layout)
          → 2 ^ layout.align.abi ≡ max (max (2 ^ dl.aggregate_align) (2 ^ n)) (2 ^ lower.align.abi)
      go [] others layout lower there here h k left inner =
          absurd (subst (λ l. HasVariant (placed_enum dl repr numbers [] l)) (none_by dl repr numbers layout h) left)
      go (v ∷ vs) others layout lower there here h k left inner =
          let strategy : EnumStrategy = strategy_of true repr (layouts_of (v ∷ vs)) in
          let counts : CountsIn dl law repr free layout layout.variants (v ∷ vs) = (on_path dl law repr free numbers small loose strategy v vs layout h).1 in
          let same : others ≡ v ∷ vs = same_of (v ∷ vs) others layout layout.variants counts left inner there here in
          by_way strategy v vs layout lower h (subst (λ ws. IsEnumed dl (unaligned repr) numbers ws (Ok lower)) same k) left

module _ (dl : TargetDataLayout) where
  -- with Rust's own representation, or with another
  raised_either : IsLawfulDataLayout dl → (repr : ReprOptions) (d : ℕ) (ts : Trees) (rest : Variants) (p q : Placed) (n : ℕ) → repr.align ≡ Some n
      → IsRaisable repr (more_variants d ts rest) p → Within dl (IsOnly dl) (enum repr (more_variants d ts rest)) p → IsLaying dl (enum repr (more_variants d ts rest)) (Ok p)
      → IsLaying dl (enum (unaligned repr) (more_variants d ts rest)) (Ok q) → align_in_bytes p ≡ max (max (2 ^ dl.aggregate_align) (2 ^ n)) (align_in_bytes q)
  raised_either law repr d ts rest p q n raised (inl foreign) inside h k =
      raised_foreign dl repr d ts rest p q n foreign raised inside h k ∙ ap (λ a. max a (align_in_bytes q)) (pow_max dl.aggregate_align n)
  raised_either law repr d ts rest p q n raised (inr own) inside h k = by (is_free repr) refl
    where
      foreign_by : (b c : Bool) → not (b || c) ≡ false → (b ≡ true) ⊎ (c ≡ true)
      foreign_by true c e = inl refl
      foreign_by false true e = inr refl
      foreign_by false false e = absurd (cc)

      by : (b : Bool) → is_free repr ≡ b → align_in_bytes p ≡ max (max (2 ^ dl.aggregate_align) (2 ^ n)) (align_in_bytes q)
      by true free =
          free_raised dl law repr free own.0 n raised (more_variants d ts rest)
          (subst (All (λ d. d < 256)) (sym (same_numbers (more_variants d ts rest))) own.1) p q own.2 inside h k
      by false asked =
          raised_foreign dl repr d ts rest p q n (foreign_by (is_c repr) (is_some repr.int) asked) raised inside h k
          ∙ ap (λ a. max a (align_in_bytes q)) (pow_max dl.aggregate_align n)

  pub only_raised_enum : IsLawfulDataLayout dl → (t : Tree) (p : Placed) → IsOnly dl t p → Within dl (IsOnly dl) t p → IsRaisedEnum (λ t p. IsLaying dl t (Ok p)) t p
  only_raised_enum law (enum repr no_variants) p h inside = tt
  only_raised_enum law (enum repr (more_variants d ts rest)) p h inside = λ n raised able around too loose wrapped there.
      let outer = around_is dl around (enum (unaligned repr) (more_variants d ts rest)) n wrapped too loose there in
      let is : align_in_bytes p ≡ max (max (2 ^ dl.aggregate_align) (2 ^ n)) (align_in_bytes outer.0) =
      raised_either law repr d ts rest p outer.0 n raised able inside h.1 outer.1 in
      let some : 0 < align_in_bytes outer.0 = pow_pos (layout_of outer.0).align.abi in
      let one : max (align_in_bytes outer.0) 1 ≡ align_in_bytes outer.0 = omega arith in
      is ∙ sym (outer.2 ∙ ap₂ (λ a b. max a b) (pow_max dl.aggregate_align n) one)
  only_raised_enum law _ p h inside = tt
