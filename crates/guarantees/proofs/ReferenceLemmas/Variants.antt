-- Enums beside a tag or a niche: their fields lie at multiples of their alignments, in a whole that is aligned as each of them.
use Rattle.std.proofs.Common.{◌≡◌, ℕ, suc, ◌+◌, ◌*◌, ◌^◌, ◌<◌, ◌≤◌, Bool, true, false, List, [], ◌∷◌, Option, None, Some, length, map, refl, sym, ap, ◌∙◌, subst, arith, inl, inr, ⊎_elim, Ok, Err, Result}
use Rattle.std.specs.Prelude.{◌==◌, ⊤, All, MatchBool, max, nat_le, unwrap_or, if◌then◌else◌}
use Rattle.std.specs.Int.{◌∣◌}
use Rattle.std.proofs.Math.Nat.{dvd-add, dvd_trans}
use Rattle.std.proofs.Math.Pow.{pow_mono}
use Rattle.std.proofs.lemmas.Bool.{cases_lt, eqb-true}
use Rattle.std.proofs.lemmas.List.{length-map}
use Rattle.std.proofs.lemmas.List.Elements.{All-cons, All-head, All-nil, All-tail}
use Rattle.std.proofs.lemmas.Nat.{pow-add, pow_pos}
use Rattle.std.proofs.lemmas.Nat.Gcd.{dvd-zero}
use Rattle.abi_base.specs.declared.data_layout.TargetDataLayout.{TargetDataLayout}
use Rattle.abi_base.specs.declared.integer.Integer.{Integer}
use Rattle.abi_base.specs.declared.integer.Integer.TheVariants.{I8, I16, I32, I64, I128}
use Rattle.abi_base.specs.declared.niche_optimizations.NicheOptimizations.TheVariants.{Enabled}
use Rattle.abi_base.specs.declared.struct_kind.StructKind.{StructKind}
use Rattle.abi_base.specs.declared.struct_kind.StructKind.TheVariants.{AlwaysSized}
use Rattle.abi_base.specs.DataLayout.{IsLawfulDataLayout}
use Rattle.abi_base.specs.Integer.{integer_size}
use Rattle.abi_scalar.specs.declared.error.LayoutCalculatorError.{LayoutCalculatorError}
use Rattle.abi_scalar.specs.declared.niche.Niche.{Niche as FreeNumbers}
use Rattle.abi_scalar.specs.declared.repr.ReprOptions.{ReprOptions}
use Rattle.abi_scalar.specs.declared.variants.TagEncoding.TheVariants.{Direct, Niche}
use Rattle.abi_scalar.specs.declared.variants.VariantLayout.{VariantLayout}
use Rattle.abi_scalar.specs.declared.variants.Variants.{Variants as LayoutVariants}
use Rattle.abi_scalar.specs.declared.variants.Variants.TheVariants.{Empty, Multiple, Single}
use Rattle.abi_scalar.specs.Shape.{listed_offsets}
use Rattle.abi_scalar.specs.Simple.{never_layout}
use Rattle.abi_univariant.specs.declared.part.Part.{Part}
use Rattle.abi_univariant.specs.Fields.{greatest}
use Rattle.abi_univariant.specs.Least.{IsPlacedBy, align_by}
use Rattle.abi_univariant.specs.List.{IsUnivariantAnswer}
use Rattle.abi_univariant.specs.Part.{part_of, parts_of as asked_of}
use Rattle.abi_univariant.specs.Placement.{align_of as list_align, fields_repr, own_align, prefix_align, start_of}
use Rattle.abi_calc.specs.declared.enums.strategy.EnumStrategy.{EnumStrategy}
use Rattle.abi_calc.specs.declared.enums.strategy.EnumStrategy.TheVariants.{NoValue, OneList, Several}
use Rattle.abi_calc.specs.Enums.Answer.{IsTypeAnswer}
use Rattle.abi_calc.specs.Enums.Choice.{IsNicheAnswer, preferred_layout, takes_niche}
use Rattle.abi_calc.specs.Enums.Growth.{moved_offset}
use Rattle.abi_calc.specs.Enums.Lists.{AreListLayouts, behind_tag}
use Rattle.abi_calc.specs.Enums.Niche.{if_list, if_niche, if_placed, if_span, needing_numbers, layout_in_niche, niche_layout, room_beside, span_count, span_of, untagged_of, variants_from}
use Rattle.abi_calc.specs.Enums.EnumStrategy.{strategy_of}
use Rattle.abi_calc.specs.Enums.Several.{IsAskedAnswer, IsSeveralAnswer}
use Rattle.abi_calc.specs.Enums.Tagged.{lists_align}
use Rattle.abi_scalar.specs.Niche.{available_in}
use Rattle.abi_scalar.specs.Reserve.{reserved}
use Rattle.abi_tree.specs.declared.mark.Mark.{Mark}
use Rattle.abi_tree.specs.Mark.{mark_of}
use Rattle.abi_tree.specs.Nodes.{parts_at}
use Rattle.abi_tree.specs.Placed.{Placed, Parts, no_parts, part, TaggedVariants, nothing_tagged, tagged_variant, layout_of, size_of, fields, single, tagged, states as in_states}
use Rattle.abi_scalar.specs.Layout.{Layout}
use Rattle.abi_tree.specs.Tree.{Tree, Variants, struct, union, enum}
use Rattle.rustc_abi.specs.Enums.{IsEnumed, IsTagIntegerAnswer as IsAsking, tagged_variants_at, discriminants_of, layouts_of, numbered_from}
use Rattle.rustc_abi.specs.Laying.{IsLaying, enum_fault, one_scalar, placed_enum, placed_together, placed_variants}
use Rattle.rustc_abi.specs.Orders.{LiesAsAsked}
use Rattle.rustc_abi.specs.Least.{fields_of}
use Rattle.rustc_abi.specs.Lists.{AreListsBeside, AreMovedLists, HasLeastLists, IsLeastList, MayMove, offsets_of, types_of}
use Rattle.guarantees.specs.Reference.Words.{align_in_bytes, extent_of, most_aligned}
use Rattle.guarantees.specs.Reference.RustLayout.{AreAlignedIn, IsAligned}
use Rattle.guarantees.proofs.ReferenceLemmas.Answers.{laid_by}
use Rattle.guarantees.proofs.ReferenceLemmas.Lists.{align_same, aligned_some, extents_for, pow_max}
use Rattle.guarantees.proofs.ReferenceLemmas.Over.{least_align, run_has, struct_laid, union_laid}
use Rattle.abi_univariant.proofs.Offsets.Rounding.{pow_dvd, rounded_to}
use Rattle.guarantees.proofs.ReferenceLemmas.Rows.{IsFitting, each_fits, row_of, with_places}
use Rattle.guarantees.proofs.ReferenceLemmas.Rust.{aligned_by, each_aligned, struct_aligned, together_aligned}

-- ---- powers of two

power_divides : (a b : ℕ) → 2 ^ a ≤ 2 ^ b → 2 ^ a ∣ 2 ^ b
power_divides a b le = ⊎_elim
    (λ (lt : b < a). let up : 2 ^ (1 + b) ≤ 2 ^ a = pow_mono {i = 1 + b} {j = a} (omega arith) in
    let twice : 2 ^ (1 + b) ≡ 2 * 2 ^ b = pow-add 2 1 b in
    let some : 0 < 2 ^ b = pow_pos b in absurd (omega arith))
    (λ (low : a ≤ b). pow_dvd a b low)
    (cases_lt b a)

power_of : (i : Integer) → (k : ℕ) × (integer_size i ≡ 2 ^ k)
power_of I8 = (0, refl)
power_of I16 = (1, refl)
power_of I32 = (2, refl)
power_of I64 = (3, refl)
power_of I128 = (4, refl)

-- the size of an integer divides that of a larger one
integer_divides : (i j : Integer) → integer_size i ≤ integer_size j → integer_size i ∣ integer_size j
integer_divides i j le =
    let a = power_of i in
    let b = power_of j in
    subst (λ n. n ∣ integer_size j) (sym a.1) (subst (λ n. 2 ^ a.0 ∣ n) (sym b.1) (power_divides a.0 b.0 (omega (arith, a.1, b.1))))

-- ---- the whole is aligned as each field of each variant

-- no field of these variants is aligned to more
abbrev pub AreBelow : (whole : ℕ) → List (List Placed) → Type 0
AreBelow whole [] = ⊤
AreBelow whole (ps ∷ variants) = (most_aligned (map extent_of ps) ≤ whole) × AreBelow whole variants

module _ (dl : TargetDataLayout) (repr : ReprOptions) (loose : repr.pack ≡ None) where
  list_above : (kind : StructKind) (ps : List Placed) (l : Layout) → IsUnivariantAnswer layout_of (λ i. i) 0 dl repr kind ps (Ok l)
      → most_aligned (map extent_of ps) ≤ 2 ^ l.align.abi
  list_above kind ps l (order, offsets, h) =
      let parts : List Part = asked_of dl (map layout_of ps) in
      let run = h.named in
      let high : l.align.abi ≡ list_align (fields_repr dl repr kind) parts =
      run_has dl (fields_repr dl repr kind) parts run.0 order offsets l.size l.align.abi l.largest_niche
      (l.align.abi ≡ list_align (fields_repr dl repr kind) parts) (λ bias own. own.alignment) run.3 in
      let begin : ℕ = max (max (own_align dl repr) (unwrap_or repr.align 0)) (prefix_align repr.pack kind) in
      let is : 2 ^ l.align.abi ≡ max (2 ^ begin) (most_aligned (extents_for repr.pack ps)) =
      ap (λ a. 2 ^ a) high ∙ align_same dl repr.pack begin ps in
      let own : most_aligned (extents_for repr.pack ps) ≡ most_aligned (map extent_of ps) = ap (λ pack. most_aligned (extents_for pack ps)) loose in
      omega (arith, is, own)

  lists_above : (kind : StructKind) (whole : ℕ) (variants : List (List Placed)) (lists : List Layout)
      → 2 ^ greatest (map (λ (f : Layout). f.align.abi) lists) ≤ whole → AreListLayouts layout_of (λ i. i) 0 dl repr kind variants lists → AreBelow whole variants
  lists_above kind whole [] [] le h = tt
  lists_above kind whole [] (l ∷ lists) le h = absurd h
  lists_above kind whole (ps ∷ variants) [] le h = absurd h
  lists_above kind whole (ps ∷ variants) (l ∷ lists) le h =
      let rest : ℕ = greatest (map (λ (f : Layout). f.align.abi) lists) in
      let split : 2 ^ max l.align.abi rest ≡ max (2 ^ l.align.abi) (2 ^ rest) = pow_max l.align.abi rest in
      let own : most_aligned (map extent_of ps) ≤ 2 ^ l.align.abi = list_above kind ps l h.0 in
      (omega arith, lists_above kind whole variants lists (omega arith) h.1)

-- a tag that holds the discriminant is an integer
abbrev pub HasIntegerTag : TargetDataLayout → LayoutVariants ℕ ℕ → Type 0
HasIntegerTag dl (Multiple tag Direct field layouts) = (i : Integer) × (size_of (one_scalar dl tag) ≡ integer_size i)
HasIntegerTag dl _ = ⊤

-- Several variants that were laid out: they aren't packed, the whole is aligned as each field, and a tag of its own is an integer.
pub record IsAbove (dl : TargetDataLayout) (repr : ReprOptions) (variants : List (List Placed)) (layout : Layout) : Type 0 where
  pub loose : repr.pack ≡ None
  pub below : AreBelow (2 ^ layout.align.abi) variants
  pub tag : HasIntegerTag dl layout.variants

abbrev some_layout : Layout → Option Layout
some_layout l = Some l

inj-Some : (a b : Layout) → some_layout a ≡ some_layout b → a ≡ b
inj-Some a b e = cc

pub no_layout : (a : Layout) → None ≡ some_layout a → ⊥
no_layout a e = cc

-- ---- the layout beside a niche

-- aligned as the lists are, and told apart by no tag of its own
abbrev IsOfLists : TargetDataLayout → List Layout → Layout → Type 0
IsOfLists dl lists n = (n.align.abi ≡ lists_align dl lists) × HasIntegerTag dl n.variants

-- what each layout has that is made of these lists with this untagged variant
module _ (dl : TargetDataLayout) (repr : ReprOptions) (untagged : ℕ) (lists : List Layout) (P : Layout → Type 0)
    (each : (span : ℕ × ℕ) (list : Layout) (niche : FreeNumbers) (vs : List (VariantLayout ℕ)) → variants_from (room_beside dl niche lists) untagged 0 lists ≡ Some vs
    → P (layout_in_niche 0 (λ i. i) dl repr untagged span lists list niche (reserved dl niche (span_count span)) vs)) where
  of_placed : (span : ℕ × ℕ) (list : Layout) (niche : FreeNumbers) (placed : Option (List (VariantLayout ℕ))) (n : Layout)
      → variants_from (room_beside dl niche lists) untagged 0 lists ≡ placed
      → if_placed 0 (λ i. i) dl repr untagged span lists list niche placed ≡ Some n → P n
  of_placed span list niche None n is e = absurd (no_layout n e)
  of_placed span list niche (Some vs) n is e = subst P (inj-Some _ n e) (each span list niche vs is)

  of_room : (span : ℕ × ℕ) (list : Layout) (niche : FreeNumbers) (enough : Bool) (n : Layout)
      → (if enough then if_placed 0 (λ i. i) dl repr untagged span lists list niche (variants_from (room_beside dl niche lists) untagged 0 lists) else None) ≡ Some n → P n
  of_room span list niche true n e = of_placed span list niche (variants_from (room_beside dl niche lists) untagged 0 lists) n refl e
  of_room span list niche false n e = absurd (no_layout n e)

  of_niche : (span : ℕ × ℕ) (list : Layout) (niche : Option FreeNumbers) (n : Layout)
      → if_niche 0 (λ i. i) dl repr untagged span lists list niche ≡ Some n → P n
  of_niche span list None n e = absurd (no_layout n e)
  of_niche span list (Some niche) n e = of_room span list niche (nat_le (span_count span) (available_in dl niche)) n e

  of_list : (span : ℕ × ℕ) (list : Option Layout) (n : Layout) → if_list 0 (λ i. i) dl repr untagged span lists list ≡ Some n → P n
  of_list span None n e = absurd (no_layout n e)
  of_list span (Some list) n e = of_niche span list list.largest_niche n e

  pub of_span : (span : Option (ℕ × ℕ)) (n : Layout) → if_span 0 (λ i. i) dl repr untagged lists span ≡ Some n → P n
  of_span None n e = absurd (no_layout n e)
  of_span (Some span) n e = of_list span _ n e

beside_niche : (dl : TargetDataLayout) (repr : ReprOptions) (variants : List (List Placed)) (lists : List Layout) (n : Layout)
    → niche_layout 0 (λ i. i) dl repr (layouts_of variants) lists ≡ Some n → IsOfLists dl lists n
beside_niche dl repr variants lists n e =
    of_span dl repr (untagged_of lists) lists (IsOfLists dl lists) (λ span list niche vs is. (refl, tt))
    (span_of (needing_numbers (untagged_of lists) (layouts_of variants))) n e

-- ---- several variants

above_by : (dl : TargetDataLayout) (repr : ReprOptions) (kind : StructKind) (variants : List (List Placed)) (lists : List Layout) (layout : Layout)
    → repr.pack ≡ None → AreListLayouts layout_of (λ i. i) 0 dl repr kind variants lists → IsOfLists dl lists layout → IsAbove dl repr variants layout
above_by dl repr kind variants lists layout loose are h =
    let own : ℕ = greatest (map (λ (f : Layout). f.align.abi) lists) in
    let is : 2 ^ layout.align.abi ≡ max (2 ^ dl.aggregate_align) (2 ^ own) = ap (λ a. 2 ^ a) h.0 ∙ pow_max dl.aggregate_align own in
    record { loose = loose; below = lists_above dl repr loose kind (2 ^ layout.align.abi) variants lists (omega arith) are; tag = h.1 }

niche_above : (dl : TargetDataLayout) (repr : ReprOptions) (variants : List (List Placed)) (found : Option Layout) (n : Layout) → repr.pack ≡ None → found ≡ Some n
    → IsNicheAnswer AreListLayouts layout_of (λ i. i) (λ i. i) dl repr variants found → IsAbove dl repr variants n
niche_above dl repr variants found n loose is (inl h) = absurd (no_layout n (sym h.1 ∙ is))
niche_above dl repr variants found n loose is (inr (inl h)) = absurd (no_layout n (sym h.3 ∙ is))
niche_above dl repr variants found n loose is (inr (inr (free, lists, are, e))) =
    above_by dl repr AlwaysSized variants lists n loose are (beside_niche dl repr variants lists n (sym e ∙ is))

pub better_has : (dl : TargetDataLayout) (P : Layout → Type 0) (l : Layout) (niche : Option Layout) → P l → ((n : Layout) → niche ≡ Some n → P n) → P (preferred_layout dl l niche)
better_has dl P l None own other = own
better_has dl P l (Some n) own other = by (takes_niche dl l n)
  where
    by : (b : Bool) → P (if b then n else l)
    by true = other n refl
    by false = own

abbrev answer : Layout → Result Layout (LayoutCalculatorError Placed)
answer l = Ok l

pub inj-answer : (a b : Layout) → answer a ≡ answer b → a ≡ b
inj-answer a b e = cc

pub no_error : (a : Layout) (e : LayoutCalculatorError Placed) → answer a ≡ Err e → ⊥
no_error a e is = cc

module _ (dl : TargetDataLayout) (repr : ReprOptions) (numbers : List ℕ) (variants : List (List Placed)) where
  tagged_above : (values : List ℕ) (l : Layout) → repr.pack ≡ None
      → IsAskedAnswer layout_of (λ i. i) (λ i. i) 0 dl repr (IsAsking dl repr) values variants (Ok l) → IsAbove dl repr variants l
  tagged_above values l loose (asked, signed, for, (lists, are, by)) =
      above_by dl repr (behind_tag dl repr asked (layouts_of variants)) variants lists l loose are
      (subst (IsOfLists dl lists) (sym by.ranged.2) (refl, (_, refl)))

  pub several_above : (layout : Layout)
      → IsSeveralAnswer layout_of (λ i. i) (λ i. i) (λ i. i) (λ i. i) dl repr (IsAsking dl repr) variants (λ items. items ≡ numbered_from 0 numbers) (Ok layout)
      → IsAbove dl repr variants layout
  several_above layout (inl packed) = absurd (no_error layout _ packed.1)
  several_above layout (inr (inl want)) = absurd (no_error layout _ want.1)
  several_above layout (inr (inr (loose, items, are, inl want))) = absurd (no_error layout _ want)
  several_above layout (inr (inr (loose, items, are, inr (niche, beside, Err e, asked, is)))) = absurd (no_error layout e is)
  several_above layout (inr (inr (loose, items, are, inr (niche, beside, Ok l, asked, is)))) =
      subst (IsAbove dl repr variants) (sym (inj-answer layout _ is))
      (better_has dl (IsAbove dl repr variants) l niche (tagged_above _ l loose asked)
      (λ n some. niche_above dl repr variants niche n loose some beside))

-- ---- the arms

abbrev TaggedVariantsBelow : (whole : ℕ) → TaggedVariants → Type 0
TaggedVariantsBelow whole nothing_tagged = ⊤
TaggedVariantsBelow whole (tagged_variant number layout mark parts tagged_variants) = (most_aligned (map extent_of (fields_of parts)) ≤ whole) × TaggedVariantsBelow whole tagged_variants

some_of : (os : List ℕ) (ps : List Placed) → most_aligned (map extent_of (fields_of (parts_at os ps))) ≤ most_aligned (map extent_of ps)
some_of [] ps = aligned_some (map extent_of ps)
some_of (o ∷ os) [] = omega arith
some_of (o ∷ os) (p ∷ ps) = omega (arith, some_of os ps)

tagged_variants_below : (bound : ℕ) (whole : Layout) (mark : Mark) (i : ℕ) (layouts : List (VariantLayout ℕ)) (numbers : List ℕ) (variants : List (List Placed))
    → AreBelow bound variants → TaggedVariantsBelow bound (tagged_variants_at whole mark i layouts numbers variants)
tagged_variants_below bound whole mark i [] numbers variants h = tt
tagged_variants_below bound whole mark i (l ∷ layouts) [] variants h = tt
tagged_variants_below bound whole mark i (l ∷ layouts) (n ∷ numbers) [] h = tt
tagged_variants_below bound whole mark i (l ∷ layouts) (n ∷ numbers) (ps ∷ variants) h =
    (omega (arith, h.0, some_of l.field_offsets ps), tagged_variants_below bound whole mark (i + 1) layouts numbers variants h.1)

-- ---- offsets that were moved

types_of-parts_at : (os : List ℕ) (ps : List Placed) → length os ≡ length ps → types_of (parts_at os ps) ≡ map layout_of ps
types_of-parts_at [] [] e = refl
types_of-parts_at [] (p ∷ ps) e = absurd (omega arith)
types_of-parts_at (o ∷ os) [] e = absurd (omega arith)
types_of-parts_at (o ∷ os) (p ∷ ps) e = ap (λ ls. layout_of p ∷ ls) (types_of-parts_at os ps (omega arith))

pub offsets_of-parts_at : (os : List ℕ) (ps : List Placed) → length os ≡ length ps → offsets_of (parts_at os ps) ≡ os
offsets_of-parts_at [] [] e = refl
offsets_of-parts_at [] (p ∷ ps) e = absurd (omega arith)
offsets_of-parts_at (o ∷ os) [] e = absurd (omega arith)
offsets_of-parts_at (o ∷ os) (p ∷ ps) e = ap (λ (ns : List ℕ). o ∷ ns) (offsets_of-parts_at os ps (omega arith))

abbrev tail_of : List ℕ → List ℕ
tail_of [] = []
tail_of (x ∷ xs) = xs

abbrev first_of : List ℕ → ℕ
first_of [] = 0
first_of (x ∷ xs) = x

module _ (dl : TargetDataLayout) where
  -- fields that fit still do where each is moved by a step that keeps multiples of their alignments
  moved_fit : (move : ℕ → ℕ) (most : ℕ) → ((a o : ℕ) → 2 ^ a ≤ most → 2 ^ a ∣ o → 2 ^ a ∣ move o) → (parts : Parts) (os : List ℕ)
      → offsets_of parts ≡ map move os → most_aligned (map extent_of (fields_of parts)) ≤ most
      → All (IsFitting dl None) (with_places dl (parts_at os (fields_of parts))) → All (IsFitting dl None) (with_places dl parts)
  moved_fit move most keeps no_parts os e le h = All-nil (IsFitting dl None)
  moved_fit move most keeps (part offset placed parts) [] e le h = absurd (let none : suc (length (offsets_of parts)) ≡ 0 = ap length e in omega arith)
  moved_fit move most keeps (part offset placed parts) (o ∷ os) e le h =
      let own : ℕ × Part = (o, part_of dl (layout_of placed)) in
      let at : offset ≡ move o = ap first_of e in
      let fits : 2 ^ (layout_of placed).align.abi ∣ o = All-head (IsFitting dl None) own (with_places dl (parts_at os (fields_of parts))) h in
      All-cons (IsFitting dl None) (offset, part_of dl (layout_of placed)) (with_places dl parts)
      (subst (λ n. 2 ^ (layout_of placed).align.abi ∣ n) (sym at) (keeps (layout_of placed).align.abi o (omega arith) fits))
      (moved_fit move most keeps parts os (ap tail_of e) (omega arith) (All-tail (IsFitting dl None) own (with_places dl (parts_at os (fields_of parts))) h))

  -- the fields of a list fit where it has them
  list_fits : (repr : ReprOptions) (kind : StructKind) (parts : Parts) (os : List ℕ) (size : ℕ) → repr.pack ≡ None
      → IsLeastList dl repr kind (types_of parts) os size → All (IsFitting dl None) (with_places dl (parts_at os (fields_of parts)))
  list_fits repr kind parts os size loose h =
      let ps : List Placed = fields_of parts in
      let long : length os ≡ length ps = h.placed.count ∙ length-map ps layout_of in
      let own : Parts = parts_at os ps in
      let align : ℕ = align_by dl repr kind (types_of parts) in
      let by_types : IsPlacedBy dl repr kind (types_of own) h.order os size align =
      subst (λ ls. IsPlacedBy dl repr kind ls h.order os size align) (sym (types_of-parts_at os ps long)) h.placed in
      let by_offsets : IsPlacedBy dl repr kind (types_of own) h.order (offsets_of own) size align =
      subst (λ ns. IsPlacedBy dl repr kind (types_of own) h.order ns size align) (sym (offsets_of-parts_at os ps long)) by_types in
      subst (λ pack. All (IsFitting dl pack) (with_places dl own)) loose
      (each_fits dl repr.pack (start_of repr.pack kind) own size align (row_of dl repr kind (start_of repr.pack kind) own h.order size align refl by_offsets))

  -- and it is aligned as each of them
  list_aligned : (repr : ReprOptions) (kind : StructKind) (parts : Parts) → repr.pack ≡ None
      → most_aligned (map extent_of (fields_of parts)) ≤ 2 ^ align_by dl repr kind (types_of parts)
  list_aligned repr kind parts loose =
      let begin : ℕ = max (max (own_align dl repr) (unwrap_or repr.align 0)) (prefix_align repr.pack kind) in
      let is : 2 ^ align_by dl repr kind (types_of parts) ≡ max (2 ^ begin) (most_aligned (extents_for repr.pack (fields_of parts))) =
      align_same dl repr.pack begin (fields_of parts) in
      let own : most_aligned (extents_for repr.pack (fields_of parts)) ≡ most_aligned (map extent_of (fields_of parts)) =
      ap (λ pack. most_aligned (extents_for pack (fields_of parts))) loose in
      omega (arith, is, own)

  -- ---- behind a tag

  moved_by : (old new a o : ℕ) (b : Bool) → (o == old) ≡ b → old ∣ new → 2 ^ a ∣ o → 2 ^ a ∣ (if b then new else o)
  moved_by old new a o true is divides fits =
      let same : o ≡ old = eqb-true o old is in dvd_trans (2 ^ a) (subst (λ n. 2 ^ a ∣ n) same fits) divides
  moved_by old new a o false is divides fits = fits

  behind_aligned : (repr : ReprOptions) (kind : StructKind) (old new whole : ℕ) → repr.pack ≡ None → old ∣ new → (tagged_variants : TaggedVariants)
      → AreMovedLists dl repr kind (moved_offset old new) tagged_variants → TaggedVariantsBelow whole tagged_variants → AreAlignedIn whole tagged_variants
  behind_aligned repr kind old new whole loose divides nothing_tagged h below = tt
  behind_aligned repr kind old new whole loose divides (tagged_variant number layout mark parts tagged_variants) h below = (
    each_aligned dl whole parts
        (moved_fit (moved_offset old new) whole (λ a o le fits. moved_by old new a o (o == old) refl divides fits) parts h.0.0 h.0.3 below.0
        (list_fits repr kind parts h.0.0 h.0.1 loose h.0.2)) below.0,
    behind_aligned repr kind old new whole loose divides tagged_variants h.1 below.1,
  )

  -- ---- beside a niche

  multiple_by : (untagged : Bool) (place width whole size align by : ℕ) → MatchBool untagged (by ≡ 0) (MayMove place width whole size align by) → 2 ^ align ∣ by
  multiple_by true place width whole size align by h = subst (λ n. 2 ^ align ∣ n) (sym h) (dvd-zero (2 ^ align))
  multiple_by false place width whole size align by (inl h) = subst (λ n. 2 ^ align ∣ n) (sym h.0) (dvd-zero (2 ^ align))
  multiple_by false place width whole size align by (inr h) = subst (λ n. 2 ^ align ∣ n) (sym h.0) (rounded_to (place + width) align).multiple

  beside_aligned : (repr : ReprOptions) (place width size untagged from whole : ℕ) → repr.pack ≡ None → (tagged_variants : TaggedVariants)
      → AreListsBeside dl repr place width size untagged from tagged_variants → TaggedVariantsBelow whole tagged_variants → AreAlignedIn whole tagged_variants
  beside_aligned repr place width size untagged from whole loose nothing_tagged h below = tt
  beside_aligned repr place width size untagged from whole loose (tagged_variant number layout mark parts tagged_variants) h below =
      let align : ℕ = align_by dl repr AlwaysSized (types_of parts) in
      let step : 2 ^ align ∣ h.0.0 = multiple_by (from == untagged) place width size h.0.2 align h.0.0 h.0.5 in (
        each_aligned dl whole parts
            (moved_fit (λ o. h.0.0 + o) (2 ^ align)
            (λ a o le fits. dvd-add (2 ^ a) (dvd_trans (2 ^ a) (power_divides a align le) step) fits) parts h.0.1 h.0.4
            (list_aligned repr AlwaysSized parts loose) (list_fits repr AlwaysSized parts h.0.1 h.0.2 loose h.0.3)) below.0,
        beside_aligned repr place width size untagged (from + 1) whole loose tagged_variants h.1 below.1,
      )

  -- ---- of each enum

  -- the variants beside a tag, or beside a niche
  abbrev AreAlignedBeside : Placed → Type 0
  AreAlignedBeside (tagged layout mark offset tag encoding tagged_variants) = AreAlignedIn (2 ^ layout.align.abi) tagged_variants
  AreAlignedBeside _ = ⊤

  module _ (repr : ReprOptions) (all : Variants) (variants : List (List Placed)) where
    of_variants : (layout : Layout) (vs : LayoutVariants ℕ ℕ) → repr.pack ≡ None → AreBelow (2 ^ layout.align.abi) variants → HasIntegerTag dl vs
        → HasLeastLists dl (enum repr all) (placed_variants dl repr (discriminants_of all) variants layout vs)
        → AreAlignedBeside (placed_variants dl repr (discriminants_of all) variants layout vs)
    of_variants layout Empty loose below tag h = tt
    of_variants layout (Single i) loose below tag h = tt
    of_variants layout (Multiple s Direct field layouts) loose below tag h =
        let most : integer_size h.0 ≤ integer_size tag.0 = omega (arith, h.3, tag.1) in
        let divides : integer_size h.0 ∣ size_of (one_scalar dl s) = subst (λ n. integer_size h.0 ∣ n) (sym tag.1) (integer_divides h.0 tag.0 most) in
        behind_aligned repr _ (integer_size h.0) (size_of (one_scalar dl s)) (2 ^ layout.align.abi) loose divides _ h.4
        (tagged_variants_below (2 ^ layout.align.abi) layout (mark_of true repr) 0 layouts (discriminants_of all) variants below)
    of_variants layout (Multiple s (Niche untagged span start) field layouts) loose below tag h =
        beside_aligned repr _ _ _ untagged 0 (2 ^ layout.align.abi) loose _ h
        (tagged_variants_below (2 ^ layout.align.abi) layout (mark_of true repr) 0 layouts (discriminants_of all) variants below)

    by_path : (strategy : EnumStrategy) (layout : Layout)
        → IsTypeAnswer layout_of (λ i. i) (λ i. i) (λ i. i) (λ i. i) dl repr variants true true Enabled (IsAsking dl repr) (λ items. items ≡ numbered_from 0 (discriminants_of all)) strategy (Ok layout)
        → HasLeastLists dl (enum repr all) (placed_enum dl repr (discriminants_of all) variants layout)
        → AreAlignedBeside (placed_enum dl repr (discriminants_of all) variants layout)
    by_path NoValue layout e h =
        subst (λ l. AreAlignedBeside (placed_enum dl repr (discriminants_of all) variants l)) (sym (inj-answer layout (never_layout dl) e)) tt
    by_path (OneList i) layout e h = subst (λ l. AreAlignedBeside (placed_enum dl repr (discriminants_of all) variants l)) (sym e.2) tt
    by_path Several layout e h =
        let above = several_above dl repr (discriminants_of all) variants layout e in
        of_variants layout layout.variants above.loose above.below above.tag h

  pub enum_beside : (repr : ReprOptions) (all : Variants) (p : Placed) → IsLaying dl (enum repr all) (Ok p) → HasLeastLists dl (enum repr all) p → AreAlignedBeside p
  enum_beside repr all p (inl f) h = absurd (cc f.2)
  enum_beside repr all p (inr (variants, there, answer)) h =
      let numbers = discriminants_of all in
      let found = laid_by (enum_fault dl repr numbers variants) (IsEnumed dl repr numbers variants) (placed_enum dl repr numbers variants) p answer in
      subst (λ q. HasLeastLists dl (enum repr all) q → AreAlignedBeside q) found.2
      (λ own. by_path repr all variants (strategy_of true repr (layouts_of variants)) found.0 found.1 own) h

-- ---- of each type

enum_aligned : (dl : TargetDataLayout) (repr : ReprOptions) (all : Variants) (p : Placed) → LiesAsAsked dl (enum repr all) p → AreAlignedBeside dl p → IsAligned (enum repr all) p
enum_aligned dl repr all (single layout mark index parts) h beside = λ loose.
    aligned_by dl repr AlwaysSized 0 parts h.0 layout.size layout.align.abi loose refl h.1
enum_aligned dl repr all (tagged layout mark offset tag encoding tagged_variants) h beside = λ loose. beside
enum_aligned dl repr all (in_states layout prefix offset tag tagged_variants) h beside = tt
enum_aligned dl repr all _ h beside = tt

pub known_aligned : (dl : TargetDataLayout) → IsLawfulDataLayout dl → (t : Tree) (p : Placed) → IsLaying dl t (Ok p) → LiesAsAsked dl t p → HasLeastLists dl t p → IsAligned t p
known_aligned dl law (struct repr always_sized order all) p h asked lists =
    let s = struct_laid dl repr always_sized order all p h in
    subst (λ q. LiesAsAsked dl (struct repr always_sized order all) q → IsAligned (struct repr always_sized order all) q) s.is
    (λ own. struct_aligned dl repr always_sized order all s.layout (mark_of false repr) (parts_at (listed_offsets s.layout.fields) s.fields) own) asked
known_aligned dl law (union repr all) p h asked lists =
    let u = union_laid dl law repr all p h in
    let high : align_in_bytes (placed_together repr u.fields u.layout) ≡ max (2 ^ least_align dl repr) (most_aligned (extents_for repr.pack u.fields)) =
    ap align_in_bytes u.is ∙ u.align in
    subst (IsAligned (union repr all)) u.is (λ loose.
    let own : most_aligned (extents_for repr.pack u.fields) ≡ most_aligned (map extent_of u.fields) =
    ap (λ pack. most_aligned (extents_for pack u.fields)) loose in
    together_aligned (align_in_bytes (placed_together repr u.fields u.layout)) u.fields (omega (arith, high, own)))
known_aligned dl law (enum repr all) p h asked lists = enum_aligned dl repr all p asked (enum_beside dl repr all p h lists)
known_aligned dl law _ p h asked lists = tt
