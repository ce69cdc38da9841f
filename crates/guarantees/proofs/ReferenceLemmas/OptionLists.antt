-- Enums of one variant without fields and one with a field whose number is never 0: they lie in the field's niche.
use Rattle.std.proofs.Common.{◌≡◌, ℕ, ◌+◌, ◌^◌, ◌<◌, Bool, true, false, cond, List, [], ◌∷◌, Option, None, Some, refl, sym, ap, ap₂, ◌∙◌, subst, arith, lit<, inl, inr, Ok}
use Rattle.std.specs.Prelude.{◌&&◌, ◌||◌, ◌==◌, ◌↔◌, ◌⊎◌, is_some, max, nat_le, nat_lt, not, unwrap_or, if◌then◌else◌}
use Rattle.std.specs.Int.{next_multiple_of}
use Rattle.std.proofs.lemmas.Bool.{le-leb, lt-leb, lt-ltb, ne_eqb}
use Rattle.std.proofs.lemmas.Nat.Gcd.{dvd-zero}
use Rattle.abi_base.specs.declared.data_layout.TargetDataLayout.{TargetDataLayout}
use Rattle.abi_base.specs.declared.niche_optimizations.NicheOptimizations.TheVariants.{Enabled}
use Rattle.abi_base.specs.declared.struct_kind.StructKind.TheVariants.{AlwaysSized}
use Rattle.abi_base.specs.declared.integer.IntegerType.{IntegerType}
use Rattle.abi_base.specs.DataLayout.{bound_of_pointer, size_bound}
use Rattle.abi_scalar.specs.declared.backend_repr.BackendRepr.TheVariants.{Scalar as OneScalar}
use Rattle.abi_scalar.specs.declared.niche.Niche.{Niche as FreeNumbers}
use Rattle.abi_scalar.specs.declared.repr.ReprOptions.{ReprOptions}
use Rattle.abi_scalar.specs.declared.scalar.Scalar.{Scalar}
use Rattle.abi_scalar.specs.declared.variants.TagEncoding.TheVariants.{Niche}
use Rattle.abi_scalar.specs.Lawful.{IsLawfulLayout}
use Rattle.abi_scalar.specs.Reserve.{reserved}
use Rattle.abi_scalar.specs.Shape.{listed_offsets}
use Rattle.abi_scalar.specs.Variant.{variant_of}
use Rattle.abi_univariant.specs.declared.part.Part.{Part}
use Rattle.abi_univariant.specs.declared.placing.FieldsFault.{FieldsFault}
use Rattle.abi_univariant.specs.declared.placing.FieldsFault.TheVariants.{TooLarge, Unsized}
use Rattle.abi_univariant.specs.Fault.{fault_in, fault_or_size}
use Rattle.abi_univariant.specs.List.{IsUnivariantAnswer}
use Rattle.abi_univariant.specs.ListNiche.{niche_of_part}
use Rattle.abi_univariant.specs.Part.{is_unsized, part_of}
use Rattle.abi_univariant.specs.Placement.{cut, fields_repr, own_align, place_of, size_in}
use Rattle.abi_calc.specs.declared.enums.strategy.EnumStrategy.{EnumStrategy}
use Rattle.abi_calc.specs.declared.enums.strategy.EnumStrategy.TheVariants.{Several}
use Rattle.abi_calc.specs.Enums.Answer.{IsTypeAnswer}
use Rattle.abi_calc.specs.Enums.Choice.{IsNicheAnswer, preferred_layout}
use Rattle.abi_calc.specs.Enums.Lists.{AreListLayouts}
use Rattle.abi_calc.specs.Enums.Niche.{beside_niche, if_niche, if_placed, if_span, layout_in_niche, needing_numbers, niche_layout, room_beside, span_of, untagged_of, variants_from, with_first, without_niche}
use Rattle.abi_calc.specs.Enums.EnumStrategy.{is_absent, is_free, strategy_among, strategy_of}
use Rattle.abi_calc.specs.Enums.Tagged.{lists_align, lists_size}
use Rattle.abi_tree.specs.Holding.{HoldTaggedVariant, HoldParts}
use Rattle.abi_tree.specs.Mark.{mark_of}
use Rattle.abi_tree.specs.Nodes.{parts_at}
use Rattle.abi_tree.specs.Placed.{Placed, TaggedVariants, no_parts, part, layout_of, size_of, tagged}
use Rattle.abi_scalar.specs.Layout.{Layout}
use Rattle.abi_tree.specs.Value.{Values, no_values}
use Rattle.rustc_abi.specs.Enums.{IsEnumed, IsTagIntegerAnswer as IsAsking, tagged_variants_at, layouts_of, numbered_from}
use Rattle.rustc_abi.specs.Laying.{one_scalar, placed_enum}
use Rattle.guarantees.specs.Reference.Option.{IsPlainRust}
use Rattle.guarantees.proofs.ReferenceLemmas.Lone.{empty_list, lone_list, no_empty_error, no_lone_error}
use Rattle.abi_univariant.proofs.Offsets.Rounding.{round_multiple}
use Rattle.guarantees.proofs.ReferenceLemmas.Several.{chosen, larger_behind, niche_taken, several_is, two_tagged}
use Rattle.guarantees.proofs.ReferenceLemmas.ZeroOut.{HasZeroFree, handed_width, one_available, zero_handed}
use Rattle.guarantees.proofs.ReferenceLemmas.InNiche.{IsInNiche}

-- ---- beside the niche

-- the list of the variant without fields, and that of the type
pub record AreLists (dl : TargetDataLayout) (inner : Placed) (free : HasZeroFree dl (layout_of inner)) (e l : Layout) : Type 0 where
  pub none : e.size ≡ 0
  pub none_align : e.align.abi ≡ 0
  pub size : l.size ≡ size_of inner
  pub align : l.align.abi ≡ (layout_of inner).align.abi
  pub offsets : listed_offsets l.fields ≡ 0 ∷ []
  pub no_offsets : listed_offsets e.fields ≡ []
  pub niche : l.largest_niche ≡ Some free.niche

module _ (dl : TargetDataLayout) (repr : ReprOptions) (inner : Placed) (free : HasZeroFree dl (layout_of inner)) (e l : Layout) (h : AreLists dl inner free e l) where
  -- the variant without fields lies before the niche
  before : (lists : List Layout) → beside_niche (room_beside dl free.niche lists) e.align.abi (variant_of e) ≡ Some (without_niche (variant_of e))
  before lists = chosen (nat_le e.size free.niche.offset) (Some (without_niche (variant_of e))) _ (le-leb e.size free.niche.offset (omega (arith, h.none)))

  none_first : niche_layout 0 (λ i. i) dl repr (layouts_of ([] ∷ (inner ∷ []) ∷ [])) (e ∷ l ∷ [])
      ≡ Some (layout_in_niche 0 (λ i. i) dl repr 1 (0, 0) (e ∷ l ∷ []) l free.niche (reserved dl free.niche 1) (without_niche (variant_of e) ∷ variant_of l ∷ []))
  none_first =
      let lists : List Layout = e ∷ l ∷ [] in
      let layouts : List (List Layout) = layouts_of ([] ∷ (inner ∷ []) ∷ []) in
      let last : untagged_of lists ≡ 1 = ap (λ b. if (b || false) then 1 else 0) (le-leb e.size l.size (omega (arith, h.none))) in
      ap (λ u. if_span 0 (λ i. i) dl repr u lists (span_of (needing_numbers u layouts))) last
      ∙ ap (if_niche 0 (λ i. i) dl repr 1 (0, 0) lists l) h.niche
      ∙ ap (λ n. if nat_le 1 n then if_placed 0 (λ i. i) dl repr 1 (0, 0) lists l free.niche (variants_from (room_beside dl free.niche lists) 1 0 lists) else None) (one_available dl (layout_of inner) free)
      ∙ ap (λ first. if_placed 0 (λ i. i) dl repr 1 (0, 0) lists l free.niche (with_first first (Some (variant_of l ∷ [])))) (before lists)

  some_first : niche_layout 0 (λ i. i) dl repr (layouts_of ((inner ∷ []) ∷ [] ∷ [])) (l ∷ e ∷ [])
      ≡ Some (layout_in_niche 0 (λ i. i) dl repr 0 (1, 1) (l ∷ e ∷ []) l free.niche (reserved dl free.niche 1) (variant_of l ∷ without_niche (variant_of e) ∷ []))
  some_first =
      let lists : List Layout = l ∷ e ∷ [] in
      let layouts : List (List Layout) = layouts_of ((inner ∷ []) ∷ [] ∷ []) in
      let first : untagged_of lists ≡ 0 = ap (λ b. if (b || false) then 1 else 0) (lt-leb l.size e.size (omega (arith, h.none, h.size, free.some))) in
      ap (λ u. if_span 0 (λ i. i) dl repr u lists (span_of (needing_numbers u layouts))) first
      ∙ ap (if_niche 0 (λ i. i) dl repr 0 (1, 1) lists l) h.niche
      ∙ ap (λ n. if nat_le 1 n then if_placed 0 (λ i. i) dl repr 0 (1, 1) lists l free.niche (variants_from (room_beside dl free.niche lists) 0 0 lists) else None) (one_available dl (layout_of inner) free)
      ∙ ap (λ second. if_placed 0 (λ i. i) dl repr 0 (1, 1) lists l free.niche (with_first (Some (variant_of l)) (with_first second (Some [])))) (before lists)

  -- ---- what the enum is in it

  -- the greater list is the type's
  whole_size : max 0 (max e.size (max l.size 0)) ≡ size_of inner
  whole_size = omega (arith, h.none, h.size)

  module _ (byte : dl.aggregate_align ≡ 0) (law : IsLawfulLayout dl (layout_of inner)) where
    -- the size and the alignment, in either order of the lists
    align_by : (first second : Layout) → first.align.abi + second.align.abi ≡ (layout_of inner).align.abi → (first.align.abi ≡ 0) ⊎ (second.align.abi ≡ 0)
        → lists_align dl (first ∷ second ∷ []) ≡ (layout_of inner).align.abi
    align_by first second sum (inl none) = omega (arith, byte, sum, none)
    align_by first second sum (inr none) = omega (arith, byte, sum, none)

    size_by : (first second : Layout) → lists_align dl (first ∷ second ∷ []) ≡ (layout_of inner).align.abi → max first.size (max second.size 0) ≡ size_of inner
        → lists_size dl (first ∷ second ∷ []) ≡ size_of inner
    size_by first second align most =
        ap₂ (λ n a. next_multiple_of n (2 ^ a)) most align ∙ round_multiple (size_of inner) (layout_of inner).align.abi law.multiple

    none_first_align : lists_align dl (e ∷ l ∷ []) ≡ (layout_of inner).align.abi
    none_first_align = align_by e l (omega (arith, h.none_align, h.align)) (inl h.none_align)

    none_first_size : lists_size dl (e ∷ l ∷ []) ≡ size_of inner
    none_first_size = size_by e l none_first_align (omega (arith, h.none, h.size))

    some_first_align : lists_align dl (l ∷ e ∷ []) ≡ (layout_of inner).align.abi
    some_first_align = align_by l e (omega (arith, h.none_align, h.align)) (inr h.none_align)

    some_first_size : lists_size dl (l ∷ e ∷ []) ≡ size_of inner
    some_first_size = size_by l e some_first_align (omega (arith, h.none, h.size))

    abbrev none_first_layout : Layout
    none_first_layout =
        layout_in_niche 0 (λ i. i) dl repr 1 (0, 0) (e ∷ l ∷ []) l free.niche (reserved dl free.niche 1) (without_niche (variant_of e) ∷ variant_of l ∷ [])

    abbrev some_first_layout : Layout
    some_first_layout =
        layout_in_niche 0 (λ i. i) dl repr 0 (1, 1) (l ∷ e ∷ []) l free.niche (reserved dl free.niche 1) (variant_of l ∷ without_niche (variant_of e) ∷ [])

    -- beside the tag that the niche hands out, whose number names the one without fields
    beside_tag : (none some : ℕ) (layout : Layout) (tagged_variants : TaggedVariants) → (none ≡ some → ⊥) → layout.size ≡ size_of inner → layout.align.abi ≡ (layout_of inner).align.abi
        → ((b : List ℕ) → HoldTaggedVariant dl.endian tagged_variants none b no_values) → ((b : List ℕ) (vs : Values) → HoldTaggedVariant dl.endian tagged_variants some b vs ↔ HoldParts dl.endian (part 0 inner no_parts) b vs)
        → IsInNiche dl none some inner
        (tagged layout (mark_of true repr) free.niche.offset (one_scalar dl (reserved dl free.niche 1).1) (Niche some (record { start = none; last = none }) (reserved dl free.niche 1).0) tagged_variants)
    beside_tag none some layout tagged_variants apart size align empty full = record {
      layout = layout;
      mark = mark_of true repr;
      offset = free.niche.offset;
      tag = one_scalar dl (reserved dl free.niche 1).1;
      start = (reserved dl free.niche 1).0;
      tagged_variants = tagged_variants;
      is = refl;
      at = free.offset;
      first = zero_handed dl (layout_of inner) free;
      wide = handed_width dl (layout_of inner) free;
      size = size;
      align = align;
      two = apart;
      empty = empty;
      full = full;
    }

    -- the parts of both variants
    no_parts_there : (b : List ℕ) → HoldParts dl.endian (parts_at (listed_offsets e.fields) []) b no_values
    no_parts_there b = subst (λ os. HoldParts dl.endian (parts_at os []) b no_values) (sym h.no_offsets) tt

    one_part_there : (b : List ℕ) (vs : Values) → HoldParts dl.endian (parts_at (listed_offsets l.fields) (inner ∷ [])) b vs ↔ HoldParts dl.endian (part 0 inner no_parts) b vs
    one_part_there b vs = (
      subst (λ os. HoldParts dl.endian (parts_at os (inner ∷ [])) b vs) h.offsets,
      subst (λ os. HoldParts dl.endian (parts_at os (inner ∷ [])) b vs) (sym h.offsets),
    )

    none_first_in : (c d : ℕ) → IsInNiche dl 0 1 inner (placed_enum dl repr (c ∷ d ∷ []) ([] ∷ (inner ∷ []) ∷ []) none_first_layout)
    none_first_in c d =
        beside_tag 0 1 none_first_layout
        (tagged_variants_at none_first_layout (mark_of true repr) 0 (without_niche (variant_of e) ∷ variant_of l ∷ []) (c ∷ d ∷ []) ([] ∷ (inner ∷ []) ∷ []))
        (λ same. absurd (omega (arith, same))) none_first_size none_first_align no_parts_there one_part_there

    some_first_in : (c d : ℕ) → IsInNiche dl 1 0 inner (placed_enum dl repr (c ∷ d ∷ []) ((inner ∷ []) ∷ [] ∷ []) some_first_layout)
    some_first_in c d =
        beside_tag 1 0 some_first_layout
        (tagged_variants_at some_first_layout (mark_of true repr) 0 (variant_of l ∷ without_niche (variant_of e) ∷ []) (c ∷ d ∷ []) ((inner ∷ []) ∷ [] ∷ []))
        (λ same. absurd (omega (arith, same))) some_first_size some_first_align no_parts_there one_part_there

-- ---- how it is answered

no_absent : (a b c : Bool) → ((a || false) && ((b && false && c) && true)) ≡ false
no_absent true true c = refl
no_absent true false c = refl
no_absent false b c = refl

both_present : (free a b : Bool) → free ≡ true → a ≡ false → b ≡ false
    → strategy_among free (cond (not free || not a) (0 ∷ cond (not free || not b) (1 ∷ []) []) (cond (not free || not b) (1 ∷ []) [])) ≡ Several
both_present true false false f e g = refl
both_present true true b f e g = absurd (cc)
both_present true false true f e g = absurd (cc)
both_present false a b f e g = absurd (cc)

abbrev fault_by : (unsized below : Bool) → Option FieldsFault
fault_by unsized below =
    if unsized && not false then Some (Unsized 0)
    else (if not below then Some TooLarge else (if unsized && not true then Some (Unsized 0) else None))

no_fault_by : (unsized below : Bool) → unsized ≡ false → below ≡ true → fault_by unsized below ≡ None
no_fault_by true below e f = absurd (cc)
no_fault_by false true e f = refl
no_fault_by false false e f = absurd (cc)

some_bound : (n : ℕ) → 0 < bound_of_pointer n
some_bound n = by (n == 2) (n == 4)
  where
    by : (a b : Bool) → 0 < (if a then 2 ^ 15 else (if b then 2 ^ 31 else 2 ^ 61))
    by true b = lit< tt
    by false true = lit< tt
    by false false = lit< tt

module _ (dl : TargetDataLayout) (byte : dl.aggregate_align ≡ 0) (repr : ReprOptions) (plain : IsPlainRust repr) (inner : Placed) (law : IsLawfulLayout dl (layout_of inner))
    (s : Scalar) (view : (layout_of inner).backend_repr ≡ OneScalar s) (free : HasZeroFree dl (layout_of inner)) where
  is_rust : is_free repr ≡ true
  is_rust = ap₂ (λ (b : Bool) (o : Option IntegerType). not (b || is_some o)) plain.0 plain.1

  -- the alignment that a list begins with
  no_least : (a : ℕ) → max (max (max (own_align dl repr) (unwrap_or repr.align 0)) 0) (cut repr.pack a) ≡ a
  no_least a =
      ap₂ (λ (pack raised : Option ℕ). max (max (max (if is_some pack then dl.i8_align else dl.aggregate_align) (unwrap_or raised 0)) 0) (cut pack a)) plain.3 plain.2
      ∙ omega (arith, byte)

  none_least : max (max (own_align dl repr) (unwrap_or repr.align 0)) 0 ≡ 0
  none_least =
      ap₂ (λ (pack raised : Option ℕ). max (max (if is_some pack then dl.i8_align else dl.aggregate_align) (unwrap_or raised 0)) 0) plain.3 plain.2
      ∙ omega (arith, byte)

  abbrev asked : Part
  asked = part_of dl (layout_of inner)

  at_start : place_of repr.pack 0 asked ≡ 0
  at_start = round_multiple 0 (cut repr.pack (layout_of inner).align.abi) (dvd-zero (2 ^ cut repr.pack (layout_of inner).align.abi))

  sizes_up : next_multiple_of (place_of repr.pack 0 asked + size_of inner) (2 ^ (layout_of inner).align.abi) ≡ size_of inner
  sizes_up =
      ap (λ n. next_multiple_of n (2 ^ (layout_of inner).align.abi)) (let sum : place_of repr.pack 0 asked + size_of inner ≡ size_of inner = omega (arith, at_start) in sum)
      ∙ round_multiple (size_of inner) (layout_of inner).align.abi law.multiple

  two_lists : (e l : Layout) → IsUnivariantAnswer {H = Placed} layout_of (λ i. i) 0 dl repr AlwaysSized [] (Ok e) → IsUnivariantAnswer layout_of (λ i. i) 0 dl repr AlwaysSized (inner ∷ []) (Ok l)
      → AreLists dl inner free e l
  two_lists e l h k =
      let none = empty_list dl repr e h in
      let one = lone_list dl repr AlwaysSized tt inner l k in
      let place : one.place ≡ 0 = one.at ∙ at_start in
      let align : l.align.abi ≡ (layout_of inner).align.abi = one.align ∙ no_least (layout_of inner).align.abi in
      let offset : one.place + free.niche.offset ≡ free.niche.offset = omega (arith, place) in
      record {
        none = none.size;
        none_align = none.align ∙ none_least;
        size = one.size ∙ ap₂ (λ n a. next_multiple_of (n + size_of inner) (2 ^ a)) one.at align ∙ sizes_up;
        align = align;
        offsets = one.offsets ∙ ap (λ (n : ℕ). n ∷ []) place;
        no_offsets = none.offsets;
        niche = one.niche ∙ ap (niche_of_part one.place) free.is ∙ ap (λ o. some_niche (record free.niche { offset = o })) offset;
      }
    where
      some_niche : FreeNumbers → Option FreeNumbers
      some_niche n = Some n

  no_error_alone : fault_in (fields_repr dl repr AlwaysSized) (size_bound dl) (asked ∷ []) (0 ∷ []) ≡ None
  no_error_alone =
      let parts : List Part = asked ∷ [] in
      let below : place_of repr.pack 0 asked + size_of inner < size_bound dl = omega (arith, at_start, law.bound) in
      let small : size_in (fields_repr dl repr AlwaysSized) parts (0 ∷ []) ≡ size_of inner =
      ap (λ a. next_multiple_of (place_of repr.pack 0 asked + size_of inner) (2 ^ a)) (no_least (layout_of inner).align.abi) ∙ sizes_up in
      ap (fault_or_size (fields_repr dl repr AlwaysSized) (size_bound dl) parts (0 ∷ []))
      (no_fault_by (is_unsized (layout_of inner).backend_repr) (nat_lt (place_of repr.pack 0 asked + size_of inner) (size_bound dl)) (ap is_unsized view) (lt-ltb _ _ below))
      ∙ ap (λ n. if nat_lt n (size_bound dl) then None else Some TooLarge) small
      ∙ ap (λ b. if b then None else Some TooLarge) (lt-ltb (size_of inner) (size_bound dl) law.bound)

  some_room : 0 < size_bound dl
  some_room = some_bound dl.default_address_space_pointer_spec.pointer_size

  -- the type isn't absent
  not_absent : is_absent (layout_of inner ∷ []) ≡ false
  not_absent =
      ap (λ b. ((layout_of inner).uninhabited || false) && ((not (is_unsized (layout_of inner).backend_repr) && b && ((layout_of inner).align.abi == 0)) && true))
      (ne_eqb (size_of inner) 0 (λ e. absurd (omega (arith, e, free.some))))
      ∙ no_absent (layout_of inner).uninhabited (not (is_unsized (layout_of inner).backend_repr)) ((layout_of inner).align.abi == 0)

  abbrev IsAnswerOn : List ℕ → EnumStrategy → List (List Placed) → Layout → Type 0
  IsAnswerOn numbers strategy variants layout =
      IsTypeAnswer layout_of (λ i. i) (λ i. i) (λ i. i) (λ i. i) dl repr variants true true Enabled (IsAsking dl repr) (λ items. items ≡ numbered_from 0 numbers) strategy (Ok layout)

  -- the niche's layout is taken where it is smaller
  better_is : (behind n : Layout) (niche : Option Layout) → niche ≡ Some n → n.size ≡ size_of inner → size_of inner < behind.size → preferred_layout dl behind niche ≡ n
  better_is behind n niche is size less = ap (preferred_layout dl behind) is ∙ niche_taken dl behind n (omega (arith, size, less))

  -- ---- `None` first

  none_first_several : strategy_of true repr (layouts_of ([] ∷ (inner ∷ []) ∷ [])) ≡ Several
  none_first_several = both_present (is_free repr) false (is_absent (layout_of inner ∷ [])) is_rust refl not_absent

  none_first_niche : (found : Option Layout) → IsNicheAnswer AreListLayouts layout_of (λ i. i) (λ i. i) dl repr ([] ∷ (inner ∷ []) ∷ []) found
      → (e : Layout) × (l : Layout) × (h : AreLists dl inner free e l) × (found ≡ Some (none_first_layout dl repr inner free e l h byte law))
  none_first_niche found (inl h) = absurd (let no : true ≡ false = sym is_rust ∙ h.0 in cc)
  none_first_niche found (inr (inl (own, error, inl first, none))) = absurd (no_empty_error dl repr some_room error first)
  none_first_niche found (inr (inl (own, error, inr (first, is, inl second), none))) = absurd (no_lone_error dl repr inner error no_error_alone second)
  none_first_niche found (inr (inl (own, error, inr (first, is, inr third), none))) = absurd third.2
  none_first_niche found (inr (inr (own, [], are, is))) = absurd are
  none_first_niche found (inr (inr (own, a ∷ [], are, is))) = absurd are.1
  none_first_niche found (inr (inr (own, a ∷ b ∷ c ∷ more, are, is))) = absurd are.1.1
  none_first_niche found (inr (inr (own, e ∷ l ∷ [], are, is))) =
      let h = two_lists e l are.0 are.1.0 in
      (e, l, h, is ∙ none_first dl repr inner free e l h)

  pub none_first_laid : (c d : ℕ) (layout : Layout) → IsEnumed dl repr (c ∷ d ∷ []) ([] ∷ (inner ∷ []) ∷ []) (Ok layout)
      → IsInNiche dl 0 1 inner (placed_enum dl repr (c ∷ d ∷ []) ([] ∷ (inner ∷ []) ∷ []) layout)
  none_first_laid c d layout answer =
      let variants : List (List Placed) = [] ∷ (inner ∷ []) ∷ [] in
      let b = several_is dl repr (c ∷ d ∷ []) variants layout (subst (λ strategy. IsAnswerOn (c ∷ d ∷ []) strategy variants layout) none_first_several answer) in
      let n = none_first_niche b.niche b.beside in
      let t = two_tagged dl repr _ [] (inner ∷ []) b.tagged b.asked in
      let behind : size_of inner < t.second.size = larger_behind dl repr t.asked (layouts_of variants) inner t.second t.second_is in
      let less : size_of inner < b.tagged.size = omega (arith, behind, t.above) in
      let is : layout ≡ none_first_layout dl repr inner free n.0 n.1 n.2 byte law =
      b.is ∙ better_is b.tagged _ b.niche n.3 (none_first_size dl repr inner free n.0 n.1 n.2 byte law) less in
      subst (λ l. IsInNiche dl 0 1 inner (placed_enum dl repr (c ∷ d ∷ []) variants l)) (sym is)
      (none_first_in dl repr inner free n.0 n.1 n.2 byte law c d)

  -- ---- `Some` first

  some_first_several : strategy_of true repr (layouts_of ((inner ∷ []) ∷ [] ∷ [])) ≡ Several
  some_first_several = both_present (is_free repr) (is_absent (layout_of inner ∷ [])) false is_rust not_absent refl

  some_first_niche : (found : Option Layout) → IsNicheAnswer AreListLayouts layout_of (λ i. i) (λ i. i) dl repr ((inner ∷ []) ∷ [] ∷ []) found
      → (e : Layout) × (l : Layout) × (h : AreLists dl inner free e l) × (found ≡ Some (some_first_layout dl repr inner free e l h byte law))
  some_first_niche found (inl h) = absurd (let no : true ≡ false = sym is_rust ∙ h.0 in cc)
  some_first_niche found (inr (inl (own, error, inl first, none))) = absurd (no_lone_error dl repr inner error no_error_alone first)
  some_first_niche found (inr (inl (own, error, inr (first, is, inl second), none))) = absurd (no_empty_error dl repr some_room error second)
  some_first_niche found (inr (inl (own, error, inr (first, is, inr third), none))) = absurd third.2
  some_first_niche found (inr (inr (own, [], are, is))) = absurd are
  some_first_niche found (inr (inr (own, a ∷ [], are, is))) = absurd are.1
  some_first_niche found (inr (inr (own, a ∷ b ∷ c ∷ more, are, is))) = absurd are.1.1
  some_first_niche found (inr (inr (own, l ∷ e ∷ [], are, is))) =
      let h = two_lists e l are.1.0 are.0 in
      (e, l, h, is ∙ some_first dl repr inner free e l h)

  pub some_first_laid : (c d : ℕ) (layout : Layout) → IsEnumed dl repr (c ∷ d ∷ []) ((inner ∷ []) ∷ [] ∷ []) (Ok layout)
      → IsInNiche dl 1 0 inner (placed_enum dl repr (c ∷ d ∷ []) ((inner ∷ []) ∷ [] ∷ []) layout)
  some_first_laid c d layout answer =
      let variants : List (List Placed) = (inner ∷ []) ∷ [] ∷ [] in
      let b = several_is dl repr (c ∷ d ∷ []) variants layout (subst (λ strategy. IsAnswerOn (c ∷ d ∷ []) strategy variants layout) some_first_several answer) in
      let n = some_first_niche b.niche b.beside in
      let t = two_tagged dl repr _ (inner ∷ []) [] b.tagged b.asked in
      let behind : size_of inner < t.first.size = larger_behind dl repr t.asked (layouts_of variants) inner t.first t.first_is in
      let less : size_of inner < b.tagged.size = omega (arith, behind, t.above) in
      let is : layout ≡ some_first_layout dl repr inner free n.0 n.1 n.2 byte law =
      b.is ∙ better_is b.tagged _ b.niche n.3 (some_first_size dl repr inner free n.0 n.1 n.2 byte law) less in
      subst (λ l. IsInNiche dl 1 0 inner (placed_enum dl repr (c ∷ d ∷ []) variants l)) (sym is)
      (some_first_in dl repr inner free n.0 n.1 n.2 byte law c d)
