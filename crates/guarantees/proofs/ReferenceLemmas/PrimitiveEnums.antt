-- Each enum with a named integer alone that was laid out is one as the Reference has it.
use Rattle.std.proofs.Common.{◌≡◌, ℕ, ◌+◌, ◌-◌, ◌%◌, ◌^◌, ◌<◌, ◌≤◌, Bool, true, false, List, [], ◌∷◌, Option, None, Some, length, map, refl, sym, ap, ap₂, ◌∙◌, subst, arith, Ok}
use Rattle.std.specs.Prelude.{max, not, is_some, unwrap_or, ◌||◌, ⊤, nat_lt, IsSome, if◌then◌else◌}
use Rattle.std.specs.Option.{option_map}
use Rattle.std.specs.Int.{◌∣◌, next_multiple_of}
use Rattle.std.proofs.Math.Nat.{zero-mod}
use Rattle.std.proofs.lemmas.Nat.{pow_pos}
use Rattle.abi_base.specs.declared.data_layout.TargetDataLayout.{TargetDataLayout}
use Rattle.abi_base.specs.DataLayout.{IsLawfulDataLayout}
use Rattle.abi_base.specs.declared.integer.Integer.{Integer}
use Rattle.abi_base.specs.declared.integer.IntegerType.{IntegerType}
use Rattle.abi_base.specs.declared.primitive.Primitive.TheVariants.{Int}
use Rattle.abi_base.specs.Integer.{integer_align, integer_size}
use Rattle.abi_base.specs.IntegerType.{integer_of_type, is_signed_type}
use Rattle.abi_scalar.specs.declared.repr.ReprOptions.{ReprOptions}
use Rattle.abi_scalar.specs.declared.scalar.Scalar.TheVariants.{Initialized}
use Rattle.abi_scalar.specs.declared.variants.VariantLayout.{VariantLayout}
use Rattle.abi_scalar.specs.Repr.{has_fixed_order, is_c}
use Rattle.abi_univariant.specs.Fields.{greatest, greatest_size}
use Rattle.abi_univariant.specs.Placement.{cut, own_align, prefix_align, start_of}
use Rattle.abi_univariant.proofs.Offsets.Rounding.{round_multiple}
use Rattle.abi_calc.specs.Enums.Lists.{align_with_all, behind_tag, tag_align}
use Rattle.abi_calc.specs.Enums.EnumStrategy.{is_free}
use Rattle.abi_calc.specs.Enums.Tagged.{layout_with_view, lists_align, lists_size}
use Rattle.abi_tree.specs.Mark.{mark_of}
use Rattle.abi_tree.specs.Placed.{Placed, fields, tagged}
use Rattle.abi_scalar.specs.Layout.{Layout}
use Rattle.abi_tree.specs.Tree.{Tree, Variants, enum}
use Rattle.rustc_abi.specs.Enums.{tagged_variants_at, discriminants_of, layouts_of}
use Rattle.rustc_abi.specs.Laying.{IsLaying, VariantsLaying, enum_fault, placed_enum}
use Rattle.guarantees.proofs.ReferenceLemmas.Answers.{numbers_for}
use Rattle.guarantees.specs.Reference.Words.{Extent, extent_of, largest, most_aligned, padding_needed_for, rounded_up}
use Rattle.guarantees.specs.Reference.CStruct.{c_end, c_offsets, c_struct}
use Rattle.guarantees.specs.Reference.CUnion.{c_union}
use Rattle.guarantees.specs.Reference.Tags.{IsTagInteger, integer_extent}
use Rattle.guarantees.specs.Reference.FieldEnums.{IsPlainPrimitive, IsPrimitiveEnum, LieBehindTag, primitive_enum, variant_fields, with_fields}
use Rattle.guarantees.proofs.ReferenceLemmas.Lists.{extents_for, pow_max, rounded}
use Rattle.guarantees.proofs.ReferenceLemmas.EnumLists.{AreListsFrom, IsTaggedBehind, LieFrom, tagged_variant_fields, tagged_variant_for_each, each_tagged_variant, lie_from, lists_are, of_tagged, seen_from}

-- ---- the C algorithm behind a tag

none_at : (a m : ℕ) → m ≡ 0 → (if nat_lt 0 m then a - m else 0) ≡ 0
none_at a m e = ap (λ k. if nat_lt 0 k then a - k else 0) e

pub no_padding : (a : ℕ) → padding_needed_for 0 a ≡ 0
no_padding a = none_at a (0 % a) (zero-mod a)

behind : (tag : Extent) → 0 + padding_needed_for 0 tag.align + tag.size ≡ tag.size
behind tag = let unpadded : padding_needed_for 0 tag.align ≡ 0 = no_padding tag.align in omega arith

pub offsets_behind : (tag : Extent) (es : List Extent) → c_offsets 0 (tag ∷ es) ≡ 0 ∷ c_offsets tag.size es
offsets_behind tag es =
    let unpadded : padding_needed_for 0 tag.align ≡ 0 = no_padding tag.align in
    let first : 0 + padding_needed_for 0 tag.align ≡ 0 = omega arith in
    ap₂ (λ (o : ℕ) (os : List ℕ). o ∷ os) first (ap (λ k. c_offsets k es) (behind tag))

pub end_behind : (tag : Extent) (es : List Extent) → c_end 0 (tag ∷ es) ≡ c_end tag.size es
end_behind tag es = ap (λ k. c_end k es) (behind tag)

end_after : (from : ℕ) (es : List Extent) → from ≤ c_end from es
end_after from [] = omega arith
end_after from (e ∷ es) = omega (arith, end_after (from + padding_needed_for from e.align + e.size) es)

-- ---- the union of structs that begin with the tag

module _ (size align : ℕ) (fits : 2 ^ align ∣ size) where
  abbrev tag : Extent
  tag = record { size = size; align = 2 ^ align }

  abbrev made : List Extent → Extent
  made es = c_struct (tag ∷ es)

  some_align : 1 ≤ 2 ^ align
  some_align = let some : 0 < 2 ^ align = pow_pos align in omega arith

  alone_size : (made []).size ≡ size
  alone_size =
      let own : max (2 ^ align) 1 ≡ 2 ^ align = omega (arith, some_align) in
      ap₂ rounded_up (end_behind tag []) own ∙ rounded size align ∙ round_multiple size align fits

  no_smaller : (es : List Extent) → size ≤ (made es).size
  no_smaller es =
      let more : size ≤ c_end size es = end_after size es in
      let same : c_end 0 (tag ∷ es) ≡ c_end size es = end_behind tag es in
      omega arith

  aligned_with : (ess : List (List Extent)) → max (2 ^ align) (most_aligned (map made ess)) ≡ max (2 ^ align) (most_aligned (map made (with_fields ess)))
  aligned_with [] = refl
  aligned_with ([] ∷ ess) = omega (arith, aligned_with ess, some_align)
  aligned_with ((e ∷ es) ∷ ess) = omega (arith, aligned_with ess)

  sized_with : (ess : List (List Extent)) → max size (largest (map made ess)) ≡ max size (largest (map made (with_fields ess)))
  sized_with [] = refl
  sized_with ([] ∷ ess) = let alone : (made []).size ≡ size = alone_size in
      ap (λ k. max size (max k (largest (map made ess)))) alone ∙ omega (arith, sized_with ess)
  sized_with ((e ∷ es) ∷ ess) =
      let s : ℕ = (made (e ∷ es)).size in
      let rest : max size (largest (map made ess)) ≡ max size (largest (map made (with_fields ess))) = sized_with ess in
      let one : max size (max s (largest (map made ess))) ≡ max s (max size (largest (map made ess))) = omega arith in
      let other : max s (max size (largest (map made (with_fields ess)))) ≡ max size (max s (largest (map made (with_fields ess)))) = omega arith in
      one ∙ ap (max s) rest ∙ other

  pub with_tag : (es : List Extent) (ess : List (List Extent)) → c_union (map made (es ∷ ess)) ≡ primitive_enum tag (es ∷ ess)
  with_tag es ess =
      let least = no_smaller es in
      let large : largest (map made (es ∷ ess)) ≡ largest (tag ∷ map made (with_fields (es ∷ ess))) =
      (let in_it : largest (map made (es ∷ ess)) ≡ max size (largest (map made (es ∷ ess))) = omega arith in in_it) ∙ sized_with (es ∷ ess) in
      let high : most_aligned (map made (es ∷ ess)) ≡ most_aligned (tag ∷ map made (with_fields (es ∷ ess))) =
      (let in_it : most_aligned (map made (es ∷ ess)) ≡ max (2 ^ align) (most_aligned (map made (es ∷ ess))) = omega arith in in_it) ∙ aligned_with (es ∷ ess) in
      ap₂ (λ (n a : ℕ). let e : Extent = record { size = rounded_up n a; align = a } in e) large high

  -- ---- each list is such a struct

  abbrev AreMade : List (List Placed) → List Layout → Type 0
  AreMade [] [] = ⊤
  AreMade (ps ∷ variants) (l ∷ lists) =
      (l.size ≡ (made (map extent_of ps)).size) × (2 ^ l.align.abi ≡ (made (map extent_of ps)).align) × AreMade variants lists
  AreMade _ _ = ⊥

  are_made : (dl : TargetDataLayout) (repr : ReprOptions) → repr.pack ≡ None → max (own_align dl repr) (unwrap_or repr.align 0) ≡ 0
      → (variants : List (List Placed)) (lists : List Layout) → AreListsFrom dl repr size align variants lists → AreMade variants lists
  are_made dl repr loose begin [] [] h = tt
  are_made dl repr loose begin [] (l ∷ lists) h = absurd h
  are_made dl repr loose begin (ps ∷ variants) [] h = absurd h
  are_made dl repr loose begin (ps ∷ variants) (l ∷ lists) h =
      let fields : extents_for repr.pack ps ≡ map extent_of ps = ap (λ pack. extents_for pack ps) loose in
      let first : max (max (own_align dl repr) (unwrap_or repr.align 0)) align ≡ align = ap (λ k. max k align) begin ∙ omega arith in
      let high : 2 ^ l.align.abi ≡ most_aligned (tag ∷ map extent_of ps) =
      h.0.align ∙ ap₂ (λ k es. max (2 ^ k) (most_aligned es)) first fields in (
        h.0.size ∙ ap₂ rounded_up (ap (c_end size) fields ∙ sym (end_behind tag (map extent_of ps))) high,
        high,
        are_made dl repr loose begin variants lists h.1,
      )

  made_sizes : (variants : List (List Placed)) (lists : List Layout) → AreMade variants lists
      → greatest_size lists ≡ largest (map made (map (map extent_of) variants))
  made_sizes [] [] h = refl
  made_sizes [] (l ∷ lists) h = absurd h
  made_sizes (ps ∷ variants) [] h = absurd h
  made_sizes (ps ∷ variants) (l ∷ lists) h = ap₂ (λ m n. max m n) h.0 (made_sizes variants lists h.2)

  made_aligns : (variants : List (List Placed)) (lists : List Layout) → AreMade variants lists
      → 2 ^ greatest (map (λ (f : Layout). f.align.abi) lists) ≡ most_aligned (map made (map (map extent_of) variants))
  made_aligns [] [] h = refl
  made_aligns [] (l ∷ lists) h = absurd h
  made_aligns (ps ∷ variants) [] h = absurd h
  made_aligns (ps ∷ variants) (l ∷ lists) h =
      pow_max l.align.abi (greatest (map (λ (f : Layout). f.align.abi) lists))
      ∙ ap₂ (λ m n. max m n) h.1 (made_aligns variants lists h.2)

  pub union_of_made : (dl : TargetDataLayout) → dl.aggregate_align ≡ 0 → (repr : ReprOptions) → repr.pack ≡ None
      → max (own_align dl repr) (unwrap_or repr.align 0) ≡ 0 → (v : List Placed) (vs : List (List Placed)) (lists : List Layout)
      → AreListsFrom dl repr size align (v ∷ vs) lists
      → (let e : Extent = record { size = lists_size dl lists; align = 2 ^ lists_align dl lists } in e) ≡ primitive_enum tag (map (map extent_of) (v ∷ vs))
  union_of_made dl byte repr loose begin v vs lists h =
      let are : AreMade (v ∷ vs) lists = are_made dl repr loose begin (v ∷ vs) lists h in
      let ess : List (List Extent) = map (map extent_of) (v ∷ vs) in
      let exponent : lists_align dl lists ≡ greatest (map (λ (f : Layout). f.align.abi) lists) = omega (arith, byte) in
      let high : 2 ^ lists_align dl lists ≡ most_aligned (map made ess) = ap (λ k. 2 ^ k) exponent ∙ made_aligns (v ∷ vs) lists are in
      let large : lists_size dl lists ≡ rounded_up (largest (map made ess)) (most_aligned (map made ess)) =
      sym (rounded (greatest_size lists) (lists_align dl lists)) ∙ ap₂ rounded_up (made_sizes (v ∷ vs) lists are) high in
      ap₂ (λ (n a : ℕ). let e : Extent = record { size = n; align = a } in e) large high ∙ with_tag (map extent_of v) (map (map extent_of) vs)

-- ---- the repr

pub or_true : (b c : Bool) → c ≡ true → (b || c) ≡ true
or_true true c e = refl
or_true false c e = e

pub named_is_fixed : (repr : ReprOptions) → IsSome repr.int → has_fixed_order repr ≡ true
named_is_fixed repr some = or_true _ (is_some repr.int) some

pub named_is_asked : (repr : ReprOptions) → IsSome repr.int → is_free repr ≡ false
named_is_asked repr some = ap not (or_true (is_c repr) (is_some repr.int) some)

-- the integer is the one that is named
pub named_tag : (dl : TargetDataLayout) (o : Option IntegerType) (numbers : List ℕ) (asked : Integer) (signed : Bool) (other : Integer × Bool) → IsSome o
    → (asked, signed) ≡ unwrap_or (option_map (λ type. (integer_of_type dl type, is_signed_type type)) o) other → IsTagInteger dl o numbers signed asked
named_tag dl (Some type) numbers asked signed other some e = (ap (λ (x : Integer × Bool). x.0) e, ap (λ (x : Integer × Bool). x.1) e)
named_tag dl None numbers asked signed other some e = absurd (cc)

-- ---- the rule

not_plain : (dl : TargetDataLayout) (repr : ReprOptions) (all : Variants) → (IsPlainPrimitive repr → ⊥) → (p : Placed) → IsPrimitiveEnum dl (enum repr all) p
not_plain dl repr all isnt (tagged layout mark offset number encoding tagged_variants) = λ plain. absurd (isnt plain)
not_plain dl repr all isnt _ = λ plain. absurd (isnt plain)

module _ (dl : TargetDataLayout) (law : IsLawfulDataLayout dl) (byte : dl.aggregate_align ≡ 0) (repr : ReprOptions) (all : Variants) where
  abbrev numbers : List ℕ
  numbers = discriminants_of all

  tagged_lies : (v : List Placed) (vs : List (List Placed)) (layout : Layout) → VariantsLaying dl all (Ok (v ∷ vs)) → enum_fault dl repr numbers (v ∷ vs) ≡ None
      → IsTaggedBehind dl repr numbers (v ∷ vs) layout → IsPrimitiveEnum dl (enum repr all) (placed_enum dl repr numbers (v ∷ vs) layout)
  tagged_lies v vs layout there faultless b =
      let size : ℕ = integer_size b.asked in
      let align : ℕ = integer_align dl b.asked in
      let fits : 2 ^ align ∣ size = law.integers b.asked in
      subst (λ (l : Layout). IsPrimitiveEnum dl (enum repr all) (placed_enum dl repr numbers (v ∷ vs) l)) (sym b.is) (λ (plain : IsPlainPrimitive repr).
      let own : tag_align dl repr b.asked (layouts_of (v ∷ vs)) ≡ align =
      ap (λ c. if c then align_with_all align (layouts_of (v ∷ vs)) else align) plain.0 in
      let start : start_of repr.pack (behind_tag dl repr b.asked (layouts_of (v ∷ vs))) ≡ size =
      ap₂ (λ (pack : Option ℕ) a. next_multiple_of size (2 ^ cut pack a)) plain.3 own ∙ round_multiple size align fits in
      let before : prefix_align repr.pack (behind_tag dl repr b.asked (layouts_of (v ∷ vs))) ≡ align = ap₂ (λ (pack : Option ℕ) a. cut pack a) plain.3 own in
      let begin : max (own_align dl repr) (unwrap_or repr.align 0) ≡ 0 =
      ap₂ (λ (pack raised : Option ℕ). max (if is_some pack then dl.i8_align else dl.aggregate_align) (unwrap_or raised 0)) plain.3 plain.2 ∙ omega (arith, byte) in
      let given = lists_are dl repr (behind_tag dl repr b.asked (layouts_of (v ∷ vs))) (v ∷ vs) b.lists (named_is_fixed repr plain.1) b.are in
      let lists : AreListsFrom dl repr size align (v ∷ vs) b.lists =
      subst (λ k. AreListsFrom dl repr size k (v ∷ vs) b.lists) before
      (subst (λ k. AreListsFrom dl repr k (prefix_align repr.pack (behind_tag dl repr b.asked (layouts_of (v ∷ vs)))) (v ∷ vs) b.lists) start given) in
      let whole : Layout = layout_with_view 0 dl repr size (Initialized (Int b.asked b.signed) b.range) size b.lists b.view in
      let layouts : List (VariantLayout ℕ) = map (seen_from size b.view (lists_size dl b.lists)) b.lists in
      let lie : LieFrom size layouts (v ∷ vs) = lie_from dl repr size align size b.view (lists_size dl b.lists) (v ∷ vs) b.lists plain.3 lists in
      let long : length numbers ≡ length (v ∷ vs) = numbers_for dl all (v ∷ vs) there in
      let ess : variant_fields (tagged_variants_at whole (mark_of true repr) 0 layouts numbers (v ∷ vs)) ≡ map (map extent_of) (v ∷ vs) =
      tagged_variant_fields dl whole (mark_of true repr) size 0 numbers (v ∷ vs) layouts long lie in (
        record {
          each = tagged_variant_for_each dl whole (mark_of true repr) size 0 all (v ∷ vs) layouts there lie;
          start = refl;
          direct = refl;
          number = (b.asked, b.signed, (refl, refl));
          named = λ some. (b.asked, b.signed, named_tag dl repr.int _ b.asked b.signed _ some b.for.3, (refl, refl));
        },
        union_of_made size align fits dl byte repr plain.3 begin v vs b.lists lists ∙ ap (primitive_enum (integer_extent dl b.asked)) (sym ess),
        each_tagged_variant dl whole (mark_of true repr) size (LieBehindTag (integer_extent dl b.asked))
            (λ es. offsets_behind (integer_extent dl b.asked) es) 0 numbers (v ∷ vs) layouts long lie,
      ))

  pub enum_primitive : (p : Placed) → IsLaying dl (enum repr all) (Ok p) → IsPrimitiveEnum dl (enum repr all) p
  enum_primitive =
      of_tagged dl repr all (IsPrimitiveEnum dl (enum repr all))
      (λ free. not_plain dl repr all (λ plain. let no : true ≡ false = sym free ∙ named_is_asked repr plain.1 in absurd (cc)))
      (λ none plain. none) tagged_lies

pub laid_primitive_enum : (dl : TargetDataLayout) → dl.aggregate_align ≡ 0 → IsLawfulDataLayout dl → (t : Tree) (p : Placed) → IsLaying dl t (Ok p)
    → IsPrimitiveEnum dl t p
laid_primitive_enum dl byte law (enum repr all) p h = enum_primitive dl law byte repr all p h
laid_primitive_enum dl byte law _ p h = tt
