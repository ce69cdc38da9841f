-- An enum without fields is as large as its integer, from its exact layout.
use Rattle.std.proofs.Common.{◌≡◌, ℕ, ◌+◌, ◌-◌, ◌*◌, ◌%◌, ◌^◌, ◌<◌, ◌≤◌, Bool, true, false, List, [], ◌∷◌, None, Some, Option, length, map, cond, refl, sym, ap, ap₂, ◌∙◌, subst, arith, inl, inr, Ok, Err}
use Rattle.std.specs.Prelude.{All, MatchOption, filter, max, not, option_map, unwrap_or, ◌&&◌, ◌||◌, ℤ, pos, nat_le, nat_lt, if◌then◌else◌, is_some}
use Rattle.std.specs.Int.{◌∣◌, next_multiple_of}
use Rattle.std.specs.List.{list_all}
use Rattle.std.proofs.Math.Nat.{dvd_trans, dvd-mul_right}
use Rattle.std.proofs.Math.Pow.{pow-add}
use Rattle.std.proofs.lemmas.Bool.{and_parts}
use Rattle.std.proofs.lemmas.List.Elements.{All-cons, All-nil}
use Rattle.abi_base.specs.declared.data_layout.TargetDataLayout.{TargetDataLayout}
use Rattle.abi_base.specs.DataLayout.{IsLawfulDataLayout, IsPointerWidth, index_integer}
use Rattle.abi_base.specs.declared.integer.Integer.{Integer}
use Rattle.abi_base.specs.declared.integer.IntegerType.{IntegerType}
use Rattle.abi_base.specs.declared.integer.IntegerType.TheVariants.{Pointer}
use Rattle.abi_base.specs.declared.niche_optimizations.NicheOptimizations.TheVariants.{Enabled}
use Rattle.abi_base.specs.Integer.{integer_align, integer_size}
use Rattle.abi_base.specs.IntegerType.{integer_of_type, is_signed_type}
use Rattle.abi_base.specs.Size.{signed_value}
use Rattle.abi_scalar.specs.declared.repr.ReprOptions.{ReprOptions}
use Rattle.abi_scalar.specs.declared.variants.Variants.{Variants as LayoutVariants}
use Rattle.abi_scalar.specs.declared.variants.Variants.TheVariants.{Empty}
use Rattle.abi_scalar.specs.Repr.{discr_type_of, is_c}
use Rattle.abi_univariant.specs.Fields.{greatest, greatest_size}
use Rattle.abi_univariant.specs.List.{IsUnivariantAnswer}
use Rattle.abi_univariant.specs.Placement.{cut, end_from, in_order, own_align, start_of}
use Rattle.abi_calc.specs.declared.enums.strategy.EnumStrategy.{EnumStrategy}
use Rattle.abi_calc.specs.Enums.Answer.{IsTypeAnswer}
use Rattle.abi_calc.specs.Enums.Discriminants.{IsGreatestOf, IsLeastOf, counts, meant_by}
use Rattle.abi_calc.specs.Enums.Lists.{AreListLayouts, align_with_all, behind_tag, tag_align}
use Rattle.abi_calc.specs.Enums.EnumStrategy.{has_no_value, is_free, variant_at}
use Rattle.abi_calc.specs.Enums.Several.{IsAskedFor}
use Rattle.abi_calc.specs.Enums.Tagged.{lists_align}
use Rattle.abi_tree.specs.Placed.{Placed, layout_of}
use Rattle.abi_scalar.specs.Layout.{Layout}
use Rattle.abi_tree.specs.Tree.{Tree, enum}
use Rattle.rustc_abi.specs.declared.error.LayError.{LayError}
use Rattle.rustc_abi.specs.declared.error.LayError.TheVariants.{BadAlign, BadIndex, DiscriminantTooWide, DuplicateDiscriminant}
use Rattle.rustc_abi.specs.Enums.{IsEnumed, IsTagIntegerAnswer, counted, discriminants_of, has_equal, is_discriminant, is_negative, layouts_of, least_integer, least_tag, numbered_from, tag_integer}
use Rattle.rustc_abi.specs.Error.{Follows}
use Rattle.rustc_abi.specs.Laying.{IsLaying, VariantsLaying, enum_fault, has_bad_align, has_bad_index, placed_enum, placed_variants}
use Rattle.guarantees.specs.EnumInC.{HasNumber, IsEnumInC, IsIntegerOfEnum, LiesAsEnumInC, least_enum, without_fields}
use Rattle.guarantees.specs.InC.{HasExtent, IsLeastMultiple}
use Rattle.guarantees.proofs.Integers.{IsSignedIn, bits, has_meaning, least_has_each, same_meaning, signed_by}
use Rattle.guarantees.proofs.Ordered.{inj-Ok, no_error}
use Rattle.guarantees.proofs.ReferenceLemmas.EnumLists.{IsTaggedBehind, is_several, tagged_by}
use Rattle.guarantees.proofs.Rounded.{rounded_up}

-- ---- variants without fields, as they are laid out

abbrev pub empties : List ℕ → List (List Placed)
empties ns = map (λ n. []) ns

no_fields : (dl : TargetDataLayout) (ns : List ℕ) (vs : List (List Placed)) → VariantsLaying dl (without_fields ns) (Ok vs) → vs ≡ empties ns
no_fields dl [] vs h = cc
no_fields dl (n ∷ ns) vs (inl f) = absurd (cc f.2)
no_fields dl (n ∷ ns) vs (inr (ps, here, inl f)) = absurd (cc f.2)
no_fields dl (n ∷ ns) vs (inr (ps, here, inr (rest, later, is))) =
    let none : ps ≡ [] = cc in
    let more : rest ≡ empties ns = no_fields dl ns rest later in
    let both : vs ≡ ps ∷ rest = cc in
    both ∙ ap₂ (λ (v : List Placed) (ws : List (List Placed)). v ∷ ws) none more

numbers_are : (ns : List ℕ) → discriminants_of (without_fields ns) ≡ ns
numbers_are [] = refl
numbers_are (n ∷ ns) = ap (λ ms. n ∷ ms) (numbers_are ns)

-- no field has an alignment
own_alone : (own : ℕ) (ns : List ℕ) → align_with_all own (layouts_of (empties ns)) ≡ own
own_alone own [] = refl
own_alone own (n ∷ ns) = own_alone (max own 0) ns ∙ omega arith

-- ---- the list of a variant without fields, behind the tag

whole : (from : ℕ) → next_multiple_of from (2 ^ 0) + 0 ≡ from
whole from = omega arith

-- where no field is, the end stays, whatever the order
end_stays : (from : ℕ) (order : List ℕ) → end_from None from (in_order [] order) ≡ from
end_stays from [] = refl
end_stays from (i ∷ order) = ap (λ n. end_from None n (in_order [] order)) (whole from) ∙ end_stays from order

module _ (dl : TargetDataLayout) (repr : ReprOptions) (loose : repr.pack ≡ None) (unraised : repr.align ≡ None) (asked : Integer) (ns : List ℕ) (c : is_c repr ≡ true) where
  abbrev own : ℕ
  own = integer_align dl asked

  abbrev width : ℕ
  width = integer_size asked

  abbrev most : ℕ
  most = max dl.aggregate_align own

  abbrev large : ℕ
  large = next_multiple_of (next_multiple_of width (2 ^ own)) (2 ^ most)

  before : tag_align dl repr asked (layouts_of (empties ns)) ≡ own
  before = ap (λ b. if b then align_with_all own (layouts_of (empties ns)) else own) c ∙ own_alone own ns

  list_extent : (list : Layout) → IsUnivariantAnswer layout_of (λ i. i) 0 dl repr (behind_tag dl repr asked (layouts_of (empties ns))) [] (Ok list) →
      (list.size ≡ large) × (list.align.abi ≡ most)
  list_extent list (order, offsets, h) =
      let placed = h.named.3.1 in
      let least : max (max (own_align dl repr) (unwrap_or repr.align 0)) own ≡ most =
      ap₂ (λ (pack raised : Option ℕ). max (max (if is_some pack then dl.i8_align else dl.aggregate_align) (unwrap_or raised 0)) own) loose unraised ∙ omega arith in
      let aligned : list.align.abi ≡ most =
      placed.alignment ∙ ap₂ (λ (pack : Option ℕ) a. max (max (own_align dl repr) (unwrap_or repr.align 0)) (cut pack a)) loose before ∙ least in
      let start : start_of repr.pack (behind_tag dl repr asked (layouts_of (empties ns))) ≡ next_multiple_of width (2 ^ own) =
      ap₂ (λ (pack : Option ℕ) a. next_multiple_of width (2 ^ cut pack a)) loose before in
      let end : end_from repr.pack (start_of repr.pack (behind_tag dl repr asked (layouts_of (empties ns)))) (in_order [] order) ≡ next_multiple_of width (2 ^ own) =
      ap₂ (λ (pack : Option ℕ) from. end_from pack from (in_order [] order)) loose start ∙ end_stays (next_multiple_of width (2 ^ own)) order in
      (placed.extent ∙ ap₂ (λ n a. next_multiple_of n (2 ^ a)) end (sym placed.alignment ∙ aligned), aligned)

  -- the greatest of such lists
  greatest_is : (v : ℕ) (vs : List ℕ) (lists : List Layout) → AreListLayouts layout_of (λ i. i) 0 dl repr (behind_tag dl repr asked (layouts_of (empties ns))) (empties (v ∷ vs)) lists →
      (greatest_size lists ≡ large) × (greatest (map (λ (f : Layout). f.align.abi) lists) ≡ most)
  greatest_is v vs [] h = absurd h
  greatest_is v [] (l ∷ []) h =
      let one = list_extent l h.0 in (omega (arith, one.0), omega (arith, one.1))
  greatest_is v [] (l ∷ m ∷ lists) h = absurd h.1
  greatest_is v (w ∷ vs) (l ∷ lists) h =
      let one = list_extent l h.0 in
      let rest = greatest_is w vs lists h.1 in
      (ap₂ (λ m n. max m n) one.0 rest.0 ∙ omega arith, ap₂ (λ m n. max m n) one.1 rest.1 ∙ omega arith)

pow_dvd : (i j : ℕ) → i ≤ j → 2 ^ i ∣ 2 ^ j
pow_dvd i j h =
    let split : i + (j - i) ≡ j = omega arith in
    subst (λ x. 2 ^ i ∣ 2 ^ x) split (subst (λ x. 2 ^ i ∣ x) (sym (pow-add 2 i (j - i))) (dvd-mul_right (2 ^ i) (2 ^ (j - i))))

-- rounded up further, it is the same
through : (a b from mid place : ℕ) → a ≤ b → IsLeastMultiple a from mid → IsLeastMultiple b mid place → IsLeastMultiple b from place
through a b from mid place le first second = record {
  multiple = second.multiple;
  after = (let one = first.after in let two = second.after in omega arith);
  least = λ other m after. second.least other m (first.least other (dvd_trans (2 ^ a) (pow_dvd a b le) m) after);
}

-- ---- how such an enum is answered

true_or : (b more : Bool) → b ≡ true → (b || more) ≡ true
true_or true more e = refl
true_or false more e = absurd (cc)

-- it isn't free, so there is no niche
not_free : (repr : ReprOptions) → is_c repr ≡ true → is_free repr ≡ false
not_free repr c = ap not (true_or (is_c repr) (is_some repr.int) c)

-- ---- the integer that is asked for

pub fitting : (index align equal fits : Bool) → ◌≡◌ {A = Option LayError} (if index then Some BadIndex else (if align then Some BadAlign
    else (if equal then Some DuplicateDiscriminant else (if not fits then Some DiscriminantTooWide else None)))) None → fits ≡ true
fitting true align equal fits e = absurd (cc)
fitting false true equal fits e = absurd (cc)
fitting false false true fits e = absurd (cc)
fitting false false false true e = refl
fitting false false false false e = absurd (cc)

index_size : (bytes : ℕ) → IsPointerWidth bytes → integer_size (index_integer bytes) ≡ bytes
index_size bytes (inl two) = ap (λ n. integer_size (index_integer n)) two ∙ sym two
index_size bytes (inr (inl four)) = ap (λ n. integer_size (index_integer n)) four ∙ sym four
index_size bytes (inr (inr eight)) = ap (λ n. integer_size (index_integer n)) eight ∙ sym eight

-- whether the number is one of the type, and what it stands for there
abbrev is_of : TargetDataLayout → IntegerType → ℕ → Bool
is_of dl type n =
    let half : ℕ = 2 ^ (integer_size (integer_of_type dl type) * 8 - 1) in
    if is_signed_type type then nat_lt n half || (nat_le (2 ^ 128 - half) n && nat_lt n (2 ^ 128))
    else nat_lt n (2 ^ (integer_size (integer_of_type dl type) * 8))

abbrev meant_in : TargetDataLayout → IntegerType → ℕ → ℤ
meant_in dl type n =
    if is_signed_type type
    then signed_value (integer_size (integer_of_type dl type) * 8) (n % 2 ^ (integer_size (integer_of_type dl type) * 8))
    else pos n

module _ (dl : TargetDataLayout) (law : IsLawfulDataLayout dl) (repr : ReprOptions) (c : is_c repr ≡ true) (unnamed : repr.int ≡ None) where
  abbrev index : Integer
  index = index_integer dl.default_address_space_pointer_spec.pointer_offset

  isize : discr_type_of repr ≡ Pointer true
  isize = ap (λ int. unwrap_or int (Pointer true)) unnamed

  fitting_signed : (n : ℕ) → is_discriminant dl repr n ≡ true → IsSignedIn index n
  fitting_signed n fits = signed_by index n (sym (ap (λ type. is_of dl type n) isize) ∙ fits)

  -- each number stands for the same in the type of the discriminants and in 128 bits, and that type has it
  meanings : (ns : List ℕ) → list_all (is_discriminant dl repr) ns ≡ true → map (meant_by dl repr) ns ≡ map (signed_value 128) ns
  meanings [] fits = refl
  meanings (n ∷ ns) fits =
      let parts = and_parts (is_discriminant dl repr n) (list_all (is_discriminant dl repr) ns) fits in
      ap₂ (λ (z : ℤ) (zs : List ℤ). z ∷ zs) (ap (λ type. meant_in dl type n) isize ∙ same_meaning index n (fitting_signed n parts.0)) (meanings ns parts.1)

  rooms : (ns : List ℕ) → list_all (is_discriminant dl repr) ns ≡ true → All (HasNumber true (bits index)) (map (signed_value 128) ns)
  rooms [] fits = All-nil (HasNumber true (bits index))
  rooms (n ∷ ns) fits =
      let parts = and_parts (is_discriminant dl repr n) (list_all (is_discriminant dl repr) ns) fits in
      let signed = fitting_signed n parts.0 in
      All-cons (HasNumber true (bits index)) (signed_value 128 n) (map (signed_value 128) ns)
      (subst (HasNumber true (bits index)) (same_meaning index n signed) (has_meaning index n signed)) (rooms ns parts.1)

  -- under C each counts
  all_count : (layouts : List (List Layout)) (from : ℕ) (ns : List ℕ) → map (λ item. item.1) (filter (counts (λ i. i) repr layouts) (numbered_from from ns)) ≡ ns
  all_count layouts from [] = refl
  all_count layouts from (n ∷ ns) =
      let test = counts (λ (i : ℕ). i) repr layouts in
      let more = filter test (numbered_from (from + 1) ns) in
      let keeps : test (from, n) ≡ true = ap (λ b. b || not (has_no_value (variant_at layouts from))) c in
      ap (λ b. map (λ (item : ℕ × ℕ). item.1) (cond b ((from, n) ∷ more) more)) keeps ∙ ap (λ (ms : List ℕ). n ∷ ms) (all_count layouts (from + 1) ns)

  -- which integer it is
  integer_is : (ns : List ℕ) (variants : List (List Placed)) (asked : Integer) (signed : Bool) → list_all (is_discriminant dl repr) ns ≡ true →
      IsAskedFor dl repr (IsTagIntegerAnswer dl repr) (counted repr ns variants) asked signed → IsIntegerOfEnum dl (map (signed_value 128) ns) asked
  integer_is ns variants asked signed fits (least, greatest, with, answer) =
      let all : map (meant_by dl repr) (counted repr ns variants) ≡ map (signed_value 128) ns =
      ap (map (meant_by dl repr)) (all_count (layouts_of variants) 0 ns) ∙ meanings ns fits in
      let low : IsLeastOf (pos 0 ∷ map (signed_value 128) ns) least = subst (λ zs. IsLeastOf (pos 0 ∷ zs) least) all with.0 in
      let high : IsGreatestOf (pos 0 ∷ map (signed_value 128) ns) (pos greatest) = subst (λ zs. IsGreatestOf (pos 0 ∷ zs) (pos greatest)) all with.1 in
      let tag : least_tag dl repr ≡ least_enum dl = ap (λ b. if b then least_enum dl else 1) c in
      let chosen : tag_integer dl repr least greatest ≡ (least_integer (least_enum dl) least greatest, is_negative least) =
      ap₂ (λ int bytes. unwrap_or (option_map (λ type. (integer_of_type dl type, is_signed_type type)) int) (least_integer bytes least greatest, is_negative least)) unnamed tag in
      let is : asked ≡ least_integer (least_enum dl) least greatest = ap (λ (x : Integer × Bool). x.0) (answer ∙ chosen) in
      let wide : least_enum dl ≤ integer_size index = (let size = index_size dl.default_address_space_pointer_spec.pointer_offset law.index in omega (arith, size)) in
      subst (IsIntegerOfEnum dl (map (signed_value 128) ns)) (sym is)
      (least_has_each (map (signed_value 128) ns) least greatest low high dl index wide (rooms ns fits))

  module _ (loose : repr.pack ≡ None) (unraised : repr.align ≡ None) where
    behind : (n : ℕ) (ns : List ℕ) (layout : Layout) → list_all (is_discriminant dl repr) (n ∷ ns) ≡ true →
        IsTaggedBehind dl repr (n ∷ ns) (empties (n ∷ ns)) layout → LiesAsEnumInC dl (map (signed_value 128) (n ∷ ns)) layout.size layout.align.abi
    behind n ns layout fits b =
        let own : ℕ = integer_align dl b.asked in
        let width : ℕ = integer_size b.asked in
        let most : ℕ = max dl.aggregate_align own in
        let up : ℕ = next_multiple_of width (2 ^ own) in
        let large : ℕ = next_multiple_of up (2 ^ most) in
        let lists = greatest_is dl repr loose unraised b.asked (n ∷ ns) c n ns b.lists b.are in
        let aligned : lists_align dl b.lists ≡ most = ap (max dl.aggregate_align) lists.1 ∙ omega arith in
        let whole : layout.align.abi ≡ most = ap (λ (l : Layout). l.align.abi) b.is ∙ aligned in
        let sized : layout.size ≡ next_multiple_of large (2 ^ most) = ap (λ (l : Layout). l.size) b.is ∙ ap₂ (λ n a. next_multiple_of n (2 ^ a)) lists.0 aligned in
        let rounded : IsLeastMultiple most width (next_multiple_of large (2 ^ most)) =
        through most most width large (next_multiple_of large (2 ^ most)) (omega arith)
        (through own most width up large (omega arith) (rounded_up own width) (rounded_up most up)) (rounded_up most large) in
        record {
          integer = b.asked;
          is = integer_is (n ∷ ns) (empties (n ∷ ns)) b.asked b.signed fits b.for;
          aligned = whole;
          rounded = subst (λ a. IsLeastMultiple a width layout.size) (sym whole) (subst (IsLeastMultiple most width) (sym sized) rounded);
        }

    calculated : (n : ℕ) (ns : List ℕ) (layout : Layout) → list_all (is_discriminant dl repr) (n ∷ ns) ≡ true →
        IsEnumed dl repr (n ∷ ns) (empties (n ∷ ns)) (Ok layout) → LiesAsEnumInC dl (map (signed_value 128) (n ∷ ns)) layout.size layout.align.abi
    calculated n ns layout fits h =
        let free = not_free repr c in
        behind n ns layout fits (tagged_by dl repr (n ∷ ns) (empties (n ∷ ns)) layout free
        (subst (λ (strategy : EnumStrategy). IsTypeAnswer layout_of (λ i. i) (λ i. i) (λ i. i) (λ i. i) dl repr (empties (n ∷ ns)) true true Enabled (IsTagIntegerAnswer dl repr)
        (λ items. items ≡ numbered_from 0 (n ∷ ns)) strategy (Ok layout)) (is_several repr [] (empties ns) free) h))

-- ---- the enum

-- the layout is that of the whole
layout_is : (dl : TargetDataLayout) (repr : ReprOptions) (ns : List ℕ) (vs : List (List Placed)) (layout : Layout) (variants : LayoutVariants ℕ ℕ) →
    layout_of (placed_variants dl repr ns vs layout variants) ≡ layout
layout_is dl repr ns vs layout Empty = refl
layout_is dl repr ns vs layout _ = refl

-- The enum's layout, as the calculator answers it.
record IsEnumLaid (dl : TargetDataLayout) (repr : ReprOptions) (ns : List ℕ) (placed : Placed) : Type 0 where
  pub layout : Layout
  pub is : layout_of placed ≡ layout
  pub fits : list_all (is_discriminant dl repr) ns ≡ true
  pub answered : IsEnumed dl repr ns (empties ns) (Ok layout)

answered_by : (dl : TargetDataLayout) (repr : ReprOptions) (ns : List ℕ) (placed : Placed) (fault : Option LayError) → fault ≡ enum_fault dl repr ns (empties ns) →
    MatchOption fault (Follows (IsEnumed dl repr ns (empties ns)) (λ layout r. r ≡ Ok (placed_enum dl repr ns (empties ns) layout)) (Ok placed)) (λ e. Ok placed ≡ Err e) →
    IsEnumLaid dl repr ns placed
answered_by dl repr ns placed None none (inl h) = absurd (no_error placed h.0 h.2)
answered_by dl repr ns placed None none (inr (layout, answer, is)) = record {
  layout = layout;
  is = ap layout_of (inj-Ok placed (placed_enum dl repr ns (empties ns) layout) is) ∙ layout_is dl repr ns (empties ns) layout layout.variants;
  fits = fitting (has_bad_index (empties ns)) (has_bad_align repr) (has_equal ns) (list_all (is_discriminant dl repr) ns) (sym none);
  answered = answer;
}
answered_by dl repr ns placed (Some e) some h = absurd (no_error placed e h)

enum_laid : (dl : TargetDataLayout) (repr : ReprOptions) (ns : List ℕ) (placed : Placed) → IsLaying dl (enum repr (without_fields ns)) (Ok placed) → IsEnumLaid dl repr ns placed
enum_laid dl repr ns placed (inl h) = absurd (no_error placed h.0 h.2)
enum_laid dl repr ns placed (inr (vs, are, answer)) =
    let numbers = numbers_are ns in
    let variants = no_fields dl ns vs are in
    let own = subst (λ ms. MatchOption (enum_fault dl repr ms vs) (Follows (IsEnumed dl repr ms vs) (λ layout r. r ≡ Ok (placed_enum dl repr ms vs layout)) (Ok placed)) (λ e. Ok placed ≡ Err e)) numbers answer in
    let tag_distinguishes = subst (λ ws. MatchOption (enum_fault dl repr ns ws) (Follows (IsEnumed dl repr ns ws) (λ layout r. r ≡ Ok (placed_enum dl repr ns ws layout)) (Ok placed)) (λ e. Ok placed ≡ Err e)) variants own in
    answered_by dl repr ns placed (enum_fault dl repr ns (empties ns)) refl tag_distinguishes

-- an enum under such a repr is as large as in C
pub enum_in_c : (dl : TargetDataLayout) (tree : Tree) (ns : List ℕ) → IsEnumInC tree ns → 0 < length ns → (size align : ℕ) → HasExtent dl tree size align →
    LiesAsEnumInC dl (map (signed_value 128) ns) size align
enum_in_c dl tree [] in_c some size align h = absurd (omega arith)
enum_in_c dl tree (n ∷ ns) (repr, is, c, unnamed, loose, unraised) some size align (law, placed, laid, sized, aligned) =
    let e = enum_laid dl repr (n ∷ ns) placed (subst (λ t. IsLaying dl t (Ok placed)) is laid) in
    let lies = calculated dl law repr c unnamed loose unraised n ns e.layout e.fits e.answered in
    let size_is : e.layout.size ≡ size = ap (λ (l : Layout). l.size) (sym e.is) ∙ sized in
    let align_is : e.layout.align.abi ≡ align = ap (λ (l : Layout). l.align.abi) (sym e.is) ∙ aligned in
    subst (λ a. LiesAsEnumInC dl (map (signed_value 128) (n ∷ ns)) size a) align_is (subst (λ s. LiesAsEnumInC dl (map (signed_value 128) (n ∷ ns)) s e.layout.align.abi) size_is lies)
