-- An enum whose discriminants ask for a tag of four bytes: it has that under `align(2)`, and lies in a niche without.
use Rattle.std.proofs.Common.{◌≡◌, ℕ, ◌^◌, ◌≤◌, Bool, true, false, List, [], ◌∷◌, Option, None, Some, refl, sym, ap, ap₂, ◌∙◌, subst, arith, inl, inr, ⊎_elim, Ok}
use Rattle.std.specs.Prelude.{◌⊎◌, ◌+◌, ◌<◌, ◌||◌, ◌≤ℤ◌, All, max, nat_le, unwrap_or, ℤ, pos, if◌then◌else◌}
use Rattle.std.specs.Int.{next_multiple_of}
use Rattle.std.proofs.lemmas.List.Elements.{All-cons, All-contains, All-head, All-nil, All-tail}
use Rattle.abi_base.specs.declared.struct_kind.StructKind.TheVariants.{AlwaysSized}
use Rattle.abi_base.specs.DataLayout.{default_data_layout}
use Rattle.abi_base.specs.declared.integer.Integer.{Integer}
use Rattle.abi_base.specs.declared.integer.Integer.TheVariants.{I8, I32}
use Rattle.abi_base.specs.declared.primitive.Primitive.TheVariants.{Int}
use Rattle.abi_base.specs.Integer.{integer_align}
use Rattle.abi_scalar.specs.declared.niche.Niche.{Niche as FreeNumbers}
use Rattle.abi_scalar.specs.declared.repr.ReprOptions.{ReprOptions}
use Rattle.abi_scalar.specs.declared.scalar.Scalar.{Scalar}
use Rattle.abi_scalar.specs.declared.scalar.Scalar.TheVariants.{Initialized}
use Rattle.abi_scalar.specs.declared.variants.VariantLayout.{VariantLayout}
use Rattle.abi_scalar.specs.Range.{full_range}
use Rattle.abi_scalar.specs.Variant.{variant_of}
use Rattle.abi_univariant.specs.Array.{elements_layout}
use Rattle.abi_univariant.specs.Fields.{greatest}
use Rattle.abi_univariant.specs.List.{IsUnivariantAnswer}
use Rattle.abi_univariant.specs.ListNiche.{niche_of_part}
use Rattle.abi_univariant.specs.Placement.{cut, own_align, prefix_align}
use Rattle.abi_calc.specs.Coroutine.Lists.{default_repr}
use Rattle.abi_calc.specs.Enums.Choice.{IsNicheAnswer, preferred_layout}
use Rattle.abi_calc.specs.Enums.Discriminants.{IsAskedWith, counted_discriminants}
use Rattle.abi_calc.specs.Enums.Lists.{AreListLayouts, behind_tag}
use Rattle.abi_calc.specs.Enums.Niche.{beside_niche, if_niche, if_placed, if_span, needing_numbers, niche_layout, room_beside, span_of, untagged_of, with_first}
use Rattle.abi_calc.specs.Enums.Several.{IsAskedFor}
use Rattle.abi_calc.specs.Enums.Tagged.{lists_size}
use Rattle.abi_tree.specs.Placed.{Placed, layout_of, elements}
use Rattle.abi_scalar.specs.Layout.{Layout}
use Rattle.abi_tree.specs.Tree.{no_trees, more_trees, Variants, no_variants, more_variants, enum, array, scalar as number_type}
use Rattle.rustc_abi.specs.Enums.{IsEnumed, IsTagIntegerAnswer as IsAsking, layouts_of, numbered_from, tag_integer}
use Rattle.rustc_abi.specs.Laying.{IsLaying, VariantsLaying, elements_answer, enum_fault, one_scalar, placed_enum}
use Rattle.guarantees.specs.Reference.Words.{align_in_bytes}
use Rattle.guarantees.specs.Reference.Transparent.{others}
use Rattle.guarantees.proofs.ReferenceLemmas.AlignFree.{whole_align}
use Rattle.guarantees.proofs.ReferenceLemmas.Answers.{inj-Ok, laid_by}
use Rattle.guarantees.proofs.ReferenceLemmas.Lone.{lone_list, no_lone_error}
use Rattle.guarantees.proofs.ReferenceLemmas.Several.{larger_behind, niche_taken, several_is, two_tagged}

abbrev flag : Scalar
flag = Initialized (Int I8 false) (record { start = 0; end = 1 })

abbrev byte : Scalar
byte = Initialized (Int I8 false) (full_range 1)

-- a byte, or two `bool`, whose discriminant has more than 16 bits
abbrev pub wide : Variants
wide =
    more_variants 0 (more_trees (number_type byte) no_trees) (more_variants 65536 (more_trees (array 2 (number_type flag)) no_trees) no_variants)

abbrev pub halved : ReprOptions
halved = record default_repr { align = Some 1 }

abbrev a_byte : Placed
a_byte = one_scalar default_data_layout byte

abbrev flags : Placed
flags = elements (elements_layout 0 true 2 (layout_of (one_scalar default_data_layout flag))) 2 (one_scalar default_data_layout flag)

abbrev beside_byte : List (List Placed)
beside_byte = (a_byte ∷ []) ∷ (flags ∷ []) ∷ []

flags_are : (p : Placed) → IsLaying default_data_layout (array 2 (number_type flag)) (Ok p) → p ≡ flags
flags_are p (inl f) = absurd (cc f.2)
flags_are p (inr (q, here, e)) =
    let one : q ≡ one_scalar default_data_layout flag = inj-Ok q (one_scalar default_data_layout flag) here in
    inj-Ok p flags (subst (λ x. Ok p ≡ elements_answer default_data_layout 2 x) one e)

wide_are : (variants : List (List Placed)) → VariantsLaying default_data_layout wide (Ok variants) → variants ≡ beside_byte
wide_are variants (inl f) = absurd (cc f.2)
wide_are variants (inr (ps, inl f, rest)) = absurd (cc f.2)
wide_are variants (inr (ps, inr (p, here, inl f), rest)) = absurd (cc f.2)
wide_are variants (inr (ps, inr (p, here, inr (none, end, is)), inl f)) = absurd (cc f.2)
wide_are variants (inr (ps, inr (p, here, inr (none, end, is)), inr (others, inl f, e))) = absurd (cc f.2)
wide_are variants (inr (ps, inr (p, here, inr (none, end, is)), inr (others, inr (qs, inl f, more), e))) = absurd (cc f.2)
wide_are variants (inr (ps, inr (p, here, inr (none, end, is)), inr (others, inr (qs, inr (q, there, inl f), more), e))) = absurd (cc f.2)
wide_are variants (inr (ps, inr (p, here, inr (none, end, is)), inr (others, inr (qs, inr (q, there, inr (last, final, that)), inl f), e))) = absurd (cc f.2)
wide_are variants (inr (ps, inr (p, here, inr (none, end, is)), inr (others, inr (qs, inr (q, there, inr (last, final, that)), inr (nothing, behind, it)), e))) =
    let first : p ≡ a_byte = inj-Ok p a_byte here in
    let second : q ≡ flags = flags_are q there in
    cc

-- the free numbers of the first `bool`
abbrev free_numbers : FreeNumbers
free_numbers = record { offset = 0; value = Int I8 false; valid_range = record { start = 0; end = 1 } }

-- what is known of both lists
pub record AreTwoLists (repr : ReprOptions) (first second align : ℕ) (a b : Layout) : Type 0 where
  pub first_size : a.size ≡ first
  pub first_align : a.align.abi ≡ align
  pub second_size : b.size ≡ second
  pub second_align : b.align.abi ≡ align
  pub niche : b.largest_niche ≡ Some free_numbers

abbrev IsListOf : ReprOptions → Placed → Layout → Type 0
IsListOf repr p l = IsUnivariantAnswer layout_of (λ i. i) 0 default_data_layout repr AlwaysSized (p ∷ []) (Ok l)

-- the alignment of a list of fields that are aligned to a byte
abbrev list_exponent : ReprOptions → ℕ
list_exponent repr = max (max (max (own_align default_data_layout repr) (unwrap_or repr.align 0)) (prefix_align repr.pack AlwaysSized)) (cut repr.pack 0)

two_lists : (repr : ReprOptions) (first align : ℕ) (a b : Layout) → repr.pack ≡ None → list_exponent repr ≡ align → next_multiple_of 1 (2 ^ align) ≡ first
    → next_multiple_of 2 (2 ^ align) ≡ 2 → IsListOf repr a_byte a → IsListOf repr flags b → AreTwoLists repr first 2 align a b
two_lists repr first align a b loose exponent one two h k =
    let la = lone_list default_data_layout repr AlwaysSized tt a_byte a h in
    let lb = lone_list default_data_layout repr AlwaysSized tt flags b k in
    let at : next_multiple_of 0 (2 ^ cut repr.pack 0) ≡ 0 = ap (λ (pack : Option ℕ). next_multiple_of 0 (2 ^ cut pack 0)) loose in
    record {
      first_size = la.size ∙ ap₂ (λ o e. next_multiple_of (o + 1) (2 ^ e)) (la.at ∙ at) (la.align ∙ exponent) ∙ one;
      first_align = la.align ∙ exponent;
      second_size = lb.size ∙ ap₂ (λ o e. next_multiple_of (o + 2) (2 ^ e)) (lb.at ∙ at) (lb.align ∙ exponent) ∙ two;
      second_align = lb.align ∙ exponent;
      niche = lb.niche ∙ ap (λ o. niche_of_part o (Some free_numbers)) (lb.at ∙ at);
    }

refused : (before after : Bool) (x y : Option (VariantLayout ℕ)) → before ≡ false → after ≡ false → (if before then x else (if after then y else None)) ≡ None
refused false false x y e f = refl
refused false true x y e f = absurd (cc)
refused true after x y e f = absurd (cc)

placed_after : (before after : Bool) (x y : Option (VariantLayout ℕ)) → before ≡ false → after ≡ true → (if before then x else (if after then y else None)) ≡ y
placed_after false true x y e f = refl
placed_after false false x y e f = absurd (cc)
placed_after true after x y e f = absurd (cc)

-- the answer beside the niche, as far as the room for the first variant
beside_first : (repr : ReprOptions) (first align : ℕ) (a b : Layout) → AreTwoLists repr first 2 align a b → nat_le first 2 ≡ true
    → niche_layout 0 (λ i. i) default_data_layout repr (layouts_of beside_byte) (a ∷ b ∷ [])
    ≡ if_placed 0 (λ i. i) default_data_layout repr 1 (0, 0) (a ∷ b ∷ []) b free_numbers
    (with_first (beside_niche (room_beside default_data_layout free_numbers (a ∷ b ∷ [])) a.align.abi (variant_of a)) (Some (variant_of b ∷ [])))
beside_first repr first align a b h low =
    let lists : List Layout = a ∷ b ∷ [] in
    let last : untagged_of lists ≡ 1 =
    ap₂ (λ m n. if (nat_le m n || false) then 1 else 0) h.first_size h.second_size ∙ ap (λ c. if (c || false) then 1 else 0) low in
    ap (λ u. if_span 0 (λ i. i) default_data_layout repr u lists (span_of (needing_numbers u (layouts_of beside_byte)))) last
    ∙ ap (if_niche 0 (λ i. i) default_data_layout repr 1 (0, 0) lists b) h.niche

-- where both have two bytes there is none
no_room : (a b : Layout) → AreTwoLists halved 2 2 1 a b → niche_layout 0 (λ i. i) default_data_layout halved (layouts_of beside_byte) (a ∷ b ∷ []) ≡ None
no_room a b h =
    let lists : List Layout = a ∷ b ∷ [] in
    let after : nat_le (next_multiple_of 1 (2 ^ a.align.abi) + a.size) (lists_size default_data_layout lists) ≡ false =
    ap₂ (λ n e. nat_le (next_multiple_of 1 (2 ^ e) + n) (next_multiple_of (max n (max b.size 0)) (2 ^ max 0 (max e (max b.align.abi 0))))) h.first_size h.first_align
    ∙ ap₂ (λ n e. nat_le (next_multiple_of 1 (2 ^ 1) + 2) (next_multiple_of (max 2 (max n 0)) (2 ^ max 0 (max 1 (max e 0))))) h.second_size h.second_align in
    beside_first halved 2 1 a b h refl
    ∙ ap (λ v. if_placed 0 (λ i. i) default_data_layout halved 1 (0, 0) lists b free_numbers (with_first v (Some (variant_of b ∷ []))))
    (refused (nat_le a.size 0) (nat_le (next_multiple_of 1 (2 ^ a.align.abi) + a.size) (lists_size default_data_layout lists)) _ _ (ap (λ n. nat_le n 0) h.first_size) after)

-- what the enum is where there is
abbrev IsInBool : Option Layout → Type 0
IsInBool found = (n : Layout) × (found ≡ Some n) × (n.size ≡ 2) × (n.align.abi ≡ 0)

room : (a b : Layout) → AreTwoLists default_repr 1 2 0 a b → IsInBool (niche_layout 0 (λ i. i) default_data_layout default_repr (layouts_of beside_byte) (a ∷ b ∷ []))
room a b h =
    let lists : List Layout = a ∷ b ∷ [] in
    let whole : lists_size default_data_layout lists ≡ 2 =
    ap₂ (λ n e. next_multiple_of (max n (max b.size 0)) (2 ^ max 0 (max e (max b.align.abi 0)))) h.first_size h.first_align
    ∙ ap₂ (λ n e. next_multiple_of (max 1 (max n 0)) (2 ^ max 0 (max 0 (max e 0)))) h.second_size h.second_align in
    let after : nat_le (next_multiple_of 1 (2 ^ a.align.abi) + a.size) (lists_size default_data_layout lists) ≡ true =
    ap₂ (λ n e. nat_le (next_multiple_of 1 (2 ^ e) + n) (lists_size default_data_layout lists)) h.first_size h.first_align
    ∙ ap (nat_le (next_multiple_of 1 (2 ^ 0) + 1)) whole in (
      _,
      beside_first default_repr 1 0 a b h refl
          ∙ ap (λ v. if_placed 0 (λ i. i) default_data_layout default_repr 1 (0, 0) lists b free_numbers (with_first v (Some (variant_of b ∷ []))))
          (placed_after (nat_le a.size 0) (nat_le (next_multiple_of 1 (2 ^ a.align.abi) + a.size) (lists_size default_data_layout lists)) _ _ (ap (λ n. nat_le n 0) h.first_size) after),
      whole,
      ap₂ (λ m n. max 0 (max m (max n 0))) h.first_align h.second_align,
    )

halved_niche : (found : Option Layout) → IsNicheAnswer AreListLayouts layout_of (λ i. i) (λ i. i) default_data_layout halved beside_byte found → found ≡ None
halved_niche found (inl h) = h.1
halved_niche found (inr (inl h)) = h.3
halved_niche found (inr (inr (free, [], are, is))) = absurd are
halved_niche found (inr (inr (free, a ∷ [], are, is))) = absurd are.1
halved_niche found (inr (inr (free, a ∷ b ∷ c ∷ more, are, is))) = absurd are.1.1
halved_niche found (inr (inr (free, a ∷ b ∷ [], are, is))) = is ∙ no_room a b (two_lists halved 2 1 a b refl refl refl refl are.0 are.1.0)

plain_niche : (found : Option Layout) → IsNicheAnswer AreListLayouts layout_of (λ i. i) (λ i. i) default_data_layout default_repr beside_byte found → IsInBool found
plain_niche found (inl h) = absurd (let no : true ≡ false = h.0 in cc)
plain_niche found (inr (inl (free, error, inl first, none))) = absurd (no_lone_error default_data_layout default_repr a_byte error refl first)
plain_niche found (inr (inl (free, error, inr (list, is, inl second), none))) = absurd (no_lone_error default_data_layout default_repr flags error refl second)
plain_niche found (inr (inl (free, error, inr (list, is, inr third), none))) = absurd third.2
plain_niche found (inr (inr (free, [], are, is))) = absurd are
plain_niche found (inr (inr (free, a ∷ [], are, is))) = absurd are.1
plain_niche found (inr (inr (free, a ∷ b ∷ c ∷ more, are, is))) = absurd are.1.1
plain_niche found (inr (inr (free, a ∷ b ∷ [], are, is))) = subst IsInBool (sym is) (room a b (two_lists default_repr 1 0 a b refl refl refl refl are.0 are.1.0))

abbrev wide_numbers : List ℕ
wide_numbers = 0 ∷ 65536 ∷ []

-- one of both discriminants
abbrev IsWide : ℤ → Type 0
IsWide z = (z ≡ pos 0) ⊎ (z ≡ pos 65536)

no_less : pos 65536 ≤ℤ pos 0 → ⊥
no_less h = h.le

most_wide : (n : ℕ) → IsWide (pos n) → pos 65536 ≤ℤ pos n → n ≡ 65536
most_wide n (inl none) most = absurd (no_less (subst (λ z. pos 65536 ≤ℤ z) none most))
most_wide n (inr all) most = cc

wide_integer : (least : ℤ) (greatest : ℕ) → IsAskedWith default_data_layout halved wide_numbers least greatest
    → (tag_integer default_data_layout halved least greatest).0 ≡ I32
wide_integer least greatest with =
    let zs : List ℤ = pos 0 ∷ pos 0 ∷ pos 65536 ∷ [] in
    let all : All IsWide zs =
    All-cons IsWide (pos 0) (pos 0 ∷ pos 65536 ∷ []) (inl refl)
    (All-cons IsWide (pos 0) (pos 65536 ∷ []) (inl refl) (All-cons IsWide (pos 65536) [] (inr refl) (All-nil IsWide))) in
    let below : ℤ → Type 0 = λ z. z ≤ℤ pos greatest in
    let most : greatest ≡ 65536 =
    most_wide greatest (All-contains IsWide zs (pos greatest) all with.1.0)
    (All-head below (pos 65536) [] (All-tail below (pos 0) (pos 65536 ∷ []) (All-tail below (pos 0) (pos 0 ∷ pos 65536 ∷ []) with.1.1))) in
    ap (λ n. (tag_integer default_data_layout halved least n).0) most
    ∙ ⊎_elim (λ (e : least ≡ pos 0). ap (λ z. (tag_integer default_data_layout halved z 65536).0) e)
    (λ (e : least ≡ pos 65536). ap (λ z. (tag_integer default_data_layout halved z 65536).0) e) (All-contains IsWide zs least all with.0.0)

-- the tag has four bytes, since 65536 is no number of two
four_asked : (items : List (ℕ × ℕ)) (asked : Integer) (signed : Bool) → items ≡ numbered_from 0 wide_numbers
    → IsAskedFor default_data_layout halved (IsAsking default_data_layout halved) (counted_discriminants (λ v. v) halved (layouts_of beside_byte) items) asked signed → asked ≡ I32
four_asked items asked signed are for =
    let own = subst (λ its. IsAskedFor default_data_layout halved (IsAsking default_data_layout halved) (counted_discriminants (λ v. v) halved (layouts_of beside_byte) its) asked signed) are for in
    ap (λ (x : Integer × Bool). x.0) own.3 ∙ wide_integer own.0 own.1 own.2

abbrev IsSeveralOf : ReprOptions → Layout → Type 0
IsSeveralOf repr layout = IsEnumed default_data_layout repr wide_numbers beside_byte (Ok layout)

-- with `align(2)` it is aligned as its tag is
pub halved_align : (layout : Layout) → IsSeveralOf halved layout → 2 ≤ layout.align.abi
halved_align layout h =
    let b = several_is default_data_layout halved wide_numbers beside_byte layout h in
    let t = two_tagged default_data_layout halved _ (a_byte ∷ []) (flags ∷ []) b.tagged b.asked in
    let is : layout ≡ b.tagged = b.is ∙ ap (preferred_layout default_data_layout b.tagged) (halved_niche b.niche b.beside) in
    let asked : t.asked ≡ I32 = four_asked b.items t.asked t.signed b.are t.for in
    let second = lone_list default_data_layout halved (behind_tag default_data_layout halved t.asked (layouts_of beside_byte)) tt flags t.second t.second_is in
    let tag : integer_align default_data_layout t.asked ≡ 2 = ap (integer_align default_data_layout) asked in
    let own : t.second.align.abi ≡ max (max 1 (integer_align default_data_layout t.asked)) 0 = second.align in
    let whole : layout.align.abi ≡ max 0 (max t.first.align.abi (max t.second.align.abi 0)) = ap (λ (l : Layout). l.align.abi) is ∙ t.align in
    omega (arith, tag, own, whole)

-- by itself it lies in the first `bool`
pub plain_align : (layout : Layout) → IsSeveralOf default_repr layout → layout.align.abi ≡ 0
plain_align layout h =
    let b = several_is default_data_layout default_repr wide_numbers beside_byte layout h in
    let t = two_tagged default_data_layout default_repr _ (a_byte ∷ []) (flags ∷ []) b.tagged b.asked in
    let n = plain_niche b.niche b.beside in
    let behind : 2 < t.second.size = larger_behind default_data_layout default_repr t.asked (layouts_of beside_byte) flags t.second t.second_is in
    let less : n.0.size < b.tagged.size = omega (arith, behind, t.above, n.2) in
    let is : layout ≡ n.0 = b.is ∙ ap (preferred_layout default_data_layout b.tagged) n.1 ∙ niche_taken default_data_layout b.tagged n.0 less in
    ap (λ (l : Layout). l.align.abi) is ∙ n.3

pub wide_has : (repr : ReprOptions) (P : ℕ → Type 0) → ((layout : Layout) → IsSeveralOf repr layout → P layout.align.abi)
    → (p : Placed) → IsLaying default_data_layout (enum repr wide) (Ok p) → (a : ℕ) × P a × (align_in_bytes p ≡ 2 ^ a)
wide_has repr P each p (inl f) = absurd (cc f.2)
wide_has repr P each p (inr (variants, there, answer)) =
    let found = laid_by (enum_fault default_data_layout repr wide_numbers variants) (IsEnumed default_data_layout repr wide_numbers variants)
    (placed_enum default_data_layout repr wide_numbers variants) p answer in
    let own : IsSeveralOf repr found.0 =
    subst (λ vs. IsEnumed default_data_layout repr wide_numbers vs (Ok found.0)) (wide_are variants there) found.1 in
    (found.0.align.abi, each found.0 own, ap align_in_bytes (sym found.2) ∙ whole_align default_data_layout repr wide_numbers variants found.0 found.0.variants)
