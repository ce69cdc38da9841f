-- Enums under `align(n)`, beside structs under it around the same enums without it.
use Rattle.std.proofs.Common.{◌≡◌, ℕ, ◌+◌, ◌^◌, ◌<◌, Bool, true, false, List, [], ◌∷◌, Option, None, Some, length, map, sym, ap, ap₂, ◌∙◌, subst, arith, inl, inr, Ok, Result}
use Rattle.std.specs.Prelude.{⊤, max, is_some, unwrap_or, ℤ, pos, ◌≤ℤ◌, if◌then◌else◌}
use Rattle.std.proofs.lemmas.Int.{ints}
use Rattle.std.proofs.lemmas.List.Elements.{All-contains}
use Rattle.std.proofs.lemmas.Nat.{pow_pos}
use Rattle.abi_base.specs.declared.data_layout.TargetDataLayout.{TargetDataLayout}
use Rattle.abi_base.specs.declared.integer.Integer.{Integer}
use Rattle.abi_base.specs.declared.niche_optimizations.NicheOptimizations.TheVariants.{Enabled}
use Rattle.abi_base.specs.Integer.{integer_size}
use Rattle.abi_scalar.specs.declared.repr.ReprOptions.{ReprOptions}
use Rattle.abi_base.specs.declared.primitive.Primitive.TheVariants.{Int}
use Rattle.abi_scalar.specs.declared.scalar.Scalar.TheVariants.{Initialized}
use Rattle.abi_scalar.specs.declared.variants.VariantLayout.{VariantLayout}
use Rattle.abi_scalar.specs.Repr.{has_fixed_order}
use Rattle.abi_univariant.specs.Fields.{greatest}
use Rattle.abi_univariant.specs.Placement.{own_align, prefix_align, start_of}
use Rattle.abi_calc.specs.declared.enums.strategy.EnumStrategy.{EnumStrategy}
use Rattle.abi_calc.specs.Enums.Answer.{IsTypeAnswer}
use Rattle.abi_calc.specs.Enums.Discriminants.{IsAskedWith, meant_by}
use Rattle.abi_calc.specs.Enums.Lists.{behind_tag}
use Rattle.abi_calc.specs.Enums.EnumStrategy.{is_free}
use Rattle.abi_calc.specs.Enums.Tagged.{layout_with_view, lists_size}
use Rattle.abi_tree.specs.declared.mark.Mark.{Mark}
use Rattle.abi_tree.specs.Mark.{mark_of}
use Rattle.abi_tree.specs.Placed.{Placed, layout_of}
use Rattle.abi_scalar.specs.Layout.{Layout}
use Rattle.abi_tree.specs.Tree.{Tree, Trees, no_trees, more_trees, Variants, no_variants, more_variants, struct, enum}
use Rattle.rustc_abi.specs.declared.error.LayError.{LayError}
use Rattle.rustc_abi.specs.Enums.{IsEnumed, IsTagIntegerAnswer as IsAsking, tagged_variants_at, counted, discriminants_of, layouts_of, numbered_from, tag_integer}
use Rattle.rustc_abi.specs.Everywhere.{OfTaggedVariants, Within}
use Rattle.rustc_abi.specs.Laying.{AreLaying, IsLaying, VariantsLaying, enum_fault, placed_enum}
use Rattle.guarantees.specs.Reference.Words.{align_in_bytes, extent_of, most_aligned}
use Rattle.guarantees.specs.Reference.Modifiers.{IsForeign, unaligned}
use Rattle.guarantees.proofs.ReferenceLemmas.Answers.{laid_by}
use Rattle.guarantees.proofs.ReferenceLemmas.CEnums.{c_is_asked}
use Rattle.guarantees.proofs.ReferenceLemmas.EnumLists.{AreListsFrom, IsTaggedBehind, LieFrom, is_several, lie_from, lists_are, none_left, seen_from, tagged_by}
use Rattle.guarantees.proofs.ReferenceLemmas.Everywhere.{IsOnly, same_fields}
use Rattle.guarantees.proofs.ReferenceLemmas.Lists.{c_is_fixed, extents_for, pow_max}
use Rattle.guarantees.proofs.ReferenceLemmas.Over.{least_align, struct_laid}
use Rattle.guarantees.proofs.ReferenceLemmas.PrimitiveEnums.{named_is_asked, named_is_fixed}
use Rattle.guarantees.proofs.ReferenceLemmas.Variants.{several_above}

-- ---- the repr

foreign_is_asked : (repr : ReprOptions) → IsForeign repr → is_free repr ≡ false
foreign_is_asked repr (inl c) = c_is_asked repr c
foreign_is_asked repr (inr some) = named_is_asked repr some

foreign_is_fixed : (repr : ReprOptions) → IsForeign repr → has_fixed_order repr ≡ true
foreign_is_fixed repr (inl c) = c_is_fixed repr c
foreign_is_fixed repr (inr some) = named_is_fixed repr some

-- ---- one integer is asked for

both_ways : (a b : ℤ) → a ≤ℤ b → b ≤ℤ a → a ≡ b
both_ways a b up down = omega (arith, ints)

naturals : (m n : ℕ) → pos m ≡ pos n → m ≡ n
naturals m n e = cc

one_asked : (dl : TargetDataLayout) (repr : ReprOptions) (values : List ℕ) (least other : ℤ) (greatest more : ℕ) → IsAskedWith dl repr values least greatest
    → IsAskedWith dl repr values other more → (least ≡ other) × (greatest ≡ more)
one_asked dl repr values least other greatest more h k =
    let zs : List ℤ = pos 0 ∷ map (meant_by dl repr) values in (
      both_ways least other (All-contains (λ n. least ≤ℤ n) zs other h.0.1 k.0.0) (All-contains (λ n. other ≤ℤ n) zs least k.0.1 h.0.0),
      naturals greatest more (both_ways (pos greatest) (pos more) (All-contains (λ n. n ≤ℤ pos more) zs (pos greatest) k.1.1 h.1.0)
          (All-contains (λ n. n ≤ℤ pos greatest) zs (pos more) h.1.1 k.1.0)),
    )

-- ---- the greatest of the lists' alignments

-- that of the variants' fields; 1 where there is none
abbrev pub most_of : List (List Placed) → ℕ
most_of [] = 1
most_of (ps ∷ variants) = max (most_aligned (map extent_of ps)) (most_of variants)

module _ (dl : TargetDataLayout) (repr : ReprOptions) (loose : repr.pack ≡ None) (from before : ℕ) where
  abbrev first_align : ℕ
  first_align = max (max (own_align dl repr) (unwrap_or repr.align 0)) before

  lists_most : (v : List Placed) (vs : List (List Placed)) (lists : List Layout) → AreListsFrom dl repr from before (v ∷ vs) lists
      → 2 ^ greatest (map (λ (f : Layout). f.align.abi) lists) ≡ max (2 ^ first_align) (most_of (v ∷ vs))
  lists_most v vs [] h = absurd h
  lists_most v [] (l ∷ m ∷ lists) h = absurd h.1
  lists_most v [] (l ∷ []) h =
      let own : most_aligned (extents_for repr.pack v) ≡ most_aligned (map extent_of v) = ap (λ pack. most_aligned (extents_for pack v)) loose in
      let one : 2 ^ max l.align.abi 0 ≡ max (2 ^ l.align.abi) 1 = pow_max l.align.abi 0 in
      let is : 2 ^ l.align.abi ≡ max (2 ^ first_align) (most_aligned (extents_for repr.pack v)) = h.0.align in
      omega arith
  lists_most v (x ∷ xs) (l ∷ lists) h =
      let own : most_aligned (extents_for repr.pack v) ≡ most_aligned (map extent_of v) = ap (λ pack. most_aligned (extents_for pack v)) loose in
      let rest : ℕ = greatest (map (λ (f : Layout). f.align.abi) lists) in
      let both : 2 ^ max l.align.abi rest ≡ max (2 ^ l.align.abi) (2 ^ rest) = pow_max l.align.abi rest in
      let is : 2 ^ l.align.abi ≡ max (2 ^ first_align) (most_aligned (extents_for repr.pack v)) = h.0.align in
      let more : 2 ^ rest ≡ max (2 ^ first_align) (most_of (x ∷ xs)) = lists_most x xs lists h.1 in
      omega arith

-- ---- as many offsets as fields

abbrev pub HaveCounts : List (VariantLayout ℕ) → List (List Placed) → Type 0
HaveCounts [] [] = ⊤
HaveCounts (l ∷ layouts) (ps ∷ variants) = (length l.field_offsets ≡ length ps) × HaveCounts layouts variants
HaveCounts _ _ = ⊥

counts_of : (from : ℕ) (layouts : List (VariantLayout ℕ)) (variants : List (List Placed)) → LieFrom from layouts variants → HaveCounts layouts variants
counts_of from [] [] lie = tt
counts_of from [] (ps ∷ variants) lie = absurd lie
counts_of from (l ∷ layouts) [] lie = absurd lie
counts_of from (l ∷ layouts) (ps ∷ variants) lie = (lie.0, counts_of from layouts variants lie.2)

-- ---- numbers

pub behind_two : (y b m : ℕ) → max (max y b) m ≡ max y (max b m)
behind_two y b m = omega arith

pub raised_alike : (a n x : ℕ) → max a (max (max a n) x) ≡ max (max a n) (max a x)
raised_alike a n x = omega arith

pub twice : (a x : ℕ) → max a (max a x) ≡ max a x
twice a x = omega arith

joined : (a n b m : ℕ) → 0 < a → max a (max (max (max a n) b) m) ≡ max (max a n) (max a (max (max (max a 1) b) m))
joined a n b m some =
    let one : max a 1 ≡ a = omega arith in
    ap (max a) (behind_two (max a n) b m) ∙ raised_alike a n (max b m)
    ∙ ap (max (max a n)) (sym (ap (λ k. max a (max (max k b) m)) one ∙ ap (max a) (behind_two a b m) ∙ twice a (max b m)))

-- ---- an enum behind its tag

-- An enum with a variant that isn't free, as it was laid out.
record IsBehind (dl : TargetDataLayout) (repr : ReprOptions) (all : Variants) (p : Placed) : Type 0 where
  pub first : List Placed
  pub others : List (List Placed)
  pub layout : Layout
  pub there : VariantsLaying dl all (Ok (first ∷ others))
  pub behind : IsTaggedBehind dl repr (discriminants_of all) (first ∷ others) layout
  pub is : placed_enum dl repr (discriminants_of all) (first ∷ others) layout ≡ p
  pub loose : repr.pack ≡ None

module _ (dl : TargetDataLayout) where
  behind_by : (repr : ReprOptions) (d : ℕ) (ts : Trees) (rest : Variants) (variants : List (List Placed)) (layout : Layout) (p : Placed) → is_free repr ≡ false
      → VariantsLaying dl (more_variants d ts rest) (Ok variants) → IsEnumed dl repr (discriminants_of (more_variants d ts rest)) variants (Ok layout)
      → placed_enum dl repr (discriminants_of (more_variants d ts rest)) variants layout ≡ p → IsBehind dl repr (more_variants d ts rest) p
  behind_by repr d ts rest [] layout p asked there h is =
      absurd (let none : more_variants d ts rest ≡ no_variants = none_left dl (more_variants d ts rest) there in cc)
  behind_by repr d ts rest (v ∷ vs) layout p asked there h is =
      let numbers = discriminants_of (more_variants d ts rest) in
      let answer = subst (λ (strategy : EnumStrategy). IsTypeAnswer layout_of (λ i. i) (λ i. i) (λ i. i) (λ i. i) dl repr (v ∷ vs) true true Enabled (IsAsking dl repr)
      (λ items. items ≡ numbered_from 0 numbers) strategy (Ok layout)) (is_several repr v vs asked) h in
      record {
        first = v;
        others = vs;
        layout = layout;
        there = there;
        behind = tagged_by dl repr numbers (v ∷ vs) layout asked answer;
        is = is;
        loose = (several_above dl repr numbers (v ∷ vs) layout answer).loose;
      }

  behind_of : (repr : ReprOptions) (d : ℕ) (ts : Trees) (rest : Variants) (p : Placed) → is_free repr ≡ false
      → IsLaying dl (enum repr (more_variants d ts rest)) (Ok p) → IsBehind dl repr (more_variants d ts rest) p
  behind_of repr d ts rest p asked (inl f) = absurd (cc f.2)
  behind_of repr d ts rest p asked (inr (variants, there, answer)) =
      let numbers = discriminants_of (more_variants d ts rest) in
      let found = laid_by (enum_fault dl repr numbers variants) (IsEnumed dl repr numbers variants) (placed_enum dl repr numbers variants) p answer in
      behind_by repr d ts rest variants found.0 p asked there found.1 found.2

  -- the alignment of what the fields lie behind
  abbrev tag_align_of : (repr : ReprOptions) (asked : Integer) → List (List Placed) → ℕ
  tag_align_of repr asked variants = prefix_align repr.pack (behind_tag dl repr asked (layouts_of variants))

  module _ (repr : ReprOptions) (all : Variants) (p : Placed) (fixed : has_fixed_order repr ≡ true) (h : IsBehind dl repr all p) where
    abbrev every : List (List Placed)
    every = h.first ∷ h.others

    lists_of : AreListsFrom dl repr (start_of repr.pack (behind_tag dl repr h.behind.asked (layouts_of every))) (tag_align_of repr h.behind.asked every) every h.behind.lists
    lists_of = lists_are dl repr (behind_tag dl repr h.behind.asked (layouts_of every)) every h.behind.lists fixed h.behind.are

    behind_aligned : align_in_bytes p ≡ max (2 ^ dl.aggregate_align) (max (2 ^ max (least_align dl repr) (tag_align_of repr h.behind.asked every)) (most_of every))
    behind_aligned =
        let most : ℕ = greatest (map (λ (f : Layout). f.align.abi) h.behind.lists) in
        let whole : align_in_bytes p ≡ 2 ^ max dl.aggregate_align most =
        ap align_in_bytes (sym h.is) ∙ ap (λ l. align_in_bytes (placed_enum dl repr (discriminants_of all) every l)) h.behind.is in
        whole ∙ pow_max dl.aggregate_align most
        ∙ ap (max (2 ^ dl.aggregate_align)) (lists_most dl repr h.loose _ _ h.first h.others h.behind.lists lists_of)

    -- ---- its fields have no other layouts

    abbrev layouts : List (VariantLayout ℕ)
    layouts = map (seen_from (integer_size h.behind.asked) h.behind.view (lists_size dl h.behind.lists)) h.behind.lists

  pub inj-variants : (a b : List (List Placed)) → ◌≡◌ {A = Result (List (List Placed)) LayError} (Ok a) (Ok b) → a ≡ b
  inj-variants a b e = cc

  pub same_variants : (whole : Layout) (mark : Mark) (i : ℕ) (all : Variants) (variants others : List (List Placed)) (layouts : List (VariantLayout ℕ))
      → HaveCounts layouts variants → VariantsLaying dl all (Ok variants)
      → OfTaggedVariants dl (IsOnly dl) all (tagged_variants_at whole mark i layouts (discriminants_of all) variants) → VariantsLaying dl all (Ok others) → others ≡ variants
  same_variants whole mark i no_variants variants others layouts lie are h k = inj-variants others variants (k ∙ sym are)
  same_variants whole mark i (more_variants d ts rest) variants others layouts lie (inl f) h k = absurd (cc f.2)
  same_variants whole mark i (more_variants d ts rest) variants others layouts lie (inr (ps, here, inl f)) h k = absurd (cc f.2)
  same_variants whole mark i (more_variants d ts rest) variants others layouts lie (inr (ps, here, inr (more, later, is))) h (inl f) = absurd (cc f.2)
  same_variants whole mark i (more_variants d ts rest) variants others layouts lie (inr (ps, here, inr (more, later, is))) h (inr (qs, there, inl f)) = absurd (cc f.2)
  same_variants whole mark i (more_variants d ts rest) [] others layouts lie (inr (ps, here, inr (more, later, is))) h (inr (qs, there, inr (last, after, that))) = absurd (cc)
  same_variants whole mark i (more_variants d ts rest) (xs ∷ variants) others [] lie (inr (ps, here, inr (more, later, is))) h (inr (qs, there, inr (last, after, that))) = absurd lie
  same_variants whole mark i (more_variants d ts rest) (xs ∷ variants) others (l ∷ layouts) lie (inr (ps, here, inr (more, later, is))) h (inr (qs, there, inr (last, after, that))) =
      let first : ps ≡ xs = cc in
      let tail : more ≡ variants = cc in
      let own : qs ≡ xs =
      same_fields dl (IsOnly dl) (λ t p one. one.0) ts l.field_offsets xs qs lie.0 (subst (λ zs. AreLaying dl ts (Ok zs)) first here) h.0 there in
      let rests : last ≡ variants =
      same_variants whole mark (i + 1) rest variants last layouts lie.1 (subst (λ zs. VariantsLaying dl rest (Ok zs)) tail later) h.1 after in
      inj-variants others (qs ∷ last) that ∙ ap₂ (λ (y : List Placed) (ys : List (List Placed)). y ∷ ys) own rests

  behind_same : (repr other : ReprOptions) (all : Variants) (p q : Placed) → has_fixed_order repr ≡ true → (h : IsBehind dl repr all p)
      → Within dl (IsOnly dl) (enum repr all) p → (k : IsBehind dl other all q) → k.first ∷ k.others ≡ h.first ∷ h.others
  behind_same repr other all p q fixed h inside k =
      let variants : List (List Placed) = h.first ∷ h.others in
      let b = h.behind in
      let from : ℕ = start_of repr.pack (behind_tag dl repr b.asked (layouts_of variants)) in
      let whole : Layout =
      layout_with_view 0 dl repr (integer_size b.asked) (Initialized (Int b.asked b.signed) b.range) (integer_size b.asked) b.lists b.view in
      let own : Within dl (IsOnly dl) (enum repr all) (placed_enum dl repr (discriminants_of all) variants h.layout) =
      subst (Within dl (IsOnly dl) (enum repr all)) (sym h.is) inside in
      let lie : LieFrom from (layouts repr all p fixed h) variants =
      lie_from dl repr from (tag_align_of repr b.asked variants) (integer_size b.asked) b.view (lists_size dl b.lists) variants b.lists h.loose (lists_of repr all p fixed h) in
      let seen = subst (λ l. Within dl (IsOnly dl) (enum repr all) (placed_enum dl repr (discriminants_of all) variants l)) b.is own in
      same_variants whole (mark_of true repr) 0 all variants (k.first ∷ k.others) (layouts repr all p fixed h) (counts_of from _ variants lie) h.there seen k.there

  -- ---- the rule

  foreign_raised : (repr : ReprOptions) (d : ℕ) (ts : Trees) (rest : Variants) (p q : Placed) (n : ℕ) → IsForeign repr → repr.align ≡ Some n
      → (h : IsBehind dl repr (more_variants d ts rest) p) → Within dl (IsOnly dl) (enum repr (more_variants d ts rest)) p
      → IsBehind dl (unaligned repr) (more_variants d ts rest) q → align_in_bytes p ≡ max (2 ^ max dl.aggregate_align n) (align_in_bytes q)
  foreign_raised repr d ts rest p q n foreign raised h inside k =
      let all : Variants = more_variants d ts rest in
      let fixed : has_fixed_order repr ≡ true = foreign_is_fixed repr foreign in
      let same : k.first ∷ k.others ≡ h.first ∷ h.others = behind_same repr (unaligned repr) all p q fixed h inside k in
      let variants : List (List Placed) = h.first ∷ h.others in
      let asked_with : IsAskedWith dl repr (counted repr (discriminants_of all) variants) k.behind.for.0 k.behind.for.1 =
      subst (λ vs. IsAskedWith dl repr (counted repr (discriminants_of all) vs) k.behind.for.0 k.behind.for.1) same k.behind.for.2 in
      let ends = one_asked dl repr (counted repr (discriminants_of all) variants) h.behind.for.0 k.behind.for.0 h.behind.for.1 k.behind.for.1 h.behind.for.2 asked_with in
      let one : (h.behind.asked, h.behind.signed) ≡ (k.behind.asked, k.behind.signed) =
      h.behind.for.3 ∙ ap₂ (λ (l : ℤ) g. tag_integer dl repr l g) ends.0 ends.1 ∙ sym k.behind.for.3 in
      let asked : h.behind.asked ≡ k.behind.asked = ap (λ (x : Integer × Bool). x.0) one in
      let before : ℕ = tag_align_of repr h.behind.asked variants in
      let least : ℕ = own_align dl repr in
      let own : own_align dl repr ≡ dl.aggregate_align = ap (λ (pack : Option ℕ). if is_some pack then dl.i8_align else dl.aggregate_align) h.loose in
      let high : align_in_bytes p ≡ max (2 ^ dl.aggregate_align) (max (2 ^ max (max least n) before) (most_of variants)) =
      behind_aligned repr all p fixed h
      ∙ ap (λ (o : Option ℕ). max (2 ^ dl.aggregate_align) (max (2 ^ max (max least (unwrap_or o 0)) before) (most_of variants))) raised in
      let low : align_in_bytes q ≡ max (2 ^ dl.aggregate_align) (max (2 ^ max (max least 0) before) (most_of variants)) =
      behind_aligned (unaligned repr) all q fixed k
      ∙ ap₂ (λ (i : Integer) vs. max (2 ^ dl.aggregate_align) (max (2 ^ max (max least 0) (tag_align_of repr i vs)) (most_of vs))) (sym asked) same in
      let whole : ℕ = 2 ^ dl.aggregate_align in
      let begin : ℕ = 2 ^ before in
      let most : ℕ = most_of variants in
      let both : 2 ^ least ≡ whole = ap (λ a. 2 ^ a) own in
      let own_high : 2 ^ max (max least n) before ≡ max (max whole (2 ^ n)) begin =
      pow_max (max least n) before ∙ ap (λ k. max k begin) (pow_max least n ∙ ap (λ k. max k (2 ^ n)) both) in
      let own_low : 2 ^ max (max least 0) before ≡ max (max whole 1) begin =
      pow_max (max least 0) before ∙ ap (λ k. max k begin) (pow_max least 0 ∙ ap (λ k. max k 1) both) in
      high ∙ ap (λ k. max whole (max k most)) own_high ∙ joined whole (2 ^ n) begin most (pow_pos dl.aggregate_align)
      ∙ ap₂ (λ k l. max k l) (sym (pow_max dl.aggregate_align n)) (sym (low ∙ ap (λ k. max whole (max k most)) own_low))

  -- the struct around it
  pub around_is : (around : ReprOptions) (t : Tree) (n : ℕ) (wrapped : Placed) → around.align ≡ Some n → around.pack ≡ None
      → IsLaying dl (struct around true None (more_trees t no_trees)) (Ok wrapped)
      → (q : Placed) × IsLaying dl t (Ok q) × (align_in_bytes wrapped ≡ max (2 ^ max dl.aggregate_align n) (max (align_in_bytes q) 1))
  around_is around t n wrapped raised loose there =
      let s = struct_laid dl around true None (more_trees t no_trees) wrapped there in
      by s.fields s.are s.align
    where
      by : (ps : List Placed) → AreLaying dl (more_trees t no_trees) (Ok ps)
          → align_in_bytes wrapped ≡ max (2 ^ least_align dl around) (most_aligned (extents_for around.pack ps))
          → (q : Placed) × IsLaying dl t (Ok q) × (align_in_bytes wrapped ≡ max (2 ^ max dl.aggregate_align n) (max (align_in_bytes q) 1))
      by ps (inl f) e = absurd (cc f.2)
      by ps (inr (q, here, inl f)) e = absurd (cc f.2)
      by ps (inr (q, here, inr (none, later, is))) e =
          let one : ps ≡ q ∷ [] = cc in (
            q,
            here,
            e ∙ ap (λ (qs : List Placed). max (2 ^ least_align dl around) (most_aligned (extents_for around.pack qs))) one
                ∙ ap₂ (λ (pack raised : Option ℕ). max (2 ^ max (if is_some pack then dl.i8_align else dl.aggregate_align) (unwrap_or raised 0))
                (most_aligned (extents_for pack (q ∷ [])))) loose raised,
          )

  -- in both, the enum's alignment and the struct's
  pub raised_foreign : (repr : ReprOptions) (d : ℕ) (ts : Trees) (rest : Variants) (p q : Placed) (n : ℕ) → IsForeign repr → repr.align ≡ Some n
      → Within dl (IsOnly dl) (enum repr (more_variants d ts rest)) p → IsLaying dl (enum repr (more_variants d ts rest)) (Ok p)
      → IsLaying dl (enum (unaligned repr) (more_variants d ts rest)) (Ok q) → align_in_bytes p ≡ max (2 ^ max dl.aggregate_align n) (align_in_bytes q)
  raised_foreign repr d ts rest p q n foreign raised inside h k =
      let asked : is_free repr ≡ false = foreign_is_asked repr foreign in
      foreign_raised repr d ts rest p q n foreign raised (behind_of repr d ts rest p asked h) inside (behind_of (unaligned repr) d ts rest q asked k)
