-- Enums of two variants, of which one has a field and the other may have none: how they are answered, with a tag and beside a niche.
use Rattle.std.proofs.Common.{◌≡◌, ℕ, ◌+◌, ◌^◌, ◌<◌, ◌≤◌, Bool, true, false, List, [], ◌∷◌, Option, Some, refl, sym, ap, subst, arith, inl, inr, Ok, Err}
use Rattle.std.specs.Prelude.{◌||◌, max, nat_lt, if◌then◌else◌}
use Rattle.std.specs.Int.{next_multiple_of}
use Rattle.std.proofs.lemmas.Bool.{lt-ltb}
use Rattle.abi_base.specs.declared.data_layout.TargetDataLayout.{TargetDataLayout}
use Rattle.abi_base.specs.declared.integer.Integer.{Integer}
use Rattle.abi_base.specs.Integer.{integer_size}
use Rattle.abi_scalar.specs.declared.repr.ReprOptions.{ReprOptions}
use Rattle.abi_univariant.specs.List.{IsUnivariantAnswer}
use Rattle.abi_univariant.specs.Placement.{cut, start_of}
use Rattle.abi_calc.specs.Enums.Choice.{IsNicheAnswer, preferred_layout, takes_niche}
use Rattle.abi_calc.specs.Enums.Discriminants.{counted_discriminants}
use Rattle.abi_calc.specs.Enums.Lists.{AreListLayouts, behind_tag}
use Rattle.abi_calc.specs.Enums.Several.{IsAskedAnswer, IsAskedFor, IsSeveralAnswer}
use Rattle.abi_calc.specs.Enums.Tagged.{lists_align, lists_size}
use Rattle.abi_tree.specs.Placed.{Placed, layout_of, size_of}
use Rattle.abi_scalar.specs.Layout.{Layout}
use Rattle.rustc_abi.specs.Enums.{IsTagIntegerAnswer as IsAsking, layouts_of, numbered_from}
use Rattle.guarantees.proofs.ReferenceLemmas.Lone.{lone_list}
use Rattle.abi_univariant.proofs.Offsets.Rounding.{rounded_to}
use Rattle.guarantees.proofs.ReferenceLemmas.Variants.{inj-answer, no_error}
use Rattle.guarantees.proofs.ReferenceLemmas.ZeroOut.{some_integer}

-- ---- several variants

-- The answer to several variants: the better of the layout with a tag and of one with a niche, where there is one.
pub record IsBetter (dl : TargetDataLayout) (repr : ReprOptions) (numbers : List ℕ) (variants : List (List Placed)) (layout : Layout) : Type 0 where
  pub niche : Option Layout
  pub beside : IsNicheAnswer AreListLayouts layout_of (λ i. i) (λ i. i) dl repr variants niche
  pub items : List (ℕ × ℕ)
  pub are : items ≡ numbered_from 0 numbers
  pub tagged : Layout
  pub asked : IsAskedAnswer layout_of (λ i. i) (λ i. i) 0 dl repr (IsAsking dl repr) (counted_discriminants (λ v. v) repr (layouts_of variants) items) variants (Ok tagged)
  pub is : layout ≡ preferred_layout dl tagged niche

pub several_is : (dl : TargetDataLayout) (repr : ReprOptions) (numbers : List ℕ) (variants : List (List Placed)) (layout : Layout)
    → IsSeveralAnswer layout_of (λ i. i) (λ i. i) (λ i. i) (λ i. i) dl repr (IsAsking dl repr) variants (λ items. items ≡ numbered_from 0 numbers) (Ok layout)
    → IsBetter dl repr numbers variants layout
several_is dl repr numbers variants layout (inl packed) = absurd (no_error layout _ packed.1)
several_is dl repr numbers variants layout (inr (inl want)) = absurd (no_error layout _ want.1)
several_is dl repr numbers variants layout (inr (inr (loose, items, are, inl want))) = absurd (no_error layout _ want)
several_is dl repr numbers variants layout (inr (inr (loose, items, are, inr (niche, beside, Err e, asked, is)))) = absurd (no_error layout e is)
several_is dl repr numbers variants layout (inr (inr (loose, items, are, inr (niche, beside, Ok l, asked, is)))) =
    record { niche = niche; beside = beside; items = items; are = are; tagged = l; asked = asked; is = inj-answer layout _ is }

-- ---- two of them

-- Two variants behind a tag: their lists, and a whole that is no smaller than either.
pub record AreTwoTagged (dl : TargetDataLayout) (repr : ReprOptions) (values : List ℕ) (v w : List Placed) (layout : Layout) : Type 0 where
  pub asked : Integer
  pub signed : Bool
  pub for : IsAskedFor dl repr (IsAsking dl repr) values asked signed
  pub first : Layout
  pub second : Layout
  pub first_is : IsUnivariantAnswer layout_of (λ i. i) 0 dl repr (behind_tag dl repr asked (layouts_of (v ∷ w ∷ []))) v (Ok first)
  pub second_is : IsUnivariantAnswer layout_of (λ i. i) 0 dl repr (behind_tag dl repr asked (layouts_of (v ∷ w ∷ []))) w (Ok second)
  pub above : max first.size second.size ≤ layout.size
  pub align : layout.align.abi ≡ lists_align dl (first ∷ second ∷ [])

pub two_tagged : (dl : TargetDataLayout) (repr : ReprOptions) (values : List ℕ) (v w : List Placed) (layout : Layout)
    → IsAskedAnswer layout_of (λ i. i) (λ i. i) 0 dl repr (IsAsking dl repr) values (v ∷ w ∷ []) (Ok layout)
    → AreTwoTagged dl repr values v w layout
two_tagged dl repr values v w layout (asked, signed, for, ([], are, by)) = absurd are
two_tagged dl repr values v w layout (asked, signed, for, (a ∷ [], are, by)) = absurd are.1
two_tagged dl repr values v w layout (asked, signed, for, (a ∷ b ∷ c ∷ more, are, by)) = absurd are.1.1
two_tagged dl repr values v w layout (asked, signed, for, (a ∷ b ∷ [], are, by)) =
    let up : max 0 (max a.size (max b.size 0)) ≤ next_multiple_of (max a.size (max b.size 0)) (2 ^ lists_align dl (a ∷ b ∷ [])) =
    (let r = rounded_to (max a.size (max b.size 0)) (lists_align dl (a ∷ b ∷ [])) in omega (arith, r.above)) in
    let is : layout.size ≡ lists_size dl (a ∷ b ∷ []) = ap (λ (l : Layout). l.size) by.ranged.2 in
    let whole : lists_size dl (a ∷ b ∷ []) ≡ next_multiple_of (max a.size (max b.size 0)) (2 ^ lists_align dl (a ∷ b ∷ [])) = refl in
    record {
      asked = asked;
      signed = signed;
      for = for;
      first = a;
      second = b;
      first_is = are.0;
      second_is = are.1.0;
      above = omega (arith, up, is, whole);
      align = ap (λ (l : Layout). l.align.abi) by.ranged.2;
    }

-- a field behind a tag ends behind its own size
pub larger_behind : (dl : TargetDataLayout) (repr : ReprOptions) (asked : Integer) (layouts : List (List Layout)) (p : Placed) (list : Layout)
    → IsUnivariantAnswer layout_of (λ i. i) 0 dl repr (behind_tag dl repr asked layouts) (p ∷ []) (Ok list) → size_of p < list.size
larger_behind dl repr asked layouts p list h =
    let l = lone_list dl repr (behind_tag dl repr asked layouts) tt p list h in
    let begin : ℕ = start_of repr.pack (behind_tag dl repr asked layouts) in
    let some : 1 ≤ integer_size asked = some_integer asked in
    let after : integer_size asked ≤ begin = (rounded_to (integer_size asked) _).above in
    let place : begin ≤ l.place = subst (λ n. begin ≤ n) (sym l.at) (rounded_to begin (cut repr.pack (layout_of p).align.abi)).above in
    let end : l.place + size_of p ≤ list.size = subst (λ n. l.place + size_of p ≤ n) (sym l.size) (rounded_to (l.place + size_of p) list.align.abi).above in
    omega (arith, some, after, place, end)

-- ---- the choice

or_true : (a b : Bool) → a ≡ true → (a || b) ≡ true
or_true true b e = refl
or_true false b e = absurd (cc)

pub chosen : {X : Type 0} (b : Bool) (x y : X) → b ≡ true → (if b then x else y) ≡ x
chosen true x y e = refl
chosen false x y e = absurd (cc)

-- the layout with a niche is taken where it is smaller
pub niche_taken : (dl : TargetDataLayout) (tagged n : Layout) → n.size < tagged.size → preferred_layout dl tagged (Some n) ≡ n
niche_taken dl tagged n less = chosen (takes_niche dl tagged n) n tagged (or_true (nat_lt n.size tagged.size) _ (lt-ltb n.size tagged.size less))
