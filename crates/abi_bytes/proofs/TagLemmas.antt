-- Formulas for the numbers of a tag.
use Rattle.std.proofs.Common.{◌≡◌, ◌⊎◌, ◌≢◌, ℕ, zero, suc, ◌+◌, ◌-◌, ◌*◌, ◌%◌, ◌^◌, ◌<◌, ◌≤◌, List, [], ◌∷◌, Bool, true, false, get_or, min, max, arith, refl, sym, ap, ◌∙◌, subst, inl, inr, ⊎_elim}
use Rattle.std.specs.Prelude.{MatchBool}
use Rattle.std.proofs.Math.Nat.{mod-add-mod, one-le-pow, suc-mul}
use Rattle.std.proofs.lemmas.Bool.{cases_lt}
use Rattle.std.proofs.lemmas.Nat.{mod-mul-add, mod_below, pow-add}
use Rattle.automata.specs.Formula.{Formula, both, never}
use Rattle.automata.specs.Formulas.{IsMade}
use Rattle.automata.specs.Nodes.{formula_in}
use Rattle.abi_base.specs.declared.endian.Endian.{Endian}
use Rattle.abi_scalar.specs.declared.wrapping_range.WrappingRange.{WrappingRange}
use Rattle.abi_scalar.specs.Range.{IsBetween, numbers_of}
use Rattle.abi_scalar.proofs.RangeLemmas.{IsCut, cut_once}
use Rattle.abi_tree.specs.Tag.{IsSpanned, NamesByNiche, NamesDirectly, niche_number}
use Rattle.abi_tree.specs.Nodes.{tagged_variants_in}
use Rattle.abi_tree.specs.Placed.{Placed}
use Rattle.abi_bytes.specs.Holding.{MakeNumber}
use Rattle.abi_bytes.specs.Formulas.{IsFormula}
use Rattle.abi_bytes.specs.Tags.{AreAllTaken, HasBeside, IsBeside}
use Rattle.abi_tree.proofs.Bytes.NumberLemmas.{cut_twice, cut_width}
use Rattle.abi_bytes.proofs.FirstLemmas.{made_both, made_like, made_never, number_both, number_like}

-- the greatest number of so many bytes
pub most_is : (w : ℕ) → w ≤ 16 → 340282366920938463463374607431768211455 % 2 ^ (w * 8) ≡ numbers_of w - 1
most_is w le =
    let turned : w * 8 ≡ 8 * w = omega arith in
    let q : ℕ = 2 ^ (128 - 8 * w) in
    let m : ℕ = 2 ^ (8 * w) in
    let bits : 128 ≡ (128 - 8 * w) + 8 * w = omega arith in
    let two : 0 < 2 = omega arith in
    let whole : 340282366920938463463374607431768211456 ≡ q * m = ap (λ k. 2 ^ k) bits ∙ pow-add 2 (128 - 8 * w) (8 * w) in
    let some : 1 ≤ q = one-le-pow (128 - 8 * w) 2 two in
    let one : 1 ≤ m = one-le-pow (8 * w) 2 two in
    let before : suc (q - 1) ≡ q = omega arith in
    let split : q * m ≡ (q - 1) * m + m = ap (λ k. k * m) (sym before) ∙ suc-mul (q - 1) m in
    let is : 340282366920938463463374607431768211455 ≡ (q - 1) * m + (m - 1) = omega (arith, whole, split, one) in
    ap (λ k. 340282366920938463463374607431768211455 % 2 ^ k) turned ∙ ap (λ n. n % m) is ∙ mod-mul-add (q - 1) m (m - 1) (omega (arith, one))

pub some_numbers : (w : ℕ) → 0 < numbers_of w
some_numbers w = let two : 0 < 2 = omega arith in omega (arith, one-le-pow (8 * w) 2 two)

pub niche_below : (width first start i : ℕ) → niche_number width first start i < numbers_of width
niche_below width first start i = mod_below (start + (i - first)) (numbers_of width) (some_numbers width)

module _ (width first start from end : ℕ) (later : first ≤ from) where
  abbrev m : ℕ
  m = numbers_of width

  abbrev N : ℕ → ℕ
  N k = niche_number width first start k

  -- a later one's number is so many steps further
  further : (k j : ℕ) → k ≡ from + j → N k ≡ (N from + j) % m
  further k j e =
      let sum : start + (k - first) ≡ (start + (from - first)) + j = omega (arith, e, later) in
      ap (λ n. n % m) sum ∙ sym (mod-add-mod (start + (from - first)) m j)

  cut_at : (j : ℕ) → j ≤ m - 1 → IsCut m (N from + j) (N (from + j))
  cut_at j le =
      let below = niche_below width first start from in
      let cut : IsCut m (N from + j) ((N from + j) % m) = cut_once m (N from + j) (omega (arith, le, below)) in
      subst (IsCut m (N from + j)) (sym (further (from + j) j refl)) cut

  pub all_beside : end ≤ from → HasBeside width first start from end (record { start = 0; end = numbers_of width - 1 })
  all_beside none = record {
    within = (some_numbers width, omega (arith, some_numbers width));
    only = λ tag lt. (λ h k low high. absurd (omega (arith, low, high, none)), λ h. inl (omega arith, omega arith, omega (arith, lt)));
  }

  -- so many steps to the number, from that of the first of them
  steps_to : (tag : ℕ) → tag < m → (j : ℕ) × (j < m) × (((N from ≤ tag) × (N from + j ≡ tag)) ⊎ ((tag < N from) × (N from + j ≡ tag + m)))
  steps_to tag lt =
      let below = niche_below width first start from in
      ⊎_elim
      (λ less. (tag + m - N from, omega (arith, less, below), inr (less, omega (arith, less, below))))
      (λ more. (tag - N from, omega (arith, lt), inl (more, omega (arith, more))))
      (cases_lt tag (N from))

  number_at_steps : (tag j : ℕ) → tag < m → j < m → (((N from ≤ tag) × (N from + j ≡ tag)) ⊎ ((tag < N from) × (N from + j ≡ tag + m))) → tag ≡ N (from + j)
  number_at_steps tag j lt less is =
      let cut = cut_at j (omega (arith, less)) in
      ⊎_elim
      (λ a. ⊎_elim (λ b. omega (arith, a.1, b.1)) (λ b. absurd (omega (arith, a.0, b.1))) is)
      (λ a. ⊎_elim (λ b. absurd (omega (arith, a, b.1, lt))) (λ b. omega (arith, a, b.1)) is)
      cut.is

  pub all_taken : from < end → m - 1 < end - from → AreAllTaken width first start from end
  all_taken some long tag lt beside =
      let steps = steps_to tag lt in
      let j : ℕ = steps.0 in
      beside (from + j) (omega arith) (omega (arith, steps.1, long, some)) (number_at_steps tag j lt steps.1 steps.2)

  module _ (some : from < end) (short : end - from ≤ m - 1) (last : ℕ) (is_last : ((N from ≡ 0) × (last ≡ m - 1)) ⊎ (last + 1 ≡ N from)) where
    far : IsCut m (N from + (end - from)) (N end)
    far =
        let there : from + (end - from) ≡ end = omega arith in
        subst (λ k. IsCut m (N from + (end - from)) (N k)) there (cut_at (end - from) short)

    last_below : last < m
    last_below =
        let below = niche_below width first start from in
        ⊎_elim (λ a. omega (arith, a.1, below)) (λ a. omega (arith, a, below)) is_last

    to_beside : (tag : ℕ) → tag < m → IsBetween (N end) last tag → IsBeside width first start from end tag
    to_beside tag lt between k low high same =
        let below = niche_below width first start from in
        let j : ℕ = k - from in
        let at : from + j ≡ k = omega (arith, low) in
        let cut : IsCut m (N from + j) tag = subst (IsCut m (N from + j)) (ap N at ∙ sym same) (cut_at j (omega (arith, low, high, short))) in
        let cut_end = far in
        ⊎_elim
        (λ z. ⊎_elim (λ a. ⊎_elim (λ b. ⊎_elim (λ c. omega (arith, a, b, c, z, below, low, high, lt)) (λ c. omega (arith, a, b, c, z, below, low, high, lt, cut_end.below)) cut_end.is) (λ b. ⊎_elim (λ c. omega (arith, a, b, c, z, below, low, high, lt)) (λ c. omega (arith, a, b, c, z, below, low, high, lt, cut_end.below)) cut_end.is) cut.is) (λ a. ⊎_elim (λ b. ⊎_elim (λ c. omega (arith, a, b, c, z, below, low, high, lt)) (λ c. omega (arith, a, b, c, z, below, low, high, lt, cut_end.below)) cut_end.is) (λ b. ⊎_elim (λ c. omega (arith, a, b, c, z, below, low, high, lt)) (λ c. omega (arith, a, b, c, z, below, low, high, lt, cut_end.below)) cut_end.is) cut.is) is_last)
        (λ y. ⊎_elim
        (λ z. ⊎_elim (λ a. ⊎_elim (λ b. ⊎_elim (λ c. omega (arith, a, b, c, z, below, low, high, lt)) (λ c. omega (arith, a, b, c, z, below, low, high, lt, cut_end.below)) cut_end.is) (λ b. ⊎_elim (λ c. omega (arith, a, b, c, z, below, low, high, lt)) (λ c. omega (arith, a, b, c, z, below, low, high, lt, cut_end.below)) cut_end.is) cut.is) (λ a. ⊎_elim (λ b. ⊎_elim (λ c. omega (arith, a, b, c, z, below, low, high, lt)) (λ c. omega (arith, a, b, c, z, below, low, high, lt, cut_end.below)) cut_end.is) (λ b. ⊎_elim (λ c. omega (arith, a, b, c, z, below, low, high, lt)) (λ c. omega (arith, a, b, c, z, below, low, high, lt, cut_end.below)) cut_end.is) cut.is) is_last)
        (λ z. ⊎_elim (λ a. ⊎_elim (λ b. ⊎_elim (λ c. omega (arith, a, b, c, z, below, low, high, lt)) (λ c. omega (arith, a, b, c, z, below, low, high, lt, cut_end.below)) cut_end.is) (λ b. ⊎_elim (λ c. omega (arith, a, b, c, z, below, low, high, lt)) (λ c. omega (arith, a, b, c, z, below, low, high, lt, cut_end.below)) cut_end.is) cut.is) (λ a. ⊎_elim (λ b. ⊎_elim (λ c. omega (arith, a, b, c, z, below, low, high, lt)) (λ c. omega (arith, a, b, c, z, below, low, high, lt, cut_end.below)) cut_end.is) (λ b. ⊎_elim (λ c. omega (arith, a, b, c, z, below, low, high, lt)) (λ c. omega (arith, a, b, c, z, below, low, high, lt, cut_end.below)) cut_end.is) cut.is) is_last)
        y)
        between

    of_beside : (tag : ℕ) → tag < m → IsBeside width first start from end tag → IsBetween (N end) last tag
    of_beside tag lt beside =
        let below = niche_below width first start from in
        let steps = steps_to tag lt in
        let j : ℕ = steps.0 in
        let cut_end = far in
        ⊎_elim
        (λ near. absurd (beside (from + j) (omega arith) (omega (arith, near, some)) (number_at_steps tag j lt steps.1 steps.2)))
        (λ beyond. ⊎_elim
        (λ b. ⊎_elim
        (λ a. inl (omega (arith, a, cut_end.below), ⊎_elim (λ c. omega (arith, c.1, b.1, beyond)) (λ c. absurd (omega (arith, c, b.1, beyond, lt, cut_end.below))) cut_end.is, omega (arith, a.1, lt)))
        (λ a. ⊎_elim (λ c. inr (inl (omega (arith, a, c, some), omega (arith, c.1, b.1, beyond)))) (λ c. absurd (omega (arith, c, b, beyond, lt))) cut_end.is)
        is_last)
        (λ b. ⊎_elim
        (λ a. absurd (omega (arith, a.0, b.0)))
        (λ a. ⊎_elim
        (λ c. inr (inr (omega (arith, a, c, some), omega (arith, a, b.0))))
        (λ c. inl (omega (arith, a, b, c, beyond), omega (arith, b, c, beyond), omega (arith, a, b.0)))
        cut_end.is)
        is_last)
        steps.2)
        (cases_lt j (end - from))

    pub some_beside : HasBeside width first start from end (record { start = N end; end = last })
    some_beside = record {
      within = (niche_below width first start end, last_below);
      only = λ tag lt. (to_beside tag lt, of_beside tag lt);
    }

-- ---- formulas

pub beside_made : (old new : List Formula) (order : Endian) (width first start from end k : ℕ) (range : WrappingRange) → HasBeside width first start from end range →
    IsFormula old new width (MakeNumber order (IsBetween range.start range.end)) k → IsFormula old new width (MakeNumber order (IsBeside width first start from end)) k
beside_made old new order width first start from end k range has is =
    made_like old new width k (MakeNumber order (IsBetween range.start range.end)) (MakeNumber order (IsBeside width first start from end))
    (λ u all len. number_like order width (IsBetween range.start range.end) (IsBeside width first start from end) has.only u all len) is

-- no number is in P
pub numbers_none : (old new : List Formula) (order : Endian) (width k : ℕ) (P : ℕ → Type 0) → ((tag : ℕ) → tag < numbers_of width → P tag → ⊥) → IsMade old new never k → IsFormula old new width (MakeNumber order P) k
numbers_none old new order width k P none made =
    made_never old new width k (MakeNumber order P)
    (λ u all len h. let x = (number_like order width P (λ tag. ⊥) (λ tag lt. (none tag lt, λ y. absurd y)) u all len).0 h in x.2) made

-- this number alone is in P
pub number_only : (old new : List Formula) (order : Endian) (width k number : ℕ) (P : ℕ → Type 0) → ((tag : ℕ) → P tag → tag ≡ number) → P number →
    IsFormula old new width (MakeNumber order (IsBetween number number)) k → IsFormula old new width (MakeNumber order P) k
number_only old new order width k number P only here is =
    made_like old new width k (MakeNumber order (IsBetween number number)) (MakeNumber order P)
    (λ u all len. number_like order width (IsBetween number number) P
    (λ tag lt. (
      λ y. let same : number ≡ tag = ⊎_elim (λ z. omega (arith, z)) (λ z. ⊎_elim (λ v. omega (arith, v)) (λ v. omega (arith, v)) z) y in subst P same here,
      λ y. inl (omega arith, omega (arith, only tag y), omega (arith, only tag y)),
    )) u all len) is

pub matched : (b : Bool) (P Q : Type 0) → MatchBool b P Q → b ≡ true → P
matched b P Q h e = subst (λ x. MatchBool x P Q) e h

pub unmatched : (b : Bool) (P Q : Type 0) → MatchBool b P Q → b ≡ false → Q
unmatched b P Q h e = subst (λ x. MatchBool x P Q) e h

-- the numbers beside those before the untagged variant and those behind it
pub others_made : (s0 s1 s2 s3 : List Formula) (order : Endian) (width first start untagged last a b f g k : ℕ) → a ≡ min untagged (last + 1) → b ≡ max first (untagged + 1) →
    IsFormula s0 s1 width (MakeNumber order (IsBeside width first start first a)) f → IsFormula s1 s2 width (MakeNumber order (IsBeside width first start b (last + 1))) g →
    IsMade s2 s3 (both (formula_in s2 f) (formula_in s2 g)) k →
    IsFormula s0 s3 width (MakeNumber order (λ tag. (other : ℕ) → IsSpanned untagged first last other → tag ≢ niche_number width first start other)) k
others_made s0 s1 s2 s3 order width first start untagged last a b f g k is_a is_b one two made =
    let P : ℕ → Type 0 = IsBeside width first start first a in
    let Q : ℕ → Type 0 = IsBeside width first start b (last + 1) in
    let R : ℕ → Type 0 = λ tag. (other : ℕ) → IsSpanned untagged first last other → tag ≢ niche_number width first start other in
    made_like s0 s3 width k (λ u. MakeNumber order P u × MakeNumber order Q u) (MakeNumber order R)
    (λ u all len.
    let like = number_like order width (λ tag. P tag × Q tag) R
    (λ tag lt. (
      λ h other spanned. ⊎_elim
          (λ below. h.0 other spanned.0 (omega (arith, below, spanned.1, is_a)))
          (λ from. h.1 other (omega (arith, from, spanned.0, is_b, spanned.2)) (omega (arith, spanned.1)))
          (cases_lt other untagged),
      λ h. (
        λ other low high. h other (low, omega (arith, high, is_a), λ e. omega (arith, e, high, is_a)),
        λ other low high. h other (omega (arith, low, is_b), omega (arith, high), λ e. omega (arith, e, low, is_b)),
      ),
    )) u all len in
    (λ h. like.0 ((number_both order P Q u).0 h), λ h. (number_both order P Q u).1 (like.1 h)))
    (made_both s0 s1 s2 s3 f g k width (MakeNumber order P) (MakeNumber order Q) one two made)

-- the untagged variant is named by all other numbers
pub untagged_made : (old new : List Formula) (order : Endian) (width first start untagged last i k : ℕ) → i ≡ untagged →
    IsFormula old new width (MakeNumber order (λ tag. (other : ℕ) → IsSpanned untagged first last other → tag ≢ niche_number width first start other)) k →
    IsFormula old new width (MakeNumber order (λ tag. NamesByNiche width untagged first last start tag i)) k
untagged_made old new order width first start untagged last i k is made =
    made_like old new width k (MakeNumber order (λ tag. (other : ℕ) → IsSpanned untagged first last other → tag ≢ niche_number width first start other))
    (MakeNumber order (λ tag. NamesByNiche width untagged first last start tag i))
    (λ u all len. number_like order width (λ tag. (other : ℕ) → IsSpanned untagged first last other → tag ≢ niche_number width first start other) (λ tag. NamesByNiche width untagged first last start tag i)
    (λ tag lt. (λ h. inr (is, h), λ h. ⊎_elim (λ x. absurd (x.0.2 is)) (λ x. x.1) h)) u all len) made

-- another variant is named by its own number at most
pub tagged_only : (width first start untagged last i tag : ℕ) → i ≢ untagged → NamesByNiche width untagged first last start tag i → tag ≡ niche_number width first start i
tagged_only width first start untagged last i tag other h = ⊎_elim (λ x. x.1) (λ x. absurd (other x.0)) h

-- ---- as the code finds them

-- a number that names a variant directly is the variant's, cut
pub direct_number : (done : List Placed) (width tag : ℕ) (vs : List (ℕ × ℕ)) (i : ℕ) (d : ℕ × ℕ) → NamesDirectly width (tagged_variants_in done vs) tag i → (get_or vs i d).0 % numbers_of width ≡ tag
direct_number done width tag [] i d h = absurd h
direct_number done width tag (v ∷ vs) zero d h = h.1
direct_number done width tag (v ∷ vs) (suc i) d h = direct_number done width tag vs i d h

pub niche_cut : (r start steps i first w z : ℕ) → r ≡ (start + steps) % 2 ^ 128 % 2 ^ (z * 8) → steps ≡ i - first → z ≡ w → w ≤ 16 → r ≡ niche_number w first start i
niche_cut r start steps i first w z e s y le =
    e ∙ ap (λ k. (start + k) % 2 ^ 128 % 2 ^ (z * 8)) s ∙ ap (λ k. (start + (i - first)) % 2 ^ 128 % 2 ^ (k * 8)) y ∙ cut_twice (start + (i - first)) w le

pub most_cut : (r w z : ℕ) → r ≡ 340282366920938463463374607431768211455 % 2 ^ (z * 8) → z ≡ w → w ≤ 16 → r ≡ numbers_of w - 1
most_cut r w z e y le = e ∙ ap (λ k. 340282366920938463463374607431768211455 % 2 ^ (k * 8)) y ∙ most_is w le

pub cut_named : (r n w z : ℕ) → r ≡ n % 2 ^ (z * 8) → z ≡ w → r ≡ n % numbers_of w
cut_named r n w z e y = e ∙ ap (λ k. n % 2 ^ (k * 8)) y ∙ cut_width n w

module _ (width first start from end most : ℕ) (later : first ≤ from) (greatest : most ≡ numbers_of width - 1) where
  pub beside_all : end ≤ from → HasBeside width first start from end (record { start = 0; end = most })
  beside_all none = subst (λ k. HasBeside width first start from end (record { start = 0; end = k })) (sym greatest) (all_beside width first start from end later none)

  pub beside_none : from < end → most < end - from → AreAllTaken width first start from end
  beside_none some long = all_taken width first start from end later some (omega (arith, long, greatest))

  pub beside_some : (f s last : ℕ) → from < end → end - from ≤ most → f ≡ niche_number width first start from → s ≡ niche_number width first start end →
      ((f ≡ 0) × (last ≡ most)) ⊎ (last + 1 ≡ f) → HasBeside width first start from end (record { start = s; end = last })
  beside_some f s last some short is_f is_s is_last =
      subst (λ k. HasBeside width first start from end (record { start = k; end = last })) (sym is_s)
      (some_beside width first start from end later some (omega (arith, short, greatest)) last
      (⊎_elim (λ a. inl (sym is_f ∙ a.0, a.1 ∙ greatest)) (λ a. inr (a ∙ is_f)) is_last))
