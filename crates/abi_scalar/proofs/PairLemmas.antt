-- The layout of two lawful scalars is lawful.
use Rattle.std.proofs.Common.{◌≡◌, ℕ, ◌+◌, ◌-◌, ◌*◌, ◌/◌, ◌%◌, ◌^◌, ◌<◌, ◌≤◌, ◌==◌, inl, inr, arith, sym, ap, ◌∙◌, subst, refl, Bool, true, false, Option, Some, None, IfSome, if◌then◌else◌, eq-eqb, nat_lt}
use Rattle.std.specs.Int.{◌∣◌, next_multiple_of}
use Rattle.std.proofs.Math.Nat.{dvd-mul_right, mod-eq_of_lt, mod_self}
use Rattle.std.proofs.lemmas.Bool.{cases_lt}
use Rattle.std.proofs.lemmas.Nat.{mod_below, pow_pos}
use Rattle.std.proofs.lemmas.Nat.Gcd.{le_of_dvd, dvd_of_mod-eq-zero}
use Rattle.abi_base.specs.declared.data_layout.TargetDataLayout.{TargetDataLayout}
use Rattle.abi_base.specs.DataLayout.{IsLawfulDataLayout, size_bound}
use Rattle.abi_base.specs.Primitive.{primitive_size}
use Rattle.abi_scalar.specs.declared.backend_repr.BackendRepr.TheVariants.{ScalarPair}
use Rattle.abi_scalar.specs.declared.layout_data.LayoutData.{LayoutData}
use Rattle.abi_scalar.specs.declared.niche.Niche.{Niche}
use Rattle.abi_scalar.specs.declared.scalar.Scalar.{Scalar}
use Rattle.abi_scalar.specs.declared.scalar.Scalar.TheVariants.{Initialized, Union}
use Rattle.abi_scalar.specs.Range.{free_count}
use Rattle.abi_scalar.specs.Scalar.{primitive_of, scalar_size, scalar_align, IsLawfulScalar, IsWellFormed}
use Rattle.abi_scalar.specs.Niche.{niche_at, available_in}
use Rattle.abi_scalar.specs.Lawful.{IsLawfulLayout, IsLawfulNiche, IsNicheOfView, HasLawfulTag}
use Rattle.abi_scalar.specs.Pair.{pair_align, pair_size, second_offset, larger_niche, pair_layout}
use Rattle.abi_scalar.proofs.RangeLemmas.{free_after}
use Rattle.abi_scalar.proofs.LawfulLemmas.{primitive_multiple, below_power}

one_of : (b : Bool) {A : Type 0} (P : A → Type 0) (x y : A) → P x → P y → IfSome (if b then Some y else Some x) P
one_of true P x y hx hy = hy
one_of false P x y hx hy = hx

some_else : (b : Bool) {A : Type 0} (niche : A) (P : A → Type 0) → (b ≡ false → P niche)
    → IfSome (if b then None else Some niche) P
some_else true niche P h = tt
some_else false niche P h = h refl

-- a number rounded up is a multiple
multiple_above : (n m : ℕ) → 0 < m → m ∣ next_multiple_of n m
multiple_above n m p =
    let small = mod_below n m p in
    elim (cases_lt 0 (n % m)) [
      | inl some ↦
          let same : (m - n % m) % m ≡ m - n % m = mod-eq_of_lt (omega (arith, some, small)) in
          let up : m * (n / m + 1) ≡ n + (m - n % m) = omega (arith, small, p) in
          let P : ℕ → Type 0 = λ x. m ∣ x in
          subst P (up ∙ ap (λ x. n + x) (sym same)) (dvd-mul_right m (n / m + 1))
      | inr none ↦
          let zero : n % m ≡ 0 = omega (arith, none) in
          let whole : m - n % m ≡ m = omega (arith, zero) in
          let same : n ≡ n + (m - n % m) % m = omega (arith, ap (λ x. x % m) whole ∙ mod_self m) in
          let P : ℕ → Type 0 = λ x. m ∣ x in
          subst P same (dvd_of_mod-eq-zero m zero)
    ]

-- what holds of both niches holds of the larger one
larger_has : (dl : TargetDataLayout) (P : Niche → Type 0) (x y : Option Niche) → IfSome x P → IfSome y P → IfSome (larger_niche dl x y) P
larger_has dl P None y hx hy = hy
larger_has dl P (Some a) None hx hy = hx
larger_has dl P (Some a) (Some b) hx hy = one_of (nat_lt (available_in dl a) (available_in dl b)) P a b hx hy

-- a lawful scalar's niche is lawful where the scalar lies inside
pub niche_inside : (dl : TargetDataLayout) (offset size : ℕ) (s : Scalar) → IsLawfulScalar dl s → offset + scalar_size dl s ≤ size
    → IfSome (niche_at dl offset s) (IsLawfulNiche dl size)
niche_inside dl offset size (Initialized value range) h inside =
    some_else (free_count (primitive_size dl value) range == 0) (record { offset = offset; value = value; valid_range = range })
    (IsLawfulNiche dl size) (λ there. record {
      inside = inside;
      pointer = h.pointer;
      within = h.within;
      free = free_after (primitive_size dl value) range h.within (λ none. cc (eq-eqb _ 0 none));
    })
niche_inside dl offset size (Union value) h inside = tt

first_viewed : (dl : TargetDataLayout) (a b : Scalar) (offset : ℕ) → IfSome (niche_at dl 0 a) (IsNicheOfView (ScalarPair a b offset))
first_viewed dl (Initialized value range) b offset =
    some_else (free_count (primitive_size dl value) range == 0) (record { offset = 0; value = value; valid_range = range })
    (IsNicheOfView (ScalarPair (Initialized value range) b offset)) (λ there. inl (refl, refl))
first_viewed dl (Union value) b offset = tt

second_viewed : (dl : TargetDataLayout) (a b : Scalar) (offset : ℕ) → IfSome (niche_at dl offset b) (IsNicheOfView (ScalarPair a b offset))
second_viewed dl a (Initialized value range) offset =
    some_else (free_count (primitive_size dl value) range == 0) (record { offset = offset; value = value; valid_range = range })
    (IsNicheOfView (ScalarPair a (Initialized value range) offset)) (λ there. inr (refl, refl))
second_viewed dl a (Union value) offset = tt

-- a lawful scalar is aligned to 16 bytes at most
small_align : (dl : TargetDataLayout) (s : Scalar) → IsLawfulDataLayout dl → IsWellFormed dl s → IsLawfulScalar dl s → scalar_align dl s ≤ 29
small_align dl s law r h =
    omega (arith, below_power (scalar_align dl s), le_of_dvd (omega (arith, r.some)) (primitive_multiple dl (primitive_of s) law h.pointer), r.most)

aggregate_limit : (dl : TargetDataLayout) → IsLawfulDataLayout dl → dl.aggregate_align ≤ 29
aggregate_limit dl law = law.limit 10 0 (omega arith)

pub pair_lawful : {F V : Type 0} (dl : TargetDataLayout) (a b : Scalar) (l : LayoutData F V)
    → IsWellFormed dl a → IsWellFormed dl b → IsLawfulDataLayout dl → IsLawfulScalar dl a → IsLawfulScalar dl b
    → pair_size dl a b < size_bound dl → l.size ≡ pair_size dl a b → l.align.abi ≡ pair_align dl a b
    → l.largest_niche ≡ larger_niche dl (niche_at dl 0 a) (niche_at dl (second_offset dl a b) b)
    → l.backend_repr ≡ ScalarPair a b (second_offset dl a b) → HasLawfulTag dl l.variants → IsLawfulLayout dl l
pair_lawful dl a b l ra rb law ha hb bound size align niche view tag =
    let offset = second_offset dl a b in
    let after : scalar_size dl a ≤ offset = omega arith in
    let inside : offset + scalar_size dl b ≤ pair_size dl a b = omega arith in
    record {
      multiple = rw (size, align) (multiple_above (offset + scalar_size dl b) (2 ^ pair_align dl a b) (pow_pos (pair_align dl a b)));
      bound = omega (arith, bound, size);
      limit = omega (arith, align, small_align dl a law ra ha, small_align dl b law rb hb, aggregate_limit dl law);
      niche = rw (niche, size) (larger_has dl (IsLawfulNiche dl (pair_size dl a b)) _ _
          (niche_inside dl 0 (pair_size dl a b) a ha (omega (arith, after, inside)))
          (niche_inside dl offset (pair_size dl a b) b hb inside));
      view = rw (view, size) (ha, hb, after, inside);
      niche_of_view = rw (niche, view) (larger_has dl (IsNicheOfView (ScalarPair a b offset)) _ _ (first_viewed dl a b offset) (second_viewed dl a b offset));
      tag = tag;
    }

-- the same of what is known to be the layout of a pair
pub pair_lawful_at : {F V : Type 0} (variant : V) (first second : F) (dl : TargetDataLayout) (a b : Scalar) (l : LayoutData F V)
    → IsWellFormed dl a → IsWellFormed dl b → IsLawfulDataLayout dl → IsLawfulScalar dl a → IsLawfulScalar dl b
    → pair_size dl a b < size_bound dl → l ≡ pair_layout variant first second dl a b → IsLawfulLayout dl l
pair_lawful_at {F = F} {V = V} variant first second dl a b l ra rb law ha hb bound e =
    let P : LayoutData F V → Type 0 = λ x. IsLawfulLayout dl x in
    subst P (sym e) (pair_lawful dl a b (pair_layout variant first second dl a b) ra rb law ha hb bound refl refl refl refl tt)
