-- Worked facts on `Option`: of a byte that is never 0, as a right layout and the nearest wrong ones have it; and that references and
-- boxes are such types.
use Rattle.std.proofs.Common.{◌≡◌, ℕ, ◌+◌, ◌-◌, ◌%◌, ◌<◌, ◌≤◌, false, true, List, [], ◌∷◌, None, refl, sym, ap, ◌∙◌, subst, arith, lit<, lit≤, inl, inr, ⊎_elim}
use Rattle.std.specs.Prelude.{◌≢◌}
use Rattle.std.proofs.Math.Nat.{mod-eq_of_lt}
use Rattle.std.proofs.lemmas.Bool.{cases_lt}
use Rattle.abi_base.specs.declared.integer.Integer.TheVariants.{I8}
use Rattle.abi_base.specs.declared.primitive.Primitive.{Primitive}
use Rattle.abi_base.specs.declared.primitive.Primitive.TheVariants.{Int, Pointer}
use Rattle.abi_base.specs.DataLayout.{default_data_layout}
use Rattle.abi_scalar.specs.declared.scalar.Scalar.{Scalar}
use Rattle.abi_scalar.specs.declared.scalar.Scalar.TheVariants.{Initialized}
use Rattle.abi_scalar.specs.declared.variants.TagEncoding.TheVariants.{Direct, Niche}
use Rattle.abi_scalar.specs.Range.{IsIn, full_range, numbers_of}
use Rattle.abi_scalar.specs.Scalar.{IsNumberOf}
use Rattle.abi_calc.specs.Coroutine.Lists.{default_repr}
use Rattle.abi_tree.specs.declared.mark.Mark.TheVariants.{Plain}
use Rattle.abi_tree.specs.Bytes.{bytes_at, number_of}
use Rattle.abi_tree.specs.Holding.{Holds}
use Rattle.abi_tree.specs.Placed.{Placed, layout_of, fields, tagged, no_parts, part, nothing_tagged, tagged_variant}
use Rattle.abi_tree.specs.Tag.{NamesByNiche}
use Rattle.abi_tree.specs.Tree.{Tree, no_trees, more_trees, no_variants, more_variants, struct, scalar as number_type}
use Rattle.abi_tree.specs.Value.{Value, no_values, more_values, number, two, list, variant, state, bytes}
use Rattle.rustc_abi.specs.Laying.{one_scalar}
use Rattle.guarantees.specs.Reference.Words.{Extent}
use Rattle.guarantees.specs.Reference.Option.{IsAsLarge, IsNeverZero, IsNoneZero, IsOption, IsSomeAlike, LeavesOutZero}
use Rattle.guarantees.proofs.ReferenceLemmas.Facts.{sized, u8}
use Rattle.guarantees.proofs.ReferenceLemmas.InNiche.{IsInNiche, all_bytes, some_alike}
use Rattle.guarantees.proofs.ReferenceLemmas.ZeroOut.{from_one}

-- ---- numbers that are never 0

module _ (width : ℕ) (many : 2 ≤ numbers_of width) where
  at : (k : ℕ) → 1 + k < numbers_of width → (1 + k) % numbers_of width ≡ 1 + k
  at k lt = mod-eq_of_lt lt

  not_zero : (steps : ℕ) → 0 ≡ (1 + steps) % numbers_of width → ((k : ℕ) → k < steps → (1 + k) % numbers_of width ≢ numbers_of width - 1) → ⊥
  not_zero steps e before = ⊎_elim
      (λ (far : numbers_of width - 2 < steps).
      before (numbers_of width - 2) far (at (numbers_of width - 2) (omega (arith, many)) ∙ omega (arith, many)))
      (λ (near : steps ≤ numbers_of width - 2).
      let here : (1 + steps) % numbers_of width ≡ 1 + steps = at steps (omega (arith, near, many)) in omega (arith, here, e))
      (cases_lt (numbers_of width - 2) steps)

  some : (n : ℕ) → IsIn width (from_one width) n → 0 < n
  some n h = ⊎_elim (λ (p : 0 < n). p)
      (λ (none : n ≤ 0). let zero_in : 0 ≡ (1 + h.0) % numbers_of width = omega (arith, none) ∙ h.1 in absurd (not_zero h.0 zero_in h.2))
      (cases_lt 0 n)

  there : (n : ℕ) → n < numbers_of width → 0 < n → IsIn width (from_one width) n
  there n lt positive = (
    n - 1,
    sym (at (n - 1) (omega (arith, lt, positive)) ∙ omega (arith, positive)),
    λ k less e. absurd (let here : (1 + k) % numbers_of width ≡ 1 + k = at k (omega (arith, less, lt)) in omega (arith, here, e, less, lt)),
  )

  -- all numbers from 1 to the greatest
  from_one_leaves : (value : Primitive) → LeavesOutZero width (Initialized value (from_one width))
  from_one_leaves value = λ n lt. (λ h. some n h, λ positive. there n lt positive)

full_leaves_none : LeavesOutZero 1 (Initialized (Int I8 false) (full_range 1)) → ⊥
full_leaves_none h =
    let bad : 0 < 0 = (h 0 (lit< tt)).0 (0, refl, λ k lt e. absurd (omega (arith, lt))) in omega (arith, bad)

-- 1 is left out, too
two_left_out : LeavesOutZero 1 (Initialized (Int I8 false) (record { start = 2; end = 255 })) → ⊥
two_left_out h =
    let one = (h 1 (lit< tt)).1 (lit< tt) in
    ⊎_elim (λ (far : 253 < one.0). one.2 253 far refl)
    (λ (near : one.0 ≤ 253).
    let is : (2 + one.0) % 256 ≡ 2 + one.0 = mod-eq_of_lt (omega (arith, near)) in
    let one_is : 1 ≡ (2 + one.0) % 256 = one.1 in omega (arith, is, one_is))
    (cases_lt 253 one.0)

-- a pointer from 1 to the greatest number
abbrev reference : Scalar
reference = Initialized (Pointer (record { 0 = 0 })) (from_one 8)

abbrev a_reference : Placed
a_reference = one_scalar default_data_layout reference

reference_right : IsNeverZero default_data_layout (number_type reference) a_reference
reference_right = from_one_leaves 8 (lit≤ tt) (Pointer (record { 0 = 0 }))

-- a struct around it, which is seen as it
abbrev boxed : Tree
boxed = struct default_repr true None (more_trees (number_type reference) no_trees)

abbrev a_box : Placed
a_box = fields (layout_of a_reference) Plain (part 0 a_reference no_parts)

box_held : (b : List ℕ) (v : Value) → Holds default_data_layout.endian a_box b v → IsNumberOf 8 reference (number_of default_data_layout.endian b)
box_held b (list (more_values (number n) no_values)) h =
    let whole : bytes_at b 0 8 ≡ b = all_bytes b 8 h.0 in
    subst (λ c. IsNumberOf 8 reference (number_of default_data_layout.endian c)) whole (subst (IsNumberOf 8 reference) h.1.0.1.1 h.1.0.1.2)
box_held b (list (more_values (two m n) no_values)) h = absurd h.1.0.1
box_held b (list (more_values (list vs) no_values)) h = absurd h.1.0.1
box_held b (list (more_values (variant i vs) no_values)) h = absurd h.1.0.1
box_held b (list (more_values (state i ps vs) no_values)) h = absurd h.1.0.1
box_held b (list (more_values (bytes content) no_values)) h = absurd h.1.0.1
box_held b (list (more_values v (more_values w vs))) h = absurd h.1.1
box_held b (list no_values) h = absurd h.1
box_held b v h = absurd h

box_right : IsNeverZero default_data_layout boxed a_box
box_right = (reference, record { view = refl; free = refl; held = box_held }, reference_right)

-- ---- `Option` of a byte that is never 0

abbrev never_zero : Scalar
never_zero = Initialized (Int I8 false) (from_one 1)

abbrev inner : Placed
inner = one_scalar default_data_layout never_zero

-- beside a tag that is the byte, with this number for `None`
abbrev in_byte : (start : ℕ) → Placed
in_byte start =
    tagged (sized 1 0) Plain 0 u8 (Niche 1 (record { start = 0; last = 0 }) start)
    (tagged_variant 0 (sized 1 0) Plain no_parts (tagged_variant 1 (sized 1 0) Plain (part 0 inner no_parts) nothing_tagged))

-- behind a tag of its own
abbrev behind_tag : Placed
behind_tag =
    tagged (sized 2 0) Plain 0 u8 Direct
    (tagged_variant 0 (sized 1 0) Plain no_parts (tagged_variant 1 (sized 2 0) Plain (part 1 inner no_parts) nothing_tagged))

either_order : (t : Tree) → IsOption t 0 1 (more_variants 0 no_trees (more_variants 1 (more_trees t no_trees) no_variants))
    × IsOption t 1 0 (more_variants 0 (more_trees t no_trees) (more_variants 1 no_trees no_variants))
either_order t = ((0, 1, inl (refl, refl, refl)), (0, 1, inr (refl, refl, refl)))

size_right : IsAsLarge 0 1 inner (in_byte 0)
size_right = refl

size_behind_a_tag : IsAsLarge 0 1 inner behind_tag → ⊥
size_behind_a_tag h = absurd (let is : 2 ≡ 1 = ap (λ (e : Extent). e.size) h in omega (arith, is))

-- `None` as 0
none_right : IsNoneZero default_data_layout 0 1 inner (in_byte 0)
none_right = (refl, lit≤ tt, inl ((lit≤ tt, lit≤ tt, λ same. absurd (omega (arith, same))), refl), tt)

-- `None` as all ones
none_as_all_ones : IsNoneZero default_data_layout 0 1 inner (in_byte 255) → ⊥
none_as_all_ones h = by h.2
  where
    by : NamesByNiche 1 1 0 0 255 0 0 → ⊥
    by (inl named) = absurd (let is : 0 ≡ 255 = named.1 in omega (arith, is))
    by (inr other) = absurd (omega (arith, other.0))

in_niche : IsInNiche default_data_layout 0 1 inner (in_byte 0)
in_niche = record {
  layout = sized 1 0;
  mark = Plain;
  offset = 0;
  tag = u8;
  start = 0;
  tagged_variants = tagged_variant 0 (sized 1 0) Plain no_parts (tagged_variant 1 (sized 1 0) Plain (part 0 inner no_parts) nothing_tagged);
  is = refl;
  at = refl;
  first = refl;
  wide = refl;
  size = refl;
  align = refl;
  two = λ same. absurd (omega (arith, same));
  empty = λ b. tt;
  full = λ b vs. (λ h. h, λ h. h);
}

byte_held : (b : List ℕ) (v : Value) → Holds default_data_layout.endian inner b v → IsNumberOf 1 never_zero (number_of default_data_layout.endian b)
byte_held b (number n) h = subst (IsNumberOf 1 never_zero) h.1 h.2
byte_held b v h = absurd h

some_right : IsSomeAlike default_data_layout 0 1 inner (in_byte 0)
some_right =
    some_alike default_data_layout 0 1 inner (in_byte 0) in_niche never_zero (record { view = refl; free = refl; held = byte_held })
    (from_one_leaves 1 (lit≤ tt) (Int I8 false))

some_behind_a_tag : IsSomeAlike default_data_layout 0 1 inner behind_tag → ⊥
some_behind_a_tag h =
    let held : Holds default_data_layout.endian inner (1 ∷ []) (number 1) = (refl, refl, (0, refl, λ k lt e. absurd (omega (arith, lt)))) in
    absurd (let long : 1 ≡ 2 = ((h (1 ∷ []) (number 1)).0 held).0 in omega (arith, long))
