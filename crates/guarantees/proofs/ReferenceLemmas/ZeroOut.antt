-- A scalar whose numbers are all but 0: its range goes from 1 to the greatest number, so that its one free number is 0.
use Rattle.std.proofs.Common.{◌≡◌, ℕ, zero, suc, ◌+◌, ◌-◌, ◌%◌, ◌*◌, ◌^◌, ◌<◌, ◌≤◌, Bool, true, false, List, Option, None, Some, refl, sym, ap, ap₂, ◌∙◌, subst, arith, lit≤, ⊎_elim, Ok}
use Rattle.std.specs.Prelude.{◌↔◌, ◌≢◌, ◌==◌, IfSome, IsSome, is_some, min, nat_le, if◌then◌else◌}
use Rattle.std.proofs.Math.Nat.{mod-add-mod, mod-eq_of_lt, mod_self}
use Rattle.std.proofs.Math.Pow.{pow_mono}
use Rattle.std.proofs.lemmas.Bool.{cases_lt, le-leb}
use Rattle.std.proofs.lemmas.Nat.{pow_pos}
use Rattle.abi_base.specs.declared.data_layout.TargetDataLayout.{TargetDataLayout}
use Rattle.abi_base.specs.declared.float.Float.{Float}
use Rattle.abi_base.specs.declared.float.Float.TheVariants.{F16}
use Rattle.abi_base.specs.declared.integer.Integer.{Integer}
use Rattle.abi_base.specs.declared.integer.Integer.TheVariants.{I8}
use Rattle.abi_base.specs.declared.primitive.Primitive.{Primitive}
use Rattle.abi_base.specs.declared.primitive.Primitive.TheVariants.{Int, Float as OneFloat, Pointer}
use Rattle.abi_base.specs.Float.{float_size}
use Rattle.abi_base.specs.Integer.{integer_size}
use Rattle.abi_base.specs.Primitive.{IsLawfulPrimitive, primitive_size}
use Rattle.abi_scalar.specs.declared.backend_repr.BackendRepr.TheVariants.{Scalar as OneScalar}
use Rattle.abi_scalar.specs.declared.niche.Niche.{Niche}
use Rattle.abi_scalar.specs.declared.scalar.Scalar.{Scalar}
use Rattle.abi_scalar.specs.declared.scalar.Scalar.TheVariants.{Initialized, Union}
use Rattle.abi_scalar.specs.declared.wrapping_range.WrappingRange.{WrappingRange}
use Rattle.abi_scalar.specs.Lawful.{IsLawfulLayout, IsLawfulNiche, IsLawfulView, IsNicheOfView}
use Rattle.abi_scalar.specs.Niche.{available_in, niche_size}
use Rattle.abi_scalar.specs.Range.{AreWithin, IsIn, free_count, numbers_of}
use Rattle.abi_scalar.specs.Reserve.{end_moved, moves_start, reserved, start_moved, stepped_back, stepped_on, magnitude}
use Rattle.abi_scalar.specs.Scalar.{IsNumberOf, scalar_size}
use Rattle.abi_tree.specs.Bytes.{number_of}
use Rattle.abi_tree.specs.Holding.{Holds}
use Rattle.abi_tree.specs.Placed.{Placed, layout_of, size_of}
use Rattle.abi_scalar.specs.Layout.{Layout}
use Rattle.abi_tree.specs.Tree.{Tree, scalar, pair}
use Rattle.abi_tree.specs.Value.{Value, number}
use Rattle.rustc_abi.specs.Laying.{IsLaying, one_scalar}
use Rattle.rustc_abi.specs.ScalarFault.{scalar_fault}
use Rattle.guarantees.specs.Reference.Option.{IsNeverZero, IsOneNumber, LeavesOutZero}
use Rattle.guarantees.proofs.ReferenceLemmas.Answers.{faultless}

-- ---- the range

-- the number after one whose remainder is known
next_by : (m a : ℕ) → 2 ≤ m → a % m < m → (a + 1) % m ≡ 1 → a % m ≡ 0
next_by m a many lt e = ⊎_elim
    (λ (low : a % m + 1 < m).
    let up : (a % m + 1) % m ≡ a % m + 1 = mod-eq_of_lt low in
    let same : (a % m + 1) % m ≡ (a + 1) % m = mod-add-mod a m 1 in omega (arith, up, same, e))
    (λ (high : m ≤ a % m + 1).
    let whole : a % m + 1 ≡ m = omega (arith, high, lt) in
    let up : (a % m + 1) % m ≡ 0 = ap (λ x. x % m) whole ∙ mod_self m in
    let same : (a % m + 1) % m ≡ (a + 1) % m = mod-add-mod a m 1 in absurd (omega (arith, up, same, e)))
    (cases_lt (a % m + 1) m)

mod_below : (a m : ℕ) → 0 < m → a % m < m
mod_below a m some = omega (arith, some)

-- how many numbers a byte has, and more bytes
many_numbers : (width : ℕ) → 1 ≤ width → 2 ≤ numbers_of width
many_numbers width some =
    let up : 2 ^ 1 ≤ 2 ^ (8 * width) = pow_mono {i = 1} {j = 8 * width} (omega (arith, some)) in omega (arith, up)

module _ (width start end : ℕ) (many : 2 ≤ numbers_of width) (low : start < numbers_of width) (high : end < numbers_of width)
    (only : (n : ℕ) → n < numbers_of width → (IsIn width (record { start = start; end = end }) n ↔ (0 < n))) where
  start_by : (steps : ℕ) → 1 ≡ (start + steps) % numbers_of width → ((k : ℕ) → k < steps → (start + k) % numbers_of width ≢ end) → start ≡ 1
  start_by zero e before =
      (let none : start + 0 ≡ start = omega arith in sym (e ∙ ap (λ x. x % numbers_of width) none ∙ mod-eq_of_lt low))
  start_by (suc s) e before =
      let split : start + suc s ≡ start + s + 1 = omega arith in
      let zero_at : (start + s) % numbers_of width ≡ 0 =
      next_by (numbers_of width) (start + s) many (mod_below (start + s) (numbers_of width) (omega (arith, many))) (sym (e ∙ ap (λ x. x % numbers_of width) split)) in
      let bad : 0 < 0 = (only 0 (omega (arith, many))).0 (s, sym zero_at, λ k lt. before k (omega (arith, lt))) in
      absurd (omega (arith, bad))

  pub start_is : start ≡ 1
  start_is =
      let one = (only 1 (omega (arith, many))).1 (omega arith) in
      start_by one.0 one.1 one.2

  -- counting up from 1
  at : (k : ℕ) → 1 + k < numbers_of width → (start + k) % numbers_of width ≡ 1 + k
  at k lt = ap (λ x. (x + k) % numbers_of width) start_is ∙ mod-eq_of_lt lt

  end_some : 0 < end
  end_some = ⊎_elim (λ (p : 0 < end). p)
      (λ (none : end ≤ 0).
      let is : end ≡ 0 = omega (arith, none) in
      let last : start + (numbers_of width - 1) ≡ numbers_of width = omega (arith, start_is, many) in
      let bad : 0 < 0 = (only 0 (omega (arith, many))).0 (
        numbers_of width - 1,
        sym (ap (λ x. x % numbers_of width) last ∙ mod_self (numbers_of width)),
        λ k lt e. absurd (let here : (start + k) % numbers_of width ≡ 1 + k = at k (omega (arith, lt)) in omega (arith, here, e, is)),
      ) in
      absurd (omega (arith, bad)))
      (cases_lt 0 end)

  pub end_is : end ≡ numbers_of width - 1
  end_is = ⊎_elim
      (λ (short : end < numbers_of width - 1).
      let last = (only (numbers_of width - 1) (omega (arith, many))).1 (omega (arith, many)) in
      absurd (⊎_elim
      (λ (far : end - 1 < last.0).
      let here : (start + (end - 1)) % numbers_of width ≡ 1 + (end - 1) = at (end - 1) (omega (arith, short, end_some)) in
      last.2 (end - 1) far (here ∙ omega (arith, end_some)))
      (λ (near : last.0 ≤ end - 1).
      let here : (start + last.0) % numbers_of width ≡ 1 + last.0 = at last.0 (omega (arith, short, near, end_some)) in
      let there : numbers_of width - 1 ≡ 1 + last.0 = last.1 ∙ here in
      omega (arith, there, near, short, end_some))
      (cases_lt (end - 1) last.0)))
      (λ (long : numbers_of width - 1 ≤ end). omega (arith, long, high))
      (cases_lt end (numbers_of width - 1))

-- ---- its one free number

-- from 1 to the greatest number
abbrev pub from_one : (width : ℕ) → WrappingRange
from_one width = record { start = 1; end = numbers_of width - 1 }

module _ (width : ℕ) (many : 2 ≤ numbers_of width) where
  one_free : free_count width (from_one width) ≡ 1
  one_free =
      let whole : 1 + numbers_of width - (numbers_of width - 1 + 1) ≡ 1 = omega (arith, many) in
      ap (λ n. n % numbers_of width) whole ∙ mod-eq_of_lt (omega (arith, many))

  -- 0 is the number before the first
  before_first : stepped_back width 1 1 ≡ 0
  before_first =
      let whole : 1 + numbers_of width - 1 ≡ numbers_of width = omega (arith, many) in
      ap (λ n. n % numbers_of width) whole ∙ mod_self (numbers_of width)

  start_moves : moves_start width (from_one width) 1 ≡ true
  start_moves =
      let none : min 0 (numbers_of width - 0) ≡ 0 = omega arith in
      ap (λ n. nat_le n (magnitude width (stepped_on width (numbers_of width - 1) 1))) (ap (magnitude width) before_first ∙ none)
      ∙ le-leb 0 (magnitude width (stepped_on width (numbers_of width - 1) 1)) (omega arith)

-- the number that is handed out where the start moves
abbrev handed : (width : ℕ) → WrappingRange → Bool → ℕ
handed width range moves = if moves then stepped_back width range.start 1 else stepped_on width range.end 1

first_handed : (width : ℕ) (s t : Scalar) (range : WrappingRange) (moves : Bool)
    → (let pair : ℕ × Scalar = if moves then (stepped_back width range.start 1, s) else (stepped_on width range.end 1, t) in pair.0) ≡ handed width range moves
first_handed width s t range true = refl
first_handed width s t range false = refl

second_handed : (dl : TargetDataLayout) (width a b m n : ℕ) (value : Primitive) (r q : WrappingRange) (moves : Bool)
    → scalar_size dl (let pair : ℕ × Scalar = if moves then (m, Initialized value r) else (n, Initialized value q) in pair.1) ≡ primitive_size dl value
second_handed dl width a b m n value r q true = refl
second_handed dl width a b m n value r q false = refl

-- ---- a type that is such a number

some_float : (f : Float) → 1 ≤ float_size f
some_float F16 = lit≤ tt
some_float _ = lit≤ tt

pub some_integer : (i : Integer) → 1 ≤ integer_size i
some_integer I8 = lit≤ tt
some_integer _ = lit≤ tt

pub some_bytes : (dl : TargetDataLayout) (value : Primitive) → IsLawfulPrimitive dl value → 1 ≤ primitive_size dl value
some_bytes dl (Int i signed) law = some_integer i
some_bytes dl (OneFloat f) law = some_float f
some_bytes dl (Pointer space) law = law.1.some

-- Its niche: at 0, as wide as the type, with 0 as the one free number.
pub record HasZeroFree (dl : TargetDataLayout) (q : Layout) : Type 0 where
  pub niche : Niche
  pub is : q.largest_niche ≡ Some niche
  pub offset : niche.offset ≡ 0
  pub width : niche_size dl niche ≡ q.size
  pub range : niche.valid_range ≡ from_one (niche_size dl niche)
  pub many : 2 ≤ numbers_of (niche_size dl niche)
  pub some : 0 < q.size

module _ (dl : TargetDataLayout) where
  pub one_available : (q : Layout) → (h : HasZeroFree dl q) → available_in dl h.niche ≡ 1
  one_available q h = ap (free_count (niche_size dl h.niche)) h.range ∙ one_free (niche_size dl h.niche) h.many

  pub zero_handed : (q : Layout) → (h : HasZeroFree dl q) → (reserved dl h.niche 1).0 ≡ 0
  zero_handed q h =
      let w : ℕ = niche_size dl h.niche in
      first_handed w (Initialized h.niche.value (start_moved w h.niche.valid_range 1)) (Initialized h.niche.value (end_moved w h.niche.valid_range 1))
      h.niche.valid_range (moves_start w h.niche.valid_range 1)
      ∙ ap (λ (r : WrappingRange). handed w r (moves_start w r 1)) h.range
      ∙ ap (handed w (from_one w)) (start_moves w h.many) ∙ before_first w h.many

  pub handed_width : (q : Layout) → (h : HasZeroFree dl q) → scalar_size dl (reserved dl h.niche 1).1 ≡ q.size
  handed_width q h =
      let w : ℕ = niche_size dl h.niche in
      second_handed dl w 0 0 (stepped_back w h.niche.valid_range.start 1) (stepped_on w h.niche.valid_range.end 1) h.niche.value
      (start_moved w h.niche.valid_range 1) (end_moved w h.niche.valid_range 1) (moves_start w h.niche.valid_range 1) ∙ h.width

  range_is : (width : ℕ) (value : Primitive) (range : WrappingRange) → 1 ≤ width → AreWithin width range → LeavesOutZero width (Initialized value range) → range ≡ from_one width
  range_is width value range some within only =
      let many : 2 ≤ numbers_of width = many_numbers width some in
      ap₂ (λ (a b : ℕ). let r : WrappingRange = record { start = a; end = b } in r)
      (start_is width range.start range.end many within.0 within.1 only) (end_is width range.start range.end many within.0 within.1 only)

  some_niche : (o : Option Niche) → IsSome o → (n : Niche) × (o ≡ Some n)
  some_niche None h = absurd (cc)
  some_niche (Some n) h = (n, refl)

  pub zero_free : (s : Scalar) (placed : Placed) → IsLawfulLayout dl (layout_of placed) → IsOneNumber dl s placed → LeavesOutZero (size_of placed) s → HasZeroFree dl (layout_of placed)
  zero_free s placed law one only =
      let q : Layout = layout_of placed in
      let found = some_niche q.largest_niche one.free in
      let own : IsLawfulNiche dl q.size found.0 = subst (λ o. IfSome o (IsLawfulNiche dl q.size)) found.1 law.niche in
      let of_view : IsNicheOfView q.backend_repr found.0 = subst (λ o. IfSome o (IsNicheOfView q.backend_repr)) found.1 law.niche_of_view in
      let as_scalar : IsNicheOfView (OneScalar s) found.0 = subst (λ view. IsNicheOfView view found.0) one.view of_view in
      let whole : IsLawfulView dl q.size (OneScalar s) = subst (IsLawfulView dl q.size) one.view law.view in
      let width : niche_size dl found.0 ≡ q.size = ap (λ t. scalar_size dl t) (sym as_scalar.1) ∙ whole.1 in
      let some : 1 ≤ niche_size dl found.0 = some_bytes dl found.0.value own.pointer in
      let left : LeavesOutZero (niche_size dl found.0) (Initialized found.0.value found.0.valid_range) =
      subst (λ n. LeavesOutZero n (Initialized found.0.value found.0.valid_range)) (sym width) (subst (LeavesOutZero q.size) as_scalar.1 only) in
      record {
        niche = found.0;
        is = found.1;
        offset = as_scalar.0;
        width = width;
        range = range_is (niche_size dl found.0) found.0.value found.0.valid_range some own.within left;
        many = many_numbers (niche_size dl found.0) some;
        some = omega (arith, some, width);
      }

  -- ---- a scalar is one by itself

  scalar_held : (s : Scalar) (b : List ℕ) (v : Value) → Holds dl.endian (one_scalar dl s) b v → IsNumberOf (scalar_size dl s) s (number_of dl.endian b)
  scalar_held s b (number n) h = subst (IsNumberOf (scalar_size dl s) s) h.1 h.2
  scalar_held s b v h = absurd h

  one_by_itself : (s : Scalar) → IsLawfulLayout dl (layout_of (one_scalar dl s)) → LeavesOutZero (scalar_size dl s) s → IsOneNumber dl s (one_scalar dl s)
  one_by_itself (Union value) law only =
      let none : 0 < 0 = (only 0 (pow_pos (8 * primitive_size dl value))).0 (pow_pos (8 * primitive_size dl value)) in absurd (omega (arith, none))
  one_by_itself (Initialized value range) law only =
      let some : 1 ≤ primitive_size dl value = some_bytes dl value law.view.0.pointer in
      let is : range ≡ from_one (primitive_size dl value) = range_is (primitive_size dl value) value range some law.view.0.within only in
      let free : free_count (primitive_size dl value) range ≡ 1 =
      ap (free_count (primitive_size dl value)) is ∙ one_free (primitive_size dl value) (many_numbers (primitive_size dl value) some) in
      record {
        view = refl;
        free = ap (λ n. is_some (if n == 0 then None else Some (niche_of_range range))) free;
        held = scalar_held (Initialized value range);
      }
    where
      niche_of_range : WrappingRange → Niche
      niche_of_range r = record { offset = 0; value = value; valid_range = r }

  -- in one way for each type
  pub never_zero : (t : Tree) (placed : Placed) → IsLaying dl t (Ok placed) → IsLawfulLayout dl (layout_of placed) → IsNeverZero dl t placed
      → (s : Scalar) × IsOneNumber dl s placed × LeavesOutZero (size_of placed) s
  never_zero (scalar s) placed laid law h =
      let is : placed ≡ one_scalar dl s = faultless (one_scalar dl s) placed (scalar_fault dl s) laid in
      let own : LeavesOutZero (scalar_size dl s) s = subst (λ p. LeavesOutZero (size_of p) s) is h in
      let lawful : IsLawfulLayout dl (layout_of (one_scalar dl s)) = subst (λ p. IsLawfulLayout dl (layout_of p)) is law in
      (s, subst (IsOneNumber dl s) (sym is) (one_by_itself s lawful own), h)
  never_zero _ placed laid law h = h
