-- Numbers in bytes, and those of a scalar.
use Rattle.std.proofs.Common.{◌≡◌, ℕ, zero, suc, ◌+◌, ◌-◌, length-take, length-drop, ◌*◌, ◌^◌, ◌<◌, ◌≤◌, List, length, take, drop, arith, sym, ap, ◌∙◌, subst, refl, inl, inr, lit≤}
use Rattle.std.specs.Prelude.{◌⊎◌, ◌%◌, ◌≢◌}
use Rattle.std.proofs.Math.Nat.{pow-le-pow_right}
use Rattle.std.proofs.lemmas.Nat.{pow-add}
use Rattle.abi_base.specs.declared.data_layout.TargetDataLayout.{TargetDataLayout}
use Rattle.abi_base.specs.declared.float.Float.{Float}
use Rattle.abi_base.specs.declared.float.Float.TheVariants.{F16}
use Rattle.abi_base.specs.declared.integer.Integer.{Integer}
use Rattle.abi_base.specs.declared.integer.Integer.TheVariants.{I8}
use Rattle.abi_base.specs.declared.primitive.Primitive.{Primitive}
use Rattle.abi_base.specs.declared.primitive.Primitive.TheVariants.{Int, Float as OneFloat, Pointer}
use Rattle.abi_base.specs.Float.{float_size}
use Rattle.abi_base.specs.Integer.{integer_size}
use Rattle.abi_base.specs.Primitive.{IsLawfulPrimitive, KnowsPrimitive, primitive_size}
use Rattle.abi_scalar.specs.Range.{IsIn, numbers_of}

-- one byte more
pub numbers_of-more : (w : ℕ) → numbers_of (w + 1) ≡ 256 * numbers_of w
numbers_of-more w =
    let split : 8 * (w + 1) ≡ 8 + 8 * w = omega arith in
    ap (λ e. 2 ^ e) split ∙ pow-add 2 8 (8 * w)

numbers_of-le : (w : ℕ) → w ≤ 16 → numbers_of w ≤ 2 ^ 128
numbers_of-le w le =
    let bits : 8 * w ≤ 128 = omega arith in
    let positive : 0 < 2 = omega arith in
    pow-le-pow_right positive bits

-- a number with one byte more fits
pub more_fits : (n w first rest : ℕ) → n ≡ w + 1 → n ≤ 16 → first < 256 → rest < numbers_of w → (first + 256 * rest < numbers_of n) × (numbers_of n ≤ 2 ^ 128)
more_fits n w first rest e le byte lt =
    (subst (λ k. first + 256 * rest < numbers_of k) (sym e) (omega (arith, numbers_of-more w)), numbers_of-le n le)

-- a number that a byte stands before, or behind
pub with_first : (b : List ℕ) (first rest : ℕ) → 1 ≤ length b → length b ≤ 16 → first < 256 → rest < numbers_of (length (take (length b - 1) (drop 1 b))) →
    (first + 256 * rest < numbers_of (length b)) × (numbers_of (length b) ≤ 2 ^ 128)
with_first b first rest some most byte lt = more_fits (length b) _ first rest (omega (arith, length-take (length b - 1) (drop 1 b), length-drop 1 b)) most byte lt

pub with_last : (b : List ℕ) (last rest : ℕ) → 1 ≤ length b → length b ≤ 16 → last < 256 → rest < numbers_of (length (take (length b - 1) b)) →
    (last + 256 * rest < numbers_of (length b)) × (numbers_of (length b) ≤ 2 ^ 128)
with_last b last rest some most byte lt = more_fits (length b) _ last rest (omega (arith, length-take (length b - 1) b)) most byte lt

integer_most : (i : Integer) → integer_size i ≤ 16
integer_most I8 = lit≤ tt
integer_most _ = lit≤ tt

float_most : (f : Float) → float_size f ≤ 16
float_most F16 = lit≤ tt
float_most _ = lit≤ tt

-- a primitive whose pointer is lawful has at most 16 bytes
pub primitive_most : (dl : TargetDataLayout) (p : Primitive) → IsLawfulPrimitive dl p → primitive_size dl p ≤ 16
primitive_most dl (Int i signed) lawful = integer_most i
primitive_most dl (OneFloat f) lawful = float_most f
primitive_most dl (Pointer space) lawful = lawful.1.most

-- a lawful pointer's space is known
pub knows_lawful : (dl : TargetDataLayout) (p : Primitive) → IsLawfulPrimitive dl p → KnowsPrimitive dl p
knows_lawful dl (Int i signed) lawful = tt
knows_lawful dl (OneFloat f) lawful = tt
knows_lawful dl (Pointer space) lawful = lawful.0

-- of one byte, counting from 0 to 1 meets two numbers
bool_by : (n steps : ℕ) → n ≡ (0 + steps) % numbers_of 1 → ((k : ℕ) → k < steps → (0 + k) % numbers_of 1 ≢ 1) → (n ≡ 0) ⊎ (n ≡ 1)
bool_by n zero is before = inl is
bool_by n (suc zero) is before = inr is
bool_by n (suc (suc k)) is before = absurd (before 1 (omega arith) refl)

pub bool_number : (n : ℕ) → IsIn 1 (record { start = 0; end = 1 }) n → (n ≡ 0) ⊎ (n ≡ 1)
bool_number n h = bool_by n h.0 h.1 h.2
