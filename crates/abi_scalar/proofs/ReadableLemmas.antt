-- Scalars that can be asked for their numbers: lawful ones are such, and two of them have room.
use Rattle.std.proofs.Common.{ℕ, ◌+◌, ◌-◌, ◌%◌, ◌^◌, ◌<◌, ◌≤◌, List, [], ◌∷◌, ◌++◌, map, Bool, true, false, Option, Some, arith, lit<}
use Rattle.std.specs.Prelude.{All, ◌==◌, if◌then◌else◌, unwrap_or}
use Rattle.std.specs.Int.{next_multiple_of}
use Rattle.std.proofs.Math.Nat.{pow-le-pow_right}
use Rattle.std.proofs.lemmas.Nat.{pow_pos, mod_below}
use Rattle.std.proofs.lemmas.List.Elements.{All-head, All-tail}
use Rattle.abi_base.specs.declared.data_layout.TargetDataLayout.{TargetDataLayout}
use Rattle.abi_base.specs.declared.address_space.AddressSpace.{AddressSpace}
use Rattle.abi_base.specs.declared.pointer_spec.PointerSpec.{PointerSpec}
use Rattle.abi_base.specs.declared.integer.Integer.{Integer}
use Rattle.abi_base.specs.declared.integer.Integer.TheVariants.{I8, I16, I32, I64, I128}
use Rattle.abi_base.specs.declared.float.Float.{Float}
use Rattle.abi_base.specs.declared.float.Float.TheVariants as format
use Rattle.abi_base.specs.declared.primitive.Primitive.{Primitive}
use Rattle.abi_base.specs.declared.primitive.Primitive.TheVariants.{Int, Float as AFloat, Pointer}
use Rattle.abi_base.specs.DataLayout.{IsLawfulDataLayout, entry_of, scalar_alignments_of}
use Rattle.abi_base.specs.Primitive.{primitive_size, primitive_align, KnowsPrimitive, IsLawfulPrimitive}
use Rattle.abi_base.specs.Integer.{integer_size}
use Rattle.abi_base.specs.Float.{float_size}
use Rattle.abi_scalar.specs.declared.scalar.Scalar.{Scalar}
use Rattle.abi_scalar.specs.Scalar.{primitive_of, scalar_size, scalar_align, IsLawfulScalar, IsWellFormed}
use Rattle.abi_scalar.specs.Pair.{pair_align, pair_size, second_offset}

-- The offset and the size of two scalars can be written in 64 bits.
pub record HasRoomForPair (dl : TargetDataLayout) (a b : Scalar) : Type 0 where
  pub second_align : scalar_align dl b < 64
  pub align : pair_align dl a b < 64
  pub offset : second_offset dl a b < 2 ^ 64
  pub end : second_offset dl a b + scalar_size dl b < 2 ^ 64
  pub size : pair_size dl a b < 2 ^ 64

module _ (dl : TargetDataLayout) where
  known : (p : Primitive) → IsLawfulPrimitive dl p → KnowsPrimitive dl p
  known (Int i signed) h = tt
  known (AFloat f) h = tt
  known (Pointer space) h = h.0

  integer_some : (i : Integer) → 1 ≤ integer_size i
  integer_some I8 = omega arith
  integer_some _ = omega arith

  integer_most : (i : Integer) → integer_size i ≤ 16
  integer_most I8 = omega arith
  integer_most _ = omega arith

  float_some : (f : Float) → 1 ≤ float_size f
  float_some format.F16 = omega arith
  float_some _ = omega arith

  float_most : (f : Float) → float_size f ≤ 16
  float_most format.F16 = omega arith
  float_most _ = omega arith

  width_some : (p : Primitive) → IsLawfulPrimitive dl p → 1 ≤ primitive_size dl p
  width_some (Int i signed) h = integer_some i
  width_some (AFloat f) h = float_some f
  width_some (Pointer space) h = h.1.some

  width_most : (p : Primitive) → IsLawfulPrimitive dl p → primitive_size dl p ≤ 16
  width_most (Int i signed) h = integer_most i
  width_most (AFloat f) h = float_most f
  width_most (Pointer space) h = h.1.most

  -- a lawful scalar can be asked for its numbers
  pub lawful_readable : (s : Scalar) → IsLawfulScalar dl s → IsWellFormed dl s
  lawful_readable s h = record {
    known = known (primitive_of s) h.pointer;
    some = width_some (primitive_of s) h.pointer;
    most = width_most (primitive_of s) h.pointer;
    within = h.within;
  }

-- the alignment of a space's pointers is among those that are listed, or the default one's
chosen_small : (here : Bool) (spec default : PointerSpec) (rest : Option PointerSpec) → spec.pointer_align ≤ 29
    → (unwrap_or rest default).pointer_align ≤ 29 → (unwrap_or (if here then Some spec else rest) default).pointer_align ≤ 29
chosen_small true spec default rest low others = low
chosen_small false spec default rest low others = others

entry_small : (entries : List (AddressSpace × PointerSpec)) (space : AddressSpace) (default : PointerSpec) → default.pointer_align ≤ 29
    → All (λ a. a ≤ 29) (map (λ e. e.1.pointer_align) entries) → (unwrap_or (entry_of entries space) default).pointer_align ≤ 29
entry_small [] space default low all = low
entry_small (e ∷ entries) space default low all =
    chosen_small (e.0.0 == space.0) e.1 default (entry_of entries space)
    (All-head (λ a. a ≤ 29) e.1.pointer_align (map (λ e. e.1.pointer_align) entries) all)
    (entry_small entries space default low (All-tail (λ a. a ≤ 29) e.1.pointer_align (map (λ e. e.1.pointer_align) entries) all))

all_after : (xs ys : List ℕ) → All (λ a. a ≤ 29) (xs ++ ys) → All (λ a. a ≤ 29) ys
all_after [] ys all = all
all_after (x ∷ xs) ys all = all_after xs ys (All-tail (λ a. a ≤ 29) x (xs ++ ys) all)

-- a number rounded up grows by less than what it is rounded to
rounded_below : (n m : ℕ) → 0 < m → next_multiple_of n m < n + m
rounded_below n m some = omega (arith, some, mod_below (m - n % m) m some)

power_limit : (a : ℕ) → a ≤ 29 → 2 ^ a ≤ 2 ^ 29
power_limit a le = pow-le-pow_right (omega arith) le

module _ (dl : TargetDataLayout) (law : IsLawfulDataLayout dl) where
  -- no alignment of a lawful data layout is above 2 ^ 29 bytes
  primitive_small : (p : Primitive) → primitive_align dl p ≤ 29
  primitive_small (Int I8 signed) = law.limit 1 0 (omega arith)
  primitive_small (Int I16 signed) = law.limit 2 0 (omega arith)
  primitive_small (Int I32 signed) = law.limit 3 0 (omega arith)
  primitive_small (Int I64 signed) = law.limit 4 0 (omega arith)
  primitive_small (Int I128 signed) = law.limit 5 0 (omega arith)
  primitive_small (AFloat format.F16) = law.limit 6 0 (omega arith)
  primitive_small (AFloat format.F16B) = law.limit 6 0 (omega arith)
  primitive_small (AFloat format.F32) = law.limit 7 0 (omega arith)
  primitive_small (AFloat format.F64) = law.limit 8 0 (omega arith)
  primitive_small (AFloat format.F128) = law.limit 9 0 (omega arith)
  primitive_small (AFloat format.PpcF128) = law.limit 9 0 (omega arith)
  primitive_small (Pointer space) =
      let default = dl.default_address_space_pointer_spec in
      let own : default.pointer_align ≤ 29 = law.limit 11 0 (omega arith) in
      chosen_small (space.0 == dl.default_address_space.0) default default (entry_of dl.address_space_info space) own
      (entry_small dl.address_space_info space default own
      (all_after (scalar_alignments_of dl ++ map (λ e. e.1) dl.vector_align) (map (λ e. e.1.pointer_align) dl.address_space_info) law.limit))

  -- two scalars that can be asked for their numbers have room under a lawful data layout
  pub readable_room : (a b : Scalar) → IsWellFormed dl a → IsWellFormed dl b → HasRoomForPair dl a b
  readable_room a b ra rb =
      let own : dl.aggregate_align ≤ 29 = law.limit 10 0 (omega arith) in
      let first = primitive_small (primitive_of a) in
      let second = primitive_small (primitive_of b) in
      let align : pair_align dl a b ≤ 29 = omega (arith, own, first, second) in
      let before : second_offset dl a b < scalar_size dl a + 2 ^ scalar_align dl b =
      rounded_below (scalar_size dl a) (2 ^ scalar_align dl b) (pow_pos (scalar_align dl b)) in
      let after : pair_size dl a b < second_offset dl a b + scalar_size dl b + 2 ^ pair_align dl a b =
      rounded_below (second_offset dl a b + scalar_size dl b) (2 ^ pair_align dl a b) (pow_pos (pair_align dl a b)) in
      let gap = power_limit (scalar_align dl b) second in
      let large = power_limit (pair_align dl a b) align in
      let end : second_offset dl a b + scalar_size dl b < 32 + 2 ^ 29 = omega (arith, before, gap, ra.most, rb.most) in
      let few : 32 + 2 ^ 29 + 2 ^ 29 < 2 ^ 64 = lit< tt in
      record {
        second_align = omega (arith, second);
        align = omega (arith, align);
        offset = omega (arith, end, few);
        end = omega (arith, end, few);
        size = omega (arith, after, end, large, few);
      }
