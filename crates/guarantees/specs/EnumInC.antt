-- Enums without fields as C has them: as an integer.
use Rattle.std.specs.Prelude.{◌≡◌, ℕ, ◌-◌, ◌*◌, ◌^◌, ◌<◌, ◌≤◌, All, Bool, false, true, ℤ, pos, negsuc, List, [], ◌∷◌, None, max, min}
use Rattle.std.specs.List.{list_any}
use Rattle.abi_base.specs.Integer.{integer_align, integer_size}
use Rattle.abi_base.specs.declared.data_layout.TargetDataLayout.{TargetDataLayout}
use Rattle.abi_base.specs.declared.integer.Integer.{Integer}
use Rattle.abi_scalar.specs.declared.repr.ReprOptions.{ReprOptions}
use Rattle.abi_scalar.specs.Repr.{is_c}
use Rattle.abi_tree.specs.Tree.{Tree, Variants, enum, more_variants, no_trees, no_variants}
use Rattle.rustc_abi.specs.Enums.{is_negative}
use Rattle.guarantees.specs.InC.{IsLeastMultiple}

-- a variant without fields for each discriminant
abbrev pub without_fields : List ℕ → Variants
without_fields [] = no_variants
without_fields (n ∷ ns) = more_variants n no_trees (without_fields ns)

-- the tree is an enum of such variants, under `repr(C)`, which names no integer and no alignment
abbrev pub IsEnumInC : Tree → (discriminants : List ℕ) → Type 0
IsEnumInC tree discriminants =
    (repr : ReprOptions) × (tree ≡ enum repr (without_fields discriminants)) × (is_c repr ≡ true)
    × (repr.int ≡ None) × (repr.pack ≡ None) × (repr.align ≡ None)

-- an integer of so many bits has the number, with a sign or without one; `negsuc n` is -1 - n
abbrev pub HasNumber : (signed : Bool) → (bits : ℕ) → ℤ → Type 0
HasNumber false bits (pos n) = n < 2 ^ bits
HasNumber false bits (negsuc n) = ⊥
HasNumber true bits (pos n) = n < 2 ^ (bits - 1)
HasNumber true bits (negsuc n) = n < 2 ^ (bits - 1)

-- an enum has as many bytes as the target's least one, at least, or as an index where that has fewer
abbrev pub least_enum : TargetDataLayout → ℕ
least_enum dl = min (integer_size dl.c_enum_min_size) dl.default_address_space_pointer_spec.pointer_offset

-- the integer has each number, with a sign where one of them is negative
abbrev pub HasEach : List ℤ → Integer → Type 0
HasEach numbers i = All (HasNumber (list_any is_negative numbers) (integer_size i * 8)) numbers

-- The integer of an enum with these numbers: of those that are no smaller than the least enum, the least that has each.
pub record IsIntegerOfEnum (dl : TargetDataLayout) (numbers : List ℤ) (i : Integer) : Type 0 where
  pub enough : least_enum dl ≤ integer_size i
  pub each : HasEach numbers i
  pub least : (j : Integer) → least_enum dl ≤ integer_size j → HasEach numbers j → integer_size i ≤ integer_size j

-- An enum with these numbers is as large and as aligned as its integer. Where the target aligns each aggregate further, its
-- alignment is raised to that, and its size rounded up.
pub record LiesAsEnumInC (dl : TargetDataLayout) (numbers : List ℤ) (size align : ℕ) : Type 0 where
  pub integer : Integer
  pub is : IsIntegerOfEnum dl numbers integer
  pub aligned : align ≡ max dl.aggregate_align (integer_align dl integer)
  pub rounded : IsLeastMultiple align (integer_size integer) size
