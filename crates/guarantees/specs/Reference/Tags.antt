-- `repr.c.enum`, `repr.primitive.enum`: the enum with all fields removed, "the tag".
use Rattle.std.specs.Prelude.{◌≡◌, ℕ, ◌-◌, ◌*◌, ◌^◌, ◌<◌, ◌≤◌, ◌⊎◌, All, Option, None, Some, Bool, true, false, List, [], ◌∷◌}
use Rattle.abi_base.specs.declared.data_layout.TargetDataLayout.{TargetDataLayout}
use Rattle.abi_base.specs.declared.integer.Integer.{Integer}
use Rattle.abi_base.specs.declared.integer.IntegerType.{IntegerType}
use Rattle.abi_base.specs.declared.primitive.Primitive.TheVariants.{Int}
use Rattle.abi_base.specs.Integer.{integer_align, integer_size}
use Rattle.abi_base.specs.IntegerType.{integer_of_type, is_signed_type}
use Rattle.abi_scalar.specs.declared.repr.ReprOptions.{ReprOptions}
use Rattle.abi_scalar.specs.Scalar.{primitive_of}
use Rattle.abi_tree.specs.Tree.{Variants, no_variants, more_variants}
use Rattle.abi_tree.specs.Placed.{Placed, scalar}
use Rattle.guarantees.specs.Reference.Words.{Extent, extent_of}

-- the size and the alignment of an integer of the target
abbrev pub integer_extent : TargetDataLayout → Integer → Extent
integer_extent dl i = record { size = integer_size i; align = 2 ^ integer_align dl i }

-- each variant's discriminant, in two's complement of 128 bits
abbrev pub discriminants : Variants → List ℕ
discriminants no_variants = []
discriminants (more_variants discriminant ts others) = discriminant ∷ discriminants others

-- the number, read with or without a sign, is one of an integer of so many bits
abbrev pub IsOf : (signed : Bool) → (bits number : ℕ) → Type 0
IsOf false bits number = number < 2 ^ bits
IsOf true bits number = (number < 2 ^ (bits - 1)) ⊎ (2 ^ 128 - 2 ^ (bits - 1) ≤ number)

-- the integer has room for each discriminant
abbrev pub HoldsEach : (signed : Bool) → Integer → List ℕ → Type 0
HoldsEach signed i numbers = All (IsOf signed (integer_size i * 8)) numbers

-- the target's least integer for an enum of C is no wider than an index, as `p:16:16` beside four bytes is
abbrev pub HasEnumsOfIndex : TargetDataLayout → Type 0
HasEnumsOfIndex dl = integer_size dl.c_enum_min_size ≤ dl.default_address_space_pointer_spec.pointer_offset

-- C's enum: the target's least integer for one, or the next that has room for each discriminant
pub record IsCEnumInteger (dl : TargetDataLayout) (signed : Bool) (numbers : List ℕ) (i : Integer) : Type 0 where
  pub enough : integer_size dl.c_enum_min_size ≤ integer_size i
  pub holds : HoldsEach signed i numbers
  pub least : (j : Integer) → integer_size dl.c_enum_min_size ≤ integer_size j → HoldsEach signed j numbers
      → integer_size i ≤ integer_size j

-- the integer of the tag: the one that is named, else C's
abbrev pub IsTagInteger : TargetDataLayout → (named : Option IntegerType) → (numbers : List ℕ) → (signed : Bool) → Integer → Type 0
IsTagInteger dl (Some type) numbers signed i = (i ≡ integer_of_type dl type) × (signed ≡ is_signed_type type)
IsTagInteger dl None numbers signed i = IsCEnumInteger dl signed numbers i

-- a number of the integer
abbrev pub IsNumberOfInteger : TargetDataLayout → Placed → (signed : Bool) → Integer → Type 0
IsNumberOfInteger dl (scalar layout s) signed i =
    (primitive_of s ≡ Int i signed) × (extent_of (scalar layout s) ≡ integer_extent dl i)
IsNumberOfInteger dl _ signed i = ⊥

-- The enum with all fields removed: a number of such an integer.
abbrev pub IsTag : TargetDataLayout → ReprOptions → Variants → Placed → Type 0
IsTag dl repr all placed =
    (i : Integer) × (signed : Bool) × IsTagInteger dl repr.int (discriminants all) signed i × IsNumberOfInteger dl placed signed i
