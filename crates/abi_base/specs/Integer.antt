-- Integer types.
use Rattle.std.specs.Prelude.{ℕ, Bool, true, false, ◌==◌, ◌&&◌, nat_le, ◌-◌, ◌*◌, ◌^◌, ◌<◌, List, [], ◌∷◌, ◌++◌, codes, ℤ, pos, neg_ℤ, ◌≤ℤ◌, ◌<ℤ◌}
use Rattle.std.specs.Fmt.{decimal}
use Rattle.abi_base.specs.declared.integer.Integer.{Integer}
use Rattle.abi_base.specs.declared.integer.Integer.TheVariants.{I8, I16, I32, I64, I128}
use Rattle.abi_base.specs.declared.data_layout.TargetDataLayout.{TargetDataLayout}

-- how many bytes an integer has
abbrev pub integer_size : Integer → ℕ
integer_size I8 = 1
integer_size I16 = 2
integer_size I32 = 4
integer_size I64 = 8
integer_size I128 = 16

-- its alignment, as an exponent of two
abbrev pub integer_align : TargetDataLayout → Integer → ℕ
integer_align dl I8 = dl.i8_align
integer_align dl I16 = dl.i16_align
integer_align dl I32 = dl.i32_align
integer_align dl I64 = dl.i64_align
integer_align dl I128 = dl.i128_align

-- each integer, the least first
abbrev pub integers : List Integer
integers = I8 ∷ I16 ∷ I32 ∷ I64 ∷ I128 ∷ []

-- the integers that a tag grows to, the greatest first
abbrev pub tag_integers : List Integer
tag_integers = I64 ∷ I32 ∷ I16 ∷ []

-- its alignment and its size both are so many bytes, by their exponent
abbrev pub is_of_align : TargetDataLayout → ℕ → Integer → Bool
is_of_align dl wanted i = (integer_align dl i == wanted) && (integer_size i == 2 ^ wanted)

-- its alignment and its size both are at most so many bytes, by their exponent
abbrev pub is_within_align : TargetDataLayout → ℕ → Integer → Bool
is_within_align dl wanted i = nat_le (integer_align dl i) wanted && nat_le (integer_size i) (2 ^ wanted)

-- the signed type has the number
abbrev pub HoldsSigned : Integer → ℤ → Type 0
HoldsSigned i x = (neg_ℤ (pos (2 ^ (integer_size i * 8 - 1))) ≤ℤ x) × (x <ℤ pos (2 ^ (integer_size i * 8 - 1)))

-- the unsigned type has the number
abbrev pub HoldsUnsigned : Integer → ℕ → Type 0
HoldsUnsigned i x = x < 2 ^ (integer_size i * 8)

-- the name of the signed type
abbrev pub signed_text : Integer → List ℕ
signed_text I8 = codes "i8"
signed_text I16 = codes "i16"
signed_text I32 = codes "i32"
signed_text I64 = codes "i64"
signed_text I128 = codes "i128"

-- the name of the unsigned type
abbrev pub unsigned_text : Integer → List ℕ
unsigned_text I8 = codes "u8"
unsigned_text I16 = codes "u16"
unsigned_text I32 = codes "u32"
unsigned_text I64 = codes "u64"
unsigned_text I128 = codes "u128"

-- the name of an integer type
abbrev pub integer_text : Integer → (signed : Bool) → List ℕ
integer_text integer true = signed_text integer
integer_text integer false = unsigned_text integer

-- what is said where no integer has so many bits
abbrev pub no_such_text : ℕ → List ℕ
no_such_text bits = codes "rust does not support integers with " ++ decimal bits ++ codes " bits"
