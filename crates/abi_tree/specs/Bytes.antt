-- Numbers in bytes.
use Rattle.std.specs.Prelude.{ℕ, zero, suc, ◌+◌, ◌*◌, ◌<◌, List, [], ◌∷◌, Bool, true, false, All, take, drop, reverse}
use Rattle.abi_base.specs.declared.endian.Endian.{Endian}
use Rattle.abi_base.specs.declared.endian.Endian.TheVariants.{Little, Big}

-- each number is a byte
abbrev pub AreBytes : List ℕ → Type 0
AreBytes bytes = All (λ b. b < 256) bytes

-- the n bytes from the offset on
abbrev pub bytes_at : List ℕ → (offset n : ℕ) → List ℕ
bytes_at bytes offset n = take n (drop offset bytes)

-- the number that the bytes make, the least byte first
abbrev pub little : List ℕ → ℕ
little [] = 0
little (b ∷ bytes) = b + 256 * little bytes

-- the number that the bytes make
abbrev pub number_of : Endian → List ℕ → ℕ
number_of Little bytes = little bytes
number_of Big bytes = little (reverse bytes)

-- the byte in front, where the test holds
abbrev pub put_if : Bool → ℕ → List ℕ → List ℕ
put_if true b rest = b ∷ rest
put_if false b rest = rest

-- the bytes at the places that the test picks, ascending; the first byte's place is k
abbrev pub picked_bytes : (ℕ → Bool) → (k : ℕ) → List ℕ → List ℕ
picked_bytes p k [] = []
picked_bytes p k (b ∷ bytes) = put_if (p k) b (picked_bytes p (k + 1) bytes)

-- 1 where the test holds, and else 0
abbrev pub one_if : Bool → ℕ
one_if true = 1
one_if false = 0

-- how many of the n places from k on the test picks
abbrev pub count_picked : (ℕ → Bool) → (k n : ℕ) → ℕ
count_picked p k zero = 0
count_picked p k (suc n) = one_if (p k) + count_picked p (k + 1) n
