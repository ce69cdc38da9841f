-- What is answered of the bytes of types with the numbers.
use Rattle.std.specs.Prelude.{◌≡◌, ℕ, ◌<◌, ◌⊎◌, ◌||◌, ◌++◌, ◌∷◌, List}
use Rattle.abi_base.specs.declared.data_layout.TargetDataLayout.{TargetDataLayout}
use Rattle.abi_tree.specs.declared.laid.Laid.{Laid}
use Rattle.abi_tree.specs.Laid.{placed_of}
use Rattle.abi_tree.specs.Placed.{Placed}
use Rattle.abi_tree.specs.Tree.{Tree}
use Rattle.abi_bytes.specs.Answers.{SaysFromBytes, SaysFromZeros, SaysGoes, SaysIntoBytes, has_pointer}
use Rattle.abi_bytes.specs.GoesInto.{Stored, stored_of}
use Rattle.abi_bytes.specs.declared.answers.FromBytes.{FromBytes}
use Rattle.abi_bytes.specs.declared.answers.FromZeros.{FromZeros}
use Rattle.abi_bytes.specs.declared.answers.Goes.{Goes}
use Rattle.abi_bytes.specs.declared.answers.IntoBytes.{IntoBytes}
use Rattle.abi_c.specs.Flat.{IsLayoutReply, Reply}
use Rattle.abi_c.specs.LaidType.{IsLaidFrom, IsLaidType}
use Rattle.abi_c.specs.Numbers.FlatCells.{flat_from, flat_goes, flat_into, flat_zeros}
use Rattle.abi_c.specs.Numbers.Pieces.{flat_bool}

-- Whether zero bytes hold the type, whether all bytes do, and whether all that holds it is initialised.
pub record AreByteAnswers (a : Stored) (z : FromZeros) (f : FromBytes) (i : IntoBytes) : Type 0 where
  pub zeros : SaysFromZeros a z
  pub from : SaysFromBytes a f
  pub into : SaysIntoBytes a i

-- these three, one behind another
abbrev pub IsBytesOf : TargetDataLayout → Tree → Placed → Reply → Type 0
IsBytesOf dl t placed reply =
    (z : FromZeros) × (f : FromBytes) × (i : IntoBytes) × AreByteAnswers (record { order = dl.endian; placed = placed }) z f i
    × (reply ≡ record { status = 0; numbers = flat_zeros z ++ flat_from f ++ flat_into i })

-- whether some number of the two is a pointer, and whether each value of the one is one of the other
abbrev pub IsTransmuteOf : (a b : Laid) → Reply → Type 0
IsTransmuteOf a b reply =
    (g : Goes) × SaysGoes (stored_of a) (stored_of b) g
    × (reply ≡ record { status = 0; numbers = flat_bool (has_pointer a || has_pointer b) ∷ flat_goes g })

-- The type with these numbers under the data layout of a string is laid out as the program has it.
pub record IsLaidAs (string numbers : List ℕ) (laid : Laid) : Type 0 where
  pub dl : TargetDataLayout
  pub tree : Tree
  pub type : IsLaidType string numbers dl tree (placed_of laid)
  pub from : IsLaidFrom dl tree laid

-- what is answered of a type without a layout
abbrev pub IsReplyOfNone : (string numbers : List ℕ) → Reply → Type 0
IsReplyOfNone string numbers reply = IsLayoutReply string numbers reply × (0 < reply.status)

-- so much of two laid-out types; or what is answered of the first that has no layout
abbrev pub IsReplyOfTwo : (Laid → Laid → Reply → Type 0) → (string first second : List ℕ) → Reply → Type 0
IsReplyOfTwo P string first second reply =
    ((a b : Laid) × IsLaidAs string first a × IsLaidAs string second b × P a b reply)
    ⊎ IsReplyOfNone string first reply
    ⊎ ((a : Laid) × IsLaidAs string first a × IsReplyOfNone string second reply)
