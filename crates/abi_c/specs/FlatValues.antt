-- What is answered to a value, or to bytes, of the type with the numbers.
use Rattle.std.specs.Prelude.{◌≡◌, ℕ, ◌<◌, ◌⊎◌, false, List, [], ◌∷◌, get_or}
use Rattle.abi_base.specs.declared.data_layout.TargetDataLayout.{TargetDataLayout}
use Rattle.abi_tree.specs.Covering.{is_covered}
use Rattle.abi_tree.specs.Holding.{Holds}
use Rattle.abi_tree.specs.Placed.{Placed}
use Rattle.abi_tree.specs.Tree.{Tree}
use Rattle.abi_tree.specs.Value.{Value}
use Rattle.abi_tree.specs.Values.{IsValueOf, LocalsHaveValues}
use Rattle.abi_c.specs.Numbers.FlatValue.{flat_value, IsReadableValue}
use Rattle.abi_c.specs.declared.values.BytesAnswer.{BytesAnswer}
use Rattle.abi_c.specs.Flat.{IsLayoutReply, Reply}
use Rattle.abi_c.specs.LaidType.{IsLaidType}

-- The numbers are the value's, and no other's that can be read.
pub record AreValueNumbers (numbers : List ℕ) (v : Value) : Type 0 where
  pub whole : numbers ≡ flat_value v
  pub only : (u : Value) → IsReadableValue 201 u → numbers ≡ flat_value u → u ≡ v

-- no value that can be read has the numbers
abbrev pub AreNoValueNumbers : List ℕ → Type 0
AreNoValueNumbers numbers = (v : Value) → IsReadableValue 201 v → numbers ≡ flat_value v → ⊥

-- The bytes hold the value, and are 0 wherever no part of it covers one. It is a value of the type, where each local of a
-- coroutine in that has one.
pub record AreBytesOf (dl : TargetDataLayout) (t : Tree) (placed : Placed) (v : Value) (b : List ℕ) : Type 0 where
  pub holds : Holds dl.endian placed b v
  pub uncovered : (k : ℕ) → is_covered placed v k ≡ false → get_or b k 0 ≡ 0
  pub value : LocalsHaveValues dl t → IsValueOf dl t placed v

-- The bytes hold the value. It is one of the type's and the only one that they hold, where each local of a coroutine in
-- that has one.
pub record IsValueIn (dl : TargetDataLayout) (t : Tree) (placed : Placed) (b : List ℕ) (v : Value) : Type 0 where
  pub holds : Holds dl.endian placed b v
  pub value : LocalsHaveValues dl t → IsValueOf dl t placed v
  pub only : LocalsHaveValues dl t → (u : Value) → Holds dl.endian placed b u → u ≡ v

-- the bytes of the value; or it is none of the type's, where each local of a coroutine in that has one
abbrev pub IsWritten : TargetDataLayout → Tree → Placed → Value → Reply → Type 0
IsWritten dl t placed v reply =
    ((reply.status ≡ 0) × AreBytesOf dl t placed v reply.numbers)
    ⊎ ((reply ≡ record { status = 3; numbers = [] }) × (LocalsHaveValues dl t → IsValueOf dl t placed v → ⊥))

-- the same of the value with these numbers; or no value has them
abbrev pub IsWrittenOf : (value : List ℕ) → TargetDataLayout → Tree → Placed → Reply → Type 0
IsWrittenOf value dl t placed reply =
    ((v : Value) × AreValueNumbers value v × IsWritten dl t placed v reply)
    ⊎ (AreNoValueNumbers value × (reply ≡ record { status = 2; numbers = 2 ∷ [] }))

-- the numbers of the value that the bytes hold; or they hold none
abbrev pub IsReadOf : (b : List ℕ) → TargetDataLayout → Tree → Placed → Reply → Type 0
IsReadOf b dl t placed reply =
    ((v : Value) × IsValueIn dl t placed b v × (reply ≡ record { status = 0; numbers = flat_value v }))
    ⊎ (((v : Value) → Holds dl.endian placed b v → ⊥) × (reply ≡ record { status = 3; numbers = [] }))

-- so much of the laid-out type; or what is answered of a type without a layout
abbrev pub IsReplyOfLaid : (TargetDataLayout → Tree → Placed → Reply → Type 0) → (string numbers : List ℕ) → Reply → Type 0
IsReplyOfLaid P string numbers reply =
    ((dl : TargetDataLayout) × (t : Tree) × (placed : Placed) × IsLaidType string numbers dl t placed × P dl t placed reply)
    ⊎ (IsLayoutReply string numbers reply × (0 < reply.status))

-- an answer in bytes, as the definitions see it
abbrev pub reply_of_bytes : BytesAnswer → Reply
reply_of_bytes answer = record { status = answer.status; numbers = answer.bytes.items }
