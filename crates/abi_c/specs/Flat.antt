-- What is answered to a data layout string and the numbers of a type.
use Rattle.std.specs.Prelude.{◌≡◌, ℕ, ◌⊎◌, MatchBool, List, [], ◌∷◌, Result, Ok, Err}
use Rattle.std.specs.Str.{is_utf8}
use Rattle.abi_base.specs.declared.data_layout.TargetDataLayout.{TargetDataLayout}
use Rattle.abi_base.specs.declared.parse_error.TargetDataLayoutError.{TargetDataLayoutError}
use Rattle.abi_base.specs.declared.parse_error.TargetDataLayoutError.TheVariants as data_layout
use Rattle.abi_base.specs.DataLayoutFault.{Fault as Flaw, bad_space, bad_bits, missing_alignment, bad_alignment, unknown_pointer}
use Rattle.abi_tree.specs.Placed.{Placed}
use Rattle.abi_tree.specs.Tree.{Tree}
use Rattle.abi_c.specs.Numbers.FlatLayout.{flat_layout}
use Rattle.abi_c.specs.Numbers.FlatTree.{flat_tree, IsReadable}
use Rattle.abi_text.specs.DataLayoutLine.{data_layout_of}
use Rattle.rustc_abi.specs.declared.error.LayError.{LayError}
use Rattle.rustc_abi.specs.declared.error.LayError.TheVariants as lay
use Rattle.rustc_abi.specs.Fault.{IsFirstFault}
use Rattle.rustc_abi.specs.Laying.{IsLaying}
use Rattle.abi_c.specs.declared.flat.FlatAnswer.{FlatAnswer}
use Rattle.abi_c.specs.Lent.{Lent}

-- the number of why a type has no layout; 0 is want of memory
abbrev pub refusal_number : LayError → ℕ
refusal_number lay.OutOfMemory = 0
refusal_number lay.UnlawfulDataLayout = 1
refusal_number lay.BadIndex = 2
refusal_number lay.UnknownSpace = 3
refusal_number lay.BadRange = 4
refusal_number lay.BadAlign = 5
refusal_number lay.DuplicateDiscriminant = 6
refusal_number lay.DiscriminantTooWide = 7
refusal_number lay.NoState = 8
refusal_number lay.LocalTwice = 9
refusal_number lay.UnexpectedUnsized = 10
refusal_number lay.SizeOverflow = 11
refusal_number lay.EmptyUnion = 12
refusal_number lay.ReprConflict = 13
refusal_number lay.ZeroLengthSimdType = 14
refusal_number lay.OversizedSimdType = 15
refusal_number lay.NonPrimitiveSimdType = 16
refusal_number lay.BadOrder = 17

-- the number of what is wrong with a data layout string
abbrev pub flaw_number : Flaw → ℕ
flaw_number (bad_space text cause err) = 32
flaw_number (bad_bits kind text cause err) = 33
flaw_number (missing_alignment cause) = 34
flaw_number (bad_alignment cause err) = 35
flaw_number (unknown_pointer rest) = 36

-- the same, of the error that reports it
abbrev pub data_layout_error_number : TargetDataLayoutError → ℕ
data_layout_error_number (data_layout.InvalidAddressSpace text cause err) = 32
data_layout_error_number (data_layout.InvalidBits kind text cause err) = 33
data_layout_error_number (data_layout.MissingAlignment cause) = 34
data_layout_error_number (data_layout.InvalidAlignment cause err) = 35
data_layout_error_number (data_layout.UnknownPointerSpecification rest) = 36
data_layout_error_number data_layout.OutOfMemory = 0
data_layout_error_number _ = 37

-- A status, and the numbers beside it.
pub record Reply : Type 0 where
  pub status : ℕ
  pub numbers : List ℕ

-- the type is laid out, with the numbers of its layout; or refused for its first fault, with the fault's number
abbrev pub IsLayingReply : TargetDataLayout → Tree → Reply → Type 0
IsLayingReply dl t reply =
    ((placed : Placed) × IsLaying dl t (Ok placed) × (reply ≡ record { status = 0; numbers = flat_layout placed }))
    ⊎ ((e : LayError) × IsFirstFault dl t e × (reply ≡ record { status = 1; numbers = refusal_number e ∷ [] }))

-- The numbers are the type's, and no other's that can be read.
pub record AreNumbersOf (numbers : List ℕ) (t : Tree) : Type 0 where
  pub whole : numbers ≡ flat_tree t
  pub only : (u : Tree) → IsReadable 201 u → numbers ≡ flat_tree u → u ≡ t

-- no type that can be read has the numbers
abbrev pub AreNoNumbers : List ℕ → Type 0
AreNoNumbers numbers = (t : Tree) → IsReadable 201 t → numbers ≡ flat_tree t → ⊥

-- so much of a type that has the numbers; or that none has them
abbrev pub IsReplyOf : (Tree → Reply → Type 0) → List ℕ → Reply → Type 0
IsReplyOf P numbers reply =
    ((t : Tree) × AreNumbersOf numbers t × P t reply)
    ⊎ (AreNoNumbers numbers × (reply ≡ record { status = 2; numbers = 1 ∷ [] }))

-- so much under a data layout; or what is wrong with its string
abbrev pub IsReplyIn : (TargetDataLayout → Reply → Type 0) → Result TargetDataLayout Flaw → Reply → Type 0
IsReplyIn P (Ok dl) reply = P dl reply
IsReplyIn P (Err flaw) reply = reply ≡ record { status = 1; numbers = flaw_number flaw ∷ [] }

-- so much under the data layout of a string; or that the string isn't UTF-8
abbrev pub IsReplyUnder : (TargetDataLayout → Reply → Type 0) → (string : List ℕ) → Reply → Type 0
IsReplyUnder P string reply =
    MatchBool (is_utf8 string) (IsReplyIn P (data_layout_of string) reply) (reply ≡ record { status = 2; numbers = 0 ∷ [] })

-- such numbers, or that memory was wanting, are lent, and the status is theirs
abbrev pub IsLentReply : (Reply → Type 0) → (status : ℕ) → (old new : List ℕ) → (needed : ℕ) → Type 0
IsLentReply P status old new needed =
    (reply : Reply) × (P reply ⊎ (reply ≡ record { status = 1; numbers = 0 ∷ [] })) × (status ≡ reply.status)
    × Lent old new reply.numbers needed

-- what is answered of the layout of the type with these numbers under the data layout of a string
abbrev pub IsLayoutReply : (string numbers : List ℕ) → Reply → Type 0
IsLayoutReply string numbers = IsReplyUnder (λ dl. IsReplyOf (IsLayingReply dl) numbers) string

-- an answer, as the definitions see it
abbrev pub reply_of : FlatAnswer → Reply
reply_of answer = record { status = answer.status; numbers = answer.numbers.items }
