-- What it means to read a value out of bytes.
use Rattle.std.specs.Prelude.{◌≡◌, ℕ, ◌+◌, ◌≤◌, Bool, List, length, MatchBool, Option, MatchOption, Vec, ⊤}
use Rattle.std.specs.declared.alloc.Global.{Global}
use Rattle.abi_base.specs.declared.data_layout.TargetDataLayout.{TargetDataLayout}
use Rattle.abi_base.specs.declared.endian.Endian.{Endian}
use Rattle.abi_scalar.specs.declared.variants.TagEncoding.{TagEncoding}
use Rattle.abi_tree.specs.declared.laid.Laid.{Laid}
use Rattle.abi_tree.specs.declared.value.Value.{Value as Kept}
use Rattle.abi_tree.specs.Value.{Value, number, two, list, Values, no_values, more_values, value_of, values_of}
use Rattle.abi_tree.specs.Placed.{Placed, Parts, TaggedVariants, size_of}
use Rattle.abi_tree.specs.Tag.{Names}
use Rattle.abi_tree.specs.Tree.{Tree}
use Rattle.abi_tree.specs.Laid.{endian_of, placed_of}
use Rattle.abi_tree.specs.Faithful.{EachValueIsHeld, OnlyValuesAreHeld, NoBytesHoldTwo}
use Rattle.abi_tree.specs.Untagged.{UntaggedNamed}
use Rattle.abi_tree.specs.Holding.{HoldTaggedVariant, HoldParts, Holds, tag_at}

-- the number of which P holds, or None where it holds of none
abbrev pub FindsNumber : (ℕ → Type 0) → Option ℕ → Type 0
FindsNumber P found = MatchOption found ((n : ℕ) → P n → ⊥) P

-- the value of which P holds, or None where it holds of none
abbrev pub Finds : (Value → Type 0) → Option Kept → Type 0
Finds P found = MatchOption found ((v : Value) → P v → ⊥) (λ v. P (value_of v))

-- the values of which P holds, or None where it holds of none
abbrev pub FindsEach : (Values → Type 0) → Option (Vec Kept Global) → Type 0
FindsEach P found = MatchOption found ((vs : Values) → P vs → ⊥) (λ vs. P (values_of vs.items))

-- the index and the values beside it of which P holds, or None where it holds of none
abbrev pub FindsNamed : (ℕ → Values → Type 0) → Option (ℕ × Vec Kept Global) → Type 0
FindsNamed P found = MatchOption found ((i : ℕ) (vs : Values) → P i vs → ⊥) (λ named. P named.0 (values_of named.1.items))

-- the value is of two numbers, and two parts hold them
abbrev pub HoldsTwo : Endian → Parts → List ℕ → Value → Type 0
HoldsTwo order parts b (two n m) = HoldParts order parts b (more_values (number n) (more_values (number m) no_values))
HoldsTwo order parts b _ = ⊥

-- the bytes hold at most one value
abbrev pub HoldOne : Endian → Placed → List ℕ → Type 0
HoldOne order p b = (u w : Value) → Holds order p b u → Holds order p b w → u ≡ w

-- whether the bytes hold the value, where they hold at most one
abbrev pub AnswersHeld : Endian → Placed → List ℕ → Value → Bool → Type 0
AnswersHeld order p b v tag_layout = MatchBool tag_layout (Holds order p b v) (HoldOne order p b → Holds order p b v → ⊥)

-- it is a list
abbrev pub IsList : Value → Type 0
IsList (list vs) = ⊤
IsList _ = ⊥

-- the number of the tag at the offset names this tagged variant, and it holds these values
abbrev pub IsNamedIn : Endian → (b : List ℕ) → TagEncoding ℕ → (offset : ℕ) → (tag : Placed) → TaggedVariants → (index : ℕ) → Values → Type 0
IsNamedIn order b encoding offset tag tagged_variants i vs =
    (offset + size_of tag ≤ length b) × Names encoding (size_of tag) tagged_variants (tag_at order b offset (size_of tag)) i × HoldTaggedVariant order tagged_variants i b vs

-- The laid-out type keeps the values of a tree under a data layout.
pub record KeepsValues (dl : TargetDataLayout) (tree : Tree) (laid : Laid) : Type 0 where
  pub order : endian_of laid ≡ dl.endian
  pub exists : EachValueIsHeld dl tree (placed_of laid)
  pub only : OnlyValuesAreHeld dl tree (placed_of laid)
  pub unique : NoBytesHoldTwo dl (placed_of laid)
  pub untagged : UntaggedNamed dl.endian (placed_of laid)
