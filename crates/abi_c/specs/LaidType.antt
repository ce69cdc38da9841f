-- Types that are laid out from numbers under a string, and why one isn't.
use Rattle.std.specs.Prelude.{◌≡◌, ◌<◌, ℕ, true, List, [], ◌∷◌, Ok, ⊤}
use Rattle.std.specs.Str.{is_utf8}
use Rattle.abi_base.specs.declared.data_layout.TargetDataLayout.{TargetDataLayout}
use Rattle.abi_tree.specs.declared.laid.Laid.{Laid}
use Rattle.abi_tree.specs.Laid.{endian_of, placed_of}
use Rattle.abi_tree.specs.Placed.{Placed, layout_of}
use Rattle.abi_tree.specs.Reading.{KeepsValues}
use Rattle.abi_tree.specs.Tree.{Tree}
use Rattle.abi_tree.specs.Values.{LocalsHaveValues}
use Rattle.abi_text.specs.DataLayoutLine.{data_layout_of}
use Rattle.rustc_abi.specs.Laying.{IsLaying}
use Rattle.abi_c.specs.declared.laid_type.LayoutFailure.{LayoutFailure}
use Rattle.abi_c.specs.declared.laid_type.LayoutFailure.TheVariants.{Refused, OutOfMemory}
use Rattle.abi_c.specs.Flat.{AreNumbersOf, Reply}

-- The type with these numbers under the data layout of a string is laid out so.
pub record IsLaidType (string numbers : List ℕ) (dl : TargetDataLayout) (t : Tree) (placed : Placed) : Type 0 where
  pub text : is_utf8 string ≡ true
  pub said : data_layout_of string ≡ Ok dl
  pub whose : AreNumbersOf numbers t
  pub laying : IsLaying dl t (Ok placed)

-- The program's laid-out type is that of the tree, and keeps its values.
pub record IsLaidFrom (dl : TargetDataLayout) (t : Tree) (laid : Laid) : Type 0 where
  pub laying : IsLaying dl t (Ok (placed_of laid))
  pub aligned : (layout_of (placed_of laid)).align.abi < 64
  pub order : endian_of laid ≡ dl.endian
  pub keeps : LocalsHaveValues dl t → KeepsValues dl t laid

-- such numbers beside a status of no layout, want of memory aside
abbrev pub FailsAs : (Reply → Type 0) → LayoutFailure → Type 0
FailsAs P (Refused status number) = P (record { status = status; numbers = number ∷ [] }) × (0 < status)
FailsAs P OutOfMemory = ⊤
