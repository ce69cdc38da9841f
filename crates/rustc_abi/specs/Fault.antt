-- Why a tree has no layout.
use Rattle.std.specs.Prelude.{◌≡◌, ◌⊎◌, Err}
use Rattle.abi_base.specs.declared.data_layout.TargetDataLayout.{TargetDataLayout}
use Rattle.abi_base.specs.DataLayout.{IsLawfulDataLayout}
use Rattle.rustc_abi.specs.declared.error.LayError.{LayError}
use Rattle.rustc_abi.specs.declared.error.LayError.TheVariants.{UnlawfulDataLayout, OutOfMemory}
use Rattle.abi_tree.specs.Tree.{Tree}
use Rattle.rustc_abi.specs.Laying.{IsLaying}

-- The first fault: of the data layout, else of a part, children before parents and left to right.
abbrev pub IsFirstFault : TargetDataLayout → Tree → LayError → Type 0
IsFirstFault dl tree e =
    ((IsLawfulDataLayout dl → ⊥) × (e ≡ UnlawfulDataLayout)) ⊎ (IsLawfulDataLayout dl × IsLaying dl tree (Err e))

-- memory aside, a refusal is the first fault
abbrev pub IsRefusedFor : TargetDataLayout → Tree → LayError → Type 0
IsRefusedFor dl tree e = (e ≡ OutOfMemory) ⊎ IsFirstFault dl tree e
