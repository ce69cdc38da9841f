-- The data layout that a data layout string says.
use Rattle.std.specs.Prelude.{ℕ, List, Result}
use Rattle.abi_base.specs.declared.data_layout.TargetDataLayout.{TargetDataLayout}
use Rattle.abi_base.specs.DataLayoutFault.{Fault}
use Rattle.abi_base.specs.DataLayoutText.{data_layout_in}

-- the data layout, or the first fault; the default address space is 0
abbrev pub data_layout_of : (text : List ℕ) → Result TargetDataLayout Fault
data_layout_of text = data_layout_in (record { 0 = 0 }) text
