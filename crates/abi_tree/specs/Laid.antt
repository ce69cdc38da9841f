-- Types that were laid out, as the definitions see them.
use Rattle.std.specs.Prelude.{ℕ, ◌-◌, length}
use Rattle.abi_base.specs.declared.endian.Endian.{Endian}
use Rattle.abi_types.specs.Ty.Typed.{Typed}
use Rattle.abi_tree.specs.declared.laid.Laid.{Laid}
use Rattle.abi_tree.specs.Placed.{Placed}
use Rattle.abi_tree.specs.Nodes.{root_of}
use Rattle.abi_tree.specs.Typed.{typed_at}

-- the type, with its parts
abbrev pub placed_of : Laid → Placed
placed_of laid = root_of laid.nodes

-- the type, as handles show it
abbrev pub typed_of : Laid → Typed
typed_of laid = typed_at laid.nodes (length laid.nodes - 1)

-- the order of a number's bytes in it
abbrev pub endian_of : Laid → Endian
endian_of laid = laid.endian

-- how many nodes it is laid out as
abbrev pub node_count_of : Laid → ℕ
node_count_of laid = length laid.nodes
