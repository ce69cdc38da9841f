-- Nodes as they are kept: each names its layout by the layout's place in a list.
use Rattle.std.specs.Prelude.{◌≡◌, ◌<◌, All, List, ◌++◌, get_or, length, map}
use Rattle.abi_scalar.specs.Layout.{Layout}
use Rattle.abi_types.specs.Ty.Typed.{no_layout}
use Rattle.abi_tree.specs.declared.node.Node.{Node}
use Rattle.abi_tree.specs.declared.nodes.Entry.{Entry}

-- the node that is kept so
abbrev pub entered : List Layout → Entry → Node
entered layouts entry = record { layout = get_or layouts entry.layout no_layout; shape = entry.shape }

-- the nodes that are kept so
abbrev pub nodes_of : List Layout → List Entry → List Node
nodes_of layouts entries = map (entered layouts) entries

-- each names a layout that is there
abbrev pub AreEntries : List Layout → List Entry → Type 0
AreEntries layouts entries = All (λ entry. entry.layout < length layouts) entries

-- some layouts may have been put behind others
abbrev pub KeepsLayouts : (old new : List Layout) → Type 0
KeepsLayouts old new = (more : List Layout) × (new ≡ old ++ more)
