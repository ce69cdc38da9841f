-- Borrowed views of lists.
use Rattle.std.specs.Prelude.{List}
use Rattle.abi_index.specs.declared.index_slice.IndexSlice.{IndexSlice}

-- the items that a view shows (the names between braces stand for what the bound `Idx` brings)
abbrev pub items_of : {I T : Type 0} {idx : _} {eq : _} {hash : _} {debug : _} → IndexSlice I T idx eq hash debug → List T
items_of s = s.raw.now
