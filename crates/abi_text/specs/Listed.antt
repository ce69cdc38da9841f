-- Sets of bytes that are listed behind the variants of a type.
use Rattle.std.specs.Prelude.{◌≡◌, ℕ, List, [], codes, get_or}
use Rattle.abi_index.specs.RangeSet.{AreMaximalRuns}
use Rattle.abi_types.specs.Ty.Runs.{IsVariantOfSeveral}
use Rattle.abi_tree.specs.Placed.{Placed, layout_of}
use Rattle.abi_text.specs.Printing.{range_lines, unused_lines}

-- a set for each variant that a tag tells apart, whose runs are written as the bytes that the variant doesn't use
abbrev pub ListsUnused : Placed → List (List (ℕ × ℕ)) → Type 0
ListsUnused placed sets = (i : ℕ) (runs : List (ℕ × ℕ)) → IsVariantOfSeveral (layout_of placed).variants i
    → runs ≡ get_or sets i [] → AreMaximalRuns 0 runs → range_lines (codes "unused") runs ≡ unused_lines placed i
