-- Where runs begin: the bytes whose parts aren't those of the byte before.
use Rattle.std.specs.Prelude.{ℕ, ◌&&◌, ◌||◌, ◌==◌, Bool, not, List}
use Rattle.std.specs.List.{filter, list_any, range_with_len}
use Rattle.abi_index.specs.Runs.{moved_to}
use Rattle.abi_tree.specs.Parts.{Part}

-- the part has the byte before this one
abbrev pub had : Part → (k : ℕ) → Bool
had part k = moved_to 1 part.has k

-- the part begins at the byte, or it ended at the one before
abbrev pub changes : Part → (k : ℕ) → Bool
changes part k = (part.has k && not (had part k)) || (had part k && not (part.has k))

-- a run begins at the byte: it is the first, or some part changes there
abbrev pub is_start : List Part → (k : ℕ) → Bool
is_start parts k = (k == 0) || list_any (λ part. changes part k) parts

-- the bytes below the size at which runs begin, ascending
abbrev pub starts_of : List Part → (size : ℕ) → List ℕ
starts_of parts size = filter (is_start parts) (range_with_len 0 size)
