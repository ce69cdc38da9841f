-- The map of a type: a line for each maximal run of bytes that the same parts have.
use Rattle.std.specs.Prelude.{◌≡◌, ℕ, ◌+◌, List, [], ◌∷◌, ◌++◌, codes, get_or, map, nat_lt, Option, None, Some, if◌then◌else◌}
use Rattle.std.specs.Fmt.{decimal}
use Rattle.std.specs.List.{filter}
use Rattle.abi_base.specs.declared.data_layout.TargetDataLayout.{TargetDataLayout}
use Rattle.abi_scalar.specs.declared.niche.Niche.{Niche}
use Rattle.abi_scalar.specs.Niche.{available_in, niche_size}
use Rattle.abi_tree.specs.Placed.{Placed, layout_of, niche_of, size_of}
use Rattle.abi_text.specs.Printing.{size_line}
use Rattle.abi_tree.specs.declared.parts.PartName.{PartName}
use Rattle.abi_tree.specs.declared.parts.PartName.TheVariants.{Number, Elements, Lanes, Field, Tag, VariantField}
use Rattle.abi_tree.specs.Parts.{Part, all_parts}
use Rattle.abi_map.specs.Starts.{starts_of}

-- the names of the parts that have a byte
abbrev pub names_at : List Part → (k : ℕ) → List PartName
names_at parts k = map (λ part. part.name) (filter (λ part. part.has k) parts)

-- how a part is called
abbrev pub called_text : PartName → List ℕ
called_text Number = codes "number"
called_text Elements = codes "elements"
called_text Lanes = codes "lanes"
called_text (Field i) = codes "field " ++ decimal i
called_text Tag = codes "tag"
called_text (VariantField v i) = codes "variant " ++ decimal v ++ codes " field " ++ decimal i

-- names behind others, each part called so
abbrev pub more_names : (called : PartName → List ℕ) → List PartName → List ℕ
more_names called [] = []
more_names called (n ∷ names) = codes " | " ++ called n ++ more_names called names

-- names in a row; what has none is padding
abbrev pub names_text : (called : PartName → List ℕ) → List PartName → List ℕ
names_text called [] = codes "padding"
names_text called (n ∷ names) = called n ++ more_names called names

-- a run from a byte on up to another and without it
abbrev pub run_line : (called : PartName → List ℕ) → (start end : ℕ) → List PartName → List ℕ
run_line called start end names = decimal start ++ codes ".." ++ decimal end ++ codes " " ++ names_text called names ++ codes "\n"

-- the runs that begin at these bytes: each ends where the next begins, and the last at the size
abbrev pub run_lines : (called : PartName → List ℕ) → List Part → (size : ℕ) → (starts : List ℕ) → List ℕ
run_lines called parts size [] = []
run_lines called parts size (start ∷ starts) = run_line called start (get_or starts 0 size) (names_at parts start) ++ run_lines called parts size starts

-- all runs, of a type of at most 2 ^ 16 bytes
abbrev pub bytes_text : (called : PartName → List ℕ) → Placed → List ℕ
bytes_text called placed =
    if nat_lt 65536 (size_of placed) then codes "not drawn\n"
    else run_lines called (all_parts placed) (size_of placed) (starts_of (all_parts placed) (size_of placed))

-- the bytes of the largest niche, and how many numbers it has free
abbrev pub niche_text : TargetDataLayout → Option Niche → List ℕ
niche_text dl None = codes "niche none\n"
niche_text dl (Some n) =
    codes "niche " ++ decimal n.offset ++ codes ".." ++ decimal (n.offset + niche_size dl n) ++ codes " " ++ decimal (available_in dl n) ++ codes " free\n"

-- all that is told of a type whose parts are called so
abbrev pub map_text : (called : PartName → List ℕ) → TargetDataLayout → Placed → List ℕ
map_text called dl placed = size_line (layout_of placed) ++ bytes_text called placed ++ niche_text dl (niche_of placed)

-- the text is the map of the type, with its parts called by their indices
abbrev pub ReportsMap : TargetDataLayout → Placed → (text : List ℕ) → Type 0
ReportsMap dl placed text = text ≡ map_text called_text dl placed
