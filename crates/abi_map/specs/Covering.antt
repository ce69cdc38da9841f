-- Which starts have which names.
use Rattle.std.specs.Prelude.{◌≡◌, ℕ, ◌<◌, List, [], ◌∷◌, ◌++◌, Vec, get_or, length, map, if◌then◌else◌}
use Rattle.std.specs.declared.alloc.Global.{Global}
use Rattle.abi_index.specs.RangeSet.{is_in_run}
use Rattle.abi_tree.specs.declared.parts.PartName.{PartName}
use Rattle.abi_tree.specs.Parts.{Part}
use Rattle.abi_map.specs.Map.{names_at}

-- each number is below those behind it
abbrev pub AreAscending : List ℕ → Type 0
AreAscending starts = (i j : ℕ) → i < j → j < length starts → get_or starts i 0 < get_or starts j 0

-- the name, where the run has the byte
abbrev pub name_at : PartName → (run : ℕ × ℕ) → (k : ℕ) → List PartName
name_at name run k = if is_in_run k run then name ∷ [] else []

-- the name, where the part has the byte
abbrev pub name_of : Part → (k : ℕ) → List PartName
name_of part k = if part.has k then part.name ∷ [] else []

-- the names at a place
abbrev pub names_of : List (Vec PartName Global) → (s : ℕ) → List PartName
names_of names s = get_or (map (λ v. v.items) names) s []

-- there are as many lists of names as there were, and each start gets these names behind those that it had
abbrev pub PutsNames : (starts : List ℕ) → (old new : List (Vec PartName Global)) → (puts : ℕ → List PartName) → Type 0
PutsNames starts old new puts =
    (length new ≡ length old) × ((s : ℕ) → s < length starts → names_of new s ≡ names_of old s ++ puts (get_or starts s 0))

-- each start has the names of the parts that have it
abbrev pub HaveNames : List Part → (starts : List ℕ) → List (Vec PartName Global) → Type 0
HaveNames parts starts names =
    (length names ≡ length starts) × ((s : ℕ) → s < length starts → names_of names s ≡ names_at parts (get_or starts s 0))
