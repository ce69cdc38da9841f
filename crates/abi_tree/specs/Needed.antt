-- The nodes that a node's data places rest on, and the runs that are made of those of the nodes that it names.
use Rattle.std.specs.Prelude.{◌≡◌, ◌↔◌, ℕ, ◌+◌, ◌-◌, ◌==◌, ◌<◌, ◌≤◌, ◌&&◌, ◌||◌, Bool, true, false, not, List, [], ◌∷◌, ◌++◌, None, Option, Some, get_or, length, map, take}
use Rattle.std.specs.List.{list_any}
use Rattle.abi_index.specs.RangeSet.{AreMaximalRuns, is_in_ranges}
use Rattle.abi_index.specs.Runs.{moved_to}
use Rattle.abi_scalar.specs.Shape.{listed_offsets}
use Rattle.abi_tree.specs.declared.node.Shape.{Shape}
use Rattle.abi_tree.specs.declared.node.Shape.TheVariants.{Scalar, Pair, Never, Elements, Fields, Union, Vector, Single, Tagged, States}
use Rattle.abi_tree.specs.declared.node.Node.{Node}
use Rattle.abi_tree.specs.declared.node.NodeRef.{NodeRef}
use Rattle.abi_tree.specs.Bytes.{count_picked}
use Rattle.abi_tree.specs.Placed.{Placed, size_of}
use Rattle.abi_scalar.specs.Layout.{Layout}
use Rattle.abi_tree.specs.Places.{is_data_place, is_place_of_part}
use Rattle.abi_tree.specs.Nodes.{lent_node, meaning, own_fields, placed_at, placed_in}
use Rattle.abi_tree.specs.Typed.{variant_nodes}
use Rattle.abi_tree.specs.Laws.{keep_laws}
use Rattle.abi_tree.specs.Room.{has_room}
use Rattle.abi_tree.specs.Well.{are_nodes}

-- those of these nodes that have an offset in the layout
abbrev pub placed_nodes : Layout → (children : List ℕ) → List ℕ
placed_nodes layout children = take (length (listed_offsets layout.fields)) children

-- the nodes whose data places are those of a node: its parts, its tag and its variants
abbrev pub named_by : Layout → Shape → List ℕ
named_by layout (Scalar s) = []
named_by layout (Pair first second) = placed_nodes layout (first ∷ second ∷ [])
named_by layout (Never mark) = []
named_by layout (Elements count element) = element ∷ []
named_by layout (Fields mark children) = placed_nodes layout children.items
named_by layout (Union mark children) = children.items
named_by layout (Vector lanes) = lanes ∷ []
named_by layout (Single mark children) = placed_nodes layout children.items
named_by layout (Tagged mark tag variants) = tag ∷ map (λ v. v.1) variants.items
named_by layout (States prefix tag all) = placed_nodes layout prefix.items ++ tag ∷ map (λ v. v.1) all.items

-- this place is one of these
abbrev pub is_among : List ℕ → (place : ℕ) → Bool
is_among places i = list_any (λ j. j == i) places

-- these places are marked, beside those that were
abbrev pub MarksPlaces : (old new : List Bool) → (places : List ℕ) → Type 0
MarksPlaces old new places = (length new ≡ length old) × ((i : ℕ) → get_or new i false ≡ (get_or old i false || is_among places i))

-- the node at this place is kept
abbrev pub IsKept : List (Option NodeRef) → (place : ℕ) → Type 0
IsKept kept i = (n : NodeRef) × (get_or kept i None ≡ Some n)

-- the data places of the node at the first place are made of those of the node at the second: it has bytes, and names it
abbrev pub AreMadeFrom : List Node → (place other : ℕ) → Type 0
AreMadeFrom ns i j =
    (n : Node) × (i < length ns) × (n ≡ get_or ns i n) × (0 < n.layout.size) × (is_among (named_by n.layout n.shape) j ≡ true)

-- the set has the root, and with each place those of which its node's data places are made
pub record IsClosed (ns : List Node) (root : ℕ) (set : ℕ → Bool) : Type 0 where
  pub first : set root ≡ true
  pub step : (i j : ℕ) → set i ≡ true → AreMadeFrom ns i j → set j ≡ true

-- the data places of the root rest on the node at this place: each such set has it
abbrev pub RestsOn : List Node → (root place : ℕ) → Type 0
RestsOn ns root i = (set : ℕ → Bool) → IsClosed ns root set → set i ≡ true

-- A set has those nodes that the root's data places rest on, and no other; there are so many.
pub record AreVisits (ns : List Node) (root count : ℕ) : Type 0 where
  pub nodes : ℕ → Bool
  pub rest : (i : ℕ) → (nodes i ≡ true) ↔ RestsOn ns root i
  pub many : count ≡ count_picked nodes 0 (length ns)

-- Nodes are kept at their own places: the last one, and with each that has bytes all whose data places are its own. Each has room.
pub record AreNeeded (ns : List Node) (kept : List (Option NodeRef)) : Type 0 where
  pub well : are_nodes 0 ns ≡ true
  pub laws : keep_laws [] ns ≡ true
  pub some : 0 < length kept
  pub long : length kept ≤ length ns
  pub last : IsKept kept (length kept - 1)
  pub own : (i : ℕ) (n : NodeRef) → get_or kept i None ≡ Some n → (lent_node n ≡ get_or ns i (lent_node n)) × (has_room (placed_at ns i) ≡ true)
  pub named : (i : ℕ) (n : NodeRef) → get_or kept i None ≡ Some n → 0 < n.layout.now.size → (j : ℕ) → is_among (named_by n.layout.now n.shape.now) j ≡ true → IsKept kept j

-- a set was made for this place
abbrev pub IsSet : (done : List (List (ℕ × ℕ))) → (place : ℕ) → Type 0
IsSet done i = (i < length done) × AreMaximalRuns 0 (get_or done i [])

-- it has this type's data places
abbrev pub IsMade : Placed → (done : List (List (ℕ × ℕ))) → (place : ℕ) → Type 0
IsMade placed done i = IsSet done i × ((k : ℕ) → is_in_ranges (get_or done i []) k ≡ is_data_place placed k)

-- The kept nodes before a place have their sets.
pub record AreMade (ns : List Node) (kept : List (Option NodeRef)) (at : ℕ) (done : List (List (ℕ × ℕ))) : Type 0 where
  pub long : length done ≡ at
  pub made : (j : ℕ) → j < at → IsKept kept j → IsMade (placed_at ns j) done j

-- The data places of each kept node are at hand.
pub record HaveSets (ns : List Node) (kept : List (Option NodeRef)) (sets : List (List (ℕ × ℕ))) : Type 0 where
  pub needed : AreNeeded ns kept
  pub made : AreMade ns kept (length kept) sets

-- this node, put at a place, is a part of another that stands later: it is kept, and ends inside so many bytes
abbrev pub IsPartAt : List Node → List (Option NodeRef) → (node whole place child : ℕ) → Type 0
IsPartAt ns kept node whole place child = (child < node) × IsKept kept child × (place + size_of (placed_at ns child) ≤ whole)

-- A node has room after these types. If it has bytes, the sets of all nodes whose data places are its own are made, and its variants
-- have no data places but those of their fields.
pub record IsMadeOf (types : List Placed) (node : Node) (done : List (List (ℕ × ℕ))) : Type 0 where
  pub room : has_room (meaning types node.layout node.shape) ≡ true
  pub named : 0 < node.layout.size → (j : ℕ) → is_among (named_by node.layout node.shape) j ≡ true → IsMade (placed_in types j) done j
  pub own : (j : ℕ) → is_among (variant_nodes node.shape) j ≡ true → (k : ℕ) → is_data_place (placed_in types j) k ≡ is_place_of_part (own_fields (placed_in types j)) k

-- the sets that were made for these places
abbrev pub sets_at : (done : List (List (ℕ × ℕ))) → (places : List ℕ) → List (List (ℕ × ℕ))
sets_at done places = map (λ i. get_or done i []) places

-- one of these sets, each at its offset, has the byte
abbrev pub parts_cover : (offsets : List ℕ) → List (List (ℕ × ℕ)) → (k : ℕ) → Bool
parts_cover (o ∷ offsets) (set ∷ sets) k = moved_to o (is_in_ranges set) k || parts_cover offsets sets k
parts_cover _ _ k = false

-- one of these sets has the byte
abbrev pub some_covers : List (List (ℕ × ℕ)) → (k : ℕ) → Bool
some_covers sets k = list_any (λ set. is_in_ranges set k) sets

-- a child lies at an offset in so many bytes, and ends inside; its set is made, where there are any
abbrev pub IsPartMade : List Placed → (done : List (List (ℕ × ℕ))) → (size offset child : ℕ) → Type 0
IsPartMade types done size offset child =
    (0 < size → IsMade (placed_in types child) done child) × (offset + size_of (placed_in types child) ≤ size) × (has_room (placed_in types child) ≡ true)

-- so do children, each at its offset
abbrev pub ArePartsMade : List Placed → (done : List (List (ℕ × ℕ))) → (size : ℕ) → (offsets children : List ℕ) → Type 0
ArePartsMade types done size offsets children =
    (i : ℕ) → i < length offsets → i < length children → IsPartMade types done size (get_or offsets i 0) (get_or children i 0)

-- the numbers and the nodes of the variants or states that a tag distinguishes
abbrev pub numbered_nodes : Shape → List (ℕ × ℕ)
numbered_nodes (Tagged mark tag variants) = variants.items
numbered_nodes (States prefix tag all) = all.items
numbered_nodes _ = []

-- a set for each of the first variants, so many: of these bytes those that the variant's own set doesn't have
abbrev pub LeaveOut : (bytes : List (ℕ × ℕ)) → (done : List (List (ℕ × ℕ))) → (variants : List (ℕ × ℕ)) → (count : ℕ) → (sets : List (List (ℕ × ℕ))) → Type 0
LeaveOut bytes done variants count sets =
    (length sets ≡ count)
    × ((v k : ℕ) → v < count → is_in_ranges (get_or sets v []) k ≡ (is_in_ranges bytes k && not (is_in_ranges (get_or done (get_or variants v (0, 0)).1 []) k)))
