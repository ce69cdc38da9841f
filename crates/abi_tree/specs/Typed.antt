-- How handles see nodes: each node's layout, what it says of itself, its fields and its variants.
use Rattle.std.specs.Prelude.{ℕ, List, [], ◌∷◌, ◌++◌, get_or, map}
use Rattle.abi_types.specs.Ty.Typed.{Marks, Typed, typed, no_type, no_marks}
use Rattle.abi_tree.specs.declared.node.Shape.{Shape}
use Rattle.abi_tree.specs.declared.node.Shape.TheVariants.{Pair, Never, Elements, Fields, Union, Vector, Single, Tagged, States}
use Rattle.abi_tree.specs.declared.node.Node.{Node}
use Rattle.abi_tree.specs.Mark.{marks_by}

-- The nodes of the fields, by index. A vector's one field is the array of its lanes; that of an enum with several variants is its tag; a
-- coroutine's are its prefix fields and, behind them, its tag.
abbrev pub field_nodes : Shape → List ℕ
field_nodes (Pair first second) = first ∷ second ∷ []
field_nodes (Fields mark children) = children.items
field_nodes (Union mark children) = children.items
field_nodes (Vector lanes) = lanes ∷ []
field_nodes (Single mark children) = children.items
field_nodes (Tagged mark tag variants) = tag ∷ []
field_nodes (States prefix tag all) = prefix.items ++ tag ∷ []
field_nodes _ = []

-- the nodes of the variants or states that a tag distinguishes, by index
abbrev pub variant_nodes : Shape → List ℕ
variant_nodes (Tagged mark tag variants) = map (λ v. v.1) variants.items
variant_nodes (States prefix tag all) = map (λ v. v.1) all.items
variant_nodes _ = []

-- what a node says of itself
abbrev pub marks_in : Shape → Marks
marks_in (Never mark) = marks_by mark
marks_in (Fields mark children) = marks_by mark
marks_in (Union mark children) = marks_by mark
marks_in (Single mark children) = marks_by mark
marks_in (Tagged mark tag variants) = marks_by mark
marks_in _ = no_marks

-- the type that stands at this place
abbrev pub type_in : List Typed → (place : ℕ) → Typed
type_in done i = get_or done i no_type

-- the type of the node that stands in a list of nodes at an index
abbrev pub type_by : List Typed → (nodes : List ℕ) → (index : ℕ) → Typed
type_by done nodes i = get_or (map (type_in done) nodes) i no_type

-- the type of a field: elements have one type
abbrev pub field_by : List Typed → Shape → (index : ℕ) → Typed
field_by done (Elements count element) i = type_in done element
field_by done shape i = type_by done (field_nodes shape) i

-- what a node is, after those before it
abbrev pub typed_node : List Typed → Node → Typed
typed_node done n = typed n.layout (marks_in n.shape) (field_by done n.shape) (type_by done (variant_nodes n.shape))

-- what all nodes are, after those that are done
abbrev pub all_typed : List Typed → List Node → List Typed
all_typed done [] = done
all_typed done (n ∷ ns) = all_typed (done ++ typed_node done n ∷ []) ns

-- what the node at this place is
abbrev pub typed_at : List Node → (place : ℕ) → Typed
typed_at ns i = type_in (all_typed [] ns) i
