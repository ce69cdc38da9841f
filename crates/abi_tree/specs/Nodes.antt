-- What the nodes of a vector mean, each of which names only earlier ones.
use Rattle.std.specs.Prelude.{◌≡◌, ℕ, ◌-◌, ◌<◌, ◌≤◌, List, [], ◌∷◌, ◌++◌, get_or, length, map}
use Rattle.abi_scalar.specs.Shape.{listed_offsets}
use Rattle.abi_scalar.specs.declared.variants.TagEncoding.{TagEncoding}
use Rattle.abi_scalar.specs.declared.variants.TagEncoding.TheVariants.{Direct}
use Rattle.abi_scalar.specs.declared.variants.Variants.{Variants}
use Rattle.abi_scalar.specs.declared.variants.Variants.TheVariants.{Single as OneVariant, Multiple}
use Rattle.abi_tree.specs.Placed.{Placed, scalar, pair, never, elements, vector, fields, union, single, tagged, states, Parts, no_parts, part, TaggedVariants, nothing_tagged, tagged_variant, layout_of, nothing}
use Rattle.abi_scalar.specs.Layout.{Layout}
use Rattle.abi_tree.specs.declared.mark.Mark.{Mark}
use Rattle.abi_tree.specs.declared.mark.Mark.TheVariants.{Plain}
use Rattle.abi_tree.specs.declared.node.Shape.{Shape}
use Rattle.abi_tree.specs.declared.node.Shape.TheVariants.{Scalar, Pair, Never, Elements, Fields, Union, Vector, Single, Tagged, States}
use Rattle.abi_tree.specs.declared.node.Node.{Node}
use Rattle.abi_tree.specs.declared.node.NodeRef.{NodeRef}

-- the node that is lent
abbrev pub lent_node : NodeRef → Node
lent_node lent = record { layout = lent.layout.now; shape = lent.shape.now }

-- the type that stands at this place
abbrev pub placed_in : List Placed → ℕ → Placed
placed_in done i = get_or done i nothing

-- types at these offsets
abbrev pub parts_at : (offsets : List ℕ) → List Placed → Parts
parts_at (o ∷ offsets) (p ∷ ps) = part o p (parts_at offsets ps)
parts_at _ _ = no_parts

-- types that all begin at offset 0
abbrev pub parts_at_0 : List Placed → Parts
parts_at_0 ps = parts_at (map (λ p. 0) ps) ps

-- which variant is left, where one is
abbrev pub variant_left : Variants ℕ ℕ → ℕ
variant_left (OneVariant i) = i
variant_left _ = 0

-- where a tag lies: it is the one field of the whole enum
abbrev pub tag_offset : Layout → ℕ
tag_offset layout = get_or (listed_offsets layout.fields) 0 0

-- where the tag of a coroutine lies: behind so many prefix fields in the list of offsets
abbrev pub state_tag_offset : Layout → (prefix : ℕ) → ℕ
state_tag_offset layout prefix = get_or (listed_offsets layout.fields) prefix 0

-- how a tag distinguishes variants
abbrev pub encoding_of : Variants ℕ ℕ → TagEncoding ℕ
encoding_of (Multiple tag encoding field layouts) = encoding
encoding_of _ = Direct

-- the fields of a variant, which has a node of its own
abbrev pub own_fields : Placed → Parts
own_fields (fields layout mark parts) = parts
own_fields _ = no_parts

-- what it says of itself
abbrev pub own_mark : Placed → Mark
own_mark (fields layout mark parts) = mark
own_mark _ = Plain

-- a variant or state with this number, which has a node of its own, before others
abbrev pub own_tagged_variant : (number : ℕ) → Placed → TaggedVariants → TaggedVariants
own_tagged_variant number placed tagged_variants = tagged_variant number (layout_of placed) (own_mark placed) (own_fields placed) tagged_variants

-- variants or states beside a tag, each with its number
abbrev pub tagged_variants_in : List Placed → List (ℕ × ℕ) → TaggedVariants
tagged_variants_in done [] = nothing_tagged
tagged_variants_in done (v ∷ vs) = own_tagged_variant v.0 (placed_in done v.1) (tagged_variants_in done vs)

-- prefix fields, a tag, and states beside it
abbrev pub states_in : List Placed → Layout → (prefix : List ℕ) → (tag : ℕ) → (all : List (ℕ × ℕ)) → Placed
states_in done layout prefix tag all =
    states layout (parts_at (listed_offsets layout.fields) (map (placed_in done) prefix)) (state_tag_offset layout (length prefix)) (placed_in done tag)
    (tagged_variants_in done all)

-- what a node means, after those before it
abbrev pub meaning : List Placed → Layout → Shape → Placed
meaning done layout (Scalar s) = scalar layout s
meaning done layout (Pair first second) =
    pair layout (parts_at (listed_offsets layout.fields) (placed_in done first ∷ placed_in done second ∷ []))
meaning done layout (Never mark) = never layout mark
meaning done layout (Elements count element) = elements layout count (placed_in done element)
meaning done layout (Fields mark children) = fields layout mark (parts_at (listed_offsets layout.fields) (map (placed_in done) children.items))
meaning done layout (Union mark children) = union layout mark (parts_at_0 (map (placed_in done) children.items))
meaning done layout (Vector lanes) = vector layout (placed_in done lanes)
meaning done layout (Single mark children) =
    single layout mark (variant_left layout.variants) (parts_at (listed_offsets layout.fields) (map (placed_in done) children.items))
meaning done layout (Tagged mark tag variants) =
    tagged layout mark (tag_offset layout) (placed_in done tag) (encoding_of layout.variants) (tagged_variants_in done variants.items)
meaning done layout (States prefix tag all) = states_in done layout prefix.items tag all.items

-- the meanings of all nodes, after those that are done
abbrev pub meanings : List Placed → List Node → List Placed
meanings done [] = done
meanings done (n ∷ ns) = meanings (done ++ meaning done n.layout n.shape ∷ []) ns

-- what each node means
abbrev pub types_in : List Node → List Placed
types_in ns = meanings [] ns

-- what the node at this place means
abbrev pub placed_at : List Node → ℕ → Placed
placed_at ns i = placed_in (types_in ns) i

-- what the last node means
abbrev pub root_of : List Node → Placed
root_of ns = placed_at ns (length ns - 1)

-- each type that was there is there
pub record Keeps (old new : List Placed) : Type 0 where
  pub longer : length old ≤ length new
  pub same : (i : ℕ) → i < length old → placed_in new i ≡ placed_in old i
