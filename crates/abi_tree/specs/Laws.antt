-- What each node keeps, so that handles of it keep their laws: its fields and its variants are those that its layout promises, and lie
-- inside.
use Rattle.std.specs.Prelude.{ℕ, ◌+◌, ◌*◌, ◌==◌, ◌&&◌, Bool, true, false, List, [], ◌∷◌, ◌++◌, length, map, nat_le, replicate}
use Rattle.std.specs.List.{list_all}
use Rattle.abi_scalar.specs.declared.fields_shape.FieldsShape.{FieldsShape}
use Rattle.abi_scalar.specs.declared.fields_shape.FieldsShape.TheVariants.{Primitive, Union as AtStart, Array, Arbitrary}
use Rattle.abi_scalar.specs.Variant.{variants_of}
use Rattle.abi_tree.specs.declared.node.Shape.{Shape}
use Rattle.abi_tree.specs.declared.node.Shape.TheVariants.{Elements}
use Rattle.abi_tree.specs.declared.node.Node.{Node}
use Rattle.abi_tree.specs.Placed.{Placed, fields, size_of}
use Rattle.abi_scalar.specs.Layout.{Layout}
use Rattle.abi_tree.specs.Nodes.{meaning, placed_in}
use Rattle.abi_tree.specs.Typed.{field_nodes, variant_nodes}

-- parts of these sizes, at these offsets, one offset for each, end inside the whole
abbrev pub end_inside : (whole : ℕ) → (offsets sizes : List ℕ) → Bool
end_inside whole [] [] = true
end_inside whole (o ∷ offsets) (m ∷ sizes) = nat_le (o + m) whole && end_inside whole offsets sizes
end_inside whole _ _ = false

-- the fields are as many as these sizes, and a list can have so many; each ends inside the whole
abbrev pub have_places : (whole : ℕ) → FieldsShape ℕ → (sizes : List ℕ) → Bool
have_places whole Primitive [] = true
have_places whole (AtStart count) sizes = end_inside whole (replicate count 0) sizes && nat_le count 0xFFFF_FF01
have_places whole (Arbitrary offsets order) sizes = end_inside whole offsets sizes && nat_le (length offsets) 0xFFFF_FF01
have_places whole _ sizes = false

-- elements of this size reach no further than to the next, and the last ends inside the whole
abbrev pub has_elements : (whole : ℕ) → FieldsShape ℕ → (size : ℕ) → Bool
has_elements whole (Array stride count) size = nat_le size stride && nat_le (stride * count) whole
has_elements whole _ size = false

-- the sizes of the nodes at these places
abbrev pub sizes_at : List Placed → (places : List ℕ) → List ℕ
sizes_at done places = map (λ i. size_of (placed_in done i)) places

-- the node has the fields that its layout promises, inside
abbrev pub has_fields : List Placed → Layout → Shape → Bool
has_fields done layout (Elements count element) = has_elements layout.size layout.fields (size_of (placed_in done element))
has_fields done layout shape = have_places layout.size layout.fields (sizes_at done (field_nodes shape))

-- the fields are listed one by one
abbrev pub is_listed : FieldsShape ℕ → Bool
is_listed (Arbitrary offsets order) = true
is_listed _ = false

-- a type has fields that are listed one by one
abbrev pub has_list : Placed → Bool
has_list (fields layout mark parts) = is_listed layout.fields
has_list _ = false

-- the nodes at these places do
abbrev pub have_lists : List Placed → (places : List ℕ) → Bool
have_lists done places = list_all (λ i. has_list (placed_in done i)) places

-- the variants are as many as the layout has, and each ends inside the whole and lists its fields one by one
abbrev pub has_variants : List Placed → Layout → Shape → Bool
has_variants done layout shape =
    (length (variants_of layout.variants) == length (variant_nodes shape))
    && (list_all (λ m. nat_le m layout.size) (sizes_at done (variant_nodes shape)) && have_lists done (variant_nodes shape))

-- a node keeps the laws, after those before it
abbrev pub keeps_laws : List Placed → Layout → Shape → Bool
keeps_laws done layout shape = has_fields done layout shape && has_variants done layout shape

-- all nodes do, after those that are done
abbrev pub keep_laws : List Placed → List Node → Bool
keep_laws done [] = true
keep_laws done (n ∷ ns) = keeps_laws done n.layout n.shape && keep_laws (done ++ meaning done n.layout n.shape ∷ []) ns
