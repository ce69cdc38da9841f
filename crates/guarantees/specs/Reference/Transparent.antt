-- `repr.transparent.layout-abi`: a transparent struct, or enum of one variant, is as large and as aligned as its one field that
-- isn't of size 0 and alignment 1, or as unit, and is passed as that is: a code generator sees both alike.
use Rattle.std.specs.Prelude.{◌≡◌, ◌==◌, ◌&&◌, ⊤, Bool, false, true, List, [], ◌∷◌, None, if◌then◌else◌}
use Rattle.abi_scalar.specs.declared.backend_repr.BackendRepr.TheVariants.{Memory}
use Rattle.abi_scalar.specs.declared.repr.ReprOptions.{ReprOptions}
use Rattle.abi_scalar.specs.Repr.{is_c, is_simd, is_transparent}
use Rattle.abi_tree.specs.Tree.{Tree, no_variants, more_variants, struct, enum}
use Rattle.abi_tree.specs.Placed.{Placed, Parts, no_parts, part, fields, layout_of, never, niche_of, single, size_of}
use Rattle.guarantees.specs.Reference.Words.{Extent, align_in_bytes, extent_of}

-- size 0 and alignment 1
abbrev pub is_one_zst : Placed → Bool
is_one_zst placed = (size_of placed == 0) && (align_in_bytes placed == 1)

-- the other fields
abbrev pub others : Parts → List Placed
others no_parts = []
others (part offset placed parts) = if is_one_zst placed then others parts else placed ∷ others parts

abbrev pub unit_extent : Extent
unit_extent = record { size = 0; align = 1 }

-- as the one of these fields, or as unit where there is none; more of them the representation doesn't allow
abbrev pub IsAsLargeAs : List Placed → (whole : Placed) → Type 0
IsAsLargeAs [] whole = extent_of whole ≡ unit_extent
IsAsLargeAs (field ∷ []) whole = extent_of whole ≡ extent_of field
IsAsLargeAs _ whole = ⊤

-- seen as this field, or as unit, which is bytes in memory
abbrev pub IsSeenAsField : List Placed → (whole : Placed) → Type 0
IsSeenAsField [] whole = (layout_of whole).backend_repr ≡ Memory true
IsSeenAsField (field ∷ []) whole = (layout_of whole).backend_repr ≡ (layout_of field).backend_repr
IsSeenAsField _ whole = ⊤

-- its largest niche is this field's; unit has none
abbrev pub HasNicheOf : List Placed → (whole : Placed) → Type 0
HasNicheOf [] whole = niche_of whole ≡ None
HasNicheOf (field ∷ []) whole = niche_of whole ≡ niche_of field
HasNicheOf _ whole = ⊤

-- all of it; seen so where neither C's representation nor a vector's, which is no attribute of a program, stands beside it
abbrev pub IsLaidAs : ReprOptions → List Placed → (whole : Placed) → Type 0
IsLaidAs repr left whole =
    IsAsLargeAs left whole × HasNicheOf left whole × (is_c repr ≡ false → is_simd repr ≡ false → IsSeenAsField left whole)

-- transparent, with neither `align` nor `packed`
abbrev pub IsPlainTransparent : ReprOptions → Type 0
IsPlainTransparent repr = (is_transparent repr ≡ true) × (repr.align ≡ None) × (repr.pack ≡ None)

-- and with no other representation
abbrev pub IsOnlyField : ReprOptions → Type 0
IsOnlyField repr = (is_c repr ≡ false) × (repr.int ≡ None)

-- an enum whose variant is absent is as unit: each of its fields has size 0 and alignment 1
abbrev pub IsTransparent : Tree → Placed → Type 0
IsTransparent (struct repr always_sized order all) (fields layout mark parts) =
    IsPlainTransparent repr → IsLaidAs repr (others parts) (fields layout mark parts)
IsTransparent (struct repr always_sized order all) _ = IsPlainTransparent repr → ⊥
IsTransparent (enum repr (more_variants discriminant ts no_variants)) (single layout mark index parts) =
    IsPlainTransparent repr → IsOnlyField repr → IsLaidAs repr (others parts) (single layout mark index parts)
IsTransparent (enum repr (more_variants discriminant ts no_variants)) (never layout mark) =
    IsPlainTransparent repr → IsOnlyField repr → IsLaidAs repr [] (never layout mark)
IsTransparent (enum repr (more_variants discriminant ts no_variants)) _ = IsPlainTransparent repr → IsOnlyField repr → ⊥
IsTransparent _ placed = ⊤
