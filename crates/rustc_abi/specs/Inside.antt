-- The fields of each variant end inside the variant, and the variant inside the whole; it is flagged as having no value only where a field
-- is.
use Rattle.std.specs.Prelude.{◌≡◌, ℕ, ◌+◌, ◌≤◌, List, [], ◌∷◌, map, true, ⊤}
use Rattle.std.specs.List.{list_any}
use Rattle.abi_scalar.specs.declared.variants.VariantLayout.{VariantLayout}
use Rattle.abi_tree.specs.Placed.{Placed, layout_of, size_of}

-- parts of these sizes, at these offsets, one offset for each, end inside the whole
abbrev pub EndInside : (whole : ℕ) → (offsets sizes : List ℕ) → Type 0
EndInside whole [] [] = ⊤
EndInside whole (o ∷ offsets) (m ∷ sizes) = (o + m ≤ whole) × EndInside whole offsets sizes
EndInside whole _ _ = ⊥

-- the variant is flagged only where one of its fields is
abbrev pub IsFlaggedByField : VariantLayout ℕ → (fields : List Placed) → Type 0
IsFlaggedByField layout fields = layout.uninhabited ≡ true → list_any (λ l. l.uninhabited) (map layout_of fields) ≡ true

-- there is a layout for each variant, which is no larger than the whole, and flagged only where one of the variant's fields is; these
-- end inside it
abbrev pub VariantsInside : (whole : ℕ) → List (VariantLayout ℕ) → List (List Placed) → Type 0
VariantsInside whole [] [] = ⊤
VariantsInside whole (layout ∷ layouts) (fields ∷ variants) =
    (layout.size ≤ whole) × EndInside layout.size layout.field_offsets (map size_of fields) × VariantsInside whole layouts variants
    × IsFlaggedByField layout fields
VariantsInside whole _ _ = ⊥
