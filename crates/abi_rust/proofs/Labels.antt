-- The names of parts, one more.
use Rattle.std.proofs.Common.{◌≡◌, ℕ, ◌+◌, ◌<◌, ◌≤◌, List, [], ◌∷◌, ◌++◌, length, map, take, get_or}
use Rattle.rust_source.specs.declared.item.Field.{Field}
use Rattle.rust_source.specs.declared.item.Variant.{Variant}
use Rattle.rust_source.specs.declared.place.Place.{Place}
use Rattle.abi_rust.specs.TypeReport.{label_of, variant_label}
use Rattle.abi_rust.proofs.Copies.{map_all, map_more}

module _ (file : Place) where
  pub fields_more : (fs : List Field) (i : ℕ) (f : Field) → i < length fs → f ≡ get_or fs i f → map (label_of file) (take (i + 1) fs) ≡ map (label_of file) (take i fs) ++ label_of file f ∷ []
  fields_more = map_more (label_of file)

  pub fields_all : (fs : List Field) (i : ℕ) → length fs ≤ i → map (label_of file) (take i fs) ≡ map (label_of file) fs
  fields_all = map_all (label_of file)

  pub variants_more : (vs : List Variant) (i : ℕ) (v : Variant) → i < length vs → v ≡ get_or vs i v → map (variant_label file) (take (i + 1) vs) ≡ map (variant_label file) (take i vs) ++ variant_label file v ∷ []
  variants_more = map_more (variant_label file)

  pub variants_all : (vs : List Variant) (i : ℕ) → length vs ≤ i → map (variant_label file) (take i vs) ≡ map (variant_label file) vs
  variants_all = map_all (variant_label file)
