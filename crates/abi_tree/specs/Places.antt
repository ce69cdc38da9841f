-- Data places: the bytes of a type that decide which value they hold. All others are padding.
use Rattle.std.specs.Prelude.{ℕ, ◌-◌, ◌/◌, ◌%◌, ◌&&◌, ◌||◌, Bool, false, nat_lt, nat_le}
use Rattle.abi_tree.specs.Placed.{Placed, scalar, pair, never, elements, vector, fields, union, single, tagged, states, Parts, no_parts, part, TaggedVariants, nothing_tagged, tagged_variant, size_of}

abbrev mutual
  -- byte k of the type is a data place
  pub is_data_place : Placed → (k : ℕ) → Bool
  is_data_place (scalar layout s) k = nat_lt k layout.size
  is_data_place (pair layout parts) k = is_place_of_part parts k
  is_data_place (never layout mark) k = nat_lt k layout.size
  is_data_place (elements layout count element) k =
      nat_lt (k / size_of element) count && is_data_place element (k % size_of element)
  is_data_place (vector layout lanes) k = is_data_place lanes k
  is_data_place (fields layout mark parts) k = is_place_of_part parts k
  is_data_place (union layout mark parts) k = is_place_of_part parts k
  is_data_place (single layout mark index parts) k = is_place_of_part parts k
  is_data_place (tagged layout mark offset tag encoding tagged_variants) k =
      (nat_le offset k && is_data_place tag (k - offset)) || is_place_of_tagged_variant tagged_variants k
  is_data_place (states layout prefix offset tag tagged_variants) k =
      is_place_of_part prefix k || ((nat_le offset k && is_data_place tag (k - offset)) || is_place_of_tagged_variant tagged_variants k)

  -- byte k is a data place of some part
  pub is_place_of_part : Parts → (k : ℕ) → Bool
  is_place_of_part no_parts k = false
  is_place_of_part (part offset placed parts) k =
      (nat_le offset k && is_data_place placed (k - offset)) || is_place_of_part parts k

  -- byte k is a data place of some tagged variant
  pub is_place_of_tagged_variant : TaggedVariants → (k : ℕ) → Bool
  is_place_of_tagged_variant nothing_tagged k = false
  is_place_of_tagged_variant (tagged_variant number layout mark parts tagged_variants) k = is_place_of_part parts k || is_place_of_tagged_variant tagged_variants k
