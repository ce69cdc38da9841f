-- Which bytes of a type a value's parts cover: all others are its padding, or other variants'.
use Rattle.std.specs.Prelude.{ℕ, zero, suc, ◌+◌, ◌-◌, ◌==◌, ◌&&◌, ◌||◌, Bool, true, false, not, nat_le, nat_lt}
use Rattle.abi_scalar.specs.declared.variants.TagEncoding.{TagEncoding}
use Rattle.abi_scalar.specs.declared.variants.TagEncoding.TheVariants.{Direct, Niche}
use Rattle.abi_tree.specs.Value.{Value, number, two, list, variant, state, bytes, Values, no_values, more_values}
use Rattle.abi_tree.specs.Placed.{Placed, scalar, pair, elements, vector, fields, union, single, tagged, states, Parts, part, TaggedVariants, nothing_tagged, tagged_variant, size_of}
use Rattle.abi_tree.specs.Places.{is_data_place}

-- the variant has a number of its own in the tag: the untagged one has none
abbrev pub is_tagged : TagEncoding ℕ → (index : ℕ) → Bool
is_tagged Direct i = true
is_tagged (Niche untagged span start) i = not (i == untagged)

-- byte k is one of the n bytes from the offset on
abbrev pub is_byte_at : (offset n k : ℕ) → Bool
is_byte_at offset n k = nat_le offset k && nat_lt (k - offset) n

-- byte k is covered by one of the values, which lie one after another from the offset on
abbrev pub each_covered : (Value → ℕ → Bool) → (n offset : ℕ) → Values → (k : ℕ) → Bool
each_covered covered n offset no_values k = false
each_covered covered n offset (more_values v vs) k = (is_byte_at offset n k && covered v (k - offset)) || each_covered covered n (offset + n) vs k

abbrev mutual
  -- byte k of the type is covered by the value, or by a part of it
  pub is_covered : Placed → Value → (k : ℕ) → Bool
  is_covered (scalar layout s) (number n) k = nat_lt k layout.size
  is_covered (pair layout parts) (two n m) k = are_covered parts (more_values (number n) (more_values (number m) no_values)) k
  is_covered (elements layout count element) (list vs) k = each_covered (is_covered element) (size_of element) 0 vs k
  is_covered (vector layout lanes) (list vs) k = is_byte_at 0 (size_of lanes) k && is_covered lanes (list vs) k
  is_covered (fields layout mark parts) (list vs) k = are_covered parts vs k
  is_covered (union layout mark parts) (bytes content) k = is_data_place (union layout mark parts) k
  is_covered (single layout mark index parts) (variant i vs) k = are_covered parts vs k
  is_covered (tagged layout mark offset tag encoding tagged_variants) (variant i vs) k =
      (is_tagged encoding i && is_byte_at offset (size_of tag) k) || is_tagged_variant_covered tagged_variants i vs k
  is_covered (states layout prefix offset tag tagged_variants) (state i ps vs) k =
      are_covered prefix ps k || (is_byte_at offset (size_of tag) k || is_tagged_variant_covered tagged_variants i vs k)
  is_covered _ v k = false

  -- byte k is covered by the value of some part
  pub are_covered : Parts → Values → (k : ℕ) → Bool
  are_covered (part offset placed parts) (more_values v vs) k = (is_byte_at offset (size_of placed) k && is_covered placed v (k - offset)) || are_covered parts vs k
  are_covered _ vs k = false

  -- byte k is covered by the value of some part of the tagged variant with this index
  pub is_tagged_variant_covered : TaggedVariants → (index : ℕ) → Values → (k : ℕ) → Bool
  is_tagged_variant_covered nothing_tagged i vs k = false
  is_tagged_variant_covered (tagged_variant code layout mark parts tagged_variants) zero vs k = are_covered parts vs k
  is_tagged_variant_covered (tagged_variant code layout mark parts tagged_variants) (suc i) vs k = is_tagged_variant_covered tagged_variants i vs k
