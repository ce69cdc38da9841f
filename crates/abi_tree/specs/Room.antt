-- Each part ends inside the type that it is a part of.
use Rattle.std.specs.Prelude.{ℕ, ◌+◌, ◌*◌, ◌==◌, ◌&&◌, Bool, true, nat_le}
use Rattle.abi_tree.specs.Placed.{Placed, scalar, pair, never, elements, vector, fields, union, single, tagged, states, Parts, no_parts, part, TaggedVariants, nothing_tagged, tagged_variant, size_of}

abbrev mutual
  -- each part of the type, and each part of a part, ends inside the type that it is a part of
  pub has_room : Placed → Bool
  has_room (scalar layout s) = true
  has_room (pair layout parts) = have_room layout.size parts
  has_room (never layout mark) = true
  has_room (elements layout count element) = (layout.size == size_of element * count) && has_room element
  has_room (vector layout lanes) = nat_le (size_of lanes) layout.size && has_room lanes
  has_room (fields layout mark parts) = have_room layout.size parts
  has_room (union layout mark parts) = have_room layout.size parts
  has_room (single layout mark index parts) = have_room layout.size parts
  has_room (tagged layout mark offset tag encoding tagged_variants) =
      (nat_le (offset + size_of tag) layout.size && has_room tag) && tagged_variants_have_room layout.size tagged_variants
  has_room (states layout prefix offset tag tagged_variants) =
      have_room layout.size prefix && ((nat_le (offset + size_of tag) layout.size && has_room tag) && tagged_variants_have_room layout.size tagged_variants)

  -- so do these parts in so many bytes
  pub have_room : (size : ℕ) → Parts → Bool
  have_room size no_parts = true
  have_room size (part offset placed parts) = (nat_le (offset + size_of placed) size && has_room placed) && have_room size parts

  -- so do the parts of each of these tagged variants
  pub tagged_variants_have_room : (size : ℕ) → TaggedVariants → Bool
  tagged_variants_have_room size nothing_tagged = true
  tagged_variants_have_room size (tagged_variant number layout mark parts tagged_variants) = have_room size parts && tagged_variants_have_room size tagged_variants
