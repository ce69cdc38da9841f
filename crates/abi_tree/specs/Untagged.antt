-- The untagged variant of an enum that a niche distinguishes: its fields, by themselves, hold a number that names it.
use Rattle.std.specs.Prelude.{ℕ, List, ⊤}
use Rattle.abi_base.specs.declared.endian.Endian.{Endian}
use Rattle.abi_scalar.specs.declared.variants.TagEncoding.{TagEncoding}
use Rattle.abi_scalar.specs.declared.variants.TagEncoding.TheVariants.{Direct, Niche}
use Rattle.abi_tree.specs.Value.{Values}
use Rattle.abi_tree.specs.Placed.{Placed, scalar, pair, never, elements, vector, fields, union, single, tagged, states, Parts, no_parts, part, TaggedVariants, nothing_tagged, tagged_variant, size_of}
use Rattle.abi_tree.specs.Tag.{NamesByNiche}
use Rattle.abi_tree.specs.Holding.{HoldTaggedVariant, tag_at}

module _ (order : Endian) where
  -- where bytes hold the fields of the untagged variant, the number at the tag's place names it; a direct tag has no such variant
  abbrev pub NamesItself : (offset : ℕ) → (tag : Placed) → TagEncoding ℕ → TaggedVariants → Type 0
  NamesItself offset tag Direct tagged_variants = ⊤
  NamesItself offset tag (Niche untagged span start) tagged_variants =
      (b : List ℕ) (vs : Values) → HoldTaggedVariant order tagged_variants untagged b vs →
      NamesByNiche (size_of tag) untagged span.start span.last start (tag_at order b offset (size_of tag)) untagged

  abbrev mutual
    -- it is so in the type, and in each type in it
    pub UntaggedNamed : Placed → Type 0
    UntaggedNamed (scalar layout s) = ⊤
    UntaggedNamed (pair layout parts) = UntaggedNamedOf parts
    UntaggedNamed (never layout mark) = ⊤
    UntaggedNamed (elements layout count element) = UntaggedNamed element
    UntaggedNamed (vector layout lanes) = UntaggedNamed lanes
    UntaggedNamed (fields layout mark parts) = UntaggedNamedOf parts
    UntaggedNamed (union layout mark parts) = UntaggedNamedOf parts
    UntaggedNamed (single layout mark index parts) = UntaggedNamedOf parts
    UntaggedNamed (tagged layout mark offset tag encoding tagged_variants) = NamesItself offset tag encoding tagged_variants × UntaggedNamedOfTaggedVariants tagged_variants
    UntaggedNamed (states layout prefix offset tag tagged_variants) = UntaggedNamedOf prefix × UntaggedNamedOfTaggedVariants tagged_variants

    -- it is so in each of these parts
    pub UntaggedNamedOf : Parts → Type 0
    UntaggedNamedOf no_parts = ⊤
    UntaggedNamedOf (part offset placed parts) = UntaggedNamed placed × UntaggedNamedOf parts

    -- and in the parts of each of these tagged variants
    pub UntaggedNamedOfTaggedVariants : TaggedVariants → Type 0
    UntaggedNamedOfTaggedVariants nothing_tagged = ⊤
    UntaggedNamedOfTaggedVariants (tagged_variant number layout mark parts tagged_variants) = UntaggedNamedOf parts × UntaggedNamedOfTaggedVariants tagged_variants
