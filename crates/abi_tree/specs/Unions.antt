-- What a union keeps of its fields' bytes.
use Rattle.std.specs.Prelude.{ℕ, ◌++◌, List, take, ⊤}
use Rattle.abi_base.specs.declared.endian.Endian.{Endian}
use Rattle.abi_tree.specs.Value.{Value}
use Rattle.abi_tree.specs.Bytes.{AreBytes}
use Rattle.abi_tree.specs.Placed.{Placed, scalar, pair, never, elements, vector, fields, union, single, tagged, states, Parts, no_parts, part, TaggedVariants, nothing_tagged, tagged_variant, size_of}
use Rattle.abi_tree.specs.Holding.{Holds}

-- bytes that hold a value of the field begin bytes that hold a value of the union
abbrev pub Begins : Endian → (field whole : Placed) → Type 0
Begins order field whole =
    (b : List ℕ) (v : Value) → AreBytes b → Holds order field b v → (more : List ℕ) × (w : Value) × AreBytes more × Holds order whole (b ++ more) w

-- byte lists that hold one value of the union hold, cut to the field's size, the same values of the field
abbrev pub IsCommon : Endian → (field whole : Placed) → Type 0
IsCommon order field whole =
    (xs ys : List ℕ) (v w : Value) → Holds order whole xs v → Holds order whole ys v →
    Holds order field (take (size_of field) xs) w → Holds order field (take (size_of field) ys) w

-- the fact holds for each part
abbrev pub EachPart : (Placed → Type 0) → Parts → Type 0
EachPart P no_parts = ⊤
EachPart P (part offset placed parts) = P placed × EachPart P parts

abbrev mutual
  -- the fact holds for each field of each union that the type is or has in it
  pub InUnions : (P : (field whole : Placed) → Type 0) → Placed → Type 0
  InUnions P (scalar layout s) = ⊤
  InUnions P (pair layout parts) = InUnionsOf P parts
  InUnions P (never layout mark) = ⊤
  InUnions P (elements layout count element) = InUnions P element
  InUnions P (vector layout lanes) = InUnions P lanes
  InUnions P (fields layout mark parts) = InUnionsOf P parts
  InUnions P (union layout mark parts) = EachPart (λ field. P field (union layout mark parts)) parts × InUnionsOf P parts
  InUnions P (single layout mark index parts) = InUnionsOf P parts
  InUnions P (tagged layout mark offset tag encoding tagged_variants) = InUnions P tag × InUnionsOfTaggedVariants P tagged_variants
  InUnions P (states layout prefix offset tag tagged_variants) = InUnionsOf P prefix × InUnions P tag × InUnionsOfTaggedVariants P tagged_variants

  -- it does so in each of these parts
  pub InUnionsOf : (P : (field whole : Placed) → Type 0) → Parts → Type 0
  InUnionsOf P no_parts = ⊤
  InUnionsOf P (part offset placed parts) = InUnions P placed × InUnionsOf P parts

  -- and in the parts of each of these tagged variants
  pub InUnionsOfTaggedVariants : (P : (field whole : Placed) → Type 0) → TaggedVariants → Type 0
  InUnionsOfTaggedVariants P nothing_tagged = ⊤
  InUnionsOfTaggedVariants P (tagged_variant number layout mark parts tagged_variants) = InUnionsOf P parts × InUnionsOfTaggedVariants P tagged_variants
