-- What it means to put a value over bytes, from a place on: wherever the value covers one they become those of any bytes that hold
-- it, and all others stay. Of a value that no bytes hold nothing is said.
use Rattle.std.specs.Prelude.{ℕ, ◌+◌, ◌≤◌, ◌&&◌, ◌||◌, Bool, All, List, length, Option}
use Rattle.abi_base.specs.declared.endian.Endian.{Endian}
use Rattle.abi_scalar.specs.declared.variants.TagEncoding.{TagEncoding}
use Rattle.abi_tree.specs.Value.{Value, Values}
use Rattle.abi_tree.specs.Bytes.{AreBytes}
use Rattle.abi_tree.specs.Placed.{Placed, Parts, TaggedVariants, size_of}
use Rattle.abi_tree.specs.Nodes.{tagged_variants_in, placed_in}
use Rattle.abi_tree.specs.Tag.{Names}
use Rattle.abi_tree.specs.Holding.{HoldEach, HoldParts, Holds, tag_at}
use Rattle.abi_tree.specs.Reading.{IsNamedIn}
use Rattle.abi_tree.specs.Covering.{are_covered, each_covered, is_tagged_variant_covered, is_byte_at, is_covered, is_tagged}
use Rattle.abi_tree.specs.Writing.{IsPutOver}
use Rattle.abi_tree.specs.Deciding.{tagged_variant_for, tagged_variant_values, covering_value, covering_values, each_value}

-- a value of the type is put
abbrev pub PutsValue : Endian → (at : ℕ) → (old new : List ℕ) → Placed → Value → Type 0
PutsValue order at old new p v = (b : List ℕ) → AreBytes b → Holds order p b v → IsPutOver (is_covered p v) at b old new

-- the values of elements are put, one after another
abbrev pub PutsEach : Endian → (at : ℕ) → (old new : List ℕ) → (element : Placed) → Values → Type 0
PutsEach order at old new element vs =
    (b : List ℕ) → AreBytes b → HoldEach (Holds order element) (size_of element) 0 b vs →
    IsPutOver (each_covered (is_covered element) (size_of element) 0 vs) at b old new

-- the values of parts are put
abbrev pub PutsParts : Endian → (at : ℕ) → (old new : List ℕ) → Parts → Values → Type 0
PutsParts order at old new parts vs = (b : List ℕ) → AreBytes b → HoldParts order parts b vs → IsPutOver (are_covered parts vs) at b old new

-- the number that a tag of this width has for a variant is put, where the variant has one of its own
abbrev pub PutsTag : Endian → (at : ℕ) → (old new : List ℕ) → TagEncoding ℕ → (offset width : ℕ) → List (ℕ × ℕ) → (index : ℕ) → Type 0
PutsTag order at old new encoding offset width vs i =
    (b : List ℕ) (done : List Placed) → AreBytes b → offset + width ≤ length b →
    Names encoding width (tagged_variants_in done vs) (tag_at order b offset width) i → IsPutOver (λ k. is_tagged encoding i && is_byte_at offset width k) at b old new

-- byte k is the tag's, of a variant that has a number of its own, or covered by the values of the variant's fields
abbrev pub is_tagged_or_covered : TagEncoding ℕ → (offset : ℕ) → (tag : Placed) → TaggedVariants → (index : ℕ) → Values → (k : ℕ) → Bool
is_tagged_or_covered encoding offset tag tagged_variants i vs k = (is_tagged encoding i && is_byte_at offset (size_of tag) k) || is_tagged_variant_covered tagged_variants i vs k

-- the tag of a variant is put, and the values of its fields
abbrev pub PutsTaggedVariant : Endian → (at : ℕ) → (old new : List ℕ) → TagEncoding ℕ → (offset : ℕ) → (tag : Placed) → TaggedVariants → (index : ℕ) → Values → Type 0
PutsTaggedVariant order at old new encoding offset tag tagged_variants i vs =
    (b : List ℕ) → AreBytes b → IsNamedIn order b encoding offset tag tagged_variants i vs →
    IsPutOver (λ k. is_tagged_or_covered encoding offset tag tagged_variants i vs k) at b old new

-- ---- the value that is chosen for a place, which covers it

-- that of the type is put
abbrev pub PutsCovering : Endian → (at : ℕ) → (old new : List ℕ) → (place : Option ℕ) → Placed → Type 0
PutsCovering order at old new place p = PutsValue order at old new p (covering_value p place)

-- those of so many elements
abbrev pub PutsCoveringEach : Endian → (at : ℕ) → (old new : List ℕ) → (place : Option ℕ) → (element : Placed) → (count : ℕ) → Type 0
PutsCoveringEach order at old new place element count =
    PutsEach order at old new element (each_value (covering_value element) (size_of element) 0 count place)

-- those of parts
abbrev pub PutsCoveringParts : Endian → (at : ℕ) → (old new : List ℕ) → (place : Option ℕ) → Parts → Type 0
PutsCoveringParts order at old new place parts = PutsParts order at old new parts (covering_values parts place)

-- those of the variant that has the place, and its tag, over bytes that have room for each variant
abbrev pub PutsCoveringTaggedVariant : Endian → (at : ℕ) → (old new : List ℕ) → (place : Option ℕ) → TagEncoding ℕ → (offset : ℕ) → (tag : Placed) → List Placed → List (ℕ × ℕ) → Type 0
PutsCoveringTaggedVariant order at old new place encoding offset tag done vs =
    let tagged_variants : TaggedVariants = tagged_variants_in done vs in
    let i : ℕ = tagged_variant_for encoding tagged_variants place in
    (b : List ℕ) → AreBytes b → All (λ v. size_of (placed_in done v.1) ≤ length b) vs → IsNamedIn order b encoding offset tag tagged_variants i (tagged_variant_values tagged_variants i place) →
    IsPutOver (λ k. is_tagged_or_covered encoding offset tag tagged_variants i (tagged_variant_values tagged_variants i place) k) at b old new
