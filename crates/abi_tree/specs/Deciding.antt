-- Which bytes decide: another byte in the place of one that a value covers means another value, or none. And a value that covers a
-- place: the part that has it covers it, and the other parts have any value.
use Rattle.std.specs.Prelude.{◌≡◌, ◌≢◌, ℕ, zero, suc, ◌+◌, ◌-◌, ◌==◌, Bool, true, not, List, length, get_or, replicate, Option, None, Some, if◌then◌else◌}
use Rattle.std.specs.List.{list_all}
use Rattle.abi_base.specs.declared.data_layout.TargetDataLayout.{TargetDataLayout}
use Rattle.abi_base.specs.declared.endian.Endian.{Endian}
use Rattle.abi_scalar.specs.declared.scalar.Scalar.{Scalar}
use Rattle.abi_scalar.specs.declared.scalar.Scalar.TheVariants.{Initialized, Union}
use Rattle.abi_scalar.specs.declared.variants.TagEncoding.{TagEncoding}
use Rattle.abi_scalar.specs.declared.variants.TagEncoding.TheVariants.{Direct, Niche}
use Rattle.abi_tree.specs.declared.laid.Laid.{Laid}
use Rattle.abi_tree.specs.declared.node.Node.{Node}
use Rattle.abi_tree.specs.Tree.{Tree}
use Rattle.abi_tree.specs.Value.{Value, number, two, list, variant, state, bytes, Values, no_values, more_values}
use Rattle.abi_tree.specs.Values.{IsValueOf}
use Rattle.abi_tree.specs.Bytes.{AreBytes, count_picked}
use Rattle.abi_tree.specs.Placed.{Placed, scalar, pair, never, elements, vector, fields, union, single, tagged, states, Parts, no_parts, part, TaggedVariants, nothing_tagged, tagged_variant, size_of}
use Rattle.abi_tree.specs.Places.{is_data_place, is_place_of_part}
use Rattle.abi_tree.specs.Holding.{Holds}
use Rattle.abi_tree.specs.Covering.{is_byte_at, is_covered}
use Rattle.abi_tree.specs.Laid.{placed_of}
use Rattle.abi_tree.specs.Reading.{KeepsValues}

-- ---- bytes that decide

-- where bytes hold a value, and it covers byte k, no bytes with another one there hold it
abbrev pub CoveredBytesDecide : Endian → Placed → Type 0
CoveredBytesDecide order placed =
    (v : Value) (k : ℕ) → is_covered placed v k ≡ true → (b w : List ℕ) → AreBytes b → AreBytes w →
    Holds order placed b v → (get_or b k 0 ≡ get_or w k 0 → ⊥) → Holds order placed w v → ⊥

-- the byte lists differ in byte k alone
pub record DifferAt (k : ℕ) (a b : List ℕ) : Type 0 where
  pub long : length b ≡ length a
  pub here : get_or a k 0 ≢ get_or b k 0
  pub elsewhere : (j : ℕ) → j ≢ k → get_or b j 0 ≡ get_or a j 0

-- byte k decides: the first bytes hold a value, and the second, which differ from them there alone, don't hold it
abbrev pub Decide : Endian → Placed → (k : ℕ) → (a b : List ℕ) → Type 0
Decide order placed k a b = (v : Value) × Holds order placed a v × DifferAt k a b × (Holds order placed b v → ⊥)

-- each data place decides
abbrev pub EachPlaceDecides : Endian → Placed → Type 0
EachPlaceDecides order placed =
    (k : ℕ) → is_data_place placed k ≡ true → (a b : List ℕ) × AreBytes a × AreBytes b × Decide order placed k a b

-- ---- a value that covers a place

-- the place, counted from the offset, where it is one of the n bytes from there on
abbrev pub place_in : Option ℕ → (offset n : ℕ) → Option ℕ
place_in None offset n = None
place_in (Some k) offset n = if is_byte_at offset n k then Some (k - offset) else None

-- a number that the scalar holds: the first of its range, or 0 where it holds all
abbrev pub some_number : Scalar → ℕ
some_number (Initialized value range) = range.start
some_number (Union value) = 0

-- the first two numbers of these values
abbrev pub two_of : Values → Value
two_of (more_values (number n) (more_values (number m) vs)) = two n m
two_of vs = two 0 0

-- so many values, one after another, of elements of n bytes from the offset on
abbrev pub each_value : (Option ℕ → Value) → (n offset count : ℕ) → Option ℕ → Values
each_value value n offset zero place = no_values
each_value value n offset (suc count) place = more_values (value (place_in place offset n)) (each_value value n (offset + n) count place)

-- the index of the first tagged variant a part of which has the data place, counted from the one given on; else another index
abbrev pub first_with : TaggedVariants → (k from otherwise : ℕ) → ℕ
first_with nothing_tagged k from otherwise = otherwise
first_with (tagged_variant code layout mark parts tagged_variants) k from otherwise = if is_place_of_part parts k then from else first_with tagged_variants k (from + 1) otherwise

-- the first variant that has a number of its own in the tag
abbrev pub first_tagged : TagEncoding ℕ → ℕ
first_tagged Direct = 0
first_tagged (Niche untagged span start) = if untagged == 0 then 1 else 0

-- the first variant a part of which has the place, and for a place of the tag, or for none, the first that has a number of its own
abbrev pub tagged_variant_for : TagEncoding ℕ → TaggedVariants → Option ℕ → ℕ
tagged_variant_for encoding tagged_variants None = first_tagged encoding
tagged_variant_for encoding tagged_variants (Some k) = first_with tagged_variants k 0 (first_tagged encoding)

abbrev mutual
  -- a value that covers the place, where it is a data place of the type; with no place, any value
  pub covering_value : Placed → Option ℕ → Value
  covering_value (scalar layout s) place = number (some_number s)
  covering_value (pair layout parts) place = two_of (covering_values parts place)
  covering_value (never layout mark) place = list no_values
  covering_value (elements layout count element) place = list (each_value (covering_value element) (size_of element) 0 count place)
  covering_value (vector layout lanes) place = covering_value lanes place
  covering_value (fields layout mark parts) place = list (covering_values parts place)
  covering_value (union layout mark parts) place = bytes (replicate (count_picked (is_data_place (union layout mark parts)) 0 layout.size) 0)
  covering_value (single layout mark index parts) place = variant index (covering_values parts place)
  covering_value (tagged layout mark offset tag encoding tagged_variants) place =
      variant (tagged_variant_for encoding tagged_variants place) (tagged_variant_values tagged_variants (tagged_variant_for encoding tagged_variants place) place)
  covering_value (states layout prefix offset tag tagged_variants) place =
      state (tagged_variant_for Direct tagged_variants place) (covering_values prefix place) (tagged_variant_values tagged_variants (tagged_variant_for Direct tagged_variants place) place)

  -- one value for each part
  pub covering_values : Parts → Option ℕ → Values
  covering_values no_parts place = no_values
  covering_values (part offset placed parts) place =
      more_values (covering_value placed (place_in place offset (size_of placed))) (covering_values parts place)

  -- one value for each part of the tagged variant with this index
  pub tagged_variant_values : TaggedVariants → (index : ℕ) → Option ℕ → Values
  tagged_variant_values nothing_tagged i place = no_values
  tagged_variant_values (tagged_variant code layout mark parts tagged_variants) zero place = covering_values parts place
  tagged_variant_values (tagged_variant code layout mark parts tagged_variants) (suc i) place = tagged_variant_values tagged_variants i place

-- ---- types that have values everywhere

-- no node's layout is flagged as having no value
abbrev pub are_inhabited : List Node → Bool
are_inhabited ns = list_all (λ n. not n.layout.uninhabited) ns

-- no node of the laid-out type is flagged
abbrev pub all_inhabited_of : Laid → Bool
all_inhabited_of laid = are_inhabited laid.nodes

-- The laid-out type keeps the values of a tree under a data layout, and its data places: each is covered by a value of the tree.
pub record KeepsPlaces (dl : TargetDataLayout) (tree : Tree) (laid : Laid) : Type 0 where
  pub values : KeepsValues dl tree laid
  pub value : (k : ℕ) → is_data_place (placed_of laid) k ≡ true → IsValueOf dl tree (placed_of laid) (covering_value (placed_of laid) (Some k))
  pub covers : (k : ℕ) → is_data_place (placed_of laid) k ≡ true → is_covered (placed_of laid) (covering_value (placed_of laid) (Some k)) k ≡ true
