-- Which bytes hold which value.
use Rattle.std.specs.Prelude.{◌≡◌, ℕ, zero, suc, ◌+◌, ◌≤◌, List, length, ⊤}
use Rattle.abi_base.specs.declared.endian.Endian.{Endian}
use Rattle.abi_scalar.specs.declared.variants.TagEncoding.TheVariants.{Direct}
use Rattle.abi_scalar.specs.Scalar.{IsNumberOf}
use Rattle.abi_tree.specs.Value.{Value, number, two, list, variant, state, bytes, Values, no_values, more_values, value_count}
use Rattle.abi_tree.specs.Bytes.{bytes_at, number_of, picked_bytes}
use Rattle.abi_tree.specs.Placed.{Placed, scalar, pair, elements, vector, fields, union, single, tagged, states, Parts, no_parts, part, TaggedVariants, nothing_tagged, tagged_variant, size_of}
use Rattle.abi_tree.specs.Places.{is_data_place}
use Rattle.abi_tree.specs.Tag.{Names}

-- a part of n bytes at the offset ends inside these bytes, and its slice is in P
abbrev pub IsAt : (offset n : ℕ) → (List ℕ → Type 0) → List ℕ → Type 0
IsAt offset n P b = (offset + n ≤ length b) × P (bytes_at b offset n)

-- each value is held at its place, one after another from the offset on
abbrev pub HoldEach : (List ℕ → Value → Type 0) → (n offset : ℕ) → List ℕ → Values → Type 0
HoldEach P n offset b no_values = ⊤
HoldEach P n offset b (more_values v vs) = IsAt offset n (λ slice. P slice v) b × HoldEach P n (offset + n) b vs

-- the number of a tag of n bytes at the offset
abbrev pub tag_at : Endian → List ℕ → (offset n : ℕ) → ℕ
tag_at order b offset n = number_of order (bytes_at b offset n)

module _ (order : Endian) where
  abbrev mutual
    -- these bytes, as many as the type is large, hold the value
    pub Holds : Placed → List ℕ → Value → Type 0
    Holds (scalar layout s) b (number n) =
        (length b ≡ layout.size) × (n ≡ number_of order b) × IsNumberOf layout.size s n
    Holds (pair layout parts) b (two n m) =
        (length b ≡ layout.size) × HoldParts parts b (more_values (number n) (more_values (number m) no_values))
    Holds (elements layout count element) b (list vs) =
        (length b ≡ layout.size) × (value_count vs ≡ count) × HoldEach (Holds element) (size_of element) 0 b vs
    Holds (vector layout lanes) b (list vs) =
        (length b ≡ layout.size) × IsAt 0 (size_of lanes) (λ slice. Holds lanes slice (list vs)) b
    Holds (fields layout mark parts) b (list vs) = (length b ≡ layout.size) × HoldParts parts b vs
    Holds (union layout mark parts) b (bytes content) =
        (length b ≡ layout.size) × (content ≡ picked_bytes (is_data_place (union layout mark parts)) 0 b)
    Holds (single layout mark index parts) b (variant i vs) = (length b ≡ layout.size) × (i ≡ index) × HoldParts parts b vs
    Holds (tagged layout mark offset tag encoding tagged_variants) b (variant i vs) =
        (length b ≡ layout.size) × (offset + size_of tag ≤ length b)
        × Names encoding (size_of tag) tagged_variants (tag_at order b offset (size_of tag)) i × HoldTaggedVariant tagged_variants i b vs
    Holds (states layout prefix offset tag tagged_variants) b (state i ps vs) =
        (length b ≡ layout.size) × HoldParts prefix b ps × (offset + size_of tag ≤ length b)
        × Names Direct (size_of tag) tagged_variants (tag_at order b offset (size_of tag)) i × HoldTaggedVariant tagged_variants i b vs
    Holds _ b _ = ⊥

    -- each part holds its value at its place
    pub HoldParts : Parts → List ℕ → Values → Type 0
    HoldParts no_parts b no_values = ⊤
    HoldParts (part offset placed parts) b (more_values v vs) =
        IsAt offset (size_of placed) (λ slice. Holds placed slice v) b × HoldParts parts b vs
    HoldParts _ b _ = ⊥

    -- the parts of the tagged variant with this index hold these values
    pub HoldTaggedVariant : TaggedVariants → (index : ℕ) → List ℕ → Values → Type 0
    HoldTaggedVariant nothing_tagged i b vs = ⊥
    HoldTaggedVariant (tagged_variant code layout mark parts tagged_variants) zero b vs = HoldParts parts b vs
    HoldTaggedVariant (tagged_variant code layout mark parts tagged_variants) (suc i) b vs = HoldTaggedVariant tagged_variants i b vs
