-- Which variant, or state, a tag's number names.
use Rattle.std.specs.Prelude.{◌≡◌, ◌≢◌, ℕ, zero, suc, ◌+◌, ◌-◌, ◌%◌, ◌≤◌, ◌⊎◌, false}
use Rattle.abi_scalar.specs.declared.variants.TagEncoding.{TagEncoding}
use Rattle.abi_scalar.specs.declared.variants.TagEncoding.TheVariants.{Direct, Niche}
use Rattle.abi_scalar.specs.Range.{numbers_of}
use Rattle.abi_tree.specs.Placed.{TaggedVariants, nothing_tagged, tagged_variant, is_flagged}

-- directly: the tagged variant with no part that is flagged, whose number, cut to the tag's width, is the tag's
abbrev pub NamesDirectly : (width : ℕ) → TaggedVariants → (tag index : ℕ) → Type 0
NamesDirectly width nothing_tagged tag i = ⊥
NamesDirectly width (tagged_variant number layout mark parts tagged_variants) tag zero =
    (is_flagged parts ≡ false) × (number % numbers_of width ≡ tag)
NamesDirectly width (tagged_variant number layout mark parts tagged_variants) tag (suc i) = NamesDirectly width tagged_variants tag i

-- a variant of the span from first to last, other than the untagged one
abbrev pub IsSpanned : (untagged first last index : ℕ) → Type 0
IsSpanned untagged first last i = (first ≤ i) × (i ≤ last) × (i ≢ untagged)

-- the number in the niche for such a variant: they count up from the start, in the tag's width
abbrev pub niche_number : (width first start index : ℕ) → ℕ
niche_number width first start i = (start + (i - first)) % numbers_of width

-- by a niche: each spanned variant by its number, and the untagged one by all other numbers
abbrev pub NamesByNiche : (width untagged first last start tag index : ℕ) → Type 0
NamesByNiche width untagged first last start tag i =
    (IsSpanned untagged first last i × (tag ≡ niche_number width first start i))
    ⊎ ((i ≡ untagged) × ((other : ℕ) → IsSpanned untagged first last other → tag ≢ niche_number width first start other))

-- the number of a tag of this width names the tagged variant with this index
abbrev pub Names : TagEncoding ℕ → (width : ℕ) → TaggedVariants → (tag index : ℕ) → Type 0
Names Direct width tagged_variants tag i = NamesDirectly width tagged_variants tag i
Names (Niche untagged span start) width tagged_variants tag i = NamesByNiche width untagged span.start span.last start tag i
