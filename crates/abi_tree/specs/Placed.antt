-- A type that has been laid out, as a tree of layouts.
use Rattle.std.specs.Prelude.{ℕ, zero, suc, Option, Bool, false, ◌||◌}
use Rattle.abi_scalar.specs.declared.scalar.Scalar.{Scalar}
use Rattle.abi_scalar.specs.declared.niche.Niche.{Niche}
use Rattle.abi_scalar.specs.declared.variants.TagEncoding.{TagEncoding}
use Rattle.abi_scalar.specs.Layout.{Layout}
use Rattle.abi_types.specs.Ty.Typed.{no_layout}
use Rattle.abi_tree.specs.declared.mark.Mark.{Mark}
use Rattle.abi_tree.specs.declared.mark.Mark.TheVariants.{Plain}

mutual
  -- a laid-out type
  pub data Placed : Type 0 where
    -- a number over the whole size
    scalar : Layout → Scalar → Placed
    -- two numbers
    pair : Layout → Parts → Placed
    -- no value
    never : Layout → Mark → Placed
    -- so many elements, each as far from the one before as it is large
    elements : Layout → (count : ℕ) → Placed → Placed
    -- a vector; its one part, at 0, is the array of its lanes
    vector : Layout → (lanes : Placed) → Placed
    -- fields, and unit, which has none
    fields : Layout → Mark → Parts → Placed
    union : Layout → Mark → Parts → Placed
    -- an enum of which one variant is left, so that it has no tag
    single : Layout → Mark → (index : ℕ) → Parts → Placed
    -- an enum whose tag, at an offset, names the variant
    tagged : Layout → Mark → (offset : ℕ) → (tag : Placed) → TagEncoding ℕ → TaggedVariants → Placed
    -- a coroutine: the prefix fields, and a tag, at an offset, that names the state
    states : Layout → (prefix : Parts) → (offset : ℕ) → (tag : Placed) → TaggedVariants → Placed

  -- types at their offsets
  pub data Parts : Type 0 where
    no_parts : Parts
    part : (offset : ℕ) → Placed → Parts → Parts

  -- variants or states: each one's number, which is its discriminant or index, the layout that it has as a type of its
  -- own, what it says of itself, and the parts that it has of its own
  pub data TaggedVariants : Type 0 where
    nothing_tagged : TaggedVariants
    tagged_variant : (number : ℕ) → Layout → Mark → Parts → TaggedVariants → TaggedVariants

-- the layout of the type itself
abbrev pub layout_of : Placed → Layout
layout_of (scalar layout s) = layout
layout_of (pair layout parts) = layout
layout_of (never layout mark) = layout
layout_of (elements layout count element) = layout
layout_of (vector layout lanes) = layout
layout_of (fields layout mark parts) = layout
layout_of (union layout mark parts) = layout
layout_of (single layout mark index parts) = layout
layout_of (tagged layout mark offset tag encoding tagged_variants) = layout
layout_of (states layout prefix offset tag tagged_variants) = layout

-- how many bytes it has
abbrev pub size_of : Placed → ℕ
size_of placed = (layout_of placed).size

-- its largest niche
abbrev pub niche_of : Placed → Option Niche
niche_of placed = (layout_of placed).largest_niche

-- what stands where a tree has no such part
abbrev pub nothing : Placed
nothing = never no_layout Plain

-- the type of the elements, or the array of the lanes
abbrev pub element_of : Placed → Placed
element_of (elements layout count element) = element
element_of (vector layout lanes) = lanes
element_of _ = nothing

-- the fields, of a coroutine the prefix fields
abbrev pub parts_in : Placed → Parts
parts_in (fields layout mark parts) = parts
parts_in (union layout mark parts) = parts
parts_in (states layout prefix offset tag tagged_variants) = prefix
parts_in _ = no_parts

-- the first part, or a type without values where there is none
abbrev pub first_part : Parts → Placed
first_part no_parts = nothing
first_part (part offset placed parts) = placed

-- the parts behind the first
abbrev pub more_parts : Parts → Parts
more_parts no_parts = no_parts
more_parts (part offset placed parts) = parts

-- the parts of the tagged variant with an index
abbrev pub parts_of_tagged_variant : TaggedVariants → (index : ℕ) → Parts
parts_of_tagged_variant nothing_tagged i = no_parts
parts_of_tagged_variant (tagged_variant number layout mark parts tagged_variants) zero = parts
parts_of_tagged_variant (tagged_variant number layout mark parts tagged_variants) (suc i) = parts_of_tagged_variant tagged_variants i

-- what the variant or state with this index has of its own
abbrev pub own_parts : Placed → (index : ℕ) → Parts
own_parts (single layout mark index parts) i = parts
own_parts (tagged layout mark offset tag encoding tagged_variants) i = parts_of_tagged_variant tagged_variants i
own_parts (states layout prefix offset tag tagged_variants) i = parts_of_tagged_variant tagged_variants i
own_parts _ i = no_parts

-- some part is flagged as one without values
abbrev pub is_flagged : Parts → Bool
is_flagged no_parts = false
is_flagged (part offset placed parts) = (layout_of placed).uninhabited || is_flagged parts
