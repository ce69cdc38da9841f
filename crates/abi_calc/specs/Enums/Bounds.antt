-- Sums of sizes that tell which of a layout with a tag and one with a niche is the better one, before both are there.
use Rattle.std.specs.Prelude.{ℕ, ◌+◌, ◌-◌, ◌^◌, ◌==◌, ◌&&◌, ◌||◌, not, Bool, List, None, fold, length, max, min, nat_le, nat_lt, slice_get, sum_by, unwrap_or, if◌then◌else◌}
use Rattle.std.specs.Int.{next_multiple_of}
use Rattle.abi_base.specs.declared.data_layout.TargetDataLayout.{TargetDataLayout}
use Rattle.abi_base.specs.declared.integer.Integer.{Integer}
use Rattle.abi_base.specs.DataLayout.{size_bound}
use Rattle.abi_base.specs.Integer.{integer_align, integer_size}
use Rattle.abi_scalar.specs.declared.layout_data.LayoutData.{LayoutData}
use Rattle.abi_scalar.specs.declared.repr.ReprOptions.{ReprOptions}
use Rattle.abi_scalar.specs.Range.{numbers_of}
use Rattle.abi_univariant.specs.Part.{free_numbers, max_align}
use Rattle.abi_calc.specs.declared.enums.bounds.FirstLayout.{FirstLayout}
use Rattle.abi_calc.specs.declared.enums.bounds.FirstLayout.TheVariants.{Niche, OnlyTagged, Tagged}
use Rattle.abi_calc.specs.Enums.Growth.{align_or}
use Rattle.abi_calc.specs.Enums.Lists.{align_with_all}
use Rattle.abi_calc.specs.Enums.EnumStrategy.{is_free}

-- how many bytes a whole of this size has beside these fields, none where these are larger
abbrev pub left_beside : {F V : Type 0} → (whole : ℕ) → List (LayoutData F V) → ℕ
left_beside whole fields = whole - sum_by (λ f. f.size) fields

-- the fewest bytes that it has beside the fields of some variant
abbrev pub least_left : {F V : Type 0} → (whole : ℕ) → List (List (LayoutData F V)) → ℕ
least_left whole variants = fold (λ least fields. min least (left_beside whole fields)) whole variants

-- the tag and the whole behind it, each rounded up to the greater alignment of both, stay below the bound
abbrev pub fits_behind : {F V : Type 0} → TargetDataLayout → (asked : Integer) → LayoutData F V → Bool
fits_behind dl asked layout =
    let align = max layout.align.abi (integer_align dl asked) in
    nat_lt (next_multiple_of (integer_size asked) (2 ^ align) + next_multiple_of layout.size (2 ^ align)) (size_bound dl)

-- the alignment of a variant's only field, where that takes room; the greatest there is for any other variant
abbrev pub only_align : {F V : Type 0} → List (LayoutData F V) → ℕ
only_align fields = if length fields == 1 then unwrap_or (align_or (slice_get fields 0) None) max_align else max_align

-- the least of those
abbrev pub least_only : {F V : Type 0} → (variants : List (List (LayoutData F V))) → ℕ
least_only variants = fold (λ least fields. min least (only_align fields)) max_align variants

-- a tag that is asked for as this integer grows to no more bytes, since it grows to the alignment of each variant's first field
abbrev pub most_tag : {F V : Type 0} → (asked : Integer) → (variants : List (List (LayoutData F V))) → ℕ
most_tag asked variants = max (integer_size asked) (2 ^ least_only variants)

-- a tag beside the variants' fields in a whole of this size has no more bytes
abbrev pub room_of_tag : {F V : Type 0} → (whole : ℕ) → (asked : Integer) → (variants : List (List (LayoutData F V))) → ℕ
room_of_tag whole asked variants = min (least_left whole variants) (most_tag asked variants)

-- so many bytes have no room for the tag, or have no more numbers than a niche leaves free
abbrev pub outdoes : (asked : Integer) → (left free : ℕ) → Bool
outdoes asked left free = nat_lt left (integer_size asked) || nat_le (numbers_of left) free

-- both, for the layout with a niche: then there is a layout with a tag of this integer, and the layout with a niche is the better one
abbrev pub wins : {F V : Type 0} → TargetDataLayout → (asked : Integer) → LayoutData F V → (variants : List (List (LayoutData F V))) → Bool
wins dl asked layout variants =
    fits_behind dl asked layout && outdoes asked (room_of_tag layout.size asked variants) (free_numbers dl layout.largest_niche)

-- the most free numbers that a niche of these fields has, 0 where none has a niche
abbrev pub greatest_free : {F V : Type 0} → TargetDataLayout → List (LayoutData F V) → ℕ
greatest_free dl fields = fold (λ most field. max most (free_numbers dl field.largest_niche)) 0 fields

-- the same of all variants
abbrev pub greatest_of_all : {F V : Type 0} → TargetDataLayout → (variants : List (List (LayoutData F V))) → ℕ
greatest_of_all dl variants = fold (λ most fields. max most (greatest_free dl fields)) 0 variants

-- no layout with a niche has more free numbers, and there is none where this is 0
abbrev pub most_free : {F V : Type 0} → TargetDataLayout → ReprOptions → (variants : List (List (LayoutData F V))) → ℕ
most_free dl repr variants = if is_free repr then greatest_of_all dl variants else 0

-- no layout has fewer bytes: the fields of the largest variant together, rounded up to the greatest alignment of any field
abbrev pub least_whole : {F V : Type 0} → TargetDataLayout → (variants : List (List (LayoutData F V))) → ℕ
least_whole dl variants = next_multiple_of (size_bound dl - least_left (size_bound dl) variants) (2 ^ align_with_all 0 variants)

-- the layout with a tag is made first where no niche with as many free numbers, in a whole of so many bytes, is sure to be better
abbrev pub tag_first : {F V : Type 0} → (asked : Integer) → (least free : ℕ) → (variants : List (List (LayoutData F V))) → Bool
tag_first asked least free variants = not (outdoes asked (room_of_tag least asked variants) free)

-- which layout is made first: the one with a tag, and no other, where no niche has a free number; that one too, beside these bounds
-- of one with a niche, where none within them is sure to be better; else the one with a niche
abbrev pub which_first : {F V : Type 0} → TargetDataLayout → ReprOptions → (asked : Integer) → (variants : List (List (LayoutData F V))) → FirstLayout
which_first dl repr asked variants =
    let least = least_whole dl variants in
    let free = most_free dl repr variants in
    if free == 0 then OnlyTagged else if tag_first asked least free variants then Tagged least free else Niche

-- a layout with a tag that has no more bytes than these, and no fewer free numbers, is the better one where no layout with a niche
-- has fewer bytes or more free numbers
abbrev pub tag_wins : {F V : Type 0} → TargetDataLayout → (least free : ℕ) → LayoutData F V → Bool
tag_wins dl least free layout = nat_le layout.size least && nat_le free (free_numbers dl layout.largest_niche)
