-- How a code generator sees a list.
use Rattle.std.specs.Prelude.{ℕ, ◌==◌, ◌&&◌, not, nat_lt, Bool, true, false, List, [], ◌∷◌, filter, length, slice_index, slice_index_or, if◌then◌else◌}
use Rattle.std.specs.List.{list_any}
use Rattle.abi_base.specs.declared.data_layout.TargetDataLayout.{TargetDataLayout}
use Rattle.abi_scalar.specs.declared.scalar.Scalar.{Scalar}
use Rattle.abi_scalar.specs.declared.backend_repr.BackendRepr.{BackendRepr}
use Rattle.abi_scalar.specs.declared.backend_repr.BackendRepr.TheVariants.{Scalar as OneScalar, ScalarPair, SimdScalableVector, SimdVector, Memory}
use Rattle.abi_scalar.specs.Pair.{pair_align, pair_size, second_offset}
use Rattle.abi_univariant.specs.declared.list_view.Bulk.{Bulk}
use Rattle.abi_univariant.specs.declared.list_view.Bulk.TheVariants.{Nothing, One, Two, More}
use Rattle.abi_univariant.specs.declared.part.Part.{Part}
use Rattle.abi_univariant.specs.Part.{is_empty_view, is_unsized}
use Rattle.abi_univariant.specs.Placement.{no_part, source_order}

-- the part at an index
abbrev pub part_at : List Part → ℕ → Part
part_at parts i = slice_index_or parts i no_part

-- the part has bytes, or is seen as more than bytes in memory
abbrev pub is_bulky : Part → Bool
is_bulky part = not (is_empty_view part.view part.size)

-- the indices of such parts
abbrev pub bulky_parts : List Part → List ℕ
bulky_parts parts = filter (λ i. is_bulky (part_at parts i)) (source_order (length parts))

-- as many of these as a view asks for: none, one, two, or that there are more
abbrev pub bulk_of : List ℕ → Bulk
bulk_of [] = Nothing
bulk_of (i ∷ []) = One i
bulk_of (i ∷ j ∷ []) = Two i j
bulk_of (i ∷ j ∷ k ∷ more) = More

-- with one more, which comes after them
abbrev pub bulk_with : Bulk → ℕ → Bulk
bulk_with Nothing index = One index
bulk_with (One first) index = Two first index
bulk_with (Two first second) index = More
bulk_with More index = More

-- the view of a list of one part that fills it: two scalars always, one scalar or a vector of a fixed length where the list
-- may be passed as that
abbrev pub kept_view : (fixed : Bool) → BackendRepr → BackendRepr
kept_view fixed (OneScalar scalar) = if fixed then Memory true else OneScalar scalar
kept_view fixed (SimdVector element count) = if fixed then Memory true else SimdVector element count
kept_view fixed (ScalarPair a b b_offset) = ScalarPair a b b_offset
kept_view fixed (SimdScalableVector element count vectors) = Memory true
kept_view fixed (Memory sized) = Memory true

-- the one part fills the list, and is aligned as it is
abbrev pub one_view : (fixed : Bool) → (size align : ℕ) → (offset : ℕ) → Part → BackendRepr
one_view fixed size align offset part =
    if (offset == 0) && (align == part.align) && (size == part.size) then kept_view fixed part.view else Memory true

-- two scalars, in memory order, where a pair of them lies as they do
abbrev pub pair_view : TargetDataLayout → (size align : ℕ) → (low : ℕ) → (a : Scalar) → (high : ℕ) → (b : Scalar) → BackendRepr
pair_view dl size align low a high b =
    if (low == 0) && (high == second_offset dl a b) && (align == pair_align dl a b) && (size == pair_size dl a b)
    then ScalarPair a b (second_offset dl a b)
    else Memory true

-- the view of a list that has two parts with bytes: both scalars, where a pair of them lies as they do
abbrev pub two_view : TargetDataLayout → (size align : ℕ) → (first : ℕ) → BackendRepr → (second : ℕ) → BackendRepr → BackendRepr
two_view dl size align first (OneScalar a) second (OneScalar b) =
    if nat_lt first second then pair_view dl size align first a second b else pair_view dl size align second b first a
two_view dl size align first _ second _ = Memory true

-- the view by the parts that have bytes: of one or two of them
abbrev pub bulky_view : TargetDataLayout → (fixed : Bool) → (size align : ℕ) → (parts : List Part) → (offsets : List ℕ) → (bulky : List ℕ) → BackendRepr
bulky_view dl fixed size align parts offsets [] = Memory true
bulky_view dl fixed size align parts offsets (i ∷ []) = one_view fixed size align (slice_index offsets i) (part_at parts i)
bulky_view dl fixed size align parts offsets (i ∷ j ∷ []) =
    two_view dl size align (slice_index offsets i) (part_at parts i).view (slice_index offsets j) (part_at parts j).view
bulky_view dl fixed size align parts offsets (i ∷ j ∷ k ∷ more) = Memory true

-- some part is unsized
abbrev pub any_unsized : List Part → Bool
any_unsized parts = list_any (λ part. is_unsized part.view) parts

-- how a code generator sees a list of this size and alignment, whose parts lie at these offsets
abbrev pub list_view : TargetDataLayout → (fixed : Bool) → (size align : ℕ) → (parts : List Part) → (offsets : List ℕ) → BackendRepr
list_view dl fixed size align parts offsets =
    if any_unsized parts then Memory false
    else (if size == 0 then Memory true else bulky_view dl fixed size align parts offsets (bulky_parts parts))

-- the alignment before `repr(align)` raised it, of a transparent list: that of its one part with bytes, else its own
abbrev pub bulky_align : (align : ℕ) → List Part → (bulky : List ℕ) → ℕ
bulky_align align parts (i ∷ []) = (part_at parts i).unadjusted_align
bulky_align align parts _ = align

-- the alignment, before `repr(align)` raised it, of a transparent list: that of its one part with bytes, else its own
abbrev pub transparent_align : (size align : ℕ) → (parts : List Part) → ℕ
transparent_align size align parts =
    if any_unsized parts then align else (if size == 0 then align else bulky_align align parts (bulky_parts parts))
