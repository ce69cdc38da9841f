-- Why cells don't hold a type: the first part of it that they don't hold, and the way to it.
use Rattle.std.specs.Prelude.{◌≡◌, ◌≢◌, ◌⊎◌, ℕ, zero, suc, ◌+◌, ◌*◌, ◌<◌, List, [], ◌∷◌, None, Some, length, map, slice_get, ⊤}
use Rattle.automata.specs.Cell.{Cell}
use Rattle.abi_base.specs.declared.endian.Endian.{Endian}
use Rattle.abi_scalar.specs.Range.{IsIn}
use Rattle.abi_scalar.specs.declared.scalar.Scalar.{Scalar}
use Rattle.abi_scalar.specs.declared.scalar.Scalar.TheVariants.{Initialized}
use Rattle.abi_scalar.specs.declared.variants.TagEncoding.{TagEncoding}
use Rattle.abi_scalar.specs.declared.variants.TagEncoding.TheVariants.{Direct}
use Rattle.abi_tree.specs.Bytes.{number_of}
use Rattle.abi_tree.specs.Placed.{Placed, scalar, pair, elements, vector, fields, single, tagged, states, Parts, no_parts, part, TaggedVariants, nothing_tagged, tagged_variant, size_of}
use Rattle.abi_tree.specs.Tag.{Names}
use Rattle.abi_bytes.specs.Answers.{byte_in}
use Rattle.abi_bytes.specs.Filling.{AreSet}
use Rattle.abi_bytes.specs.GoesInto.{Stored}
use Rattle.abi_bytes.specs.Holding.{HoldCells, HoldCellsOfParts, cells_at}
use Rattle.abi_bytes.specs.declared.not_held.NotHeld.{NotHeld}
use Rattle.abi_bytes.specs.declared.not_held.PartStep.{PartStep}
use Rattle.abi_bytes.specs.declared.not_held.PartStep.TheVariants.{Field, VariantField, Element, Lanes, Tag}
use Rattle.abi_bytes.specs.declared.not_held.Why.{Why}
use Rattle.abi_bytes.specs.declared.not_held.Why.TheVariants.{Unset, OutOfRange, NoVariant, NoValue, OtherSize}
use Rattle.abi_bytes.specs.declared.not_held.WrongPart.{WrongPart}

-- the part is these n cells from a place on
abbrev pub IsPartAt : (at n : ℕ) → WrongPart → Type 0
IsPartAt at n wrong = (wrong.start ≡ at) × (wrong.size ≡ n)

-- of n cells from a place on, this one is the first that isn't set
pub record IsFirstUnset (w : List Cell) (at n k : ℕ) : Type 0 where
  pub below : k < n
  pub unset : slice_get w (at + k) ≡ Some None
  pub before : AreSet (cells_at w at k)

-- a variant has this index
abbrev pub HasVariant : TaggedVariants → (index : ℕ) → Type 0
HasVariant nothing_tagged i = ⊥
HasVariant (tagged_variant number layout mark parts variants) zero = ⊤
HasVariant (tagged_variant number layout mark parts variants) (suc i) = HasVariant variants i

module _ (order : Endian) where
  -- the number that cells make which are all set
  abbrev pub number_in : List Cell → ℕ
  number_in w = number_of order (map byte_in w)

  -- no cells hold the type
  abbrev pub HasNoCells : Placed → Type 0
  HasNoCells placed = (u : List Cell) → HoldCells order placed u → ⊥

  module _ (w : List Cell) where
    -- the n cells from a place on are set, and make this number
    abbrev pub MakeAt : (at n number : ℕ) → Type 0
    MakeAt at n number = AreSet (cells_at w at n) × (number ≡ number_in (cells_at w at n))

    -- one of the cells of a scalar, which may not be uninitialised, isn't set, or they make a number outside of its range
    abbrev pub IsWhyNumber : Scalar → (at n : ℕ) → Why → Type 0
    IsWhyNumber (Initialized value range) at n (Unset k) = IsFirstUnset w at n k
    IsWhyNumber (Initialized value range) at n (OutOfRange number of) = (of ≡ Initialized value range) × MakeAt at n number × (IsIn n range number → ⊥)
    IsWhyNumber s at n why = ⊥

    -- one of a tag's cells isn't set, or they make a number that names none of the variants
    abbrev pub IsWhyTag : TagEncoding ℕ → TaggedVariants → (at n : ℕ) → Why → Type 0
    IsWhyTag encoding variants at n (Unset k) = IsFirstUnset w at n k
    IsWhyTag encoding variants at n (NoVariant number) = MakeAt at n number × ((i : ℕ) → HasVariant variants i → Names encoding n variants number i → ⊥)
    IsWhyTag encoding variants at n why = ⊥

    -- the tag of n cells from a place on names the variant
    abbrev pub NamesAt : TagEncoding ℕ → TaggedVariants → (at n index : ℕ) → Type 0
    NamesAt encoding variants at n i = (number : ℕ) × MakeAt at n number × Names encoding n variants number i

    -- the type that lies at a place is held
    abbrev pub IsHeldAt : Placed → (at : ℕ) → Type 0
    IsHeldAt placed at = HoldCells order placed (cells_at w at (size_of placed))

    -- so are the first n elements of those that lie one after another from a place on
    abbrev pub AreHeld : Placed → (at n : ℕ) → Type 0
    AreHeld element at n = (k : ℕ) → k < n → IsHeldAt element (at + k * size_of element)

    abbrev mutual
      -- of the type that lies at a place, the part on this way isn't held, and those before it are
      pub IsWrong : Placed → (at : ℕ) → (way : List PartStep) → WrongPart → Type 0
      IsWrong (scalar layout s) at [] wrong = IsPartAt at layout.size wrong × IsWhyNumber s at layout.size wrong.why
      IsWrong (pair layout parts) at (Field i ∷ way) wrong = IsWrongField parts at i way wrong
      IsWrong (elements layout count element) at (Element i ∷ way) wrong =
          (i < count) × AreHeld element at i × IsWrong element (at + i * size_of element) way wrong
      IsWrong (vector layout lanes) at (Lanes ∷ way) wrong = IsWrong lanes at way wrong
      IsWrong (fields layout mark parts) at (Field i ∷ way) wrong = IsWrongField parts at i way wrong
      IsWrong (single layout mark index parts) at (VariantField v i ∷ way) wrong = (v ≡ index) × IsWrongField parts at i way wrong
      IsWrong (tagged layout mark offset tag encoding variants) at (Tag ∷ way) wrong =
          (way ≡ []) × IsPartAt (at + offset) (size_of tag) wrong × IsWhyTag encoding variants (at + offset) (size_of tag) wrong.why
      IsWrong (tagged layout mark offset tag encoding variants) at (VariantField v i ∷ way) wrong =
          NamesAt encoding variants (at + offset) (size_of tag) v × IsWrongVariantField variants at v i way wrong
      IsWrong (states layout prefix offset tag variants) at (Field i ∷ way) wrong = IsWrongField prefix at i way wrong
      IsWrong (states layout prefix offset tag variants) at (Tag ∷ way) wrong =
          HoldCellsOfParts order prefix (cells_at w at layout.size) × (way ≡ []) × IsPartAt (at + offset) (size_of tag) wrong × IsWhyTag Direct variants (at + offset) (size_of tag) wrong.why
      IsWrong (states layout prefix offset tag variants) at (VariantField v i ∷ way) wrong =
          HoldCellsOfParts order prefix (cells_at w at layout.size) × NamesAt Direct variants (at + offset) (size_of tag) v × IsWrongVariantField variants at v i way wrong
      IsWrong placed at [] wrong = IsPartAt at (size_of placed) wrong × (wrong.why ≡ NoValue) × HasNoCells placed
      IsWrong placed at way wrong = ⊥

      -- so it is by the field with this index
      pub IsWrongField : Parts → (at index : ℕ) → (way : List PartStep) → WrongPart → Type 0
      IsWrongField no_parts at i way wrong = ⊥
      IsWrongField (part offset placed parts) at zero way wrong = IsWrong placed (at + offset) way wrong
      IsWrongField (part offset placed parts) at (suc i) way wrong = IsHeldAt placed (at + offset) × IsWrongField parts at i way wrong

      -- so it is by a field of the variant with this index
      pub IsWrongVariantField : TaggedVariants → (at variant index : ℕ) → (way : List PartStep) → WrongPart → Type 0
      IsWrongVariantField nothing_tagged at v i way wrong = ⊥
      IsWrongVariantField (tagged_variant number layout mark parts variants) at zero i way wrong = IsWrongField parts at i way wrong
      IsWrongVariantField (tagged_variant number layout mark parts variants) at (suc v) i way wrong = IsWrongVariantField variants at v i way wrong

-- why cells don't hold a type: they are more or fewer than it is large, or a part isn't held
abbrev pub IsWhyNotHeld : Stored → List Cell → NotHeld → Type 0
IsWhyNotHeld a w found =
    ((found.part.why ≡ OtherSize) × (length w ≢ size_of a.placed)) ⊎ IsWrong a.order w a.placed 0 found.way.items found.part
