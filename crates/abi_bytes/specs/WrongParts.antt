-- How a walk beside cells judges: it finds a part that they don't hold, or they hold all.
use Rattle.std.specs.Prelude.{◌≡◌, ◌⊎◌, ℕ, ◌+◌, ◌*◌, ◌<◌, ◌≤◌, List, [], ◌∷◌, All, Option, None, Some, MatchOption, length, true}
use Rattle.automata.specs.Cell.{Cell}
use Rattle.abi_base.specs.declared.endian.Endian.{Endian}
use Rattle.abi_scalar.specs.declared.variants.TagEncoding.{TagEncoding}
use Rattle.abi_tree.specs.Nodes.{parts_at, tagged_variants_in, types_in}
use Rattle.abi_tree.specs.Placed.{Parts, Placed, TaggedVariants, size_of}
use Rattle.abi_tree.specs.Room.{have_room, tagged_variants_have_room}
use Rattle.abi_tree.specs.Well.{all_at}
use Rattle.abi_bytes.specs.Holding.{HoldCells, HoldCellsOfParts, HoldCellsOfVariant, HoldTag, cells_at}
use Rattle.abi_bytes.specs.NotHeld.{AreHeld, IsPartAt, IsWhyTag, IsWrong, IsWrongField, IsWrongVariantField, NamesAt}
use Rattle.abi_bytes.specs.declared.cell_walk.CellWalk.{CellWalk}
use Rattle.abi_bytes.specs.declared.not_held.NotHeld.{NotHeld}
use Rattle.abi_bytes.specs.declared.not_held.PartStep.{PartStep}
use Rattle.abi_bytes.specs.declared.not_held.PartStep.TheVariants.{Field, VariantField, Element, Tag}
use Rattle.abi_bytes.specs.declared.not_held.WrongPart.{WrongPart}
use Rattle.abi_bytes.specs.declared.wrong_parts.PartsAt.{PartsAt}
use Rattle.abi_bytes.specs.declared.wrong_parts.TagAt.{TagAt}

-- the step to a field: to one of a variant, where that is given
abbrev pub field_step : (variant : Option ℕ) → (index : ℕ) → PartStep
field_step None i = Field i
field_step (Some v) i = VariantField v i

module _ (order : Endian) where
  -- the tag of n cells at the offset names a variant whose parts are held
  abbrev pub HoldBeside : TagEncoding ℕ → TaggedVariants → (offset n : ℕ) → List Cell → Type 0
  HoldBeside encoding variants offset n u = (i : ℕ) × HoldTag order encoding offset n variants i u × HoldCellsOfVariant order variants i u

  module _ (w : List Cell) where
    -- the way begins with a field, by which it isn't held
    abbrev pub IsWrongIn : (variant : Option ℕ) → Parts → (at : ℕ) → (way : List PartStep) → WrongPart → Type 0
    IsWrongIn variant parts at way wrong = (i : ℕ) × (rest : List PartStep) × (way ≡ field_step variant i ∷ rest) × IsWrongField order w parts at i rest wrong

    -- the way begins with an element, by which it isn't held
    abbrev pub IsWrongElement : Placed → (at count : ℕ) → (way : List PartStep) → WrongPart → Type 0
    IsWrongElement element at count way wrong = (i : ℕ) × (rest : List PartStep) × (way ≡ Element i ∷ rest) × (i < count) × AreHeld order w element at i × IsWrong order w element (at + i * size_of element) rest wrong

    -- the way ends at the tag
    abbrev pub IsWrongTag : TagEncoding ℕ → TaggedVariants → (at n : ℕ) → (way : List PartStep) → WrongPart → Type 0
    IsWrongTag encoding variants at n way wrong = (way ≡ Tag ∷ []) × IsPartAt at n wrong × IsWhyTag order w encoding variants at n wrong.why

    -- the way begins with a field of the variant that the tag names, by which it isn't held
    abbrev pub IsWrongNamed : TagEncoding ℕ → TaggedVariants → (at offset n : ℕ) → (way : List PartStep) → WrongPart → Type 0
    IsWrongNamed encoding variants at offset n way wrong =
        (v : ℕ) × (i : ℕ) × (rest : List PartStep) × (way ≡ VariantField v i ∷ rest) × NamesAt order w encoding variants (at + offset) n v × IsWrongVariantField order w variants at v i rest wrong

    -- so it is by the tag, or by what it names
    abbrev pub IsWrongBeside : TagEncoding ℕ → TaggedVariants → (at offset n : ℕ) → (way : List PartStep) → WrongPart → Type 0
    IsWrongBeside encoding variants at offset n way wrong =
        IsWrongTag encoding variants (at + offset) n way wrong ⊎ IsWrongNamed encoding variants at offset n way wrong

-- where nothing is found P holds; else it doesn't, and what is found is so
abbrev pub Judges : (P : Type 0) → (List PartStep → WrongPart → Type 0) → Option NotHeld → Type 0
Judges P Q found = MatchOption found P (λ f. (P → ⊥) × Q f.way.items f.part)

-- ---- what the walk is at

-- how a type that lies at a place is judged
abbrev pub JudgesType : CellWalk → Placed → (at : ℕ) → Option NotHeld → Type 0
JudgesType walk placed at found =
    Judges (HoldCells walk.order placed (cells_at walk.cells.now at (size_of placed))) (IsWrong walk.order walk.cells.now placed at) found

-- the fields
abbrev pub fields_in : CellWalk → PartsAt → Parts
fields_in walk parts = parts_at parts.offsets.now (all_at walk.nodes.now parts.children.now)

-- Fields of a node end inside the whole, which lies among the cells, and come before it.
pub record ArePartsIn (walk : CellWalk) (node : ℕ) (parts : PartsAt) : Type 0 where
  pub before : All (λ child. child < node) parts.children.now
  pub room : have_room parts.size (fields_in walk parts) ≡ true
  pub fits : parts.at + parts.size ≤ length walk.cells.now

-- how fields are judged
abbrev pub JudgesParts : CellWalk → PartsAt → Option NotHeld → Type 0
JudgesParts walk parts found =
    Judges (HoldCellsOfParts walk.order (fields_in walk parts) (cells_at walk.cells.now parts.at parts.size))
    (IsWrongIn walk.order walk.cells.now parts.variant (fields_in walk parts) parts.at) found

-- the variants beside a tag
abbrev pub variants_in : CellWalk → TagAt → TaggedVariants
variants_in walk tag = tagged_variants_in (types_in walk.nodes.now) tag.variants.now

-- A tag of a node, and the variants beside it, end inside the whole, which lies among the cells, and come before the node.
pub record IsTagIn (walk : CellWalk) (node : ℕ) (tag : TagAt) : Type 0 where
  pub before : All (λ v. v.1 < node) tag.variants.now
  pub narrow : tag.width ≤ 16
  pub inside : tag.offset + tag.width ≤ tag.size
  pub room : tagged_variants_have_room tag.size (variants_in walk tag) ≡ true
  pub fits : tag.at + tag.size ≤ length walk.cells.now

-- how a tag and the variants beside it are judged
abbrev pub JudgesTag : CellWalk → TagAt → Option NotHeld → Type 0
JudgesTag walk tag found =
    Judges (HoldBeside walk.order tag.encoding.now (variants_in walk tag) tag.offset tag.width (cells_at walk.cells.now tag.at tag.size))
    (IsWrongBeside walk.order walk.cells.now tag.encoding.now (variants_in walk tag) tag.at tag.offset tag.width) found

-- how prefix fields, and a tag with the states beside it, are
abbrev pub JudgesState : CellWalk → PartsAt → TagAt → Option NotHeld → Type 0
JudgesState walk prefix tag found =
    Judges
    (HoldCellsOfParts walk.order (fields_in walk prefix) (cells_at walk.cells.now tag.at tag.size)
    × HoldBeside walk.order tag.encoding.now (variants_in walk tag) tag.offset tag.width (cells_at walk.cells.now tag.at tag.size))
    (λ way wrong. IsWrongIn walk.order walk.cells.now None (fields_in walk prefix) tag.at way wrong
    ⊎ (HoldCellsOfParts walk.order (fields_in walk prefix) (cells_at walk.cells.now tag.at tag.size)
    × IsWrongBeside walk.order walk.cells.now tag.encoding.now (variants_in walk tag) tag.at tag.offset tag.width way wrong)) found
