-- Answers about bytes as numbers.
use Rattle.std.specs.Prelude.{ℕ, List, [], ◌∷◌, length, map}
use Rattle.automata.specs.Cell.{Cell, letter_of}
use Rattle.abi_bytes.specs.declared.answers.Goes.{Goes}
use Rattle.abi_bytes.specs.declared.answers.Goes.TheVariants as goes
use Rattle.abi_bytes.specs.declared.answers.FromZeros.{FromZeros}
use Rattle.abi_bytes.specs.declared.answers.FromZeros.TheVariants as zeros
use Rattle.abi_bytes.specs.declared.answers.FromBytes.{FromBytes}
use Rattle.abi_bytes.specs.declared.answers.FromBytes.TheVariants as from
use Rattle.abi_bytes.specs.declared.answers.IntoBytes.{IntoBytes}
use Rattle.abi_bytes.specs.declared.answers.IntoBytes.TheVariants as into

-- an answer: its number, 0 for yes, 1 for no, 2 where sizes differ, 3 where it would take too many steps; and the letters of its cells
abbrev pub flat_cells : (answer : ℕ) → List Cell → List ℕ
flat_cells answer cells = answer ∷ length cells ∷ map letter_of cells

abbrev pub flat_goes : Goes → List ℕ
flat_goes goes.Yes = flat_cells 0 []
flat_goes (goes.No cells) = flat_cells 1 cells.items
flat_goes goes.OtherSize = flat_cells 2 []
flat_goes goes.TooLarge = flat_cells 3 []

abbrev pub flat_zeros : FromZeros → List ℕ
flat_zeros zeros.Yes = flat_cells 0 []
flat_zeros zeros.No = flat_cells 1 []
flat_zeros zeros.TooLarge = flat_cells 3 []

-- (a byte is its own letter)
abbrev pub flat_from : FromBytes → List ℕ
flat_from from.Yes = flat_cells 0 []
flat_from (from.No bytes) = 1 ∷ length bytes.items ∷ bytes.items
flat_from from.TooLarge = flat_cells 3 []

abbrev pub flat_into : IntoBytes → List ℕ
flat_into into.Yes = flat_cells 0 []
flat_into (into.No cells) = flat_cells 1 cells.items
flat_into into.TooLarge = flat_cells 3 []
