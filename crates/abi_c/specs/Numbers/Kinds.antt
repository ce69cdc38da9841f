-- Kinds of types, by their numbers.
use Rattle.std.specs.Prelude.{ℕ, List, [], ◌∷◌, Option, slice_get}
use Rattle.abi_c.specs.declared.numbers.kind.TypeKind.{TypeKind}
use Rattle.abi_c.specs.declared.numbers.kind.TypeKind.TheVariants as kind

-- all kinds, by their numbers
abbrev pub kinds : List TypeKind
kinds =
    kind.Scalar ∷ kind.Pair ∷ kind.Never ∷ kind.Unit ∷ kind.Array ∷ kind.Vector ∷ kind.Struct ∷ kind.Ordered ∷ kind.Union
    ∷ kind.Enum ∷ kind.Coroutine ∷ []

-- the kind with the number
abbrev pub kind_numbered : ℕ → Option TypeKind
kind_numbered n = slice_get kinds n
