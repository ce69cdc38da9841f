-- The order of a number's bytes.
use Rattle.std.specs.Prelude.{ℕ, List, ◌++◌, codes}
use Rattle.abi_base.specs.declared.endian.Endian.{Endian}
use Rattle.abi_base.specs.declared.endian.Endian.TheVariants.{Little, Big}

-- its name, as bytes
abbrev pub endian_text : Endian → List ℕ
endian_text Little = codes "little"
endian_text Big = codes "big"

-- what is said of a text that is no order's name
abbrev pub unknown_endian_text : List ℕ → List ℕ
unknown_endian_text text = codes "unknown endian: \"" ++ text ++ codes "\""
