-- What the errors say, in plain words.
use Rattle.std.specs.Prelude.{ℕ, List, codes}
use Rattle.abi_tree.specs.declared.value.error.ValueError.{ValueError}
use Rattle.abi_tree.specs.declared.value.error.ValueError.TheVariants.{NotAValue, OutOfMemory}

-- why a value wasn't written
abbrev pub value_error_text : ValueError → List ℕ
value_error_text NotAValue = codes "not a value of the type"
value_error_text OutOfMemory = codes "out of memory"
