-- The data layouts of targets.
use Rattle.std.specs.Prelude.{◌≡◌, ◌≤◌, ◌<◌, ◌/◌, ℕ, List, Option, Some, None, Result, Ok, length, nat_eq}
use Rattle.std.specs.Str.{chars}
use Rattle.strsim.specs.Edits.{levenshtein_row}
use Rattle.abi_base.specs.declared.data_layout.TargetDataLayout.{TargetDataLayout}
use Rattle.abi_base.specs.DataLayoutFault.{Fault}
use Rattle.abi_base.specs.DataLayoutText.{data_layout_in}
use Rattle.abi_rust.specs.declared.targets.Target.{Target}

-- what a target's data layout string says, or its first fault; the default address space is 0
abbrev pub string_said : Target → Result TargetDataLayout Fault
string_said t = data_layout_in (record { 0 = 0 }) t.data_layout.now

-- the data layout of a target: what its string says, with the least enum of its C
abbrev pub IsDataLayoutOf : Target → TargetDataLayout → Type 0
IsDataLayoutOf t dl =
    (said : TargetDataLayout) × (string_said t ≡ Ok said) × (dl ≡ record said { c_enum_min_size = t.c_enum_min_size })

-- how many letters are put in, taken out or replaced to come from one text to another, at the least
abbrev pub edits_between : List ℕ → List ℕ → ℕ
edits_between text other = levenshtein_row nat_eq (chars text) (chars other) (length (chars other))

-- another text differs by at most half as many letters as a text has bytes
abbrev pub IsNear : List ℕ → List ℕ → Type 0
IsNear text other = edits_between text other ≤ length text / 2

-- no other text is nearer to a text than this one, or, where there is none, near
unfoldable pub IsNoFarther : List ℕ → Option (List ℕ) → List ℕ → Type 0
IsNoFarther text (Some nearest) other = edits_between text nearest ≤ edits_between text other
IsNoFarther text None other = length text / 2 < edits_between text other
