use Rattle.std.proofs.Common.{◌≡◌, take}
use Rattle.rustc_abi.proofs.lay_ordered.fields_named.Given as goal

-- the fields that the first numbers name
abbrev pub invariant-loop-index : goal.invariant-loop-index
invariant-loop-index l = l.fields.items ≡ take l.index-index l.order
