-- What is known of each module, with what the uses that are left bring in, is what all of them bring in.
use Rattle.std.proofs.Common.{◌≡◌, ℕ, drop}
use Rattle.std.specs.Prelude.{nat_eq}
use Rattle.indexmap.specs.IndexMap.{get}
use Rattle.abi_rust.specs.EnumGlobs.{both, enum_among, enum_brought}
use Rattle.abi_rust.proofs.enum_globs.add_enum_globs.Given as goal

abbrev pub invariant-loop-number : goal.invariant-loop-number
invariant-loop-number l = (m : ℕ) → both (get nat_eq l.globs m) (enum_among l.targets l.number (drop l.number l.items.uses.items) m) ≡ enum_brought l.items l.targets m
