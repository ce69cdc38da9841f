use Rattle.std.proofs.Common.{take}
use Rattle.abi_map.specs.Covering.{PutsNames}
use Rattle.abi_map.proofs.CoverLemmas.{name_in_each}
use Rattle.abi_map.proofs.covering.put_part.Given as goal

abbrev pub invariant-loop-run : goal.invariant-loop-run
invariant-loop-run l = PutsNames l.starts l.initial.names.items l.names.items (name_in_each l.part.name (take l.run-index l.run-items))
