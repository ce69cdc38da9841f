use Rattle.std.proofs.Common.{◌≡◌, take}
use Rattle.abi_tree.proofs.Bytes.TakenLemmas.{taken}
use Rattle.abi_tree.proofs.value.read.read_places.Given as goal

abbrev pub invariant-loop-run : goal.invariant-loop-run
invariant-loop-run l = l.content.items ≡ taken (take l.run-index l.runs) l.bytes
