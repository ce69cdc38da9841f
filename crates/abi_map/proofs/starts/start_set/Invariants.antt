use Rattle.std.proofs.Common.{take}
use Rattle.abi_map.proofs.StartLemmas.{HasStarts}
use Rattle.abi_map.proofs.starts.start_set.Given as goal

abbrev pub invariant-loop-part : goal.invariant-loop-part
invariant-loop-part l = HasStarts l.size (take l.part-index l.parts) l.runs
