use Rattle.std.proofs.Common.{◌-◌, length}
use Rattle.guarantees.proofs.Stored.{IsStored}
use Rattle.guarantees.proofs.code_generator.stores.little_bytes.Given as goal

abbrev pub invariant-loop-bytes : goal.invariant-loop-bytes
invariant-loop-bytes l = IsStored l.bytes.items l.rest l.number l.size

abbrev pub decreases-loop-bytes : goal.decreases-loop-bytes
decreases-loop-bytes l = l.size - length l.bytes.items
