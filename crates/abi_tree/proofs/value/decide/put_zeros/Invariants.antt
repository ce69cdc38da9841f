use Rattle.std.proofs.Common.{ℕ}
use Rattle.abi_index.specs.RangeSet.{is_in_ranges}
use Rattle.abi_tree.proofs.Deciding.CoverLemmas.{ZerosBefore}
use Rattle.abi_tree.proofs.Bytes.PutPlacesLemmas.{AreLeft}
use Rattle.abi_tree.proofs.value.decide.put_zeros.Given as goal

abbrev pub invariant-loop-k : goal.invariant-loop-k
invariant-loop-k l = ZerosBefore (is_in_ranges l.runs) l.at l.size l.fn.bytes l.bytes l.k

abbrev pub invariant-loop-run : goal.invariant-loop-run
invariant-loop-run l = (from : ℕ) × AreLeft l.runs l.run-index from × ZerosBefore (is_in_ranges l.runs) l.at l.size l.fn.bytes l.bytes from
