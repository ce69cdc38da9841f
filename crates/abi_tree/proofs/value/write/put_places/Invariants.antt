use Rattle.std.proofs.Common.{ℕ}
use Rattle.abi_index.specs.RangeSet.{is_in_ranges}
use Rattle.abi_tree.proofs.Bytes.PutPlacesLemmas.{AreLeft, PutBefore}
use Rattle.abi_tree.proofs.value.write.put_places.Given as goal

abbrev pub invariant-loop-k : goal.invariant-loop-k
invariant-loop-k l = PutBefore (is_in_ranges l.runs) l.at l.size l.content l.fn.bytes l.bytes l.next l.k

abbrev pub invariant-loop-run : goal.invariant-loop-run
invariant-loop-run l = (from : ℕ) × AreLeft l.runs l.run-index from × PutBefore (is_in_ranges l.runs) l.at l.size l.content l.fn.bytes l.bytes l.next from
