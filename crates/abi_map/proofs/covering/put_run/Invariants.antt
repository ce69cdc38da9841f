use Rattle.std.proofs.Common.{ℕ, ◌<◌, ◌≤◌, get_or, length}
use Rattle.abi_map.proofs.CoverLemmas.{IsPutting}
use Rattle.abi_map.proofs.covering.put_run.Given as goal

abbrev pub invariant-loop-s : goal.invariant-loop-s
invariant-loop-s l = record {
  names : IsPutting l.name l.initial.s l.s l.initial.names.items l.names.items;
  passed : (j : ℕ) → l.initial.s ≤ j → j < l.s → j < length l.starts → get_or l.starts j 0 < l.end;
}
