use Rattle.std.proofs.Common.{◌≡◌, ◌++◌, ◌+◌, take, map, length}
use Rattle.abi_rust.proofs.targets.with_triples_of.Given as goal

-- so many rows' triples stand behind the others
abbrev pub invariant-loop-row : goal.invariant-loop-row
invariant-loop-row l = record {
  rows : map (λ triple. triple.now) l.all.items ≡ map (λ triple. triple.now) l.fn.triples.items ++ map (λ row. row.0.now) (take l.row-index l.rows);
  count : length l.all.items ≡ length l.fn.triples.items + l.row-index;
}
