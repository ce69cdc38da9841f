-- No list before has more items than an index can name.
use Rattle.std.proofs.Common.{◌≡◌, ◌≤◌, false, length, take}
use Rattle.std.specs.Prelude.{nat_lt}
use Rattle.std.specs.List.{list_any}
use Rattle.rustc_abi.specs.Laying.{most_fields}
use Rattle.rustc_abi.proofs.lay_fields.has_bad_index.Given as goal

abbrev pub invariant-loop-list : goal.invariant-loop-list
invariant-loop-list g l = record {
  few : length l.lists ≤ most_fields;
  before : list_any (λ list. nat_lt most_fields (length list.items)) (take l.list-index l.lists) ≡ false;
}
