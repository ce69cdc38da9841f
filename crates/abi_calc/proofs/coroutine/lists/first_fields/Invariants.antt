-- The prefix fields, the tag and the promoted locals before the place.
use Rattle.std.proofs.Common.{◌≡◌, ◌+◌, ◌≤◌, ◌++◌, ◌∷◌, length}
use Rattle.std.specs.Prelude.{filter}
use Rattle.std.specs.List.{range_with_len}
use Rattle.abi_index.specs.BitSet.{is_member}
use Rattle.abi_calc.specs.Coroutine.Lists.{picked}
use Rattle.abi_calc.proofs.coroutine.lists.first_fields.Given as goal

abbrev pub invariant-loop-place : goal.invariant-loop-place
invariant-loop-place g l = record {
  all : l.fields ≡ l.fn.prefix ++ l.fn.tag ∷ picked l.locals (filter (is_member l.promoted) (range_with_len 0 l.place));
  room : length l.fields ≤ length l.fn.prefix + 1 + l.place;
}
