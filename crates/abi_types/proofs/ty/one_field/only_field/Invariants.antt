use Rattle.std.proofs.Common.{◌<◌, IfSome}
use Rattle.abi_types.proofs.OneFieldLemmas.{IsFound}
use Rattle.abi_types.proofs.ty.one_field.only_field.Given as goal

abbrev pub invariant-loop-i : goal.invariant-loop-i
invariant-loop-i g l = record {
  found : IsFound l.kind (g.W.Walk.typed_of l.this) l.found l.i;
  below : IfSome l.found (λ j. j < l.i);
}
