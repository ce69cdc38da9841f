-- All fit where those that are left do.
use Rattle.std.proofs.Common.{◌≡◌, drop, map}
use Rattle.abi_rust.specs.CopyTypes.{all_fit_union}
use Rattle.abi_rust.specs.Types.{ty_of, types}
use Rattle.abi_rust.proofs.copy_types.+fitting.Given as goal

abbrev pub invariant-all_fit_union-loop-part : goal.invariant-all_fit_union-loop-part
invariant-all_fit_union-loop-part l = all_fit_union l.cx (types (map ty_of (drop l.part-index l.parts))) ≡ all_fit_union l.cx (types (map ty_of l.parts))
