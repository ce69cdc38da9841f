use Rattle.std.proofs.Common.{◌≡◌, Bool, drop, nat_eq}
use Rattle.std.specs.List.{list_any}
use Rattle.std.specs.Prelude.{◌&&◌}
use Rattle.abi_rust.specs.declared.ways.Way.{Way}
use Rattle.abi_rust.specs.Scope.{nowhere}
use Rattle.abi_rust.specs.Ways.{is_way_visible}
use Rattle.abi_rust.proofs.scope.Scope.leads_nowhere.Given as goal

-- one of the ways that are left leads nowhere, if one of all does
abbrev pub invariant-loop-way : goal.invariant-loop-way
invariant-loop-way l =
    let is : Way → Bool = λ way. nat_eq way.glob.target nowhere && is_way_visible l.items l.ways l.from way in
    list_any is (drop l.way-index l.ways) ≡ list_any is l.ways
