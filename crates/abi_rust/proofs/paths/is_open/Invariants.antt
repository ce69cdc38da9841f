use Rattle.std.proofs.Common.{◌≡◌, ◌-◌, Bool, length, not}
use Rattle.std.specs.Prelude.{◌&&◌, is_some}
use Rattle.abi_rust.specs.declared.ways.Way.{Way}
use Rattle.abi_rust.specs.Names.{own_name, target_in}
use Rattle.abi_rust.specs.Visible.{is_visible}
use Rattle.abi_rust.specs.Ways.{all_on}
use Rattle.abi_rust.proofs.paths.is_open.Given as goal

-- the globs that are left are open where all of them are
abbrev pub invariant-loop-turn : goal.invariant-loop-turn
invariant-loop-turn l =
    let is : Way → Bool = λ w. is_visible l.tables.items.now l.visible_in w.glob.inside && not (is_some (own_name l.tables.items.now l.tables.scope.now (target_in l.tables.targets.now) w.glob.inside l.lookup)) in
    all_on is (length l.ways - l.turn) l.ways l.last ≡ all_on is (length l.ways) l.ways l.initial.last
