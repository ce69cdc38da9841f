use Rattle.std.proofs.Common.{◌≡◌, ◌-◌, Bool, length}
use Rattle.abi_rust.specs.declared.ways.Way.{Way}
use Rattle.abi_rust.specs.Visible.{is_visible}
use Rattle.abi_rust.specs.Ways.{all_on}
use Rattle.abi_rust.proofs.ways.is_way_visible.Given as goal

-- the globs that are left are visible where all of them are
abbrev pub invariant-loop-turn : goal.invariant-loop-turn
invariant-loop-turn l =
    let is : Way → Bool = λ w. is_visible l.items w.glob.visible_in l.from in
    all_on is (length l.ways - l.turn) l.ways l.last ≡ all_on is (length l.ways) l.ways l.initial.last
