use Rattle.std.proofs.Common.{◌≡◌, ◌-◌, Bool, length, nat_eq, not}
use Rattle.std.specs.Prelude.{◌&&◌}
use Rattle.abi_rust.specs.declared.ways.Way.{Way}
use Rattle.abi_rust.specs.Visible.{is_visible}
use Rattle.abi_rust.specs.Ways.{all_on}
use Rattle.abi_rust.proofs.ways.leads_on.Given as goal

-- the globs that are left let the way go on where all of them do
abbrev pub invariant-loop-turn : goal.invariant-loop-turn
invariant-loop-turn l =
    let is : Way → Bool = λ w. not (nat_eq w.glob.inside l.glob.target) && is_visible l.items l.glob.visible_in w.glob.inside in
    all_on is (length l.ways - l.turn) l.ways l.last ≡ all_on is (length l.ways) l.ways l.initial.last
