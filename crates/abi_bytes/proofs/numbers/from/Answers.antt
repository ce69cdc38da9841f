use Rattle.std.proofs.Common.{◌≤◌}
use Rattle.automata.specs.Nodes.{formulas_in}
use Rattle.abi_bytes.proofs.RangeLemmas.{from_big, from_little}
use Rattle.abi_bytes.proofs.numbers.from.Goals as goal

pub returns-in_ok-bound-in-Little : goal.returns-in_ok-bound-in-Little
returns-in_ok-bound-in-Little c =
    from_little (formulas_in c.args.formulas.now) (formulas_in c.little_above.new.self) c.args.width c.args.number c.in_ok-bound-in-Little.bound c.args.order c.in-Little.is c.in_ok-bound-in-Little.ensures

pub returns-in_ok-place-in-Big : goal.returns-in_ok-place-in-Big
returns-in_ok-place-in-Big c =
    from_big (formulas_in c.args.formulas.now) (formulas_in c.big_from.new.self) c.args.width c.args.number c.in_ok-place-in-Big.place (λ m. c.args.number ≤ m) c.args.order c.in-Big.is
    c.requires.fits c.in_ok-place-in-Big.ensures
