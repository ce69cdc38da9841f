use Rattle.std.proofs.Common.{◌≡◌}
use Rattle.automata.specs.Nodes.{formulas_in}
use Rattle.abi_bytes.proofs.RangeLemmas.{from_big, number_little}
use Rattle.abi_bytes.proofs.numbers.number_formula.Goals as goal

pub returns-in_ok-place-in-Little : goal.returns-in_ok-place-in-Little
returns-in_ok-place-in-Little c =
    number_little (formulas_in c.args.formulas.now) (formulas_in c.little_number.new.self) c.args.width c.in_ok-place-in-Little.place (λ m. m ≡ c.args.number) c.args.order c.in-Little.is
    c.in_ok-place-in-Little.ensures

pub returns-in_ok-place-in-Big : goal.returns-in_ok-place-in-Big
returns-in_ok-place-in-Big c =
    from_big (formulas_in c.args.formulas.now) (formulas_in c.big_number.new.self) c.args.width c.args.number c.in_ok-place-in-Big.place (λ m. m ≡ c.args.number) c.args.order c.in-Big.is
    c.requires.fits c.in_ok-place-in-Big.ensures
