-- An item is looked at under what its parameters are given.
use Rattle.abi_rust.specs.Tails.{outer_of}
use Rattle.abi_rust.specs.Types.{all_given}
use Rattle.abi_rust.proofs.Trees.{unsized_on}
use Rattle.abi_rust.proofs.unsized_types.check_found.Goals as goal

pub returns : goal.returns
returns c = λ m is.
    let instance = c.args.instance in
    unsized_on c.args.cx.now m (outer_of c.inside-inner.result.above) instance.number instance.item.now (all_given instance.given.now) c.check_instance.result
    (rw c.alone-nesting.ensures.outer at c.inside-inner.ensures.outer) (c.check_instance.ensures m is)
