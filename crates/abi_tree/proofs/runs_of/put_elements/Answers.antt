use Rattle.std.proofs.Common.{arith}
use Rattle.std.proofs.lemmas.Result.{on_ok_weaker}
use Rattle.abi_tree.proofs.Places.MadeLemmas.{element_stride, elements_end, put_repeated, stride_some}
use Rattle.abi_tree.proofs.runs_of.put_elements.Goals as goal

pub add_repeated-requires-clause-some : goal.add_repeated-requires-clause-some
add_repeated-requires-clause-some c = stride_some c.args.size c.requires.inside.0 c.args.count c.requires.some c.requires.inside.1

pub add_repeated-requires-clause-inside : goal.add_repeated-requires-clause-inside
add_repeated-requires-clause-inside c = λ k d lt.
    let inside = c.requires.inside in
    omega (arith, inside.2 k d lt, element_stride c.args.size inside.0 c.args.count c.requires.some inside.1)

pub add_repeated-requires-clause-fits : goal.add_repeated-requires-clause-fits
add_repeated-requires-clause-fits c = λ k d lt.
    let inside = c.requires.inside in
    omega (arith, inside.2 k d lt, elements_end c.args.size inside.0 c.args.count c.requires.some inside.1, c.ranges.size.fits)

pub returns : goal.returns
returns c =
    on_ok_weaker c.add_repeated.result
    (λ put stride e. put_repeated c.args.runs.now c.add_repeated.new.self c.args.element.now c.args.size stride c.args.count c.requires.some e put)
    c.add_repeated.ensures.bytes
