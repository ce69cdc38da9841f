use Rattle.bench.proofs.inputs.leaves.Goals as goal

pub scalar-requires-in-loop-place : goal.scalar-requires-in-loop-place
scalar-requires-in-loop-place c = c.scalar.ensures c.args.dl.now
