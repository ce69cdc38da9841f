use Rattle.std.specs.Cmp.Lexicographic.{told_text}
use Rattle.abi_tree.proofs.same_layout.are_same_sizes.Goals as goal

pub returns : goal.returns
returns c = told_text c.args.a.now c.args.b.now c.eq.result c.eq.ensures
