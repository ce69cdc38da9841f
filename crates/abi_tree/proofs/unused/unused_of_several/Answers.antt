use Rattle.std.proofs.Common.{◌≡◌, ◌<◌, [], ap, arith, get_or, length, rules, subst, sym, ◌∙◌}
use Rattle.std.proofs.lemmas.Result.{IfOk-weaker}
use Rattle.abi_index.specs.RangeSet.{is_in_ranges}
use Rattle.abi_tree.specs.Needed.{LeaveOut, numbered_nodes}
use Rattle.abi_tree.specs.Nodes.{lent_node}
use Rattle.abi_tree.proofs.Places.UnusedLemmas.{left_bare, left_of, numbered_many, own_there}
use Rattle.abi_tree.proofs.unused.unused_of_several.Goals as goal

pub unused_of_each-requires-clause-there : goal.unused_of_each-requires-clause-there
unused_of_each-requires-clause-there c = omega (arith, c.requires.count, numbered_many c.args.node.shape.now, ap length c.numbered_nodes.ensures)

pub unused_of_each-requires-clause-made : goal.unused_of_each-requires-clause-made
unused_of_each-requires-clause-made c =
    rw c.numbered_nodes.ensures (own_there c.requires.made.0 (lent_node c.args.node) c.args.done.now c.requires.made.1 c.requires.some)

pub returns : goal.returns
returns c =
    IfOk-weaker c.unused_of_each.result _ _
    (λ sets left types made any.
    left_of types (lent_node c.args.node) c.args.done.now made c.requires.some c.args.any.now c.in_ok-bytes.bytes sets c.args.count c.requires.count any (c.in_ok-bytes.ensures types made)
    (subst (λ vs. LeaveOut c.in_ok-bytes.bytes c.args.done.now vs c.args.count sets) c.numbered_nodes.ensures left))
    c.unused_of_each.ensures
