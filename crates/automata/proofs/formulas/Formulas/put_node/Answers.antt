use Rattle.std.proofs.Common.{None, arith, ap, length, length-append, ◌∷◌, [], subst, sym}
use Rattle.automata.specs.First.{HaveFirsts}
use Rattle.automata.specs.Nodes.{AreNodes, formulas_in}
use Rattle.automata.proofs.FirstLemmas.{cut_node, pushed_ahead, pushed_length, pushed_put}
use Rattle.automata.proofs.NodesLemmas.{node_put, nodes_put}
use Rattle.automata.proofs.formulas.Formulas.put_node.Goals as goal

pub first_letters_of-first-requires : goal.first_letters_of-first-requires
first_letters_of-first-requires c =
    cut_node c.self.inside.nodes.items c.args.self.now c.self.inside.firsts.items c.truncate.new.self.items [] c.args.node None c.len-place.result c.self.view_is (omega (arith, c.len-place.ensures)) c.self.invariant.3 c.self.invariant.4 c.truncate.ensures.items c.requires

pub invariant_of-self-in_err-push-2 : goal.invariant_of-self-in_err-push-2
invariant_of-self-in_err-push-2 c = (
  c.self.invariant.0,
  c.self.invariant.1,
  omega (arith, c.self.invariant.2, ap length c.in_err-push-2.ensures.items),
  omega (arith, pushed_length c.self.inside.nodes.items c.args.self.now c.self.inside.firsts.items c.truncate.new.self.items c.push.new.self.items c.args.node c.first_letters_of-first.result c.len-place.result c.self.view_is (omega (arith, c.len-place.ensures)) c.self.invariant.3 c.self.invariant.4 c.truncate.ensures.items c.in_ok-push.ensures.items),
  pushed_ahead c.self.inside.nodes.items c.args.self.now c.self.inside.firsts.items c.truncate.new.self.items c.push.new.self.items c.args.node c.first_letters_of-first.result c.len-place.result c.self.view_is (omega (arith, c.len-place.ensures)) c.self.invariant.3 c.self.invariant.4 c.truncate.ensures.items c.in_ok-push.ensures.items,
)

pub invariant_of-self-in_err-push-3 : goal.invariant_of-self-in_err-push-3
invariant_of-self-in_err-push-3 c = (
  subst AreNodes (sym c.in_err-push-3.ensures.items) c.self.invariant.0,
  c.self.invariant.1,
  omega (
    arith,
    c.self.invariant.2,
    ap length c.in_err-push-3.ensures.items,
    ap length c.in_ok-push-2.ensures.items,
    length-append c.self.inside.before.items (0 ∷ []),
  ),
  omega (
    arith,
    ap length c.in_err-push-3.ensures.items,
    pushed_length c.self.inside.nodes.items c.args.self.now c.self.inside.firsts.items c.truncate.new.self.items c.push.new.self.items c.args.node c.first_letters_of-first.result c.len-place.result c.self.view_is (omega (arith, c.len-place.ensures)) c.self.invariant.3 c.self.invariant.4 c.truncate.ensures.items c.in_ok-push.ensures.items,
  ),
  subst (λ ns. HaveFirsts (formulas_in ns) c.push.new.self.items) (sym c.in_err-push-3.ensures.items)
      (pushed_ahead c.self.inside.nodes.items c.args.self.now c.self.inside.firsts.items c.truncate.new.self.items c.push.new.self.items c.args.node c.first_letters_of-first.result c.len-place.result c.self.view_is (omega (arith, c.len-place.ensures)) c.self.invariant.3 c.self.invariant.4 c.truncate.ensures.items c.in_ok-push.ensures.items),
)

pub invariant_of-self-2 : goal.invariant_of-self-2
invariant_of-self-2 c = (
  nodes_put c.self.inside.nodes.items c.args.self.now c.push-3.new.self.items c.args.node c.self.view_is c.in_ok-push-3.ensures.items c.requires c.self.invariant.0,
  c.self.invariant.1,
  omega (
    arith,
    c.self.invariant.2,
    ap length c.in_ok-push-3.ensures.items,
    length-append c.self.inside.nodes.items (c.args.node ∷ []),
    ap length c.in_ok-push-2.ensures.items,
    length-append c.self.inside.before.items (0 ∷ []),
  ),
  omega (
    arith,
    ap length c.in_ok-push-3.ensures.items,
    length-append c.self.inside.nodes.items (c.args.node ∷ []),
    pushed_length c.self.inside.nodes.items c.args.self.now c.self.inside.firsts.items c.truncate.new.self.items c.push.new.self.items c.args.node c.first_letters_of-first.result c.len-place.result c.self.view_is (omega (arith, c.len-place.ensures)) c.self.invariant.3 c.self.invariant.4 c.truncate.ensures.items c.in_ok-push.ensures.items,
  ),
  pushed_put c.self.inside.nodes.items c.args.self.now c.self.inside.firsts.items c.truncate.new.self.items c.push.new.self.items c.args.node c.first_letters_of-first.result c.len-place.result c.self.view_is (omega (arith, c.len-place.ensures)) c.self.invariant.3 c.self.invariant.4 c.truncate.ensures.items c.in_ok-push.ensures.items c.push-3.new.self.items c.in_ok-push-3.ensures.items c.first_letters_of-first.ensures,
)

pub returns : goal.returns
returns c = node_put c.self.inside.nodes.items c.args.self.now c.push-3.new.self.items c.args.node c.len-place.result c.self.view_is c.in_ok-push-3.ensures.items (omega (arith, c.len-place.ensures))
