use Rattle.std.proofs.Common.{◌≡◌, [], ap, arith, get_or, rules, sym, ◌∙◌}
use Rattle.abi_index.specs.RangeSet.{is_in_ranges}
use Rattle.abi_tree.specs.Nodes.{lent_node}
use Rattle.abi_tree.proofs.Places.UnusedLemmas.{left_alone, left_bare, none_several}
use Rattle.abi_tree.proofs.unused.unused_of.Goals as goal

pub returns-in_default : goal.returns-in_default
returns-in_default c = λ types made any v k index.
    ap (λ sets. is_in_ranges (get_or sets v []) k) c.new-in_default.ensures
    ∙ left_alone types c.args.node.layout.now c.args.node.shape.now v k (sym c.requires.count ∙ none_several c.args.node.layout.now.variants c.in_default.not-Multiple)

pub returns-then-eq : goal.returns-then-eq
returns-then-eq c = λ types made any v k index.
    let none : c.args.node.layout.now.size ≡ 0 = search rules in
    ap (λ sets. is_in_ranges (get_or sets v []) k) c.new.ensures ∙ left_bare types (lent_node c.args.node) c.args.done.now made (λ some. omega (arith, some, none)) v k
