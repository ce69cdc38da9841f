use Rattle.abi_tree.specs.Tree.{tree_of}
use Rattle.abi_c.specs.Numbers.FlatTree.{flat_tree, IsReadable}
use Rattle.abi_c.specs.Numbers.FrontTree.{front_tree}
use Rattle.abi_c.proofs.NumberLemmas.Back.{tree_back}
use Rattle.abi_c.proofs.NumberLemmas.Sound.{tree_sound}
use Rattle.abi_c.proofs.NumberLemmas.Whole.{all_read, none_read, only_read, rest_read}
use Rattle.abi_c.proofs.numbers.tree.read_tree.Goals as goal

pub returns-in_err-tree-clause-unreadable : goal.returns-in_err-tree-clause-unreadable
returns-in_err-tree-clause-unreadable c = none_read (front_tree 201) flat_tree (IsReadable 201) (tree_back 201) c.args.numbers.now _ _ c.from_residual.ensures.1 c.in_err-tree.ensures.err

pub returns-then-at-numbers-clause-ok : goal.returns-then-at-numbers-clause-ok
returns-then-at-numbers-clause-ok c =
    all_read (front_tree 201) flat_tree (tree_sound 201) c.args.numbers.now c.read_node.new.at (tree_of c.in_ok-tree.tree) c.in_ok-tree.ensures.ok c.if-at-numbers.true

pub returns-then-at-numbers-clause-one : goal.returns-then-at-numbers-clause-one
returns-then-at-numbers-clause-one c t h e =
    only_read (front_tree 201) flat_tree (IsReadable 201) (tree_back 201) c.args.numbers.now c.read_node.new.at (tree_of c.in_ok-tree.tree) t c.in_ok-tree.ensures.ok h e

pub returns-else-at-numbers-clause-unreadable : goal.returns-else-at-numbers-clause-unreadable
returns-else-at-numbers-clause-unreadable c _ t h e =
    rest_read (front_tree 201) flat_tree (IsReadable 201) (tree_back 201) c.args.numbers.now c.read_node.new.at (tree_of c.in_ok-tree.tree) t c.in_ok-tree.ensures.ok c.if-at-numbers.false h e
