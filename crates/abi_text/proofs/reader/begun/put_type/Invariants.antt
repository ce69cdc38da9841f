-- The type so far goes where the first one went.
use Rattle.std.proofs.Common.{◌≡◌, vec_len}
use Rattle.abi_tree.specs.Tree.{tree_of}
use Rattle.abi_text.specs.Reading.{begun_in, put_type}
use Rattle.abi_text.proofs.reader.begun.put_type.Given as goal

abbrev pub invariant-loop-top : goal.invariant-loop-top
invariant-loop-top l = put_type (tree_of l.tree) (begun_in l.reader.begun.items) ≡ put_type (tree_of l.fn.tree) (begun_in l.fn.reader.begun.items)

abbrev pub decreases-loop-top : goal.decreases-loop-top
decreases-loop-top l = vec_len l.reader.begun
