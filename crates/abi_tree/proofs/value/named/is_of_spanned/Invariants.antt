use Rattle.std.proofs.Common.{◌≢◌, ◌<◌, ℕ}
use Rattle.abi_tree.specs.Tag.{IsSpanned, niche_number}
use Rattle.abi_tree.proofs.value.named.is_of_spanned.Given as goal

abbrev pub invariant-loop-i : goal.invariant-loop-i
invariant-loop-i l = (j : ℕ) → IsSpanned l.untagged l.first l.last j → j < l.i → l.tag ≢ niche_number l.width l.first l.start j
