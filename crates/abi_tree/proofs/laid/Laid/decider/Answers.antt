use Rattle.std.proofs.Common.{◌≡◌, ℕ, List, None, Option, Some, sym, true, ◌∙◌}
use Rattle.std.specs.Prelude.{IfSome, Vec}
use Rattle.std.specs.declared.alloc.Global.{Global}
use Rattle.std.proofs.lemmas.Result.{IfOk-weaker}
use Rattle.abi_base.specs.declared.data_layout.TargetDataLayout.{TargetDataLayout}
use Rattle.abi_tree.specs.declared.laid.Laid.{Laid}
use Rattle.abi_tree.specs.Deciding.{Decide, KeepsPlaces, all_inhabited_of}
use Rattle.abi_tree.specs.Laid.{endian_of, placed_of}
use Rattle.abi_tree.specs.OfTree.{KeepsTree}
use Rattle.abi_tree.specs.Tree.{Tree}
use Rattle.abi_tree.proofs.laid.Laid.decider.Goals as goal

-- where each type in it has values, a type that keeps a tree keeps its places
of_places : (laid : Laid) (place : ℕ) → all_inhabited_of laid ≡ true → (found : Option (Vec ℕ Global × Vec ℕ Global)) →
    IfSome found (λ pair. (dl : TargetDataLayout) (tree : Tree) → KeepsPlaces dl tree laid → Decide (endian_of laid) (placed_of laid) place pair.0.items pair.1.items) →
    IfSome found (λ pair. (dl : TargetDataLayout) (tree : Tree) → KeepsTree dl tree laid → Decide (endian_of laid) (placed_of laid) place pair.0.items pair.1.items)
of_places laid place all None h = h
of_places laid place all (Some pair) h = λ dl tree keeps. h dl tree (keeps.places all)

pub returns-then-all_inhabited-clause-decides : goal.returns-then-all_inhabited-clause-decides
returns-then-all_inhabited-clause-decides c =
    IfOk-weaker c.decider.result _ _ (λ found h. of_places c.args.self.now c.args.place (sym c.all_inhabited.ensures ∙ c.if-all_inhabited.true) found h) c.decider.ensures.decides
