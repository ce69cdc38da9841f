use Rattle.std.proofs.Common.{◌≡◌, ◌-◌, ap, ◌∙◌}
use Rattle.std.proofs.lemmas.Result.{IfOk-weaker}
use Rattle.abi_tree.specs.Laid.{placed_of}
use Rattle.abi_tree.specs.Nodes.{placed_at}
use Rattle.abi_tree.proofs.Places.UnusedLemmas.{left_within}
use Rattle.abi_tree.proofs.laid.Laid.variant_padding.Goals as goal

pub returns-clause-within : goal.returns-clause-within
returns-clause-within c =
    let laid = c.args.self.now in
    IfOk-weaker c.variant_padding.result _ _
    (λ r each. left_within (placed_of laid) (placed_at c.new.result.nodes.now (c.len.result - 1)) r.0
    (ap (λ ns. placed_at ns (c.len.result - 1)) c.new.ensures.nodes ∙ ap (λ n. placed_at laid.nodes (n - 1)) c.len.ensures) laid.room each)
    c.variant_padding.ensures.unused
