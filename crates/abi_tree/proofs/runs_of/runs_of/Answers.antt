use Rattle.std.proofs.Common.{◌≡◌, ℕ, Bool, ap, arith, rules, ◌∙◌}
use Rattle.std.proofs.lemmas.Result.{IfOk-weaker}
use Rattle.abi_index.specs.RangeSet.{is_in_ranges}
use Rattle.std.specs.Prelude.{◌||◌}
use Rattle.abi_tree.specs.Nodes.{lent_node, meaning}
use Rattle.abi_tree.specs.Places.{is_data_place}
use Rattle.abi_tree.proofs.Places.MadeLemmas.{nothing_made}
use Rattle.abi_tree.proofs.runs_of.runs_of.Goals as goal

pub returns-then-eq : goal.returns-then-eq
returns-then-eq c = λ types made k.
    let none : c.args.node.layout.now.size ≡ 0 = search rules in
    ap (λ rs. is_in_ranges rs k) c.new.ensures ∙ nothing_made types (lent_node c.args.node) c.args.done.now made (λ some. omega (arith, some, none)) k

pub returns : goal.returns
returns c =
    IfOk-weaker c.build.result _ _
    (λ set same types made k.
    let p : ℕ → Bool = is_data_place (meaning types c.args.node.layout.now c.args.node.shape.now) in
    same k ∙ c.in_ok-put_places.ensures types made k ∙ ap (λ rs. is_in_ranges rs k || p k) c.new-runs.ensures)
    c.build.ensures.bytes
