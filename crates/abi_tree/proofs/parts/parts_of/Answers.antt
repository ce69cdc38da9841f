use Rattle.std.proofs.Common.{◌≡◌, ◌<◌, ◌++◌, ℕ, zero, suc, false, [], All, ap, arith, map, rules, subst, sym, ◌∙◌}
use Rattle.std.specs.Prelude.{◌==◌}
use Rattle.abi_tree.specs.Needed.{IsKept, numbered_nodes}
use Rattle.abi_tree.specs.Nodes.{tagged_variants_in, placed_at, types_in}
use Rattle.abi_tree.specs.Parts.{common_parts, kept_part, parts_of_tagged_variants}
use Rattle.abi_tree.proofs.Places.PartsLemmas.{all_are, none_are, variants_kept, variants_meant}
use Rattle.abi_tree.proofs.parts.parts_of.Goals as goal

some_bytes : (n : ℕ) → (n == 0) ≡ false → 0 < n
some_bytes zero e = absurd (cc)
some_bytes (suc n) e = omega arith

pub put_variants-requires : goal.put_variants-requires
put_variants-requires c =
    let some : 0 < c.args.node.layout.now.size = some_bytes c.args.node.layout.now.size (sym c.eq.ensures ∙ c.if-eq.false) in
    rw c.numbered_nodes.ensures
    (c.requires.sets.0, c.requires.sets.1, variants_kept c.requires.sets.0 c.args.sets.kept.now c.args.sets.done.now c.requires.sets.1 c.args.place c.args.node c.requires.here some)

pub returns-then-eq : goal.returns-then-eq
returns-then-eq c = λ ns have.
    let none : c.args.node.layout.now.size ≡ 0 = search rules in
    ap (map kept_part) c.new-parts.ensures.items ∙ none_are ns c.args.sets.kept.now c.args.sets.done.now have c.args.place c.args.node c.requires.here none

pub returns : goal.returns
returns c = λ ns have.
    let some : 0 < c.args.node.layout.now.size = some_bytes c.args.node.layout.now.size (sym c.eq.ensures ∙ c.if-eq.false) in
    let types = types_in ns in
    let kept = variants_kept ns c.args.sets.kept.now c.args.sets.done.now have c.args.place c.args.node c.requires.here some in
    c.in_ok-put_variants.ensures ns have (rw c.numbered_nodes.ensures kept)
    ∙ ap (λ xs. xs ++ parts_of_tagged_variants 0 (tagged_variants_in types c.numbered_nodes.result.now)) (c.in_ok-put_common.ensures ns have ∙ ap (λ xs. map kept_part xs ++ common_parts (placed_at ns c.args.place)) c.new-parts.ensures.items)
    ∙ ap (λ vs. common_parts (placed_at ns c.args.place) ++ parts_of_tagged_variants 0 (tagged_variants_in types vs)) c.numbered_nodes.ensures
    ∙ ap (λ xs. common_parts (placed_at ns c.args.place) ++ xs) (sym (variants_meant ns c.args.sets.kept.now c.args.sets.done.now have c.args.place c.args.node c.requires.here))
    ∙ all_are ns c.args.sets.kept.now c.args.sets.done.now have c.args.place c.args.node c.requires.here some
