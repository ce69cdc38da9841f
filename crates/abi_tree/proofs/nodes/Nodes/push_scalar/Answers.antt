use Rattle.std.proofs.Common.{[], ◌∷◌, ◌++◌, ap, ◌∙◌}
use Rattle.std.proofs.lemmas.Result.{err_from_is_err_and}
use Rattle.abi_scalar.specs.Simple.{scalar_layout}
use Rattle.abi_tree.specs.declared.node.Shape.TheVariants.{Scalar as Number}
use Rattle.abi_tree.proofs.Meaning.EntriesLemmas.{entries-more, entries-push, nodes-more, nodes-push}
use Rattle.abi_tree.proofs.nodes.Nodes.push_scalar.Goals as goal

pub returns-in_err-at-clause-err : goal.returns-in_err-at-clause-err
returns-in_err-at-clause-err c =
    let p = err_from_is_err_and c.from_residual.result c.from_residual.ensures.1 in
    rw p.1 (nodes-more c.self.inside.layouts.items c.scalar_place.new.layouts.items c.scalar_place.ensures.more c.self.inside.entries.items c.self.invariant ∙ c.self.view_is)

pub invariant_of-self-in_err-put_entry : goal.invariant_of-self-in_err-put_entry
invariant_of-self-in_err-put_entry c =
    rw c.in_err-put_entry.ensures.err (entries-more c.self.inside.layouts.items c.scalar_place.new.layouts.items c.scalar_place.ensures.more c.self.inside.entries.items c.self.invariant)

pub returns-in_err-put_entry-clause-err : goal.returns-in_err-put_entry-clause-err
returns-in_err-put_entry-clause-err c =
    let p = err_from_is_err_and c.from_residual-in_err-put_entry.result c.from_residual-in_err-put_entry.ensures.1 in
    rw (p.1, c.in_err-put_entry.ensures.err)
    (nodes-more c.self.inside.layouts.items c.scalar_place.new.layouts.items c.scalar_place.ensures.more c.self.inside.entries.items c.self.invariant ∙ c.self.view_is)

pub invariant_of-self-2 : goal.invariant_of-self-2
invariant_of-self-2 c =
    rw c.in_ok-put_entry.ensures.ok
    (entries-push c.self.inside.layouts.items c.scalar_place.new.layouts.items c.scalar_place.ensures.more c.self.inside.entries.items _ c.self.invariant c.in_ok-at.ensures.there)

pub returns-clause-ok : goal.returns-clause-ok
returns-clause-ok c =
    rw c.in_ok-put_entry.ensures.ok
    (nodes-push c.self.inside.layouts.items c.scalar_place.new.layouts.items c.scalar_place.ensures.more c.self.inside.entries.items (scalar_layout 0 c.args.dl.now c.args.value) (Number c.args.value) c.in_ok-at.at c.self.invariant
    c.in_ok-at.ensures.same ∙ ap (λ ns. ns ++ record { layout = scalar_layout 0 c.args.dl.now c.args.value; shape = Number c.args.value } ∷ []) c.self.view_is)
