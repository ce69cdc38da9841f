use Rattle.std.proofs.Common.{[], ◌∷◌, ◌++◌, ap, ◌∙◌}
use Rattle.std.proofs.lemmas.Result.{err_from_is_err_and}
use Rattle.abi_tree.proofs.Meaning.EntriesLemmas.{entries-more, entries-push, nodes-more, nodes-push}
use Rattle.abi_tree.proofs.nodes.Nodes.push.Goals as goal

pub returns-in_err-place-clause-err : goal.returns-in_err-place-clause-err
returns-in_err-place-clause-err c =
    let p = err_from_is_err_and c.from_residual.result c.from_residual.ensures.1 in
    rw p.1 (nodes-more c.self.inside.layouts.items c.place_of.new.layouts.items c.place_of.ensures.more c.self.inside.entries.items c.self.invariant ∙ c.self.view_is)

pub invariant_of-self-in_err-put_entry : goal.invariant_of-self-in_err-put_entry
invariant_of-self-in_err-put_entry c =
    rw c.in_err-put_entry.ensures.err (entries-more c.self.inside.layouts.items c.place_of.new.layouts.items c.place_of.ensures.more c.self.inside.entries.items c.self.invariant)

pub returns-in_err-put_entry-clause-err : goal.returns-in_err-put_entry-clause-err
returns-in_err-put_entry-clause-err c =
    let p = err_from_is_err_and c.from_residual-in_err-put_entry.result c.from_residual-in_err-put_entry.ensures.1 in
    rw (p.1, c.in_err-put_entry.ensures.err)
    (nodes-more c.self.inside.layouts.items c.place_of.new.layouts.items c.place_of.ensures.more c.self.inside.entries.items c.self.invariant ∙ c.self.view_is)

pub invariant_of-self-2 : goal.invariant_of-self-2
invariant_of-self-2 c =
    rw c.in_ok-put_entry.ensures.ok
    (entries-push c.self.inside.layouts.items c.place_of.new.layouts.items c.place_of.ensures.more c.self.inside.entries.items _ c.self.invariant c.in_ok-place.ensures.there)

pub returns-clause-ok : goal.returns-clause-ok
returns-clause-ok c =
    rw c.in_ok-put_entry.ensures.ok
    (nodes-push c.self.inside.layouts.items c.place_of.new.layouts.items c.place_of.ensures.more c.self.inside.entries.items c.args.layout c.args.shape c.in_ok-place.place c.self.invariant
    c.in_ok-place.ensures.same ∙ ap (λ ns. ns ++ record { layout = c.args.layout; shape = c.args.shape } ∷ []) c.self.view_is)
