-- The size is below the bound, and the layout is the one that is named.
use Rattle.std.proofs.Common.{◌≡◌, ◌∙◌, inl, refl}
use Rattle.abi_calc.specs.Coroutine.Layout.{whole_size}
use Rattle.abi_calc.proofs.AtIndex.{still_below, still_within}
use Rattle.abi_calc.proofs.coroutine.layout.layout_of_lists.Goals as goal

pub returns-then-bytes-obj_size_bound-clause-fault : goal.returns-then-bytes-obj_size_bound-clause-fault
returns-then-bytes-obj_size_bound-clause-fault g c =
    let size : c.whole_size-size.result ≡ whole_size c.args.first c.args.lists = c.whole_size-size.ensures in
    inl (still_within _ _ _ _ c.obj_size_bound.ensures (c.bytes.ensures ∙ size) c.if-bytes-obj_size_bound.true, refl)

pub returns-in-Ok-clause-exact : goal.returns-in-Ok-clause-exact
returns-in-Ok-clause-exact g c =
    let size : c.whole_size-size.result ≡ whole_size c.args.first c.args.lists = c.whole_size-size.ensures in
    (still_below _ _ _ _ (c.bytes.ensures ∙ size) c.obj_size_bound.ensures c.if-bytes-obj_size_bound.false, c.in-Ok.ensures)
