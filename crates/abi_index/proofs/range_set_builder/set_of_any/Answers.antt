use Rattle.std.proofs.Common.{◌+◌, ◌<◌, ap, sym, ◌∙◌}
use Rattle.std.specs.Prelude.{◌^◌}
use Rattle.std.proofs.lemmas.List.Sorted.{All-permutation, list_any-IsPermutation}
use Rattle.std.proofs.lemmas.Result.{IfOk-weaker}
use Rattle.abi_index.specs.RangeSet.{is_in_run, is_in_ranges}
use Rattle.abi_index.proofs.range_set_builder.set_of_any.Goals as goal

pub set_of-requires : goal.set_of-requires
set_of-requires c =
    let all = All-permutation (λ run. run.0 + run.1 < 2 ^ 64) c.args.runs.items c.sort_unstable_by_key.new.self.items c.sort_unstable_by_key.ensures.permutation c.requires in
    rw c.as_slice.ensures.value all

pub returns : goal.returns
returns c =
    IfOk-weaker c.set_of.result _ _
    (λ set is k. is k ∙ ap (λ rs. is_in_ranges rs k) c.as_slice.ensures.value
    ∙ sym (list_any-IsPermutation (is_in_run k) c.args.runs.items c.sort_unstable_by_key.new.self.items c.sort_unstable_by_key.ensures.permutation))
    c.set_of.ensures
