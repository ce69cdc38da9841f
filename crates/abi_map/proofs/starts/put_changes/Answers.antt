use Rattle.std.proofs.Common.{subst}
use Rattle.std.proofs.lemmas.Result.{on_ok_weaker}
use Rattle.abi_index.specs.RangeSet.{AreMaximalRuns, is_in_ranges}
use Rattle.std.specs.Prelude.{not}
use Rattle.abi_tree.specs.Parts.{kept_part}
use Rattle.abi_map.proofs.StartLemmas.{begins_fit, changes_put, cut_fits, ends_fit}
use Rattle.abi_map.proofs.starts.put_changes.Goals as goal

pub add_set-requires : goal.add_set-requires
add_set-requires c = cut_fits c.args.size c.in_ok-bytes.bytes (is_in_ranges c.args.part.now.bytes) c.requires (subst (AreMaximalRuns 0) c.bytes.view_is c.bytes.invariant) c.in_ok-bytes.ensures.bytes

pub add_set-requires-2 : goal.add_set-requires-2
add_set-requires-2 c =
    begins_fit c.args.size c.in_ok-bytes.bytes c.in_ok-difference.field-0 (is_in_ranges c.args.part.now.bytes) (λ k. not (is_in_ranges c.in_ok-before.before k)) c.requires
    (subst (AreMaximalRuns 0) c.add_set-2.view_is c.add_set-2.invariant) c.in_ok-bytes.ensures.bytes c.in_ok-difference.ensures.bytes

pub add_set-requires-3 : goal.add_set-requires-3
add_set-requires-3 c =
    ends_fit c.args.size c.in_ok-bytes.bytes c.add_set.new.self c.in_ok-before.before c.in_ok-difference-2.field-0 c.new-moved.result (is_in_ranges c.args.part.now.bytes) (λ k. not (is_in_ranges c.in_ok-bytes.bytes k)) c.requires
    (subst (AreMaximalRuns 0) c.add_set-4.view_is c.add_set-4.invariant) c.in_ok-bytes.ensures.bytes c.new-moved.ensures c.in_ok-add_set.ensures.bytes c.in_ok-before.ensures.bytes c.in_ok-difference-2.ensures.bytes

pub returns : goal.returns
returns c =
    on_ok_weaker c.add_set-5.result
    (λ next. changes_put c.args.size (kept_part c.args.part.now) c.in_ok-bytes.bytes c.add_set.new.self c.in_ok-before.before c.in_ok-difference.field-0 c.in_ok-difference-2.field-0 c.new-moved.result
    c.args.runs.now c.add_set-3.new.self c.add_set-5.new.self c.new-moved.ensures c.in_ok-bytes.ensures.bytes c.in_ok-add_set.ensures.bytes c.in_ok-before.ensures.bytes c.in_ok-difference.ensures.bytes
    c.in_ok-difference-2.ensures.bytes c.in_ok-add_set-2.ensures.bytes next)
    c.add_set-5.ensures.bytes
