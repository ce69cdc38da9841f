use Rattle.std.proofs.Common.{arith, ◌∙◌}
use Rattle.rustc_abi.proofs.Faults.LongLemmas.{has_long, has_no_long, told_by_counts}
use Rattle.rustc_abi.proofs.lay_fields.has_bad_index.Goals as goal

pub returns-then-len-gt-MOST_FIELDS : goal.returns-then-len-gt-MOST_FIELDS
returns-then-len-gt-MOST_FIELDS g c =
    let long = has_long c.args.lists.now c.loop-list.list-index c.list-item.result (omega arith) c.list-item.is (omega arith) in
    record { items = long; types = λ all same. long ∙ told_by_counts c.args.lists.now all same }

pub returns : goal.returns
returns g c =
    let short = has_no_long c.args.lists.now c.loop-list.list-index (omega arith) c.loop-list.invariant.few c.loop-list.invariant.before in
    record { items = short; types = λ all same. short ∙ told_by_counts c.args.lists.now all same }
