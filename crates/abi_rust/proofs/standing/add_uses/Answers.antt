-- One use more.
use Rattle.std.proofs.Common.{◌∙◌, ◌<◌, Some, ap, length, rules, sym, take}
use Rattle.std.specs.Prelude.{is_some, if◌then◌else◌}
use Rattle.rust_source.specs.declared.item.Use.{Use}
use Rattle.abi_rust.specs.Scope.{numbered, several}
use Rattle.abi_rust.specs.Standing.{is_use_at, use_at}
use Rattle.abi_rust.proofs.StandingLemmas.{ones_more}
use Rattle.abi_rust.proofs.standing.add_uses.Goals as goal

pub loop-number-preserved : goal.loop-number-preserved
loop-number-preserved c = λ k.
    let i = c.loop-number.number in
    let used = c.index-all-number.result in
    let before = use_at (take i c.args.all.now) k in
    let within : i < length c.args.all.now = search rules in
    c.in_ok-add_use.ensures.ok k
    ∙ rw (c.numbered.ensures, c.loop-number.invariant k)
    (ap (λ (u : Use). if is_use_at k u then Some (if is_some before then several else numbered i) else before) c.index-all-number.is
    ∙ sym (ones_more (is_use_at k) c.args.all.now i used within))
