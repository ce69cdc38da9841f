-- One module more.
use Rattle.std.proofs.Common.{◌∙◌, ◌<◌, length, sym, rules}
use Rattle.abi_rust.specs.Standing.{is_module_at}
use Rattle.abi_rust.proofs.StandingLemmas.{last_more}
use Rattle.abi_rust.proofs.standing.add_modules.Goals as goal

pub loop-number-preserved : goal.loop-number-preserved
loop-number-preserved c = λ k.
    let within : c.loop-number.number < length c.args.all.now = search rules in
    c.in_ok-add_module.ensures.ok k
    ∙ rw (c.numbered.ensures, c.loop-number.invariant k) (sym (last_more (is_module_at k) c.args.all.now c.loop-number.number _ within))
