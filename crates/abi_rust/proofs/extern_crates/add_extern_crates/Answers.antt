-- One name more.
use Rattle.std.proofs.Common.{◌∙◌, ◌<◌, length, sym, rules}
use Rattle.abi_rust.proofs.ExternLemmas.{crate_more}
use Rattle.abi_rust.proofs.extern_crates.add_extern_crates.Goals as goal

pub loop-named-preserved : goal.loop-named-preserved
loop-named-preserved c = λ k.
    let within : c.loop-named.named-index < length c.args.all.now = search rules in
    c.in_ok-add_extern_crate.ensures.ok k
    ∙ rw (c.loop-named.invariant k) (sym (crate_more c.args.all.now c.loop-named.named-index _ k within))
