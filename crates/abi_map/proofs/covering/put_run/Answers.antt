use Rattle.std.proofs.Common.{◌+◌, ◌<◌, ◌≤◌, ◌∷◌, ◌++◌, [], arith, ap, ◌∙◌, get_or, length, refl}
use Rattle.abi_map.proofs.CoverLemmas.{names_there, passed_more, putting_more}
use Rattle.abi_map.proofs.covering.put_run.Goals as goal

pub loop-s-preserved : goal.loop-s-preserved
loop-s-preserved c =
    let from : c.first_from-s.result ≤ c.loop-s.s = omega arith in
    let within : c.loop-s.s < length c.loop-s.names.items = omega (arith, c.loop-s.invariant.names.long, c.requires.same) in
    let below : get_or c.args.starts.now c.loop-s.s 0 < c.args.run.0 + c.args.run.1 = omega (arith, c.if-starts-s.false) in
    record {
      names = putting_more c.args.name c.first_from-s.result c.loop-s.s _ c.args.names.now.items c.loop-s.names.items _ c.push.new.self from refl within c.loop-s.invariant.names refl
          (c.in_ok-push.ensures.items ∙ ap (λ ns. ns ++ c.args.name ∷ []) (names_there c.loop-s.names.items c.loop-s.s c.index_mut.result.now within c.index_mut.ensures.value));
      passed = passed_more c.args.starts.now c.first_from-s.result c.loop-s.s _ c.loop-s.invariant.passed below;
    }
