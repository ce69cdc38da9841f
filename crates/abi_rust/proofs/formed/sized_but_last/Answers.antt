-- A part before the last lacks a size.
use Rattle.std.proofs.Common.{◌≡◌, ◌∙◌, ◌+◌, ◌<◌, ap, arith, Bool, drop, false, length, map, not, sym}
use Rattle.std.specs.Prelude.{◌&&◌}
use Rattle.abi_rust.specs.Formed.{lacks_size, sized_but_last}
use Rattle.abi_rust.specs.Types.{ty_of, types}
use Rattle.abi_rust.proofs.FormedLists.{sized_on}
use Rattle.abi_rust.proofs.formed.sized_but_last.Goals as goal

pub returns-then-not-branch-clause-ok : goal.returns-then-not-branch-clause-ok
returns-then-not-branch-clause-ok c =
    let cx = c.args.cx.now in
    let all = c.args.parts.now in
    let i = c.loop-index.index in
    let t = c.index-parts-index.result in
    let more : i + 1 < length all = omega (arith, c.if-index-parts.false) in
    let has : not (lacks_size cx (ty_of t)) ≡ false = grind (arith, c.in_ok-has_size.ensures.ok, c.if-not-branch.true) in
    sym (sym c.loop-index.invariant ∙ sized_on cx all i t more c.index-parts-index.is
    ∙ ap (λ (b : Bool). b && sized_but_last cx (types (map ty_of (drop (i + 1) all)))) has)
