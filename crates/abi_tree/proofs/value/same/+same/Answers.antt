use Rattle.std.proofs.Common.{◌≡◌, get_or, arith, ap, sym, ◌∙◌}
use Rattle.abi_tree.specs.Value.{value_of}
use Rattle.abi_tree.proofs.Found.SameLemmas.{same_length, same_at, same_from, same_end}
use Rattle.abi_tree.proofs.value.same.+same.Goals as goal

pub are_same-returns-then-xs-ys : goal.are_same-returns-then-xs-ys
are_same-returns-then-xs-ys t c = λ e. c.if-xs-ys.true (same_length c.args.xs.now c.args.ys.now e)

pub are_same-returns-then-not-is_same : goal.are_same-returns-then-not-is_same
are_same-returns-then-not-is_same t c = λ e.
    let x : c.index-xs-i.result ≡ get_or c.args.xs.now c.loop-i.i c.index-xs-i.result = c.index-xs-i.is in
    let y : c.index-ys-i.result ≡ get_or c.args.ys.now c.loop-i.i c.index-ys-i.result = c.index-ys-i.is in
    let same = same_at c.args.xs.now c.args.ys.now c.loop-i.i c.index-xs-i.result c.index-ys-i.result c.loop-i-test.true (omega (arith, c.loop-i-test.true, c.if-xs-ys.false)) e in
    c.if-not-is_same.ensures (ap value_of x ∙ same ∙ sym (ap value_of y))

pub are_same-loop-i-preserved : goal.are_same-loop-i-preserved
are_same-loop-i-preserved t c = λ rest.
    let x : c.index-xs-i.result ≡ get_or c.args.xs.now c.loop-i.i c.index-xs-i.result = c.index-xs-i.is in
    let y : c.index-ys-i.result ≡ get_or c.args.ys.now c.loop-i.i c.index-ys-i.result = c.index-ys-i.is in
    let same = sym (ap value_of x) ∙ c.if-not-is_same.ensures ∙ ap value_of y in
    c.loop-i.invariant
    (same_from c.args.xs.now c.args.ys.now c.loop-i.i c.index-xs-i.result c.index-ys-i.result c.loop-i-test.true (omega (arith, c.loop-i-test.true, c.if-xs-ys.false)) same rest)

pub are_same-returns : goal.are_same-returns
are_same-returns t c =
    c.loop-i.invariant (same_end c.args.xs.now c.args.ys.now c.loop-i.i (omega (arith, c.loop-i-test.false)) (omega (arith, c.loop-i-test.false, c.if-xs-ys.false)))
