use Rattle.std.proofs.Common.{◌≡◌, ◌-◌, ap, ◌∙◌, arith, drop, length, length-drop, take}
use Rattle.std.proofs.lemmas.List.{take_all}
use Rattle.abi_text.proofs.Sending.{sending_more}
use Rattle.abi_text.proofs.running.send.Goals as goal

pub loop-preserved : goal.loop-preserved
loop-preserved g c =
    let text = c.args.text.now in
    let rest = c.loop.rest.now in
    let count = c.in-Some.count in
    let left : length (drop c.in-Some.count c.loop.rest.now) ≡ length c.loop.rest.now - c.in-Some.count = length-drop count rest in
    let same : take (length c.loop.rest.now - c.in-Some.count) (drop c.in-Some.count c.loop.rest.now) ≡ drop c.in-Some.count c.loop.rest.now
    = take_all (length rest - count) (drop count rest) (omega arith) in
    let fewer : length (take (length c.loop.rest.now - c.in-Some.count) (drop c.in-Some.count c.loop.rest.now)) ≡ length c.loop.rest.now - c.in-Some.count = ap length same ∙ left in
    let before : length c.loop.rest.now ≡ length c.args.text.now - (length c.args.text.now - length c.loop.rest.now) = ap length c.loop.invariant.left ∙ length-drop (length text - length rest) text in
    sending_more _ (g.W.Write.contents c.loop.output) _ text rest (take (length rest - count) (drop count rest)) (length text - length rest) count _ c.loop.invariant
    c.in-Some.ensures.1 c.in-Some.ensures.0 same (omega (arith, c.in-Some.ensures.0))
