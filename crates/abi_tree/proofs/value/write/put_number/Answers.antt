use Rattle.std.proofs.Common.{◌≡◌, ◌+◌, ◌<◌, length, arith, sym, ap, ◌∙◌}
use Rattle.std.specs.Prelude.{false, nat_lt}
use Rattle.std.proofs.lemmas.Bool.{le-ltb}
use Rattle.std.proofs.lemmas.List.{get_or-set_same, get_or-set_other, length-set}
use Rattle.abi_tree.proofs.Bytes.PutOverLemmas.{put_none, put_like, put_one, lt-more}
use Rattle.abi_tree.proofs.value.write.put_number.Goals as goal

pub loop-i-init : goal.loop-i-init
loop-i-init c = λ b all long same.
    put_like (λ k. false) (λ k. nat_lt k 0) c.args.at b c.args.bytes.now c.args.bytes.now (λ k. sym (le-ltb k 0 (omega arith))) (put_none c.args.at b c.args.bytes.now)

pub loop-i-preserved : goal.loop-i-preserved
loop-i-preserved c = λ b all long same.
    let i = c.loop-i.i in
    let lt : i < length b = omega (arith, long, c.loop-i-test.true) in
    let inside : c.args.at + i < length c.loop-i.bytes = omega (arith, c.requires.fits, c.loop-i.auto.bytes, c.loop-i-test.true) in
    put_like _ (λ k. nat_lt k (i + 1)) c.args.at b c.args.bytes.now _ (λ k. lt-more k i)
    (put_one (λ k. nat_lt k i) c.args.at i b c.args.bytes.now c.loop-i.bytes _ lt (c.loop-i.invariant b all long same)
    (length-set c.loop-i.bytes (c.args.at + i) c.byte_at.result)
    (get_or-set_same c.loop-i.bytes (c.args.at + i) c.byte_at.result 0 inside ∙ c.byte_at.ensures b all long same)
    (λ k other. get_or-set_other c.loop-i.bytes (c.args.at + i) k c.byte_at.result 0 other))

pub returns-clause-put : goal.returns-clause-put
returns-clause-put c = λ b all long same.
    put_like (λ k. nat_lt k c.loop-i.i) (λ k. nat_lt k c.args.width) c.args.at b c.args.bytes.now c.loop-i.bytes
    (λ k. let end : c.loop-i.i ≡ c.args.width = omega (arith, c.loop-i-test.false, c.loop-i.auto.i-end) in ap (nat_lt k) end)
    (c.loop-i.invariant b all long same)
