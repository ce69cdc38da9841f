-- One byte more.
use Rattle.std.proofs.Common.{◌≡◌, ◌%◌, ◌/◌, ◌++◌, ◌∷◌, ◌<◌, List, ℕ, [], arith, length, subst, sym}
use Rattle.guarantees.proofs.Stored.{IsStored, stored_more}
use Rattle.guarantees.proofs.code_generator.stores.little_bytes.Goals as goal

pub loop-bytes-preserved : goal.loop-bytes-preserved
loop-bytes-preserved c =
    let items : c.push.new.self.items ≡ c.loop-bytes.bytes.items ++ c.loop-bytes.rest % 256 ∷ [] = c.in_ok-push.ensures.items in
    let more : length c.loop-bytes.bytes.items < c.args.size = omega arith in
    subst (λ (xs : List ℕ). IsStored xs (c.loop-bytes.rest / 256) c.args.number c.args.size) (sym items)
    (stored_more c.loop-bytes.bytes.items c.loop-bytes.rest c.args.number c.args.size more c.loop-bytes.invariant)
