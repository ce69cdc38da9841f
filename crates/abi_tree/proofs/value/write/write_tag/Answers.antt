use Rattle.std.proofs.Common.{◌≡◌, List, ℕ, length, true, arith, sym, ◌∙◌}
use Rattle.abi_tree.specs.Bytes.{bytes_at}
use Rattle.abi_tree.specs.Covering.{is_tagged}
use Rattle.abi_tree.specs.Holding.{tag_at}
use Rattle.abi_tree.proofs.Bytes.BytesLemmas.{AreBytes-bytes_at}
use Rattle.abi_tree.proofs.Bytes.HoldLemmas.{length-bytes_at}
use Rattle.abi_tree.proofs.Written.TagNumberLemmas.{put_tag}
use Rattle.abi_tree.proofs.value.write.write_tag.Goals as goal

pub returns-then-is_tagged-clause-put : goal.returns-then-is_tagged-clause-put
returns-then-is_tagged-clause-put c = λ b done all inside names.
    let offset : ℕ = c.args.tag_layout.offset in
    let width : ℕ = c.args.width in
    let slice : List ℕ = bytes_at b offset width in
    let tag_layout : is_tagged c.args.tag_layout.encoding.now c.args.i ≡ true = sym c.is_tagged.ensures ∙ c.if-is_tagged.true in
    let long : length slice ≡ c.bytes.result = omega (arith, length-bytes_at b offset width, c.bytes.ensures, inside) in
    put_tag (is_tagged c.args.tag_layout.encoding.now c.args.i) c.args.at offset width c.bytes.result b c.args.bytes.now c.put_number.new.bytes tag_layout c.bytes.ensures inside
    (c.put_number.ensures.put slice (AreBytes-bytes_at b offset width all) long (c.tag_number-number.ensures done (tag_at c.args.order b offset width) names tag_layout))
