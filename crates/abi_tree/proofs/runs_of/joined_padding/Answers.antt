use Rattle.std.proofs.Common.{◌≡◌, ◌-◌, ◌<◌, ap, arith, length, sym, ◌∙◌}
use Rattle.abi_tree.specs.Nodes.{placed_at}
use Rattle.abi_tree.specs.Placed.{size_of}
use Rattle.abi_tree.specs.Places.{is_data_place}
use Rattle.abi_tree.proofs.Places.MadeLemmas.{kept_size_is, padding_bytes}
use Rattle.abi_tree.proofs.runs_of.joined_padding.Goals as goal

pub returns : goal.returns
returns c = λ ns needed.
    let p = placed_at ns c.args.node in
    let last : length c.args.kept.now - 1 ≡ c.args.node = omega (arith, c.requires.last) in
    let lt : c.args.node < length ns = omega (arith, c.requires.last, needed.long) in
    let size : c.kept_size.result ≡ size_of p = kept_size_is ns c.args.kept.now needed c.args.node c.kept_size.result lt (sym last) c.kept_size.ensures in
    padding_bytes p c.kept_size.result c.new-whole.result c.add_range.new.self c.in_ok-places.places c.in_ok-rest.rest size c.new-whole.ensures c.in_ok-add_range.ensures.bytes
    (λ k. c.in_ok-places.ensures ns needed k ∙ ap (λ i. is_data_place (placed_at ns i) k) last) c.in_ok-rest.ensures.bytes
