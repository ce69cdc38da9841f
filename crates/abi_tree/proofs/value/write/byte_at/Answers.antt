use Rattle.std.proofs.Common.{◌≡◌, ◌-◌, ◌*◌, ◌/◌, ◌%◌, ◌^◌, length, arith, ap, ◌∙◌}
use Rattle.abi_base.specs.declared.endian.Endian.TheVariants.{Big, Little}
use Rattle.abi_tree.specs.Bytes.{number_of}
use Rattle.abi_tree.proofs.Bytes.NumberLemmas.{little-byte, big-byte}
use Rattle.abi_tree.proofs.value.write.byte_at.Goals as goal
use Rattle.abi_tree.proofs.value.write.byte_at.Goals.{in-Little, in-Big}

pub returns : goal.returns
returns c = λ b all long same.
    let whole = ap (λ n. n / 2 ^ (8 * c.match-order.place) % 256) same in
    elim c.match-order.branch [
      | in-Little w ↦
          whole ∙ ap (λ order. number_of order b / 2 ^ (8 * c.match-order.place) % 256) w.in-Little.is
          ∙ ap (λ p. number_of Little b / 2 ^ (8 * p) % 256) w.place-is ∙ little-byte b c.args.i all (omega (arith, long))
      | in-Big w ↦
          let there : c.match-order.place ≡ length b - 1 - c.args.i = omega (arith, w.place-is, long) in
          whole ∙ ap (λ order. number_of order b / 2 ^ (8 * c.match-order.place) % 256) w.in-Big.is
          ∙ ap (λ p. number_of Big b / 2 ^ (8 * p) % 256) there ∙ big-byte b c.args.i all (omega (arith, long))
    ]
