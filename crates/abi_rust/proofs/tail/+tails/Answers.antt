use Rattle.std.proofs.Common.{sym, ◌∙◌}
use Rattle.abi_rust.specs.Tails.{outer_of, tail_inner}
use Rattle.abi_rust.specs.Types.{all_given, ty_of}
use Rattle.abi_rust.proofs.Lasts.{field_tail_on}
use Rattle.abi_rust.proofs.tail.+tails.Goals as goal

pub tail_of_field-returns : goal.tail_of_field-returns
tail_of_field-returns t c =
    field_tail_on c.args.cx.now (tail_inner c.args.cx.now c.args.nesting.depth_left) (outer_of c.args.nesting.above) (outer_of c.inside-inner.result.above) c.args.instance.number c.args.instance.item.now c.args.last.now (all_given c.args.instance.given.now) (ty_of c.in_ok-ty.ty) c.tail_of.result
    (sym c.stands_in.ensures ∙ c.if-stands_in.false) (rw (c.inside.ensures.depth, c.inside.ensures.place) at c.in_ok-ty.ensures) c.inside-inner.ensures.outer (rw c.inside-inner.ensures.depth at c.tail_of.ensures)
