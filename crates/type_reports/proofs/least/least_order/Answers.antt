use Rattle.std.proofs.Common.{◌≡◌, ◌∙◌, ap, length, map, sym, subst}
use Rattle.std.proofs.lemmas.List.{map-id}
use Rattle.abi_scalar.specs.Shape.{listed_order}
use Rattle.abi_univariant.specs.Least.{IsLeastSize, IsOrderOf, size_by}
use Rattle.type_reports.specs.LeastOrder.{with_free_order}
use Rattle.type_reports.proofs.least.least_order.Goals as goal

pub layout_of_univariant-requires-clause-fields : goal.layout_of_univariant-requires-clause-fields
layout_of_univariant-requires-clause-fields c = rw (c.new.ensures, c.new-fields.ensures) c.requires.fields

pub returns : goal.returns
returns c =
    let dl = c.args.dl.now in
    let free = with_free_order c.args.repr.now in
    let fields = map (λ f. f.now) c.args.fields.now in
    let found = c.in_ok-layout.ensures.placed in
    let least = rw (c.new.ensures, c.new-fields.ensures, c.with_free_order-free.ensures) at c.in_ok-layout.ensures.least in
    let by = rw (c.new.ensures, c.new-fields.ensures, c.with_free_order-free.ensures) at found.2 in
    let is = sym (c.in_ok-memory_order.ensures ∙ ap listed_order found.1 ∙ map-id found.0) in
    record {
      least = subst (IsLeastSize dl free c.args.kind fields) (sym c.bytes.ensures) least;
      allowed = subst (IsOrderOf dl free c.args.kind (length fields)) is by.allowed;
      reached = c.bytes.ensures ∙ by.extent ∙ ap (size_by dl free c.args.kind fields) is;
    }
