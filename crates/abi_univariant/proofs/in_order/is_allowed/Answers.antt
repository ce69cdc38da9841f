use Rattle.std.proofs.Common.{◌≡◌, ◌∙◌, ℕ, length, map, subst, sym}
use Rattle.std.specs.Prelude.{◌↔◌, IsTrue}
use Rattle.std.proofs.lemmas.List.{length-map}
use Rattle.abi_univariant.specs.Placement.{KeepsTail}
use Rattle.abi_univariant.proofs.Sorted.NamesEach.{allowed_by, count_of_each}
use Rattle.abi_univariant.proofs.in_order.is_allowed.Goals as goal

pub keeps_tail-requires : goal.keeps_tail-requires
keeps_tail-requires g c =
    let many : length c.args.order.now ≡ c.args.count
    = sym (length-map c.args.order.now g.FieldIdx.Idx.number) ∙ count_of_each c.args.count (map g.FieldIdx.Idx.number c.args.order.now) c.in_ok-names_each.field-0 c.in_ok-names_each.ensures c.if-not-branch.false in
    rw many c.requires

pub returns : goal.returns
returns g c =
    allowed_by c.args.kind c.args.count (map g.FieldIdx.Idx.number c.args.order.now) c.in_ok-names_each.field-0 c.keeps_tail.result c.in_ok-names_each.ensures c.if-not-branch.false
    (subst (λ (n : ℕ). IsTrue c.keeps_tail.result ↔ KeepsTail c.args.kind n (map g.FieldIdx.Idx.number c.args.order.now)) (sym (length-map c.args.order.now g.FieldIdx.Idx.number)) c.keeps_tail.ensures)
