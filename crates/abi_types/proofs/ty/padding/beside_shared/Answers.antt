use Rattle.std.proofs.Common.{ap, ◌∙◌}
use Rattle.std.specs.Prelude.{◌&&◌, not}
use Rattle.std.proofs.lemmas.Result.{IfOk-weaker}
use Rattle.abi_index.specs.RangeSet.{is_in_ranges}
use Rattle.abi_types.specs.Ty.Places.{is_place, is_shared_place}
use Rattle.abi_types.proofs.PlacesLemmas.{first_bytes}
use Rattle.abi_types.proofs.ty.padding.beside_shared.Goals as goal

pub returns : goal.returns
returns g c =
    let t = g.W.Walk.typed_of c.args.this in
    IfOk-weaker c.difference.result _ _
    (λ rest left k. left k ∙ ap (λ b. b && not (is_in_ranges c.in_ok-shared.shared k)) (c.requires.any k)
    ∙ ap (λ b. is_place t k && not b) (c.in_ok-shared.ensures.bytes k ∙ first_bytes c.new-runs.result c.put_fields.new.all (is_shared_place t) c.new-runs.ensures c.in_ok-put_fields.ensures k))
    c.difference.ensures.bytes
