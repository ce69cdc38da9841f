use Rattle.std.proofs.Common.{subst}
use Rattle.std.specs.Prelude.{Some}
use Rattle.abi_univariant.specs.ListNiche.{IsPlacedField}
use Rattle.abi_univariant.proofs.list_niche.niche_of_placed.Goals as goal

pub niche_of_part-requires : goal.niche_of_part-requires
niche_of_part-requires g c =
    let there : IsPlacedField c.args.parts.now (Some c.in-Some.field) = subst (IsPlacedField c.args.parts.now) c.in-Some.is c.requires in
    rw c.layout_at.ensures.niche (there.1)
