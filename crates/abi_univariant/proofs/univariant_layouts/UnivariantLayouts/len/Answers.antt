use Rattle.std.proofs.Common.{ap, arith, length}
use Rattle.abi_univariant.proofs.Layouts.ListLayoutsLemmas.{lists_count}
use Rattle.abi_univariant.proofs.univariant_layouts.UnivariantLayouts.len.Goals as goal

pub returns : goal.returns
returns g c =
    let count = lists_count c.self.inside.variants.items c.self.inside.rests.items c.self.invariant.0 in
    omega (arith, c.len.ensures, count, ap length c.self.view_is)
