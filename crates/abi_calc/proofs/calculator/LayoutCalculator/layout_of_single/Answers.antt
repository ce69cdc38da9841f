use Rattle.abi_calc.proofs.EnumLemmas.Single.{scalars_lawful, single_lawful}
use Rattle.abi_calc.proofs.calculator.LayoutCalculator.layout_of_single.Goals as goal

pub allowed_view-layout-requires-clause-view : goal.allowed_view-layout-requires-clause-view
allowed_view-layout-requires-clause-view g c = rw c.data_layout-dl.ensures (scalars_lawful _ _ c.in_ok-layout.layout.backend_repr c.in_ok-layout.ensures.lawful.view)

pub returns-clause-lawful : goal.returns-clause-lawful
returns-clause-lawful g c =
    let lawful = single_lawful c.args.index (g.Cx.HasDataLayout.target c.args.self.now.cx) c.args.optimizations c.in_ok-layout.layout c.in_ok-layout.ensures.lawful in
    rw (c.allowed_view-layout.ensures, c.allowed_niche-layout.ensures, c.data_layout-dl.ensures) lawful
