use Rattle.std.proofs.Common.{◌≡◌, length, arith, refl}
use Rattle.abi_scalar.specs.Simple.{scalar_layout}
use Rattle.abi_scalar.proofs.LawfulLemmas.{scalar_lawful}
use Rattle.abi_scalar.proofs.ReadableLemmas.{lawful_readable}
use Rattle.abi_tree.specs.declared.node.Shape.TheVariants.{Scalar as Number}
use Rattle.abi_tree.proofs.Meaning.NodesLemmas.{IsPut-push}
use Rattle.rustc_abi.proofs.Faults.FaultLemmas.{faultless}
use Rattle.rustc_abi.proofs.Sizes.CountLemmas.{more_one}
use Rattle.rustc_abi.proofs.Values.NarrowLemmas.{scalar_width}
use Rattle.rustc_abi.proofs.lay_scalar.add_faultless_scalar.Goals as goal

pub push_scalar-requires : goal.push_scalar-requires
push_scalar-requires c = lawful_readable c.args.dl.now c.args.value (faultless c.args.dl.now c.args.value c.requires.faultless)

pub returns-clause-ok : goal.returns-clause-ok
returns-clause-ok c =
    let dl = c.args.dl.now in
    let at : c.len-node.result ≡ length c.args.nodes.now = omega arith in
    rw c.in_ok-push_scalar.ensures.ok
    (IsPut-push c.args.nodes.now (record { layout = scalar_layout 0 dl c.args.value; shape = Number c.args.value }) c.len-node.result refl refl
    (scalar_width dl c.args.value (scalar_layout 0 dl c.args.value) refl (lawful_readable dl c.args.value (faultless dl c.args.value c.requires.faultless))) at)

pub returns-clause-count : goal.returns-clause-count
returns-clause-count c = more_one c.args.nodes.now _ _ c.in_ok-push_scalar.ensures.ok

pub returns-clause-lawful : goal.returns-clause-lawful
returns-clause-lawful c =
    let dl = c.args.dl.now in
    let h = faultless dl c.args.value c.requires.faultless in
    scalar_lawful dl c.args.value (scalar_layout 0 dl c.args.value) (lawful_readable dl c.args.value h) c.requires.data_layout h refl refl refl refl tt

pub returns-in_err-push_scalar-clause-lawful : goal.returns-in_err-push_scalar-clause-lawful
returns-in_err-push_scalar-clause-lawful c =
    let dl = c.args.dl.now in
    let h = faultless dl c.args.value c.requires.faultless in
    scalar_lawful dl c.args.value (scalar_layout 0 dl c.args.value) (lawful_readable dl c.args.value h) c.requires.data_layout h refl refl refl refl tt
