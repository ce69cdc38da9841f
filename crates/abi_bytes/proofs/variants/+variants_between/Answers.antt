use Rattle.std.proofs.Common.{◌+◌, ◌-◌, ◌/◌, arith}
use Rattle.automata.specs.Nodes.{formulas_in}
use Rattle.abi_tree.specs.Nodes.{tagged_variants_in, types_in}
use Rattle.abi_bytes.proofs.VariantLemmas.{variants_halves}
use Rattle.abi_bytes.proofs.variants.+variants_between.Goals as goal

pub returns : goal.returns
returns t c =
    let tagging = c.args.tagging in
    variants_halves c.args.walk.order tagging.encoding.now tagging.offset tagging.width tagging.whole (tagged_variants_in (types_in c.args.walk.nodes.now) tagging.variants.now)
    c.args.start (c.args.start + (c.args.end - c.args.start) / 2) c.args.end
    (formulas_in c.args.formulas.now) (formulas_in c.variants_between.new.formulas) (formulas_in c.variants_between-2.new.formulas) (formulas_in c.disjunction.new.self)
    c.in_ok-first.first c.in_ok-second.second c.in_ok-place-3.place (omega arith) (omega arith) c.in_ok-first.ensures c.in_ok-second.ensures c.in_ok-place-3.ensures
