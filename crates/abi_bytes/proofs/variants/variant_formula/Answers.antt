use Rattle.std.proofs.Common.{List, subst, sym}
use Rattle.automata.specs.Cell.{Cell}
use Rattle.automata.specs.Nodes.{formulas_in}
use Rattle.automata.proofs.NodesLemmas.{Keeps-trans}
use Rattle.abi_tree.specs.Nodes.{tagged_variants_in, types_in}
use Rattle.abi_tree.specs.Tag.{Names}
use Rattle.abi_bytes.specs.Formulas.{IsFormula}
use Rattle.abi_bytes.specs.Holding.{HoldCellsOfParts, HoldTag, MakeNumber}
use Rattle.abi_bytes.proofs.FirstLemmas.{made_after}
use Rattle.abi_bytes.proofs.PartLemmas.{AreMade-kept, piece_made}
use Rattle.abi_bytes.proofs.VariantLemmas.{variant_made}
use Rattle.abi_bytes.proofs.variants.variant_formula.Goals as goal

pub parts_formula-requires-clause-made : goal.parts_formula-requires-clause-made
parts_formula-requires-clause-made c =
    let s0 = formulas_in c.args.formulas.now in
    let s1 = formulas_in c.tag_formula.new.formulas in
    let s2 = formulas_in c.piece_formula.new.formulas in
    let tvs = tagged_variants_in (types_in c.args.walk.nodes.now) c.args.tagging.variants.now in
    let Q : List Cell → Type 0 = MakeNumber c.args.walk.order (λ tag. Names c.args.tagging.encoding.now c.args.tagging.width tvs tag c.args.i) in
    let tag = piece_made s1 s2 c.in_ok-formula.formula c.args.tagging.width c.in_ok-tag.tag c.args.tagging.whole c.args.tagging.offset Q c.in_ok-formula.ensures.reads c.in_ok-tag.ensures.inside c.in_ok-tag.ensures.outside in
    AreMade-kept s0 s2 c.args.walk.order c.args.walk.nodes.now c.args.walk.made.now.items (Keeps-trans s0 s1 s2 c.in_ok-formula.ensures.kept tag.kept) c.requires.made

pub returns : goal.returns
returns c =
    let s0 = formulas_in c.args.formulas.now in
    let s1 = formulas_in c.tag_formula.new.formulas in
    let s2 = formulas_in c.piece_formula.new.formulas in
    let s3 = formulas_in c.parts_formula.new.formulas in
    let done = types_in c.args.walk.nodes.now in
    let vs = c.args.tagging.variants.now in
    let tvs = tagged_variants_in done vs in
    let tagging = c.args.tagging in
    let order = c.args.walk.order in
    let Q : List Cell → Type 0 = MakeNumber order (λ tag. Names tagging.encoding.now tagging.width tvs tag c.args.i) in
    let tag = piece_made s1 s2 c.in_ok-formula.formula tagging.width c.in_ok-tag.tag tagging.whole tagging.offset Q c.in_ok-formula.ensures.reads c.in_ok-tag.ensures.inside c.in_ok-tag.ensures.outside in
    let one = made_after s0 s1 s2 tagging.whole c.in_ok-tag.tag (HoldTag order tagging.encoding.now tagging.offset tagging.width tvs c.args.i) c.in_ok-formula.ensures.kept tag in
    let two = subst (λ ps. IsFormula s2 s3 tagging.whole (HoldCellsOfParts order ps) c.in_ok-own.own) (sym c.own_parts.ensures.parts) c.in_ok-own.ensures in
    variant_made order tagging.encoding.now tagging.offset tagging.width tagging.whole done vs (0, 0) s0 s2 s3 (formulas_in c.conjunction.new.self) c.args.i c.in_ok-tag.tag c.in_ok-own.own c.in_ok-place.place
    c.requires.index one two c.in_ok-place.ensures
