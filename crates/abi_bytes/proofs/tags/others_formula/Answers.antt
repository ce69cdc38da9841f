use Rattle.std.proofs.Common.{arith}
use Rattle.automata.specs.Nodes.{formulas_in}
use Rattle.abi_bytes.proofs.TagLemmas.{others_made}
use Rattle.abi_bytes.proofs.tags.others_formula.Goals as goal

pub returns : goal.returns
returns c =
    let span = c.args.span in
    others_made (formulas_in c.args.formulas.now) (formulas_in c.beside_formula.new.formulas) (formulas_in c.beside_formula-2.new.formulas) (formulas_in c.conjunction.new.self) c.args.walk.order
    span.niche.width span.niche.first span.niche.start span.untagged span.last _ _ c.in_ok-before.before c.in_ok-behind.behind c.in_ok-place.place (omega arith) (omega arith)
    c.in_ok-before.ensures c.in_ok-behind.ensures c.in_ok-place.ensures
