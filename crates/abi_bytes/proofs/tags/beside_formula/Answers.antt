use Rattle.automata.specs.Nodes.{formulas_in}
use Rattle.abi_bytes.specs.Tags.{IsBeside}
use Rattle.abi_bytes.proofs.TagLemmas.{beside_made, numbers_none}
use Rattle.abi_bytes.proofs.tags.beside_formula.Goals as goal

pub returns-in_ok-place-in-Some : goal.returns-in_ok-place-in-Some
returns-in_ok-place-in-Some c =
    let niche = c.args.niche in
    beside_made (formulas_in c.args.formulas.now) (formulas_in c.range_formula.new.formulas) c.args.walk.order niche.width niche.first niche.start c.args.from c.args.end c.in_ok-place-in-Some.place
    c.in-Some.range c.in-Some.ensures c.in_ok-place-in-Some.ensures

pub returns-in_ok-place-in-None : goal.returns-in_ok-place-in-None
returns-in_ok-place-in-None c =
    let niche = c.args.niche in
    numbers_none (formulas_in c.args.formulas.now) (formulas_in c.no_cells.new.self) c.args.walk.order niche.width c.in_ok-place-in-None.place
    (IsBeside niche.width niche.first niche.start c.args.from c.args.end) c.in-None.ensures c.in_ok-place-in-None.ensures
