use Rattle.automata.specs.Nodes.{formulas_in}
use Rattle.abi_bytes.proofs.AnswerLemmas.{bytes_made}
use Rattle.abi_bytes.proofs.answers.bytes_formula.Goals as goal

pub returns : goal.returns
returns c =
    bytes_made (formulas_in c.args.formulas.now) (formulas_in c.any_cells.new.self) (formulas_in c.run.new.self) (formulas_in c.repetition.new.self) c.in_ok-any.any c.in_ok-byte.byte c.in_ok-place.place
    c.args.size c.args.end c.requires c.in_ok-any.ensures c.in_ok-byte.ensures c.in_ok-place.ensures
