use Rattle.std.proofs.Common.{arith, rules}
use Rattle.abi_tests.proofs.OwnTypeLemmas.{own_well_formed}
use Rattle.abi_tests.proofs.own_types.+laws.Goals as goal

pub keeps_laws-returns : goal.keeps_laws-returns
keeps_laws-returns t c = λ kept.
    own_well_formed c.args.types.now c.args.depth c.args.at c.index-types-at.result (omega (arith, c.if-depth-eq0.false)) (search rules) (search rules) (search rules) (search rules) (search rules)
    (search rules)
