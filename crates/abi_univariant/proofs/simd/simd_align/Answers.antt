use Rattle.abi_univariant.proofs.UnionsVectors.VectorLemmas.{factor_small}
use Rattle.abi_univariant.proofs.simd.simd_align.Goals as goal

pub returns-then-is_tight-clause-limit : goal.returns-then-is_tight-clause-limit
returns-then-is_tight-clause-limit c =
    factor_small c.args.lanes.now.size c.max_aligned_factor.result c.requires.some c.requires.small c.max_aligned_factor.ensures.divides
