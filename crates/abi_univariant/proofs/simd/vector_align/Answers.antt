use Rattle.abi_univariant.proofs.UnionsVectors.VectorLemmas.{vector_small}
use Rattle.abi_univariant.proofs.simd.vector_align.Goals as goal

pub returns-clause-limit : goal.returns-clause-limit
returns-clause-limit c =
    vector_small c.args.dl.now c.args.size c.rust_vector_align.result c.requires.data_layout c.requires.small
    c.rust_vector_align.ensures.listed c.rust_vector_align.ensures.unlisted
