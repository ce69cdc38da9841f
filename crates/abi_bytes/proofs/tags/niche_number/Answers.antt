use Rattle.abi_bytes.proofs.TagLemmas.{niche_cut}
use Rattle.abi_bytes.proofs.tags.niche_number.Goals as goal

pub returns : goal.returns
returns c =
    niche_cut c.truncate.result c.args.niche.start c.saturating_sub-steps.result c.args.i c.args.niche.first c.args.niche.width c.from_bytes-width.result
    c.truncate.ensures c.saturating_sub-steps.ensures c.from_bytes-width.ensures c.requires
