use Rattle.std.proofs.Common.{◌-◌, arith, inl, inr, refl}
use Rattle.abi_bytes.proofs.TagLemmas.{beside_all, beside_none, beside_some, most_cut}
use Rattle.abi_bytes.proofs.tags.range_beside.Goals as goal

pub returns-then-end-from : goal.returns-then-end-from
returns-then-end-from c =
    let niche = c.args.niche in
    let greatest = most_cut c.truncate-most.result niche.width c.from_bytes-width.result c.truncate-most.ensures c.from_bytes-width.ensures c.requires.width in
    beside_all niche.width niche.first niche.start c.args.from c.args.end c.truncate-most.result c.requires.first greatest c.if-end-from.true

pub returns-then-end-from-2 : goal.returns-then-end-from-2
returns-then-end-from-2 c =
    let niche = c.args.niche in
    let greatest = most_cut c.truncate-most.result niche.width c.from_bytes-width.result c.truncate-most.ensures c.from_bytes-width.ensures c.requires.width in
    beside_none niche.width niche.first niche.start c.args.from c.args.end c.truncate-most.result c.requires.first greatest (omega arith) (omega arith)

pub returns-then-first-eq0 : goal.returns-then-first-eq0
returns-then-first-eq0 c =
    let niche = c.args.niche in
    let greatest = most_cut c.truncate-most.result niche.width c.from_bytes-width.result c.truncate-most.ensures c.from_bytes-width.ensures c.requires.width in
    beside_some niche.width niche.first niche.start c.args.from c.args.end c.truncate-most.result c.requires.first greatest c.niche_number-first.result c.niche_number-start.result c.truncate-most.result
    (omega arith) (omega arith) c.niche_number-first.ensures c.niche_number-start.ensures (inl (c.if-first-eq0.true, refl))

pub returns : goal.returns
returns c =
    let niche = c.args.niche in
    let greatest = most_cut c.truncate-most.result niche.width c.from_bytes-width.result c.truncate-most.ensures c.from_bytes-width.ensures c.requires.width in
    beside_some niche.width niche.first niche.start c.args.from c.args.end c.truncate-most.result c.requires.first greatest c.niche_number-first.result c.niche_number-start.result (c.niche_number-first.result - 1)
    (omega arith) (omega arith) c.niche_number-first.ensures c.niche_number-start.ensures (inr (omega arith))
