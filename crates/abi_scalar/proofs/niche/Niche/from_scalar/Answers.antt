use Rattle.std.proofs.Common.{rules, Some, None}
use Rattle.abi_scalar.proofs.NicheLemmas.{niche_there_at}
use Rattle.abi_scalar.proofs.niche.Niche.from_scalar.Goals as goal

pub returns-then-available-eq0-clause-free : goal.returns-then-available-eq0-clause-free
returns-then-available-eq0-clause-free g c =
    niche_there_at (g.C.HasDataLayout.target c.args.cx.now) c.args.offset c.args.scalar None c.requires (search rules)

pub returns-else-available-eq0-clause-free : goal.returns-else-available-eq0-clause-free
returns-else-available-eq0-clause-free g c =
    niche_there_at (g.C.HasDataLayout.target c.args.cx.now) c.args.offset c.args.scalar
    (Some (record { offset = c.args.offset; value = c.in-Initialized.value; valid_range = c.in-Initialized.valid_range }))
    c.requires (search rules)
