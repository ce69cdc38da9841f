use Rattle.std.proofs.Common.{rules, arith}
use Rattle.std.proofs.lemmas.Grind.{common_steps}
use Rattle.abi_scalar.proofs.lawful.is_lawful_niche.Goals as goal

pub returns-then-le : goal.returns-then-le
returns-then-le c =
    let free = rw c.size-width.ensures at c.has_free.ensures in (
      λ t. record {
        inside = grind (arith, common_steps);
        pointer = search rules;
        within = search rules;
        free = free.0 t;
      },
      λ h. free.1 h.free,
    )
