-- The rules are those of the table.
use Rattle.std.proofs.Common.{refl}
use Rattle.cargo_manifest.specs.Schema.{rules}
use Rattle.cargo_manifest.proofs.schema.rules.Goals as goal

pub returns : goal.returns
unfolding rules
returns c = refl
