-- A variant as a value.
use Rattle.std.proofs.Common.{ap, ◌∙◌}
use Rattle.abi_tree.specs.Value.{value_of, values_of}
use Rattle.guarantees.proofs.Held.{value_of-Variant}
use Rattle.guarantees.proofs.code_generator.tags.index_of.Goals as goal

pub returns-in-Variant : goal.returns-in-Variant
returns-in-Variant c =
    (values_of c.in-Variant._fields.items, ap value_of c.in-Variant.is ∙ value_of-Variant c.in-Variant.index c.in-Variant._fields)
