-- What all come to is what those that are left come to.
use Rattle.std.proofs.Common.{◌≡◌, drop, false}
use Rattle.abi_rust.specs.Resolving.{most_deep}
use Rattle.abi_rust.specs.Types.{where_of}
use Rattle.abi_rust.specs.WrittenNames.{each_checked, type_named, variant_parts_named, variants_named}
use Rattle.abi_rust.proofs.written_names.check_variants.Given as goal

abbrev pub invariant-loop-variant : goal.invariant-loop-variant
invariant-loop-variant l =
    each_checked (variant_parts_named l.cx (where_of l.env) (type_named l.cx (where_of l.env) most_deep false)) (drop l.variant-index l.variants)
    ≡ variants_named l.cx (where_of l.env) (type_named l.cx (where_of l.env) most_deep false) l.variants
