-- What all come to is what those that are left come to.
use Rattle.std.proofs.Common.{◌≡◌, drop, false}
use Rattle.abi_rust.specs.Resolving.{most_deep}
use Rattle.abi_rust.specs.Types.{where_of}
use Rattle.abi_rust.specs.WrittenNames.{each_checked, type_named}
use Rattle.abi_rust.proofs.written_names.check_fields.Given as goal

abbrev pub invariant-loop-field : goal.invariant-loop-field
invariant-loop-field l =
    each_checked (λ f. type_named l.cx (where_of l.env) most_deep false f.ty) (drop l.field-index l.fields)
    ≡ each_checked (λ f. type_named l.cx (where_of l.env) most_deep false f.ty) l.fields
