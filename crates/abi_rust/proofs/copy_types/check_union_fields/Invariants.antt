-- What all come to is what those that are left come to.
use Rattle.std.proofs.Common.{◌≡◌, drop}
use Rattle.abi_rust.specs.CopyTypes.{union_fields_checked}
use Rattle.abi_rust.specs.Types.{where_of}
use Rattle.abi_rust.proofs.copy_types.check_union_fields.Given as goal

abbrev pub invariant-loop-field : goal.invariant-loop-field
invariant-loop-field l = union_fields_checked l.cx (where_of l.inside) (drop l.field-index l.fields) ≡ union_fields_checked l.cx (where_of l.inside) l.fields
