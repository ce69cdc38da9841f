-- What a type says of itself beside its layout.
use Rattle.std.specs.Prelude.{Bool, true}
use Rattle.abi_scalar.specs.declared.repr.ReprOptions.{ReprOptions}
use Rattle.abi_scalar.specs.Repr.{has_flags, is_transparent}
use Rattle.abi_types.specs.Ty.Typed.{Marks, no_marks}
use Rattle.abi_tree.specs.declared.mark.Mark.{Mark}
use Rattle.abi_tree.specs.declared.mark.Mark.TheVariants.{Plain, Never, Unit, Adt}

-- what a struct, a union or an enum with this repr is; bit 5 says that it is passed by a pointer where the calling convention isn't Rust's
abbrev pub mark_of : (is_enum : Bool) → ReprOptions → Mark
mark_of is_enum repr = Adt is_enum (is_transparent repr) (has_flags repr 32)

-- what a handle of a type says that is this
abbrev pub marks_by : Mark → Marks
marks_by Plain = no_marks
marks_by Never = record no_marks { is_never = true }
marks_by Unit = record no_marks { is_tuple = true; is_unit = true }
marks_by (Adt is_enum is_transparent is_passed_indirectly) =
    record no_marks { is_adt = true; is_enum = is_enum; is_transparent = is_transparent; is_passed_indirectly = is_passed_indirectly }
