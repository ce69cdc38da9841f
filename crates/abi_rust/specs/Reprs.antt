-- What is wrong with a repr.
use Rattle.std.specs.Prelude.{ℕ, bit_or, length, Bool, true, false, List, cond, ◌&&◌, ◌||◌, not, nat_eq, is_some, Option, Some, None, Result, Ok, Err, if◌then◌else◌}
use Rattle.std.specs.Option.{option_map}
use Rattle.abi_base.specs.Align.{align_of_bytes}
use Rattle.abi_base.specs.declared.align.AlignFromBytesError.{AlignFromBytesError}
use Rattle.abi_scalar.specs.declared.repr.ReprFlags.{ReprFlags}
use Rattle.abi_scalar.specs.declared.repr.ReprOptions.{ReprOptions}
use Rattle.rust_source.specs.declared.item.Item.{Item}
use Rattle.rust_source.specs.declared.item.ItemKind.{ItemKind}
use Rattle.rust_source.specs.declared.item.ItemKind.TheVariants.{Enum as EnumItem, Union as UnionItem}
use Rattle.rust_source.specs.declared.item.Repr.{Repr}
use Rattle.rust_source.specs.declared.item.Variant.{Variant}
use Rattle.rust_source.specs.declared.place.Place.{Place}
use Rattle.abi_rust.specs.Aligned.{all_units}
use Rattle.abi_rust.specs.Meaning.{Meaning, then_meant, fault_at}
use Rattle.abi_rust.specs.Scalars.{type_of_kind}
use Rattle.rust_source.specs.declared.fault.SourceFaultKind.TheVariants.{OutOfMemory as SourceOutOfMemory}
use Rattle.rustc_abi.specs.declared.error.LayError.TheVariants.{OutOfMemory as LayOutOfMemory}
use Rattle.abi_rust.specs.declared.fault.FaultKind.{FaultKind}
use Rattle.abi_rust.specs.declared.fault.FaultKind.TheVariants.{BadAlignment, OutOfMemory, RustBeside, Simd, Source, Layout, PackedApart, TransparentBeside, PackedEnum, ReprWithoutVariants, TransparentFields, TransparentUnion, IntegerBesideC, IntegerRepr, PackedAndAligned}

-- it asks for something beside transparent
abbrev pub asks_beside : Repr → Bool
asks_beside r = r.c || r.rust || is_some r.integer || is_some r.packed || is_some r.align

-- what is wrong with it on an enum of these variants
abbrev pub repr_fault_of_enum : Repr → List Variant → Option FaultKind
repr_fault_of_enum r variants =
    cond (is_some r.packed) (Some PackedEnum)
    (cond (nat_eq (length variants) 0) (Some ReprWithoutVariants)
    (cond (r.transparent && not (nat_eq (length variants) 1)) (Some TransparentFields)
    (cond (r.c && is_some r.integer && all_units variants) (Some IntegerBesideC) None)))

-- what is wrong with it on a struct or a union
abbrev pub repr_fault_of_fields : Repr → Option FaultKind
repr_fault_of_fields r =
    cond (is_some r.integer) (Some IntegerRepr)
    (cond (is_some r.packed && is_some r.align) (Some PackedAndAligned)
    (cond r.is_packed_apart (Some PackedApart) None))

-- a growth of memory was refused
abbrev pub is_want_of_memory : FaultKind → Bool
is_want_of_memory OutOfMemory = true
is_want_of_memory (Source SourceOutOfMemory) = true
is_want_of_memory (Source _) = false
is_want_of_memory (Layout LayOutOfMemory) = true
is_want_of_memory (Layout _) = false
is_want_of_memory _ = false

-- what is wrong with it on a kind of item
abbrev pub kind_fault : Repr → ItemKind → Option FaultKind
kind_fault r (EnumItem all) = repr_fault_of_enum r all.variants.items
kind_fault r (UnionItem fields) = cond r.transparent (Some TransparentUnion) (repr_fault_of_fields r)
kind_fault r _ = repr_fault_of_fields r

-- what the compiler finds wrong with it
abbrev pub repr_fault : Repr → ItemKind → Option FaultKind
repr_fault r kind =
    cond r.simd (Some Simd)
    (cond (r.transparent && asks_beside r) (Some TransparentBeside)
    (cond (r.rust && (r.c || is_some r.integer)) (Some RustBeside) (kind_fault r kind)))

-- an alignment of so many bytes
abbrev pub alignment_or_fault : Place → Result ℕ AlignFromBytesError → Meaning (Option ℕ)
alignment_or_fault at (Ok a) = Ok (Some a)
alignment_or_fault at (Err e) = fault_at at BadAlignment

-- the alignment of so many bytes, where some are asked for; a fault where they are none or no power of two below the limit
abbrev pub alignment_asked : Place → Option ℕ → Meaning (Option ℕ)
alignment_asked at None = Ok None
alignment_asked at (Some bytes) = if nat_eq bytes 0 then fault_at at BadAlignment else alignment_or_fault at (align_of_bytes bytes)

-- the words of it that are set or not
abbrev pub flags_of : Repr → ReprFlags
flags_of r = record { 0 = bit_or (if r.c then 1 else 0) (if r.transparent then 4 else 0) }

-- what asks for nothing
abbrev pub no_repr : ReprOptions
no_repr = record { int = None; align = None; pack = None; flags = record { 0 = 0 }; scalable = None; field_shuffle_seed = 0 }

-- what a `repr` asks for, with these alignments
abbrev pub options : Repr → (align pack : Option ℕ) → ReprOptions
options r align pack =
    record { int = option_map type_of_kind r.integer; align = align; pack = pack; flags = flags_of r; scalable = None; field_shuffle_seed = 0 }

-- what a `repr` asks for, or the fault of its words, or that of its alignments, `packed` behind `align`
abbrev pub repr_by : Place → Repr → Option FaultKind → Meaning ReprOptions
repr_by at r (Some fault) = fault_at at fault
repr_by at r None = then_meant (λ align. then_meant (λ pack. Ok (options r align pack)) (alignment_asked at r.packed)) (alignment_asked at r.align)

-- what the `repr` of an item asks for, where it has one, at that place
abbrev pub repr_in : Item → Option Place → Meaning ReprOptions
repr_in it None = Ok no_repr
repr_in it (Some at) = repr_by at it.repr (repr_fault it.repr it.kind)

-- what an item's repr asks for
unfoldable pub repr_of : Item → Meaning ReprOptions
repr_of it = repr_in it it.repr.at
