-- Types of no bytes.
use Rattle.std.specs.Prelude.{Bool}
use Rattle.abi_types.specs.declared.ty.one_field.NoBytes.{NoBytes}
use Rattle.abi_types.specs.declared.ty.one_field.NoBytes.TheVariants.{OfAnyAlign, OfLeastAlign}
use Rattle.abi_scalar.specs.Layout.{Layout}
use Rattle.abi_types.specs.Ty.Walks.{is_zst, is_1zst}

-- the layout is one of no bytes, so aligned
abbrev pub has_no_bytes : NoBytes → Layout → Bool
has_no_bytes OfAnyAlign layout = is_zst layout
has_no_bytes OfLeastAlign layout = is_1zst layout
