-- The rules of a section, together.
use Rattle.std.proofs.Common.{Ok, Err, Result}
use Rattle.std.specs.Prelude.{IfOk}
use Rattle.abi_base.specs.declared.data_layout.TargetDataLayout.{TargetDataLayout}
use Rattle.abi_tree.specs.declared.laid.Laid.{Laid}
use Rattle.abi_tree.specs.Placed.{Placed}
use Rattle.abi_tree.specs.Tree.{Tree}
use Rattle.rustc_abi.specs.declared.error.LayError.{LayError}
use Rattle.rustc_abi.specs.Everywhere.{EachIn}
use Rattle.guarantees.specs.Reference.Arrays.{IsArray}
use Rattle.guarantees.specs.Reference.Chapter.{LiesAs, HasProperties, HasSimpleTypes, KeepsToC, KeepsToModifiers, KeepsToOption, KeepsToRust}
use Rattle.guarantees.specs.Reference.CStruct.{IsCStruct}
use Rattle.guarantees.specs.Reference.CUnion.{IsCUnion}
use Rattle.guarantees.specs.Reference.FieldEnums.{IsCEnum, IsPrimitiveEnum}
use Rattle.guarantees.specs.Reference.Modifiers.{IsPacked, IsPackedC, IsRaised, IsRaisedEnum}
use Rattle.guarantees.specs.Reference.Option.{IsAsLarge, IsNoneZero, IsSomeAlike, OfOption}
use Rattle.guarantees.specs.Reference.Primitive.{HasPointersOfIndex, HasPowerAlign, HasWideIndex, HoldsAddresses}
use Rattle.guarantees.specs.Reference.Primitive.{IsAlignedBySize, IsSignless, IsSizedByTable, IsThin, IsUnit, IsWhole, IsWidePointer}
use Rattle.guarantees.specs.Reference.RustLayout.{IsAligned, IsApart, LiesAsAlone}

module _ (dl : TargetDataLayout) (tree : Tree) where
  -- a rule of each type, where the tree is laid out
  abbrev Rule : (P : Tree → Placed → Type 0) → Result Laid LayError → Type 0
  Rule P r = IfOk r (EachIn dl tree P)

  -- the same where the data layout is of some kind
  abbrev RuleIf : Type 0 → (P : Tree → Placed → Type 0) → Result Laid LayError → Type 0
  RuleIf A P r = IfOk r (λ laid. A → EachIn dl tree P laid)

  pub given : {A : Type 0} (P : Tree → Placed → Type 0) (r : Result Laid LayError) → RuleIf A P r → A → Rule P r
  given P (Ok laid) held a = held a
  given P (Err e) held a = tt

  pub properties : (r : Result Laid LayError) → Rule HasPowerAlign r → Rule IsWhole r
      → IfOk r (HasProperties dl tree)
  properties (Ok laid) r1 r2 = record { properties_align = r1; properties_size = r2 }
  properties (Err e) r1 r2 = tt

  pub simple : (r : Result Laid LayError) → Rule IsSizedByTable r → RuleIf (HasWideIndex dl) (HoldsAddresses dl) r
      → Rule (IsSignless (LiesAs dl)) r → Rule IsAlignedBySize r
      → RuleIf (HasPointersOfIndex dl) (IsThin dl (LiesAs dl)) r → Rule (IsWidePointer (LiesAs dl)) r
      → Rule IsArray r → Rule IsUnit r → IfOk r (HasSimpleTypes dl tree)
  simple (Ok laid) r1 r2 r3 r4 r5 r6 r7 r8 = record {
    primitive_size = r1;
    primitive_size_minimum = r2;
    primitive_integer_alignment = r3;
    primitive_platform_specific_alignment = r4;
    pointer_thin = r5;
    pointer_unsized = r6;
    array = r7;
    tuple_unit = r8;
  }
  simple (Err e) r1 r2 r3 r4 r5 r6 r7 r8 = tt

  pub rust : (r : Result Laid LayError) → Rule (LiesAsAlone (LiesAs dl)) r → Rule IsAligned r → Rule IsApart r
      → IfOk r (KeepsToRust dl tree)
  rust (Ok laid) r1 r2 r3 = record { repr_inter_field = r1; repr_rust_layout = r2; repr_rust_layout_struct = r3 }
  rust (Err e) r1 r2 r3 = tt

  pub modifiers : (r : Result Laid LayError) → Rule (IsRaised (LiesAs dl)) r → Rule IsPackedC r
      → Rule IsPacked r → Rule (IsRaisedEnum (LiesAs dl)) r → IfOk r (KeepsToModifiers dl tree)
  modifiers (Ok laid) r1 r2 r3 r4 = record {
    repr_alignment_align = r1;
    repr_alignment_packed_fields = r2;
    repr_alignment_packed_padding = r3;
    repr_alignment_enum = r4;
  }
  modifiers (Err e) r1 r2 r3 r4 = tt

  pub c : (r : Result Laid LayError) → Rule IsCStruct r → Rule IsCUnion r → Rule (IsCEnum dl) r
      → Rule (IsPrimitiveEnum dl) r → IfOk r (KeepsToC dl tree)
  c (Ok laid) r1 r2 r3 r4 = record { repr_c_struct = r1; repr_c_union = r2; repr_c_adt = r3; repr_primitive_adt = r4 }
  c (Err e) r1 r2 r3 r4 = tt

  pub option : (r : Result Laid LayError) → Rule (OfOption dl (LiesAs dl) IsAsLarge) r
      → Rule (OfOption dl (LiesAs dl) (IsNoneZero dl)) r → Rule (OfOption dl (LiesAs dl) (IsSomeAlike dl)) r
      → IfOk r (KeepsToOption dl tree)
  option (Ok laid) r1 r2 r3 = record { option_size = r1; option_none_is_zero = r2; option_some_is_its_value = r3 }
  option (Err e) r1 r2 r3 = tt
