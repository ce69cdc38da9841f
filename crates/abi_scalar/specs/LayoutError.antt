-- Why a type has no layout.
use Rattle.std.specs.Prelude.{ℕ, List, codes}
use Rattle.abi_scalar.specs.declared.error.LayoutCalculatorError.{LayoutCalculatorError}
use Rattle.abi_scalar.specs.declared.error.LayoutCalculatorError.TheVariants.{UnexpectedUnsized, SizeOverflow, EmptyUnion, ReprConflict, ZeroLengthSimdType, OversizedSimdType, NonPrimitiveSimdType, BadOrder, OutOfMemory}

-- the same without the field
abbrev pub bare_error : {F : Type 0} → LayoutCalculatorError F → LayoutCalculatorError (Unit {0})
bare_error (UnexpectedUnsized field) = UnexpectedUnsized tt
bare_error SizeOverflow = SizeOverflow
bare_error EmptyUnion = EmptyUnion
bare_error ReprConflict = ReprConflict
bare_error ZeroLengthSimdType = ZeroLengthSimdType
bare_error (OversizedSimdType max_lanes) = OversizedSimdType max_lanes
bare_error (NonPrimitiveSimdType field) = NonPrimitiveSimdType tt
bare_error BadOrder = BadOrder
bare_error OutOfMemory = OutOfMemory

-- what is wrong, in plain words
abbrev pub fallback_text : {F : Type 0} → LayoutCalculatorError F → List ℕ
fallback_text (UnexpectedUnsized field) = codes "an unsized type was found where a sized type was expected"
fallback_text SizeOverflow = codes "size overflow"
fallback_text EmptyUnion = codes "type is a union with no fields"
fallback_text ReprConflict = codes "type has an invalid repr"
fallback_text ZeroLengthSimdType = codes "invalid simd type definition"
fallback_text (OversizedSimdType max_lanes) = codes "invalid simd type definition"
fallback_text (NonPrimitiveSimdType field) = codes "invalid simd type definition"
fallback_text BadOrder = codes "field order is not allowed"
fallback_text OutOfMemory = codes "out of memory"
