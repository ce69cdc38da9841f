-- Floating-point formats.
use Rattle.std.specs.Prelude.{ℕ, Bool, true, false, List, codes}
use Rattle.abi_base.specs.declared.float.Float.{Float}
use Rattle.abi_base.specs.declared.float.Float.TheVariants.{F16, F16B, F32, F64, F128, PpcF128}
use Rattle.abi_base.specs.declared.data_layout.TargetDataLayout.{TargetDataLayout}

-- how many bytes a float has
abbrev pub float_size : Float → ℕ
float_size F16 = 2
float_size F16B = 2
float_size F32 = 4
float_size F64 = 8
float_size F128 = 16
float_size PpcF128 = 16

-- its alignment, as an exponent of two
abbrev pub float_align : TargetDataLayout → Float → ℕ
float_align dl F16 = dl.f16_align
float_align dl F16B = dl.f16_align
float_align dl F32 = dl.f32_align
float_align dl F64 = dl.f64_align
float_align dl F128 = dl.f128_align
float_align dl PpcF128 = dl.f128_align

-- its name
abbrev pub float_text : Float → List ℕ
float_text F16 = codes "f16"
float_text F16B = codes "f16b"
float_text F32 = codes "f32"
float_text F64 = codes "f64"
float_text F128 = codes "f128"
float_text PpcF128 = codes "ppcf128"

-- it is one of IEEE 754's interchange formats
abbrev pub is_ieee_float : Float → Bool
is_ieee_float F16B = false
is_ieee_float PpcF128 = false
is_ieee_float _ = true
