-- What a call answers that may want memory.
use Rattle.std.specs.Prelude.{◌≡◌, ◌⊎◌, Result, Err}
use Rattle.abi_scalar.specs.declared.error.LayoutCalculatorError.{LayoutCalculatorError}
use Rattle.abi_scalar.specs.declared.error.LayoutCalculatorError.TheVariants.{OutOfMemory}

-- memory aside, the result is this answer
abbrev pub IsAnswer : {A H : Type 0} → Result A (LayoutCalculatorError H) → Result A (LayoutCalculatorError H) → Type 0
IsAnswer answer result = (result ≡ answer) ⊎ (result ≡ Err OutOfMemory)
