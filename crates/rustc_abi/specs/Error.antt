-- The calculator's refusals by the names that a tree's layout has for them.
use Rattle.std.specs.Prelude.{◌≡◌, ◌⊎◌, Result, Ok, Err}
use Rattle.abi_scalar.specs.declared.error.LayoutCalculatorError.{LayoutCalculatorError}
use Rattle.abi_scalar.specs.declared.error.LayoutCalculatorError.TheVariants as calculator
use Rattle.rustc_abi.specs.declared.error.LayError.{LayError}
use Rattle.rustc_abi.specs.declared.error.LayError.TheVariants.{UnexpectedUnsized, SizeOverflow, EmptyUnion, ReprConflict, ZeroLengthSimdType, OversizedSimdType, NonPrimitiveSimdType, BadOrder, OutOfMemory}

-- the name that a refusal of the calculator has for a tree
abbrev pub lay_error : {H : Type 0} → LayoutCalculatorError H → LayError
lay_error (calculator.UnexpectedUnsized field) = UnexpectedUnsized
lay_error calculator.SizeOverflow = SizeOverflow
lay_error calculator.EmptyUnion = EmptyUnion
lay_error calculator.ReprConflict = ReprConflict
lay_error calculator.ZeroLengthSimdType = ZeroLengthSimdType
lay_error (calculator.OversizedSimdType max_lanes) = OversizedSimdType
lay_error (calculator.NonPrimitiveSimdType field) = NonPrimitiveSimdType
lay_error calculator.BadOrder = BadOrder
lay_error calculator.OutOfMemory = OutOfMemory

-- the calculator's answer, with its refusal by that name
abbrev pub named : {A H : Type 0} → Result A (LayoutCalculatorError H) → Result A LayError
named (Ok a) = Ok a
named (Err e) = Err (lay_error e)

-- what follows an answer: nothing follows a refusal
abbrev pub Follows : {A B : Type 0} → (Result A LayError → Type 0) → (A → Result B LayError → Type 0) → Result B LayError → Type 0
Follows {A} P next r = ((e : LayError) × P (Err e) × (r ≡ Err e)) ⊎ ((a : A) × P (Ok a) × next a r)

-- that memory ran out, or the refusal that is answered
abbrev pub IsRefused : {A : Type 0} → (Result A LayError → Type 0) → LayError → Type 0
IsRefused P e = (e ≡ OutOfMemory) ⊎ P (Err e)
