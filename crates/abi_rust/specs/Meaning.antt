-- What is meant: a value, or the first fault.
use Rattle.std.specs.Prelude.{◌≡◌, ◌⊎◌, Bool, true, false, Some, None, Result, Ok, Err}
use Rattle.rust_source.specs.declared.place.Place.{Place}
use Rattle.rustc_abi.specs.declared.error.LayError.TheVariants.{OutOfMemory as LayOutOfMemory}
use Rattle.abi_rust.specs.declared.fault.FaultKind.{FaultKind}
use Rattle.abi_rust.specs.declared.fault.FaultKind.TheVariants.{OutOfMemory, TooLarge, TooDeep, Layout}
use Rattle.abi_rust.specs.declared.fault.Stop.{Stop}
use Rattle.abi_rust.specs.declared.fault.Stop.TheVariants.{Fault, Size}

-- a value, or the first fault, or that the size of a type has to be known first
abbrev pub Meaning : Type 0 → Type 0
Meaning A = Result A Stop

-- what follows where there is no fault
abbrev pub then_meant : {A B : Type 0} → (A → Meaning B) → Meaning A → Meaning B
then_meant next (Ok a) = next a
then_meant next (Err e) = Err e

-- a fault at a place
abbrev pub fault_at : {A : Type 0} → Place → FaultKind → Meaning A
fault_at at kind = Err (Fault (Some at) kind)

-- types or constants need one another too deep
abbrev pub too_deep : {A : Type 0} → Meaning A
too_deep = Err (Fault None TooDeep)

-- want of memory or of parts that may be looked at, which says nothing of the source
abbrev pub is_want : FaultKind → Bool
is_want OutOfMemory = true
is_want TooLarge = true
is_want (Layout LayOutOfMemory) = true
is_want (Layout _) = false
is_want _ = false

-- the stop is such a want
abbrev pub is_beside : Stop → Bool
is_beside (Fault at kind) = is_want kind
is_beside Size = false

-- the answer, want of memory and of parts aside: the value that is meant, or the fault
abbrev pub Means : {A B : Type 0} → (A → B) → Meaning B → Result A Stop → Type 0
Means view meant (Ok a) = meant ≡ Ok (view a)
Means view meant (Err e) = (meant ≡ Err e) ⊎ (is_beside e ≡ true)
