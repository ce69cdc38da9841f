-- What is written of a fault that is about a name.
use Rattle.std.specs.Prelude.{◌≡◌, codes, List, ◌++◌, ℕ, Option, Some, None}
use Rattle.rust_source.specs.Names.{text_of}
use Rattle.rust_source.specs.declared.names.Names.{Names}
use Rattle.rust_source.specs.declared.place.Symbol.{Symbol}
use Rattle.abi_rust.specs.declared.fault.FaultKind.{FaultKind}
use Rattle.abi_rust.specs.declared.fault.FaultKind.TheVariants.{Ambiguous, NotAType, Private, Recursive, RepeatedConstant, RepeatedType, UnknownConstant, UnknownOrigin, UnknownType, WrongArguments}

-- the name that a fault is about
abbrev pub name_of_fault : FaultKind → Option Symbol
name_of_fault (RepeatedType n) = Some n
name_of_fault (RepeatedConstant n) = Some n
name_of_fault (UnknownType n) = Some n
name_of_fault (UnknownConstant n) = Some n
name_of_fault (UnknownOrigin n) = Some n
name_of_fault (Private n) = Some n
name_of_fault (Ambiguous n) = Some n
name_of_fault (NotAType n) = Some n
name_of_fault (WrongArguments n) = Some n
name_of_fault (Recursive n) = Some n
name_of_fault _ = None

-- a name in quotes
abbrev pub in_quotes : Names → Symbol → List ℕ
in_quotes names n = codes "`" ++ text_of names n.0 ++ codes "`"

-- something may stand behind what stood there
abbrev pub GoesOn : (old new : List ℕ) → Type 0
GoesOn old new = (more : List ℕ) × (new ≡ old ++ more)

-- behind what stood there stands a text with the name in quotes
abbrev pub QuotesName : Names → Symbol → (old new : List ℕ) → Type 0
QuotesName names n old new = (before after : List ℕ) × (new ≡ (old ++ before ++ in_quotes names n) ++ after)
