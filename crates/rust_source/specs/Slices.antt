-- Values behind references.
use Rattle.std.specs.Prelude.{Option, None, Some}
use Rattle.std.specs.Borrow.{Bor}

-- what a reference points to, where there is one
abbrev pub now_of : {A : Type 0} → Option (Bor A) → Option A
now_of None = None
now_of (Some x) = Some x.now
