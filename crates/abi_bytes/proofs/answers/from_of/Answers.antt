use Rattle.std.proofs.Common.{subst}
use Rattle.abi_tree.specs.Placed.{size_of}
use Rattle.abi_bytes.specs.Answers.{AreBytesBelow, IsComparison}
use Rattle.abi_bytes.specs.GoesInto.{HoldStored}
use Rattle.abi_bytes.proofs.AnswerLemmas.{from_none, from_says}
use Rattle.abi_bytes.proofs.answers.from_of.Goals as goal

pub returns-in-Included : goal.returns-in-Included
returns-in-Included c = λ a h. from_says a (subst (IsComparison (size_of a.placed) (AreBytesBelow 256) (HoldStored a)) c.in-Included.is h)

pub returns-in_ok-bytes-in-Missing : goal.returns-in_ok-bytes-in-Missing
returns-in_ok-bytes-in-Missing c = λ a h.
    let found = subst (IsComparison (size_of a.placed) (AreBytesBelow 256) (HoldStored a)) c.in-Missing.is h in
    from_none a c.in-Missing.cells.items c.in_ok-bytes-in-Missing.bytes.items found.0 found.1 found.2 found.3 c.in_ok-bytes-in-Missing.ensures
