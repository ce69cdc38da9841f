-- What isn't left is written.
use Rattle.std.proofs.Common.{◌-◌, length}
use Rattle.abi_text.proofs.Sending.{IsSending}
use Rattle.abi_text.proofs.running.send.Given as goal

abbrev pub invariant-loop : goal.invariant-loop
invariant-loop g l = IsSending (g.W.Write.contents l.initial.output) (g.W.Write.contents l.output) l.text l.rest (length l.text - length l.rest)
