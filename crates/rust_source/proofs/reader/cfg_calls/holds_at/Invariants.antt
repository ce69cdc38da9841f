-- No call before has the index.
use Rattle.std.proofs.Common.{◌≡◌, drop}
use Rattle.rust_source.specs.CfgCalls.{holds_at}
use Rattle.rust_source.proofs.reader.cfg_calls.holds_at.Given as goal

abbrev pub invariant-loop-call : goal.invariant-loop-call
invariant-loop-call l = holds_at (drop l.call-index l.calls) l.index ≡ holds_at l.calls l.index
