use Rattle.std.proofs.Common.{◌≡◌, ◌≤◌, ◌/◌, ◌+◌, All, IfSome, None, length, take}
use Rattle.abi_rust.specs.Targets.{edits_between}
use Rattle.abi_rust.proofs.targets.nearest_of.Given as goal

-- the least number of edits is that of the nearest one so far, and at most half of the text's bytes where there is one; no
-- triple so far needs fewer
abbrev pub invariant-loop-triple : goal.invariant-loop-triple
invariant-loop-triple l = record {
  within : l.least ≤ length l.text / 2 + 1;
  near : IfSome l.nearest (λ triple. (edits_between l.text triple.now ≡ l.least) × (l.least ≤ length l.text / 2));
  far : (l.nearest ≡ None) → (l.least ≡ length l.text / 2 + 1);
  least : All (λ other. l.least ≤ edits_between l.text other.now) (take l.triple-index l.triples);
}
