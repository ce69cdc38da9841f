use Rattle.std.proofs.Common.{◌≡◌, ◌-◌, ◌≤◌, drop}
use Rattle.std.specs.Option.{option_copied}
use Rattle.abi_rust.specs.Evaluating.{written_from}
use Rattle.abi_rust.proofs.discriminants.written_behind.Given as goal

-- what is found behind these is what is found behind all
abbrev pub invariant-loop-number : goal.invariant-loop-number
invariant-loop-number l = record {
  same : written_from (l.index - l.number) (drop l.number l.variants) l.behind (option_copied l.written) ≡ written_from l.index l.variants 0 (option_copied l.first);
  counted : l.behind ≤ l.number;
}
