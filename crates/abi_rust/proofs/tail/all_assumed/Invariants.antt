use Rattle.std.proofs.Common.{◌≡◌, take, map}
use Rattle.abi_rust.specs.Tails.{assumed}
use Rattle.abi_rust.specs.Types.{all_given}
use Rattle.abi_rust.proofs.tail.all_assumed.Given as goal

-- so many are given
abbrev pub invariant-loop-parameter : goal.invariant-loop-parameter
invariant-loop-parameter l = all_given l.given.items ≡ map assumed (take l.parameter-index l.parameters)
