-- Each number before is one of the type.
use Rattle.std.proofs.Common.{◌≡◌, true, take}
use Rattle.std.specs.List.{list_all}
use Rattle.rustc_abi.specs.Enums.{is_discriminant}
use Rattle.rustc_abi.proofs.lay_enum.are_discriminants.Given as goal

abbrev pub invariant-loop-number : goal.invariant-loop-number
invariant-loop-number l = list_all (is_discriminant l.dl l.repr) (take l.number-index l.numbers) ≡ true
