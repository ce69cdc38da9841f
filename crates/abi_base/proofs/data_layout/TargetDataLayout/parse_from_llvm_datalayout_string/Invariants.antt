-- The specs that are left, on top of what has been made, mean what all do.
use Rattle.std.proofs.Common.{◌≡◌}
use Rattle.std.specs.Option.{option_copied}
use Rattle.abi_base.specs.DataLayoutSpec.{spec_parts_left}
use Rattle.abi_base.specs.DataLayoutText.{data_layout_in}
use Rattle.abi_base.specs.Setting.{IsWidthOfLong}
use Rattle.abi_base.proofs.Parts.{room}
use Rattle.abi_base.proofs.Specs.{answer_from}
use Rattle.abi_base.proofs.data_layout.TargetDataLayout.parse_from_llvm_datalayout_string.Given as goal

abbrev pub invariant-loop-rest : goal.invariant-loop-rest
invariant-loop-rest l = record {
  rest : answer_from l.reading.dl l.reading.widest (spec_parts_left 45 (option_copied l.rest)) ≡ data_layout_in l.fn.default_address_space l.fn.input;
  wide : IsWidthOfLong l.reading.widest;
}

abbrev pub decreases-loop-rest : goal.decreases-loop-rest
decreases-loop-rest l = room (option_copied l.rest)
