use Rattle.std.proofs.Common.{◌≤◌}
use Rattle.abi_base.proofs.Laws.{each_list, all_three}
use Rattle.abi_base.specs.Align.{max_exponent}
use Rattle.abi_base.specs.DataLayout.{scalar_alignments_of}
use Rattle.abi_base.proofs.data_layout.TargetDataLayout.within_limit.Goals as goal

pub returns : goal.returns
returns c = each_list (λ a. a ≤ max_exponent) (λ e. e.1) (λ e. e.1.pointer_align) (scalar_alignments_of c.args.self.now) c.args.self.now.vector_align c.args.self.now.address_space_info _ (all_three _ _ _ c.all_within_limit.ensures c.vectors_within_limit.ensures c.spaces_within_limit.ensures)
