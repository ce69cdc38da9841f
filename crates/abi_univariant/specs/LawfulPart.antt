-- Parts that are lawful, as those of lawful layouts are.
use Rattle.std.specs.Prelude.{◌≡◌, ◌^◌, ◌≤◌, IfSome}
use Rattle.std.specs.Int.{◌∣◌}
use Rattle.abi_base.specs.declared.data_layout.TargetDataLayout.{TargetDataLayout}
use Rattle.abi_scalar.specs.Lawful.{IsLawfulNiche, IsLawfulView, IsNicheOfView}
use Rattle.abi_univariant.specs.declared.part.Part.{Part}
use Rattle.abi_univariant.specs.Part.{free_numbers, max_align}

-- A part's alignment has its limit, and its size is a multiple.
pub record IsAlignedPart (part : Part) : Type 0 where
  pub aligned : part.align ≤ max_align
  pub whole : 2 ^ part.align ∣ part.size

-- A part whose niche and view are lawful, and whose free numbers are the niche's.
pub record IsLawfulPart (dl : TargetDataLayout) (part : Part) : Type 0 where
  pub aligned : part.align ≤ max_align
  pub whole : 2 ^ part.align ∣ part.size
  pub niche : IfSome part.largest_niche (IsLawfulNiche dl part.size)
  pub view : IsLawfulView dl part.size part.view
  pub niche_of_view : IfSome part.largest_niche (IsNicheOfView part.view)
  pub counted : part.free ≡ free_numbers dl part.largest_niche
