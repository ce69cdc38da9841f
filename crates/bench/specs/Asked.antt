-- What the calculator asks of the calls that are timed.
use Rattle.std.specs.Prelude.{◌≡◌, ◌<◌, ◌≤◌, All, length, map}
use Rattle.abi_base.specs.DataLayout.{IsLawfulDataLayout}
use Rattle.abi_univariant.specs.List.{HasLawfulAligns}
use Rattle.abi_univariant.specs.Placement.{source_order}
use Rattle.abi_calc.specs.Enums.Discriminants.{inhabited_of}
use Rattle.abi_calc.specs.Enums.Several.{IsLawfulTag}
use Rattle.abi_index.specs.Relation.{column_count, row_count}
use Rattle.abi_scalar.specs.Lawful.{IsLawfulLayout}
use Rattle.rustc_abi.specs.Coroutines.{IsHeld}
use Rattle.bench.specs.declared.calculator.TimedCoroutine.{TimedCoroutine}
use Rattle.bench.specs.declared.calculator.TimedEnum.{TimedEnum}

-- What is asked of an enum: each variant has one discriminant, in order, and those of the variants that may have values differ by
-- the integer of the tag.
pub record IsLawfulEnum (e : TimedEnum) : Type 0 where
  pub data_layout : IsLawfulDataLayout e.dl.now
  pub fields : All (All (λ f. IsLawfulLayout e.dl.now f.now)) e.variants.items
  pub aligns : HasLawfulAligns e.repr
  pub few : length e.variants.items ≤ 1_000_000
  pub each : map (λ item. item.0) e.discriminants.items ≡ source_order (length e.variants.items)
  pub tag : IsLawfulTag e.dl.now e.repr (inhabited_of (λ i. i) (map (map (λ f. f.now)) e.variants.items) e.discriminants.items) e.tag

-- What is asked of a coroutine: it has states, each holds some of its locals, and the conflicts are between these.
pub record IsLawfulCoroutine (c : TimedCoroutine) : Type 0 where
  pub data_layout : IsLawfulDataLayout c.dl.now
  pub prefix : IsLawfulLayout c.dl.now c.prefix.now
  pub fields : All (λ f. IsLawfulLayout c.dl.now f.now) c.locals
  pub few : length c.locals ≤ 1000
  pub held : All (IsHeld (length c.locals)) c.states.items
  pub some : 0 < length c.states.items
  pub most : length c.states.items ≤ 1000
  pub rows : row_count c.conflicts ≡ length c.locals
  pub columns : column_count c.conflicts ≡ length c.locals
