-- A turn of the loop over the tokens of a source that decides calls of `cfg!`, and what stands at its end.
use Rattle.std.proofs.Common.{◌≡◌, ℕ, ◌+◌, ◌-◌, ◌<◌, ◌≤◌, List, [], ap}
use Rattle.std.specs.Prelude.{if◌then◌else◌}
use Rattle.rust_source.specs.declared.reader.cursor.CfgCall.{CfgCall}
use Rattle.rust_source.specs.declared.reader.cursor.Cursor.{Cursor}
use Rattle.rust_source.specs.declared.target.CfgTarget.{CfgTarget}
use Rattle.rust_source.specs.CfgCalls.{calls_from, defines_cfg, with_call}
use Rattle.rust_source.specs.Cursor.{passed}
use Rattle.rust_source.proofs.Turns.{none_left, turns}

module _ (n i : ℕ) (t : CfgTarget) (all : List CfgCall) (c : Cursor) where
  pub more : i < n → calls_from (n - i) t all c ≡ (if defines_cfg c then [] else calls_from (n - (i + 1)) t (with_call t all c) (passed c 1))
  more left = ap (λ k. calls_from k t all c) (turns n i left)

  pub done : n ≤ i → calls_from (n - i) t all c ≡ all
  done past = ap (λ k. calls_from k t all c) (none_left n i past)
