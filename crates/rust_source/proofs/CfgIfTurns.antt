-- A turn of the loops over the tokens of a source and over the branches of `cfg_if!`, and what stands at their ends.
use Rattle.std.proofs.Common.{◌≡◌, ℕ, ◌+◌, ◌-◌, ◌<◌, ◌≤◌, None, ap, false, true}
use Rattle.std.specs.Prelude.{if◌then◌else◌}
use Rattle.rust_source.specs.declared.reader.cursor.Cursor.{Cursor}
use Rattle.rust_source.specs.declared.target.CfgTarget.{CfgTarget}
use Rattle.rust_source.specs.Cfg.{Noted}
use Rattle.rust_source.specs.CfgIf.{branch_by, branch_next, is_no_call, is_whole_path, own_from, standing_from}
use Rattle.rust_source.specs.Cursor.{passed}
use Rattle.rust_source.specs.Terms.{done}
use Rattle.rust_source.proofs.Turns.{none_left, turns}

module _ (n i : ℕ) where
  pub own_more : (c : Cursor) → i < n → own_from (n - i) c ≡ (if is_whole_path c then own_from (n - (i + 1)) (passed c 4) else (if is_no_call c then true else own_from (n - (i + 1)) (passed c 1)))
  own_more c left = ap (λ k. own_from k c) (turns n i left)

  pub own_done : (c : Cursor) → n ≤ i → own_from (n - i) c ≡ false
  own_done c past = ap (λ k. own_from k c) (none_left n i past)

  pub standing_more : (t : CfgTarget) (c : Cursor) (known : Noted) → i < n → standing_from t (n - i) c known ≡ branch_by t (standing_from t (n - (i + 1))) (branch_next c) known
  standing_more t c known left = ap (λ k. standing_from t k c known) (turns n i left)

  pub standing_done : (t : CfgTarget) (c : Cursor) (known : Noted) → n ≤ i → standing_from t (n - i) c known ≡ done None known
  standing_done t c known past = ap (λ k. standing_from t k c known) (none_left n i past)
