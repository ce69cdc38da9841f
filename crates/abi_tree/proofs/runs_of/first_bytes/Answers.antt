-- A run from the first byte on has each byte below its end.
use Rattle.std.proofs.Common.{◌≡◌, ◌∙◌, ◌+◌, ℕ, List, ap, arith}
use Rattle.std.specs.Prelude.{◌&&◌, ◌||◌, nat_lt}
use Rattle.std.proofs.lemmas.Bool.{le-leb}
use Rattle.std.proofs.Math.Bool.{or-false}
use Rattle.abi_index.specs.RangeSet.{is_in_ranges, is_in_run}
use Rattle.abi_tree.proofs.runs_of.first_bytes.Goals as goal

below : (k count : ℕ) → is_in_run k (0, count) ≡ nat_lt k count
below k count =
    let same : 0 + count ≡ count = omega arith in
    ap (λ b. b && nat_lt k (0 + count)) (le-leb 0 k (omega arith)) ∙ ap (λ n. nat_lt k n) same

pub returns : goal.returns
returns c k =
    c.in_ok-add_range.ensures.bytes k ∙ ap (λ (rs : List (ℕ × ℕ)). is_in_run k (0, c.args.count) || is_in_ranges rs k) c.new-set.ensures
    ∙ or-false (is_in_run k (0, c.args.count)) ∙ below k c.args.count
