use Rattle.std.proofs.Common.{◌≡◌, ℕ, List, ◌++◌, ◌≤◌, ap, ◌∙◌, arith, string_bytes, sym}
use Rattle.std.specs.Prelude.{codes, if◌then◌else◌}
use Rattle.std.proofs.lemmas.Bool.{le-ltb}
use Rattle.std.proofs.lemmas.Result.{on_ok_weaker}
use Rattle.abi_index.specs.RangeSet.{is_in_ranges}
use Rattle.abi_tree.specs.Laid.{placed_of}
use Rattle.abi_tree.specs.Placed.{Placed, size_of}
use Rattle.abi_tree.specs.Runs.{padding_of}
use Rattle.abi_tree.proofs.Places.MaximalLemmas.{padding_listed}
use Rattle.abi_text.specs.Printing.{padding_lines, range_lines}
use Rattle.abi_text.proofs.print.write_padding.Goals as goal

pub returns : goal.returns
returns c =
    let placed : Placed = placed_of c.args.laid.now in
    let runs : List (ℕ × ℕ) = c.as_slice.result.now in
    let listed : runs ≡ padding_of placed =
    padding_listed placed runs c.as_slice.ensures.maximal (λ k. ap (λ rs. is_in_ranges rs k) c.as_slice.ensures.runs ∙ c.in_ok-bytes.ensures.ranges k) in
    let few : size_of placed ≤ 65536 = omega (arith, c.if-bytes-gt-MOST_LISTED.false, c.bytes.ensures, ap (λ l. l.size) c.layout.ensures) in
    let lines : range_lines (codes "padding") runs ≡ padding_lines placed =
    ap (range_lines (codes "padding")) listed
    ∙ ap (λ b. if b then codes "padding not listed\n" else range_lines (codes "padding") (padding_of placed)) (sym (le-ltb 65536 (size_of placed) few)) in
    on_ok_weaker c.write_ranges.result (λ made. made ∙ ap (λ l. string_bytes c.args.out.now ++ l) lines) c.write_ranges.ensures
