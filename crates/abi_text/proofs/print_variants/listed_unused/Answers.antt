use Rattle.std.proofs.Common.{◌≡◌, [], ◌≤◌, ◌<◌, ap, ◌∙◌, arith, get_or, sym}
use Rattle.std.specs.Prelude.{codes, if◌then◌else◌}
use Rattle.std.proofs.lemmas.Bool.{le-ltb, lt-ltb}
use Rattle.abi_index.specs.RangeSet.{is_in_ranges}
use Rattle.abi_tree.specs.Laid.{placed_of}
use Rattle.abi_tree.specs.Placed.{Placed, layout_of, size_of}
use Rattle.abi_tree.specs.Runs.{unused_of}
use Rattle.abi_tree.proofs.Places.MaximalLemmas.{unused_listed}
use Rattle.abi_types.proofs.PlacesLemmas.{beside_index}
use Rattle.abi_text.specs.Printing.{range_lines}
use Rattle.abi_text.proofs.print_variants.listed_unused.Goals as goal

-- nothing is listed of a type with more bytes
pub returns-then-bytes-gt-MOST_LISTED : goal.returns-then-bytes-gt-MOST_LISTED
returns-then-bytes-gt-MOST_LISTED c = λ i runs several same maximal.
    let placed : Placed = placed_of c.args.laid.now in
    let many : 65536 < size_of placed = omega (arith, c.if-bytes-gt-MOST_LISTED.true, c.bytes.ensures, ap (λ l. l.size) c.layout.ensures) in
    let empty : get_or c.new.result i [] ≡ [] = ap (λ sets. get_or sets i []) c.new.ensures in
    ap (range_lines (codes "unused")) (same ∙ empty)
    ∙ ap (λ b. if b then [] else range_lines (codes "unused") (unused_of placed i)) (sym (lt-ltb 65536 (size_of placed) many))

pub returns-in_ok-unused-in-Multiple : goal.returns-in_ok-unused-in-Multiple
returns-in_ok-unused-in-Multiple c = λ i runs several same maximal.
    let placed : Placed = placed_of c.args.laid.now in
    let few : size_of placed ≤ 65536 = omega (arith, c.if-bytes-gt-MOST_LISTED.false, c.bytes.ensures, ap (λ l. l.size) c.layout.ensures) in
    let index = beside_index (layout_of placed).variants i several in
    let listed =
    unused_listed placed i runs maximal (λ k. ap (λ rs. is_in_ranges rs k) same ∙ c.in_ok-unused-in-Multiple.ensures.unused i k index)
    (λ k there. c.in_ok-unused-in-Multiple.ensures.within i k index (ap (λ rs. is_in_ranges rs k) (sym same) ∙ there)) in
    ap (range_lines (codes "unused")) listed
    ∙ ap (λ b. if b then [] else range_lines (codes "unused") (unused_of placed i)) (sym (le-ltb 65536 (size_of placed) few))
