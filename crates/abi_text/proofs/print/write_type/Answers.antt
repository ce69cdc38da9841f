use Rattle.std.proofs.Common.{◌≡◌, ℕ, List, ◌++◌, ap, ◌∙◌, append_assoc, string_bytes}
use Rattle.std.proofs.lemmas.Result.{on_ok_weaker}
use Rattle.abi_tree.specs.Laid.{placed_of}
use Rattle.abi_tree.specs.Placed.{layout_of}
use Rattle.abi_text.specs.Printing.{layout_lines, niche_line, padding_lines, variants_lines}
use Rattle.abi_text.proofs.print.write_type.Goals as goal

-- one text behind another
two : (a b c w x : List ℕ) → b ≡ a ++ w → c ≡ b ++ x → c ≡ a ++ (w ++ x)
two a b c w x first next = next ∙ ap (λ l. l ++ x) first ∙ append_assoc a w x

-- four texts, one behind another
four : (a b c d e w x y z : List ℕ) → b ≡ a ++ w → c ≡ b ++ x → d ≡ c ++ y → e ≡ d ++ z → e ≡ a ++ (w ++ x ++ y ++ z)
four a b c d e w x y z first second third last = two a d e (w ++ x ++ y) z (two a c d (w ++ x) y (two a b c w x first second) third) last

pub returns : goal.returns
returns c =
    let placed = placed_of c.args.laid.now in
    let layout = layout_of placed in
    let first = c.in_ok-write_layout.ensures ∙ ap (λ l. string_bytes c.args.out.now ++ layout_lines l) c.layout.ensures in
    let third = c.in_ok-write_niche.ensures ∙ ap (λ l. string_bytes c.write_variants.new.out ++ niche_line l.largest_niche) c.layout-2.ensures in
    on_ok_weaker c.write_padding.result
    (four (string_bytes c.args.out.now) (string_bytes c.write_layout.new.out) (string_bytes c.write_variants.new.out) (string_bytes c.write_niche.new.out)
    (string_bytes c.write_padding.new.out) (layout_lines layout) (variants_lines placed layout.variants) (niche_line layout.largest_niche) (padding_lines placed)
    first c.in_ok-write_variants.ensures third)
    c.write_padding.ensures
