use Rattle.std.proofs.Common.{List, ℕ, ap, length, ◌∙◌}
use Rattle.automata.specs.Cell.{Cell}
use Rattle.automata.specs.Nodes.{formulas_in}
use Rattle.abi_scalar.specs.Layout.{Layout}
use Rattle.abi_scalar.specs.Shape.{listed_offsets}
use Rattle.abi_scalar.specs.declared.variants.TagEncoding.TheVariants.{Direct}
use Rattle.abi_tree.specs.Nodes.{parts_at, placed_at, state_tag_offset, tagged_variants_in, types_in}
use Rattle.abi_tree.specs.Placed.{size_of}
use Rattle.abi_tree.specs.Well.{all_at}
use Rattle.abi_bytes.specs.Formulas.{HoldSomeVariant}
use Rattle.abi_bytes.specs.Holding.{HoldCellsOfParts}
use Rattle.abi_bytes.proofs.FirstLemmas.{made_both}
use Rattle.abi_bytes.proofs.TypeLemmas.{named_like}
use Rattle.abi_bytes.proofs.types.states_formula.Goals as goal

pub returns : goal.returns
returns c =
    let s0 = formulas_in c.args.formulas.now in
    let s1 = formulas_in c.fields_formula.new.formulas in
    let s2 = formulas_in c.variants_formula.new.formulas in
    let ns = c.args.walk.nodes.now in
    let order = c.args.walk.order in
    let layout = c.args.layout.now in
    let vs = c.args.state.1.now.items in
    let P : List Cell → Type 0 = HoldCellsOfParts order (parts_at (listed_offsets layout.fields) (all_at ns c.args.prefix.now.items)) in
    let Q : List Cell → Type 0 = HoldSomeVariant order Direct (state_tag_offset layout (length c.args.prefix.now.items)) (size_of (placed_at ns c.args.state.0)) (tagged_variants_in (types_in ns) vs) 0 (length vs) in
    let two = named_like s1 s2 order Direct c.in_ok-named.named _ layout.size _ (state_tag_offset layout (length c.args.prefix.now.items)) _ (size_of (placed_at ns c.args.state.0)) (types_in ns) _ vs
    c.bytes.ensures (c.state_tag_offset.ensures ∙ ap (λ (xs : List ℕ). state_tag_offset layout (length xs)) c.as_slice-fields.ensures.value) (c.bytes-2.ensures ∙ ap (λ (l : Layout). l.size) c.layout.ensures) c.as_slice.ensures.value c.in_ok-named.ensures in
    made_both s0 s1 s2 (formulas_in c.conjunction.new.self) c.in_ok-shared.shared c.in_ok-named.named c.in_ok-place.place layout.size P Q c.in_ok-shared.ensures two c.in_ok-place.ensures
