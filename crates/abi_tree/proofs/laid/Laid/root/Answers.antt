use Rattle.std.proofs.Common.{◌≡◌, ◌-◌, ◌<◌, List, ap, arith, length, subst, sym, ◌∙◌}
use Rattle.abi_types.specs.Ty.Typed.{layout_in}
use Rattle.abi_tree.specs.declared.node.Node.{Node}
use Rattle.abi_tree.specs.Handles.{tree_type}
use Rattle.abi_tree.specs.Laid.{placed_of, typed_of}
use Rattle.abi_tree.specs.Seen.{Sees}
use Rattle.abi_tree.specs.Typed.{typed_at}
use Rattle.abi_tree.proofs.Places.RoomLemmas.{within_room}
use Rattle.abi_tree.proofs.Meaning.SeenLemmas.{seen_at}
use Rattle.abi_tree.proofs.Meaning.TypedLemmas.{layout-placed}
use Rattle.abi_tree.proofs.laid.Laid.root.Goals as goal

pub returns : goal.returns
returns c =
    let laid = c.args.self.now in
    let ns : List Node = laid.nodes in
    let last : length ns - 1 < length ns = omega (arith, laid.some) in
    let typed : tree_type c.handle_at.result ≡ typed_of laid = c.handle_at.ensures.typed ∙ ap (λ n. typed_at ns (n - 1)) (c.len.ensures ∙ ap length c.nodes.ensures.same) in
    record {
      valid = c.handle_at.ensures.valid;
      typed = typed;
      seen = subst (λ t. Sees t (placed_of laid)) (sym typed) (seen_at ns laid.earlier laid.laws (length ns - 1) last);
      layout = sym c.handle_at.ensures.valid.layout ∙ ap layout_in typed ∙ layout-placed ns (length ns - 1) last;
      within = λ k place. within_room (placed_of laid) k laid.room place;
    }
