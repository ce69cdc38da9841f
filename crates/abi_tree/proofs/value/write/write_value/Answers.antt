use Rattle.std.proofs.Common.{◌≡◌, ◌-◌, ℕ, List, false, length, get_or, drop, sym, ap, ◌∙◌, subst}
use Rattle.abi_base.specs.declared.endian.Endian.{Endian}
use Rattle.abi_tree.specs.declared.laid.Laid.{Laid}
use Rattle.abi_tree.specs.Covering.{is_covered}
use Rattle.std.proofs.lemmas.List.{take_at}
use Rattle.abi_tree.specs.Value.{Value, value_of}
use Rattle.abi_tree.specs.Placed.{Placed, size_of}
use Rattle.abi_tree.specs.Nodes.{placed_at}
use Rattle.abi_tree.specs.Laid.{endian_of, placed_of}
use Rattle.abi_tree.specs.Holding.{Holds}
use Rattle.abi_tree.specs.Putting.{PutsValue}
use Rattle.abi_tree.proofs.Written.WrittenLemmas.{held_once, held_value, value_held, zero_beside, zeros_at}
use Rattle.abi_tree.proofs.value.write.write_value.Goals as goal

pub returns-then-branch-clause-holds : goal.returns-then-branch-clause-holds
returns-then-branch-clause-holds c =
    let v : Value = value_of c.args.value.now in
    let held : Holds c.endian-order.result (placed_at c.nodes-nodes.result.now (c.len-root.result - 1)) c.deref.result.now v = rw c.if-branch.true at c.in_ok-holds.ensures.held in
    subst (λ b. Holds (endian_of c.args.laid.now) (placed_of c.args.laid.now) b v) c.deref.ensures.value
    (subst (λ o. Holds o (placed_of c.args.laid.now) c.deref.result.now v) c.endian-order.ensures
    (subst (λ p. Holds c.endian-order.result p c.deref.result.now v)
    (ap (λ n. placed_at c.nodes-nodes.result.now (n - 1)) c.len-root.ensures ∙ ap (λ ns. placed_at ns (length ns - 1)) c.nodes-nodes.ensures.same) held))

pub returns-then-branch-clause-zero : goal.returns-then-branch-clause-zero
returns-then-branch-clause-zero c = λ k none.
    let v : Value = value_of c.args.value.now in
    let p : Placed = placed_at c.nodes-nodes.result.now (c.len-root.result - 1) in
    let root : placed_of c.args.laid.now ≡ p = sym (ap (λ n. placed_at c.nodes-nodes.result.now (n - 1)) c.len-root.ensures ∙ ap (λ ns. placed_at ns (length ns - 1)) c.nodes-nodes.ensures.same) in
    let new : List ℕ = c.write_node.new.bytes in
    let long : length new ≡ c.in_ok-bytes.bytes.len = c.in_ok-write_node.ensures.long ∙ c.deref_mut.ensures.len in
    let final = take_at new (drop (length new) c.in_ok-bytes.bytes.items) c.in_ok-bytes.bytes.len long in
    let held : Holds c.endian-order.result p c.deref.result.now v = rw c.if-branch.true at c.in_ok-holds.ensures.held in
    let put = c.in_ok-write_node.ensures.put c.deref.result.now c.in_ok-holds.ensures.bytes held in
    ap (λ b. get_or b k 0) final ∙ zero_beside (is_covered p v) c.deref.result.now c.deref_mut.result.now new put k (subst (λ x. is_covered x v k ≡ false) root none)
    ∙ ap (λ b. get_or b k 0) (c.deref_mut.ensures.value ∙ c.in_ok-bytes.ensures.items_if_clones_equal (λ x h. h)) ∙ zeros_at c.bytes-size.result k

pub returns-then-branch-clause-value : goal.returns-then-branch-clause-value
returns-then-branch-clause-value c = λ dl tree keeps.
    let v : Value = value_of c.args.value.now in
    let held : Holds c.endian-order.result (placed_at c.nodes-nodes.result.now (c.len-root.result - 1)) c.deref.result.now v = rw c.if-branch.true at c.in_ok-holds.ensures.held in
    held_value dl tree c.args.laid.now keeps v c.deref.result.now c.in_ok-holds.ensures.bytes
    (subst (λ o. Holds o (placed_of c.args.laid.now) c.deref.result.now v) c.endian-order.ensures
    (subst (λ p. Holds c.endian-order.result p c.deref.result.now v)
    (ap (λ n. placed_at c.nodes-nodes.result.now (n - 1)) c.len-root.ensures ∙ ap (λ ns. placed_at ns (length ns - 1)) c.nodes-nodes.ensures.same) held))

pub returns-else-branch-clause-not_a_value : goal.returns-else-branch-clause-not_a_value
returns-else-branch-clause-not_a_value c = λ is dl tree keeps value.
    let v : Value = value_of c.args.value.now in
    let laid : Laid = c.args.laid.now in
    let o : Endian = c.endian-order.result in
    let p : Placed = placed_at c.nodes-nodes.result.now (c.len-root.result - 1) in
    let root : p ≡ placed_of laid = ap (λ n. placed_at c.nodes-nodes.result.now (n - 1)) c.len-root.ensures ∙ ap (λ ns. placed_at ns (length ns - 1)) c.nodes-nodes.ensures.same in
    let old : List ℕ = c.deref_mut.result.now in
    let new : List ℕ = c.write_node.new.bytes in
    let long : length new ≡ c.in_ok-bytes.bytes.len = c.in_ok-write_node.ensures.long ∙ c.deref_mut.ensures.len in
    let final : c.deref.result.now ≡ new = c.deref.ensures.value ∙ take_at new (drop (length new) c.in_ok-bytes.bytes.items) c.in_ok-bytes.bytes.len long in
    let size : c.bytes-size.result ≡ size_of p = rw c.bytes-size.ensures (ap (λ l. l.size) c.layout.ensures) in
    let whole : length new ≡ size_of (placed_of laid) = long ∙ c.in_ok-bytes.ensures.len ∙ size ∙ ap size_of root in
    let refused : ((u w : Value) → Holds o p c.deref.result.now u → Holds o p c.deref.result.now w → u ≡ w) → Holds o p c.deref.result.now v → ⊥ =
    rw c.if-branch.false at c.in_ok-holds.ensures.held in
    let tag_layout : (u : Value) → Holds o p c.deref.result.now u → Holds (endian_of laid) (placed_of laid) c.deref.result.now u =
    λ u h. subst (λ x. Holds x (placed_of laid) c.deref.result.now u) c.endian-order.ensures (subst (λ x. Holds o x c.deref.result.now u) root h) in
    let put : PutsValue (endian_of laid) 0 old new (placed_of laid) v =
    subst (λ x. PutsValue x 0 old new (placed_of laid) v) c.endian-order.ensures (subst (λ x. PutsValue o 0 old new x v) root c.in_ok-write_node.ensures.put) in
    let held = value_held dl tree laid keeps v old new whole value put in
    refused (λ u w hu hw. held_once dl tree laid keeps v c.deref.result.now u w (tag_layout u hu) (tag_layout w hw))
    (subst (λ b. Holds o p b v) (sym final)
    (subst (λ x. Holds o x new v) (sym root) (subst (λ x. Holds x (placed_of laid) new v) (sym c.endian-order.ensures) held)))
