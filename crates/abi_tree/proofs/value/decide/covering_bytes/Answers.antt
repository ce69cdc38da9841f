use Rattle.std.proofs.Common.{◌≡◌, ◌-◌, ℕ, List, Some, length, drop, sym, ap, ◌∙◌, subst}
use Rattle.std.proofs.lemmas.List.{take_at}
use Rattle.abi_tree.specs.declared.laid.Laid.{Laid}
use Rattle.abi_tree.specs.Placed.{Placed}
use Rattle.abi_tree.specs.Nodes.{placed_at}
use Rattle.abi_tree.specs.Laid.{endian_of, placed_of}
use Rattle.abi_tree.specs.Putting.{PutsCovering}
use Rattle.abi_tree.proofs.value.decide.covering_bytes.Goals as goal

pub returns-clause-put : goal.returns-clause-put
returns-clause-put c =
    let laid : Laid = c.args.laid.now in
    let p : Placed = placed_at c.nodes-nodes.result.now (c.len-root.result - 1) in
    let root : p ≡ placed_of laid = ap (λ n. placed_at c.nodes-nodes.result.now (n - 1)) c.len-root.ensures ∙ ap (λ ns. placed_at ns (length ns - 1)) c.nodes-nodes.ensures.same in
    let old : List ℕ = c.deref_mut.result.now in
    let new : List ℕ = c.put_node.new.bytes in
    let final = take_at new (drop (length new) c.in_ok-bytes.bytes.items) c.in_ok-bytes.bytes.len (c.put_node.ensures.long ∙ c.deref_mut.ensures.len) in (
      old,
      subst (λ bytes. PutsCovering (endian_of laid) 0 old bytes (Some c.args.place) (placed_of laid)) (sym final)
          (subst (λ o. PutsCovering o 0 old new (Some c.args.place) (placed_of laid)) c.endian.ensures
          (subst (PutsCovering c.endian.result 0 old new (Some c.args.place)) root c.put_node.ensures.put)),
    )
