-- Nodes that are still there.
use Rattle.std.proofs.Common.{◌≡◌, ◌++◌, ◌∷◌, [], List, ap, append_assoc, drop, length, subst, sym, take, ◌∙◌}
use Rattle.std.proofs.Math.Seq.{take-append_seam, take-length}
use Rattle.std.proofs.lemmas.List.{take-append-drop}
use Rattle.abi_tree.specs.declared.node.Node.{Node}
use Rattle.rustc_abi.specs.Adding.{AreStillThere}

-- where none was put, and where one was
pub still_same : (ns : List Node) → AreStillThere ns ns
still_same ns = take-length ns

pub still_more : (ns : List Node) (n : Node) → AreStillThere ns (ns ++ n ∷ [])
still_more ns n = take-append_seam ns (n ∷ [])

-- before nodes that were put one after another
pub still_after : (first old new : List Node) → AreStillThere first old → AreStillThere old new → AreStillThere first new
still_after first old new before own =
    let more : List Node = drop (length first) old in
    let last : List Node = drop (length old) new in
    let mid : first ++ more ≡ old = subst (λ ns. ns ++ more ≡ old) before (take-append-drop (length first) old) in
    let all : old ++ last ≡ new = subst (λ ns. ns ++ last ≡ new) own (take-append-drop (length old) new) in
    ap (take (length first)) (sym all ∙ ap (λ ns. ns ++ last) (sym mid) ∙ append_assoc first more last) ∙ take-append_seam first (more ++ last)
