use Rattle.std.proofs.Common.{◌≡◌, ◌∙◌, List, [], ◌∷◌, ◌++◌, ap, append-nil, arith, length, sym, take}
use Rattle.std.proofs.Math.Seq.{take-append_seam}
use Rattle.abi_scalar.specs.Layout.{Layout}
use Rattle.abi_tree.proofs.layouts.scalar_place.Goals as goal

pub returns-in-Some-clause-more : goal.returns-in-Some-clause-more
returns-in-Some-clause-more c =
    let before : List Layout = c.make_room.new.layouts.items in
    let last : c.len-last.result ≡ length before = omega (arith, c.len-last.ensures) in (
      [],
      c.truncate.ensures.items ∙ ap (take c.len-last.result) c.push_reserved.ensures.items ∙ ap (λ n. take n (before ++ c.scalar.result ∷ [])) last
          ∙ take-append_seam before (c.scalar.result ∷ []) ∙ c.in_ok-make_room.ensures.same ∙ sym (append-nil c.args.layouts.now.items),
    )
