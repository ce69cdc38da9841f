use Rattle.std.proofs.lemmas.Bool.Decides.{not_from_Decides}
use Rattle.abi_scalar.proofs.RangeLemmas.{included, first_from_included, last_from_included}
use Rattle.abi_scalar.proofs.wrapping_range.WrappingRange.contains_range.Goals as goal

pub returns : goal.returns
returns c =
    let range = c.args.self.now in
    let other = c.args.other in
    let some = not_from_Decides c.is_full_for.result c.is_full_for.ensures c.if-is_full_for.false in
    let ends = rw (c.steps-reach.ensures, c.steps-first.ensures, c.steps-last.ensures) at c.ascend.ensures in (
      λ t. let e = ends.0 t in included c.args.size range other c.requires.within c.requires.other_within e.0 e.1,
      λ inc. ends.1 (
        first_from_included c.args.size range other c.requires.within c.requires.other_within some inc,
        last_from_included c.args.size range other c.requires.within c.requires.other_within inc,
      ),
    )
