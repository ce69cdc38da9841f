use Rattle.std.proofs.Common.{IsTrue, rules}
use Rattle.calls.proofs.lists.union_made.Goals as goal

pub layout_of_union-requires-clause-fields : goal.layout_of_union-requires-clause-fields
layout_of_union-requires-clause-fields c =
    let yes : IsTrue c.are_lawful.result = search rules in
    rw (c.new.ensures, c.new-2.ensures, c.from_raw.ensures) (rw c.deref.ensures.value at (c.are_lawful.ensures yes))
