-- The list that was read is the only value that the bytes hold.
use Rattle.std.proofs.Common.{◌≡◌, rules}
use Rattle.std.specs.Prelude.{slice_get}
use Rattle.guarantees.proofs.Held.{field_answer, list_held}
use Rattle.guarantees.proofs.debugger.field_of.Goals as goal

pub returns-in-Some-List-clause-field : goal.returns-in-Some-List-clause-field
returns-in-Some-List-clause-field c =
    let one = rw c.in-Some-List.field-0-is at rw c.in-Some-List.is at c.in_ok-values.ensures.one in
    let taken : c.item_at.result ≡ slice_get c.in-Some-List.values.items c.args.index = search rules in
    field_answer c.args.laid.now c.args.bytes.now c.in-Some-List.values c.args.index c.item_at.result c.requires.laid one taken

pub returns-in-Some-List-clause-none : goal.returns-in-Some-List-clause-none
returns-in-Some-List-clause-none c = λ none.
    let held = rw c.in-Some-List.field-0-is at rw c.in-Some-List.is at c.in_ok-values.ensures.finds in
    absurd (list_held c.args.laid.now c.args.bytes.now c.in-Some-List.values held none)
