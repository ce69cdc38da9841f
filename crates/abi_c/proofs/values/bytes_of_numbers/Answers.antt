use Rattle.std.proofs.Common.{inl, inr}
use Rattle.std.proofs.lemmas.Result.{IfOk-weaker}
use Rattle.abi_tree.specs.Value.{value_of}
use Rattle.abi_c.proofs.values.bytes_of_numbers.Goals as goal

pub returns-in-Ok : goal.returns-in-Ok
returns-in-Ok c =
    IfOk-weaker c.bytes_of_value.result _ _
    (λ a is dl t kept. inl (value_of c.in-Ok.value, record { whole = c.in-Ok.ensures.ok; only = c.in-Ok.ensures.one }, is dl t kept))
    c.bytes_of_value.ensures

pub returns-in-Err-Unreadable : goal.returns-in-Err-Unreadable
returns-in-Err-Unreadable c =
    IfOk-weaker c.one_byte.result _ _
    (λ a is dl t kept. inr (c.in-Err-Unreadable.ensures.unreadable c.in-Err-Unreadable.field-0-is, is))
    c.one_byte.ensures
