use Rattle.std.proofs.Common.{inl, inr}
use Rattle.abi_text.proofs.Sending.{anyway}
use Rattle.abi_text.proofs.running.run.Goals as goal

pub returns-in-Ok : goal.returns-in-Ok
returns-in-Ok g c = anyway _ _ (λ all. inr (inl c.send-in-Err-answer_input.ensures))

pub returns-in-Err : goal.returns-in-Err
returns-in-Err g c = anyway _ _ (λ all. inr (inl c.send-in-Err.ensures))

pub returns : goal.returns
returns g c = anyway _ _ (λ all. inr (inr c.send-in-Err-2.ensures))
