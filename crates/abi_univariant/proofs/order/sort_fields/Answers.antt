use Rattle.std.proofs.lemmas.Result.{on_ok_weaker}
use Rattle.abi_univariant.proofs.order.sort_fields.Goals as goal

pub returns-clause-stable : goal.returns-clause-stable
returns-clause-stable g c =
    on_ok_weaker c.sort_by_keys.result (λ _. rw (← c.in_ok-keys.ensures, ← c.deref.ensures.value) c.sort_by_keys.ensures.stable) c.sort_by_keys.ensures.sorted
