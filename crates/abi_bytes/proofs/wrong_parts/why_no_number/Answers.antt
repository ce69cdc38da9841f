use Rattle.std.proofs.Common.{sym, ◌∙◌}
use Rattle.std.proofs.lemmas.Bool.{false≢true}
use Rattle.abi_scalar.specs.Range.{IsIn}
use Rattle.abi_scalar.specs.Scalar.{IsNumberOf}
use Rattle.std.proofs.Common.{subst}
use Rattle.abi_bytes.proofs.NodeLemmas.{narrow_within}
use Rattle.abi_bytes.proofs.WrongLemmas.{scalar_held, scalar_outside, scalar_unset, why_outside, why_unset}
use Rattle.abi_bytes.proofs.wrong_parts.why_no_number.Goals as goal

pub returns-then-contains : goal.returns-then-contains
returns-then-contains c =
    let narrow = narrow_within c.args.size c.args.scalar c.in-Initialized.value c.in-Initialized.valid_range c.in-Initialized.is c.requires.narrow in
    scalar_held c.args.walk.order c.args.scalar c.in-Initialized.value c.in-Initialized.valid_range c.args.walk.cells.now c.args.at c.args.size c.in-Initialized.is c.in-Ok.number c.in-Ok.ensures.made
    ((c.contains.ensures c.args.size narrow.1 c.in-Ok.ensures.bound).0 c.if-contains.true)

pub returns-else-contains : goal.returns-else-contains
returns-else-contains c =
    let narrow = narrow_within c.args.size c.args.scalar c.in-Initialized.value c.in-Initialized.valid_range c.in-Initialized.is c.requires.narrow in
    let outside : IsIn c.args.size c.in-Initialized.valid_range c.in-Ok.number → ⊥ = λ h. false≢true (sym c.if-contains.false ∙ (c.contains.ensures c.args.size narrow.1 c.in-Ok.ensures.bound).1 h) in (
      scalar_outside c.args.walk.order c.args.scalar c.in-Initialized.value c.in-Initialized.valid_range c.args.walk.cells.now c.args.at c.args.size c.in-Initialized.is c.in-Ok.number c.in-Ok.ensures.made outside,
      why_outside c.args.walk.order c.args.scalar c.in-Initialized.value c.in-Initialized.valid_range c.args.walk.cells.now c.args.at c.args.size c.in-Initialized.is c.in-Ok.number _ (sym c.in-Initialized.is) c.in-Ok.ensures.made outside,
    )

pub returns-in-Err : goal.returns-in-Err
returns-in-Err c = (scalar_unset c.args.walk.order c.args.scalar c.in-Initialized.value c.in-Initialized.valid_range c.args.walk.cells.now c.args.at c.args.size c.in-Initialized.is c.in-Err.place c.in-Err.ensures.made, why_unset c.args.walk.order c.args.scalar c.in-Initialized.value c.in-Initialized.valid_range c.args.walk.cells.now c.args.at c.args.size c.in-Initialized.is c.in-Err.place c.in-Err.ensures.made)
