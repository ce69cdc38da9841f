use Rattle.std.proofs.Common.{true, sym, ap, ◌∙◌}
use Rattle.abi_scalar.specs.Scalar.{primitive_of}
use Rattle.rustc_abi.specs.ScalarFault.{is_lawful_primitive}
use Rattle.rustc_abi.proofs.Faults.FaultLemmas.{pointer_test, no_pointer}
use Rattle.rustc_abi.proofs.lay_scalar.scalar_fault.Goals.{in-Pointer+else-not-has_lawful_pointer, in_default}
use Rattle.rustc_abi.proofs.lay_scalar.scalar_fault.Goals as goal

-- a pointer is lawful where it was tested, and anything else is
pub range_fault-requires : goal.range_fault-requires
range_fault-requires c =
    elim c.match-primitive.branch [
      | in-Pointer+else-not-has_lawful_pointer w ↦ (
          ap (is_lawful_primitive c.args.dl.now) (sym c.primitive.ensures ∙ w.in-Pointer.is)
          ∙ sym (pointer_test c.args.dl.now w.in-Pointer.space true w.if-not-has_lawful_pointer.ensures)
          )
      | in_default w ↦ no_pointer c.args.dl.now (primitive_of c.args.value) (λ space is. w.in_default.not-Pointer space (c.primitive.ensures ∙ is))
    ]
