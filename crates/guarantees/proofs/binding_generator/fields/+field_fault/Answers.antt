-- Lists of fields and of variants are as long as they are in the program.
use Rattle.std.proofs.Common.{◌≡◌, ap, arith, length, sym, ◌∙◌}
use Rattle.guarantees.specs.FieldOfC.{c_enum_fault, list_fault}
use Rattle.guarantees.proofs.FaultsOfC.{fault-Enum, fault-Struct, fault-Union}
use Rattle.guarantees.proofs.binding_generator.fields.+field_fault.Goals as goal

pub returns-in-Struct : goal.returns-in-Struct
returns-in-Struct t c =
    let many : c.len.result ≡ length c.in-Struct.fields.items = omega (arith, c.in-Struct.fields.ok.0, c.len.ensures) in
    c.list_fault.ensures ∙ ap (list_fault c.in-Struct.repr) many ∙ sym (fault-Struct c.args.tree.now c.in-Struct.repr c.in-Struct.always_sized c.in-Struct.fields c.in-Struct.is)

pub returns-in-Union : goal.returns-in-Union
returns-in-Union t c =
    let many : c.len-in-Union.result ≡ length c.in-Union.fields.items = omega (arith, c.in-Union.fields.ok.0, c.len-in-Union.ensures) in
    c.list_fault-in-Union.ensures ∙ ap (list_fault c.in-Union.repr) many ∙ sym (fault-Union c.args.tree.now c.in-Union.repr c.in-Union.fields c.in-Union.is)

pub returns-in-Enum : goal.returns-in-Enum
returns-in-Enum t c =
    let many : c.len-in-Enum.result ≡ length c.in-Enum.variants.items = omega (arith, c.in-Enum.variants.ok.0, c.len-in-Enum.ensures) in
    c.enum_fault.ensures ∙ ap (c_enum_fault c.in-Enum.repr) many ∙ sym (fault-Enum c.args.tree.now c.in-Enum.repr c.in-Enum.variants c.in-Enum.is)
