use Rattle.std.proofs.Common.{refl}
use Rattle.abi_base.specs.declared.setting.Setting.TheVariants.{Order, Instructions, Aligned, Pointer, Integer, Vector, Nothing}
use Rattle.abi_base.proofs.Settings.{named, named_ok, then_ok, vector_put}
use Rattle.abi_base.proofs.parse.Reading.set.Goals as goal

pub returns-in-Order-clause-one_more : goal.returns-in-Order-clause-one_more
returns-in-Order-clause-one_more c = named c.args.self.now.dl c.args.self.now.widest (record c.args.self.now.dl { endian = c.in-Order.endian }) c.args.self.now.widest c.args.setting (Order c.in-Order.endian) c.in-Order.is (λ ss. refl)

pub returns-in-Instructions-clause-one_more : goal.returns-in-Instructions-clause-one_more
returns-in-Instructions-clause-one_more c = named c.args.self.now.dl c.args.self.now.widest (record c.args.self.now.dl { instruction_address_space = c.in-Instructions.space }) c.args.self.now.widest c.args.setting (Instructions c.in-Instructions.space) c.in-Instructions.is (λ ss. refl)

pub returns-in-Nothing-clause-one_more : goal.returns-in-Nothing-clause-one_more
returns-in-Nothing-clause-one_more c = named c.args.self.now.dl c.args.self.now.widest c.args.self.now.dl c.args.self.now.widest c.args.setting Nothing c.in-Nothing.is (λ ss. refl)

pub returns-in-Aligned-clause-one_more : goal.returns-in-Aligned-clause-one_more
returns-in-Aligned-clause-one_more c = named c.args.self.now.dl c.args.self.now.widest c.set_aligned.new.self.dl c.set_aligned.new.self.widest c.args.setting (Aligned c.in-Aligned.named c.in-Aligned.align) c.in-Aligned.is c.set_aligned.ensures.one_more

pub returns-in-Integer-clause-one_more : goal.returns-in-Integer-clause-one_more
returns-in-Integer-clause-one_more c = named c.args.self.now.dl c.args.self.now.widest c.set_integer.new.self.dl c.set_integer.new.self.widest c.args.setting (Integer c.in-Integer.bits c.in-Integer.align) c.in-Integer.is c.set_integer.ensures.one_more

pub returns-in-Pointer-clause-one_more : goal.returns-in-Pointer-clause-one_more
returns-in-Pointer-clause-one_more c = named_ok c.args.self.now.dl c.args.self.now.widest c.set_pointers.result c.set_pointers.new.self.dl c.set_pointers.new.self.widest c.args.setting (Pointer c.in-Pointer.space c.in-Pointer.spec) c.in-Pointer.is c.set_pointers.ensures.one_more

pub returns-in-Vector-clause-one_more : goal.returns-in-Vector-clause-one_more
returns-in-Vector-clause-one_more c = named_ok c.args.self.now.dl c.args.self.now.widest c.insert.result (record c.args.self.now.dl { vector_align = c.insert.new.self }) c.args.self.now.widest c.args.setting (Vector c.in-Vector.size c.in-Vector.align) c.in-Vector.is (then_ok c.insert.result _ _ (vector_put c.args.self.now.dl c.args.self.now.widest c.in-Vector.size c.in-Vector.align c.insert.new.self) c.insert.ensures.ok)
