use Rattle.std.proofs.Common.{◌≡◌, ◌∷◌, inl, inr, sym, subst}
use Rattle.abi_base.specs.declared.data_layout.TargetDataLayout.{TargetDataLayout}
use Rattle.abi_base.specs.declared.setting.Setting.TheVariants.{Integer}
use Rattle.abi_base.specs.DataLayoutText.{with_settings}
use Rattle.abi_base.proofs.Settings.{integer_left, integer_taken}
use Rattle.abi_base.proofs.parse.Reading.set_integer.Goals as goal

pub returns-then-bits-le128-clause-one_more : goal.returns-then-bits-le128-clause-one_more
returns-then-bits-le128-clause-one_more c =
    let low = rw c.set_width.ensures.widest at c.if-self-bits.true in
    λ ss. subst (λ (d : TargetDataLayout). with_settings (record d { i128_align = c.args.align }) c.args.bits ss ≡ with_settings c.args.self.now.dl c.args.self.now.widest (Integer c.args.bits c.args.align ∷ ss)) (sym c.set_width.ensures.dl) (integer_taken c.args.self.now.dl c.args.self.now.widest c.args.bits c.args.align c.requires ss low c.if-bits-le128.true)

pub returns-else-self-bits-clause-one_more : goal.returns-else-self-bits-clause-one_more
returns-else-self-bits-clause-one_more c =
    let outside = rw c.set_width.ensures.widest at c.else-self-bits.either in
    λ ss. rw (c.set_width.ensures.dl, c.set_width.ensures.widest) (integer_left c.args.self.now.dl c.args.self.now.widest c.args.bits c.args.align c.requires ss (elim outside [ inl h ↦ inr h.1 | inr h ↦ inl h ]))
