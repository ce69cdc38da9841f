use Rattle.std.proofs.Common.{ap, sym, ◌∙◌}
use Rattle.abi_tests.specs.declared.own_types.OwnType.{OwnType}
use Rattle.abi_tests.specs.OwnTypes.{handle_type, place_at}
use Rattle.abi_tests.proofs.OwnTypeLemmas.{field_type, field_well_formed}
use Rattle.abi_tests.proofs.own_types.OwnTyTyAbiInterface.ty_and_layout_field.Goals as goal

pub typed_at-requires : goal.typed_at-requires
typed_at-requires g c =
    field_well_formed c.args.this.ty.types.now c.args.this.ty.depth c.args.this.ty.at c.index-types-this.result c.args.i c.place_at-place.result c.requires.valid.well_formed c.index-types-this.is
    c.requires.within (c.place_at-place.ensures ∙ ap (λ (own : OwnType). place_at own.fields c.args.i) (sym c.index-types-this.is))

pub returns-clause-field : goal.returns-clause-field
returns-clause-field g c =
    field_type c.args.this.ty.types.now c.args.this.ty.depth c.args.this.ty.at c.index-types-this.result c.args.i c.place_at-place.result (handle_type c.typed_at.result) c.requires.valid.well_formed
    c.index-types-this.is (c.place_at-place.ensures ∙ ap (λ (own : OwnType). place_at own.fields c.args.i) (sym c.index-types-this.is)) c.typed_at.ensures.same
