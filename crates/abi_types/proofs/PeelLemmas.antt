-- What transparent types are wrapped around.
use Rattle.std.proofs.Common.{◌≡◌, ℕ, not, cond, true, false, None, Some, refl, ap, ◌∙◌}
use Rattle.std.specs.Prelude.{◌&&◌}
use Rattle.std.proofs.lemmas.Bool.{false≢true}
use Rattle.abi_types.specs.declared.ty.one_field.NoBytes.TheVariants.{OfLeastAlign}
use Rattle.abi_types.specs.Ty.Typed.{Typed, typed, no_type, field_in, layout_in, marks_of}
use Rattle.abi_types.specs.Ty.Walks.{is_1zst, is_passed_indirectly, only_field, peel, peeled_to}
use Rattle.abi_types.specs.Ty.NoBytes.{has_no_bytes}

-- what isn't transparent is left
pub peel_opaque : (t : Typed) → (marks_of t).is_transparent ≡ false → peel t ≡ t
peel_opaque (typed l m f v) e = ap (λ b. peeled_to (cond b (only_field is_1zst l f) None) (typed l m f v) (λ i. peel (f i))) e
peel_opaque no_type e = refl

-- and so is what has no such field
pub peel_alone : (t : Typed) → (marks_of t).is_transparent ≡ true → only_field (has_no_bytes OfLeastAlign) (layout_in t) (field_in t) ≡ None → peel t ≡ t
peel_alone (typed l m f v) e none =
    ap (λ b. peeled_to (cond b (only_field is_1zst l f) None) (typed l m f v) (λ i. peel (f i))) e ∙ ap (λ o. peeled_to o (typed l m f v) (λ i. peel (f i))) none
peel_alone no_type e none = refl

-- else the field is peeled
pub peel_field : (t : Typed) (i : ℕ) → (marks_of t).is_transparent ≡ true → only_field (has_no_bytes OfLeastAlign) (layout_in t) (field_in t) ≡ Some i → peel t ≡ peel (field_in t i)
peel_field (typed l m f v) i e some =
    ap (λ b. peeled_to (cond b (only_field is_1zst l f) None) (typed l m f v) (λ i. peel (f i))) e ∙ ap (λ o. peeled_to o (typed l m f v) (λ i. peel (f i))) some
peel_field no_type i e some = absurd (false≢true e)

-- what has no bytes isn't passed by a pointer, all else as the peeled type is marked
pub indirect_decided : (t : Typed) → is_passed_indirectly t ≡ (not (has_no_bytes OfLeastAlign (layout_in t)) && (marks_of (peel t)).is_passed_indirectly)
indirect_decided t = refl
