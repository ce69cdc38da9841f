-- Lists that are kept as variants, and the rest of each beside them.
use Rattle.std.proofs.Common.{◌≡◌, ℕ, zero, suc, ◌<◌, ◌++◌, List, [], ◌∷◌, ap, ap₂, arith, get_or, length, map, refl, sym}
use Rattle.std.specs.Prelude.{Some, slice_get}
use Rattle.abi_scalar.specs.declared.variants.VariantLayout.{VariantLayout}
use Rattle.abi_scalar.specs.Variant.{variant_of}
use Rattle.abi_univariant.specs.declared.univariant_layouts.VariantRest.{VariantRest}
use Rattle.abi_univariant.specs.UnivariantLayouts.{list_of, lists_of}

-- there are as many lists as variants
pub lists_count : {F V : Type 0} (variants : List (VariantLayout F)) (rests : List (VariantRest V)) → length variants ≡ length rests → length (lists_of variants rests) ≡ length rests
lists_count [] [] same = refl
lists_count [] (rest ∷ rests) same = absurd (omega arith)
lists_count (variant ∷ variants) [] same = refl
lists_count (variant ∷ variants) (rest ∷ rests) same = ap suc (lists_count variants rests (omega (arith, same)))

-- the one at an index is made of what stands there
pub list_there : {F V : Type 0} (variants : List (VariantLayout F)) (rests : List (VariantRest V)) (i : ℕ) (variant : VariantLayout F) (rest : VariantRest V) → length variants ≡ length rests → i < length rests
    → variant ≡ get_or variants i variant → rest ≡ get_or rests i rest → slice_get (lists_of variants rests) i ≡ Some (list_of variant rest)
list_there [] [] i variant rest same short is beside = absurd (omega arith)
list_there [] (r ∷ rests) i variant rest same short is beside = absurd (omega arith)
list_there (v ∷ variants) [] i variant rest same short is beside = absurd (omega arith)
list_there (v ∷ variants) (r ∷ rests) zero variant rest same short is beside = ap₂ (λ v r. Some (list_of v r)) (sym is) (sym beside)
list_there (v ∷ variants) (r ∷ rests) (suc i) variant rest same short is beside = list_there variants rests i variant rest (omega (arith, same)) (omega (arith, short)) is beside

-- one more of both is one list more
pub list_more : {F V : Type 0} (variants : List (VariantLayout F)) (rests : List (VariantRest V)) (variant : VariantLayout F) (rest : VariantRest V) → length variants ≡ length rests
    → lists_of (variants ++ variant ∷ []) (rests ++ rest ∷ []) ≡ lists_of variants rests ++ list_of variant rest ∷ []
list_more [] [] variant rest same = refl
list_more [] (r ∷ rests) variant rest same = absurd (omega arith)
list_more (v ∷ variants) [] variant rest same = absurd (omega arith)
list_more (v ∷ variants) (r ∷ rests) variant rest same = ap (λ lists. list_of v r ∷ lists) (list_more variants rests variant rest (omega (arith, same)))

-- each list is the variant that it is kept as
pub kept_variants : {F V : Type 0} (variants : List (VariantLayout F)) (rests : List (VariantRest V)) → length variants ≡ length rests → variants ≡ map variant_of (lists_of variants rests)
kept_variants [] [] same = refl
kept_variants [] (rest ∷ rests) same = absurd (omega arith)
kept_variants (variant ∷ variants) [] same = absurd (omega arith)
kept_variants (variant ∷ variants) (rest ∷ rests) same = ap (λ vs. variant ∷ vs) (kept_variants variants rests (omega (arith, same)))

-- and has the alignment beside it
pub kept_aligns : {F V : Type 0} (variants : List (VariantLayout F)) (rests : List (VariantRest V)) → length variants ≡ length rests → map (λ r. r.align) rests ≡ map (λ l. l.align.abi) (lists_of variants rests)
kept_aligns [] [] same = refl
kept_aligns [] (rest ∷ rests) same = absurd (omega arith)
kept_aligns (variant ∷ variants) [] same = refl
kept_aligns (variant ∷ variants) (rest ∷ rests) same = ap (λ more. rest.align ∷ more) (kept_aligns variants rests (omega (arith, same)))
