-- The lists that the rules give are those of their fields.
use Rattle.std.proofs.Common.{◌≡◌, ℕ, List, [], ◌∷◌, ap₂, length, map, refl}
use Rattle.std.specs.Prelude.{All, Ok}
use Rattle.std.proofs.lemmas.List.Elements.{All-head, All-tail}
use Rattle.abi_base.specs.declared.data_layout.TargetDataLayout.{TargetDataLayout}
use Rattle.abi_base.specs.declared.struct_kind.StructKind.{StructKind}
use Rattle.abi_scalar.specs.declared.layout_data.LayoutData.{LayoutData}
use Rattle.abi_scalar.specs.declared.repr.ReprOptions.{ReprOptions}
use Rattle.abi_scalar.specs.Lawful.{IsLawfulLayout}
use Rattle.abi_univariant.specs.Least.{align_by}
use Rattle.abi_univariant.specs.List.{IsUnivariantAnswer}
use Rattle.abi_univariant.specs.Placement.{IsNonEmptyIfUnsized, IsSized}
use Rattle.abi_univariant.proofs.Promised.LeastLemmas.{niche_by_bias, has_greatest_niche, has_least, has_own_niche, lies_in_order}
use Rattle.abi_calc.specs.Enums.Lists.{AreListLayouts}
use Rattle.abi_calc.specs.Made.{AreFieldLists, IsFieldList}
use Rattle.abi_calc.proofs.EnumLemmas.Sizes.{tail_of_sized}
use Rattle.abi_calc.proofs.Seen.{list_marks, list_viewed}

module _ {F V H : Type 0} (layout_of : H → LayoutData F V) (at : ℕ → F) (first : V) (dl : TargetDataLayout) (repr : ReprOptions) (kind : StructKind) where
  -- one list
  pub field_list : (hs : List H) (list : LayoutData F V) → All (λ h. IsLawfulLayout dl (layout_of h)) hs → IsNonEmptyIfUnsized kind (length hs) → IsUnivariantAnswer layout_of at first dl repr kind hs (Ok list)
      → IsFieldList at dl repr kind (map layout_of hs) list
  field_list hs list law tail (order, offsets, r) = record {
    placed = lies_in_order layout_of at first dl repr kind hs order offsets list tail r;
    least = has_least layout_of at first dl repr kind hs order offsets list law tail r;
    view = list_viewed layout_of at first dl repr kind hs order offsets list r;
    niche = has_own_niche layout_of at first dl repr kind hs order offsets list tail r;
    largest = has_greatest_niche layout_of at first dl repr kind hs order offsets list law tail r;
    marks = list_marks layout_of at first dl repr kind hs order offsets list r;
  }

  -- the lists of variants, which are sized
  pub field_lists : (variants : List (List H)) (lists : List (LayoutData F V)) → All (All (λ h. IsLawfulLayout dl (layout_of h))) variants → IsSized kind
      → AreListLayouts layout_of at first dl repr kind variants lists → AreFieldLists at dl repr kind (map (map layout_of) variants) lists
  field_lists [] [] law sized h = tt
  field_lists [] (l ∷ ls) law sized h = elim h [ ]
  field_lists (v ∷ vs) [] law sized h = elim h [ ]
  field_lists (v ∷ vs) (l ∷ ls) law sized h = (
    field_list v l (All-head (All (λ f. IsLawfulLayout dl (layout_of f))) v vs law) (tail_of_sized kind (length v) sized) h.0,
    field_lists vs ls (All-tail (All (λ f. IsLawfulLayout dl (layout_of f))) v vs law) sized h.1,
  )

  -- their alignments
  pub list_align : (hs : List H) (list : LayoutData F V) → IsUnivariantAnswer layout_of at first dl repr kind hs (Ok list) → list.align.abi ≡ align_by dl repr kind (map layout_of hs)
  list_align hs list (order, offsets, r) = (niche_by_bias layout_of at first dl repr kind hs order offsets list r).placed.alignment

  pub lists_aligns : (variants : List (List H)) (lists : List (LayoutData F V)) → AreListLayouts layout_of at first dl repr kind variants lists
      → map (λ l. l.align.abi) lists ≡ map (align_by dl repr kind) (map (map layout_of) variants)
  lists_aligns [] [] h = refl
  lists_aligns [] (l ∷ ls) h = elim h [ ]
  lists_aligns (v ∷ vs) [] h = elim h [ ]
  lists_aligns (v ∷ vs) (l ∷ ls) h = ap₂ (λ x xs. x ∷ xs) (list_align v l h.0) (lists_aligns vs ls h.1)
