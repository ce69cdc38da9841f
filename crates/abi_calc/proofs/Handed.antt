-- How a list is seen that lies in an order that is handed in.
use Rattle.std.proofs.Common.{◌≡◌, ℕ, ◌∙◌, Bool, true, false, List, ap, map, refl, sym}
use Rattle.std.specs.Prelude.{◌&&◌, IsTrue, not}
use Rattle.abi_base.specs.declared.data_layout.TargetDataLayout.{TargetDataLayout}
use Rattle.abi_base.specs.declared.struct_kind.StructKind.{StructKind}
use Rattle.abi_scalar.specs.declared.layout_data.LayoutData.{LayoutData}
use Rattle.abi_scalar.specs.declared.repr.ReprOptions.{ReprOptions}
use Rattle.abi_scalar.specs.Repr.{has_fixed_order, is_abi_fixed, may_randomize}
use Rattle.abi_scalar.specs.Shape.{listed_offsets}
use Rattle.abi_univariant.specs.InOrder.{IsOrderedLayout}
use Rattle.abi_univariant.specs.ListView.{list_view}
use Rattle.abi_univariant.specs.Part.{parts_of}
use Rattle.abi_calc.specs.Marks.{HasListMarks}
use Rattle.abi_calc.specs.Seen.{view_of_fields}

unfixed : (fixed asked : Bool) → (not fixed && asked) ≡ true → fixed ≡ false
unfixed true asked e = cc
unfixed false asked e = refl

-- where fields may be shuffled, their order is free
pub free_of_random : (repr : ReprOptions) → IsTrue (may_randomize repr) → has_fixed_order repr ≡ false
free_of_random repr random = unfixed (has_fixed_order repr) _ random

module _ {F V H : Type 0} (layout_of : H → LayoutData F V) (at : ℕ → F) (first : V) (dl : TargetDataLayout) (repr : ReprOptions) (kind : StructKind) (order : List ℕ) (hs : List H) where
  -- the list is marked as its fields are
  pub handed_marks : (offsets : List ℕ) (l : LayoutData F V) → IsOrderedLayout at first dl repr kind (map layout_of hs) order offsets l → HasListMarks dl repr kind (map layout_of hs) l
  handed_marks offsets l r = record { uninhabited = r.uninhabited; max_repr_align = r.max_repr_align; unadjusted_abi_align = r.unadjusted_abi_align; repr_c = r.repr_c; seed = r.seed }

  -- and has their view
  pub handed_viewed : (offsets : List ℕ) (l : LayoutData F V) → IsOrderedLayout at first dl repr kind (map layout_of hs) order offsets l → l.backend_repr ≡ view_of_fields dl repr (map layout_of hs) l
  handed_viewed offsets l r = r.view ∙ ap (λ os. list_view dl (is_abi_fixed repr) l.size l.align.abi (parts_of dl (map layout_of hs)) os) (sym (ap listed_offsets r.shape))
