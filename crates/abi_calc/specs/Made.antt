-- The lists that a type of several variants is made of.
use Rattle.std.specs.Prelude.{◌≡◌, ℕ, ⊤, List, [], ◌∷◌, IfSome}
use Rattle.abi_base.specs.declared.data_layout.TargetDataLayout.{TargetDataLayout}
use Rattle.abi_base.specs.declared.struct_kind.StructKind.{StructKind}
use Rattle.abi_scalar.specs.declared.layout_data.LayoutData.{LayoutData}
use Rattle.abi_scalar.specs.declared.repr.ReprOptions.{ReprOptions}
use Rattle.abi_scalar.specs.Shape.{listed_offsets}
use Rattle.abi_univariant.specs.Least.{IsLeastSize, LiesInSomeOrder}
use Rattle.abi_univariant.specs.ListNiche.{HasLargestNiche, IsNicheOfPart}
use Rattle.abi_calc.specs.Marks.{HasListMarks}
use Rattle.abi_calc.specs.Seen.{view_of_fields}

-- A list of these fields: they lie one after another in some allowed order, of the least size that such an order has; its view
-- and its marks are those of the fields, and its niche is that of a field with the most free numbers.
pub record IsFieldList {F V : Type 0} (at : ℕ → F) (dl : TargetDataLayout) (repr : ReprOptions) (kind : StructKind) (fields : List (LayoutData F V)) (list : LayoutData F V) : Type 0 where
  pub placed : LiesInSomeOrder at dl repr kind fields list
  pub least : IsLeastSize dl repr kind fields list.size
  pub view : list.backend_repr ≡ view_of_fields dl repr fields list
  pub niche : IfSome list.largest_niche (IsNicheOfPart (listed_offsets list.fields) fields)
  pub largest : HasLargestNiche dl list.largest_niche fields
  pub marks : HasListMarks dl repr kind fields list

-- each variant's fields have one, of one kind
abbrev pub AreFieldLists : {F V : Type 0} → (at : ℕ → F) → TargetDataLayout → ReprOptions → StructKind → (variants : List (List (LayoutData F V))) → (lists : List (LayoutData F V)) → Type 0
AreFieldLists at dl repr kind [] [] = ⊤
AreFieldLists at dl repr kind (fields ∷ variants) (list ∷ lists) = IsFieldList at dl repr kind fields list × AreFieldLists at dl repr kind variants lists
AreFieldLists at dl repr kind _ _ = ⊥
