-- The lists of an enum's variants.
use Rattle.std.specs.Prelude.{◌≡◌, ℕ, ◌≤◌, ◌⊎◌, ⊤, List, [], ◌∷◌, fold, length, map, All, IfSome, Ok, if◌then◌else◌}
use Rattle.abi_base.specs.declared.data_layout.TargetDataLayout.{TargetDataLayout}
use Rattle.abi_base.specs.declared.integer.Integer.{Integer}
use Rattle.abi_base.specs.declared.struct_kind.StructKind.{StructKind}
use Rattle.abi_base.specs.declared.struct_kind.StructKind.TheVariants.{Prefixed}
use Rattle.abi_base.specs.Integer.{integer_align, integer_size}
use Rattle.abi_scalar.specs.declared.layout_data.LayoutData.{LayoutData}
use Rattle.abi_scalar.specs.declared.error.LayoutCalculatorError.{LayoutCalculatorError}
use Rattle.abi_scalar.specs.declared.repr.ReprOptions.{ReprOptions}
use Rattle.abi_scalar.specs.Lawful.{IsLawfulLayout}
use Rattle.abi_scalar.specs.Order.{HasPlaceForEach}
use Rattle.abi_scalar.specs.Repr.{is_c}
use Rattle.abi_scalar.specs.Shape.{IsListed, listed_offsets}
use Rattle.abi_univariant.specs.Apart.{AreApart}
use Rattle.abi_univariant.specs.Fields.{greatest_align}
use Rattle.abi_univariant.specs.Least.{IsLeastSize, LiesInSomeOrder}
use Rattle.abi_univariant.specs.List.{IsUnivariantAnswer, IsUnivariantError}
use Rattle.abi_univariant.specs.ListNiche.{HasLargestNiche, IsNicheOfPart}
use Rattle.abi_univariant.specs.Placement.{start_of}

-- the greatest alignment of all variants' fields, and no less than this one
abbrev pub align_with_all : {F V : Type 0} → (own : ℕ) → List (List (LayoutData F V)) → ℕ
align_with_all own variants = fold greatest_align own variants

-- the alignment of what the variants' fields lie behind: the tag's; under C also that of a union of the variants
abbrev pub tag_align : {F V : Type 0} → TargetDataLayout → ReprOptions → Integer → List (List (LayoutData F V)) → ℕ
tag_align dl repr tag variants =
    if is_c repr then align_with_all (integer_align dl tag) variants else integer_align dl tag

-- each variant is a list behind the tag
abbrev pub behind_tag : {F V : Type 0} → TargetDataLayout → ReprOptions → Integer → List (List (LayoutData F V)) → StructKind
behind_tag dl repr tag variants = Prefixed (integer_size tag) (tag_align dl repr tag variants)

-- each variant's fields have this layout as a list of the kind
abbrev pub AreListLayouts : {F V H : Type 0} → (layout_of : H → LayoutData F V) → (at : ℕ → F) → (first : V) → TargetDataLayout → ReprOptions → StructKind
    → (variants : List (List H)) → (lists : List (LayoutData F V)) → Type 0
AreListLayouts layout_of at first dl repr kind [] [] = ⊤
AreListLayouts layout_of at first dl repr kind (fields ∷ variants) (list ∷ lists) =
    IsUnivariantAnswer layout_of at first dl repr kind fields (Ok list) × AreListLayouts layout_of at first dl repr kind variants lists
AreListLayouts layout_of at first dl repr kind _ _ = ⊥

-- the error is that of the first variant whose fields have no layout
abbrev pub IsFirstListError : {F V H : Type 0} → (layout_of : H → LayoutData F V) → (at : ℕ → F) → (first : V) → TargetDataLayout → ReprOptions → StructKind
    → (variants : List (List H)) → LayoutCalculatorError H → Type 0
IsFirstListError layout_of at first dl repr kind [] error = ⊥
IsFirstListError layout_of at first dl repr kind (fields ∷ variants) error =
    IsUnivariantError layout_of dl repr kind fields error
    ⊎ ((list : LayoutData _ _) × IsUnivariantAnswer layout_of at first dl repr kind fields (Ok list) × IsFirstListError layout_of at first dl repr kind variants error)

-- The list's fields are listed one by one: an offset for each of these, and a place in memory order.
pub record ListsFields {A F V : Type 0} (fields : List A) (list : LayoutData F V) : Type 0 where
  pub listed : IsListed list.fields
  pub count : length (listed_offsets list.fields) ≡ length fields
  pub places : HasPlaceForEach list.fields

-- The fields' layout as a list of the kind: lawful, listed one by one in some allowed order, of the least size that such an
-- order has, with fields that share no byte and lie behind what the list lies behind, and with the niche of a field that has
-- the most free numbers.
pub record IsGoodList {F V H : Type 0} (layout_of : H → LayoutData F V) (at : ℕ → F) (first : V) (dl : TargetDataLayout) (repr : ReprOptions) (kind : StructKind) (fields : List H) (list : LayoutData F V) : Type 0 where
  pub exact : IsUnivariantAnswer layout_of at first dl repr kind fields (Ok list)
  pub listed : ListsFields fields list
  pub lawful : IsLawfulLayout dl list
  pub placed : LiesInSomeOrder at dl repr kind (map layout_of fields) list
  pub least : IsLeastSize dl repr kind (map layout_of fields) list.size
  pub apart : AreApart list.size (listed_offsets list.fields) (map (λ f. (layout_of f).size) fields)
  pub after : All (λ o. start_of repr.pack kind ≤ o) (listed_offsets list.fields)
  pub niche : IfSome list.largest_niche (IsNicheOfPart (listed_offsets list.fields) (map layout_of fields))
  pub largest : HasLargestNiche dl list.largest_niche (map layout_of fields)

-- each variant's fields have one
abbrev pub AreGoodLists : {F V H : Type 0} → (layout_of : H → LayoutData F V) → (at : ℕ → F) → (first : V) → TargetDataLayout → ReprOptions → StructKind
    → (variants : List (List H)) → (lists : List (LayoutData F V)) → Type 0
AreGoodLists layout_of at first dl repr kind [] [] = ⊤
AreGoodLists layout_of at first dl repr kind (fields ∷ variants) (list ∷ lists) =
    IsGoodList layout_of at first dl repr kind fields list × AreGoodLists layout_of at first dl repr kind variants lists
AreGoodLists layout_of at first dl repr kind _ _ = ⊥

-- there are such lists
abbrev pub HaveGoodLists : {F V H : Type 0} → (layout_of : H → LayoutData F V) → (at : ℕ → F) → (first : V) → TargetDataLayout → ReprOptions → StructKind
    → (variants : List (List H)) → Type 0
HaveGoodLists layout_of at first dl repr kind variants = (lists : List (LayoutData _ _)) × AreGoodLists layout_of at first dl repr kind variants lists

-- each variant has a list of its own
abbrev pub AreListsOf : {A F V : Type 0} → (variants : List (List A)) → (lists : List (LayoutData F V)) → Type 0
AreListsOf [] [] = ⊤
AreListsOf (fields ∷ variants) (list ∷ lists) = ListsFields fields list × AreListsOf variants lists
AreListsOf _ _ = ⊥
