-- What a coroutine's locals may share: locals that clash share no byte, and a local has one place.
use Rattle.std.specs.Prelude.{◌≡◌, ◌≢◌, ℕ, ◌+◌, ◌≤◌, ◌⊎◌, ⊤, true, All, Contains, List, [], ◌∷◌, ◌++◌, length, map, slice_get, Some}
use Rattle.abi_base.specs.declared.data_layout.TargetDataLayout.{TargetDataLayout}
use Rattle.abi_index.specs.Relation.{Relation, is_entry}
use Rattle.abi_scalar.specs.declared.fields_shape.FieldsShape.TheVariants.{Arbitrary}
use Rattle.abi_scalar.specs.declared.layout_data.LayoutData.{LayoutData}
use Rattle.abi_scalar.specs.declared.scalar.Scalar.{Scalar}
use Rattle.abi_scalar.specs.declared.variants.TagEncoding.TheVariants.{Direct}
use Rattle.abi_scalar.specs.declared.variants.VariantLayout.{VariantLayout}
use Rattle.abi_scalar.specs.declared.variants.Variants.TheVariants.{Multiple}
use Rattle.abi_scalar.specs.Scalar.{IsNumberOf, scalar_size}
use Rattle.abi_univariant.specs.Apart.{AreApart}
use Rattle.abi_univariant.specs.Placement.{source_order}
use Rattle.abi_calc.specs.Coroutine.Lists.{picked}

-- two locals clash where some state holds both, or the conflicts name them in either direction
abbrev pub DoClash : (states : List (List ℕ)) → Relation → (a b : ℕ) → Type 0
DoClash states conflicts a b =
    ((state : List ℕ) × Contains states state × Contains state a × Contains state b) ⊎ (is_entry conflicts a b ≡ true) ⊎ (is_entry conflicts b a ≡ true)

-- some state holds the local, and has it at this offset
abbrev pub HasLocalAt : {F : Type 0} → (states : List (List ℕ)) → (layouts : List (VariantLayout F)) → (local offset : ℕ) → Type 0
HasLocalAt states layouts local offset =
    (i : ℕ) × (state : List ℕ) × (layout : VariantLayout _) × (place : ℕ) × (slice_get states i ≡ Some state) × (slice_get layouts i ≡ Some layout)
    × (slice_get state place ≡ Some local) × (slice_get layout.field_offsets place ≡ Some offset)

-- two different locals that clash share no byte, wherever states have them
abbrev pub AreClashingApart : {F V : Type 0} → (states : List (List ℕ)) → Relation → (locals : List (LayoutData F V)) → (layouts : List (VariantLayout F)) → Type 0
AreClashingApart states conflicts locals layouts =
    (a b o p : ℕ) (x y : LayoutData _ _) → a ≢ b → DoClash states conflicts a b → slice_get locals a ≡ Some x → slice_get locals b ≡ Some y
    → HasLocalAt states layouts a o → HasLocalAt states layouts b p → (o + x.size ≤ p) ⊎ (p + y.size ≤ o)

-- a local lies at one offset, whatever states hold it
abbrev pub HaveOneOffset : {F : Type 0} → (states : List (List ℕ)) → (layouts : List (VariantLayout F)) → Type 0
HaveOneOffset states layouts = (local o p : ℕ) → HasLocalAt states layouts local o → HasLocalAt states layouts local p → o ≡ p

-- the shared fields and those of each state are parts that share no byte and end inside the whole
abbrev pub AreStatesApart : {F V : Type 0} → (whole : ℕ) → (shared_offsets shared_sizes : List ℕ) → (locals : List (LayoutData F V)) → (states : List (List ℕ)) → (layouts : List (VariantLayout F)) → Type 0
AreStatesApart whole shared_offsets shared_sizes locals [] [] = ⊤
AreStatesApart whole shared_offsets shared_sizes locals (state ∷ states) (layout ∷ layouts) =
    AreApart whole (shared_offsets ++ layout.field_offsets) (shared_sizes ++ map (λ f. f.size) (picked locals state))
    × AreStatesApart whole shared_offsets shared_sizes locals states layouts
AreStatesApart whole shared_offsets shared_sizes locals _ _ = ⊥

-- A coroutine whose states are distinguished by a tag, which lies behind the prefix fields as one of the shared fields: each state's
-- number is its index, which the tag may hold.
pub record IsDistinguishedByState {F V : Type 0} (dl : TargetDataLayout) (at : ℕ → F) (prefix locals : List (LayoutData F V)) (states : List (List ℕ)) (layout : LayoutData F V) : Type 0 where
  pub tag : Scalar
  pub offsets : List ℕ
  pub order : List F
  pub fields : layout.fields ≡ Arbitrary offsets order
  pub count : length offsets ≡ length prefix + 1
  pub layouts : List (VariantLayout F)
  pub tag_distinguishes : layout.variants ≡ Multiple tag Direct (at (length prefix)) layouts
  pub apart : AreStatesApart layout.size offsets (map (λ f. f.size) prefix ++ scalar_size dl tag ∷ []) locals states layouts
  pub numbers : All (IsNumberOf (scalar_size dl tag) tag) (source_order (length states))
