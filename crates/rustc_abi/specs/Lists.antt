-- The lists that types are made of: each lies in an allowed order of the least size, but for moves that the rules name.
use Rattle.std.specs.Prelude.{◌≡◌, ℕ, ◌+◌, ◌^◌, ◌==◌, ◌≤◌, ◌⊎◌, ⊤, Bool, List, [], ◌∷◌, ◌++◌, MatchBool, None, Ok, length}
use Rattle.std.specs.Prelude.{map}
use Rattle.std.specs.Int.{next_multiple_of}
use Rattle.abi_base.specs.declared.data_layout.TargetDataLayout.{TargetDataLayout}
use Rattle.abi_base.specs.declared.integer.Integer.{Integer}
use Rattle.abi_base.specs.declared.struct_kind.StructKind.{StructKind}
use Rattle.abi_base.specs.declared.struct_kind.StructKind.TheVariants.{AlwaysSized}
use Rattle.abi_base.specs.Integer.{integer_size}
use Rattle.abi_scalar.specs.declared.repr.ReprOptions.{ReprOptions}
use Rattle.abi_scalar.specs.declared.variants.TagEncoding.{TagEncoding}
use Rattle.abi_scalar.specs.declared.variants.TagEncoding.TheVariants.{Direct, Niche}
use Rattle.abi_calc.specs.Coroutine.Lists.{default_repr, first_list, own_list}
use Rattle.abi_calc.specs.Coroutine.Promotion.{promoted_of}
use Rattle.abi_calc.specs.Coroutine.Sizes.{behind_first}
use Rattle.abi_calc.specs.Coroutine.States.{state_offsets}
use Rattle.abi_calc.specs.Enums.Growth.{moved_offset}
use Rattle.abi_calc.specs.Enums.Lists.{behind_tag}
use Rattle.abi_calc.specs.Enums.Several.{IsAskedFor}
use Rattle.abi_univariant.specs.Least.{IsLeastSize, IsPlacedBy, align_by}
use Rattle.abi_tree.specs.Tree.{Tree, struct, enum, coroutine}
use Rattle.abi_tree.specs.Placed.{Placed, fields, single, tagged, states as placed_states}
use Rattle.abi_scalar.specs.Layout.{Layout}
use Rattle.abi_tree.specs.Placed.{Parts, no_parts, part, TaggedVariants, nothing_tagged, tagged_variant, layout_of, size_of}
use Rattle.rustc_abi.specs.Coroutines.{conflicts_of}
use Rattle.rustc_abi.specs.Enums.{IsTagIntegerAnswer, counted, discriminants_of, layouts_of}
use Rattle.rustc_abi.specs.Laying.{AreLaying, kind_of}
use Rattle.rustc_abi.specs.Least.{fields_of, fields_of_tagged_variants}

-- where parts lie
abbrev pub offsets_of : Parts → List ℕ
offsets_of no_parts = []
offsets_of (part offset placed parts) = offset ∷ offsets_of parts

-- the layouts of parts
abbrev pub types_of : Parts → List Layout
types_of parts = map layout_of (fields_of parts)

-- A list of these fields: they lie at these offsets, one after another in an allowed order, and its size is the least
-- of all orders that the repr and the kind allow.
pub record IsLeastList (dl : TargetDataLayout) (repr : ReprOptions) (kind : StructKind) (fields : List Layout)
    (offsets : List ℕ) (size : ℕ) : Type 0 where
  pub order : List ℕ
  pub placed : IsPlacedBy dl repr kind fields order offsets size (align_by dl repr kind fields)
  pub least : IsLeastSize dl repr kind fields size

-- ---- the variants of an enum

-- each variant comes from such a list, each of whose fields is moved so
abbrev pub AreMovedLists : TargetDataLayout → ReprOptions → StructKind → (move : ℕ → ℕ) → TaggedVariants → Type 0
AreMovedLists dl repr kind move nothing_tagged = ⊤
AreMovedLists dl repr kind move (tagged_variant number layout mark parts tagged_variants) =
    ((offsets : List ℕ) × (size : ℕ) × IsLeastList dl repr kind (types_of parts) offsets size
    × (offsets_of parts ≡ map move offsets))
    × AreMovedLists dl repr kind move tagged_variants

-- a list of this size and alignment may be moved by so many bytes beside a niche of so many bytes at this place: it
-- stays where it ends before the niche, or begins at the first multiple of its alignment after it and ends inside the
-- whole
abbrev pub MayMove : (place width whole : ℕ) → (size align : ℕ) → (by : ℕ) → Type 0
MayMove place width whole size align by =
    ((by ≡ 0) × (size ≤ place)) ⊎ ((by ≡ next_multiple_of (place + width) (2 ^ align)) × (by + size ≤ whole))

-- each variant, those from a place on, comes from an always sized list: the untagged one as it lies, the others moved
-- beside its niche
abbrev pub AreListsBeside : TargetDataLayout → ReprOptions → (place width whole : ℕ) → (untagged from : ℕ) → TaggedVariants
    → Type 0
AreListsBeside dl repr place width whole untagged from nothing_tagged = ⊤
AreListsBeside dl repr place width whole untagged from (tagged_variant number layout mark parts tagged_variants) =
    ((by : ℕ) × (offsets : List ℕ) × (size : ℕ) × IsLeastList dl repr AlwaysSized (types_of parts) offsets size
    × (offsets_of parts ≡ map (λ o. by + o) offsets)
    × MatchBool (from == untagged) (by ≡ 0) (MayMove place width whole size
    (align_by dl repr AlwaysSized (types_of parts)) by))
    × AreListsBeside dl repr place width whole untagged (from + 1) tagged_variants

-- The lists of variants with these discriminants, in a whole of this size whose tag lies at this place. Those of a tag
-- of its own lie behind the integer that is asked for: where the tag grew from that, fields at the old end lie at the
-- new one.
abbrev pub AreLeastVariants : TargetDataLayout → ReprOptions → (numbers : List ℕ) → (whole place : ℕ) → (tag : Placed)
    → TagEncoding ℕ → TaggedVariants → Type 0
AreLeastVariants dl repr numbers whole place tag Direct tagged_variants =
    (asked : Integer) × (signed : Bool)
    × IsAskedFor dl repr (IsTagIntegerAnswer dl repr) (counted repr numbers (fields_of_tagged_variants tagged_variants)) asked signed
    × (integer_size asked ≤ size_of tag)
    × AreMovedLists dl repr (behind_tag dl repr asked (layouts_of (fields_of_tagged_variants tagged_variants)))
    (moved_offset (integer_size asked) (size_of tag)) tagged_variants
AreLeastVariants dl repr numbers whole place tag (Niche untagged span start) tagged_variants =
    AreListsBeside dl repr place (size_of tag) whole untagged 0 tagged_variants

-- ---- the lists of a coroutine

-- each state comes from a list of its other locals, of this kind; promoted ones lie at these offsets, by rank
abbrev pub AreStateLists : TargetDataLayout → StructKind → (locals : List Layout) → (promoted : List Bool)
    → (shared : List ℕ) → (states : List (List ℕ)) → TaggedVariants → Type 0
AreStateLists dl kind locals promoted shared [] nothing_tagged = ⊤
AreStateLists dl kind locals promoted shared (state ∷ states) (tagged_variant number layout mark parts tagged_variants) =
    ((own : List ℕ) × (size : ℕ) × IsLeastList dl default_repr kind (own_list locals promoted state) own size
    × (offsets_of parts ≡ state_offsets promoted shared own state))
    × AreStateLists dl kind locals promoted shared states tagged_variants
AreStateLists dl kind locals promoted shared _ _ = ⊥

-- the list of prefix fields, tag and promoted locals, and behind it those of the states
abbrev pub AreLeastStates : TargetDataLayout → (prefix : Parts) → (place : ℕ) → (tag : Placed) → (locals : List Layout)
    → (promoted : List Bool) → (states : List (List ℕ)) → TaggedVariants → Type 0
AreLeastStates dl prefix place tag locals promoted states tagged_variants =
    (shared : List ℕ) × (size : ℕ)
    × IsLeastList dl default_repr AlwaysSized (first_list (types_of prefix) (layout_of tag) locals promoted)
    (offsets_of prefix ++ place ∷ shared) size
    × AreStateLists dl (behind_first dl (first_list (types_of prefix) (layout_of tag) locals promoted) size) locals
    promoted shared states tagged_variants

-- ---- types

module _ (dl : TargetDataLayout) where
  -- Each list that the type is made of is such a list: a struct's, that of the one variant that is left, those of the
  -- variants beside a tag before it grew or they were moved beside a niche, and those of a coroutine, with the locals
  -- promoted that its states and conflicts demand. Of other types nothing is said, and of a struct whose order is handed
  -- in: `LiesAsAsked` does.
  abbrev pub HasLeastLists : Tree → Placed → Type 0
  HasLeastLists (struct repr always_sized None all) (fields layout mark parts) =
      IsLeastList dl repr (kind_of always_sized (fields_of parts)) (types_of parts) (offsets_of parts) layout.size
  HasLeastLists (enum repr all) (single layout mark index parts) =
      IsLeastList dl repr AlwaysSized (types_of parts) (offsets_of parts) layout.size
  HasLeastLists (enum repr all) (tagged layout mark place tag encoding tagged_variants) =
      AreLeastVariants dl repr (discriminants_of all) layout.size place tag encoding tagged_variants
  HasLeastLists (coroutine prefix locals all conflicts) (placed_states layout pre place tag tagged_variants) =
      (ps : List Placed) × AreLaying dl locals (Ok ps)
      × AreLeastStates dl pre place tag (map layout_of ps)
      (promoted_of all (conflicts_of (length ps) conflicts)) all tagged_variants
  HasLeastLists _ placed = ⊤
