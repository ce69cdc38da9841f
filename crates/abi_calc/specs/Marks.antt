-- What is promised of a type beside its places, be it a list, a union, an enum or a coroutine.
use Rattle.std.specs.Prelude.{◌≡◌, ℕ, ◌||◌, Bool, false, List, None, Option}
use Rattle.std.specs.List.{list_all}
use Rattle.abi_base.specs.declared.data_layout.TargetDataLayout.{TargetDataLayout}
use Rattle.abi_base.specs.declared.struct_kind.StructKind.{StructKind}
use Rattle.abi_index.specs.BitSet.{members_of}
use Rattle.abi_index.specs.Relation.{Relation}
use Rattle.abi_scalar.specs.declared.layout_data.LayoutData.{LayoutData}
use Rattle.abi_scalar.specs.declared.repr.ReprOptions.{ReprOptions}
use Rattle.abi_scalar.specs.Repr.{is_c}
use Rattle.abi_univariant.specs.Fields.{greatest_repr_align, greatest_unadjusted, lies_as_in_c, seed_with}
use Rattle.abi_univariant.specs.List.{list_seed, unadjusted_of}
use Rattle.abi_univariant.specs.Part.{parts_of}
use Rattle.abi_univariant.specs.Union.{unraised_align}
use Rattle.abi_calc.specs.Coroutine.Lists.{picked}
use Rattle.abi_calc.specs.Coroutine.Promotion.{promoted_of}
use Rattle.abi_calc.specs.Coroutine.Sizes.{own_lists}
use Rattle.abi_calc.specs.Enums.EnumStrategy.{has_no_value}

-- Whether it is marked as having no values, the greatest alignment that a `repr(align)` in it asks for, its alignment before
-- one raised it, whether it lies as `repr(C)` has it, and the seed of a shuffle of its fields.
pub record HasMarks {F V : Type 0} (without_values : Bool) (asked : Option ℕ) (unadjusted : ℕ) (in_c : Bool) (shuffle : ℕ) (layout : LayoutData F V) : Type 0 where
  pub uninhabited : layout.uninhabited ≡ without_values
  pub max_repr_align : layout.max_repr_align ≡ asked
  pub unadjusted_abi_align : layout.unadjusted_abi_align ≡ unadjusted
  pub repr_c : layout.repr_c ≡ in_c
  pub seed : layout.randomization_seed ≡ shuffle

-- those of a list of these fields
abbrev pub HasListMarks : {F V : Type 0} → TargetDataLayout → ReprOptions → StructKind → List (LayoutData F V) → LayoutData F V → Type 0
HasListMarks dl repr kind fields layout =
    HasMarks (has_no_value fields) (greatest_repr_align repr.align fields) (unadjusted_of dl repr kind layout.size layout.align.abi (parts_of dl fields))
    (lies_as_in_c repr fields) (list_seed repr kind fields) layout

-- those of a union, which is never marked as having no values
abbrev pub HasUnionMarks : {F V : Type 0} → TargetDataLayout → ReprOptions → List (LayoutData F V) → LayoutData F V → Type 0
HasUnionMarks dl repr fields layout =
    HasMarks false (greatest_repr_align repr.align fields) (unraised_align dl repr fields) (lies_as_in_c repr fields) (seed_with repr.field_shuffle_seed fields) layout

-- those of an enum whose variants are these lists: it has no values where none of them has one
abbrev pub HasEnumMarks : {F V : Type 0} → TargetDataLayout → ReprOptions → (lists : List (LayoutData F V)) → LayoutData F V → Type 0
HasEnumMarks dl repr lists layout =
    HasMarks (list_all (λ list. list.uninhabited) lists) (greatest_repr_align repr.align lists) (greatest_unadjusted dl.aggregate_align lists) (is_c repr)
    (seed_with repr.field_shuffle_seed lists) layout

-- a coroutine has no values where a prefix field or a promoted local has none, or one of the other locals of each state
abbrev pub is_without_values : {F V : Type 0} → (prefix locals : List (LayoutData F V)) → (states : List (List ℕ)) → (promoted : List Bool) → Bool
is_without_values prefix locals states promoted =
    (has_no_value prefix || has_no_value (picked locals (members_of promoted))) || list_all has_no_value (own_lists locals promoted states)

-- those of a coroutine whose promoted locals the states and the conflicts demand
abbrev pub HasCoroutineMarks : {F V : Type 0} → (prefix locals : List (LayoutData F V)) → (states : List (List ℕ)) → Relation → LayoutData F V → Type 0
HasCoroutineMarks prefix locals states conflicts layout =
    HasMarks (is_without_values prefix locals states (promoted_of states conflicts)) None layout.align.abi false 0 layout
