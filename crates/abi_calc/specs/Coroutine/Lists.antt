-- The lists of a coroutine: one of the prefix fields, the tag and the promoted locals, and behind it one of each state's other
-- locals.
use Rattle.std.specs.Prelude.{ℕ, ◌⊎◌, ⊤, not, Bool, None, List, [], ◌∷◌, ◌++◌, filter, filter_map, slice_get, Ok}
use Rattle.abi_base.specs.declared.data_layout.TargetDataLayout.{TargetDataLayout}
use Rattle.abi_base.specs.declared.struct_kind.StructKind.{StructKind}
use Rattle.abi_base.specs.declared.struct_kind.StructKind.TheVariants.{Prefixed}
use Rattle.abi_scalar.specs.declared.error.LayoutCalculatorError.{LayoutCalculatorError}
use Rattle.abi_scalar.specs.declared.layout_data.LayoutData.{LayoutData}
use Rattle.abi_scalar.specs.declared.repr.ReprOptions.{ReprOptions}
use Rattle.abi_index.specs.BitSet.{is_member, members_of}
use Rattle.abi_univariant.specs.List.{IsUnivariantAnswer, IsUnivariantError}

-- a `repr` that asks for nothing
abbrev pub default_repr : ReprOptions
default_repr = record { int = None; align = None; pack = None; flags = record { 0 = 0 }; scalable = None; field_shuffle_seed = 0 }

-- the items that these places name, in this order
abbrev pub picked : {A : Type 0} → (items : List A) → (places : List ℕ) → List A
picked items places = filter_map (slice_get items) places

-- the first list: the prefix fields, the tag, and the promoted locals, ascending
abbrev pub first_list : {A : Type 0} → (prefix : List A) → (tag : A) → (locals : List A) → (promoted : List Bool) → List A
first_list prefix tag locals promoted = prefix ++ tag ∷ picked locals (members_of promoted)

-- the locals of a state that aren't promoted, as it lists them
abbrev pub own_of : (promoted : List Bool) → (state : List ℕ) → List ℕ
own_of promoted state = filter (λ local. not (is_member promoted local)) state

-- a state's list: its other locals
abbrev pub own_list : {A : Type 0} → (locals : List A) → (promoted : List Bool) → (state : List ℕ) → List A
own_list locals promoted state = picked locals (own_of promoted state)

-- each state's list lies behind the first one
abbrev pub state_list_kind : {F V : Type 0} → (first : LayoutData F V) → StructKind
state_list_kind first = Prefixed first.size first.align.abi

-- each state's other locals have this layout as a list of the kind
abbrev pub AreOwnLists : {F V H : Type 0} → (layout_of : H → LayoutData F V) → (at : ℕ → F) → (zeroth : V) → TargetDataLayout → StructKind → (locals : List H) → (promoted : List Bool)
    → (states : List (List ℕ)) → (lists : List (LayoutData F V)) → Type 0
AreOwnLists layout_of at zeroth dl kind locals promoted [] [] = ⊤
AreOwnLists layout_of at zeroth dl kind locals promoted (state ∷ states) (list ∷ lists) =
    IsUnivariantAnswer layout_of at zeroth dl default_repr kind (own_list locals promoted state) (Ok list)
    × AreOwnLists layout_of at zeroth dl kind locals promoted states lists
AreOwnLists layout_of at zeroth dl kind locals promoted _ _ = ⊥

-- the error is that of the first state whose other locals have none
abbrev pub IsFirstOwnError : {F V H : Type 0} → (layout_of : H → LayoutData F V) → (at : ℕ → F) → (zeroth : V) → TargetDataLayout → StructKind → (locals : List H) → (promoted : List Bool)
    → (states : List (List ℕ)) → LayoutCalculatorError H → Type 0
IsFirstOwnError layout_of at zeroth dl kind locals promoted [] error = ⊥
IsFirstOwnError layout_of at zeroth dl kind locals promoted (state ∷ states) error =
    IsUnivariantError layout_of dl default_repr kind (own_list locals promoted state) error
    ⊎ ((list : LayoutData _ _) × IsUnivariantAnswer layout_of at zeroth dl default_repr kind (own_list locals promoted state) (Ok list)
    × IsFirstOwnError layout_of at zeroth dl kind locals promoted states error)
