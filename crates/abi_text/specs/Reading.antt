-- The type that a line's words write under a data layout, or the first word that doesn't fit.
use Rattle.std.specs.Prelude.{◌≡◌, ℕ, ◌+◌, ◌⊎◌, Bool, true, false, List, [], ◌∷◌, ◌++◌, codes, length, map, nat_lt, option_map, reverse, Vec, Option, None, Some, Result, Ok, Err, if◌then◌else◌}
use Rattle.std.specs.Str.{bytes_eq}
use Rattle.std.specs.declared.alloc.Global.{Global}
use Rattle.abi_base.specs.declared.primitive.Primitive.{Primitive}
use Rattle.abi_base.specs.declared.primitive.Primitive.TheVariants.{Int, Float, Pointer}
use Rattle.abi_base.specs.declared.data_layout.TargetDataLayout.{TargetDataLayout}
use Rattle.abi_scalar.specs.declared.scalar.Scalar.{Scalar}
use Rattle.abi_scalar.specs.declared.scalar.Scalar.TheVariants.{Initialized, Union}
use Rattle.abi_scalar.specs.declared.repr.ReprOptions.{ReprOptions}
use Rattle.abi_tree.specs.declared.tree.TypeTree.{TypeTree}
use Rattle.abi_tree.specs.Tree.{Tree, scalar, pair, never, unit, array, vector, struct, union, enum, coroutine, trees, tree_of, Variants, no_variants, more_variants}
use Rattle.abi_text.specs.declared.fault.Fault.{Fault}
use Rattle.abi_text.specs.declared.fault.Fault.TheVariants.{Unreadable, TooDeep, OutOfMemory}
use Rattle.abi_text.specs.declared.reader.scalar_word.ScalarWord.{ScalarWord}
use Rattle.abi_text.specs.declared.reader.scalar_word.ScalarWord.TheVariants as word
use Rattle.abi_text.specs.declared.reader.type_word.TypeWord.{TypeWord}
use Rattle.abi_text.specs.declared.reader.type_word.TypeWord.TheVariants as type
use Rattle.abi_text.specs.declared.reader.repr_text.StructRepr.{StructRepr}
use Rattle.abi_text.specs.declared.reader.begun.Want.{Want}
use Rattle.abi_text.specs.declared.reader.begun.Want.TheVariants as want
use Rattle.abi_text.specs.declared.reader.begun.ScalarPlace.{ScalarPlace}
use Rattle.abi_text.specs.declared.reader.begun.ScalarPlace.TheVariants as scalar_place
use Rattle.abi_text.specs.declared.reader.begun.ScalarForm.{ScalarForm}
use Rattle.abi_text.specs.declared.reader.begun.ScalarForm.TheVariants as form
use Rattle.abi_text.specs.declared.reader.begun.CoroutineWant.{CoroutineWant}
use Rattle.abi_text.specs.declared.reader.begun.CoroutineWant.TheVariants as part
use Rattle.abi_text.specs.declared.reader.begun.OrderWant.{OrderWant}
use Rattle.abi_text.specs.declared.reader.begun.OrderWant.TheVariants as order
use Rattle.abi_text.specs.declared.reader.begun.Open.{Open}
use Rattle.abi_text.specs.declared.reader.begun.Open.TheVariants as open_type
use Rattle.abi_text.specs.declared.reader.begun.CoroutineParts.{CoroutineParts}
use Rattle.abi_text.specs.declared.reader.begun.CoroutineParts.TheVariants as open_parts
use Rattle.abi_text.specs.declared.reader.begun.Reader.{Reader}
use Rattle.abi_text.specs.Numbers.{discriminant_in, number_of_bits}
use Rattle.abi_text.specs.Repr.{struct_repr, union_repr}
use Rattle.abi_text.specs.ScalarWords.{scalar_word}
use Rattle.abi_text.specs.TypeWords.{type_word}
use Rattle.abi_text.specs.Scalars.{a_bool, a_char, a_ref, default_pointer, full, index_primitive}

-- the parts so far of a coroutine that is begun: prefix fields, locals, for each state the indices of its locals, and conflicts,
-- each by its row and its column
pub data PartsBegun : Type 0 where
  -- within the prefix fields
  in_prefix : List Tree → PartsBegun
  -- within the locals
  in_locals : (prefix : List Tree) → List Tree → PartsBegun
  -- between the states, with those so far
  between_states : (prefix locals : List Tree) → List (List ℕ) → PartsBegun
  -- within a state: the states before it, and its own indices so far
  in_state : (prefix locals : List Tree) → List (List ℕ) → (indices : List ℕ) → PartsBegun
  -- within the conflicts
  in_conflicts : (prefix locals : List Tree) → (states : List (List ℕ)) → List (ℕ × ℕ) → PartsBegun

-- a type that is begun
pub data Begun : Type 0 where
  -- an array that waits for its element
  elements : (count : ℕ) → Begun
  -- a vector that waits for its element
  lanes : (count : ℕ) → (packed : Bool) → Begun
  -- a struct, with the fields so far
  fields : StructRepr → List Tree → Begun
  -- a struct whose order is handed in, with the indices so far
  ordering : StructRepr → (indices : List ℕ) → Begun
  -- a struct with this order, with the fields so far
  ordered : StructRepr → (indices : List ℕ) → List Tree → Begun
  -- a union, with the fields so far
  members : ReprOptions → List Tree → Begun
  -- an enum between its variants, with those so far
  variants_so_far : ReprOptions → List (ℕ × List Tree) → Begun
  -- an enum within a variant: the variants before it, its discriminant, and its fields so far
  variant : ReprOptions → List (ℕ × List Tree) → (discriminant : ℕ) → List Tree → Begun
  -- a coroutine, with its parts so far
  coroutine_with : PartsBegun → Begun

-- What has been read: what comes next, the types that are begun, the innermost first, and the whole type once it's complete.
pub record State : Type 0 where
  pub want : Want
  pub begun : List Begun
  pub tree : Option Tree

-- what comes next, within these types
abbrev pub waiting : Want → List Begun → State
waiting want begun = record { want = want; begun = begun; tree = None }

-- nothing has been read, and a type comes next
abbrev pub start : State
start = waiting want.Tree []

-- a type more in the part of a coroutine that is begun: types come in its prefix and among its locals alone
abbrev pub with_type : Tree → PartsBegun → PartsBegun
with_type t (in_prefix ts) = in_prefix (ts ++ t ∷ [])
with_type t (in_locals ps ts) = in_locals ps (ts ++ t ∷ [])
with_type t parts = parts

-- a type more in the list of types of what is begun
abbrev pub with_member : Tree → Begun → Begun
with_member t (fields asked ts) = fields asked (ts ++ t ∷ [])
with_member t (ordered asked is ts) = ordered asked is (ts ++ t ∷ [])
with_member t (members repr ts) = members repr (ts ++ t ∷ [])
with_member t (variant repr vs d ts) = variant repr vs d (ts ++ t ∷ [])
with_member t (coroutine_with parts) = coroutine_with (with_type t parts)
with_member t begun = begun

-- a complete type goes into the innermost type that is begun, and completes it where that is an array or a vector
abbrev pub put_type : Tree → List Begun → State
put_type t [] = record { want = want.End; begun = []; tree = Some t }
put_type t (elements n ∷ begun) = put_type (array n t) begun
put_type t (lanes n packed ∷ begun) = put_type (vector n packed t) begun
put_type t (b ∷ begun) = waiting want.Tree (with_member t b ∷ begun)

-- a complete scalar is a type, or goes into its pair
abbrev pub put_scalar : Scalar → ScalarPlace → List Begun → State
put_scalar s scalar_place.Alone begun = put_type (scalar s) begun
put_scalar s scalar_place.First begun = waiting (want.Scalar (scalar_place.Second s)) begun
put_scalar s (scalar_place.Second a) begun = put_type (pair a s) begun

-- the variants of a list
abbrev pub variants_read : List (ℕ × List Tree) → Variants
variants_read [] = no_variants
variants_read (v ∷ vs) = more_variants v.0 (trees v.1) (variants_read vs)

-- a closing parenthesis ends a part of a coroutine; the conflicts are the last, and end the coroutine
abbrev pub part_closed : PartsBegun → List Begun → State
part_closed (in_prefix ps) begun = waiting (want.Coroutine part.TypesOpening) (coroutine_with (in_locals ps []) ∷ begun)
part_closed (in_locals ps ls) begun = waiting (want.Coroutine part.StatesOpening) (coroutine_with (between_states ps ls []) ∷ begun)
part_closed (between_states ps ls ss) begun = waiting (want.Coroutine part.ConflictsOpening) (coroutine_with (in_conflicts ps ls ss []) ∷ begun)
part_closed (in_state ps ls ss s) begun = waiting (want.Coroutine part.State) (coroutine_with (between_states ps ls (ss ++ s ∷ [])) ∷ begun)
part_closed (in_conflicts ps ls ss cs) begun = put_type (coroutine (trees ps) (trees ls) ss cs) begun

-- a closing parenthesis completes a struct, a union, an enum or a variant of one, or ends an order or a part of a coroutine
abbrev pub closed : (number : ℕ) → List Begun → Result State Fault
closed number (fields asked ts ∷ begun) = Ok (put_type (struct asked.repr asked.always_sized None (trees ts)) begun)
closed number (ordering asked is ∷ begun) = Ok (waiting (want.Order order.FieldsOpening) (ordering asked is ∷ begun))
closed number (ordered asked is ts ∷ begun) = Ok (put_type (struct asked.repr asked.always_sized (Some is) (trees ts)) begun)
closed number (members repr ts ∷ begun) = Ok (put_type (union repr (trees ts)) begun)
closed number (variant repr vs d ts ∷ begun) = Ok (waiting want.Discriminant (variants_so_far repr (vs ++ (d, ts) ∷ []) ∷ begun))
closed number (variants_so_far repr vs ∷ begun) = Ok (put_type (enum repr (variants_read vs)) begun)
closed number (coroutine_with parts ∷ begun) = Ok (part_closed parts begun)
closed number _ = Err (Unreadable number)

-- the count of an array's elements
abbrev pub at_count : (number : ℕ) → List Begun → Option ℕ → Result State Fault
at_count number begun None = Err (Unreadable number)
at_count number begun (Some n) = Ok (waiting want.Tree (elements n ∷ begun))

-- the count of a vector's lanes
abbrev pub at_lanes : (number : ℕ) → (packed : Bool) → List Begun → Option ℕ → Result State Fault
at_lanes number packed begun None = Err (Unreadable number)
at_lanes number packed begun (Some n) = Ok (waiting want.Tree (lanes n packed ∷ begun))

-- the repr of a struct
abbrev pub at_repr : (number : ℕ) → List Begun → Option StructRepr → Result State Fault
at_repr number begun None = Err (Unreadable number)
at_repr number begun (Some asked) = Ok (waiting (want.Opening asked) begun)

-- the repr of a union
abbrev pub at_union_repr : (number : ℕ) → List Begun → Option ReprOptions → Result State Fault
at_union_repr number begun None = Err (Unreadable number)
at_union_repr number begun (Some repr) = Ok (waiting (want.UnionOpening repr) begun)

-- the repr of an enum
abbrev pub at_enum_repr : (number : ℕ) → List Begun → Option ReprOptions → Result State Fault
at_enum_repr number begun None = Err (Unreadable number)
at_enum_repr number begun (Some repr) = Ok (waiting (want.EnumOpening repr) begun)

-- the parenthesis that opens a struct's fields
abbrev pub at_opening : (number : ℕ) → StructRepr → List Begun → (opens : Bool) → Result State Fault
at_opening number asked begun opens = if opens then Ok (waiting want.Tree (fields asked [] ∷ begun)) else Err (Unreadable number)

-- the parenthesis that opens a union's fields
abbrev pub at_union_opening : (number : ℕ) → ReprOptions → List Begun → (opens : Bool) → Result State Fault
at_union_opening number repr begun opens = if opens then Ok (waiting want.Tree (members repr [] ∷ begun)) else Err (Unreadable number)

-- the parenthesis that opens an enum's variants
abbrev pub at_enum_opening : (number : ℕ) → ReprOptions → List Begun → (opens : Bool) → Result State Fault
at_enum_opening number repr begun opens = if opens then Ok (waiting want.Discriminant (variants_so_far repr [] ∷ begun)) else Err (Unreadable number)

-- where a variant may come, a closing parenthesis ends the enum
abbrev pub at_discriminant : (number : ℕ) → (closes : Bool) → List Begun → Option ℕ → Result State Fault
at_discriminant number true begun _ = closed number begun
at_discriminant number false begun None = Err (Unreadable number)
at_discriminant number false begun (Some d) = Ok (waiting (want.VariantOpening d) begun)

-- the parenthesis that opens a variant's fields
abbrev pub at_variant_opening : (number : ℕ) → (discriminant : ℕ) → List Begun → (opens : Bool) → Result State Fault
at_variant_opening number d (variants_so_far repr vs ∷ begun) true = Ok (waiting want.Tree (variant repr vs d [] ∷ begun))
at_variant_opening number d _ _ = Err (Unreadable number)

-- a parenthesis opens a part of a coroutine, in which this comes next
abbrev pub at_part_opening : (number : ℕ) → Want → List Begun → (opens : Bool) → Result State Fault
at_part_opening number w begun opens = if opens then Ok (waiting w begun) else Err (Unreadable number)

-- a state begins between the states
abbrev pub state_opened : (number : ℕ) → List Begun → Result State Fault
state_opened number (coroutine_with (between_states ps ls ss) ∷ begun) = Ok (waiting (want.Coroutine part.Local) (coroutine_with (in_state ps ls ss []) ∷ begun))
state_opened number _ = Err (Unreadable number)

-- where a state may come, a closing parenthesis ends the states
abbrev pub at_state : (number : ℕ) → (closes opens : Bool) → List Begun → Result State Fault
at_state number closes opens begun = if closes then closed number begun else (if opens then state_opened number begun else Err (Unreadable number))

-- where the index of a local may come, a closing parenthesis ends the state
abbrev pub at_local : (number : ℕ) → (closes : Bool) → List Begun → Option ℕ → Result State Fault
at_local number true begun _ = closed number begun
at_local number false (coroutine_with (in_state ps ls ss s) ∷ begun) (Some n) = Ok (waiting (want.Coroutine part.Local) (coroutine_with (in_state ps ls ss (s ++ n ∷ [])) ∷ begun))
at_local number false _ _ = Err (Unreadable number)

-- where a conflict may come, a closing parenthesis ends the coroutine
abbrev pub at_row : (number : ℕ) → (closes : Bool) → List Begun → Option ℕ → Result State Fault
at_row number true begun _ = closed number begun
at_row number false begun None = Err (Unreadable number)
at_row number false begun (Some row) = Ok (waiting (want.Coroutine (part.Column row)) begun)

-- the column of a conflict
abbrev pub at_column : (number : ℕ) → (row : ℕ) → List Begun → Option ℕ → Result State Fault
at_column number row (coroutine_with (in_conflicts ps ls ss cs) ∷ begun) (Some column) =
    Ok (waiting (want.Coroutine part.Row) (coroutine_with (in_conflicts ps ls ss (cs ++ (row, column) ∷ [])) ∷ begun))
at_column number row _ _ = Err (Unreadable number)

-- what has been read with the next word of a coroutine, where no type may come
abbrev pub next_in_coroutine : (number : ℕ) → List Begun → (word : List ℕ) → CoroutineWant → Result State Fault
next_in_coroutine number begun w part.TypesOpening = at_part_opening number want.Tree begun (bytes_eq w (codes "("))
next_in_coroutine number begun w part.StatesOpening = at_part_opening number (want.Coroutine part.State) begun (bytes_eq w (codes "("))
next_in_coroutine number begun w part.State = at_state number (bytes_eq w (codes ")")) (bytes_eq w (codes "(")) begun
next_in_coroutine number begun w part.Local = at_local number (bytes_eq w (codes ")")) begun (number_of_bits 64 w)
next_in_coroutine number begun w part.ConflictsOpening = at_part_opening number (want.Coroutine part.Row) begun (bytes_eq w (codes "("))
next_in_coroutine number begun w part.Row = at_row number (bytes_eq w (codes ")")) begun (number_of_bits 64 w)
next_in_coroutine number begun w (part.Column row) = at_column number row begun (number_of_bits 64 w)

-- the repr of a struct whose order is handed in, and the parenthesis that opens the order
abbrev pub at_order_repr : (number : ℕ) → List Begun → Option StructRepr → Result State Fault
at_order_repr number begun None = Err (Unreadable number)
at_order_repr number begun (Some asked) = Ok (waiting (want.Order (order.Opening asked)) begun)

-- the parenthesis that opens an order
abbrev pub at_order_opening : (number : ℕ) → StructRepr → List Begun → (opens : Bool) → Result State Fault
at_order_opening number asked begun opens = if opens then Ok (waiting (want.Order order.Index) (ordering asked [] ∷ begun)) else Err (Unreadable number)

-- where an index may come, a closing parenthesis ends the order
abbrev pub at_index : (number : ℕ) → (closes : Bool) → List Begun → Option ℕ → Result State Fault
at_index number true begun _ = closed number begun
at_index number false (ordering asked is ∷ begun) (Some i) = Ok (waiting (want.Order order.Index) (ordering asked (is ++ i ∷ []) ∷ begun))
at_index number false _ _ = Err (Unreadable number)

-- the fields follow the order
abbrev pub at_fields_opening : (number : ℕ) → List Begun → (opens : Bool) → Result State Fault
at_fields_opening number (ordering asked is ∷ begun) true = Ok (waiting want.Tree (ordered asked is [] ∷ begun))
at_fields_opening number _ _ = Err (Unreadable number)

-- what has been read with the next word of a struct whose order is handed in, where no type may come
abbrev pub next_in_order : (number : ℕ) → List Begun → (word : List ℕ) → OrderWant → Result State Fault
next_in_order number begun w order.Repr = at_order_repr number begun (struct_repr w)
next_in_order number begun w (order.Opening asked) = at_order_opening number asked begun (bytes_eq w (codes "("))
next_in_order number begun w order.Index = at_index number (bytes_eq w (codes ")")) begun (number_of_bits 64 w)
next_in_order number begun w order.FieldsOpening = at_fields_opening number begun (bytes_eq w (codes "("))

-- the start of a range
abbrev pub at_start : (number : ℕ) → Primitive → ScalarPlace → List Begun → Option ℕ → Result State Fault
at_start number p place begun None = Err (Unreadable number)
at_start number p place begun (Some n) = Ok (waiting (want.RangeEnd p n place) begun)

-- the end of a range
abbrev pub at_end : (number : ℕ) → Primitive → (start : ℕ) → ScalarPlace → List Begun → Option ℕ → Result State Fault
at_end number p n place begun None = Err (Unreadable number)
at_end number p n place begun (Some m) = Ok (put_scalar (Initialized p (record { start = n; end = m })) place begun)

-- the word begins a primitive
abbrev pub is_primitive : ScalarWord → Bool
is_primitive (word.Integer integer signed) = true
is_primitive (word.Index signed) = true
is_primitive (word.Float float) = true
is_primitive word.Pointer = true
is_primitive word.PointerIn = true
is_primitive _ = false

module _ (dl : TargetDataLayout) where
  -- a complete primitive is a scalar with its full range, or a union's, or that of a range
  abbrev pub put_primitive : Primitive → ScalarForm → ScalarPlace → List Begun → State
  put_primitive p form.Full place begun = put_scalar (full dl p) place begun
  put_primitive p form.Range place begun = waiting (want.RangeStart p place) begun
  put_primitive p form.Union place begun = put_scalar (Union p) place begun

  -- a word that begins a scalar, whose primitive, if it is one, makes a scalar of this form
  abbrev pub begin_scalar : ScalarForm → ScalarPlace → List Begun → ScalarWord → State
  begin_scalar shape place begun (word.Integer integer signed) = put_primitive (Int integer signed) shape place begun
  begin_scalar shape place begun (word.Index signed) = put_primitive (index_primitive dl signed) shape place begun
  begin_scalar shape place begun (word.Float float) = put_primitive (Float float) shape place begun
  begin_scalar shape place begun word.Pointer = put_primitive default_pointer shape place begun
  begin_scalar shape place begun word.PointerIn = waiting (want.Space shape place) begun
  begin_scalar shape place begun word.Bool = put_scalar a_bool place begun
  begin_scalar shape place begun word.Char = put_scalar a_char place begun
  begin_scalar shape place begun word.Ref = put_scalar (a_ref dl) place begun
  begin_scalar shape place begun word.Range = waiting (want.Primitive form.Range place) begun
  begin_scalar shape place begun word.UnionOf = waiting (want.Primitive form.Union place) begun

  -- a word that begins a scalar
  abbrev pub at_scalar : (number : ℕ) → ScalarPlace → List Begun → Option ScalarWord → Result State Fault
  at_scalar number place begun None = Err (Unreadable number)
  at_scalar number place begun (Some w) = Ok (begin_scalar form.Full place begun w)

  -- the primitive of a range or of a union's scalar
  abbrev pub at_primitive : (number : ℕ) → ScalarForm → ScalarPlace → List Begun → Option ScalarWord → Result State Fault
  at_primitive number shape place begun None = Err (Unreadable number)
  at_primitive number shape place begun (Some w) = if is_primitive w then Ok (begin_scalar shape place begun w) else Err (Unreadable number)

  -- the address space of a pointer
  abbrev pub at_space : (number : ℕ) → ScalarForm → ScalarPlace → List Begun → Option ℕ → Result State Fault
  at_space number shape place begun None = Err (Unreadable number)
  at_space number shape place begun (Some n) = Ok (put_primitive (Pointer (record { 0 = n })) shape place begun)

  -- a word that begins a type
  abbrev pub begin : List Begun → TypeWord → State
  begin begun (type.Scalar w) = begin_scalar form.Full scalar_place.Alone begun w
  begin begun type.Pair = waiting (want.Scalar scalar_place.First) begun
  begin begun type.Never = put_type never begun
  begin begun type.Unit = put_type unit begun
  begin begun type.Array = waiting want.Count begun
  begin begun (type.Vector packed) = waiting (want.Lanes packed) begun
  begin begun type.Struct = waiting want.Repr begun
  begin begun type.Ordered = waiting (want.Order order.Repr) begun
  begin begun type.Union = waiting want.UnionRepr begun
  begin begun type.Enum = waiting want.EnumRepr begun
  begin begun type.Coroutine = waiting (want.Coroutine part.TypesOpening) (coroutine_with (in_prefix []) ∷ begun)

  -- no type stands in more than 200 others
  abbrev pub at_type : (number : ℕ) → (closes : Bool) → List Begun → Option TypeWord → Result State Fault
  at_type number closes begun None = if closes then closed number begun else Err (Unreadable number)
  at_type number closes begun (Some w) = if nat_lt 200 (length begun) then Err TooDeep else Ok (begin begun w)

  -- what has been read with the next word, of this number
  abbrev pub next : (number : ℕ) → List Begun → (word : List ℕ) → Want → Result State Fault
  next number begun w want.Tree = at_type number (bytes_eq w (codes ")")) begun (type_word w)
  next number begun w (want.Scalar place) = at_scalar number place begun (scalar_word w)
  next number begun w (want.Primitive shape place) = at_primitive number shape place begun (scalar_word w)
  next number begun w (want.Space shape place) = at_space number shape place begun (number_of_bits 32 w)
  next number begun w (want.RangeStart p place) = at_start number p place begun (number_of_bits 128 w)
  next number begun w (want.RangeEnd p n place) = at_end number p n place begun (number_of_bits 128 w)
  next number begun w want.Count = at_count number begun (number_of_bits 64 w)
  next number begun w (want.Lanes packed) = at_lanes number packed begun (number_of_bits 64 w)
  next number begun w want.Repr = at_repr number begun (struct_repr w)
  next number begun w want.UnionRepr = at_union_repr number begun (union_repr w)
  next number begun w want.EnumRepr = at_enum_repr number begun (union_repr w)
  next number begun w (want.Opening asked) = at_opening number asked begun (bytes_eq w (codes "("))
  next number begun w (want.UnionOpening repr) = at_union_opening number repr begun (bytes_eq w (codes "("))
  next number begun w (want.EnumOpening repr) = at_enum_opening number repr begun (bytes_eq w (codes "("))
  next number begun w want.Discriminant = at_discriminant number (bytes_eq w (codes ")")) begun (discriminant_in w)
  next number begun w (want.VariantOpening d) = at_variant_opening number d begun (bytes_eq w (codes "("))
  next number begun w (want.Coroutine next_part) = next_in_coroutine number begun w next_part
  next number begun w (want.Order next_part) = next_in_order number begun w next_part
  next number begun w want.End = Err (Unreadable number)

  -- what has been read with one word more
  abbrev pub step : (number : ℕ) → State → (word : List ℕ) → Result State Fault
  step number state w = next number state.begun w state.want

-- the type, where no word of it is missing
abbrev pub finished : (number : ℕ) → Option Tree → Result Tree Fault
finished number None = Err (Unreadable number)
finished number (Some t) = Ok t

-- what follows, where there was no fault
abbrev pub on_ok : {A B E : Type 0} → Result A E → (A → Result B E) → Result B E
on_ok (Ok a) f = f a
on_ok (Err e) f = Err e

-- the words from this number on
abbrev pub read_from : TargetDataLayout → (number : ℕ) → State → List (List ℕ) → Result Tree Fault
read_from dl number state [] = finished number state.tree
read_from dl number state (w ∷ ws) = on_ok (step dl number state w) (λ more. read_from dl (number + 1) more ws)

-- the type that the words write
abbrev pub read : TargetDataLayout → List (List ℕ) → Result Tree Fault
read dl ws = read_from dl 1 start ws

-- what the program keeps of a variant
abbrev pub variant_by : ℕ × Vec TypeTree Global → ℕ × List Tree
variant_by v = (v.0, map tree_of v.1.items)

-- what the program keeps of a coroutine's state
abbrev pub indices_by : Vec ℕ Global → List ℕ
indices_by s = s.items

-- what the program keeps of a coroutine that is begun
abbrev pub parts_by : CoroutineParts → PartsBegun
parts_by (open_parts.Prefix ps) = in_prefix (map tree_of ps.items)
parts_by (open_parts.Locals ps ls) = in_locals (map tree_of ps.items) (map tree_of ls.items)
parts_by (open_parts.States ps ls ss) = between_states (map tree_of ps.items) (map tree_of ls.items) (map indices_by ss.items)
parts_by (open_parts.State ps ls ss s) = in_state (map tree_of ps.items) (map tree_of ls.items) (map indices_by ss.items) s.items
parts_by (open_parts.Conflicts ps ls ss cs) = in_conflicts (map tree_of ps.items) (map tree_of ls.items) (map indices_by ss.items) cs.items

-- what the program keeps of a type that is begun
abbrev pub begun_by : Open → Begun
begun_by (open_type.Elements count) = elements count
begun_by (open_type.Lanes count packed) = lanes count packed
begun_by (open_type.Fields asked ts) = fields asked (map tree_of ts.items)
begun_by (open_type.Ordering asked is) = ordering asked is.items
begun_by (open_type.Ordered asked is ts) = ordered asked is.items (map tree_of ts.items)
begun_by (open_type.Members repr ts) = members repr (map tree_of ts.items)
begun_by (open_type.Variants repr vs) = variants_so_far repr (map variant_by vs.items)
begun_by (open_type.Variant repr vs d ts) = variant repr (map variant_by vs.items) d (map tree_of ts.items)
begun_by (open_type.Coroutine parts) = coroutine_with (parts_by parts)

-- the types that are begun, as the definitions see them
abbrev pub begun_in : List Open → List Begun
begun_in all = reverse (map begun_by all)

-- the answer, want of memory aside: the value that the other has, or its fault
abbrev pub Agrees : {A B : Type 0} → (A → B) → Result B Fault → Result A Fault → Type 0
Agrees view answer (Ok a) = answer ≡ Ok (view a)
Agrees view answer (Err fault) = (answer ≡ Err fault) ⊎ (fault ≡ OutOfMemory)

-- the whole type that the program has, where nothing comes next
abbrev pub whole_by : Want → Option TypeTree → Option Tree
whole_by want.End tree = option_map tree_of tree
whole_by _ tree = None

-- what the program's reader has read
abbrev pub state_of : Reader → State
state_of reader = record { want = reader.want; begun = begun_in reader.begun.items; tree = whole_by reader.want reader.tree }
