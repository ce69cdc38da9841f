-- Which fields a struct of C can have.
use Rattle.std.specs.Prelude.{ℕ, ◌+◌, ◌==◌, Option, None, Some, if◌then◌else◌}
use Rattle.abi_scalar.specs.declared.repr.ReprOptions.{ReprOptions}
use Rattle.abi_scalar.specs.Repr.{is_c}
use Rattle.abi_tree.specs.Tree.{Tree, scalar, pair, never, unit, array, vector, struct, union, enum, coroutine, Trees, no_trees, more_trees, Variants, no_variants, more_variants}
use Rattle.guarantees.specs.declared.binding_generator.fields.CFault.{CFault}
use Rattle.guarantees.specs.declared.binding_generator.fields.CFault.TheVariants.{NoSize, NoValue, NoOrder, NoType}

-- a type whose parts lie as Rust likes is none of C's: under `repr(C)` they lie as C has them
abbrev pub order_fault : ReprOptions → Option CFault
order_fault repr = if is_c repr then None else Some NoOrder

-- of so many fields: in C there is one at least
abbrev pub list_fault : ReprOptions → (count : ℕ) → Option CFault
list_fault repr count = if count == 0 then Some NoSize else order_fault repr

-- of so many variants: an enum without one has no value
abbrev pub c_enum_fault : ReprOptions → (count : ℕ) → Option CFault
c_enum_fault repr count = if count == 0 then Some NoValue else order_fault repr

-- how many trees there are
abbrev pub tree_count : Trees → ℕ
tree_count no_trees = 0
tree_count (more_trees t ts) = tree_count ts + 1

-- how many variants there are
abbrev pub variants_count : Variants → ℕ
variants_count no_variants = 0
variants_count (more_variants discriminant fields others) = variants_count others + 1

-- why C has no field of this type, if it has none; whether C has the fields of a struct or a union is asked of these by themselves
abbrev pub field_fault : Tree → Option CFault
field_fault (scalar s) = None
field_fault (pair a b) = Some NoType
field_fault never = Some NoValue
field_fault unit = Some NoSize
field_fault (array count element) = if count == 0 then Some NoSize else field_fault element
field_fault (vector lanes packed element) = Some NoType
field_fault (struct repr always_sized None fields) = list_fault repr (tree_count fields)
field_fault (struct repr always_sized (Some order) fields) = Some NoOrder
field_fault (union repr fields) = list_fault repr (tree_count fields)
field_fault (enum repr all) = c_enum_fault repr (variants_count all)
field_fault (coroutine prefix locals states conflicts) = Some NoType

-- the field with this index and why C hasn't it, or what is said of the later ones
abbrev pub fault_or : (index : ℕ) → Option CFault → (later : Option (ℕ × CFault)) → Option (ℕ × CFault)
fault_or i None later = later
fault_or i (Some fault) later = Some (i, fault)

-- the first of these fields that C hasn't, by its index, counted from this one, and why
abbrev pub first_fault : (index : ℕ) → Trees → Option (ℕ × CFault)
first_fault i no_trees = None
first_fault i (more_trees t ts) = fault_or i (field_fault t) (first_fault (i + 1) ts)
