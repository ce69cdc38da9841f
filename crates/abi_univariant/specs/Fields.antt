-- What a type takes over from all of its fields together, be it a list or a union.
use Rattle.std.specs.Prelude.{ℕ, ◌+◌, ◌%◌, ◌^◌, Bool, List, [], ◌∷◌, ◌&&◌, ◌||◌, map, max, sum_by, Option, Some, None}
use Rattle.std.specs.List.{list_any}
use Rattle.abi_scalar.specs.declared.layout_data.LayoutData.{LayoutData}
use Rattle.abi_scalar.specs.declared.repr.ReprOptions.{ReprOptions}
use Rattle.abi_scalar.specs.Repr.{is_c, is_transparent}

-- the greatest of some numbers, 0 where there is none
abbrev pub greatest : List ℕ → ℕ
greatest [] = 0
greatest (n ∷ ns) = max n (greatest ns)

-- the greatest of the fields' sizes
abbrev pub greatest_size : {F V : Type 0} → List (LayoutData F V) → ℕ
greatest_size fields = greatest (map (λ f. f.size) fields)

-- the greatest of the fields' alignments and this one, as exponents of two
abbrev pub greatest_align : {F V : Type 0} → (own : ℕ) → List (LayoutData F V) → ℕ
greatest_align own fields = max own (greatest (map (λ f. f.align.abi) fields))

-- the same of the alignments before `repr(align)` raised them
abbrev pub greatest_unadjusted : {F V : Type 0} → (own : ℕ) → List (LayoutData F V) → ℕ
greatest_unadjusted own fields = max own (greatest (map (λ f. f.unadjusted_abi_align) fields))

-- the greater of two alignments, where there are any
abbrev pub greater_of : Option ℕ → Option ℕ → Option ℕ
greater_of None b = b
greater_of (Some a) None = Some a
greater_of (Some a) (Some b) = Some (max a b)

-- the greatest alignment that a `repr(align)` in the fields asks for
abbrev pub greatest_asked : {F V : Type 0} → List (LayoutData F V) → Option ℕ
greatest_asked [] = None
greatest_asked (f ∷ fs) = greater_of f.max_repr_align (greatest_asked fs)

-- the greatest alignment that a `repr(align)` asks for, this one or one in the fields
abbrev pub greatest_repr_align : {F V : Type 0} → (own : Option ℕ) → List (LayoutData F V) → Option ℕ
greatest_repr_align own fields = greater_of own (greatest_asked fields)

-- the type lies as `repr(C)` has it: it asks for that, or is transparent and some field lies so
abbrev pub lies_as_in_c : {F V : Type 0} → ReprOptions → List (LayoutData F V) → Bool
lies_as_in_c repr fields = is_c repr || (is_transparent repr && list_any (λ f. f.repr_c) fields)

-- the sum of the fields' seeds and the type's own
abbrev pub seed_with : {F V : Type 0} → (own : ℕ) → List (LayoutData F V) → ℕ
seed_with own fields = (sum_by (λ f. f.randomization_seed) fields + own) % 2 ^ 64
