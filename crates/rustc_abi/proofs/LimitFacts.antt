-- Worked facts: lists of as many items as an index can name, and of one more. No test can make them.
use Rattle.std.proofs.Common.{◌≡◌, ℕ, zero, suc, Bool, List, [], ◌∷◌, false, true, length, ap, refl, ◌∙◌, None, Some}
use Rattle.std.proofs.lemmas.List.{length-replicate}
use Rattle.std.specs.Prelude.{nat_le, nat_lt, not, replicate, ◌||◌, if◌then◌else◌}
use Rattle.std.specs.List.{list_all, list_any}
use Rattle.abi_base.specs.declared.data_layout.TargetDataLayout.{TargetDataLayout}
use Rattle.abi_calc.specs.Coroutine.Lists.{default_repr}
use Rattle.abi_tree.specs.Placed.{Placed}
use Rattle.rustc_abi.specs.declared.error.LayError.TheVariants.{BadIndex, DiscriminantTooWide, DuplicateDiscriminant, LocalTwice, NoState}
use Rattle.rustc_abi.specs.Coroutines.{names_unknown}
use Rattle.rustc_abi.specs.Enums.{has_equal, is_discriminant}
use Rattle.rustc_abi.specs.Laying.{most_fields, fields_fault, enum_fault, coroutine_fault, has_bad_index}

-- one item more than an index can name
abbrev one_more : ℕ
one_more = 0xFFFF_FF02

-- what doesn't hold of an item holds of no copy of it
none_of : {A : Type 0} (test : A → Bool) (n : ℕ) (x : A) → test x ≡ false → list_any test (replicate n x) ≡ false
none_of test zero x not_it = refl
none_of test (suc n) x not_it = ap (λ b. b || list_any test (replicate n x)) not_it ∙ none_of test n x not_it

abbrev is_long : {A : Type 0} → List A → Bool
is_long xs = nat_lt most_fields (length xs)

-- so many empty lists have a bad index where they are too many, and a list of so many copies where these are
many_lists : (A : Type 0) (n : ℕ) → has_bad_index {A = A} (replicate n []) ≡ (nat_lt most_fields n || false)
many_lists A n =
    ap (λ count. nat_lt most_fields count || list_any {X = List A} is_long (replicate n [])) (length-replicate {A = List A} n [])
    ∙ ap (λ b. nat_lt most_fields n || b) (none_of {A = List A} is_long n [] refl)

long_list : {A : Type 0} (n : ℕ) (x : A) → has_bad_index (replicate n x ∷ []) ≡ (nat_lt most_fields n || false)
long_list n x = ap (λ count. nat_lt most_fields count || false) (length-replicate n x)

-- ---- fields of a struct or a union

fields_by : (n : ℕ) (p : Placed) →
    fields_fault default_repr (replicate n p) ≡ (if nat_lt most_fields n then Some BadIndex else None)
fields_by n p = ap (λ count. if nat_lt most_fields count then Some BadIndex else None) (length-replicate n p)

fields_fit : (p : Placed) → fields_fault default_repr (replicate most_fields p) ≡ None
fields_fit p = fields_by most_fields p

one_field_more : (p : Placed) → fields_fault default_repr (replicate one_more p) ≡ Some BadIndex
one_field_more p = fields_by one_more p

-- ---- variants of an enum, and the fields of one

-- the discriminants differ, and are of their type
abbrev AreDiscriminants : TargetDataLayout → (numbers : List ℕ) → Type 0
AreDiscriminants dl numbers = (has_equal numbers ≡ false) × (list_all (is_discriminant dl default_repr) numbers ≡ true)

enum_by : (dl : TargetDataLayout) (numbers : List ℕ) (variants : List (List Placed)) (long : Bool)
    → has_bad_index variants ≡ long → AreDiscriminants dl numbers
    → enum_fault dl default_repr numbers variants ≡ (if long then Some BadIndex else None)
enum_by dl numbers variants long are (differ, lie) =
    ap (λ b. if b then Some BadIndex else (if has_equal numbers then Some DuplicateDiscriminant
    else (if not (list_all (is_discriminant dl default_repr) numbers) then Some DiscriminantTooWide else None))) are
    ∙ ap (λ b. if long then Some BadIndex else (if b then Some DuplicateDiscriminant
    else (if not (list_all (is_discriminant dl default_repr) numbers) then Some DiscriminantTooWide else None))) differ
    ∙ ap (λ b. if long then Some BadIndex else (if not b then Some DiscriminantTooWide else None)) lie

variants_fit : (dl : TargetDataLayout) (numbers : List ℕ) → AreDiscriminants dl numbers
    → enum_fault dl default_repr numbers (replicate most_fields []) ≡ None
variants_fit dl numbers are = enum_by dl numbers (replicate most_fields []) false (many_lists Placed most_fields) are

one_variant_more : (dl : TargetDataLayout) (numbers : List ℕ) → AreDiscriminants dl numbers
    → enum_fault dl default_repr numbers (replicate one_more []) ≡ Some BadIndex
one_variant_more dl numbers are = enum_by dl numbers (replicate one_more []) true (many_lists Placed one_more) are

variant_fits : (dl : TargetDataLayout) (numbers : List ℕ) (p : Placed) → AreDiscriminants dl numbers
    → enum_fault dl default_repr numbers (replicate most_fields p ∷ []) ≡ None
variant_fits dl numbers p are = enum_by dl numbers (replicate most_fields p ∷ []) false (long_list most_fields p) are

one_more_in_variant : (dl : TargetDataLayout) (numbers : List ℕ) (p : Placed) → AreDiscriminants dl numbers
    → enum_fault dl default_repr numbers (replicate one_more p ∷ []) ≡ Some BadIndex
one_more_in_variant dl numbers p are = enum_by dl numbers (replicate one_more p ∷ []) true (long_list one_more p) are

-- ---- prefix fields, the tag and the locals of a coroutine together; its states, and the locals of one

together_by : (n : ℕ) (p : Placed) →
    coroutine_fault (length (replicate n p)) 0 ([] ∷ []) [] ≡ coroutine_fault n 0 ([] ∷ []) []
together_by n p = ap (λ count. coroutine_fault count 0 ([] ∷ []) []) (length-replicate n p)

prefix_fits : (p : Placed) → coroutine_fault (length (replicate 0xFFFF_FF00 p)) 0 ([] ∷ []) [] ≡ None
prefix_fits p = together_by 0xFFFF_FF00 p

one_more_in_prefix : (p : Placed) → coroutine_fault (length (replicate most_fields p)) 0 ([] ∷ []) [] ≡ Some BadIndex
one_more_in_prefix p = together_by most_fields p

locals_fit : (p : Placed) → coroutine_fault 0 (length (replicate 0xFFFF_FF00 p)) ([] ∷ []) [] ≡ None
locals_fit p = ap (λ count. coroutine_fault 0 count ([] ∷ []) []) (length-replicate 0xFFFF_FF00 p)

one_local_more : (p : Placed) → coroutine_fault 0 (length (replicate most_fields p)) ([] ∷ []) [] ≡ Some BadIndex
one_local_more p = ap (λ count. coroutine_fault 0 count ([] ∷ []) []) (length-replicate most_fields p)

states_by : (n : ℕ) → coroutine_fault 0 0 (replicate n []) []
    ≡ (if nat_lt most_fields n || false then Some BadIndex else (if nat_lt n 1 then Some NoState else None))
states_by n =
    let states : List (List ℕ) = replicate n [] in
    ap (λ b. if b then Some BadIndex else (if nat_lt (length states) 1 then Some NoState
    else (if names_unknown 0 states [] then Some BadIndex else (if list_any has_equal states then Some LocalTwice else None))))
    (many_lists ℕ n)
    ∙ ap (λ count. if nat_lt most_fields n || false then Some BadIndex else (if nat_lt count 1 then Some NoState
    else (if names_unknown 0 states [] then Some BadIndex else (if list_any has_equal states then Some LocalTwice else None))))
    (length-replicate {A = List ℕ} n [])
    ∙ ap (λ b. if nat_lt most_fields n || false then Some BadIndex else (if nat_lt n 1 then Some NoState
    else (if b || false then Some BadIndex else (if list_any has_equal states then Some LocalTwice else None))))
    (none_of (list_any (nat_le 0)) n [] refl)
    ∙ ap (λ b. if nat_lt most_fields n || false then Some BadIndex else (if nat_lt n 1 then Some NoState
    else (if b then Some LocalTwice else None)))
    (none_of has_equal n [] refl)

states_fit : coroutine_fault 0 0 (replicate most_fields []) [] ≡ None
states_fit = states_by most_fields

one_state_more : coroutine_fault 0 0 (replicate one_more []) [] ≡ Some BadIndex
one_state_more = states_by one_more

-- a state that names one local so often names it twice, unless that is too often
state_by : (n : ℕ) → coroutine_fault 0 1 (replicate n 0 ∷ []) []
    ≡ (if nat_lt most_fields n || false then Some BadIndex
    else (if has_equal (replicate n 0) || false then Some LocalTwice else None))
state_by n =
    ap (λ b. if b then Some BadIndex else (if names_unknown 1 (replicate n 0 ∷ []) [] then Some BadIndex
    else (if has_equal (replicate n 0) || false then Some LocalTwice else None)))
    (long_list n 0)
    ∙ ap (λ b. if nat_lt most_fields n || false then Some BadIndex else (if (b || false) || false then Some BadIndex
    else (if has_equal (replicate n 0) || false then Some LocalTwice else None)))
    (none_of (nat_le 1) n 0 refl)

state_fits : coroutine_fault 0 1 (replicate most_fields 0 ∷ []) [] ≡ Some LocalTwice
state_fits = state_by most_fields

one_more_in_state : coroutine_fault 0 1 (replicate one_more 0 ∷ []) [] ≡ Some BadIndex
one_more_in_state = state_by one_more
