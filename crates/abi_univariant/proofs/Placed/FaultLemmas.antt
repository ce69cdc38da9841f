-- Faults of lists.
use Rattle.std.proofs.Common.{◌≡◌, ℕ, ◌+◌, ◌<◌, ◌≤◌, Bool, true, false, List, [], ◌∷◌, Option, None, Some, refl, ap, subst, ◌∙◌, arith, nat_lt, get_or}
use Rattle.std.specs.Prelude.{All, if◌then◌else◌, ◌&&◌, not}
use Rattle.std.proofs.lemmas.Bool.Decides.{nat_tests}
use Rattle.std.proofs.lemmas.List.Elements.{All-head, All-tail, All-nil, All-cons}
use Rattle.abi_univariant.specs.declared.part.Part.{Part}
use Rattle.abi_univariant.specs.declared.fields_repr.FieldsRepr.{FieldsRepr}
use Rattle.abi_univariant.specs.declared.placing.FieldsFault.{FieldsFault}
use Rattle.abi_univariant.specs.declared.placing.FieldsFault.TheVariants.{Unsized, TooLarge, OutOfMemory}
use Rattle.abi_univariant.specs.Fault.{fault_from, fault_in, fault_or_size, is_empty, is_maybe_unsized}
use Rattle.abi_univariant.specs.Part.{is_unsized}
use Rattle.abi_univariant.specs.Placement.{end_from, in_order, no_part, place_of, size_in, start_of}
use Rattle.abi_univariant.proofs.Offsets.Ends.{end_from-above}
use Rattle.abi_univariant.proofs.Sorted.Least.{end_too_large}

-- the field's size is known beforehand
abbrev pub IsSizedAt : List Part → ℕ → Type 0
IsSizedAt parts i = is_unsized (get_or parts i no_part).view ≡ false

end_above : (repr : FieldsRepr) (from : ℕ) (ps : List Part) → from ≤ end_from repr.pack from ps
end_above repr from ps = omega (arith, end_from-above repr.pack from ps)

-- ---- one field

none_sized : (u m below last : Bool) (i : ℕ) (rest : Option FieldsFault) → (if u && not m then Some (Unsized i) else (if not below then Some TooLarge else (if u && not last then Some (Unsized i) else rest))) ≡ None → m ≡ false → (u ≡ false) × (rest ≡ None)
none_sized true true below last i rest e f = cc
none_sized true false below last i rest e f = cc
none_sized false m true last i rest e f = (refl, e)
none_sized false m false last i rest e f = cc

large_cases : (u m below last : Bool) (i : ℕ) (rest : Option FieldsFault) → (if u && not m then Some (Unsized i) else (if not below then Some TooLarge else (if u && not last then Some (Unsized i) else rest))) ≡ Some TooLarge
    → (P : Type 0) → (below ≡ false → P) → (rest ≡ Some TooLarge → P) → P
large_cases true false below last i rest e P f g = cc
large_cases true true false last i rest e P f g = f refl
large_cases true true true false i rest e P f g = cc
large_cases true true true true i rest e P f g = g e
large_cases false m false last i rest e P f g = f refl
large_cases false m true last i rest e P f g = g e

unsized_cases : (u m below last : Bool) (i j : ℕ) (rest : Option FieldsFault) → (if u && not m then Some (Unsized i) else (if not below then Some TooLarge else (if u && not last then Some (Unsized i) else rest))) ≡ Some (Unsized j)
    → (P : Type 0) → (u ≡ true → i ≡ j → P) → (rest ≡ Some (Unsized j) → P) → P
unsized_cases true false below last i j rest e P f g = f refl (cc)
unsized_cases true true false last i j rest e P f g = cc
unsized_cases true true true false i j rest e P f g = f refl (cc)
unsized_cases true true true true i j rest e P f g = g e
unsized_cases false m false last i j rest e P f g = cc
unsized_cases false m true last i j rest e P f g = g e

memory_cases : (u m below last : Bool) (i : ℕ) (rest : Option FieldsFault) → (if u && not m then Some (Unsized i) else (if not below then Some TooLarge else (if u && not last then Some (Unsized i) else rest))) ≡ Some OutOfMemory
    → rest ≡ Some OutOfMemory
memory_cases true false below last i rest e = cc
memory_cases true true false last i rest e = cc
memory_cases true true true false i rest e = cc
memory_cases true true true true i rest e = e
memory_cases false m false last i rest e = cc
memory_cases false m true last i rest e = e

-- ---- all fields

-- a list of sized fields without a fault has sized fields
pub sized_of_faultless : (repr : FieldsRepr) (bound : ℕ) (parts : List Part) (from : ℕ) (order : List ℕ) → fault_from repr bound parts from order ≡ None → is_maybe_unsized repr.kind ≡ false
    → All (IsSizedAt parts) order
sized_of_faultless repr bound parts from [] e m = All-nil (IsSizedAt parts)
sized_of_faultless repr bound parts from (i ∷ is) e m =
    let part = get_or parts i no_part in
    let end = place_of repr.pack from (get_or parts i no_part) + (get_or parts i no_part).size in
    let h = none_sized (is_unsized (get_or parts i no_part).view) (is_maybe_unsized repr.kind) (nat_lt end bound) (is_empty is) i (fault_from repr bound parts end is) e m in
    All-cons (IsSizedAt parts) i is h.0 (sized_of_faultless repr bound parts end is h.1 m)

none_where : (u m below last : Bool) (i : ℕ) (rest : Option FieldsFault) → u ≡ false → below ≡ true → rest ≡ None
    → (if u && not m then Some (Unsized i) else (if not below then Some TooLarge else (if u && not last then Some (Unsized i) else rest))) ≡ None
none_where u m below last i rest a b c = rw (a, b) c

pub faultless_of_sized : (repr : FieldsRepr) (bound : ℕ) (parts : List Part) (from : ℕ) (order : List ℕ) → All (IsSizedAt parts) order → end_from repr.pack from (in_order parts order) < bound
    → fault_from repr bound parts from order ≡ None
faultless_of_sized repr bound parts from [] sized small = refl
faultless_of_sized repr bound parts from (i ∷ is) sized small =
    let end = place_of repr.pack from (get_or parts i no_part) + (get_or parts i no_part).size in
    let above : end ≤ end_from repr.pack end (in_order parts is) = end_above repr end (in_order parts is) in
    let short : nat_lt end bound ≡ true = grind (arith, nat_tests) in
    none_where (is_unsized (get_or parts i no_part).view) (is_maybe_unsized repr.kind) (nat_lt end bound) (is_empty is) i (fault_from repr bound parts end is)
    (All-head (IsSizedAt parts) i is sized) short (faultless_of_sized repr bound parts end is (All-tail (IsSizedAt parts) i is sized) small)

pub large_of_fault : (repr : FieldsRepr) (bound : ℕ) (parts : List Part) (from : ℕ) (order : List ℕ) → fault_from repr bound parts from order ≡ Some TooLarge → bound ≤ end_from repr.pack from (in_order parts order)
large_of_fault repr bound parts from [] e = cc
large_of_fault repr bound parts from (i ∷ is) e =
    let end = place_of repr.pack from (get_or parts i no_part) + (get_or parts i no_part).size in
    let above : end ≤ end_from repr.pack end (in_order parts is) = end_above repr end (in_order parts is) in
    large_cases (is_unsized (get_or parts i no_part).view) (is_maybe_unsized repr.kind) (nat_lt end bound) (is_empty is) i (fault_from repr bound parts end is) e
    (bound ≤ end_from repr.pack end (in_order parts is))
    (λ no_test. let over : bound ≤ end = grind (arith, nat_tests) in omega arith)
    (λ rest. large_of_fault repr bound parts end is rest)

pub unsized_of_fault : (repr : FieldsRepr) (bound : ℕ) (parts : List Part) (from : ℕ) (order : List ℕ) (P : ℕ → Type 0) (j : ℕ) → fault_from repr bound parts from order ≡ Some (Unsized j) → All P order
    → P j × (is_unsized (get_or parts j no_part).view ≡ true)
unsized_of_fault repr bound parts from [] P j e all = cc
unsized_of_fault repr bound parts from (i ∷ is) P j e all =
    let end = place_of repr.pack from (get_or parts i no_part) + (get_or parts i no_part).size in
    unsized_cases (is_unsized (get_or parts i no_part).view) (is_maybe_unsized repr.kind) (nat_lt end bound) (is_empty is) i j (fault_from repr bound parts end is) e
    (P j × (is_unsized (get_or parts j no_part).view ≡ true))
    (λ u same. (subst P same (All-head P i is all), subst (λ x. is_unsized (get_or parts x no_part).view ≡ true) same u))
    (λ rest. unsized_of_fault repr bound parts end is P j rest (All-tail P i is all))

pub no_memory_fault : (repr : FieldsRepr) (bound : ℕ) (parts : List Part) (from : ℕ) (order : List ℕ) → fault_from repr bound parts from order ≡ Some OutOfMemory → ⊥
no_memory_fault repr bound parts from [] e = cc
no_memory_fault repr bound parts from (i ∷ is) e =
    let end = place_of repr.pack from (get_or parts i no_part) + (get_or parts i no_part).size in
    no_memory_fault repr bound parts end is (memory_cases (is_unsized (get_or parts i no_part).view) (is_maybe_unsized repr.kind) (nat_lt end bound) (is_empty is) i (fault_from repr bound parts end is) e)

-- ---- with the size

pub fault_in-none : (repr : FieldsRepr) (bound : ℕ) (parts : List Part) (order : List ℕ) → fault_from repr bound parts (start_of repr.pack repr.kind) order ≡ None → size_in repr parts order < bound → fault_in repr bound parts order ≡ None
fault_in-none repr bound parts order e small =
    let below : nat_lt (size_in repr parts order) bound ≡ true = grind (arith, nat_tests) in
    ap (fault_or_size repr bound parts order) e ∙ rw below refl

-- without a fault, no field has one, and the size is below the bound
clear_cases : (repr : FieldsRepr) (bound : ℕ) (parts : List Part) (order : List ℕ) (found : Option FieldsFault) (below : Bool) → nat_lt (size_in repr parts order) bound ≡ below → fault_or_size repr bound parts order found ≡ None
    → (found ≡ None) × (size_in repr parts order < bound)
clear_cases repr bound parts order (Some f) below t e = cc
clear_cases repr bound parts order None true t e = (refl, grind (arith, nat_tests))
clear_cases repr bound parts order None false t e = let bad : Some TooLarge ≡ None = rw t at e in cc

pub clear_of : (repr : FieldsRepr) (bound : ℕ) (parts : List Part) (order : List ℕ) → fault_in repr bound parts order ≡ None
    → (fault_from repr bound parts (start_of repr.pack repr.kind) order ≡ None) × (size_in repr parts order < bound)
clear_of repr bound parts order e = clear_cases repr bound parts order (fault_from repr bound parts (start_of repr.pack repr.kind) order) (nat_lt (size_in repr parts order) bound) refl e

large_in_cases : (repr : FieldsRepr) (bound : ℕ) (parts : List Part) (order : List ℕ) (found : Option FieldsFault) (below : Bool) → nat_lt (size_in repr parts order) bound ≡ below → fault_or_size repr bound parts order found ≡ Some TooLarge
    → (found ≡ Some TooLarge → bound ≤ size_in repr parts order) → bound ≤ size_in repr parts order
large_in_cases repr bound parts order (Some f) below t e more = more e
large_in_cases repr bound parts order None true t e more = let bad : None ≡ Some TooLarge = rw t at e in cc
large_in_cases repr bound parts order None false t e more = grind (arith, nat_tests)

-- a list that is too large in an order is so by its size
pub large_in : (repr : FieldsRepr) (bound : ℕ) (parts : List Part) (order : List ℕ) → fault_in repr bound parts order ≡ Some TooLarge → bound ≤ size_in repr parts order
large_in repr bound parts order e =
    large_in_cases repr bound parts order (fault_from repr bound parts (start_of repr.pack repr.kind) order) (nat_lt (size_in repr parts order) bound) refl e
    (λ f. end_too_large repr parts order bound (large_of_fault repr bound parts (start_of repr.pack repr.kind) order f))

other_in_cases : (repr : FieldsRepr) (bound : ℕ) (parts : List Part) (order : List ℕ) (found : Option FieldsFault) (fault : FieldsFault) (below : Bool) → nat_lt (size_in repr parts order) bound ≡ below → fault_or_size repr bound parts order found ≡ Some fault
    → (fault ≡ TooLarge → ⊥) → found ≡ Some fault
other_in_cases repr bound parts order (Some f) fault below t e other = e
other_in_cases repr bound parts order None fault true t e other = let bad : None ≡ Some fault = rw t at e in cc
other_in_cases repr bound parts order None fault false t e other = let same : Some TooLarge ≡ Some fault = rw t at e in absurd (other (cc))

-- an unsized field of a fault is one of the order, and unsized
pub unsized_in : (repr : FieldsRepr) (bound : ℕ) (parts : List Part) (order : List ℕ) (P : ℕ → Type 0) (j : ℕ) → fault_in repr bound parts order ≡ Some (Unsized j) → All P order
    → P j × (is_unsized (get_or parts j no_part).view ≡ true)
unsized_in repr bound parts order P j e all =
    unsized_of_fault repr bound parts (start_of repr.pack repr.kind) order P j
    (other_in_cases repr bound parts order (fault_from repr bound parts (start_of repr.pack repr.kind) order) (Unsized j) (nat_lt (size_in repr parts order) bound) refl e (λ w. cc)) all

pub memory_in : (repr : FieldsRepr) (bound : ℕ) (parts : List Part) (order : List ℕ) → fault_in repr bound parts order ≡ Some OutOfMemory → ⊥
memory_in repr bound parts order e =
    no_memory_fault repr bound parts (start_of repr.pack repr.kind) order
    (other_in_cases repr bound parts order (fault_from repr bound parts (start_of repr.pack repr.kind) order) OutOfMemory (nat_lt (size_in repr parts order) bound) refl e (λ w. cc))
