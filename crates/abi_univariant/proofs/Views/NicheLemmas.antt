-- Niches of lists: the greatest of them, and what holds of it.
use Rattle.std.proofs.Common.{◌≡◌, ℕ, ◌+◌, ◌^◌, ◌<◌, ◌≤◌, Bool, true, false, List, [], ◌∷◌, length, map, zero, suc, get_or, Option, Some, None, refl, sym, ◌∙◌, arith, inl, inr, max, subst, ⊎_elim}
use Rattle.std.specs.Prelude.{All, IfSome, nat_lt, if◌then◌else◌}
use Rattle.std.proofs.lemmas.Bool.Decides.{nat_tests}
use Rattle.std.proofs.lemmas.Bool.{cases_lt}
use Rattle.std.proofs.lemmas.List.Elements.{All-cons, All-head, All-nil, All-tail}
use Rattle.abi_base.specs.declared.data_layout.TargetDataLayout.{TargetDataLayout}
use Rattle.abi_base.specs.declared.integer.Integer.TheVariants.{I8, I16, I32, I64, I128}
use Rattle.abi_base.specs.declared.float.Float.TheVariants as float
use Rattle.abi_base.specs.declared.primitive.Primitive.{Primitive}
use Rattle.abi_base.specs.declared.primitive.Primitive.TheVariants.{Int, Float as OfFloat, Pointer}
use Rattle.abi_base.specs.Primitive.{primitive_size, IsLawfulPrimitive, KnowsPrimitive}
use Rattle.abi_scalar.specs.declared.niche.Niche.{Niche}
use Rattle.abi_scalar.specs.declared.layout_data.LayoutData.{LayoutData}
use Rattle.abi_scalar.specs.Lawful.{IsLawfulLayout, IsLawfulNiche}
use Rattle.abi_scalar.specs.Niche.{IsWellFormedNiche, available_in, niche_size}
use Rattle.abi_scalar.specs.Range.{AreWithin}
use Rattle.abi_scalar.proofs.CountLemmas.{free_counted}
use Rattle.abi_scalar.proofs.RangeLemmas.{none_free}
use Rattle.abi_scalar.specs.Pair.{larger_niche}
use Rattle.abi_univariant.specs.declared.order.NicheBias.{NicheBias}
use Rattle.abi_univariant.specs.declared.order.NicheBias.TheVariants.{Start, End}
use Rattle.abi_univariant.specs.ListNiche.{HasLargestNiche, HasNoMoreFree, IsNicheAt, IsNicheOfPart, greater_niche, greatest_niche, niche_of_part}
use Rattle.abi_univariant.specs.declared.part.Part.{Part}
use Rattle.abi_univariant.specs.Part.{free_numbers, part_of, parts_of}
use Rattle.abi_univariant.specs.LawfulPart.{IsLawfulPart}
use Rattle.abi_univariant.specs.Placement.{no_part}

larger_by : (dl : TargetDataLayout) (x : Option Niche) (b : Bool) (y z : Niche) → larger_niche dl x (if b then Some z else Some y) ≡ (if b then larger_niche dl x (Some z) else larger_niche dl x (Some y))
larger_by dl x true y z = refl
larger_by dl x false y z = refl

larger_of : (dl : TargetDataLayout) (x : Option Niche) (b : Bool) (y z : Niche) → larger_niche dl (if b then Some z else Some y) x ≡ (if b then larger_niche dl (Some z) x else larger_niche dl (Some y) x)
larger_of dl x true y z = refl
larger_of dl x false y z = refl

-- choices between three by two tests
three : (ab bc ac : Bool) (a b c : Niche) → (ab ≡ true → bc ≡ true → ac ≡ true) → (ab ≡ false → bc ≡ false → ac ≡ false)
    → (if ab then (if bc then Some c else Some b) else (if ac then Some c else Some a)) ≡ (if bc then (if ac then Some c else Some a) else (if ab then Some b else Some a))
three true true true a b c up down = refl
three true true false a b c up down = cc (up refl refl)
three true false ac a b c up down = refl
three false true ac a b c up down = refl
three false false true a b c up down = cc (down refl refl)
three false false false a b c up down = refl

larger_three : (dl : TargetDataLayout) (a b c : Niche) → larger_niche dl (larger_niche dl (Some a) (Some b)) (Some c) ≡ larger_niche dl (Some a) (larger_niche dl (Some b) (Some c))
larger_three dl a b c =
    let m = available_in dl a in
    let n = available_in dl b in
    let k = available_in dl c in
    let up : nat_lt m n ≡ true → nat_lt n k ≡ true → nat_lt m k ≡ true = λ p q. grind (arith, nat_tests) in
    let down : nat_lt m n ≡ false → nat_lt n k ≡ false → nat_lt m k ≡ false = λ p q. grind (arith, nat_tests) in
    larger_of dl (Some c) (nat_lt m n) a b ∙ three (nat_lt m n) (nat_lt n k) (nat_lt m k) a b c up down ∙ sym (larger_by dl (Some a) (nat_lt n k) b c)

larger_none : (dl : TargetDataLayout) (x : Option Niche) → larger_niche dl x None ≡ x
larger_none dl None = refl
larger_none dl (Some a) = refl

larger_assoc : (dl : TargetDataLayout) (a b c : Option Niche) → larger_niche dl (larger_niche dl a b) c ≡ larger_niche dl a (larger_niche dl b c)
larger_assoc dl None b c = refl
larger_assoc dl (Some a) None c = refl
larger_assoc dl (Some a) (Some b) None = larger_none dl (larger_niche dl (Some a) (Some b))
larger_assoc dl (Some a) (Some b) (Some c) = larger_three dl a b c

pub greater_assoc : (bias : NicheBias) (dl : TargetDataLayout) (a b c : Option Niche) → greater_niche bias dl (greater_niche bias dl a b) c ≡ greater_niche bias dl a (greater_niche bias dl b c)
greater_assoc Start dl a b c = larger_assoc dl a b c
greater_assoc End dl a b c = sym (larger_assoc dl c b a)

pub greater_none : (bias : NicheBias) (dl : TargetDataLayout) (x : Option Niche) → greater_niche bias dl x None ≡ x
greater_none Start dl x = larger_none dl x
greater_none End dl x = refl

pub none_greater : (bias : NicheBias) (dl : TargetDataLayout) (x : Option Niche) → greater_niche bias dl None x ≡ x
none_greater Start dl x = refl
none_greater End dl x = larger_none dl x

-- ---- what holds of both niches holds of the greater

one_of : (b : Bool) {A : Type 0} (P : A → Type 0) (x y : A) → P x → P y → IfSome (if b then Some y else Some x) P
one_of true P x y hx hy = hy
one_of false P x y hx hy = hx

larger_has : (dl : TargetDataLayout) (P : Niche → Type 0) (x y : Option Niche) → IfSome x P → IfSome y P → IfSome (larger_niche dl x y) P
larger_has dl P None y hx hy = hy
larger_has dl P (Some a) None hx hy = hx
larger_has dl P (Some a) (Some b) hx hy = one_of (nat_lt (available_in dl a) (available_in dl b)) P a b hx hy

pub greater_has : (bias : NicheBias) (dl : TargetDataLayout) (P : Niche → Type 0) (x y : Option Niche) → IfSome x P → IfSome y P → IfSome (greater_niche bias dl x y) P
greater_has Start dl P x y hx hy = larger_has dl P x y hx hy
greater_has End dl P x y hx hy = larger_has dl P y x hy hx

-- ---- lawful niches can be asked for their numbers

pub readable_size : (dl : TargetDataLayout) (p : Primitive) → IsLawfulPrimitive dl p → KnowsPrimitive dl p × (1 ≤ primitive_size dl p) × (primitive_size dl p ≤ 16)
readable_size dl (Int I8 s) h = (tt, omega arith, omega arith)
readable_size dl (Int I16 s) h = (tt, omega arith, omega arith)
readable_size dl (Int I32 s) h = (tt, omega arith, omega arith)
readable_size dl (Int I64 s) h = (tt, omega arith, omega arith)
readable_size dl (Int I128 s) h = (tt, omega arith, omega arith)
readable_size dl (OfFloat float.F16) h = (tt, omega arith, omega arith)
readable_size dl (OfFloat float.F16B) h = (tt, omega arith, omega arith)
readable_size dl (OfFloat float.F32) h = (tt, omega arith, omega arith)
readable_size dl (OfFloat float.F64) h = (tt, omega arith, omega arith)
readable_size dl (OfFloat float.F128) h = (tt, omega arith, omega arith)
readable_size dl (OfFloat float.PpcF128) h = (tt, omega arith, omega arith)
readable_size dl (Pointer space) h = (h.0, h.1.some, h.1.most)

pub lawful_readable : (dl : TargetDataLayout) (size : ℕ) (niche : Option Niche) → IfSome niche (IsLawfulNiche dl size) → IfSome niche (IsWellFormedNiche dl)
lawful_readable dl size None h = tt
lawful_readable dl size (Some niche) h =
    let r = readable_size dl niche.value h.pointer in
    record { known = r.0; some = r.1; most = r.2; within = h.within }

-- ---- a part's niche in the whole

pub part_lawful : (dl : TargetDataLayout) (offset size whole : ℕ) (own : Option Niche) → IfSome own (IsLawfulNiche dl size) → offset + size ≤ whole
    → IfSome (niche_of_part offset own) (IsLawfulNiche dl whole)
part_lawful dl offset size whole None h inside = tt
part_lawful dl offset size whole (Some own) h inside =
    record { inside = omega (arith, h.inside); pointer = h.pointer; within = h.within; free = h.free }

pub part_fits : (dl : TargetDataLayout) (offset size : ℕ) (own : Option Niche) → IfSome own (IsLawfulNiche dl size) → offset + size < 2 ^ 64
    → IfSome own (λ niche. offset + niche.offset < 2 ^ 64)
part_fits dl offset size None h inside = tt
part_fits dl offset size (Some own) h inside = omega (arith, h.inside)

-- ---- free numbers that are counted once

-- So many free numbers are the niche's, and it has some where it is there.
pub record IsCounted (dl : TargetDataLayout) (free : ℕ) (niche : Option Niche) : Type 0 where
  pub count : free ≡ free_numbers dl niche
  pub some : IfSome niche (λ n. 1 ≤ available_in dl n)

some_free : (dl : TargetDataLayout) (size : ℕ) (niche : Niche) → IsLawfulNiche dl size niche → 1 ≤ available_in dl niche
some_free dl size niche h =
    ⊎_elim (λ (l : 0 < available_in dl niche). l)
    (λ (e : available_in dl niche ≤ 0). absurd (h.free.1.1 (none_free (niche_size dl niche) niche.valid_range h.free.0 h.within (omega (arith, e)) h.free.1.0)))
    (cases_lt 0 (available_in dl niche))

counted_own : (dl : TargetDataLayout) (offset size : ℕ) (own : Option Niche) → IfSome own (IsLawfulNiche dl size) → IsCounted dl (free_numbers dl own) (niche_of_part offset own)
counted_own dl offset size None h = record { count = refl; some = tt }
counted_own dl offset size (Some own) h = record { count = refl; some = some_free dl size own h }

pub counted_part : (dl : TargetDataLayout) (offset : ℕ) (part : Part) → IsLawfulPart dl part → IsCounted dl part.free (niche_of_part offset part.largest_niche)
counted_part dl offset part law = subst (λ n. IsCounted dl n (niche_of_part offset part.largest_niche)) (sym law.counted) (counted_own dl offset part.size part.largest_niche law.niche)

-- the first of equals is chosen by the counts
pub first_counted : (dl : TargetDataLayout) (m n : ℕ) (x y : Option Niche) → IsCounted dl m x → IsCounted dl n y → larger_niche dl x y ≡ (if nat_lt m n then y else x)
first_counted dl m n None None h k = rw (h.count, k.count) refl
first_counted dl m n None (Some b) h k =
    let more : nat_lt m n ≡ true = let low : m ≡ 0 = h.count in let high : n ≡ available_in dl b = k.count in let some : 1 ≤ available_in dl b = k.some in grind (arith, nat_tests) in
    rw more refl
first_counted dl m n (Some a) None h k =
    let less : nat_lt m n ≡ false = let low : n ≡ 0 = k.count in grind (arith, nat_tests) in
    rw less refl
first_counted dl m n (Some a) (Some b) h k = rw (h.count, k.count) refl

counted_by : (b : Bool) (dl : TargetDataLayout) (m n : ℕ) (x y : Option Niche) → nat_lt m n ≡ b → IsCounted dl m x → IsCounted dl n y → IsCounted dl (max m n) (if b then y else x)
counted_by true dl m n x y e h k = let most : max m n ≡ n = grind (arith, nat_tests) in subst (λ c. IsCounted dl c y) (sym most) k
counted_by false dl m n x y e h k = let most : max m n ≡ m = grind (arith, nat_tests) in subst (λ c. IsCounted dl c x) (sym most) h

-- whichever is chosen, it has the greater count
pub counted_more : (dl : TargetDataLayout) (m n : ℕ) (x y : Option Niche) → IsCounted dl m x → IsCounted dl n y → IsCounted dl (max m n) (if nat_lt m n then y else x)
counted_more dl m n x y h k = counted_by (nat_lt m n) dl m n x y refl h k

-- ---- it has the most free numbers

-- no more free numbers than this niche has, where there is one
abbrev pub IsBelow : TargetDataLayout → (own best : Option Niche) → Type 0
IsBelow dl own None = own ≡ None
IsBelow dl own (Some niche) = IfSome own (λ own. available_in dl own ≤ available_in dl niche)

below_pick : (b : Bool) (dl : TargetDataLayout) (own : Option Niche) (x y : Niche) → nat_lt (available_in dl x) (available_in dl y) ≡ b
    → (IsBelow dl own (Some x) → IsBelow dl own (if b then Some y else Some x)) × (IsBelow dl own (Some y) → IsBelow dl own (if b then Some y else Some x))
below_pick true dl None x y e = (λ h. tt, λ h. tt)
below_pick false dl None x y e = (λ h. tt, λ h. tt)
below_pick true dl (Some own) x y e = (λ h. grind (arith, nat_tests), λ h. h)
below_pick false dl (Some own) x y e = (λ h. h, λ h. grind (arith, nat_tests))

below_none : (dl : TargetDataLayout) (own : Option Niche) (x : Niche) → own ≡ None → IsBelow dl own (Some x)
below_none dl None x h = tt
below_none dl (Some own) x h = cc

-- what is below the first is below the larger
below_first : (dl : TargetDataLayout) (own x y : Option Niche) → IsBelow dl own x → IsBelow dl own (larger_niche dl x y)
below_first dl own None None h = h
below_first dl own None (Some y) h = below_none dl own y h
below_first dl own (Some x) None h = h
below_first dl own (Some x) (Some y) h = (below_pick (nat_lt (available_in dl x) (available_in dl y)) dl own x y refl).0 h

below_second : (dl : TargetDataLayout) (own x y : Option Niche) → IsBelow dl own y → IsBelow dl own (larger_niche dl x y)
below_second dl own None y h = h
below_second dl own (Some x) None h = below_none dl own x h
below_second dl own (Some x) (Some y) h = (below_pick (nat_lt (available_in dl x) (available_in dl y)) dl own x y refl).1 h

below_earlier : (bias : NicheBias) (dl : TargetDataLayout) (own x y : Option Niche) → IsBelow dl own x → IsBelow dl own (greater_niche bias dl x y)
below_earlier Start dl own x y h = below_first dl own x y h
below_earlier End dl own x y h = below_second dl own y x h

below_later : (bias : NicheBias) (dl : TargetDataLayout) (own x y : Option Niche) → IsBelow dl own y → IsBelow dl own (greater_niche bias dl x y)
below_later Start dl own x y h = below_second dl own x y h
below_later End dl own x y h = below_first dl own y x h

below_part : (dl : TargetDataLayout) (offset : ℕ) (own : Option Niche) → IsBelow dl own (niche_of_part offset own)
below_part dl offset None = refl
below_part dl offset (Some own) = omega arith

below_all : (bias : NicheBias) (dl : TargetDataLayout) (earlier later : Option Niche) (fields : List Part)
    → All (λ f. IsBelow dl f.largest_niche later) fields → All (λ f. IsBelow dl f.largest_niche (greater_niche bias dl earlier later)) fields
below_all bias dl earlier later [] h = All-nil (λ f. IsBelow dl f.largest_niche (greater_niche bias dl earlier later))
below_all bias dl earlier later (f ∷ fields) h =
    All-cons (λ f. IsBelow dl f.largest_niche (greater_niche bias dl earlier later)) f fields
    (below_later bias dl f.largest_niche earlier later (All-head (λ f. IsBelow dl f.largest_niche later) f fields h))
    (below_all bias dl earlier later fields (All-tail (λ f. IsBelow dl f.largest_niche later) f fields h))

pub greatest_below : (bias : NicheBias) (dl : TargetDataLayout) (offsets : List ℕ) (parts : List Part) → length offsets ≡ length parts
    → All (λ p. IsBelow dl p.largest_niche (greatest_niche bias dl offsets parts)) parts
greatest_below bias dl [] [] e = All-nil (λ p. IsBelow dl p.largest_niche None)
greatest_below bias dl (o ∷ offsets) [] e = All-nil (λ p. IsBelow dl p.largest_niche None)
greatest_below bias dl [] (p ∷ parts) e = cc
greatest_below bias dl (o ∷ offsets) (p ∷ parts) e =
    let later : Option Niche = greatest_niche bias dl offsets parts in
    let here : Option Niche = niche_of_part o p.largest_niche in
    All-cons (λ q. IsBelow dl q.largest_niche (greater_niche bias dl here later)) p parts
    (below_earlier bias dl p.largest_niche here later (below_part dl o p.largest_niche))
    (below_all bias dl here later parts (greatest_below bias dl offsets parts (omega arith)))

-- what is below for parts is below for their layouts
below_layouts : {F V H : Type 0} (layout_of : H → LayoutData F V) (dl : TargetDataLayout) (best : Option Niche) (hs : List H)
    → All (λ p. IsBelow dl p.largest_niche best) (parts_of dl (map layout_of hs)) → All (λ f. IsBelow dl f.largest_niche best) (map layout_of hs)
below_layouts layout_of dl best [] h = All-nil (λ f. IsBelow dl f.largest_niche best)
below_layouts layout_of dl best (x ∷ hs) h =
    All-cons (λ f. IsBelow dl f.largest_niche best) (layout_of x) (map layout_of hs)
    (All-head (λ p. IsBelow dl p.largest_niche best) (part_of dl (layout_of x)) (parts_of dl (map layout_of hs)) h)
    (below_layouts layout_of dl best hs (All-tail (λ p. IsBelow dl p.largest_niche best) (part_of dl (layout_of x)) (parts_of dl (map layout_of hs)) h))

-- ---- which part's niche it is

-- the niche is that of the part at this index
pub record IsNicheOfIndex (offsets : List ℕ) (parts : List Part) (niche : Niche) : Type 0 where
  pub index : ℕ
  pub within : index < length parts
  pub own : IsNicheAt (get_or offsets index 0) (get_or parts index no_part).largest_niche niche

part_here : (offset : ℕ) (own : Option Niche) → IfSome (niche_of_part offset own) (λ niche. IsNicheAt offset own niche)
part_here offset None = tt
part_here offset (Some own) = (refl, refl, refl)

weaken : (P Q : Niche → Type 0) (niche : Option Niche) → ((n : Niche) → P n → Q n) → IfSome niche P → IfSome niche Q
weaken P Q None f h = tt
weaken P Q (Some n) f h = f n h

pub greatest_of_index : (bias : NicheBias) (dl : TargetDataLayout) (offsets : List ℕ) (parts : List Part) → IfSome (greatest_niche bias dl offsets parts) (IsNicheOfIndex offsets parts)
greatest_of_index bias dl [] [] = tt
greatest_of_index bias dl [] (p ∷ parts) = tt
greatest_of_index bias dl (o ∷ offsets) [] = tt
greatest_of_index bias dl (o ∷ offsets) (p ∷ parts) =
    greater_has bias dl (IsNicheOfIndex (o ∷ offsets) (p ∷ parts)) (niche_of_part o p.largest_niche) (greatest_niche bias dl offsets parts)
    (weaken (IsNicheAt o p.largest_niche) (IsNicheOfIndex (o ∷ offsets) (p ∷ parts)) (niche_of_part o p.largest_niche) (λ n h. record { index = 0; within = omega arith; own = h }) (part_here o p.largest_niche))
    (weaken (IsNicheOfIndex offsets parts) (IsNicheOfIndex (o ∷ offsets) (p ∷ parts)) (greatest_niche bias dl offsets parts)
    (λ n h. record { index = suc h.index; within = omega (arith, h.within); own = h.own }) (greatest_of_index bias dl offsets parts))

pub weaken_niche : (P Q : Niche → Type 0) (niche : Option Niche) → ((n : Niche) → P n → Q n) → IfSome niche P → IfSome niche Q
weaken_niche P Q niche f h = weaken P Q niche f h

-- so it is a part's of the list of layouts
pub of_part : {F V H : Type 0} (layout_of : H → LayoutData F V) (dl : TargetDataLayout) (offsets : List ℕ) (hs : List H) (n : Niche) (i : ℕ) → length offsets ≡ length hs → i < length hs
    → IsNicheAt (get_or offsets i 0) (get_or (parts_of dl (map layout_of hs)) i no_part).largest_niche n → IsNicheOfPart offsets (map layout_of hs) n
of_part layout_of dl offsets [] n i e short h = absurd (omega arith)
of_part layout_of dl [] (x ∷ hs) n i e short h = cc
of_part layout_of dl (o ∷ offsets) (x ∷ hs) n zero e short h = inl h
of_part layout_of dl (o ∷ offsets) (x ∷ hs) n (suc i) e short h = inr (of_part layout_of dl offsets hs n i (omega arith) (omega arith) h)

-- ---- the free numbers are as many as the formula says

-- the ends of the niche's range are numbers of its width
abbrev HasEnds : TargetDataLayout → Niche → Type 0
HasEnds dl niche = AreWithin (niche_size dl niche) niche.valid_range

ends_at : (dl : TargetDataLayout) (offset : ℕ) (own : Option Niche) (niche : Niche) → IsNicheAt offset own niche → IfSome own (HasEnds dl) → HasEnds dl niche
ends_at dl offset None niche at h = absurd at
ends_at dl offset (Some own) niche at h =
    subst (λ range. AreWithin (primitive_size dl niche.value) range) (sym at.2) (subst (λ value. AreWithin (primitive_size dl value) own.valid_range) (sym at.1) h)

ends_of_part : {F V : Type 0} (dl : TargetDataLayout) (offsets : List ℕ) (fields : List (LayoutData F V)) (niche : Niche) → IsNicheOfPart offsets fields niche
    → All (λ f. IfSome f.largest_niche (HasEnds dl)) fields → HasEnds dl niche
ends_of_part dl [] fields niche h ends = absurd h
ends_of_part dl (o ∷ offsets) [] niche h ends = absurd h
ends_of_part dl (o ∷ offsets) (f ∷ fields) niche (inl at) ends = ends_at dl o f.largest_niche niche at (All-head (λ f. IfSome f.largest_niche (HasEnds dl)) f fields ends)
ends_of_part dl (o ∷ offsets) (f ∷ fields) niche (inr h) ends = ends_of_part dl offsets fields niche h (All-tail (λ f. IfSome f.largest_niche (HasEnds dl)) f fields ends)

ends_of_lawful : {F V H : Type 0} (layout_of : H → LayoutData F V) (dl : TargetDataLayout) (hs : List H) → All (λ h. IsLawfulLayout dl (layout_of h)) hs
    → All (λ f. IfSome f.largest_niche (HasEnds dl)) (map layout_of hs)
ends_of_lawful layout_of dl [] law = All-nil (λ f. IfSome f.largest_niche (HasEnds dl))
ends_of_lawful layout_of dl (x ∷ hs) law =
    All-cons (λ f. IfSome f.largest_niche (HasEnds dl)) (layout_of x) (map layout_of hs)
    (weaken (IsLawfulNiche dl (layout_of x).size) (HasEnds dl) (layout_of x).largest_niche (λ n h. h.within) (All-head (λ h. IsLawfulLayout dl (layout_of h)) x hs law).niche)
    (ends_of_lawful layout_of dl hs (All-tail (λ h. IsLawfulLayout dl (layout_of h)) x hs law))

no_more : (dl : TargetDataLayout) (own : Option Niche) (niche : Niche) → IfSome own (HasEnds dl) → HasEnds dl niche → IsBelow dl own (Some niche) → IfSome own (λ o. HasNoMoreFree dl o niche)
no_more dl None niche a b h = tt
no_more dl (Some own) niche a b h = (
  available_in dl own,
  available_in dl niche,
  free_counted (niche_size dl own) own.valid_range a,
  free_counted (niche_size dl niche) niche.valid_range b,
  h,
)

largest_of_below : {F V : Type 0} (dl : TargetDataLayout) (best : Option Niche) (fields : List (LayoutData F V)) → All (λ f. IfSome f.largest_niche (HasEnds dl)) fields → IfSome best (HasEnds dl)
    → All (λ f. IsBelow dl f.largest_niche best) fields → HasLargestNiche dl best fields
largest_of_below dl None fields ends own h = h
largest_of_below dl (Some niche) fields ends own h = λ k d l. no_more dl (get_or fields k d).largest_niche niche (ends k d l) own (h k d l)

-- what is below for parts makes the largest for their layouts, of which one has it
pub largest_of_parts : {F V H : Type 0} (layout_of : H → LayoutData F V) (dl : TargetDataLayout) (best : Option Niche) (hs : List H) (offsets : List ℕ) → All (λ h. IsLawfulLayout dl (layout_of h)) hs
    → IfSome best (IsNicheOfPart offsets (map layout_of hs)) → All (λ p. IsBelow dl p.largest_niche best) (parts_of dl (map layout_of hs)) → HasLargestNiche dl best (map layout_of hs)
largest_of_parts layout_of dl best hs offsets law own h =
    let ends = ends_of_lawful layout_of dl hs law in
    largest_of_below dl best (map layout_of hs) ends
    (weaken (IsNicheOfPart offsets (map layout_of hs)) (HasEnds dl) best (λ n part. ends_of_part dl offsets (map layout_of hs) n part ends) own)
    (below_layouts layout_of dl best hs h)
