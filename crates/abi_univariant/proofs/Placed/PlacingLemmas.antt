-- The loop that places fields in an order.
use Rattle.std.proofs.Common.{◌≡◌, ℕ, zero, suc, ◌+◌, ◌<◌, ◌≤◌, ◌≢◌, Bool, true, false, List, [], ◌∷◌, ◌++◌, Option, Some, length, take, drop, map, get_or, set, refl, sym, ap, ap₂, subst, ◌∙◌, arith, get_or-set_same, get_or-set_other, length-set, length-take, eqb, max, nat_lt}
use Rattle.std.proofs.lemmas.Bool.Decides.{Decides-eqb}
use Rattle.std.proofs.Math.Nat.{max_comm}
use Rattle.std.proofs.lemmas.List.FromFn.{length-range_with_len, get_or-range_with_len}
use Rattle.std.specs.Prelude.{All, AllPairs, IsPermutation, slice_index, ◌&&◌, not, if◌then◌else◌}
use Rattle.std.proofs.lemmas.List.{take_more, map-append, get_or-take, get_or_default, drop_more}
use Rattle.std.proofs.lemmas.Bool.Decides.{nat_tests}
use Rattle.std.proofs.lemmas.List.Elements.{All-head, All-tail}
use Rattle.std.proofs.lemmas.Map.Keys.{IsDistinct-IsPermutation}
use Rattle.std.proofs.lemmas.Map.Made.{AllPairs-from_IsDistinct, IsDistinct-from_AllPairs}
use Rattle.abi_base.specs.declared.data_layout.TargetDataLayout.{TargetDataLayout}
use Rattle.abi_scalar.specs.declared.niche.Niche.{Niche}
use Rattle.abi_scalar.specs.Pair.{larger_niche}
use Rattle.abi_univariant.specs.declared.part.Part.{Part}
use Rattle.abi_univariant.specs.declared.fields_repr.FieldsRepr.{FieldsRepr}
use Rattle.abi_univariant.specs.declared.list_niche.GreatestNiche.{GreatestNiche}
use Rattle.abi_univariant.specs.declared.order.NicheBias.{NicheBias}
use Rattle.abi_univariant.specs.declared.order.NicheBias.TheVariants.{Start, End}
use Rattle.abi_univariant.specs.declared.placing.FieldsFault.TheVariants.{Unsized, TooLarge}
use Rattle.abi_univariant.specs.Fault.{fault_from, is_empty, is_maybe_unsized}
use Rattle.abi_univariant.specs.declared.list_niche.PlacedField.{PlacedField}
use Rattle.abi_univariant.specs.ListNiche.{IsPlacedField, greatest_niche, greater_niche, niche_of_part, niche_of_placed}
use Rattle.abi_univariant.specs.Part.{is_unsized}
use Rattle.abi_univariant.specs.LawfulPart.{IsLawfulPart}
use Rattle.abi_univariant.specs.Placement.{place_of, offsets_from, end_from, no_part, in_order, source_order}
use Rattle.abi_univariant.proofs.Offsets.Ends.{end_from-append}
use Rattle.abi_univariant.proofs.Views.NicheLemmas.{IsCounted, counted_more, counted_part, first_counted, greater_assoc, greater_none, none_greater}

eqb_comm : (a b : ℕ) → eqb a b ≡ eqb b a
eqb_comm a b = grind (arith, nat_tests)

source_differs : (n : ℕ) → AllPairs (λ i j. i ≢ j) (source_order n)
source_differs n i j d low high same =
    let short : j < n = omega (arith, length-range_with_len 0 n) in
    omega (arith, get_or-range_with_len 0 n i d (omega arith), get_or-range_with_len 0 n j d short, same)

-- the indices of an order differ
pub order_differs : (n : ℕ) (order : List ℕ) → IsPermutation (source_order n) order → AllPairs (λ i j. i ≢ j) order
order_differs n order p =
    AllPairs-from_IsDistinct Decides-eqb order (IsDistinct-IsPermutation eqb eqb_comm (source_order n) order p (IsDistinct-from_AllPairs Decides-eqb (source_order n) (source_differs n)))

set_other : (xs : List ℕ) (i v : ℕ) (zs : List ℕ) → All (λ z. z ≢ i) zs → map (slice_index (set xs i v)) zs ≡ map (slice_index xs) zs
set_other xs i v [] other = refl
set_other xs i v (z ∷ zs) other =
    let differs : z ≢ i = All-head (λ y. y ≢ i) z zs other in
    ap₂ (λ y ys. y ∷ ys) (get_or-set_other xs i z v 0 differs) (set_other xs i v zs (All-tail (λ y. y ≢ i) z zs other))

-- an index at k is none of those before
before : (order : List ℕ) (k i : ℕ) → AllPairs (λ x y. x ≢ y) order → k < length order → i ≡ get_or order k 0 → All (λ z. z ≢ i) (take k order)
before order k i differ short is j d l same =
    let low : j < k = omega (arith, length-take k order) in
    differ j k d low short (sym (get_or-take k order j d low) ∙ same ∙ is ∙ get_or_default order k 0 d short)

-- the offset of the field at place k is written, and those before it stay
pub offsets_more : (offsets order : List ℕ) (k i v : ℕ) → AllPairs (λ x y. x ≢ y) order → k < length order → i ≡ get_or order k 0 → i < length offsets
    → map (slice_index (set offsets i v)) (take (k + 1) order) ≡ map (slice_index offsets) (take k order) ++ v ∷ []
offsets_more offsets order k i v differ short is within =
    let more : take (k + 1) order ≡ take k order ++ i ∷ [] = subst (λ x. take (k + 1) order ≡ take k order ++ x ∷ []) (sym is) (take_more order k 0 short) in
    let others : All (λ z. z ≢ i) (take k order) = before order k i differ short is in
    ap (map (slice_index (set offsets i v))) more ∙ map-append (slice_index (set offsets i v)) (take k order) (i ∷ [])
    ∙ ap₂ (λ xs x. xs ++ x ∷ []) (set_other offsets i v (take k order) others) (get_or-set_same offsets i v 0 within)

offsets_from-push : (pack : Option ℕ) (from : ℕ) (fs : List Part) (f : Part) → offsets_from pack from (fs ++ f ∷ []) ≡ offsets_from pack from fs ++ place_of pack (end_from pack from fs) f ∷ []
offsets_from-push pack from [] f = refl
offsets_from-push pack from (g ∷ gs) f = ap (λ rest. place_of pack from g ∷ rest) (offsets_from-push pack (place_of pack from g + g.size) gs f)

pub in_order-more : (fields : List Part) (order : List ℕ) (k i : ℕ) → k < length order → i ≡ get_or order k 0
    → in_order fields (take (k + 1) order) ≡ in_order fields (take k order) ++ get_or fields i no_part ∷ []
in_order-more fields order k i short is =
    let more : take (k + 1) order ≡ take k order ++ i ∷ [] = subst (λ x. take (k + 1) order ≡ take k order ++ x ∷ []) (sym is) (take_more order k 0 short) in
    ap (in_order fields) more ∙ map-append (λ j. get_or fields j no_part) (take k order) (i ∷ [])

pub length-offsets : (pack : Option ℕ) (from : ℕ) (fs : List Part) → length (offsets_from pack from fs) ≡ length fs
length-offsets pack from [] = refl
length-offsets pack from (f ∷ fs) = ap (λ n. suc n) (length-offsets pack (place_of pack from f + f.size) fs)

greatest-push : (bias : NicheBias) (dl : TargetDataLayout) (os : List ℕ) (ps : List Part) (o : ℕ) (p : Part) → length os ≡ length ps
    → greatest_niche bias dl (os ++ o ∷ []) (ps ++ p ∷ []) ≡ greater_niche bias dl (greatest_niche bias dl os ps) (niche_of_part o p.largest_niche)
greatest-push bias dl [] [] o p e = greater_none bias dl (niche_of_part o p.largest_niche) ∙ sym (none_greater bias dl (niche_of_part o p.largest_niche))
greatest-push bias dl [] (q ∷ ps) o p e = cc
greatest-push bias dl (a ∷ os) [] o p e = cc
greatest-push bias dl (a ∷ os) (q ∷ ps) o p e =
    ap (greater_niche bias dl (niche_of_part a q.largest_niche)) (greatest-push bias dl os ps o p (omega arith))
    ∙ sym (greater_assoc bias dl (niche_of_part a q.largest_niche) (greatest_niche bias dl os ps) (niche_of_part o p.largest_niche))

-- The greatest niches of parts that lie at these offsets.
pub record IsGreatest (dl : TargetDataLayout) (offsets : List ℕ) (parts : List Part) (niche : GreatestNiche) : Type 0 where
  pub first : niche.first ≡ greatest_niche Start dl offsets parts
  pub last : niche.last ≡ greatest_niche End dl offsets parts
  pub counted_first : IsCounted dl niche.free niche.first
  pub counted_last : IsCounted dl niche.free niche.last

-- with one more part
pub greatest_more : (dl : TargetDataLayout) (os : List ℕ) (ps : List Part) (v : ℕ) (part : Part) (now next : GreatestNiche) → length os ≡ length ps → IsLawfulPart dl part → IsGreatest dl os ps now
    → next.first ≡ (if nat_lt now.free part.free then niche_of_part v part.largest_niche else now.first)
    → next.last ≡ (if nat_lt part.free now.free then now.last else niche_of_part v part.largest_niche) → next.free ≡ max now.free part.free
    → IsGreatest dl (os ++ v ∷ []) (ps ++ part ∷ []) next
greatest_more dl os ps v part now next many law g first last free =
    let own : Option Niche = niche_of_part v part.largest_niche in
    let here : IsCounted dl part.free (niche_of_part v part.largest_niche) = counted_part dl v part law in
    record {
      first = first ∙ sym (first_counted dl now.free part.free now.first own g.counted_first here) ∙ ap (λ x. larger_niche dl x (niche_of_part v part.largest_niche)) g.first ∙ sym (greatest-push Start dl os ps v part many);
      last = last ∙ sym (first_counted dl part.free now.free own now.last here g.counted_last) ∙ ap (larger_niche dl (niche_of_part v part.largest_niche)) g.last ∙ sym (greatest-push End dl os ps v part many);
      counted_first = rw (first, free) (counted_more dl now.free part.free now.first own g.counted_first here);
      counted_last = rw (last, free, max_comm now.free part.free) (counted_more dl part.free now.free own now.last here g.counted_last);
    }

-- what lies of one of two lies as that one
pub placed_if : (parts : List Part) (b : Bool) (x y : Option PlacedField) → IsPlacedField parts x → IsPlacedField parts y → IsPlacedField parts (if b then x else y)
placed_if parts true x y one other = one
placed_if parts false x y one other = other

-- and its niche is the niche of that one
pub niche_if : (parts : List Part) (b : Bool) (x y : Option PlacedField) → niche_of_placed parts (if b then x else y) ≡ (if b then niche_of_placed parts x else niche_of_placed parts y)
niche_if parts true x y = refl
niche_if parts false x y = refl

-- after k fields
pub record IsPlaced (dl : TargetDataLayout) (repr : FieldsRepr) (bound from : ℕ) (parts : List Part) (order : List ℕ) (k : ℕ) (offsets : List ℕ) (end : ℕ) (niche : GreatestNiche) : Type 0 where
  pub room : length offsets ≡ length parts
  pub places : map (slice_index offsets) (take k order) ≡ offsets_from repr.pack from (in_order parts (take k order))
  pub ends : end ≡ end_from repr.pack from (in_order parts (take k order))
  pub greatest : IsGreatest dl (offsets_from repr.pack from (in_order parts (take k order))) (in_order parts (take k order)) niche
  pub fault : fault_from repr bound parts end (drop k order) ≡ fault_from repr bound parts from order

-- the order goes on with the field at k
goes_on : (order : List ℕ) (k i : ℕ) → k < length order → i ≡ get_or order k 0 → drop k order ≡ i ∷ drop (k + 1) order
goes_on order k i short is = drop_more order k 0 short ∙ ap (λ x. x ∷ drop (k + 1) order) (sym is)

-- a field without a fault leaves that of the rest
fault_later : (repr : FieldsRepr) (bound : ℕ) (parts : List Part) (from i : ℕ) (is : List ℕ) (part : Part) → part ≡ get_or parts i no_part
    → is_unsized part.view && not (is_maybe_unsized repr.kind) ≡ false → place_of repr.pack from part + part.size < bound → is_unsized part.view && not (is_empty is) ≡ false
    → fault_from repr bound parts from (i ∷ is) ≡ fault_from repr bound parts (place_of repr.pack from part + part.size) is
fault_later repr bound parts from i is part e here short later =
    let yes : nat_lt (place_of repr.pack from part + part.size) bound ≡ true = grind (arith, nat_tests) in
    rw (← e, here, yes, later) refl

fault_unsized : (repr : FieldsRepr) (bound : ℕ) (parts : List Part) (from i : ℕ) (is : List ℕ) (part : Part) → part ≡ get_or parts i no_part
    → is_unsized part.view && not (is_maybe_unsized repr.kind) ≡ true → fault_from repr bound parts from (i ∷ is) ≡ Some (Unsized i)
fault_unsized repr bound parts from i is part e here = rw (← e, here) refl

fault_large : (repr : FieldsRepr) (bound : ℕ) (parts : List Part) (from i : ℕ) (is : List ℕ) (part : Part) → part ≡ get_or parts i no_part
    → is_unsized part.view && not (is_maybe_unsized repr.kind) ≡ false → bound ≤ place_of repr.pack from part + part.size → fault_from repr bound parts from (i ∷ is) ≡ Some TooLarge
fault_large repr bound parts from i is part e here large =
    let no : nat_lt (place_of repr.pack from part + part.size) bound ≡ false = grind (arith, nat_tests) in
    rw (← e, here, no) refl

fault_followed : (repr : FieldsRepr) (bound : ℕ) (parts : List Part) (from i : ℕ) (is : List ℕ) (part : Part) → part ≡ get_or parts i no_part
    → is_unsized part.view && not (is_maybe_unsized repr.kind) ≡ false → place_of repr.pack from part + part.size < bound → is_unsized part.view && not (is_empty is) ≡ true
    → fault_from repr bound parts from (i ∷ is) ≡ Some (Unsized i)
fault_followed repr bound parts from i is part e here short later =
    let yes : nat_lt (place_of repr.pack from part + part.size) bound ≡ true = grind (arith, nat_tests) in
    rw (← e, here, yes, later) refl

empty_drop : (k : ℕ) (order : List ℕ) → not (is_empty (drop k order)) ≡ nat_lt k (length order)
empty_drop zero [] = refl
empty_drop zero (i ∷ is) = sym (grind (arith, nat_tests))
empty_drop (suc k) [] = sym (grind (arith, nat_tests))
empty_drop (suc k) (i ∷ is) = empty_drop k is ∙ grind (arith, nat_tests)

-- one more field is placed
pub placed_more : (dl : TargetDataLayout) (repr : FieldsRepr) (bound from : ℕ) (parts : List Part) (order : List ℕ) (k i : ℕ) (offsets : List ℕ) (end v next : ℕ) (best larger : GreatestNiche) (part : Part)
    → IsPermutation (source_order (length parts)) order → IsPlaced dl repr bound from parts order k offsets end best → k < length order → i ≡ get_or order k 0
    → i < length parts → part ≡ get_or parts i no_part → v ≡ place_of repr.pack end part → next ≡ v + part.size → IsLawfulPart dl part
    → larger.first ≡ (if nat_lt best.free part.free then niche_of_part v part.largest_niche else best.first)
    → larger.last ≡ (if nat_lt part.free best.free then best.last else niche_of_part v part.largest_niche) → larger.free ≡ max best.free part.free
    → is_unsized part.view && not (is_maybe_unsized repr.kind) ≡ false → next < bound → is_unsized part.view && nat_lt (k + 1) (length order) ≡ false
    → IsPlaced dl repr bound from parts order (k + 1) (set offsets i v) next larger
placed_more dl repr bound from parts order k i offsets end v next best larger part p inv short is within named at ends law first later free sized small last =
    let fields = in_order parts (take k order) in
    let more : in_order parts (take (k + 1) order) ≡ in_order parts (take k order) ++ part ∷ []
    = rw named (in_order-more parts order k i short is) in
    let there : v ≡ place_of repr.pack (end_from repr.pack from (in_order parts (take k order))) part = at ∙ ap (λ e. place_of repr.pack e part) inv.ends in
    let sum : next ≡ place_of repr.pack end part + part.size = ends ∙ ap (λ x. x + part.size) at in
    let below : place_of repr.pack end part + part.size < bound = omega (arith, sum, small) in
    let many : offsets_from repr.pack from (in_order parts (take (k + 1) order)) ≡ offsets_from repr.pack from (in_order parts (take k order)) ++ v ∷ []
    = ap (offsets_from repr.pack from) more ∙ offsets_from-push repr.pack from (in_order parts (take k order)) part ∙ ap (λ x. offsets_from repr.pack from (in_order parts (take k order)) ++ x ∷ []) (sym there) in
    let tail : is_unsized part.view && not (is_empty (drop (k + 1) order)) ≡ false = ap (λ b. is_unsized part.view && b) (empty_drop (k + 1) order) ∙ last in
    record {
      room = length-set offsets i v ∙ inv.room;
      places = offsets_more offsets order k i v (order_differs (length parts) order p) short is (omega (arith, inv.room, within)) ∙ ap (λ xs. xs ++ v ∷ []) inv.places ∙ sym many;
      ends = sum ∙ ap (λ e. place_of repr.pack e part + part.size) inv.ends ∙ sym (end_from-append repr.pack from (in_order parts (take k order)) (part ∷ [])) ∙ ap (end_from repr.pack from) (sym more);
      greatest =
          rw (many, more)
          (greatest_more dl (offsets_from repr.pack from (in_order parts (take k order))) (in_order parts (take k order)) v part best larger (length-offsets repr.pack from (in_order parts (take k order)))
          law inv.greatest first later free);
      fault =
          ap (λ e. fault_from repr bound parts e (drop (k + 1) order)) sum
          ∙ sym (fault_later repr bound parts end i (drop (k + 1) order) part named sized below tail)
          ∙ ap (fault_from repr bound parts end) (sym (goes_on order k i short is)) ∙ inv.fault;
    }

pub placed_unsized : (dl : TargetDataLayout) (repr : FieldsRepr) (bound from : ℕ) (parts : List Part) (order : List ℕ) (k i : ℕ) (offsets : List ℕ) (end : ℕ) (best : GreatestNiche) (part : Part)
    → IsPlaced dl repr bound from parts order k offsets end best → k < length order → i ≡ get_or order k 0 → part ≡ get_or parts i no_part
    → is_unsized part.view && not (is_maybe_unsized repr.kind) ≡ true → fault_from repr bound parts from order ≡ Some (Unsized i)
placed_unsized dl repr bound from parts order k i offsets end best part inv short is named here =
    sym inv.fault ∙ ap (fault_from repr bound parts end) (goes_on order k i short is) ∙ fault_unsized repr bound parts end i (drop (k + 1) order) part named here

pub placed_large : (dl : TargetDataLayout) (repr : FieldsRepr) (bound from : ℕ) (parts : List Part) (order : List ℕ) (k i : ℕ) (offsets : List ℕ) (end v : ℕ) (best : GreatestNiche) (part : Part)
    → IsPlaced dl repr bound from parts order k offsets end best → k < length order → i ≡ get_or order k 0 → part ≡ get_or parts i no_part
    → is_unsized part.view && not (is_maybe_unsized repr.kind) ≡ false → v ≡ place_of repr.pack end part → ¬ (v + part.size < bound) → fault_from repr bound parts from order ≡ Some TooLarge
placed_large dl repr bound from parts order k i offsets end v best part inv short is named sized at full =
    let sum : v + part.size ≡ place_of repr.pack end part + part.size = ap (λ x. x + part.size) at in
    sym inv.fault ∙ ap (fault_from repr bound parts end) (goes_on order k i short is) ∙ fault_large repr bound parts end i (drop (k + 1) order) part named sized (omega (arith, sum, full))

pub placed_followed : (dl : TargetDataLayout) (repr : FieldsRepr) (bound from : ℕ) (parts : List Part) (order : List ℕ) (k i : ℕ) (offsets : List ℕ) (end v : ℕ) (best : GreatestNiche) (part : Part)
    → IsPlaced dl repr bound from parts order k offsets end best → k < length order → i ≡ get_or order k 0 → part ≡ get_or parts i no_part
    → is_unsized part.view && not (is_maybe_unsized repr.kind) ≡ false → v ≡ place_of repr.pack end part → v + part.size < bound → is_unsized part.view && nat_lt (k + 1) (length order) ≡ true
    → fault_from repr bound parts from order ≡ Some (Unsized i)
placed_followed dl repr bound from parts order k i offsets end v best part inv short is named sized at small later =
    let sum : v + part.size ≡ place_of repr.pack end part + part.size = ap (λ x. x + part.size) at in
    let tail : is_unsized part.view && not (is_empty (drop (k + 1) order)) ≡ true = ap (λ b. is_unsized part.view && b) (empty_drop (k + 1) order) ∙ later in
    sym inv.fault ∙ ap (fault_from repr bound parts end) (goes_on order k i short is) ∙ fault_followed repr bound parts end i (drop (k + 1) order) part named sized (omega (arith, sum, small)) tail

-- a lawful part at an index
pub part_lawful_at : (dl : TargetDataLayout) (parts : List Part) (i : ℕ) (part : Part) → All (IsLawfulPart dl) parts → i < length parts → part ≡ get_or parts i no_part → IsLawfulPart dl part
part_lawful_at dl parts i part law short is = subst (IsLawfulPart dl) (sym is) (law i no_part short)
