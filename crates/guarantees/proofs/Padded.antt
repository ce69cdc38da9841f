-- Bytes that decide nothing, changed.
use Rattle.std.proofs.Common.{◌≡◌, ◌≢◌, ℕ, List, Bool, true, false, length, set, refl, sym, ap, ◌∙◌, subst, length-set, get_or-set_other}
use Rattle.std.specs.declared.alloc.AllocError.{AllocError}
use Rattle.std.specs.Prelude.{IfOk, Result, Ok, Err, Option, None, Some, ◌↔◌, not, nat_lt, ◌&&◌, slice_set, if◌then◌else◌}
use Rattle.std.proofs.lemmas.Bool.{and_parts, true≢false}
use Rattle.abi_tree.specs.declared.laid.Laid.{Laid}
use Rattle.abi_tree.specs.declared.value.Value.{Value as Kept}
use Rattle.abi_tree.specs.Faithful.{AgreeOn}
use Rattle.abi_tree.specs.Holding.{Holds}
use Rattle.abi_tree.specs.Laid.{endian_of, placed_of}
use Rattle.abi_tree.specs.OfTree.{IsOfTree}
use Rattle.abi_tree.specs.Placed.{Placed, size_of}
use Rattle.abi_tree.specs.Places.{is_data_place}
use Rattle.abi_tree.specs.Reading.{Finds}
use Rattle.abi_tree.specs.Runs.{is_padding_of}
use Rattle.abi_tree.specs.Value.{Value, value_of}
use Rattle.guarantees.specs.Ignored.{DecidesNothing, with_padding}
use Rattle.abi_tree.proofs.Bytes.HoldLemmas.{length-Holds}

-- a byte of padding is no data place
no_data : (placed : Placed) (place k : ℕ) → is_padding_of placed place ≡ true → is_data_place placed k ≡ true → k ≢ place
no_data placed place k padding data_place same =
    let apart = and_parts (nat_lt place (size_of placed)) (not (is_data_place placed place)) padding in
    let here : is_data_place placed place ≡ true = subst (λ j. is_data_place placed j ≡ true) same data_place in
    let off : not (is_data_place placed place) ≡ false = ap not here in
    cc (apart.1, off)

-- a byte of padding changed, the data places stay
agree : (placed : Placed) (b : List ℕ) (place byte : ℕ) → is_padding_of placed place ≡ true → AgreeOn placed (set b place byte) b
agree placed b place byte padding k data_place = get_or-set_other b place k byte 0 (no_data placed place k padding data_place)

-- bytes that agree at each data place hold the same values
module _ (laid : Laid) (of_tree : IsOfTree laid) (b c : List ℕ) (long : length c ≡ length b) where
  pub still_held : AgreeOn (placed_of laid) b c → (v : Value) → Holds (endian_of laid) (placed_of laid) b v → Holds (endian_of laid) (placed_of laid) c v
  still_held same v h =
      let size = length-Holds (endian_of laid) (placed_of laid) b v h in
      subst (λ o. Holds o (placed_of laid) c v) (sym of_tree.keeps.order)
      (of_tree.keeps.padding of_tree.locals b c v size (long ∙ size) same (subst (λ o. Holds o (placed_of laid) b v) of_tree.keeps.order h))

-- where the place is none of data, nothing there decides
pub nothing_decides : (laid : Laid) → IsOfTree laid → (k : ℕ) → is_data_place (placed_of laid) k ≡ false → DecidesNothing (endian_of laid) (placed_of laid) k
nothing_decides laid of_tree k none a b d =
    d.3 (still_held laid of_tree a b d.2.long (λ j place. sym (d.2.elsewhere j (λ (e : j ≡ k).
    true≢false (sym place ∙ ap (λ i. is_data_place (placed_of laid) i) e ∙ none)))) d.0 d.1)

-- the one is true, so the other is false
pub other_false : (p q : Bool) → p ≡ true → (p && q) ≡ false → q ≡ false
other_false true q is both = both
other_false false q is both = absurd (true≢false (sym is))

same_with : (laid : Laid) → IsOfTree laid → (b : List ℕ) (place byte : ℕ) (padding : Bool) → is_padding_of (placed_of laid) place ≡ padding → (v : Value) →
    Holds (endian_of laid) (placed_of laid) b v ↔ Holds (endian_of laid) (placed_of laid) (if padding then slice_set b place byte else b) v
same_with laid of_tree b place byte true is v =
    let other = agree (placed_of laid) b place byte is in
    (still_held laid of_tree b (set b place byte) (length-set b place byte) (λ k d. sym (other k d)) v, still_held laid of_tree (set b place byte) b (sym (length-set b place byte)) other v)
same_with laid of_tree b place byte false is v = ((λ h. h), (λ h. h))

-- the same values are held
pub same_values : (laid : Laid) → IsOfTree laid → (b : List ℕ) (place byte : ℕ) (v : Value) →
    Holds (endian_of laid) (placed_of laid) b v ↔ Holds (endian_of laid) (placed_of laid) (with_padding (placed_of laid) b place byte) v
same_values laid of_tree b place byte v = same_with laid of_tree b place byte (is_padding_of (placed_of laid) place) refl v

finds_like : (P Q : Value → Type 0) (found : Option Kept) → ((v : Value) → P v ↔ Q v) → Finds Q found → Finds P found
finds_like P Q None same h = λ v p. h v ((same v).0 p)
finds_like P Q (Some k) same h = (same (value_of k)).1 h

-- so the same is read
pub same_read : (laid : Laid) → IsOfTree laid → (b : List ℕ) (place byte : ℕ) (read : Result (Option Kept) AllocError) →
    IfOk read (Finds (Holds (endian_of laid) (placed_of laid) (with_padding (placed_of laid) b place byte))) →
    IfOk read (Finds (Holds (endian_of laid) (placed_of laid) b))
same_read laid of_tree b place byte (Ok found) h =
    finds_like (Holds (endian_of laid) (placed_of laid) b) (Holds (endian_of laid) (placed_of laid) (with_padding (placed_of laid) b place byte)) found (same_values laid of_tree b place byte) h
same_read laid of_tree b place byte (Err e) h = h
