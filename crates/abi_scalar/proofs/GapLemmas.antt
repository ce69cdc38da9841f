-- Ranges without a gap, for numbers that are read by their places in a rotated order.
use Rattle.std.proofs.Common.{◌≡◌, ℕ, ◌+◌, ◌-◌, ◌*◌, ◌^◌, ◌%◌, ◌<◌, ◌≤◌, inl, inr, arith, suc, sym, ap, ◌∙◌, refl}
use Rattle.std.proofs.Math.Nat.{two-pow-succ}
use Rattle.std.proofs.lemmas.Bool.{cases_lt}
use Rattle.std.proofs.lemmas.Nat.{mod_below}
use Rattle.abi_scalar.specs.declared.wrapping_range.WrappingRange.{WrappingRange}
use Rattle.abi_scalar.specs.Range.{numbers_of, IsFull, AreWithin}
use Rattle.abi_scalar.specs.Wraparound.{unsigned_place, signed_place, HasNoGap}
use Rattle.abi_scalar.proofs.RangeLemmas.{IsDistance, cut_once, steps_are, in_from_steps, steps_from_in, below_from_in, start_in, end_in, full_from_reach}

-- places that keep distances
pub record IsRotation (all : ℕ) (place : ℕ → ℕ) : Type 0 where
  pub below : (n : ℕ) → n < all → place n < all
  pub keeps : (a b d : ℕ) → a < all → b < all → IsDistance all a b d → IsDistance all (place a) (place b) d
  pub back : (n : ℕ) → n < all → (m : ℕ) × (m < all) × (place m ≡ n)

pub gap_from_order : (place : ℕ → ℕ → ℕ) (width : ℕ) (range : WrappingRange) → IsRotation (numbers_of width) (place width)
    → AreWithin width range → place width range.start ≤ place width range.end → HasNoGap place width range
gap_from_order place width range r w order a b n ia ib h low high =
    let all = numbers_of width in
    let ha = below_from_in width range a w ia in
    let hb = below_from_in width range b w ib in
    let da = r.keeps range.start a _ w.0 ha (steps_are width range.start a w.0 ha) in
    let db = r.keeps range.start b _ w.0 hb (steps_are width range.start b w.0 hb) in
    let dn = r.keeps range.start n _ w.0 h (steps_are width range.start n w.0 h) in
    let de = r.keeps range.start range.end _ w.0 w.1 (steps_are width range.start range.end w.0 w.1) in
    let na = steps_from_in width range a w ha ia in
    let nb = steps_from_in width range b w hb ib in
    let pa = r.below a ha in
    let pe = r.below range.end w.1 in
    let ps = r.below range.start w.0 in
    in_from_steps width range n w h (elim de.is [
      | inl e ↦ elim da.is [
        | inl x ↦ elim db.is [
          | inl y ↦ elim dn.is [ inl z ↦ omega (arith, e, x, y, z, na, nb, low, high) | inr z ↦ absurd (omega (arith, x, z, low)) ]
          | inr y ↦ absurd (omega (arith, e, y, nb, pe))
        ]
        | inr x ↦ absurd (omega (arith, e, x, na, pe))
      ]
      | inr e ↦ absurd (omega (arith, e, order))
    ])

pub order_from_gap : (place : ℕ → ℕ → ℕ) (width : ℕ) (range : WrappingRange) → IsRotation (numbers_of width) (place width)
    → AreWithin width range → (IsFull width range → ⊥) → HasNoGap place width range
    → place width range.start ≤ place width range.end
order_from_gap place width range r w some gap =
    let all = numbers_of width in
    let s = place width range.start in
    let e = place width range.end in
    let ps = r.below range.start w.0 in
    let de = r.keeps range.start range.end _ w.0 w.1 (steps_are width range.start range.end w.0 w.1) in
    elim (cases_lt e s) [
      | inl l ↦
          elim (cases_lt (e + 1) s) [
            | inl between ↦
                let m = r.back (e + 1) (omega (arith, between, ps)) in
                let i = gap range.end range.start m.0 (end_in width range w) (start_in width range w) m.1 (omega (arith, m.2)) (omega (arith, m.2, between)) in
                let near = steps_from_in width range m.0 w m.1 i in
                let dm = r.keeps range.start m.0 _ w.0 m.1 (steps_are width range.start m.0 w.0 m.1) in
                elim de.is [
                  | inl x ↦ absurd (omega (arith, x, l))
                  | inr x ↦ elim dm.is [ inl y ↦ absurd (omega (arith, y, m.2, between)) | inr y ↦ absurd (omega (arith, x, y, m.2, near)) ]
                ]
            | inr next ↦ absurd (some (full_from_reach width range w (elim de.is [ inl x ↦ absurd (omega (arith, x, l)) | inr x ↦ omega (arith, x, next, l) ])))
          ]
      | inr g ↦ g
    ]

pub unsigned_rotation : (width : ℕ) → IsRotation (numbers_of width) (unsigned_place width)
unsigned_rotation width = record {
  below = λ n h. h;
  keeps = λ a b d ha hb is. is;
  back = λ n h. (n, h, refl);
}

-- half of the numbers, twice, are all
pub twice_half : (width : ℕ) → 1 ≤ width → 2 ^ (8 * width - 1) + 2 ^ (8 * width - 1) ≡ numbers_of width
twice_half width some =
    let e : 8 * width ≡ suc (8 * width - 1) = omega arith in
    sym (ap (λ k. 2 ^ k) e ∙ two-pow-succ (8 * width - 1))

keep : (all half a b d : ℕ) → half + half ≡ all → a < all → b < all → IsDistance all a b d
    → IsDistance all ((a + half) % all) ((b + half) % all) d
keep all half a b d twice ha hb is =
    let ca = cut_once all (a + half) (omega arith) in
    let cb = cut_once all (b + half) (omega arith) in
    record {
      below = is.below;
      is = elim ca.is [
        | inl x ↦ elim cb.is [
          | inl y ↦ elim is.is [ inl z ↦ inl (omega (arith, x, y, z), omega (arith, x, y, z)) | inr z ↦ inr (omega (arith, x, y, z), omega (arith, x, y, z)) ]
          | inr y ↦ elim is.is [ inl z ↦ inr (omega (arith, x, y, z, cb.below), omega (arith, x, y, z)) | inr z ↦ absurd (omega (arith, x, y, z)) ]
        ]
        | inr x ↦ elim cb.is [
          | inl y ↦ elim is.is [ inl z ↦ absurd (omega (arith, x, y, z)) | inr z ↦ inl (omega (arith, x, y, z), omega (arith, x, y, z)) ]
          | inr y ↦ elim is.is [ inl z ↦ inl (omega (arith, x, y, z), omega (arith, x, y, z)) | inr z ↦ inr (omega (arith, x, y, z), omega (arith, x, y, z)) ]
        ]
      ];
    }

-- a number of that place
pub unplace : (all half n : ℕ) → half + half ≡ all → n < all → (m : ℕ) × (m < all) × ((m + half) % all ≡ n)
unplace all half n twice h =
    elim (cases_lt n half) [
      | inl l ↦
          let cut = cut_once all (n + half + half) (omega arith) in
          (n + half, omega arith, elim cut.is [ inl a ↦ absurd (omega (arith, a)) | inr a ↦ omega (arith, a) ])
      | inr g ↦
          let cut = cut_once all (n - half + half) (omega arith) in
          (n - half, omega arith, elim cut.is [ inl a ↦ omega (arith, a) | inr a ↦ absurd (omega (arith, a, cut.below)) ])
    ]

pub signed_rotation : (width : ℕ) → 1 ≤ width → IsRotation (numbers_of width) (signed_place width)
signed_rotation width some = record {
  below = λ n h. mod_below (n + 2 ^ (8 * width - 1)) (numbers_of width) (omega (arith, h));
  keeps = λ a b d ha hb is. keep (numbers_of width) (2 ^ (8 * width - 1)) a b d (twice_half width some) ha hb is;
  back = λ n h. unplace (numbers_of width) (2 ^ (8 * width - 1)) n (twice_half width some) h;
}

pub unsigned_gap_from_order : (width : ℕ) (range : WrappingRange) → AreWithin width range → range.start ≤ range.end
    → HasNoGap unsigned_place width range
unsigned_gap_from_order width range w order = gap_from_order unsigned_place width range (unsigned_rotation width) w order

pub unsigned_order_from_gap : (width : ℕ) (range : WrappingRange) → AreWithin width range → (IsFull width range → ⊥)
    → HasNoGap unsigned_place width range → range.start ≤ range.end
unsigned_order_from_gap width range w some gap = order_from_gap unsigned_place width range (unsigned_rotation width) w some gap

pub signed_gap_from_order : (width : ℕ) (range : WrappingRange) → 1 ≤ width → AreWithin width range
    → signed_place width range.start ≤ signed_place width range.end → HasNoGap signed_place width range
signed_gap_from_order width range some w order = gap_from_order signed_place width range (signed_rotation width some) w order

pub signed_order_from_gap : (width : ℕ) (range : WrappingRange) → 1 ≤ width → AreWithin width range
    → (IsFull width range → ⊥) → HasNoGap signed_place width range
    → signed_place width range.start ≤ signed_place width range.end
signed_order_from_gap width range h w some gap = order_from_gap signed_place width range (signed_rotation width h) w some gap
