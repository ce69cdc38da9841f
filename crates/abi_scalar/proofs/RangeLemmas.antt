-- Ranges as sets: membership by comparison, and what is free.
use Rattle.std.proofs.Common.{◌≡◌, ◌≢◌, ℕ, ◌+◌, ◌-◌, ◌%◌, ◌<◌, ◌≤◌, ◌⊎◌, inl, inr, arith, zero, suc, sym, ◌∙◌}
use Rattle.std.proofs.Math.Nat.{mod-eq_of_lt, mod-eq-sub-mod}
use Rattle.std.proofs.lemmas.Bool.{cases_lt}
use Rattle.std.proofs.lemmas.Nat.{mod_below}
use Rattle.abi_scalar.specs.declared.wrapping_range.WrappingRange.{WrappingRange}
use Rattle.abi_scalar.specs.Range.{numbers_of, IsIn, IsBetween, IsFree, IsFull, Includes, AreWithin, free_count, steps_between}

-- a number below twice the modulus, cut to it
pub record IsCut (modulus x cut : ℕ) : Type 0 where
  pub below : cut < modulus
  pub is : ((x < modulus) × (cut ≡ x)) ⊎ (cut + modulus ≡ x)

pub cut_once : (modulus x : ℕ) → x < modulus + modulus → IsCut modulus x (x % modulus)
cut_once modulus x h =
    elim (cases_lt x modulus) [
      | inl l ↦ let e = mod-eq_of_lt l in record { below = omega arith; is = inl (l, e) }
      | inr g ↦
          let small : x - modulus < modulus = omega arith in
          let e = mod-eq-sub-mod g ∙ mod-eq_of_lt small in
          record { below = omega arith; is = inr (omega arith) }
    ]

-- how many steps there are from one number to another
pub record IsDistance (all start end steps : ℕ) : Type 0 where
  pub below : steps < all
  pub is : ((start ≤ end) × (start + steps ≡ end)) ⊎ ((end < start) × (start + steps ≡ end + all))

pub distance : (all start end : ℕ) → start < all → end < all → (steps : ℕ) × IsDistance all start end steps
distance all start end s e =
    elim (cases_lt end start) [
      | inl l ↦ (end + all - start, record { below = omega arith; is = inr (l, omega arith) })
      | inr g ↦ (end - start, record { below = omega arith; is = inl (g, omega arith) })
    ]

-- so many steps lead there
pub arrive : (all start end steps : ℕ) → start < all → end < all → IsDistance all start end steps
    → (start + steps) % all ≡ end
arrive all start end steps s e d =
    let cut = cut_once all (start + steps) (omega (arith, d.below)) in
    elim cut.is [
      | inl a ↦ elim d.is [ inl b ↦ a.1 ∙ b.1 | inr b ↦ omega (arith, a, b) ]
      | inr a ↦ elim d.is [ inl b ↦ omega (arith, a, b, cut.below) | inr b ↦ omega (arith, a, b) ]
    ]

-- the numbers met in fewer steps than to the end are others
pub before : (all start end steps k : ℕ) → start < all → end < all → IsDistance all start end steps → k < steps
    → (start + k) % all ≢ end
before all start end steps k s e d h same =
    let cut = cut_once all (start + k) (omega (arith, d.below)) in
    elim cut.is [
      | inl a ↦ elim d.is [ inl b ↦ omega (arith, a, b) | inr b ↦ omega (arith, a, b) ]
      | inr a ↦ elim d.is [ inl b ↦ omega (arith, a, b, cut.below) | inr b ↦ omega (arith, a, b) ]
    ]

pub between_from_in : (width : ℕ) (range : WrappingRange) (n : ℕ) → AreWithin width range → IsIn width range n
    → IsBetween range.start range.end n
between_from_in width range n w i =
    let all = numbers_of width in
    let d = distance all range.start range.end w.0 w.1 in
    elim (cases_lt d.0 i.0) [
      | inl l ↦ absurd (i.2 d.0 l (arrive all range.start range.end d.0 w.0 w.1 d.1))
      | inr g ↦
          let cut = cut_once all (range.start + i.0) (omega (arith, d.1.below)) in
          elim cut.is [
            | inl a ↦ elim d.1.is [
              | inl b ↦ inl (omega (arith, b), omega (arith, a, i.1), omega (arith, a, b, i.1))
              | inr b ↦ inr (inl (omega (arith, b), omega (arith, a, i.1)))
            ]
            | inr a ↦ elim d.1.is [
              | inl b ↦ absurd (omega (arith, a, b, w.1, i.1))
              | inr b ↦ inr (inr (omega (arith, b), omega (arith, a, b, i.1)))
            ]
          ]
    ]

pub in_from_between : (width : ℕ) (range : WrappingRange) (n : ℕ) → AreWithin width range → n < numbers_of width
    → IsBetween range.start range.end n → IsIn width range n
in_from_between width range n w h b =
    let all = numbers_of width in
    let t = distance all range.start n w.0 h in
    let d = distance all range.start range.end w.0 w.1 in
    let near : t.0 ≤ d.0 = elim t.1.is [
      | inl x ↦ elim d.1.is [
        | inl y ↦ elim b [ inl z ↦ omega (arith, x, y, z) | inr z ↦ elim z [ inl u ↦ omega (arith, x, y, u) | inr u ↦ omega (arith, x, y, u) ] ]
        | inr y ↦ omega (arith, x, y, w.0, w.1, h)
      ]
      | inr x ↦ elim d.1.is [
        | inl y ↦ elim b [ inl z ↦ omega (arith, x, y, z) | inr z ↦ elim z [ inl u ↦ omega (arith, x, y, u) | inr u ↦ omega (arith, x, y, u) ] ]
        | inr y ↦ elim b [ inl z ↦ omega (arith, x, y, z) | inr z ↦ elim z [ inl u ↦ omega (arith, x, y, u) | inr u ↦ omega (arith, x, y, u) ] ]
      ]
    ] in (
      t.0,
      sym (arrive all range.start n t.0 w.0 h t.1),
      λ k l. before all range.start range.end d.0 k w.0 w.1 d.1 (omega (arith, l, near)),
    )

-- how many are free, by comparison
pub record IsFreeCount (all start end free : ℕ) : Type 0 where
  pub below : free < all
  pub is : ((start ≤ end) × (free + end + 1 ≡ start + all)) ⊎ ((end < start) × (free + end + 1 ≡ start))

pub free_by_comparison : (all start end : ℕ) → start < all → end < all
    → IsFreeCount all start end ((start + all - (end + 1)) % all)
free_by_comparison all start end s e =
    let cut = cut_once all (start + all - (end + 1)) (omega arith) in
    elim (cases_lt end start) [
      | inl l ↦ elim cut.is [
        | inl a ↦ absurd (omega (arith, a, l))
        | inr a ↦ record { below = cut.below; is = inr (l, omega (arith, a, l)) }
      ]
      | inr g ↦ elim cut.is [
        | inl a ↦ record { below = cut.below; is = inl (g, omega (arith, a, g)) }
        | inr a ↦ absurd (omega (arith, a, g, cut.below))
      ]
    ]

none_if_not : (n : ℕ) → (n ≢ 0 → ⊥) → n ≡ 0
none_if_not zero h = λ i. 0
none_if_not (suc n) h = absurd (h (λ e. cc))

-- a number after the end is free where some number is
pub free_after : (width : ℕ) (range : WrappingRange) → AreWithin width range → free_count width range ≢ 0
    → (n : ℕ) × IsFree width range n
free_after width range w some =
    let all = numbers_of width in
    let free = free_by_comparison all range.start range.end w.0 w.1 in
    elim (cases_lt (range.end + 1) all) [
      | inl l ↦ (
        range.end + 1,
        (
          l,
          λ i. elim (between_from_in width range (range.end + 1) w i) [
            | inl z ↦ omega (arith, z)
            | inr z ↦ elim z [
              | inl u ↦ some (elim free.is [ inl f ↦ omega (arith, f, u, w.0, w.1) | inr f ↦ omega (arith, f, u) ])
              | inr u ↦ omega (arith, u)
            ]
          ],
        ),
      )
      | inr g ↦ (
        0,
        (
          omega (arith, w.0),
          λ i. elim (between_from_in width range 0 w i) [
            | inl z ↦ some (elim free.is [ inl f ↦ omega (arith, f, z, g, w.1, free.below) | inr f ↦ omega (arith, f, z, g, w.1) ])
            | inr z ↦ elim z [ inl u ↦ omega (arith, u, g, w.0) | inr u ↦ omega (arith, u, g, w.0) ]
          ],
        ),
      )
    ]

-- and none is where the count is 0
pub none_free : (width : ℕ) (range : WrappingRange) (n : ℕ) → AreWithin width range → free_count width range ≡ 0
    → n < numbers_of width → IsIn width range n
none_free width range n w none h =
    let free = free_by_comparison (numbers_of width) range.start range.end w.0 w.1 in
    in_from_between width range n w h (elim free.is [
      | inl f ↦ inl (f.0, omega (arith, f, none, w.1), omega (arith, f, none, w.0, h))
      | inr f ↦ elim (cases_lt n range.start) [
        | inl l ↦ inr (inr (f.0, omega (arith, f, none, l)))
        | inr g ↦ inr (inl (f.0, g))
      ]
    ])

-- a full range has none free
pub full_none : (width : ℕ) (range : WrappingRange) → AreWithin width range → IsFull width range
    → free_count width range ≡ 0
full_none width range w full = none_if_not (free_count width range) (λ some. let f = free_after width range w some in f.1.1 (full f.0 f.1.0))

-- the steps between two numbers are their distance
pub steps_are : (width start end : ℕ) → start < numbers_of width → end < numbers_of width
    → IsDistance (numbers_of width) start end (steps_between width start end)
steps_are width start end s e =
    let all = numbers_of width in
    let cut = cut_once all (end + all - start) (omega arith) in
    elim (cases_lt end start) [
      | inl l ↦ record { below = cut.below; is = inr (l, elim cut.is [ inl a ↦ omega (arith, a, l) | inr a ↦ absurd (omega (arith, a, l, cut.below)) ]) }
      | inr g ↦ record { below = cut.below; is = inl (g, elim cut.is [ inl a ↦ absurd (omega (arith, a, g)) | inr a ↦ omega (arith, a, g) ]) }
    ]

-- two ways after one another
pub compose : (all a b c x y z : ℕ) → a < all → b < all → c < all → IsDistance all a b x → IsDistance all b c y → IsDistance all a c z
    → (x + y ≡ z) ⊎ (x + y ≡ z + all)
compose all a b c x y z ha hb hc dx dy dz =
    elim dx.is [
      | inl p ↦ elim dy.is [
        | inl q ↦ elim dz.is [ inl r ↦ inl (omega (arith, p, q, r)) | inr r ↦ absurd (omega (arith, p, q, r)) ]
        | inr q ↦ elim dz.is [ inl r ↦ inr (omega (arith, p, q, r)) | inr r ↦ inl (omega (arith, p, q, r)) ]
      ]
      | inr p ↦ elim dy.is [
        | inl q ↦ elim dz.is [ inl r ↦ inr (omega (arith, p, q, r)) | inr r ↦ inl (omega (arith, p, q, r)) ]
        | inr q ↦ elim dz.is [ inl r ↦ absurd (omega (arith, p, q, r, dz.below)) | inr r ↦ inr (omega (arith, p, q, r)) ]
      ]
    ]

-- membership by steps from the start
pub in_from_steps : (width : ℕ) (range : WrappingRange) (n : ℕ) → AreWithin width range → n < numbers_of width
    → steps_between width range.start n ≤ steps_between width range.start range.end → IsIn width range n
in_from_steps width range n w h near =
    let all = numbers_of width in
    let t = steps_between width range.start n in
    let d = steps_between width range.start range.end in
    let t_is = steps_are width range.start n w.0 h in
    let d_is = steps_are width range.start range.end w.0 w.1 in
    (t, sym (arrive all range.start n t w.0 h t_is), λ k l. before all range.start range.end d k w.0 w.1 d_is (omega (arith, l, near)))

pub steps_from_in : (width : ℕ) (range : WrappingRange) (n : ℕ) → AreWithin width range → n < numbers_of width → IsIn width range n
    → steps_between width range.start n ≤ steps_between width range.start range.end
steps_from_in width range n w h i =
    let all = numbers_of width in
    let t = steps_between width range.start n in
    let d = steps_between width range.start range.end in
    let t_is = steps_are width range.start n w.0 h in
    let d_is = steps_are width range.start range.end w.0 w.1 in
    elim (cases_lt d i.0) [
      | inl l ↦ absurd (i.2 d l (arrive all range.start range.end d w.0 w.1 d_is))
      | inr g ↦
          let cut = cut_once all (range.start + i.0) (omega (arith, g, d_is.below, w.0)) in
          elim cut.is [
            | inl a ↦ elim t_is.is [ inl b ↦ omega (arith, a, b, g, i.1) | inr b ↦ omega (arith, a, b, g, i.1) ]
            | inr a ↦ elim t_is.is [ inl b ↦ absurd (omega (arith, a, b, g, i.1, d_is.below)) | inr b ↦ omega (arith, a, b, g, i.1) ]
          ]
    ]

-- a member is a number of the width
pub below_from_in : (width : ℕ) (range : WrappingRange) (n : ℕ) → AreWithin width range → IsIn width range n → n < numbers_of width
below_from_in width range n w i = omega (arith, i.1, mod_below (range.start + i.0) (numbers_of width) (omega (arith, w.0)))

-- inclusion by steps from the start
pub included : (width : ℕ) (range other : WrappingRange) → AreWithin width range → AreWithin width other
    → steps_between width range.start other.start ≤ steps_between width range.start other.end
    → steps_between width range.start other.end ≤ steps_between width range.start range.end → Includes width range other
included width range other w v first last n i =
    let all = numbers_of width in
    let h = below_from_in width other n v i in
    let near = steps_from_in width other n v h i in
    let a = steps_are width range.start other.start w.0 v.0 in
    let b = steps_are width other.start other.end v.0 v.1 in
    let c = steps_are width range.start other.end w.0 v.1 in
    let d = steps_are width other.start n v.0 h in
    let e = steps_are width range.start n w.0 h in
    in_from_steps width range n w h (elim (compose all range.start other.start other.end _ _ _ w.0 v.0 v.1 a b c) [
      | inl p ↦ elim (compose all range.start other.start n _ _ _ w.0 v.0 h a d e) [
        | inl q ↦ omega (arith, near, first, last, p, q)
        | inr q ↦ omega (arith, near, first, last, p, q, c.below)
      ]
      | inr p ↦ absurd (omega (arith, first, p, b.below))
    ])

-- the ends are in the range
pub end_in : (width : ℕ) (range : WrappingRange) → AreWithin width range → IsIn width range range.end
end_in width range w = in_from_steps width range range.end w w.1 (omega arith)

pub start_in : (width : ℕ) (range : WrappingRange) → AreWithin width range → IsIn width range range.start
start_in width range w =
    let t = steps_are width range.start range.start w.0 w.0 in
    in_from_steps width range range.start w w.0 (elim t.is [ inl a ↦ omega (arith, a) | inr a ↦ absurd (omega (arith, a)) ])

-- a range that is as long as can be is full
pub full_from_reach : (width : ℕ) (range : WrappingRange) → AreWithin width range
    → numbers_of width ≤ steps_between width range.start range.end + 1 → IsFull width range
full_from_reach width range w long n h =
    in_from_steps width range n w h (omega (arith, (steps_are width range.start n w.0 h).below))

-- the number before
before_start : (all start : ℕ) → start < all → (n : ℕ) × (n < all) × IsDistance all start n (all - 1)
before_start all start h =
    elim (cases_lt 0 start) [
      | inl l ↦ (start - 1, omega arith, record { below = omega arith; is = inr (omega arith, omega arith) })
      | inr g ↦ (all - 1, omega arith, record { below = omega arith; is = inl (omega arith, omega arith) })
    ]

pub same_distance : (all a b x y : ℕ) → a < all → b < all → IsDistance all a b x → IsDistance all a b y → x ≡ y
same_distance all a b x y ha hb dx dy =
    elim dx.is [
      | inl p ↦ elim dy.is [ inl q ↦ omega (arith, p, q) | inr q ↦ absurd (omega (arith, p, q)) ]
      | inr p ↦ elim dy.is [ inl q ↦ absurd (omega (arith, p, q)) | inr q ↦ omega (arith, p, q) ]
    ]

pub last_from_included : (width : ℕ) (range other : WrappingRange) → AreWithin width range → AreWithin width other
    → Includes width range other
    → steps_between width range.start other.end ≤ steps_between width range.start range.end
last_from_included width range other w v inc = steps_from_in width range other.end w v.1 (inc other.end (end_in width other v))

pub first_from_included : (width : ℕ) (range other : WrappingRange) → AreWithin width range → AreWithin width other
    → (IsFull width range → ⊥) → Includes width range other
    → steps_between width range.start other.start ≤ steps_between width range.start other.end
first_from_included width range other w v some inc =
    let all = numbers_of width in
    let first = steps_between width range.start other.start in
    let last = steps_between width range.start other.end in
    elim (cases_lt last first) [
      | inl l ↦
          let z = before_start all range.start w.0 in
          let a = steps_are width range.start other.start w.0 v.0 in
          let b = steps_are width other.start other.end v.0 v.1 in
          let c = steps_are width range.start other.end w.0 v.1 in
          let d = steps_are width other.start z.0 v.0 z.1 in
          let e = steps_are width range.start z.0 w.0 z.1 in
          let far = same_distance all range.start z.0 _ _ w.0 z.1 e z.2 in
          let near : steps_between width other.start z.0 ≤ steps_between width other.start other.end =
          elim (compose all range.start other.start other.end _ _ _ w.0 v.0 v.1 a b c) [
            | inl p ↦ absurd (omega (arith, l, p))
            | inr p ↦ elim (compose all range.start other.start z.0 _ _ _ w.0 v.0 z.1 a d e) [
              | inl q ↦ omega (arith, l, p, q, far)
              | inr q ↦ absurd (omega (arith, q, far, a.below, d.below))
            ]
          ] in
          let reached = steps_from_in width range z.0 w z.1 (inc z.0 (in_from_steps width other z.0 v z.1 near)) in
          absurd (some (full_from_reach width range w (omega (arith, reached, far))))
      | inr g ↦ g
    ]
