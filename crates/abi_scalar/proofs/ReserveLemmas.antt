-- Ranges as arcs: what moving an end adds.
use Rattle.std.proofs.Common.{◌≡◌, ℕ, ◌+◌, ◌-◌, ◌*◌, ◌%◌, ◌<◌, ◌≤◌, ◌⊎◌, inl, inr, arith, sym, refl, subst, Bool, true, false, if◌then◌else◌}
use Rattle.std.proofs.lemmas.Bool.{cases_lt}
use Rattle.std.proofs.lemmas.Nat.{mod_below, pow_pos}
use Rattle.abi_scalar.specs.declared.wrapping_range.WrappingRange.{WrappingRange}
use Rattle.abi_scalar.specs.Range.{numbers_of, IsIn, AreWithin, steps_between, free_count}
use Rattle.abi_base.specs.declared.data_layout.TargetDataLayout.{TargetDataLayout}
use Rattle.abi_scalar.specs.declared.niche.Niche.{Niche}
use Rattle.abi_scalar.specs.declared.scalar.Scalar.{Scalar}
use Rattle.abi_scalar.specs.declared.scalar.Scalar.TheVariants.{Initialized}
use Rattle.abi_scalar.specs.Scalar.{range_of}
use Rattle.abi_scalar.specs.Niche.{niche_size, available_in}
use Rattle.abi_scalar.specs.Reserve.{HandsOut, stepped_on, stepped_back, start_moved, end_moved, moves_start, reserved}
use Rattle.abi_scalar.proofs.GapLemmas.{twice_half}
use Rattle.abi_scalar.proofs.RangeLemmas.{IsDistance, cut_once, compose, steps_are, in_from_steps, steps_from_in, below_from_in, free_by_comparison}

-- an arc: a range whose ends are so many steps after some number
pub record IsArc (width origin : ℕ) (range : WrappingRange) (i j : ℕ) : Type 0 where
  pub within : AreWithin width range
  pub from : IsDistance (numbers_of width) origin range.start i
  pub to : IsDistance (numbers_of width) origin range.end j
  pub order : i ≤ j

-- membership in an arc
pub arc_in : (width origin : ℕ) (range : WrappingRange) (i j n q : ℕ) → origin < numbers_of width → IsArc width origin range i j
    → n < numbers_of width → IsDistance (numbers_of width) origin n q → IsIn width range n → (i ≤ q) × (q ≤ j)
arc_in width origin range i j n q ho arc h dq is =
    let all = numbers_of width in
    let w = arc.within in
    let d = steps_are width range.start range.end w.0 w.1 in
    let t = steps_are width range.start n w.0 h in
    let near = steps_from_in width range n w h is in
    elim (compose all origin range.start range.end _ _ _ ho w.0 w.1 arc.from d arc.to) [
      | inl x ↦ elim (compose all origin range.start n _ _ _ ho w.0 h arc.from t dq) [
        | inl y ↦ (omega (arith, y), omega (arith, x, y, near))
        | inr y ↦ absurd (omega (arith, x, y, near, arc.to.below))
      ]
      | inr x ↦ absurd (omega (arith, x, arc.order, d.below))
    ]

pub in_arc : (width origin : ℕ) (range : WrappingRange) (i j n q : ℕ) → origin < numbers_of width → IsArc width origin range i j
    → n < numbers_of width → IsDistance (numbers_of width) origin n q → i ≤ q → q ≤ j → IsIn width range n
in_arc width origin range i j n q ho arc h dq low high =
    let all = numbers_of width in
    let w = arc.within in
    let d = steps_are width range.start range.end w.0 w.1 in
    let t = steps_are width range.start n w.0 h in
    in_from_steps width range n w h (
    elim (compose all origin range.start range.end _ _ _ ho w.0 w.1 arc.from d arc.to) [
      | inl x ↦ elim (compose all origin range.start n _ _ _ ho w.0 h arc.from t dq) [
        | inl y ↦ omega (arith, x, y, low, high)
        | inr y ↦ absurd (omega (arith, y, low, t.below))
      ]
      | inr x ↦ absurd (omega (arith, x, arc.order, d.below))
    ])

-- so many steps on from a number
pub further : (all origin n m k : ℕ) → origin < all → n < all → IsDistance all origin n m → m + k < all
    → IsDistance all origin ((n + k) % all) (m + k)
further all origin n m k ho h d small =
    let cut = cut_once all (n + k) (omega (arith, small)) in
    record {
      below = small;
      is = elim cut.is [
        | inl a ↦ elim d.is [
          | inl b ↦ inl (omega (arith, a, b), omega (arith, a, b))
          | inr b ↦ elim (cases_lt ((n + k) % all) origin) [
            | inl l ↦ inr (l, omega (arith, a, b))
            | inr g ↦ absurd (omega (arith, a, b, g, small))
          ]
        ]
        | inr a ↦ elim d.is [ inl b ↦ inr (omega (arith, a, b, small), omega (arith, a, b)) | inr b ↦ absurd (omega (arith, a, b, small)) ]
      ];
    }

-- at one distance there is one number
pub same_place : (all origin x y q : ℕ) → x < all → y < all → IsDistance all origin x q → IsDistance all origin y q → x ≡ y
same_place all origin x y q hx hy dx dy =
    elim dx.is [
      | inl a ↦ elim dy.is [ inl b ↦ omega (arith, a, b) | inr b ↦ absurd (omega (arith, a, b, hx)) ]
      | inr a ↦ elim dy.is [ inl b ↦ absurd (omega (arith, a, b, hy)) | inr b ↦ omega (arith, a, b) ]
    ]

-- a number that is far enough is reached from another on the way
reached : (all origin first n m q : ℕ) → origin < all → first < all → n < all → IsDistance all origin first m
    → IsDistance all origin n q → m ≤ q → n ≡ (first + (q - m)) % all
reached all origin first n m q ho hf h df dq far =
    let e : m + (q - m) ≡ q = omega (arith, far) in
    let there = further all origin first m (q - m) ho hf df (omega (arith, far, dq.below)) in
    same_place all origin n ((first + (q - m)) % all) (m + (q - m)) h (mod_below (first + (q - m)) all (omega (arith, ho))) (rw e dq) there

-- two arcs that differ by `count` numbers beside the first
pub arcs_hand_out : (width origin : ℕ) (old new : WrappingRange) (i j i' j' first m count : ℕ) → origin < numbers_of width
    → IsArc width origin old i j → IsArc width origin new i' j' → first < numbers_of width
    → IsDistance (numbers_of width) origin first m → m + count ≤ numbers_of width
    → ((m + count ≡ i) × (i' ≡ m) × (j' ≡ j)) ⊎ ((m ≡ j + 1) × (i' ≡ i) × (j' + 1 ≡ m + count))
    → HandsOut width old new first count
arcs_hand_out width origin old new i j i' j' first m count ho a b hf df room beside =
    let all = numbers_of width in
    let place = λ (k : ℕ) (l : k < count). further all origin first m k ho hf df (omega (arith, room, l)) in
    let small = λ (k : ℕ). mod_below (first + k) all (omega (arith, ho)) in
    record {
      within = b.within;
      were_free = λ k l. (
        small k,
        λ is.
            let o = arc_in width origin old i j (stepped_on width first k) (m + k) ho a (small k) (place k l) is in
            elim beside [ inl x ↦ omega (arith, x, o.0, l) | inr x ↦ omega (arith, x, o.1) ],
      );
      members = λ n. (
        λ is.
            let h = below_from_in width new n b.within is in
            let q = steps_between width origin n in
            let dq = steps_are width origin n ho h in
            let o = arc_in width origin new i' j' n q ho b h dq is in
            elim beside [
              | inl x ↦ elim (cases_lt q i) [
                | inl l ↦ inr (q - m, omega (arith, x, l, o.0), reached all origin first n m q ho hf h df dq (omega (arith, x, o.0)))
                | inr g ↦ inl (in_arc width origin old i j n q ho a h dq g (omega (arith, x, o.1)))
              ]
              | inr x ↦ elim (cases_lt j q) [
                | inl l ↦ inr (q - m, omega (arith, x, l, o.1), reached all origin first n m q ho hf h df dq (omega (arith, x, l)))
                | inr g ↦ inl (in_arc width origin old i j n q ho a h dq (omega (arith, x, o.0)) g)
              ]
            ],
        λ either. elim either [
          | inl is ↦
              let h = below_from_in width old n a.within is in
              let q = steps_between width origin n in
              let dq = steps_are width origin n ho h in
              let o = arc_in width origin old i j n q ho a h dq is in
              in_arc width origin new i' j' n q ho b h dq
              (elim beside [ inl x ↦ omega (arith, x, o.0) | inr x ↦ omega (arith, x, o.0) ])
              (elim beside [ inl x ↦ omega (arith, x, o.1) | inr x ↦ omega (arith, x, o.1, room) ])
          | inr k ↦
              let P : ℕ → Type 0 = λ x. IsIn width new x in
              subst P (sym k.2) (in_arc width origin new i' j' (stepped_on width first k.0) (m + k.0) ho b (small k.0) (place k.0 k.1)
              (elim beside [ inl x ↦ omega (arith, x) | inr x ↦ omega (arith, x, a.order) ])
              (elim beside [ inl x ↦ omega (arith, x, k.1, a.order) | inr x ↦ omega (arith, x, k.1) ]))
        ],
      );
    }

-- two ways that stay below the whole
extend : (all a b c x y : ℕ) → a < all → b < all → c < all → IsDistance all a b x → IsDistance all b c y → x + y < all
    → IsDistance all a c (x + y)
extend all a b c x y ha hb hc dx dy small =
    elim (cases_lt c a) [
      | inl l ↦ record {
        below = small;
        is = inr (
          l,
          elim dx.is [
            | inl p ↦ elim dy.is [ inl q ↦ absurd (omega (arith, p, q, l)) | inr q ↦ omega (arith, p, q) ]
            | inr p ↦ elim dy.is [ inl q ↦ omega (arith, p, q) | inr q ↦ absurd (omega (arith, p, q, small)) ]
          ],
        );
      }
      | inr g ↦ record {
        below = small;
        is = inl (
          g,
          elim dx.is [
            | inl p ↦ elim dy.is [ inl q ↦ omega (arith, p, q) | inr q ↦ absurd (omega (arith, p, q, g, small)) ]
            | inr p ↦ elim dy.is [ inl q ↦ absurd (omega (arith, p, q, g, small)) | inr q ↦ absurd (omega (arith, p, q, small)) ]
          ],
        );
      }
    ]

-- what is free and what is reached are all
pub free_and_reach : (width : ℕ) (range : WrappingRange) → AreWithin width range
    → free_count width range + steps_between width range.start range.end + 1 ≡ numbers_of width
free_and_reach width range w =
    let f = free_by_comparison (numbers_of width) range.start range.end w.0 w.1 in
    let d = steps_are width range.start range.end w.0 w.1 in
    elim f.is [
      | inl p ↦ elim d.is [ inl q ↦ omega (arith, p, q) | inr q ↦ absurd (omega (arith, p, q)) ]
      | inr p ↦ elim d.is [ inl q ↦ absurd (omega (arith, p, q)) | inr q ↦ omega (arith, p, q) ]
    ]

back_distance : (all start count : ℕ) → start < all → count < all → IsDistance all ((start + all - count) % all) start count
back_distance all start count hs hc =
    let cut = cut_once all (start + all - count) (omega (arith, hs)) in
    record {
      below = hc;
      is = elim (cases_lt start ((start + all - count) % all)) [
        | inl l ↦ inr (l, elim cut.is [ inl a ↦ omega (arith, a) | inr a ↦ absurd (omega (arith, a, l)) ])
        | inr g ↦ inl (g, elim cut.is [ inl a ↦ absurd (omega (arith, a, g, hc)) | inr a ↦ omega (arith, a, hs, hc) ])
      ];
    }

pub start_handed : (width : ℕ) (range : WrappingRange) (count : ℕ) → AreWithin width range → 1 ≤ count
    → count ≤ free_count width range
    → HandsOut width range (start_moved width range count) (stepped_back width range.start count) count
start_handed width range count w some room =
    let all = numbers_of width in
    let whole = free_and_reach width range w in
    let reach = steps_between width range.start range.end in
    let d = steps_are width range.start range.end w.0 w.1 in
    let origin = stepped_back width range.start count in
    let ho : origin < all = mod_below (range.start + all - count) all (omega (arith, w.0)) in
    let back = back_distance all range.start count w.0 (omega (arith, whole, room)) in
    let far = extend all origin range.start range.end count reach ho w.0 w.1 back d (omega (arith, whole, room)) in
    let here : IsDistance all origin origin 0 = record { below = omega (arith, ho); is = inl (omega arith, omega arith) } in
    arcs_hand_out width origin range (start_moved width range count) count (count + reach) 0 (count + reach) origin 0 count ho
    (record { within = w; from = back; to = far; order = omega arith })
    (record { within = (ho, w.1); from = here; to = far; order = omega arith })
    ho here (omega (arith, whole, room)) (inl (omega arith, refl, refl))

pub end_handed : (width : ℕ) (range : WrappingRange) (count : ℕ) → AreWithin width range → 1 ≤ count
    → count ≤ free_count width range
    → HandsOut width range (end_moved width range count) (stepped_on width range.end 1) count
end_handed width range count w some room =
    let all = numbers_of width in
    let whole = free_and_reach width range w in
    let reach = steps_between width range.start range.end in
    let d = steps_are width range.start range.end w.0 w.1 in
    let far = further all range.start range.end reach count w.0 w.1 d (omega (arith, whole, room)) in
    let next = further all range.start range.end reach 1 w.0 w.1 d (omega (arith, whole, room, some)) in
    let here : IsDistance all range.start range.start 0 = record { below = omega (arith, w.0); is = inl (omega arith, omega arith) } in
    let small = λ (k : ℕ). mod_below (range.end + k) all (omega (arith, w.0)) in
    arcs_hand_out width range.start range (end_moved width range count) 0 reach 0 (reach + count) (stepped_on width range.end 1) (reach + 1) count w.0
    (record { within = w; from = here; to = d; order = omega arith })
    (record { within = (w.0, small count); from = here; to = far; order = omega arith })
    (small 1) next (omega (arith, whole, room)) (inr (refl, refl, omega arith))

either : (dl : TargetDataLayout) (niche : Niche) (count : ℕ) (start : Bool)
    → AreWithin (niche_size dl niche) niche.valid_range → 1 ≤ count → count ≤ available_in dl niche
    → let handed : ℕ × Scalar = if start
    then (stepped_back (niche_size dl niche) niche.valid_range.start count, Initialized niche.value (start_moved (niche_size dl niche) niche.valid_range count))
    else (stepped_on (niche_size dl niche) niche.valid_range.end 1, Initialized niche.value (end_moved (niche_size dl niche) niche.valid_range count)) in
    HandsOut (niche_size dl niche) niche.valid_range (range_of dl handed.1) handed.0 count
either dl niche count true w some room = start_handed (niche_size dl niche) niche.valid_range count w some room
either dl niche count false w some room = end_handed (niche_size dl niche) niche.valid_range count w some room

-- what `reserved` names
pub reserved_hands_out : (dl : TargetDataLayout) (niche : Niche) (count : ℕ) (handed : ℕ × Scalar)
    → AreWithin (niche_size dl niche) niche.valid_range → 1 ≤ count → count ≤ available_in dl niche
    → handed ≡ reserved dl niche count
    → HandsOut (niche_size dl niche) niche.valid_range (range_of dl handed.1) handed.0 count
reserved_hands_out dl niche count handed w some room e =
    let P : ℕ × Scalar → Type 0 = λ h. HandsOut (niche_size dl niche) niche.valid_range (range_of dl h.1) h.0 count in
    subst P (sym e) (either dl niche count (moves_start (niche_size dl niche) niche.valid_range count) w some room)

pub one_below : (width : ℕ) → 1 ≤ width → 1 < numbers_of width
one_below width some = omega (arith, twice_half width some, pow_pos (8 * width - 1))
