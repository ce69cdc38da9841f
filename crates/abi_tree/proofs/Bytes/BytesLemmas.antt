-- A number as bytes, and bytes put over others.
use Rattle.std.proofs.Common.{List, [], ap, arith, drop, get_or, inl, inr, length, length-append, length-drop, length-take, refl, reverse, subst, suc, sym, take, zero, ℕ, ⊎_elim, ◌%◌, ◌*◌, ◌++◌, ◌+◌, ◌-◌, ◌/◌, ◌<◌, ◌^◌, ◌∙◌, ◌∷◌, ◌≡◌, ◌≤◌, ◌⊎◌}
use Rattle.std.proofs.lemmas.List.{drop-drop, drop_at, get_or-drop, get_or-reverse, get_or-take, get_or_append_left, get_or_default, length-reverse, length-take-le, reverse-reverse, same_lists, take_at}
use Rattle.std.proofs.lemmas.List.Elements.{All-nil, All-cons, All-append, All-take, All-drop}
use Rattle.std.proofs.lemmas.Nat.{pow-add, div_below, mod_below}
use Rattle.abi_base.specs.declared.endian.Endian.{Endian}
use Rattle.abi_base.specs.declared.endian.Endian.TheVariants.{Little, Big}
use Rattle.abi_scalar.specs.Range.{numbers_of}
use Rattle.abi_tree.specs.Bytes.{AreBytes, bytes_at, little, number_of}

pub numbers_of-suc : (w : ℕ) → numbers_of (suc w) ≡ numbers_of w * 256
numbers_of-suc w =
    let e : 8 * suc w ≡ 8 * w + 8 = omega arith in
    ap (λ k. 2 ^ k) e ∙ pow-add 2 (8 * w) 8

-- a number's bytes, the least first
abbrev pub spelled : ℕ → ℕ → List ℕ
spelled zero n = []
spelled (suc w) n = n % 256 ∷ spelled w (n / 256)

length-spelled : (w n : ℕ) → length (spelled w n) ≡ w
length-spelled zero n = refl
length-spelled (suc w) n = ap suc (length-spelled w (n / 256))

little-spelled : (w n : ℕ) → n < numbers_of w → little (spelled w n) ≡ n
little-spelled zero n lt = omega arith
little-spelled (suc w) n lt =
    let below : n < numbers_of w * 256 = subst (λ k. n < k) (numbers_of-suc w) lt in
    let same = little-spelled w (n / 256) (div_below n 256 (numbers_of w) (omega arith) below) in
    omega arith

AreBytes-spelled : (w n : ℕ) → AreBytes (spelled w n)
AreBytes-spelled zero n = All-nil (λ b. b < 256)
AreBytes-spelled (suc w) n = All-cons (λ b. b < 256) (n % 256) (spelled w (n / 256)) (mod_below n 256 (omega arith)) (AreBytes-spelled w (n / 256))

pub AreBytes-reverse : (bytes : List ℕ) → AreBytes bytes → AreBytes (reverse bytes)
AreBytes-reverse bytes all = λ k d lt.
    let inside : k < length bytes = omega (arith, length-reverse bytes) in
    subst (λ b. b < 256) (sym (get_or-reverse bytes k d inside)) (all (length bytes - 1 - k) d (omega arith))

-- a number's bytes in an order
abbrev pub spelled_in : Endian → ℕ → ℕ → List ℕ
spelled_in Little w n = spelled w n
spelled_in Big w n = reverse (spelled w n)

pub length-spelled_in : (order : Endian) (w n : ℕ) → length (spelled_in order w n) ≡ w
length-spelled_in Little w n = length-spelled w n
length-spelled_in Big w n = length-reverse (spelled w n) ∙ length-spelled w n

pub number_of-spelled_in : (order : Endian) (w n : ℕ) → n < numbers_of w → number_of order (spelled_in order w n) ≡ n
number_of-spelled_in Little w n lt = little-spelled w n lt
number_of-spelled_in Big w n lt = ap little (reverse-reverse (spelled w n)) ∙ little-spelled w n lt

pub AreBytes-spelled_in : (order : Endian) (w n : ℕ) → AreBytes (spelled_in order w n)
AreBytes-spelled_in Little w n = AreBytes-spelled w n
AreBytes-spelled_in Big w n = AreBytes-reverse (spelled w n) (AreBytes-spelled w n)

-- bytes put over others, from an offset on
abbrev pub put : List ℕ → ℕ → List ℕ → List ℕ
put bytes offset part = take offset bytes ++ (part ++ drop (offset + length part) bytes)

module _ (bytes part : List ℕ) (offset : ℕ) (fits : offset + length part ≤ length bytes) where
  pub length-put : length (put bytes offset part) ≡ length bytes
  length-put =
      omega (
        arith,
        length-append (take offset bytes) (part ++ drop (offset + length part) bytes),
        length-append part (drop (offset + length part) bytes),
        length-take-le offset bytes (omega arith),
        length-drop (offset + length part) bytes,
      )

  drop-put : drop offset (put bytes offset part) ≡ part ++ drop (offset + length part) bytes
  drop-put = drop_at (take offset bytes) _ offset (length-take-le offset bytes (omega arith))

  -- where they were put
  pub bytes_at-put : bytes_at (put bytes offset part) offset (length part) ≡ part
  bytes_at-put = ap (take (length part)) drop-put ∙ take_at part _ (length part) refl

  -- after them
  pub drop-put_after : (n : ℕ) → offset + length part ≤ n → drop n (put bytes offset part) ≡ drop n bytes
  drop-put_after n le =
      let m : ℕ = n - (offset + length part) in
      let e : n ≡ offset + length part + m = omega arith in
      let cut : drop (offset + length part) (put bytes offset part) ≡ drop (offset + length part) bytes =
      sym (drop-drop (length part) offset (put bytes offset part)) ∙ ap (drop (length part)) drop-put ∙ drop_at part _ (length part) refl in
      ap (λ i. drop i (put bytes offset part)) e
      ∙ sym (drop-drop m (offset + length part) (put bytes offset part)) ∙ ap (drop m) cut
      ∙ drop-drop m (offset + length part) bytes ∙ ap (λ i. drop i bytes) (sym e)

pub AreBytes-put : (bytes part : List ℕ) (offset : ℕ) → AreBytes bytes → AreBytes part → AreBytes (put bytes offset part)
AreBytes-put bytes part offset h k =
    All-append (λ b. b < 256) (take offset bytes) _ (All-take (λ b. b < 256) offset bytes h)
    (All-append (λ b. b < 256) part _ k (All-drop (λ b. b < 256) (offset + length part) bytes h))

-- bytes are as they were outside what was put
pub get_or-put_other : (bytes part : List ℕ) (offset : ℕ) → offset + length part ≤ length bytes → (k : ℕ) → (k < offset) ⊎ (offset + length part ≤ k) →
    get_or (put bytes offset part) k 0 ≡ get_or bytes k 0
get_or-put_other bytes part offset fits k outside =
    ⊎_elim
    (λ before.
    let long : k < length (take offset bytes) = omega (arith, length-take-le offset bytes (omega arith)) in
    get_or_append_left (take offset bytes) (part ++ drop (offset + length part) bytes) 0 k long ∙ get_or-take offset bytes k 0 before)
    (λ after.
    let n : ℕ = offset + length part in
    let e : k ≡ n + (k - n) = omega arith in
    ap (λ i. get_or (put bytes offset part) i 0) e ∙ sym (get_or-drop n (put bytes offset part) (k - n) 0)
    ∙ ap (λ l. get_or l (k - n) 0) (drop-put_after bytes part offset fits n (omega arith))
    ∙ get_or-drop n bytes (k - n) 0 ∙ ap (λ i. get_or bytes i 0) (sym e))
    outside

-- lists that agree at each place
pub same_bytes : (xs ys : List ℕ) (n : ℕ) → length xs ≡ n → length ys ≡ n → ((k : ℕ) → k < n → get_or xs k 0 ≡ get_or ys k 0) → xs ≡ ys
same_bytes xs ys n ex ey agree =
    same_lists xs ys (ex ∙ sym ey)
    (λ k d lt.
    let in_x : k < n = omega arith in
    let in_y : k < length ys = omega arith in
    get_or_default xs k d 0 lt ∙ agree k in_x ∙ get_or_default ys k 0 d in_y)

-- a part beside what was put
pub bytes_at-put_other : (bytes part : List ℕ) (offset : ℕ) → offset + length part ≤ length bytes → (o n : ℕ) → o + n ≤ length bytes → (o + n ≤ offset) ⊎ (offset + length part ≤ o) →
    bytes_at (put bytes offset part) o n ≡ bytes_at bytes o n
bytes_at-put_other bytes part offset fits o n inside apart =
    let long = length-put bytes part offset fits in
    same_bytes (bytes_at (put bytes offset part) o n) (bytes_at bytes o n) n
    (omega (arith, length-take n (drop o (put bytes offset part)), length-drop o (put bytes offset part)))
    (omega (arith, length-take n (drop o bytes), length-drop o bytes))
    (λ k lt.
    let outside : (o + k < offset) ⊎ (offset + length part ≤ o + k) = ⊎_elim (λ before. inl (omega arith)) (λ after. inr (omega arith)) apart in
    get_or-take n (drop o (put bytes offset part)) k 0 lt ∙ get_or-drop o (put bytes offset part) k 0
    ∙ get_or-put_other bytes part offset fits (o + k) outside
    ∙ sym (get_or-take n (drop o bytes) k 0 lt ∙ get_or-drop o bytes k 0))

pub AreBytes-bytes_at : (bytes : List ℕ) (offset n : ℕ) → AreBytes bytes → AreBytes (bytes_at bytes offset n)
AreBytes-bytes_at bytes offset n all = All-take (λ b. b < 256) n (drop offset bytes) (All-drop (λ b. b < 256) offset bytes all)
