-- Bytes that hold a value, and parts of bytes.
use Rattle.std.proofs.Common.{◌≡◌, ℕ, ◌+◌, ◌-◌, ◌≤◌, List, length, take, drop, get_or, min, arith, sym, ap, ◌∙◌, subst, ⊎_elim, Some, length-take, length-drop}
use Rattle.std.proofs.lemmas.List.{get_or-take, get_or-drop, get_or_past, drop-drop, drop-take, take-take}
use Rattle.std.proofs.lemmas.Bool.{cases_lt}
use Rattle.std.specs.Prelude.{IfSome, true}
use Rattle.abi_base.specs.declared.data_layout.TargetDataLayout.{TargetDataLayout}
use Rattle.abi_base.specs.declared.endian.Endian.{Endian}
use Rattle.abi_scalar.specs.declared.niche.Niche.{Niche}
use Rattle.abi_scalar.specs.Range.{IsIn}
use Rattle.abi_scalar.specs.Niche.{niche_size}
use Rattle.abi_tree.specs.Bytes.{bytes_at, number_of}
use Rattle.abi_tree.specs.Value.{Value, number, two, list, variant, state, bytes}
use Rattle.abi_tree.specs.Placed.{Placed, scalar, pair, never, elements, vector, fields, union, single, tagged, states, size_of, niche_of}
use Rattle.abi_tree.specs.Places.{is_data_place}
use Rattle.abi_tree.specs.Holding.{Holds}
use Rattle.abi_tree.specs.Faithful.{AgreeOn, IsNicheTrue, IsNicheInside}

pub length-bytes_at : (b : List ℕ) (offset n : ℕ) → length (bytes_at b offset n) ≡ min n (length b - offset)
length-bytes_at b offset n = length-take n (drop offset b) ∙ ap (min n) (length-drop offset b)

-- a part of a part
pub bytes_at-bytes_at : (b : List ℕ) (offset n m w : ℕ) → m + w ≤ n → bytes_at (bytes_at b offset n) m w ≡ bytes_at b (offset + m) w
bytes_at-bytes_at b offset n m w le =
    let e : n ≡ m + (n - m) = omega arith in
    let short : w ≤ n - m = omega arith in
    ap (λ i. take w (drop m (take i (drop offset b)))) e
    ∙ ap (take w) (drop-take m (n - m) (drop offset b))
    ∙ take-take w (n - m) (drop m (drop offset b)) short
    ∙ ap (take w) (drop-drop m offset b)

-- what lies behind an offset stays as it is behind a later one
pub drop_later : (xs ys : List ℕ) (start offset : ℕ) → start ≤ offset → drop start xs ≡ drop start ys → drop offset xs ≡ drop offset ys
drop_later xs ys start offset le same =
    let e : offset ≡ start + (offset - start) = omega arith in
    ap (λ i. drop i xs) e ∙ sym (drop-drop (offset - start) start xs) ∙ ap (drop (offset - start)) same
    ∙ drop-drop (offset - start) start ys ∙ ap (λ i. drop i ys) (sym e)

-- parts agree where the wholes do
pub AgreeOn-bytes_at : (placed : Placed) (xs ys : List ℕ) (offset n : ℕ) → length xs ≡ length ys →
    ((j : ℕ) → is_data_place placed j ≡ true → get_or xs (offset + j) 0 ≡ get_or ys (offset + j) 0) → AgreeOn placed (bytes_at xs offset n) (bytes_at ys offset n)
AgreeOn-bytes_at placed xs ys offset n same agree j place =
    ⊎_elim
    (λ lt. get_or-take n (drop offset xs) j 0 lt ∙ get_or-drop offset xs j 0 ∙ agree j place
    ∙ sym (get_or-take n (drop offset ys) j 0 lt ∙ get_or-drop offset ys j 0))
    (λ le. get_or_past (bytes_at xs offset n) j 0 (omega (arith, length-bytes_at xs offset n))
    ∙ sym (get_or_past (bytes_at ys offset n) j 0 (omega (arith, length-bytes_at ys offset n))))
    (cases_lt j n)

-- a niche that a part at this offset has
pub record IsNicheAt (offset : ℕ) (placed : Placed) (n : Niche) : Type 0 where
  pub own : Niche
  pub of_part : niche_of placed ≡ Some own
  pub offset_is : n.offset ≡ offset + own.offset
  pub value_is : n.value ≡ own.value
  pub range_is : n.valid_range ≡ own.valid_range

module _ (dl : TargetDataLayout) (placed : Placed) (offset : ℕ) (n : Niche) (at : IsNicheAt offset placed n) (inside : IsNicheInside dl placed) where
  same_size : niche_size dl n ≡ niche_size dl at.own
  same_size = ap (λ v. niche_size dl (record { offset = 0; value = v; valid_range = at.own.valid_range })) at.value_is

  inside_own : at.own.offset + niche_size dl at.own ≤ size_of placed
  inside_own =
      let h : IfSome (Some at.own) (λ m. m.offset + niche_size dl m ≤ size_of placed) = rw at.of_part at inside in h

  -- the niche of a part lies in the part
  pub niche_in_part : n.offset + niche_size dl n ≤ offset + size_of placed
  niche_in_part = omega (arith, inside_own, same_size, at.offset_is)

  -- and is true in the whole
  pub niche_in_whole : IsNicheTrue dl placed → (b : List ℕ) (v : Value) → Holds dl.endian placed (bytes_at b offset (size_of placed)) v →
      IsIn (niche_size dl n) n.valid_range (number_of dl.endian (bytes_at b n.offset (niche_size dl n)))
  niche_in_whole true_there b v h =
      let m = at.own in
      let true_in : IfSome (Some m) (λ m. (b : List ℕ) (v : Value) → Holds dl.endian placed b v → IsIn (niche_size dl m) m.valid_range (number_of dl.endian (bytes_at b m.offset (niche_size dl m)))) =
      rw at.of_part at true_there in
      let same : bytes_at (bytes_at b offset (size_of placed)) m.offset (niche_size dl m) ≡ bytes_at b n.offset (niche_size dl n) =
      bytes_at-bytes_at b offset (size_of placed) m.offset (niche_size dl m) inside_own
      ∙ ap (λ o. bytes_at b o (niche_size dl m)) (sym at.offset_is) ∙ ap (bytes_at b n.offset) (sym same_size) in
      subst (λ w. IsIn w n.valid_range (number_of dl.endian (bytes_at b n.offset (niche_size dl n)))) (sym same_size)
      (subst (λ r. IsIn (niche_size dl m) r (number_of dl.endian (bytes_at b n.offset (niche_size dl n)))) (sym at.range_is)
      (subst (λ x. IsIn (niche_size dl m) m.valid_range (number_of dl.endian x)) same (true_in _ v h)))

-- bytes that hold a value are as many as the type is large
pub length-Holds : (order : Endian) (placed : Placed) (b : List ℕ) (v : Value) → Holds order placed b v → length b ≡ size_of placed
length-Holds order (scalar layout s) b (number n) h = h.0
length-Holds order (pair layout parts) b (two n m) h = h.0
length-Holds order (elements layout count element) b (list vs) h = h.0
length-Holds order (vector layout lanes) b (list vs) h = h.0
length-Holds order (fields layout mark parts) b (list vs) h = h.0
length-Holds order (union layout mark parts) b (bytes content) h = h.0
length-Holds order (single layout mark index parts) b (variant i vs) h = h.0
length-Holds order (tagged layout mark offset tag encoding tagged_variants) b (variant i vs) h = h.0
length-Holds order (states layout prefix offset tag tagged_variants) b (state i ps vs) h = h.0
length-Holds order (scalar layout s) b _ h = absurd h
length-Holds order (pair layout parts) b _ h = absurd h
length-Holds order (never layout mark) b _ h = absurd h
length-Holds order (elements layout count element) b _ h = absurd h
length-Holds order (vector layout lanes) b _ h = absurd h
length-Holds order (fields layout mark parts) b _ h = absurd h
length-Holds order (union layout mark parts) b _ h = absurd h
length-Holds order (single layout mark index parts) b _ h = absurd h
length-Holds order (tagged layout mark offset tag encoding tagged_variants) b _ h = absurd h
length-Holds order (states layout prefix offset tag tagged_variants) b _ h = absurd h
