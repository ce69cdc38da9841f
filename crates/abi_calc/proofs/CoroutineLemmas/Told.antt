-- Where the shared fields and those of each state lie, and which numbers tell the states apart.
use Rattle.std.proofs.Common.{◌≡◌, ◌≢◌, ℕ, ◌+◌, ◌<◌, ◌≤◌, Bool, true, false, List, [], ◌∷◌, ◌++◌, ◌∙◌, ap, arith, drop, get_or, inl, inr, length, map, refl, subst, suc, sym, zero}
use Rattle.std.specs.Prelude.{All, slice_get, slice_index}
use Rattle.std.specs.List.{AllPairs, cons_option}
use Rattle.std.proofs.lemmas.List.{append-nil, get_or-map, length-map}
use Rattle.std.proofs.lemmas.List.Elements.{All-head, All-tail}
use Rattle.abi_index.specs.BitSet.{is_member, members_of}
use Rattle.abi_univariant.specs.Apart.{AreApart, IsBeside}
use Rattle.abi_calc.specs.Coroutine.Lists.{own_of, picked}
use Rattle.abi_calc.specs.Coroutine.States.{rank_of, state_offsets}
use Rattle.abi_calc.proofs.CoroutineLemmas.Places.{AreTwoApart, apart_count, apart_inside, apart_two, beside_at, two_swap}
use Rattle.abi_calc.proofs.CoroutineLemmas.States.{rank_member}
use Rattle.abi_calc.proofs.EnumLemmas.Places.{wider}

-- ---- parts that share no byte

-- of two runs of parts, those of the first
beside_front : (o m : ℕ) (xs bs ms ns : List ℕ) → length xs ≡ length ms → IsBeside o m (xs ++ bs) (ms ++ ns) → IsBeside o m xs ms
beside_front o m [] bs [] ns e h = tt
beside_front o m [] bs (k ∷ ms) ns e h = absurd (omega (arith, e))
beside_front o m (a ∷ xs) bs [] ns e h = absurd (omega (arith, e))
beside_front o m (a ∷ xs) bs (k ∷ ms) ns e h = (h.0, beside_front o m xs bs ms ns (omega (arith, e)) h.1)

apart_front : (w : ℕ) (xs bs ms ns : List ℕ) → length xs ≡ length ms → AreApart w (xs ++ bs) (ms ++ ns) → AreApart w xs ms
apart_front w [] bs [] ns e h = tt
apart_front w [] bs (k ∷ ms) ns e h = absurd (omega (arith, e))
apart_front w (a ∷ xs) bs [] ns e h = absurd (omega (arith, e))
apart_front w (a ∷ xs) bs (k ∷ ms) ns e h = (h.0, beside_front a k xs bs ms ns (omega (arith, e)) h.1, apart_front w xs bs ms ns (omega (arith, e)) h.2)

-- and of the second
apart_back : (w : ℕ) (xs bs ms ns : List ℕ) → length xs ≡ length ms → AreApart w (xs ++ bs) (ms ++ ns) → AreApart w bs ns
apart_back w [] bs [] ns e h = h
apart_back w [] bs (k ∷ ms) ns e h = absurd (omega (arith, e))
apart_back w (a ∷ xs) bs [] ns e h = absurd (omega (arith, e))
apart_back w (a ∷ xs) bs (k ∷ ms) ns e h = apart_back w xs bs ms ns (omega (arith, e)) h.2

beside_back : (o m : ℕ) (xs bs ms ns : List ℕ) → length xs ≡ length ms → IsBeside o m (xs ++ bs) (ms ++ ns) → IsBeside o m bs ns
beside_back o m [] bs [] ns e h = h
beside_back o m [] bs (k ∷ ms) ns e h = absurd (omega (arith, e))
beside_back o m (a ∷ xs) bs [] ns e h = absurd (omega (arith, e))
beside_back o m (a ∷ xs) bs (k ∷ ms) ns e h = beside_back o m xs bs ms ns (omega (arith, e)) h.1

-- each of the second is beside all of the first
cross_apart : (w : ℕ) (xs bs ms ns : List ℕ) (j : ℕ) → length xs ≡ length ms → j < length bs → AreApart w (xs ++ bs) (ms ++ ns) → IsBeside (slice_index bs j) (slice_index ns j) xs ms
cross_apart w [] bs [] ns j e low h = tt
cross_apart w [] bs (k ∷ ms) ns j e low h = absurd (omega (arith, e))
cross_apart w (a ∷ xs) bs [] ns j e low h = absurd (omega (arith, e))
cross_apart w (a ∷ xs) bs (k ∷ ms) ns j e low h = (
  two_swap a k (slice_index bs j) (slice_index ns j) (beside_at a k bs ns j low (beside_back a k xs bs ms ns (omega (arith, e)) h.1)),
  cross_apart w xs bs ms ns j (omega (arith, e)) low h.2,
)

-- one part more among others
beside_insert : (a k o n : ℕ) (xs bs ms ns : List ℕ) → length xs ≡ length ms → AreTwoApart a k o n → IsBeside a k (xs ++ bs) (ms ++ ns) → IsBeside a k (xs ++ o ∷ bs) (ms ++ n ∷ ns)
beside_insert a k o n [] bs [] ns e two h = (two, h)
beside_insert a k o n [] bs (x ∷ ms) ns e two h = absurd (omega (arith, e))
beside_insert a k o n (x ∷ xs) bs [] ns e two h = absurd (omega (arith, e))
beside_insert a k o n (x ∷ xs) bs (y ∷ ms) ns e two h = (h.0, beside_insert a k o n xs bs ms ns (omega (arith, e)) two h.1)

apart_insert : (w o n : ℕ) (xs bs ms ns : List ℕ) → length xs ≡ length ms → o + n ≤ w → IsBeside o n xs ms → IsBeside o n bs ns → AreApart w (xs ++ bs) (ms ++ ns) → AreApart w (xs ++ o ∷ bs) (ms ++ n ∷ ns)
apart_insert w o n [] bs [] ns e fits front back h = (fits, back, h)
apart_insert w o n [] bs (y ∷ ms) ns e fits front back h = absurd (omega (arith, e))
apart_insert w o n (x ∷ xs) bs [] ns e fits front back h = absurd (omega (arith, e))
apart_insert w o n (x ∷ xs) bs (y ∷ ms) ns e fits front back h =
    (h.0, beside_insert x y o n xs bs ms ns (omega (arith, e)) (two_swap o n x y front.0) h.1, apart_insert w o n xs bs ms ns (omega (arith, e)) fits front.1 back h.2)

-- a part that ends before others is beside them
beside_before : (o n : ℕ) (os ms : List ℕ) → length os ≡ length ms → All (λ p. o + n ≤ p) os → IsBeside o n os ms
beside_before o n [] [] e all = tt
beside_before o n [] (m ∷ ms) e all = absurd (omega (arith, e))
beside_before o n (p ∷ os) [] e all = absurd (omega (arith, e))
beside_before o n (p ∷ os) (m ∷ ms) e all = (inl (All-head (λ q. o + n ≤ q) p os all), beside_before o n os ms (omega (arith, e)) (All-tail (λ q. o + n ≤ q) p os all))

-- and so is one that begins behind them
beside_after : (w o n : ℕ) (os ms : List ℕ) → w ≤ o → AreApart w os ms → IsBeside o n os ms
beside_after w o n [] [] far h = tt
beside_after w o n [] (m ∷ ms) far h = absurd h
beside_after w o n (p ∷ os) [] far h = absurd h
beside_after w o n (p ∷ os) (m ∷ ms) far h = (inr (omega (arith, far, h.0)), beside_after w o n os ms far h.2)

-- ---- one state

module _ (promoted : List Bool) (shared : List ℕ) (size : ℕ → ℕ) where
  -- a part is beside a promoted local, where the first list has it
  abbrev pub IsBesidePromoted : (o n l : ℕ) → Type 0
  IsBesidePromoted o n l = is_member promoted l ≡ true → AreTwoApart o n (slice_index shared (rank_of promoted l)) (size l)

  -- so it is beside a state's locals, where it is beside those that aren't promoted
  pub beside_cons : (o n l : ℕ) (own state : List ℕ) (b : Bool) → is_member promoted l ≡ b → IsBesidePromoted o n l → IsBeside o n own (map size (own_of promoted (l ∷ state)))
      → ((rest : List ℕ) → IsBeside o n rest (map size (own_of promoted state)) → IsBeside o n (state_offsets promoted shared rest state) (map size state))
      → IsBeside o n (state_offsets promoted shared own (l ∷ state)) (size l ∷ map size state)
  beside_cons o n l own state true e one h more =
      let kept : IsBeside o n own (map size (own_of promoted state)) = rw e at h in
      rw e (one e, more own kept)
  beside_cons o n l own state false e one h more = rw e (split own (rw e at h))
    where
      split : (own : List ℕ) → IsBeside o n own (size l ∷ map size (own_of promoted state)) → IsBeside o n (slice_index own 0 ∷ state_offsets promoted shared (drop 1 own) state) (size l ∷ map size state)
      split [] h = absurd h
      split (p ∷ own) h = (h.0, more own h.1)

  pub beside_state : (o n : ℕ) (own state : List ℕ) → All (IsBesidePromoted o n) state → IsBeside o n own (map size (own_of promoted state)) → IsBeside o n (state_offsets promoted shared own state) (map size state)
  beside_state o n [] [] all h = tt
  beside_state o n (p ∷ own) [] all h = absurd h
  beside_state o n own (l ∷ state) all h =
      beside_cons o n l own state (is_member promoted l) refl (All-head (IsBesidePromoted o n) l state all) h
      (λ rest k. beside_state o n rest state (All-tail (IsBesidePromoted o n) l state all) k)

-- ---- the parts of one state

-- the sizes of picked items
size_next : {A : Type 0} (f : A → ℕ) (items : List A) (p : ℕ) (rest : List A) → p < length items → map f (cons_option (slice_get items p) rest) ≡ slice_index (map f items) p ∷ map f rest
size_next f [] p rest low = absurd (omega (arith, low))
size_next f (x ∷ xs) zero rest low = refl
size_next f (x ∷ xs) (suc p) rest low = size_next f xs p rest (omega (arith, low))

pub picked_sizes : {A : Type 0} (f : A → ℕ) (items : List A) (places : List ℕ) → All (λ p. p < length items) places → map f (picked items places) ≡ map (slice_index (map f items)) places
picked_sizes f items [] all = refl
picked_sizes f items (p ∷ ps) all =
    size_next f items p (picked items ps) (All-head (λ k. k < length items) p ps all)
    ∙ ap (λ xs. slice_index (map f items) p ∷ xs) (picked_sizes f items ps (All-tail (λ k. k < length items) p ps all))

module _ (promoted : List Bool) (before sizes shared : List ℕ) (size : ℕ → ℕ) (start small whole : ℕ) (same : length before ≡ length sizes) (fits : start ≤ whole) (more : small ≤ whole)
    (first : AreApart start (before ++ shared) (sizes ++ map size (members_of promoted))) where
  -- the promoted locals, by rank
  ranked : AreApart start shared (map size (members_of promoted))
  ranked = apart_back start before shared sizes (map size (members_of promoted)) same first

  pub ranked_count : length shared ≡ length (members_of promoted)
  ranked_count = apart_count start shared (map size (members_of promoted)) ranked ∙ length-map (members_of promoted) size

  ranked_size : (l : ℕ) → is_member promoted l ≡ true → slice_index (map size (members_of promoted)) (rank_of promoted l) ≡ size l
  ranked_size l is = get_or-map size (members_of promoted) (rank_of promoted l) 0 0 (rank_member promoted l is 0).0 ∙ ap size (rank_member promoted l is 0).1

  -- each ends where the first list does, or before
  pub ranked_inside : (l : ℕ) → is_member promoted l ≡ true → slice_index shared (rank_of promoted l) + size l ≤ start
  ranked_inside l is =
      let low : rank_of promoted l < length shared = omega (arith, (rank_member promoted l is 0).0, ranked_count) in
      let inside = apart_inside start shared (map size (members_of promoted)) (rank_of promoted l) low ranked in
      omega (arith, inside, ranked_size l is)

  -- two of them share no byte
  pub ranked_two : (l m : ℕ) → l ≢ m → is_member promoted l ≡ true → is_member promoted m ≡ true → AreTwoApart (slice_index shared (rank_of promoted l)) (size l) (slice_index shared (rank_of promoted m)) (size m)
  ranked_two l m other is so =
      let low : rank_of promoted l < length shared = omega (arith, (rank_member promoted l is 0).0, ranked_count) in
      let high : rank_of promoted m < length shared = omega (arith, (rank_member promoted m so 0).0, ranked_count) in
      let differ : rank_of promoted l ≢ rank_of promoted m = λ e. other (sym (rank_member promoted l is 0).1 ∙ ap (λ r. get_or (members_of promoted) r 0) e ∙ (rank_member promoted m so 0).1) in
      subst (λ n. AreTwoApart (slice_index shared (rank_of promoted l)) n (slice_index shared (rank_of promoted m)) (size m)) (ranked_size l is)
      (subst (AreTwoApart (slice_index shared (rank_of promoted l)) (slice_index (map size (members_of promoted)) (rank_of promoted l)) (slice_index shared (rank_of promoted m))) (ranked_size m so)
      (apart_two start shared (map size (members_of promoted)) (rank_of promoted l) (rank_of promoted m) low high differ ranked))

  -- and each is beside the shared fields
  pub ranked_before : (l : ℕ) → is_member promoted l ≡ true → IsBeside (slice_index shared (rank_of promoted l)) (size l) before sizes
  ranked_before l is =
      let low : rank_of promoted l < length shared = omega (arith, (rank_member promoted l is 0).0, ranked_count) in
      subst (λ n. IsBeside (slice_index shared (rank_of promoted l)) n before sizes) (ranked_size l is)
      (cross_apart start before shared sizes (map size (members_of promoted)) (rank_of promoted l) same low first)

  shared_apart : AreApart start before sizes
  shared_apart = apart_front start before shared sizes (map size (members_of promoted)) same first

  -- one local more, which is promoted
  state_promoted : (l : ℕ) (own state : List ℕ) → is_member promoted l ≡ true → All (λ m. l ≢ m) state → AreApart small own (map size (own_of promoted state)) → All (λ o. start ≤ o) own
      → AreApart whole (before ++ state_offsets promoted shared own state) (sizes ++ map size state)
      → AreApart whole (before ++ slice_index shared (rank_of promoted l) ∷ state_offsets promoted shared own state) (sizes ++ size l ∷ map size state)
  state_promoted l own state is other apart far done =
      let inside = ranked_inside l is in
      let later : All (λ p. slice_index shared (rank_of promoted l) + size l ≤ p) own = λ k d short. omega (arith, inside, far k d short) in
      let others : All (IsBesidePromoted promoted shared size (slice_index shared (rank_of promoted l)) (size l)) state = λ k d short so. ranked_two l (get_or state k d) (other k d short) is so in
      apart_insert whole (slice_index shared (rank_of promoted l)) (size l) before (state_offsets promoted shared own state) sizes (map size state) same (omega (arith, inside, fits)) (ranked_before l is)
      (beside_state promoted shared size (slice_index shared (rank_of promoted l)) (size l) own state others
      (beside_before (slice_index shared (rank_of promoted l)) (size l) own (map size (own_of promoted state)) (apart_count small own (map size (own_of promoted state)) apart) later)) done

  -- or isn't
  state_own : (l o : ℕ) (own state : List ℕ) → AreApart small (o ∷ own) (size l ∷ map size (own_of promoted state)) → All (λ p. start ≤ p) (o ∷ own)
      → AreApart whole (before ++ state_offsets promoted shared own state) (sizes ++ map size state)
      → AreApart whole (before ++ o ∷ state_offsets promoted shared own state) (sizes ++ size l ∷ map size state)
  state_own l o own state apart far done =
      let here : start ≤ o = All-head (λ p. start ≤ p) o own far in
      let others : All (IsBesidePromoted promoted shared size o (size l)) state = λ k d short so. inr (omega (arith, ranked_inside (get_or state k d) so, here)) in
      apart_insert whole o (size l) before (state_offsets promoted shared own state) sizes (map size state) same (omega (arith, apart.0, more)) (beside_after start o (size l) before sizes here shared_apart)
      (beside_state promoted shared size o (size l) own state others apart.1) done

  state_next : (l : ℕ) (own state : List ℕ) (b : Bool) → is_member promoted l ≡ b → All (λ m. l ≢ m) state → AreApart small own (map size (own_of promoted (l ∷ state))) → All (λ o. start ≤ o) own
      → ((rest : List ℕ) → AreApart small rest (map size (own_of promoted state)) → All (λ o. start ≤ o) rest → AreApart whole (before ++ state_offsets promoted shared rest state) (sizes ++ map size state))
      → AreApart whole (before ++ state_offsets promoted shared own (l ∷ state)) (sizes ++ size l ∷ map size state)
  state_next l own state true e other apart far done =
      let kept : AreApart small own (map size (own_of promoted state)) = rw e at apart in
      rw e (state_promoted l own state e other kept far (done own kept far))
  state_next l own state false e other apart far done = rw e (split own (rw e at apart) far)
    where
      split : (own : List ℕ) → AreApart small own (size l ∷ map size (own_of promoted state)) → All (λ o. start ≤ o) own
          → AreApart whole (before ++ slice_index own 0 ∷ state_offsets promoted shared (drop 1 own) state) (sizes ++ size l ∷ map size state)
      split [] h far = absurd h
      split (p ∷ own) h far = state_own l p own state h far (done own h.2 (All-tail (λ o. start ≤ o) p own far))

  -- the shared fields and a state's locals share no byte, and end inside
  pub state_apart : (own state : List ℕ) → AllPairs (λ a b. a ≢ b) state → AreApart small own (map size (own_of promoted state)) → All (λ o. start ≤ o) own
      → AreApart whole (before ++ state_offsets promoted shared own state) (sizes ++ map size state)
  state_apart own [] once apart far =
      subst (λ xs. AreApart whole xs (sizes ++ [])) (sym (append-nil before)) (subst (AreApart whole before) (sym (append-nil sizes)) (wider start whole before sizes fits shared_apart))
  state_apart own (l ∷ state) once apart far =
      state_next l own state (is_member promoted l) refl (λ k d short. once 0 (suc k) d (omega arith) (omega (arith, short))) apart far
      (λ rest h k. state_apart rest state (λ i j d low short. once (suc i) (suc j) d (omega (arith, low)) (omega (arith, short))) h k)
