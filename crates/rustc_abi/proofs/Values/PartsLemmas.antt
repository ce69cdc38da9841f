-- Parts that share no byte keep their values together.
use Rattle.std.proofs.Common.{◌≡◌, ℕ, ◌+◌, ◌-◌, ◌<◌, ◌≤◌, ◌⊎◌, ⊎_elim, inl, inr, List, length, replicate, get_or, arith, refl, sym, ap, ◌∙◌, subst}
use Rattle.std.specs.Prelude.{true, ◌&&◌, ◌||◌, nat_le, ⊤}
use Rattle.std.proofs.lemmas.List.{length-replicate}
use Rattle.std.proofs.lemmas.List.Elements.{All-replicate}
use Rattle.std.proofs.lemmas.Bool.{and_parts, or_cases, leb-true, le-leb}
use Rattle.std.proofs.Math.Bool.{or-true}
use Rattle.std.specs.Cmp.Derive.{both_true}
use Rattle.abi_base.specs.declared.data_layout.TargetDataLayout.{TargetDataLayout}
use Rattle.abi_tree.specs.Tree.{Trees, no_trees, more_trees}
use Rattle.abi_tree.specs.Bytes.{AreBytes, bytes_at}
use Rattle.abi_tree.specs.Value.{Values, no_values, more_values}
use Rattle.abi_tree.specs.Placed.{Placed, Parts, no_parts, part, size_of}
use Rattle.abi_tree.specs.Places.{is_data_place, is_place_of_part}
use Rattle.abi_tree.specs.Values.{AreValuesOf}
use Rattle.abi_tree.specs.Holding.{Holds, HoldParts}
use Rattle.abi_tree.specs.Faithful.{IsFaithful}
use Rattle.abi_tree.proofs.Bytes.BytesLemmas.{put, length-put, bytes_at-put, bytes_at-put_other, AreBytes-put, AreBytes-bytes_at}
use Rattle.abi_tree.proofs.Bytes.HoldLemmas.{length-Holds, length-bytes_at, AgreeOn-bytes_at}

-- n bytes at the offset lie before or after each part
abbrev pub LieBeside : (offset n : ℕ) → Parts → Type 0
LieBeside offset n no_parts = ⊤
LieBeside offset n (part o placed parts) = ((offset + n ≤ o) ⊎ (o + size_of placed ≤ offset)) × LieBeside offset n parts

-- the parts keep the types' values, end inside the size, and share no byte
abbrev pub FitTogether : TargetDataLayout → (size : ℕ) → Trees → Parts → Type 0
FitTogether dl size no_trees no_parts = ⊤
FitTogether dl size (more_trees t ts) (part o placed parts) =
    (o + size_of placed ≤ size) × LieBeside o (size_of placed) parts × IsFaithful dl t placed × FitTogether dl size ts parts
FitTogether dl size _ _ = ⊥

module _ (dl : TargetDataLayout) where
  -- parts beside a place see nothing of what is put there
  pub HoldParts-beside : (ts : Trees) (parts : Parts) (offset : ℕ) (b own : List ℕ) → LieBeside offset (length own) parts →
      offset + length own ≤ length b → (vs : Values) → HoldParts dl.endian parts b vs → HoldParts dl.endian parts (put b offset own) vs
  HoldParts-beside ts no_parts offset b own beside fits no_values h = h
  HoldParts-beside ts no_parts offset b own beside fits (more_values v vs) h = absurd h
  HoldParts-beside ts (part o placed parts) offset b own beside fits no_values h = absurd h
  HoldParts-beside ts (part o placed parts) offset b own beside fits (more_values v vs) h =
      let other : (o + size_of placed ≤ offset) ⊎ (offset + length own ≤ o) = ⊎_elim (λ before. inr before) (λ after. inl after) beside.0 in
      let long = length-put b own offset fits in
      let here : bytes_at (put b offset own) o (size_of placed) ≡ bytes_at b o (size_of placed) =
      bytes_at-put_other b own offset fits o (size_of placed) h.0.0 other in (
        (omega (arith, long, h.0.0), subst (λ x. Holds dl.endian placed x v) (sym here) h.0.1),
        HoldParts-beside ts parts offset b own beside.1 fits vs h.1,
      )

  pub exist : (size : ℕ) (ts : Trees) (parts : Parts) → FitTogether dl size ts parts → (vs : Values) → AreValuesOf dl ts parts vs →
      (b : List ℕ) × (length b ≡ size) × AreBytes b × HoldParts dl.endian parts b vs
  exist size no_trees no_parts fit no_values h = (replicate size 0, length-replicate size 0, All-replicate (λ b. b < 256) size 0 (omega arith), tt)
  exist size no_trees no_parts fit (more_values v vs) h = absurd h
  exist size no_trees (part o placed parts) fit vs h = absurd fit
  exist size (more_trees t ts) no_parts fit vs h = absurd fit
  exist size (more_trees t ts) (part o placed parts) fit no_values h = absurd h
  exist size (more_trees t ts) (part o placed parts) fit (more_values v vs) h =
      let first = IsFaithful.exists fit.2 v h.0 in
      let long : length first.0 ≡ size_of placed = length-Holds dl.endian placed first.0 v first.2 in
      let rest = exist size ts parts fit.3 vs h.1 in
      let fits : o + length first.0 ≤ length rest.0 = omega (arith, fit.0, rest.1) in
      let whole = length-put rest.0 first.0 o fits in
      let here : bytes_at (put rest.0 o first.0) o (size_of placed) ≡ first.0 =
      ap (bytes_at (put rest.0 o first.0) o) (sym long) ∙ bytes_at-put rest.0 first.0 o fits in (
        put rest.0 o first.0,
        whole ∙ rest.1,
        AreBytes-put rest.0 first.0 o rest.2 first.1,
        (
          (omega (arith, whole, fits, long), subst (λ x. Holds dl.endian placed x v) (sym here) first.2),
          HoldParts-beside ts parts o rest.0 first.0 (subst (λ n. LieBeside o n parts) (sym long) fit.1) fits vs rest.3,
        ),
      )

  pub only : (size : ℕ) (ts : Trees) (parts : Parts) → FitTogether dl size ts parts → (b : List ℕ) (vs : Values) → AreBytes b →
      HoldParts dl.endian parts b vs → AreValuesOf dl ts parts vs
  only size no_trees no_parts fit b no_values are h = tt
  only size no_trees no_parts fit b (more_values v vs) are h = absurd h
  only size no_trees (part o placed parts) fit b vs are h = absurd fit
  only size (more_trees t ts) no_parts fit b vs are h = absurd fit
  only size (more_trees t ts) (part o placed parts) fit b no_values are h = absurd h
  only size (more_trees t ts) (part o placed parts) fit b (more_values v vs) are h =
      (IsFaithful.only fit.2 _ v (AreBytes-bytes_at b o (size_of placed) are) h.0.1, only size ts parts fit.3 b vs are h.1)

  pub unique : (size : ℕ) (ts : Trees) (parts : Parts) → FitTogether dl size ts parts → (b : List ℕ) (vs ws : Values) →
      HoldParts dl.endian parts b vs → HoldParts dl.endian parts b ws → vs ≡ ws
  unique size no_trees (part o placed parts) fit b vs ws h k = absurd fit
  unique size (more_trees t ts) no_parts fit b vs ws h k = absurd fit
  unique size no_trees no_parts fit b no_values no_values h k = refl
  unique size no_trees no_parts fit b (more_values v vs) ws h k = absurd h
  unique size no_trees no_parts fit b no_values (more_values w ws) h k = absurd k
  unique size (more_trees t ts) (part o placed parts) fit b no_values ws h k = absurd h
  unique size (more_trees t ts) (part o placed parts) fit b (more_values v vs) no_values h k = absurd k
  unique size (more_trees t ts) (part o placed parts) fit b (more_values v vs) (more_values w ws) h k =
      let first : v ≡ w = IsFaithful.unique fit.2 _ v w h.0.1 k.0.1 in
      let rest : vs ≡ ws = unique size ts parts fit.3 b vs ws h.1 k.1 in
      cc

  -- place j of a part at the offset is one of the parts
  pub place_here : (o : ℕ) (placed : Placed) (parts : Parts) (j : ℕ) → is_data_place placed j ≡ true → is_place_of_part (part o placed parts) (o + j) ≡ true
  place_here o placed parts j place =
      let at : o + j - o ≡ j = omega arith in
      ap (λ x. x || is_place_of_part parts (o + j))
      (both_true (le-leb o (o + j) (omega arith)) (ap (is_data_place placed) at ∙ place))

  pub place_later : (o : ℕ) (placed : Placed) (parts : Parts) (k : ℕ) → is_place_of_part parts k ≡ true → is_place_of_part (part o placed parts) k ≡ true
  place_later o placed parts k place =
      ap (λ x. (nat_le o k && is_data_place placed (k - o)) || x) place ∙ or-true (nat_le o k && is_data_place placed (k - o))

  pub padding : (size : ℕ) (ts : Trees) (parts : Parts) → FitTogether dl size ts parts → (xs ys : List ℕ) (vs : Values) → length xs ≡ length ys →
      ((k : ℕ) → is_place_of_part parts k ≡ true → get_or xs k 0 ≡ get_or ys k 0) →
      HoldParts dl.endian parts xs vs → HoldParts dl.endian parts ys vs
  padding size no_trees (part o placed parts) fit xs ys vs same agree h = absurd fit
  padding size (more_trees t ts) no_parts fit xs ys vs same agree h = absurd fit
  padding size no_trees no_parts fit xs ys no_values same agree h = h
  padding size no_trees no_parts fit xs ys (more_values v vs) same agree h = absurd h
  padding size (more_trees t ts) (part o placed parts) fit xs ys no_values same agree h = absurd h
  padding size (more_trees t ts) (part o placed parts) fit xs ys (more_values v vs) same agree h =
      let n : ℕ = size_of placed in
      let in_xs : length (bytes_at xs o n) ≡ n = length-Holds dl.endian placed _ v h.0.1 in
      let in_ys : length (bytes_at ys o n) ≡ n = omega (arith, length-bytes_at xs o n, length-bytes_at ys o n) in (
        (
          omega (arith, same, h.0.0),
          IsFaithful.padding fit.2 _ _ v in_xs in_ys
              (AgreeOn-bytes_at placed xs ys o n same (λ j place. agree (o + j) (place_here o placed parts j place))) h.0.1,
        ),
        padding size ts parts fit.3 xs ys vs same (λ k place. agree k (place_later o placed parts k place)) h.1,
      )

-- the parts' data places lie inside the size
abbrev pub LieInside : (size : ℕ) → Parts → Type 0
LieInside size no_parts = ⊤
LieInside size (part o placed parts) =
    (o + size_of placed ≤ size) × ((k : ℕ) → is_data_place placed k ≡ true → k < size_of placed) × LieInside size parts

pub within_parts : (size : ℕ) (parts : Parts) → LieInside size parts → (k : ℕ) → is_place_of_part parts k ≡ true → k < size
within_parts size no_parts inside k place = absurd (cc)
within_parts size (part o placed parts) inside k place =
    ⊎_elim
    (λ here.
    let both = and_parts (nat_le o k) (is_data_place placed (k - o)) here in
    let past : o ≤ k = leb-true o k both.0 in
    omega (arith, past, inside.0, inside.1 (k - o) both.1))
    (within_parts size parts inside.2 k)
    (or_cases (nat_le o k && is_data_place placed (k - o)) (is_place_of_part parts k) place)
