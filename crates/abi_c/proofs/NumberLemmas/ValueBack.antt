-- A value that was written at the front is what numbers begin with, and numbers that begin with a value are its own, and the rest.
use Rattle.std.proofs.Common.{◌≡◌, ℕ, zero, suc, ◌-◌, ◌<◌, ◌++◌, List, [], ◌∷◌, length, Some, None, refl, sym, ap, ◌∙◌, ltb, arith}
use Rattle.std.proofs.lemmas.Bool.{cond-true, lt-ltb}
use Rattle.std.proofs.lemmas.List.{append_assoc}
use Rattle.std.proofs.lemmas.Option.{option_and_then_some}
use Rattle.abi_tree.specs.Bytes.{AreBytes}
use Rattle.abi_tree.specs.Value.{Value, number, two, list, variant, state, bytes, Values, no_values, more_values, values}
use Rattle.abi_c.specs.declared.numbers.value.ValueKind.{ValueKind}
use Rattle.abi_c.specs.declared.numbers.value.ValueKind.TheVariants as kind
use Rattle.abi_c.specs.Numbers.Pieces.{◌>>=◌, Front, flat_wide, front_as, front_list, front_many, front_two, front_wide, front_word}
use Rattle.abi_c.specs.Numbers.FlatValue.{AreReadableValues, IsReadableValue, flat_value, flat_values, values_count}
use Rattle.abi_c.specs.Numbers.FrontValue.{byte_numbered, front_of_value_kind, front_state_value, front_value, front_value_node, front_variant_value, value_kind_numbered, value_kinds}
use Rattle.abi_c.proofs.NumberLemmas.Back.{as_back, more_back, two_back, wide_back}
use Rattle.abi_c.proofs.NumberLemmas.Sound.{Means, Sound, as_sound, either, flat_items, found, last, list_sound, nothing, table_means, two_sound, wide_sound, word_sound}

-- there is one value more around those in it
pub front_value-step : (left : ℕ) → (left ≡ 0 → ⊥) → front_value left ≡ front_value_node (front_value (left - 1))
front_value-step zero some = absurd (some refl)
front_value-step (suc n) some =
    let same : n ≡ suc n - 1 = omega arith in
    ap (λ m. front_value_node (front_value m)) same

-- ---- what was written is what they begin with

-- values as a list
abbrev pub listed_values : Values → List Value
listed_values no_values = []
listed_values (more_values v vs) = v ∷ listed_values vs

values_listed : (vs : Values) → values (listed_values vs) ≡ vs
values_listed no_values = refl
values_listed (more_values v vs) = ap (more_values v) (values_listed vs)

byte_back : (b : ℕ) → b < 256 → byte_numbered b ≡ Some b
byte_back b h = cond-true (ltb b 256) (Some b) None (lt-ltb b 256 h)

bytes_back : (bs : List ℕ) → AreBytes bs → (rest : List ℕ) → front_many (front_as byte_numbered) (length bs) (bs ++ rest) ≡ Some (bs, rest)
bytes_back [] h rest = refl
bytes_back (b ∷ bs) h rest =
    more_back (front_as byte_numbered) (length bs) (b ∷ bs ++ rest) (bs ++ rest) rest b bs (as_back byte_numbered b b (bs ++ rest) (byte_back b (h 0 b (omega arith)))) (bytes_back bs (λ k d less. h (suc k) d (omega arith)) rest)

module _ (inner : Front Value) where
  -- such values stand before the rest
  abbrev pub AreValuesBefore : Values → (rest : List ℕ) → Type 0
  AreValuesBefore vs rest = front_many inner (values_count vs) (flat_values vs ++ rest) ≡ Some (listed_values vs, rest)

  variant_back : (i : ℕ) (vs : Values) (rest : List ℕ) → AreValuesBefore vs rest → front_value_node inner (flat_value (variant i vs) ++ rest) ≡ Some (variant i vs, rest)
  variant_back i vs rest e = ap (λ o. o >>= λ us. Some (variant i (values us.0), us.1)) e ∙ ap (λ us. Some (variant i us, rest)) (values_listed vs)

  list_back : (vs : Values) (rest : List ℕ) → AreValuesBefore vs rest → front_value_node inner (flat_value (list vs) ++ rest) ≡ Some (list vs, rest)
  list_back vs rest e = ap (λ o. o >>= λ us. Some (list (values us.0), us.1)) e ∙ ap (λ us. Some (list us, rest)) (values_listed vs)

  state_back : (i : ℕ) (ps vs : Values) (rest : List ℕ) → AreValuesBefore ps (values_count vs ∷ (flat_values vs ++ rest)) → AreValuesBefore vs rest
      → front_value_node inner (flat_value (state i ps vs) ++ rest) ≡ Some (state i ps vs, rest)
  state_back i ps vs rest e f =
      ap (λ ns. front_many inner (values_count ps) ns >>= λ us. front_list inner us.1 >>= λ ws. Some (state i (values us.0) (values ws.0), ws.1)) (append_assoc (flat_values ps) (values_count vs ∷ flat_values vs) rest)
      ∙ ap (λ o. o >>= λ us. front_list inner us.1 >>= λ ws. Some (state i (values us.0) (values ws.0), ws.1)) e
      ∙ ap (λ o. o >>= λ ws. Some (state i (values (listed_values ps)) (values ws.0), ws.1)) f
      ∙ ap (λ us. Some (state i us (values (listed_values vs)), rest)) (values_listed ps)
      ∙ ap (λ us. Some (state i ps us, rest)) (values_listed vs)

  each_back : (v : Value) (vs : Values) (rest : List ℕ) → ((after : List ℕ) → inner (flat_value v ++ after) ≡ Some (v, after)) → AreValuesBefore vs rest → AreValuesBefore (more_values v vs) rest
  each_back v vs rest e f =
      more_back inner (values_count vs) (flat_values (more_values v vs) ++ rest) (flat_values vs ++ rest) rest v (listed_values vs)
      (ap inner (append_assoc (flat_value v) (flat_values vs) rest) ∙ e (flat_values vs ++ rest)) f

numbers_back : (inner : Front Value) (a b : ℕ) (rest : List ℕ) → front_value_node inner (flat_value (two a b) ++ rest) ≡ Some (two a b, rest)
numbers_back inner a b rest =
    ap (λ o. o >>= λ p. Some (two p.0.0 p.0.1, p.1)) (two_back front_wide front_wide (flat_wide a ++ (flat_wide b ++ rest)) (flat_wide b ++ rest) rest a b (wide_back a (flat_wide b ++ rest)) (wide_back b rest))

mutual
  -- a readable value is what its numbers begin with
  pub value_back : (n : ℕ) (v : Value) → IsReadableValue n v → (rest : List ℕ) → front_value n (flat_value v ++ rest) ≡ Some (v, rest)
  value_back zero v h rest = absurd h
  value_back (suc n) (number m) h rest = ap (λ o. o >>= λ p. Some (number p.0, p.1)) (wide_back m rest)
  value_back (suc n) (two a b) h rest = numbers_back (front_value n) a b rest
  value_back (suc n) (list vs) h rest = list_back (front_value n) vs rest (values_back n vs h rest)
  value_back (suc n) (variant i vs) h rest = variant_back (front_value n) i vs rest (values_back n vs h rest)
  value_back (suc n) (state i ps vs) h rest = state_back (front_value n) i ps vs rest (values_back n ps h.0 (values_count vs ∷ (flat_values vs ++ rest))) (values_back n vs h.1 rest)
  value_back (suc n) (bytes content) h rest = ap (λ o. o >>= λ p. Some (bytes p.0, p.1)) (bytes_back content h rest)

  values_back : (n : ℕ) (vs : Values) → AreReadableValues n vs → (rest : List ℕ) → AreValuesBefore (front_value n) vs rest
  values_back n no_values h rest = refl
  values_back n (more_values v vs) h rest = each_back (front_value n) v vs rest (value_back n v h.0) (values_back n vs h.1 rest)

-- ---- what they begin with is their own

abbrev kind_number : ValueKind → ℕ
kind_number kind.Number = 0
kind_number kind.Two = 1
kind_number kind.List = 2
kind_number kind.Variant = 3
kind_number kind.State = 4
kind_number kind.Bytes = 5

kind_means : Means value_kind_numbered kind_number
kind_means n a e = omega (arith, table_means kind_number value_kinds 0 n a (refl, (refl, (refl, (refl, (refl, (refl, tt)))))) e)

byte_means : Means byte_numbered (λ b. b)
byte_means n a e = either (ltb n 256) _ _ a _ e (λ less is. found (λ b. n ≡ b) n a is refl) (λ more is. nothing a _ is)

bytes_items : (bs : List ℕ) → flat_items (λ b. b ∷ []) bs ≡ bs
bytes_items [] = refl
bytes_items (b ∷ bs) = ap (λ l. b ∷ l) (bytes_items bs)

counted_values : (vs : List Value) → length vs ≡ values_count (values vs)
counted_values [] = refl
counted_values (v ∷ vs) = ap suc (counted_values vs)

values_items : (vs : List Value) → flat_items flat_value vs ≡ flat_values (values vs)
values_items [] = refl
values_items (v ∷ vs) = ap (λ l. flat_value v ++ l) (values_items vs)

-- a list of values, as its numbers are
abbrev flat_each_value : List Value → List ℕ
flat_each_value vs = values_count (values vs) ∷ flat_values (values vs)

module _ (inner : Front Value) (sound : Sound inner flat_value) where
  values_sound : Sound (front_list inner) flat_each_value
  values_sound ns p e =
      list_sound inner flat_value sound ns p e ∙ ap (λ k. k ∷ (flat_items flat_value p.0 ++ p.1)) (counted_values p.0) ∙ ap (λ l. values_count (values p.0) ∷ (l ++ p.1)) (values_items p.0)

  variant_sound : (ns : List ℕ) (p : Value × List ℕ) → front_variant_value inner ns ≡ Some p → 3 ∷ ns ≡ flat_value p.0 ++ p.1
  variant_sound ns p e =
      option_and_then_some _ (front_word ns) p e
      (λ i i_is then. option_and_then_some _ (front_list inner i.1) p then
      (λ vs vs_is done. last flat_value (3 ∷ ns) (variant i.0 (values vs.0), vs.1) p done
      (ap (λ l. 3 ∷ l) (word_sound ns i i_is ∙ ap (λ l. i.0 ∷ l) (values_sound i.1 vs vs_is)))))

  state_sound : (ns : List ℕ) (p : Value × List ℕ) → front_state_value inner ns ≡ Some p → 4 ∷ ns ≡ flat_value p.0 ++ p.1
  state_sound ns p e =
      option_and_then_some _ (front_word ns) p e
      (λ i i_is then. option_and_then_some _ (front_list inner i.1) p then
      (λ ps ps_is rest. option_and_then_some _ (front_list inner ps.1) p rest
      (λ vs vs_is done. last flat_value (4 ∷ ns) (state i.0 (values ps.0) (values vs.0), vs.1) p done
      (ap (λ l. 4 ∷ l)
      (word_sound ns i i_is
      ∙ ap (λ l. i.0 ∷ l) (values_sound i.1 ps ps_is ∙ ap (λ l. flat_each_value ps.0 ++ l) (values_sound ps.1 vs vs_is) ∙ sym (append_assoc (flat_each_value ps.0) (flat_each_value vs.0) vs.1)))))))

  of_kind_sound : (k : ValueKind) (ns : List ℕ) (p : Value × List ℕ) → front_of_value_kind inner k ns ≡ Some p → kind_number k ∷ ns ≡ flat_value p.0 ++ p.1
  of_kind_sound kind.Number ns p e =
      option_and_then_some _ (front_wide ns) p e
      (λ n n_is done. last flat_value (0 ∷ ns) (number n.0, n.1) p done (ap (λ l. 0 ∷ l) (wide_sound ns n n_is)))
  of_kind_sound kind.Two ns p e =
      option_and_then_some _ (front_two front_wide front_wide ns) p e
      (λ n n_is done. last flat_value (1 ∷ ns) (two n.0.0 n.0.1, n.1) p done (ap (λ l. 1 ∷ l) (two_sound front_wide front_wide flat_wide flat_wide wide_sound wide_sound ns n n_is)))
  of_kind_sound kind.List ns p e =
      option_and_then_some _ (front_list inner ns) p e
      (λ vs vs_is done. last flat_value (2 ∷ ns) (list (values vs.0), vs.1) p done (ap (λ l. 2 ∷ l) (values_sound ns vs vs_is)))
  of_kind_sound kind.Variant ns p e = variant_sound ns p e
  of_kind_sound kind.State ns p e = state_sound ns p e
  of_kind_sound kind.Bytes ns p e =
      option_and_then_some _ (front_list (front_as byte_numbered) ns) p e
      (λ bs bs_is done. last flat_value (5 ∷ ns) (bytes bs.0, bs.1) p done
      (ap (λ l. 5 ∷ l) (list_sound (front_as byte_numbered) (λ b. b ∷ []) (as_sound byte_numbered (λ b. b) byte_means) ns bs bs_is ∙ ap (λ l. length bs.0 ∷ (l ++ bs.1)) (bytes_items bs.0))))

  node_sound : Sound (front_value_node inner) flat_value
  node_sound ns p e =
      option_and_then_some _ (front_as value_kind_numbered ns) p e
      (λ k k_is then. as_sound value_kind_numbered kind_number kind_means ns k k_is ∙ of_kind_sound k.0 k.1 p then)

pub value_sound : (n : ℕ) → Sound (front_value n) flat_value
value_sound zero ns p e = nothing p _ e
value_sound (suc n) ns p e = node_sound (front_value n) (value_sound n) ns p e
