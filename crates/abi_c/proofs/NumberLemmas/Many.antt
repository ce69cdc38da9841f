-- Lists out of numbers, one item after another.
use Rattle.std.proofs.Common.{◌≡◌, ℕ, suc, ◌+◌, ◌-◌, ◌<◌, ◌≤◌, ◌++◌, List, [], ◌∷◌, Option, Some, None, refl, sym, ap, ◌∙◌, subst, inl, inr, arith}
use Rattle.std.specs.Prelude.{IfErr, Result, Ok, Err, option_map}
use Rattle.std.specs.Result.{IsErrAnd}
use Rattle.std.proofs.lemmas.List.{append-nil, append_assoc}
use Rattle.abi_c.specs.declared.numbers.error.ReadError.{ReadError}
use Rattle.abi_c.specs.Numbers.Pieces.{◌>>=◌, Fails, Front, front_list, front_many, front_word}

-- these, and then those of a list
abbrev pub then_those : {A : Type 0} → List A → Option (List A × List ℕ) → Option (List A × List ℕ)
then_those xs o = option_map (λ r. (xs ++ r.0, r.1)) o

-- the items so far, and so many more
pub record SoFar (A : Type 0) (front : Front A) (count used : ℕ) (begin now : List ℕ) (xs : List A) : Type 0 where
  pub within : used ≤ count
  pub so_far : front_many front count begin ≡ then_those xs (front_many front (count - used) now)

-- an error that is passed on is the same
pub passed : {B T : Type 0} (o : Option T) (e : ReadError) (r : Result B ReadError) → IsErrAnd r (λ error. error ≡ e) → Fails o e → IfErr r (Fails o)
passed o e (Ok b) h failed = absurd h
passed o e (Err error) h failed = subst (Fails o) (sym h) failed

none_before : {A : Type 0} (o : Option (List A × List ℕ)) → o ≡ then_those [] o
none_before None = refl
none_before (Some r) = refl

pub so_far-start : {A : Type 0} (front : Front A) (count : ℕ) (begin : List ℕ) → SoFar A front count 0 begin begin []
so_far-start front count begin =
    let same : count - 0 ≡ count = omega arith in
    record { within = omega arith; so_far = none_before (front_many front count begin) ∙ ap (λ n. then_those [] (front_many front n begin)) (sym same) }

one_more : {A : Type 0} (xs : List A) (a : A) (o : Option (List A × List ℕ)) →
    then_those xs (o >>= λ more. Some (a ∷ more.0, more.1)) ≡ then_those (xs ++ a ∷ []) o
one_more xs a None = refl
one_more xs a (Some r) = ap (λ l. Some (l, r.1)) (sym (append_assoc xs (a ∷ []) r.0))

many-step : {A : Type 0} (front : Front A) (k : ℕ) (now rest : List ℕ) (a : A) (xs : List A) → front now ≡ Some (a, rest) →
    then_those xs (front_many front (suc k) now) ≡ then_those (xs ++ a ∷ []) (front_many front k rest)
many-step front k now rest a xs e =
    ap (λ o. then_those xs (o >>= λ b. front_many front k b.1 >>= λ more. Some (b.0 ∷ more.0, more.1))) e ∙ one_more xs a (front_many front k rest)

pub so_far-more : {A : Type 0} (front : Front A) (count used : ℕ) (begin now rest : List ℕ) (xs : List A) (a : A) →
    SoFar A front count used begin now xs → used < count → front now ≡ Some (a, rest) → SoFar A front count (used + 1) begin rest (xs ++ a ∷ [])
so_far-more front count used begin now rest xs a so less e =
    let k : count - used ≡ suc (count - (used + 1)) = omega arith in record {
      within = omega arith;
      so_far = so.so_far ∙ ap (λ n. then_those xs (front_many front n now)) k ∙ many-step front (count - (used + 1)) now rest a xs e;
    }

pub so_far-end : {A : Type 0} (front : Front A) (count used : ℕ) (all begin now : List ℕ) (xs : List A) →
    front_word all ≡ Some (count, begin) → SoFar A front count used begin now xs → count ≤ used → front_list front all ≡ Some (xs, now)
so_far-end front count used all begin now xs counted so least =
    let none : count - used ≡ 0 = omega arith in
    ap (λ o. o >>= λ c. front_many front c.0 c.1) counted
    ∙ so.so_far ∙ ap (λ n. then_those xs (front_many front n now)) none ∙ ap (λ l. Some (l, now)) (append-nil xs)

many-none : {A : Type 0} (front : Front A) (k : ℕ) (now : List ℕ) (xs : List A) → front now ≡ None → then_those xs (front_many front (suc k) now) ≡ None
many-none front k now xs e = ap (λ o. then_those xs (o >>= λ b. front_many front k b.1 >>= λ more. Some (b.0 ∷ more.0, more.1))) e

pub so_far-none : {A : Type 0} (front : Front A) (count used : ℕ) (all begin now : List ℕ) (xs : List A) (error : ReadError) →
    front_word all ≡ Some (count, begin) → SoFar A front count used begin now xs → used < count → Fails (front now) error → Fails (front_list front all) error
so_far-none front count used all begin now xs error counted so less (inl none) =
    let k : count - used ≡ suc (count - (used + 1)) = omega arith in
    inl (
    ap (λ o. o >>= λ c. front_many front c.0 c.1) counted
    ∙ so.so_far ∙ ap (λ n. then_those xs (front_many front n now)) k ∙ many-none front (count - (used + 1)) now xs none
    )
so_far-none front count used all begin now xs error counted so less (inr memory) = inr memory
