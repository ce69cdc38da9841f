-- What uses bring in, found in rounds.
use Rattle.std.proofs.Common.{◌≡◌, ◌∙◌, ℕ, zero, suc, ◌+◌, ◌-◌, ◌<◌, ◌≤◌, List, [], ◌∷◌, ◌++◌, Some, add-one, ap, arith, drop, drop-cons, get_or, length, refl, subst, sym}
use Rattle.std.proofs.lemmas.List.{drop_all}
use Rattle.std.proofs.lemmas.Option.{slice_get_within, get_or_from_slice_get}
use Rattle.std.specs.Prelude.{slice_get}
use Rattle.rust_source.specs.declared.item.Items.{Items}
use Rattle.rust_source.specs.declared.item.Use.{Use}
use Rattle.abi_rust.specs.declared.scope.Scope.{Scope}
use Rattle.abi_rust.specs.declared.use_targets.UseTarget.{UseTarget}
use Rattle.abi_rust.specs.Names.{targets_on, use_target, use_targets}
use Rattle.abi_rust.specs.Scope.{numbered}

module _ (items : Items) (scope : Scope) where
  -- a round more
  pub round_more : (round : ℕ) (known found : List UseTarget) → known ≡ use_targets items scope round
      → found ≡ targets_on (use_target items scope known) 0 items.uses.items → found ≡ use_targets items scope (round + 1)
  unfolding use_targets
  round_more round known found before is = rw (add-one round) (is ∙ ap (λ k. targets_on (use_target items scope k) 0 items.uses.items) before)

  settled_on : (k n round : ℕ) → n ≡ k + round → use_targets items scope (suc round) ≡ use_targets items scope round → use_targets items scope n ≡ use_targets items scope round
  unfolding use_targets
  settled_on zero n round far same = let e : n ≡ round = omega (arith, far) in ap (use_targets items scope) e
  settled_on (suc k) zero round far same = absurd (omega (arith, far))
  settled_on (suc k) (suc n) round far same =
      let e : n ≡ k + round = omega (arith, far) in
      ap (λ known. targets_on (use_target items scope known) 0 items.uses.items) (settled_on k n round e same) ∙ same

  -- a round that finds what the one before did finds what all others do
  pub settled : (n round : ℕ) (known found : List UseTarget) → round < n → known ≡ use_targets items scope round
      → found ≡ targets_on (use_target items scope known) 0 items.uses.items → found ≡ known → found ≡ use_targets items scope n
  settled n round known found within before is same =
      let next : found ≡ use_targets items scope (suc round) = round_more round known found before is ∙ ap (use_targets items scope) (add-one round) in
      let left : n ≡ (n - round) + round = omega arith in
      same ∙ (before ∙ sym (settled_on (n - round) n round left (sym next ∙ (same ∙ before))))

-- a use more
pub target_more : (of : ℕ → Use → UseTarget) (uses : List Use) (all : List UseTarget) (i : ℕ) (d : Use) → i < length uses
    → (all ++ of (numbered i) (get_or uses i d) ∷ []) ++ targets_on of (i + 1) (drop (i + 1) uses) ≡ all ++ targets_on of i (drop i uses)
target_more of uses all i d within = rw (drop-cons uses i d, add-one i) (joined all _ _)
  where
    joined : {A : Type 0} (xs : List A) (y : A) (ys : List A) → (xs ++ y ∷ []) ++ ys ≡ xs ++ y ∷ ys
    joined [] y ys = refl
    joined (x ∷ xs) y ys = ap (λ rest. x ∷ rest) (joined xs y ys)

-- lists are the same whose next items are, and what stands behind them
pub same_more : (a b : List UseTarget) (i : ℕ) (x y : UseTarget) → i < length a → x ≡ get_or a i x → slice_get b i ≡ Some y → x ≡ y
    → (drop i a ≡ drop i b → a ≡ b) → drop (i + 1) a ≡ drop (i + 1) b → a ≡ b
same_more a b i x y more is found same before rest =
    let within : i < length b = slice_get_within b i y found in
    let here : get_or b i y ≡ y = get_or_from_slice_get b i y y found in
    let next : drop (suc i) a ≡ drop (suc i) b = subst (λ k. drop k a ≡ drop k b) (add-one i) rest in
    before (rw (drop-cons a i x, drop-cons b i y, ← is, here) (ap (λ z. z ∷ drop (suc i) a) same ∙ ap (λ zs. y ∷ zs) next))

-- and so are those of one length that have ended
pub same_end : (a b : List UseTarget) (i : ℕ) → length a ≤ i → length a ≡ length b → (drop i a ≡ drop i b → a ≡ b) → a ≡ b
same_end a b i past long before =
    let done : length b ≤ i = omega (arith, past, long) in
    before (drop_all i a past ∙ sym (drop_all i b done))
