-- One more name of a crate.
use Rattle.std.proofs.Common.{◌≡◌, ℕ, ◌+◌, ◌<◌, true, false, List, [], ◌∷◌, ◌++◌, get_or, length, take, Some, None, refl, arith, ◌∙◌, add-one}
use Rattle.std.proofs.Math.Seq.{take-suc}
use Rattle.std.proofs.lemmas.Grind.{common_steps}
use Rattle.std.specs.Prelude.{if◌then◌else◌}
use Rattle.std.specs.Option.{option_or}
use Rattle.abi_rust.specs.declared.extern_crates.ExternCrate.{ExternCrate}
use Rattle.abi_rust.specs.ExternCrates.{crate_at, is_crate_at}

-- the last of one more
crate_snoc : (xs : List ExternCrate) (x : ExternCrate) (k : ℕ × ℕ)
    → crate_at (xs ++ x ∷ []) k ≡ (if is_crate_at k x then Some x.root else crate_at xs k)
crate_snoc [] x k = elim (is_crate_at k x) as (λ v. option_or None (if v then Some x.root else None) ≡ (if v then Some x.root else None)) [ true ↦ refl | false ↦ refl ]
crate_snoc (y ∷ xs) x k =
    let more = crate_snoc xs x k in
    rw more (elim (is_crate_at k x) as (λ v. option_or (if v then Some x.root else crate_at xs k) (if is_crate_at k y then Some y.root else None)
    ≡ (if v then Some x.root else option_or (crate_at xs k) (if is_crate_at k y then Some y.root else None))) [ true ↦ refl | false ↦ refl ])

-- the last of those up to an index, and that one too
pub crate_more : (xs : List ExternCrate) (i : ℕ) (d : ExternCrate) (k : ℕ × ℕ) → i < length xs
    → crate_at (take (i + 1) xs) k ≡ (if is_crate_at k (get_or xs i d) then Some (get_or xs i d).root else crate_at (take i xs) k)
crate_more xs i d k within =
    let all : take (i + 1) xs ≡ take i xs ++ get_or xs i d ∷ [] = rw add-one (take-suc xs i d within) in
    rw all (crate_snoc (take i xs) (get_or xs i d) k)
