-- Conventions by their numbers and their names.
use Rattle.std.proofs.Common.{◌≡◌, ℕ, zero, suc, ◌+◌, ◌==◌, ◌&&◌, Bool, true, false, IsTrue, List, [], ◌∷◌, Option, None, Some, slice_get, unwrap_or, refl, ap, subst, sym, ◌∙◌, arith}
use Rattle.std.proofs.lemmas.Grind.{common_steps}
use Rattle.std.specs.List.{find}
use Rattle.std.specs.Option.{ok_or}
use Rattle.std.proofs.lemmas.Slice.Eq.{bytes_eq-Decides}
use Rattle.abi_base.specs.declared.abi_from_str_err.AbiFromStrErr.TheVariants.{Unknown}
use Rattle.abi_types.specs.declared.extern_abi.ExternAbi.{ExternAbi}
use Rattle.abi_types.specs.declared.extern_abi.ExternAbi.TheVariants.{C, System, Aapcs, Cdecl, Stdcall, Fastcall, Thiscall, Vectorcall, SysV64, Win64}
use Rattle.abi_types.specs.declared.extern_abi.TheConstants.ExternAbi.{ALL_VARIANTS}
use Rattle.abi_types.specs.ExternAbi.{abi_number, abi_name, has_name, IsAbiOfText}

-- a convention stands at its number in the list, and is the first there of its name
pub found : (abi : ExternAbi) → (slice_get ALL_VARIANTS.now (abi_number abi) ≡ Some abi) × (find (has_name (abi_name abi)) ALL_VARIANTS.now ≡ Some abi)
found (C false) = (refl, refl)
found (C true) = (refl, refl)
found (System false) = (refl, refl)
found (System true) = (refl, refl)
found (Aapcs false) = (refl, refl)
found (Aapcs true) = (refl, refl)
found (Cdecl false) = (refl, refl)
found (Cdecl true) = (refl, refl)
found (Stdcall false) = (refl, refl)
found (Stdcall true) = (refl, refl)
found (Fastcall false) = (refl, refl)
found (Fastcall true) = (refl, refl)
found (Thiscall false) = (refl, refl)
found (Thiscall true) = (refl, refl)
found (Vectorcall false) = (refl, refl)
found (Vectorcall true) = (refl, refl)
found (SysV64 false) = (refl, refl)
found (SysV64 true) = (refl, refl)
found (Win64 false) = (refl, refl)
found (Win64 true) = (refl, refl)
found _ = (refl, refl)

pub at_number : (abi : ExternAbi) → slice_get ALL_VARIANTS.now (abi_number abi) ≡ Some abi
at_number abi = (found abi).0

-- the conventions have the numbers from this one on
abbrev are_numbered : ℕ → List ExternAbi → Bool
are_numbered n [] = true
are_numbered n (abi ∷ abis) = (abi_number abi == n) && are_numbered (suc n) abis

numbered_from : (n k : ℕ) (abis : List ExternAbi) (abi : ExternAbi) → IsTrue (are_numbered n abis) → slice_get abis k ≡ Some abi → abi_number abi ≡ n + k
numbered_from n k [] abi t e = grind (arith, common_steps)
numbered_from n zero (x ∷ xs) abi t e = grind (arith, common_steps)
numbered_from n (suc k) (x ∷ xs) abi t e =
    let rest : IsTrue (are_numbered (suc n) xs) = grind (arith, common_steps) in
    omega (arith, numbered_from (suc n) k xs abi rest e)

-- the convention at a place has that number
pub numbered : (n : ℕ) (abi : ExternAbi) → slice_get ALL_VARIANTS.now n ≡ Some abi → abi_number abi ≡ n
numbered n abi e = omega (arith, numbered_from 0 n ALL_VARIANTS.now abi refl e)

-- and is the only one that has it
pub only_numbered : (n : ℕ) (a b : ExternAbi) → slice_get ALL_VARIANTS.now n ≡ Some a → abi_number b ≡ n → a ≡ b
only_numbered n a b at e =
    let own : slice_get ALL_VARIANTS.now n ≡ Some b = subst (λ (m : ℕ). slice_get ALL_VARIANTS.now m ≡ Some b) e (at_number b) in
    grind (arith, common_steps, at, own)

-- what is found among conventions has the name
named_step : (text : List ℕ) (x : ExternAbi) (xs : List ExternAbi) (abi : ExternAbi) (b : Bool) → has_name text x ≡ b → find (has_name text) (x ∷ xs) ≡ Some abi → (find (has_name text) xs ≡ Some abi → text ≡ abi_name abi) → text ≡ abi_name abi
named_step text x xs abi true t e rest = grind (arith, common_steps, (bytes_eq-Decides (abi_name x) text).0 t, t, e)
named_step text x xs abi false t e rest = rest (grind (arith, common_steps, t, e))

named : (text : List ℕ) (abis : List ExternAbi) (abi : ExternAbi) → find (has_name text) abis ≡ Some abi → text ≡ abi_name abi
named text [] abi e = grind (arith, common_steps, e)
named text (x ∷ xs) abi e = named_step text x xs abi (has_name text x) refl e (named text xs abi)

-- a convention whose name the text is, is found
found_named : (text : List ℕ) (abi : ExternAbi) → text ≡ abi_name abi → find (has_name text) ALL_VARIANTS.now ≡ Some abi
found_named text abi same = subst (λ (t : List ℕ). find (has_name t) ALL_VARIANTS.now ≡ Some abi) (sym same) (found abi).1

reading : (text : List ℕ) (first : Option ExternAbi) → find (has_name text) ALL_VARIANTS.now ≡ first → IsAbiOfText text (ok_or first Unknown)
reading text None e = record {
  named = tt;
  each = λ abi same. ap (λ (o : Option ExternAbi). ok_or o Unknown) (sym e ∙ found_named text abi same);
  unknown = refl;
}
reading text (Some one) e = record {
  named = named text ALL_VARIANTS.now one e;
  each = λ abi same. ap (λ (o : Option ExternAbi). ok_or o Unknown) (sym e ∙ found_named text abi same);
  unknown = tt;
}

-- the first convention whose name the text is, is what is read from it
pub is_reading : (text : List ℕ) → IsAbiOfText text (ok_or (find (has_name text) ALL_VARIANTS.now) Unknown)
is_reading text = reading text (find (has_name text) ALL_VARIANTS.now) refl

-- a name is that of one convention only
pub only_named : (a b : ExternAbi) → abi_name a ≡ abi_name b → a ≡ b
only_named a b same = ap (λ (o : Option ExternAbi). unwrap_or o a) (sym (found a).1 ∙ found_named (abi_name a) b same)
