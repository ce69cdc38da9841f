-- Numbers that are one thing's, whole.
use Rattle.std.proofs.Common.{◌≡◌, ℕ, ◌<◌, ◌≤◌, ◌++◌, List, [], Option, Some, None, drop, length, ap, sym, ◌∙◌, subst, inl, inr, arith}
use Rattle.std.specs.Prelude.{IfErr, Result, Ok, Err}
use Rattle.std.specs.Result.{IsErrAnd}
use Rattle.std.proofs.Math.ListN.{drop_of_length-le}
use Rattle.std.proofs.lemmas.List.{append-nil, length-drop}
use Rattle.abi_c.specs.declared.numbers.error.ReadError.{ReadError}
use Rattle.abi_c.specs.declared.numbers.error.ReadError.TheVariants.{Unreadable, OutOfMemory}
use Rattle.abi_c.specs.Numbers.Pieces.{Fails, Front}
use Rattle.abi_c.proofs.NumberLemmas.Sound.{Sound, same_some}

other_error : Unreadable ≡ OutOfMemory → ⊥
other_error e = subst (λ (x : ReadError). elim x as (λ _. Type 0) [ Unreadable ↦ Unit {0} | OutOfMemory ↦ ⊥ ]) e tt

none_some : {A : Type 0} (a : A) → None ≡ Some a → ⊥
none_some a e = subst (λ (o : Option _). elim o as (λ _. Type 0) [ None ↦ Unit {0} | Some b ↦ ⊥ ]) e tt

-- such a thing as is read is what its numbers begin with
abbrev pub IsBack : {A : Type 0} → Front A → (A → List ℕ) → (A → Type 0) → Type 0
IsBack {A} front flat Readable = (a : A) → Readable a → (rest : List ℕ) → front (flat a ++ rest) ≡ Some (a, rest)

module _ {A : Type 0} (front : Front A) (flat : A → List ℕ) where
  pub all_read : Sound front flat → (ns : List ℕ) (at : ℕ) (a : A) → front (drop 0 ns) ≡ Some (a, drop at ns) → length ns ≤ at → ns ≡ flat a
  all_read sound ns at a e h = sound ns (a, drop at ns) e ∙ ap (λ l. flat a ++ l) (drop_of_length-le ns h) ∙ append-nil (flat a)

  module _ (Readable : A → Type 0) (back : IsBack front flat Readable) where
    whole_back : (ns : List ℕ) (a : A) → Readable a → ns ≡ flat a → front ns ≡ Some (a, [])
    whole_back ns a h e = ap front (e ∙ sym (append-nil (flat a))) ∙ back a h []

    pub only_read : (ns : List ℕ) (at : ℕ) (a b : A) → front (drop 0 ns) ≡ Some (a, drop at ns) → Readable b → ns ≡ flat b → b ≡ a
    only_read ns at a b e h is = ap (λ (p : A × List ℕ). p.0) (same_some (b, []) (a, drop at ns) (sym (whole_back ns b h is) ∙ e))

    pub rest_read : (ns : List ℕ) (at : ℕ) (a b : A) → front (drop 0 ns) ≡ Some (a, drop at ns) → at < length ns → Readable b → ns ≡ flat b → ⊥
    rest_read ns at a b e less h is =
        let none : [] ≡ drop at ns = ap (λ (p : A × List ℕ). p.1) (same_some (b, []) (a, drop at ns) (sym (whole_back ns b h is) ∙ e)) in
        absurd (omega (arith, less, ap length none, length-drop at ns))

    failed : (ns : List ℕ) (e : ReadError) → Fails (front (drop 0 ns)) e → e ≡ Unreadable → (a : A) → Readable a → ns ≡ flat a → ⊥
    failed ns e (inl none) is a h whole = none_some (a, []) (sym none ∙ whole_back ns a h whole)
    failed ns e (inr memory) is a h whole = other_error (sym is ∙ memory)

    pub none_read : {B : Type 0} (ns : List ℕ) (e : ReadError) (r : Result B ReadError) → IsErrAnd r (λ error. error ≡ e) → Fails (front (drop 0 ns)) e
        → IfErr r (λ x. x ≡ Unreadable → (a : A) → Readable a → ns ≡ flat a → ⊥)
    none_read ns e (Ok t) was fails = absurd was
    none_read ns e (Err error) was fails = λ is a h whole. failed ns e fails (sym was ∙ is) a h whole
