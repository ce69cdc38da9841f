-- The register of parts, of which each has one of its own or none, and where they end.
use Rattle.std.proofs.Common.{inl, inr, ◌≡◌, ℕ, zero, suc, ◌+◌, ◌<◌, ◌==◌, ◌⊎◌, cond, Bool, true, false, List, [], ◌∷◌, length, map, max, slice_index_or, Option, None, Some, refl, subst, sym, ◌∙◌, arith, All}
use Rattle.std.specs.Prelude.{Contains}
use Rattle.std.specs.List.{AllByRecursion}
use Rattle.std.proofs.Math.Nat.{max-zero, sub-add-eq-max}
use Rattle.std.proofs.lemmas.Bool.{eq-eqb, eqb-true}
use Rattle.std.proofs.lemmas.List.Elements.{All-contains, All-from_recursion, recursion_from_All}
use Rattle.abi_types.specs.declared.reg.Reg.{Reg}
use Rattle.abi_types.specs.Homogeneous.{IsOneOf}
use Rattle.abi_types.specs.Uniform.{IsChain, greatest_of}

-- ---- items, and what holds of some

-- it holds of some item
abbrev pub OfSome : (ℕ → Type 0) → List ℕ → Type 0
OfSome P [] = ⊥
OfSome P (i ∷ is) = P i ⊎ OfSome P is

some_at : (P : ℕ → Type 0) (is : List ℕ) (i k : ℕ) → k < length is → slice_index_or is k i ≡ i → P i → OfSome P is
some_at P [] i k lt e p = absurd (omega (arith, lt))
some_at P (j ∷ is) i zero lt e p = inl (subst P (sym e) p)
some_at P (j ∷ is) i (suc k) lt e p = inr (some_at P is i k (omega (arith, lt)) e p)

some_of : (P : ℕ → Type 0) (is : List ℕ) (i : ℕ) → Contains is i → P i → OfSome P is
some_of P is i at p = some_at P is i at.0 at.1 at.2 p

of_some : (P : ℕ → Type 0) (is : List ℕ) → OfSome P is → (i : ℕ) × Contains is i × P i
of_some P [] any = absurd any
of_some P (j ∷ is) (inl p) = (j, (0, omega arith, refl), p)
of_some P (j ∷ is) (inr any) =
    let rest : (i : ℕ) × Contains is i × P i = of_some P is any in
    (rest.0, (suc rest.1.0, omega (arith, rest.1.1), rest.1.2), rest.2)

-- what holds of each item, weakened
pub each : (P Q : ℕ → Type 0) (is : List ℕ) → ((i : ℕ) → P i → Q i) → AllByRecursion P is → AllByRecursion Q is
each P Q [] h all = tt
each P Q (i ∷ is) h all = (h i all.0, each P Q is h all.1)

-- two things that hold of each item
pub both : (P Q : ℕ → Type 0) (is : List ℕ) → AllByRecursion P is → AllByRecursion Q is → AllByRecursion (λ i. P i × Q i) is
both P Q [] p q = tt
both P Q (i ∷ is) p q = ((p.0, q.0), both P Q is p.1 q.1)

put_or : {A : Type 0} (P : ℕ → A → Type 0) (i : ℕ) (a : A) → P i a → (f : ℕ → A) (j : ℕ) (b : Bool) → (j == i) ≡ b → P j (f j) → P j (cond b a (f j))
put_or P i a p f j true e q = subst (λ k. P k a) (sym (eqb-true j i e)) p
put_or P i a p f j false e q = q

-- one chosen for each item
pub choice : {A : Type 0} (d : A) (P : ℕ → A → Type 0) (is : List ℕ) → AllByRecursion (λ i. (a : A) × P i a) is → (f : ℕ → A) × AllByRecursion (λ i. P i (f i)) is
choice d P [] all = ((λ i. d), tt)
choice {A} d P (i ∷ is) all =
    let rest : (f : ℕ → A) × AllByRecursion (λ j. P j (f j)) is = choice d P is all.1 in
    let f : ℕ → A = λ j. cond (j == i) all.0.0 (rest.0 j) in
    let new : P i (f i) = subst (λ b. P i (cond b all.0.0 (rest.0 i))) (sym (eq-eqb i i refl)) all.0.1 in
    (f, (new, each (λ j. P j (rest.0 j)) (λ j. P j (f j)) is (λ j p. put_or P i all.0.0 all.0.1 rest.0 j (j == i) refl p) rest.1))

-- ---- registers

-- none, or this one
abbrev pub IsAtMost : (s r : Option Reg) → Type 0
IsAtMost s r = (s ≡ None) ⊎ (s ≡ r)

-- parts have this register together with what was found before, of which each has one of these of its own
abbrev pub IsFound : (own : ℕ → Option Reg → Type 0) → (before : Option Reg) → (parts : List ℕ) → Option Reg → Type 0
IsFound own h parts r = AllByRecursion (λ i. (s : Option Reg) × own i s × IsAtMost s r) parts × IsAtMost h r × ((r ≡ None) ⊎ (h ≡ r) ⊎ OfSome (λ i. own i r) parts)

-- a part has one register
abbrev pub HasOne : (own : ℕ → Option Reg → Type 0) → (i : ℕ) → Type 0
HasOne own i = (r s : Option Reg) → own i r → own i s → r ≡ s

at_most_none : (s : Option Reg) → IsAtMost s None → s ≡ None
at_most_none s (inl e) = e
at_most_none s (inr e) = e

at_most_both : (s m r : Option Reg) → IsAtMost s m → IsAtMost m r → IsAtMost s r
at_most_both s m r (inl e) b = inl e
at_most_both s m r (inr e) (inl f) = inl (e ∙ f)
at_most_both s m r (inr e) (inr f) = inr (e ∙ f)

-- named for each part
pub found_from : (own : ℕ → Option Reg → Type 0) (h : Option Reg) (parts : List ℕ) (r : Option Reg) (registers : ℕ → Option Reg) → All (λ i. own i (registers i)) parts → IsAtMost h r
    → All (λ i. IsAtMost (registers i) r) parts → ((r ≡ None) ⊎ (h ≡ r) ⊎ ((i : ℕ) × Contains parts i × (registers i ≡ r))) → IsFound own h parts r
found_from own h parts r registers all before most some = (
  each (λ i. own i (registers i) × IsAtMost (registers i) r) (λ i. (s : Option Reg) × own i s × IsAtMost s r) parts (λ i p. (registers i, p.0, p.1))
      (both (λ i. own i (registers i)) (λ i. IsAtMost (registers i) r) parts (recursion_from_All (λ i. own i (registers i)) parts all) (recursion_from_All (λ i. IsAtMost (registers i) r) parts most)),
  before,
  last some,
)
  where
    last : ((r ≡ None) ⊎ (h ≡ r) ⊎ ((i : ℕ) × Contains parts i × (registers i ≡ r))) → (r ≡ None) ⊎ (h ≡ r) ⊎ OfSome (λ i. own i r) parts
    last (inl e) = inl e
    last (inr (inl e)) = inr (inl e)
    last (inr (inr at)) = inr (inr (some_of (λ i. own i r) parts at.0 at.1 (subst (own at.0) at.2 (All-contains (λ i. own i (registers i)) parts at.0 all at.1))))

-- registers can be named for each part
pub found_to : (own : ℕ → Option Reg → Type 0) (h : Option Reg) (parts : List ℕ) (r : Option Reg) → ((i : ℕ) → HasOne own i) → IsFound own h parts r
    → (registers : ℕ → Option Reg) × All (λ i. own i (registers i)) parts × IsAtMost h r × All (λ i. IsAtMost (registers i) r) parts
    × ((r ≡ None) ⊎ (h ≡ r) ⊎ ((i : ℕ) × Contains parts i × (registers i ≡ r)))
found_to own h parts r one found =
    let chosen : (f : ℕ → Option Reg) × AllByRecursion (λ i. own i (f i) × IsAtMost (f i) r) parts =
    choice None (λ i s. own i s × IsAtMost s r) parts
    (each (λ i. (s : Option Reg) × own i s × IsAtMost s r) (λ i. (s : Option Reg) × (own i s × IsAtMost s r)) parts (λ i p. (p.0, (p.1, p.2))) found.0) in
    let f : ℕ → Option Reg = chosen.0 in
    let all : All (λ i. own i (f i)) parts =
    All-from_recursion (λ i. own i (f i)) parts (each (λ i. own i (f i) × IsAtMost (f i) r) (λ i. own i (f i)) parts (λ i p. p.0) chosen.1) in
    let most : All (λ i. IsAtMost (f i) r) parts =
    All-from_recursion (λ i. IsAtMost (f i) r) parts (each (λ i. own i (f i) × IsAtMost (f i) r) (λ i. IsAtMost (f i) r) parts (λ i p. p.1) chosen.1) in
    (f, all, found.1, most, last f all found.2)
  where
    last : (f : ℕ → Option Reg) → All (λ i. own i (f i)) parts → ((r ≡ None) ⊎ (h ≡ r) ⊎ OfSome (λ i. own i r) parts) → (r ≡ None) ⊎ (h ≡ r) ⊎ ((i : ℕ) × Contains parts i × (f i ≡ r))
    last f all (inl e) = inl e
    last f all (inr (inl e)) = inr (inl e)
    last f all (inr (inr any)) =
        let at : (i : ℕ) × Contains parts i × own i r = of_some (λ i. own i r) parts any in
        inr (inr (at.0, at.1, one at.0 (f at.0) r (All-contains (λ i. own i (f i)) parts at.0 all at.1) at.2))

-- where no part is left, it is what was found
found_end : (own : ℕ → Option Reg → Type 0) (h r : Option Reg) → IsFound own h [] r → r ≡ h
found_end own h r (all, inl e, inl f) = f ∙ sym e
found_end own h r (all, inr e, some) = sym e
found_end own h r (all, inl e, inr (inl f)) = sym f
found_end own h r (all, inl e, inr (inr any)) = absurd any

-- a part was looked at
pub found_on : (own : ℕ → Option Reg → Type 0) (h : Option Reg) (i : ℕ) (parts : List ℕ) (s m r : Option Reg) → HasOne own i → own i s → IsOneOf h s m → IsFound own h (i ∷ parts) r → IsFound own m parts r
found_on own h i parts s m r one is merged found = (found.0.1, most merged.2, last found.2)
  where
    same : s ≡ found.0.0.0
    same = one s found.0.0.0 is found.0.0.1

    of_s : IsAtMost s r
    of_s = subst (λ x. IsAtMost x r) (sym same) found.0.0.2

    most : ((m ≡ None) ⊎ (h ≡ m) ⊎ (s ≡ m)) → IsAtMost m r
    most (inl e) = inl e
    most (inr (inl e)) = subst (λ x. IsAtMost x r) e found.1
    most (inr (inr e)) = subst (λ x. IsAtMost x r) e of_s

    from : (x : Option Reg) → IsAtMost x m → x ≡ r → (r ≡ None) ⊎ (m ≡ r) ⊎ OfSome (λ j. own j r) parts
    from x (inl e) f = inl (sym f ∙ e)
    from x (inr e) f = inr (inl (sym e ∙ f))

    last : ((r ≡ None) ⊎ (h ≡ r) ⊎ own i r ⊎ OfSome (λ j. own j r) parts) → (r ≡ None) ⊎ (m ≡ r) ⊎ OfSome (λ j. own j r) parts
    last (inl e) = inl e
    last (inr (inl e)) = from h merged.0 e
    last (inr (inr (inl o))) = from s merged.1 (one s r is o)
    last (inr (inr (inr any))) = inr (inr any)

-- and the other way round
pub found_back : (own : ℕ → Option Reg → Type 0) (h : Option Reg) (i : ℕ) (parts : List ℕ) (s m r : Option Reg) → own i s → IsOneOf h s m → IsFound own m parts r → IsFound own h (i ∷ parts) r
found_back own h i parts s m r is merged found =
    (((s, is, at_most_both s m r merged.1 found.1), found.0), at_most_both h m r merged.0 found.1, last found.2)
  where
    from : m ≡ r → ((m ≡ None) ⊎ (h ≡ m) ⊎ (s ≡ m)) → (r ≡ None) ⊎ (h ≡ r) ⊎ own i r ⊎ OfSome (λ j. own j r) parts
    from f (inl e) = inl (sym f ∙ e)
    from f (inr (inl e)) = inr (inl (e ∙ f))
    from f (inr (inr e)) = inr (inr (inl (subst (own i) (e ∙ f) is)))

    last : ((r ≡ None) ⊎ (m ≡ r) ⊎ OfSome (λ j. own j r) parts) → (r ≡ None) ⊎ (h ≡ r) ⊎ own i r ⊎ OfSome (λ j. own j r) parts
    last (inl e) = inl e
    last (inr (inl e)) = from e merged.2
    last (inr (inr any)) = inr (inr (inr any))

-- what was found and the next part have two registers
pub found_apart : (own : ℕ → Option Reg → Type 0) (h : Option Reg) (i : ℕ) (parts : List ℕ) (s r : Option Reg) → HasOne own i → own i s → ((m : Option Reg) → IsOneOf h s m → ⊥) → IsFound own h (i ∷ parts) r → ⊥
found_apart own h i parts s r one is apart found = by h found.1 refl
  where
    of_s : IsAtMost s r
    of_s = subst (λ x. IsAtMost x r) (sym (one s found.0.0.0 is found.0.0.1)) found.0.0.2

    by : (x : Option Reg) → IsAtMost x r → h ≡ x → ⊥
    by None most e = apart s (inl e, inr refl, inr (inr refl))
    by (Some a) (inl f) e = apart s (inl (e ∙ f), inr refl, inr (inr refl))
    by (Some a) (inr f) e = apart r (inr (e ∙ f), of_s, inr (inl (e ∙ f)))

-- parts have one register together
pub found_once : (own : ℕ → Option Reg → Type 0) (h : Option Reg) (parts : List ℕ) (r s : Option Reg) → ((i : ℕ) → HasOne own i) → IsFound own h parts r → IsFound own h parts s → r ≡ s
found_once own h [] r s one f g = found_end own h r f ∙ sym (found_end own h s g)
found_once own h (i ∷ parts) r s one f g = both_ways (at_least r s f.2 g) (at_least s r g.2 f)
  where
    own_most : (x y : Option Reg) → IsFound own h (i ∷ parts) y → (is : List ℕ) → AllByRecursion (λ j. (z : Option Reg) × own j z × IsAtMost z y) is → OfSome (λ j. own j x) is → IsAtMost x y
    own_most x y k [] all any = absurd any
    own_most x y k (j ∷ is) all (inl o) = subst (λ z. IsAtMost z y) (one j all.0.0 x all.0.1 o) all.0.2
    own_most x y k (j ∷ is) all (inr any) = own_most x y k is all.1 any

    at_least : (x y : Option Reg) → ((x ≡ None) ⊎ (h ≡ x) ⊎ OfSome (λ j. own j x) (i ∷ parts)) → IsFound own h (i ∷ parts) y → IsAtMost x y
    at_least x y (inl e) k = inl e
    at_least x y (inr (inl e)) k = subst (λ z. IsAtMost z y) e k.1
    at_least x y (inr (inr any)) k = own_most x y k (i ∷ parts) k.0 any

    both_ways : IsAtMost r s → IsAtMost s r → r ≡ s
    both_ways (inr e) b = e
    both_ways (inl e) (inr f) = sym f
    both_ways (inl e) (inl f) = e ∙ sym f

-- ---- ends

-- the greatest of the ends of parts, each of which ends there, and of what was found before
abbrev pub IsEnd : (ends : ℕ → ℕ → Type 0) → (parts : List ℕ) → (before end : ℕ) → Type 0
IsEnd ends [] before end = end ≡ before
IsEnd ends (i ∷ parts) before end = (x : ℕ) × ends i x × IsEnd ends parts (max before x) end

max_assoc : (a b c : ℕ) → max a (max b c) ≡ max (max a b) c
max_assoc a b c = omega (arith, sub-add-eq-max a b, sub-add-eq-max b c, sub-add-eq-max a (max b c), sub-add-eq-max (max a b) c)

-- named for each part
pub end_from : (ends : ℕ → ℕ → Type 0) (at : ℕ → ℕ) (parts : List ℕ) (before end : ℕ) → AllByRecursion (λ i. ends i (at i)) parts → end ≡ max before (greatest_of (map at parts)) → IsEnd ends parts before end
end_from ends at [] before end all e = e ∙ max-zero before
end_from ends at (i ∷ parts) before end all e = (at i, all.0, end_from ends at parts (max before (at i)) end all.1 (e ∙ max_assoc before (at i) (greatest_of (map at parts))))

-- parts end once
pub end_once : (ends : ℕ → ℕ → Type 0) (parts : List ℕ) (before x y : ℕ) → ((i a b : ℕ) → ends i a → ends i b → a ≡ b) → IsEnd ends parts before x → IsEnd ends parts before y → x ≡ y
end_once ends [] before x y one f g = f ∙ sym g
end_once ends (i ∷ parts) before x y one f g =
    end_once ends parts (max before f.0) x y one f.2 (subst (λ a. IsEnd ends parts (max before a) y) (one i g.0 f.0 g.1 f.1) g.2)

-- ends that are named
pub end_to : (ends : ℕ → ℕ → Type 0) (at : ℕ → ℕ) (parts : List ℕ) (before end : ℕ) → ((i a b : ℕ) → ends i a → ends i b → a ≡ b) → AllByRecursion (λ i. ends i (at i)) parts → IsEnd ends parts before end
    → end ≡ max before (greatest_of (map at parts))
end_to ends at parts before end one all f = end_once ends parts before end (max before (greatest_of (map at parts))) one f (end_from ends at parts before (max before (greatest_of (map at parts))) all refl)

-- a chain ends once
pub chain_once : (offset size : ℕ → ℕ) (start : ℕ) (parts : List ℕ) (x y : ℕ) → IsChain offset size start parts x → IsChain offset size start parts y → x ≡ y
chain_once offset size start [] x y f g = f ∙ sym g
chain_once offset size start (i ∷ parts) x y f g = chain_once offset size (start + size i) parts x y f.1 g.1
