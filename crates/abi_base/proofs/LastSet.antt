-- The last setting of a kind decides.
use Rattle.std.proofs.Common.{◌≡◌, ℕ, List, [], ◌∷◌, ◌++◌, arith, Bool, true, false, Option, Some, None, refl, sym, subst, ap, ◌∙◌, ◌≤◌, ◌⊎◌, inl, inr}
use Rattle.std.specs.Prelude.{nat_eq, unwrap_or, if◌then◌else◌}
use Rattle.std.specs.List.{All}
use Rattle.std.proofs.lemmas.List.Elements.{All-head, All-tail}
use Rattle.std.proofs.lemmas.Bool.Decides.{nat_tests}
use Rattle.abi_base.specs.declared.address_space.AddressSpace.{AddressSpace}
use Rattle.abi_base.specs.declared.pointer_spec.PointerSpec.{PointerSpec}
use Rattle.abi_base.specs.declared.setting.Setting.{Setting}
use Rattle.abi_base.specs.declared.setting.Setting.TheVariants.{Order, Instructions, Aligned, Pointer, Integer, Vector, Nothing}
use Rattle.abi_base.specs.DataLayout.{entry_of, listed_align, same_space}
use Rattle.abi_base.specs.DataLayoutText.{last_said, put_space, put_vector, spaces_after, vectors_after, wide_bits, wider, widest}
use Rattle.abi_base.specs.KeyedList.{entry_value, put_entry}
use Rattle.abi_base.proofs.Settings.{wider_is, wider_least}

-- where no setting says anything, the default stays
pub none_says : {A : Type 0} (says : Setting → Option A) (ss : List Setting) (d : A) → All (λ s. says s ≡ None) ss → last_said says ss d ≡ d
none_says says [] d h = refl
none_says says (s ∷ ss) d h = ap (λ o. last_said says ss (unwrap_or o d)) (All-head (λ t. says t ≡ None) s ss h) ∙ none_says says ss d (All-tail (λ t. says t ≡ None) s ss h)

-- else what the one says that none follows which says anything
pub last_says : {A : Type 0} (says : Setting → Option A) (earlier later : List Setting) (s : Setting) (x d : A) → says s ≡ Some x → All (λ t. says t ≡ None) later → last_said says (earlier ++ (s ∷ later)) d ≡ x
last_says says [] later s x d e h = ap (λ o. last_said says later (unwrap_or o d)) e ∙ none_says says later x h
last_says says (t ∷ earlier) later s x d e h = last_says says earlier later s x (unwrap_or (says t) d) e h

module _ {K V : Type 0} (same : K → K → Bool) (like : (a b c : K) → same a b ≡ true → same a c ≡ same b c) (meet : (a b c : K) → same a c ≡ true → same b c ≡ true → same a b ≡ true) (key k : K) (value : V) where
  replaced : (e : K × V) (entries : List (K × V)) (t : Bool) → same key k ≡ t → same e.0 key ≡ true → (if same key k then Some value else entry_value same entries k) ≡ (if same key k then Some value else entry_value same (e ∷ entries) k)
  replaced e entries true t h = rw t refl
  replaced e entries false t h = let other : same e.0 k ≡ false = like e.0 key k h ∙ t in rw (t, other) refl

  kept : (e : K × V) (entries : List (K × V)) (t u : Bool) → same key k ≡ t → same e.0 k ≡ u → same e.0 key ≡ false → entry_value same (put_entry same key value entries) k ≡ (if same key k then Some value else entry_value same entries k)
      → entry_value same (e ∷ put_entry same key value entries) k ≡ (if same key k then Some value else entry_value same (e ∷ entries) k)
  kept e entries true true t u h later = let yes : same e.0 key ≡ true = meet e.0 key k u t in (cc)
  kept e entries false true t u h later = rw (t, u) refl
  kept e entries true false t u h later = rw u later
  kept e entries false false t u h later = rw u later

  put_at : (e : K × V) (entries : List (K × V)) (t : Bool) → same e.0 key ≡ t → entry_value same (put_entry same key value entries) k ≡ (if same key k then Some value else entry_value same entries k)
      → entry_value same (if same e.0 key then (key, value) ∷ entries else e ∷ put_entry same key value entries) k ≡ (if same key k then Some value else entry_value same (e ∷ entries) k)
  put_at e entries true t later = rw t (replaced e entries (same key k) refl t)
  put_at e entries false t later = rw t (kept e entries (same key k) (same e.0 k) refl refl t later)

  -- what is found after an entry was put in
  put_look : (entries : List (K × V)) → entry_value same (put_entry same key value entries) k ≡ (if same key k then Some value else entry_value same entries k)
  put_look [] = refl
  put_look (e ∷ entries) = put_at e entries (same e.0 key) refl (put_look entries)

said_at : {V : Type 0} (t : Bool) (value : V) (o : Option V) → (if t then Some value else o) ≡ unwrap_or (if t then Some (Some value) else None) o
said_at true value o = refl
said_at false value o = refl

nat_like : (a b c : ℕ) → nat_eq a b ≡ true → nat_eq a c ≡ nat_eq b c
nat_like a b c h = let e : a ≡ b = grind (arith, nat_tests) in ap (λ n. nat_eq n c) e

nat_meet : (a b c : ℕ) → nat_eq a c ≡ true → nat_eq b c ≡ true → nat_eq a b ≡ true
nat_meet a b c h k = grind (arith, nat_tests)

-- the alignment that is set for vectors of the size
abbrev pub vector_said : (size : ℕ) → Setting → Option (Option ℕ)
vector_said size (Vector named align) = if nat_eq named size then Some (Some align) else None
vector_said size _ = None

-- how the pointers of the space are set
abbrev pub pointers_said : (space : AddressSpace) → Setting → Option (Option PointerSpec)
pointers_said space (Pointer named spec) = if same_space named space then Some (Some spec) else None
pointers_said space _ = None

put_listed : (size named align : ℕ) (entries : List (ℕ × ℕ)) → listed_align (put_vector named align entries) size ≡ unwrap_or (if nat_eq named size then Some (Some align) else None) (listed_align entries size)
put_listed size named align entries =
    put_look nat_eq nat_like nat_meet named size align entries ∙ said_at (nat_eq named size) align (listed_align entries size)

-- the alignment of vectors of a size is that of the last spec of that size, or as it was
pub vector_listed : (size : ℕ) (entries : List (ℕ × ℕ)) (ss : List Setting) → listed_align (vectors_after entries ss) size ≡ last_said (vector_said size) ss (listed_align entries size)
vector_listed size entries [] = refl
vector_listed size entries (Vector named align ∷ ss) = vector_listed size (put_vector named align entries) ss ∙ ap (last_said (vector_said size) ss) (put_listed size named align entries)
vector_listed size entries (Order e ∷ ss) = vector_listed size entries ss
vector_listed size entries (Instructions a ∷ ss) = vector_listed size entries ss
vector_listed size entries (Aligned w a ∷ ss) = vector_listed size entries ss
vector_listed size entries (Pointer a p ∷ ss) = vector_listed size entries ss
vector_listed size entries (Integer w a ∷ ss) = vector_listed size entries ss
vector_listed size entries (Nothing ∷ ss) = vector_listed size entries ss

put_entered : (space named : AddressSpace) (spec : PointerSpec) (entries : List (AddressSpace × PointerSpec)) → entry_of (put_space named spec entries) space ≡ unwrap_or (if same_space named space then Some (Some spec) else None) (entry_of entries space)
put_entered space named spec entries =
    put_look same_space (λ a b c. nat_like a.0 b.0 c.0) (λ a b c. nat_meet a.0 b.0 c.0) named space spec entries
    ∙ said_at (same_space named space) spec (entry_of entries space)

default_at : (space default named : AddressSpace) (spec : PointerSpec) (entries : List (AddressSpace × PointerSpec)) (t : Bool) → same_space space default ≡ false → same_space named default ≡ t
    → entry_of (if same_space named default then entries else put_space named spec entries) space ≡ unwrap_or (if same_space named space then Some (Some spec) else None) (entry_of entries space)
default_at space default named spec entries true other t =
    let apart : same_space named space ≡ false = grind (arith, nat_tests) in
    rw (t, apart) refl
default_at space default named spec entries false other t = rw t (put_entered space named spec entries)

-- the pointers of a space other than the default one are those of the last spec of that space, or as they were
pub space_listed : (space default : AddressSpace) → same_space space default ≡ false → (entries : List (AddressSpace × PointerSpec)) (ss : List Setting) → entry_of (spaces_after default entries ss) space ≡ last_said (pointers_said space) ss (entry_of entries space)
space_listed space default other entries [] = refl
space_listed space default other entries (Pointer named spec ∷ ss) = space_listed space default other (if same_space named default then entries else put_space named spec entries) ss ∙ ap (last_said (pointers_said space) ss) (default_at space default named spec entries (same_space named default) other refl)
space_listed space default other entries (Order e ∷ ss) = space_listed space default other entries ss
space_listed space default other entries (Instructions a ∷ ss) = space_listed space default other entries ss
space_listed space default other entries (Aligned w a ∷ ss) = space_listed space default other entries ss
space_listed space default other entries (Vector a p ∷ ss) = space_listed space default other entries ss
space_listed space default other entries (Integer w a ∷ ss) = space_listed space default other entries ss
space_listed space default other entries (Nothing ∷ ss) = space_listed space default other entries ss

-- no spec of 64 to 128 bits is wider than the widest
pub no_wider : (least : ℕ) (earlier later : List Setting) (s : Setting) (width : ℕ) → wide_bits s ≡ Some width → width ≤ widest least (earlier ++ (s ∷ later))
no_wider least [] later s width e = subst (λ (o : Option ℕ). width ≤ wider o (widest least later)) (sym e) (omega arith)
no_wider least (t ∷ earlier) later s width e = omega (arith, no_wider least earlier later s width e, wider_least (wide_bits t) (widest least (earlier ++ (s ∷ later))))

-- which is the width of one of them, or the least
pub widest_is : (least : ℕ) (ss : List Setting) → (widest least ss ≡ least) ⊎ ((earlier : List Setting) × (s : Setting) × (later : List Setting) × (ss ≡ earlier ++ (s ∷ later)) × (wide_bits s ≡ Some (widest least ss)))
widest_is least [] = inl refl
widest_is least (s ∷ ss) = elim (wider_is (wide_bits s) (widest least ss) (widest least (s ∷ ss)) refl) [
  | inl here ↦ inr ([], s, ss, refl, here)
  | inr later ↦ elim (widest_is least ss) [
    | inl e ↦ inl (sym later ∙ e)
    | inr found ↦ inr (s ∷ found.0, found.1, found.2, ap (λ ts. s ∷ ts) found.3, found.4 ∙ ap Some later)
  ]
]
