-- The walk that looks for the one register of a type.
use Rattle.std.proofs.Common.{◌≡◌, ℕ, suc, ◌+◌, ◌-◌, ◌<◌, ◌≤◌, ◌↔◌, ◌≢◌, not, Bool, true, false, List, [], ◌∷◌, filter, length, max, Option, None, Result, Ok, Err, IfOk, IsErr, IsOk, refl, ap, subst, sym, ◌∙◌, arith}
use Rattle.std.specs.List.{range_with_len}
use Rattle.std.specs.Prelude.{slice_index}
use Rattle.std.proofs.lemmas.Bool.{false≢true}
use Rattle.std.proofs.lemmas.Option.{unwrap_or-slice_get}
use Rattle.abi_scalar.specs.declared.backend_repr.BackendRepr.TheVariants.{ScalarPair}
use Rattle.abi_scalar.specs.declared.fields_shape.FieldsShape.{FieldsShape}
use Rattle.abi_scalar.specs.declared.fields_shape.FieldsShape.TheVariants.{Primitive as NoFields, Union, Array, Arbitrary}
use Rattle.abi_scalar.specs.declared.scalar.Scalar.{Scalar}
use Rattle.abi_scalar.specs.declared.variants.TagEncoding.{TagEncoding}
use Rattle.abi_scalar.specs.declared.variants.VariantLayout.{VariantLayout}
use Rattle.abi_scalar.specs.declared.variants.Variants.TheVariants.{Multiple}
use Rattle.abi_scalar.specs.Shape.{IsListed, field_count, field_offset, listed_offsets}
use Rattle.abi_scalar.specs.Variant.{variants_of}
use Rattle.abi_types.specs.declared.reg.Reg.{Reg}
use Rattle.abi_types.specs.declared.homogeneous.Heterogeneous.{Heterogeneous}
use Rattle.abi_types.specs.declared.homogeneous.HomogeneousAggregate.{HomogeneousAggregate}
use Rattle.abi_types.specs.Homogeneous.{AllRun, Answers, AnswersRun, IsOneOf, IsUnionShape, register_of}
use Rattle.abi_types.specs.Ty.Typed.{Typed, typed, no_type, at_variant, field_in, layout_in, variant_in}
use Rattle.abi_scalar.specs.Layout.{Layout}
use Rattle.abi_types.specs.Ty.Lawful.{IsWellFormedType}
use Rattle.abi_types.specs.Ty.Walks.{is_1zst}
use Rattle.abi_types.specs.Uniform.{AllRunBy, FieldsRun, FieldsRunBy, IsChain, IsUniform, RunsBy, VariantsRunBy, bulky_fields}
use Rattle.abi_types.proofs.OneFieldLemmas.{kept, passed, taken}
use Rattle.abi_types.proofs.PlacesLemmas.{of_variant}
use Rattle.abi_types.proofs.RegisterLemmas.{HasOne, IsEnd, IsFound, end_from, end_to, found_apart, found_back, found_on}
use Rattle.abi_types.proofs.UniformLemmas.{found_one, one_found, one_register, one_run, one_whole_run, own_once, size_at, sizes, union_ends, variant_ends, variant_own, variants_found, variants_named}

-- ---- what is left of a walk

-- two ways to say where parts end, and with which register
abbrev pub IsSameRun : (P Q : (end : ℕ) → Option Reg → Type 0) → Type 0
IsSameRun P Q = (end : ℕ) (r : Option Reg) → P end r ↔ Q end r

-- some register was found before, and these parts are left, which end by this rule
abbrev pub IsLeft : (own : ℕ → Option Reg → Type 0) → (before : Option Reg) → (parts : List ℕ) → (ends : ℕ → Type 0) → (end : ℕ) → Option Reg → Type 0
IsLeft own h parts ends end r = IsFound own h parts r × ends end

-- a part has no register
left_failed : (P : ℕ → Option Reg → Type 0) (own : ℕ → Option Reg → Type 0) (h : Option Reg) (i : ℕ) (parts : List ℕ) (ends : ℕ → Type 0) → ((r : Option Reg) → own i r → ⊥)
    → IsSameRun P (IsLeft own h (i ∷ parts) ends) → (end : ℕ) (r : Option Reg) → P end r → ⊥
left_failed P own h i parts ends none same end r p = let found : IsFound own h (i ∷ parts) r = ((same end r).0 p).0 in none found.0.0.0 found.0.0.1

-- its register isn't the one found before
left_apart : (P : ℕ → Option Reg → Type 0) (own : ℕ → Option Reg → Type 0) (h : Option Reg) (i : ℕ) (parts : List ℕ) (ends : ℕ → Type 0) (s : Option Reg) → HasOne own i → own i s
    → ((m : Option Reg) → IsOneOf h s m → ⊥) → IsSameRun P (IsLeft own h (i ∷ parts) ends) → (end : ℕ) (r : Option Reg) → P end r → ⊥
left_apart P own h i parts ends s one is apart same end r p = found_apart own h i parts s r one is apart ((same end r).0 p).0

-- the next part
left_next : (P : ℕ → Option Reg → Type 0) (own : ℕ → Option Reg → Type 0) (h : Option Reg) (i : ℕ) (parts : List ℕ) (ends rest : ℕ → Type 0) (s m : Option Reg) → HasOne own i → own i s
    → IsOneOf h s m → ((end : ℕ) → ends end ↔ rest end) → IsSameRun P (IsLeft own h (i ∷ parts) ends) → IsSameRun P (IsLeft own m parts rest)
left_next P own h i parts ends rest s m one is merged next same end r = (
  (λ p. let left : IsLeft own h (i ∷ parts) ends end r = (same end r).0 p in (found_on own h i parts s m r one is merged left.0, (next end).0 left.1)),
  (λ left. (same end r).1 (found_back own h i parts s m r is merged left.0, (next end).1 left.1)),
)

-- ---- fields

-- the field is more than a place
abbrev pub is_bulky : Typed → (index : ℕ) → Bool
is_bulky t i = not (is_1zst (layout_in (field_in t i)))

-- so many fields
abbrev pub count_of : Typed → ℕ
count_of t = field_count (layout_in t).fields

-- the field at an index is uniform with this register
abbrev pub field_own : Typed → (index : ℕ) → Option Reg → Type 0
field_own t i = IsUniform (field_in t i)

-- fields that are listed one by one are left from this one on
abbrev pub IsLeftListed : Typed → (i : ℕ) → Option Reg → (before end : ℕ) → Option Reg → Type 0
IsLeftListed t i h before = IsLeft (field_own t) h (kept (is_bulky t) i (count_of t)) (IsChain (field_offset (layout_in t).fields) (size_at (field_in t)) before (kept (is_bulky t) i (count_of t)))

-- and fields of a union
abbrev pub IsLeftOfUnion : Typed → (i : ℕ) → Option Reg → (before end : ℕ) → Option Reg → Type 0
IsLeftOfUnion t i h before = IsLeft (field_own t) h (kept (is_bulky t) i (count_of t)) (IsEnd (union_ends (field_in t)) (kept (is_bulky t) i (count_of t)) before)

field_once : (t : Typed) (i : ℕ) → HasOne (field_own t) i
field_once t i = one_register (field_in t i)

all_kept : (t : Typed) → bulky_fields (layout_in t) (field_in t) ≡ kept (is_bulky t) 0 (count_of t)
all_kept t = ap (λ m. filter (is_bulky t) (range_with_len 0 m)) (let e : count_of t ≡ count_of t - 0 = omega arith in e)

listed_by : (l : Layout) (field : ℕ → Typed) (parts : List ℕ) (start : ℕ) → bulky_fields l field ≡ parts → (s : FieldsShape ℕ) → IsListed s
    → IsSameRun (FieldsRunBy s l field (λ i. IsUniform (field i)) start) (IsLeft (λ i. IsUniform (field i)) None parts (IsChain (field_offset l.fields) (size_at field) start parts))
listed_by l field parts start e (Arbitrary offsets order) listed end r =
    let own : ℕ → Option Reg → Type 0 = λ i. IsUniform (field i) in
    let all : IsSameRun (FieldsRunBy (Arbitrary offsets order) l field own start) (IsLeft own None (bulky_fields l field) (IsChain (field_offset l.fields) (size_at field) start (bulky_fields l field))) =
    λ end r. (
      (λ f. (one_found own (bulky_fields l field) r f.0 f.1 f.2, f.3)),
      (λ left. let named = found_one own (bulky_fields l field) r (λ i. one_register (field i)) left.0 in (named.0, named.1, named.2, left.1)),
    ) in
    subst (λ ps. FieldsRunBy (Arbitrary offsets order) l field own start end r ↔ IsLeft own None ps (IsChain (field_offset l.fields) (size_at field) start ps) end r) e (all end r)
listed_by l field parts start e NoFields listed end r = absurd listed
listed_by l field parts start e (Union count) listed end r = absurd listed
listed_by l field parts start e (Array stride count) listed end r = absurd listed

-- no field was looked at
pub listed_begun : (t : Typed) (start : ℕ) → IsListed (layout_in t).fields → IsSameRun (FieldsRun t start) (IsLeftListed t 0 None start)
listed_begun (typed l m field variant) start listed = listed_by l field (kept (is_bulky (typed l m field variant)) 0 (field_count l.fields)) start (all_kept (typed l m field variant)) l.fields listed
listed_begun no_type start listed = absurd listed

union_by : (l : Layout) (field : ℕ → Typed) (parts : List ℕ) (start : ℕ) → bulky_fields l field ≡ parts → (s : FieldsShape ℕ) → IsUnionShape s
    → IsSameRun (FieldsRunBy s l field (λ i. IsUniform (field i)) start) (IsLeft (λ i. IsUniform (field i)) None parts (IsEnd (union_ends field) parts start))
union_by l field parts start e (Union count) union end r =
    let own : ℕ → Option Reg → Type 0 = λ i. IsUniform (field i) in
    let all : IsSameRun (FieldsRunBy (Union count) l field own start) (IsLeft own None (bulky_fields l field) (IsEnd (union_ends field) (bulky_fields l field) start)) =
    λ end r. (
      (λ f. (one_found own (bulky_fields l field) r f.0 f.1 f.2, end_from (union_ends field) (size_at field) (bulky_fields l field) start end (sizes field (bulky_fields l field)) f.3)),
      (λ left. let named = found_one own (bulky_fields l field) r (λ i. one_register (field i)) left.0 in
          (named.0, named.1, named.2, end_to (union_ends field) (size_at field) (bulky_fields l field) start end (λ i a b f g. f ∙ sym g) (sizes field (bulky_fields l field)) left.1)),
    ) in
    subst (λ ps. FieldsRunBy (Union count) l field own start end r ↔ IsLeft own None ps (IsEnd (union_ends field) ps start) end r) e (all end r)
union_by l field parts start e NoFields union end r = absurd union
union_by l field parts start e (Arbitrary offsets order) union end r = absurd union
union_by l field parts start e (Array stride count) union end r = absurd union

-- the same of a union
pub union_begun : (t : Typed) (start : ℕ) → IsUnionShape (layout_in t).fields → IsSameRun (FieldsRun t start) (IsLeftOfUnion t 0 None start)
union_begun (typed l m field variant) start union = union_by l field (kept (is_bulky (typed l m field variant)) 0 (field_count l.fields)) start (all_kept (typed l m field variant)) l.fields union
union_begun no_type start union = absurd union

-- the field is one that is passed over, or one that isn't
pub bulky_is : (t u : Typed) (i : ℕ) (l : Layout) (holds b : Bool) → u ≡ field_in t i → l ≡ layout_in u → holds ≡ is_1zst l → holds ≡ b → is_bulky t i ≡ not b
bulky_is t u i l holds b e f h g = ap not (ap (λ w. is_1zst (layout_in w)) (sym e) ∙ ap is_1zst (sym f) ∙ sym h ∙ g)

-- of a layout that is the type's: so many fields
pub count_is : (t : Typed) (l : Layout) (n : ℕ) → l ≡ layout_in t → n ≡ field_count l.fields → n ≡ count_of t
count_is t l n e f = f ∙ ap (λ k. field_count k.fields) e

many : (shape : FieldsShape ℕ) → IsListed shape → length (listed_offsets shape) ≡ field_count shape
many (Arbitrary offsets order) l = refl
many NoFields l = absurd l
many (Union count) l = absurd l
many (Array stride count) l = absurd l

begins : (shape : FieldsShape ℕ) (i : ℕ) → IsListed shape → slice_index (listed_offsets shape) i ≡ field_offset shape i
begins (Arbitrary offsets order) i l = sym (unwrap_or-slice_get offsets i 0)
begins NoFields i l = absurd l
begins (Union count) i l = absurd l
begins (Array stride count) i l = absurd l

-- fields that are listed are as many as their offsets
pub listed_count : (t : Typed) (offsets : List ℕ) → IsListed (layout_in t).fields → offsets ≡ listed_offsets (layout_in t).fields → length offsets ≡ count_of t
listed_count t offsets l e = ap length e ∙ many (layout_in t).fields l

-- and each begins where its offset says
pub listed_offset : (t : Typed) (offsets : List ℕ) (i bytes offset : ℕ) → IsListed (layout_in t).fields → offsets ≡ listed_offsets (layout_in t).fields → offset ≡ slice_index offsets i
    → bytes ≡ offset → bytes ≡ field_offset (layout_in t).fields i
listed_offset t offsets i bytes offset l e f g = g ∙ f ∙ ap (λ os. slice_index os i) e ∙ begins (layout_in t).fields i l

-- a field ends inside its type
pub ends_inside : (t u : Typed) (i end size : ℕ) → IsWellFormedType t → i < count_of t → u ≡ field_in t i → end ≡ field_offset (layout_in t).fields i → size ≡ (layout_in u).size
    → end + size ≤ (layout_in t).size
ends_inside no_type u i end size law short is at bytes = absurd law
ends_inside (typed layout marks field variant) u i end size law short is at bytes =
    let own : size ≡ (layout_in (field i)).size = bytes ∙ ap (λ w. (layout_in w).size) is in
    omega (arith, law.0.inside i short, at, own)

own_is : (t u : Typed) (i : ℕ) (s : Option Reg) → u ≡ field_in t i → IsUniform u s → field_own t i s
own_is t u i s e is = subst (λ w. IsUniform w s) e is

-- what is left from a field that counts
listed_taken : (P : ℕ → Option Reg → Type 0) (t : Typed) (i : ℕ) (h : Option Reg) (before : ℕ) → i < count_of t → is_bulky t i ≡ true → IsSameRun P (IsLeftListed t i h before)
    → IsSameRun P (IsLeft (field_own t) h (i ∷ kept (is_bulky t) (i + 1) (count_of t)) (IsChain (field_offset (layout_in t).fields) (size_at (field_in t)) before (i ∷ kept (is_bulky t) (i + 1) (count_of t))))
listed_taken P t i h before lt bulky same =
    subst (λ ps. IsSameRun P (IsLeft (field_own t) h ps (IsChain (field_offset (layout_in t).fields) (size_at (field_in t)) before ps))) (taken (is_bulky t) i (count_of t) lt bulky) same

union_taken : (P : ℕ → Option Reg → Type 0) (t : Typed) (i : ℕ) (h : Option Reg) (before : ℕ) → i < count_of t → is_bulky t i ≡ true → IsSameRun P (IsLeftOfUnion t i h before)
    → IsSameRun P (IsLeft (field_own t) h (i ∷ kept (is_bulky t) (i + 1) (count_of t)) (IsEnd (union_ends (field_in t)) (i ∷ kept (is_bulky t) (i + 1) (count_of t)) before))
union_taken P t i h before lt bulky same =
    subst (λ ps. IsSameRun P (IsLeft (field_own t) h ps (IsEnd (union_ends (field_in t)) ps before))) (taken (is_bulky t) i (count_of t) lt bulky) same

-- a field is passed over
pub listed_passed : (P : ℕ → Option Reg → Type 0) (t : Typed) (i : ℕ) (h : Option Reg) (before : ℕ) → i < count_of t → is_bulky t i ≡ false → IsSameRun P (IsLeftListed t i h before)
    → IsSameRun P (IsLeftListed t (i + 1) h before)
listed_passed P t i h before lt place same =
    subst (λ ps. IsSameRun P (IsLeft (field_own t) h ps (IsChain (field_offset (layout_in t).fields) (size_at (field_in t)) before ps))) (passed (is_bulky t) i (count_of t) lt place) same

-- the same of a union
pub union_passed : (P : ℕ → Option Reg → Type 0) (t : Typed) (i : ℕ) (h : Option Reg) (before : ℕ) → i < count_of t → is_bulky t i ≡ false → IsSameRun P (IsLeftOfUnion t i h before)
    → IsSameRun P (IsLeftOfUnion t (i + 1) h before)
union_passed P t i h before lt place same =
    subst (λ ps. IsSameRun P (IsLeft (field_own t) h ps (IsEnd (union_ends (field_in t)) ps before))) (passed (is_bulky t) i (count_of t) lt place) same

-- a field doesn't begin where the last one ended
pub listed_gap : (P : ℕ → Option Reg → Type 0) (t : Typed) (i : ℕ) (h : Option Reg) (before offset : ℕ) → i < count_of t → is_bulky t i ≡ true → offset ≡ field_offset (layout_in t).fields i → offset ≢ before
    → IsSameRun P (IsLeftListed t i h before) → (end : ℕ) (r : Option Reg) → P end r → ⊥
listed_gap P t i h before offset lt bulky e other same end r p = other (e ∙ ((listed_taken P t i h before lt bulky same end r).0 p).1.0)

-- a field isn't uniform
pub listed_failed : (P : ℕ → Option Reg → Type 0) (t u : Typed) (i : ℕ) (h : Option Reg) (before : ℕ) → i < count_of t → is_bulky t i ≡ true → u ≡ field_in t i → ((r : Option Reg) → IsUniform u r → ⊥)
    → IsSameRun P (IsLeftListed t i h before) → (end : ℕ) (r : Option Reg) → P end r → ⊥
listed_failed P t u i h before lt bulky e none same =
    left_failed P (field_own t) h i (kept (is_bulky t) (i + 1) (count_of t)) (IsChain (field_offset (layout_in t).fields) (size_at (field_in t)) before (i ∷ kept (is_bulky t) (i + 1) (count_of t)))
    (λ r is. none r (subst (λ w. IsUniform w r) (sym e) is)) (listed_taken P t i h before lt bulky same)

-- the same of a union
pub union_failed : (P : ℕ → Option Reg → Type 0) (t u : Typed) (i : ℕ) (h : Option Reg) (before : ℕ) → i < count_of t → is_bulky t i ≡ true → u ≡ field_in t i → ((r : Option Reg) → IsUniform u r → ⊥)
    → IsSameRun P (IsLeftOfUnion t i h before) → (end : ℕ) (r : Option Reg) → P end r → ⊥
union_failed P t u i h before lt bulky e none same =
    left_failed P (field_own t) h i (kept (is_bulky t) (i + 1) (count_of t)) (IsEnd (union_ends (field_in t)) (i ∷ kept (is_bulky t) (i + 1) (count_of t)) before)
    (λ r is. none r (subst (λ w. IsUniform w r) (sym e) is)) (union_taken P t i h before lt bulky same)

-- a field has another register than those before
pub listed_apart : (P : ℕ → Option Reg → Type 0) (t u : Typed) (i : ℕ) (h : Option Reg) (before : ℕ) (s : Option Reg) → i < count_of t → is_bulky t i ≡ true → u ≡ field_in t i → IsUniform u s
    → ((m : Option Reg) → IsOneOf h s m → ⊥) → IsSameRun P (IsLeftListed t i h before) → (end : ℕ) (r : Option Reg) → P end r → ⊥
listed_apart P t u i h before s lt bulky e is apart same =
    left_apart P (field_own t) h i (kept (is_bulky t) (i + 1) (count_of t)) (IsChain (field_offset (layout_in t).fields) (size_at (field_in t)) before (i ∷ kept (is_bulky t) (i + 1) (count_of t))) s
    (field_once t i) (own_is t u i s e is) apart (listed_taken P t i h before lt bulky same)

-- the same of a union
pub union_apart : (P : ℕ → Option Reg → Type 0) (t u : Typed) (i : ℕ) (h : Option Reg) (before : ℕ) (s : Option Reg) → i < count_of t → is_bulky t i ≡ true → u ≡ field_in t i → IsUniform u s
    → ((m : Option Reg) → IsOneOf h s m → ⊥) → IsSameRun P (IsLeftOfUnion t i h before) → (end : ℕ) (r : Option Reg) → P end r → ⊥
union_apart P t u i h before s lt bulky e is apart same =
    left_apart P (field_own t) h i (kept (is_bulky t) (i + 1) (count_of t)) (IsEnd (union_ends (field_in t)) (i ∷ kept (is_bulky t) (i + 1) (count_of t)) before) s
    (field_once t i) (own_is t u i s e is) apart (union_taken P t i h before lt bulky same)

-- a field is the next part
pub listed_next : (P : ℕ → Option Reg → Type 0) (t u : Typed) (i : ℕ) (h : Option Reg) (before offset size : ℕ) (s m : Option Reg) → i < count_of t → is_bulky t i ≡ true → u ≡ field_in t i
    → offset ≡ field_offset (layout_in t).fields i → offset ≡ before → size ≡ (layout_in u).size → IsUniform u s → IsOneOf h s m → IsSameRun P (IsLeftListed t i h before) → IsSameRun P (IsLeftListed t (i + 1) m (before + size))
listed_next P t u i h before offset size s m lt bulky e at here long is merged same =
    let rest : List ℕ = kept (is_bulky t) (i + 1) (count_of t) in
    let chain : (from : ℕ) → List ℕ → ℕ → Type 0 = IsChain (field_offset (layout_in t).fields) (size_at (field_in t)) in
    subst (λ n. IsSameRun P (IsLeftListed t (i + 1) m (before + n))) (sym (long ∙ ap (λ w. (layout_in w).size) e))
    (left_next P (field_own t) h i rest (chain before (i ∷ rest)) (chain (before + size_at (field_in t) i) rest) s m (field_once t i) (own_is t u i s e is) merged
    (λ end. ((λ f. f.1), (λ f. (sym at ∙ here, f)))) (listed_taken P t i h before lt bulky same))

-- the same of a union
pub union_next : (P : ℕ → Option Reg → Type 0) (t u : Typed) (i : ℕ) (h : Option Reg) (before size : ℕ) (s m : Option Reg) → i < count_of t → is_bulky t i ≡ true → u ≡ field_in t i
    → size ≡ (layout_in u).size → IsUniform u s → IsOneOf h s m → IsSameRun P (IsLeftOfUnion t i h before) → IsSameRun P (IsLeftOfUnion t (i + 1) m (max before size))
union_next P t u i h before size s m lt bulky e long is merged same =
    let rest : List ℕ = kept (is_bulky t) (i + 1) (count_of t) in
    let ends : List ℕ → ℕ → ℕ → Type 0 = IsEnd (union_ends (field_in t)) in
    subst (λ n. IsSameRun P (IsLeftOfUnion t (i + 1) m (max before n))) (sym (long ∙ ap (λ w. (layout_in w).size) e))
    (left_next P (field_own t) h i rest (ends (i ∷ rest) before) (ends rest (max before (size_at (field_in t) i))) s m (field_once t i) (own_is t u i s e is) merged
    (λ end. ((λ f. subst (λ n. ends rest (max before n) end) f.1 f.2), (λ f. (size_at (field_in t) i, refl, f)))) (union_taken P t i h before lt bulky same))

-- ---- variants

-- a variant, by its index, runs from a start to an end with this register
abbrev pub runs_of : Typed → (index start end : ℕ) → Option Reg → Type 0
runs_of t v = FieldsRun (variant_in t v)

-- so many variants
abbrev pub variants_in : Typed → ℕ
variants_in t = length (variants_of (layout_in t).variants)

-- the numbers from one on that are below another
abbrev pub left_from : (i n : ℕ) → List ℕ
left_from i n = range_with_len i (n - i)

-- variants that begin at the start are left from this one on
abbrev pub IsLeftOfVariants : Typed → (start i : ℕ) → Option Reg → (before end : ℕ) → Option Reg → Type 0
IsLeftOfVariants t start i h before =
    IsLeft (variant_own (runs_of t) start) h (left_from i (variants_in t)) (IsEnd (variant_ends (runs_of t) start) (left_from i (variants_in t)) before)

variant_once : (t : Typed) (start i : ℕ) → HasOne (variant_own (runs_of t) start) i
variant_once t = own_once (runs_of t) (λ v. one_run (variant_in t v))

-- of a layout that is the type's
pub variants_are : (t : Typed) (l : Layout) (tag : Scalar) (encoding : TagEncoding ℕ) (at : ℕ) (layouts : List (VariantLayout ℕ)) → l ≡ layout_in t → l.variants ≡ Multiple tag encoding at layouts
    → (layout_in t).variants ≡ Multiple tag encoding at layouts
variants_are t l tag encoding at layouts e f = ap (λ k. k.variants) (sym e) ∙ f

-- so many they are
pub variant_count : (t : Typed) (n : ℕ) (tag : Scalar) (encoding : TagEncoding ℕ) (at : ℕ) (layouts : List (VariantLayout ℕ)) → (layout_in t).variants ≡ Multiple tag encoding at layouts → n ≡ length layouts → n ≡ variants_in t
variant_count t n tag encoding at layouts e f = f ∙ ap (λ vs. length (variants_of vs)) (sym e)

whole_by : (t : Typed) (start : ℕ) (h : Option Reg) (tag : Scalar) (encoding : TagEncoding ℕ) (at : ℕ) (layouts : List (VariantLayout ℕ)) → FieldsRun t 0 start h
    → IsSameRun (AllRunBy (Multiple tag encoding at layouts) (FieldsRun t 0) (runs_of t))
    (IsLeft (variant_own (runs_of t) start) h (range_with_len 0 (length layouts)) (IsEnd (variant_ends (runs_of t) start) (range_with_len 0 (length layouts)) start))
whole_by t start h tag encoding at layouts shared end r =
    let count : ℕ = length layouts in (
      (λ f. let same : (start ≡ f.0) × (h ≡ f.1) = one_run t 0 start f.0 h f.1 shared f.2 in
          variants_found count (runs_of t) start h end r (subst (λ x. VariantsRunBy count (runs_of t) start x end r) (sym same.1) (subst (λ x. VariantsRunBy count (runs_of t) x f.1 end r) (sym same.0) f.3))),
      (λ left. (start, h, shared, variants_named count (runs_of t) start h end r (λ v. one_run (variant_in t v)) left.0 left.1)),
    )

-- no variant was looked at
pub variants_begun : (t : Typed) (start : ℕ) (h : Option Reg) (tag : Scalar) (encoding : TagEncoding ℕ) (at : ℕ) (layouts : List (VariantLayout ℕ)) → (layout_in t).variants ≡ Multiple tag encoding at layouts
    → FieldsRun t 0 start h → IsSameRun (AllRun t) (IsLeftOfVariants t start 0 h start)
variants_begun t start h tag encoding at layouts e shared =
    let left : ℕ → ℕ → Option Reg → Type 0 = λ n. IsLeft (variant_own (runs_of t) start) h (range_with_len 0 n) (IsEnd (variant_ends (runs_of t) start) (range_with_len 0 n) start) in
    subst (λ n. IsSameRun (AllRun t) (left n)) (let same : variants_in t ≡ variants_in t - 0 = omega arith in same)
    (subst (λ vs. IsSameRun (AllRunBy vs (FieldsRun t 0) (runs_of t)) (left (length (variants_of vs)))) (sym e) (whole_by t start h tag encoding at layouts shared))

range_next : (i n : ℕ) → i < n → left_from i n ≡ i ∷ left_from (i + 1) n
range_next i n lt = ap (range_with_len i) (let e : n - i ≡ suc (n - (i + 1)) = omega (arith, lt) in e)

range_none : (i n : ℕ) → i ≡ n → left_from i n ≡ []
range_none i n e = ap (range_with_len i) (let none : n - i ≡ 0 = omega (arith, e) in none)

variants_taken : (P : ℕ → Option Reg → Type 0) (t : Typed) (start i : ℕ) (h : Option Reg) (before : ℕ) → i < variants_in t → IsSameRun P (IsLeftOfVariants t start i h before)
    → IsSameRun P (IsLeft (variant_own (runs_of t) start) h (i ∷ left_from (i + 1) (variants_in t)) (IsEnd (variant_ends (runs_of t) start) (i ∷ left_from (i + 1) (variants_in t)) before))
variants_taken P t start i h before lt same =
    subst (λ ps. IsSameRun P (IsLeft (variant_own (runs_of t) start) h ps (IsEnd (variant_ends (runs_of t) start) ps before))) (range_next i (variants_in t) lt) same

-- a variant that a tag distinguishes
pub variant_is : (t u : Typed) (i n : ℕ) (tag : Scalar) (encoding : TagEncoding ℕ) (at : ℕ) (layouts : List (VariantLayout ℕ)) → (layout_in t).variants ≡ Multiple tag encoding at layouts → u ≡ at_variant t n → n ≡ i
    → u ≡ variant_in t i
variant_is t u i n tag encoding at layouts several e f = e ∙ ap (at_variant t) f ∙ of_variant t i tag encoding at layouts several

-- a variant doesn't run
pub variant_failed : (P : ℕ → Option Reg → Type 0) (t u : Typed) (start i : ℕ) (h : Option Reg) (before : ℕ) → i < variants_in t → u ≡ variant_in t i → ((end : ℕ) (r : Option Reg) → FieldsRun u start end r → ⊥)
    → IsSameRun P (IsLeftOfVariants t start i h before) → (end : ℕ) (r : Option Reg) → P end r → ⊥
variant_failed P t u start i h before lt e none same =
    left_failed P (variant_own (runs_of t) start) h i (left_from (i + 1) (variants_in t)) (IsEnd (variant_ends (runs_of t) start) (i ∷ left_from (i + 1) (variants_in t)) before)
    (λ r run. none run.0 r (subst (λ w. FieldsRun w start run.0 r) (sym e) run.1)) (variants_taken P t start i h before lt same)

-- a variant has another register than those before
pub variant_apart : (P : ℕ → Option Reg → Type 0) (t u : Typed) (start i : ℕ) (h : Option Reg) (before own_end : ℕ) (s : Option Reg) → i < variants_in t → u ≡ variant_in t i → FieldsRun u start own_end s
    → ((m : Option Reg) → IsOneOf h s m → ⊥) → IsSameRun P (IsLeftOfVariants t start i h before) → (end : ℕ) (r : Option Reg) → P end r → ⊥
variant_apart P t u start i h before own_end s lt e run apart same =
    left_apart P (variant_own (runs_of t) start) h i (left_from (i + 1) (variants_in t)) (IsEnd (variant_ends (runs_of t) start) (i ∷ left_from (i + 1) (variants_in t)) before) s
    (variant_once t start i) (own_end, subst (λ w. FieldsRun w start own_end s) e run) apart (variants_taken P t start i h before lt same)

-- a variant is the next part
pub variant_next : (P : ℕ → Option Reg → Type 0) (t u : Typed) (start i : ℕ) (h : Option Reg) (before own_end : ℕ) (s m : Option Reg) → i < variants_in t → u ≡ variant_in t i → FieldsRun u start own_end s
    → IsOneOf h s m → IsSameRun P (IsLeftOfVariants t start i h before) → IsSameRun P (IsLeftOfVariants t start (i + 1) m (max before own_end))
variant_next P t u start i h before own_end s m lt e its_run merged same =
    let rest : List ℕ = left_from (i + 1) (variants_in t) in
    let ends : List ℕ → ℕ → ℕ → Type 0 = IsEnd (variant_ends (runs_of t) start) in
    let run : FieldsRun (variant_in t i) start own_end s = subst (λ w. FieldsRun w start own_end s) e its_run in
    left_next P (variant_own (runs_of t) start) h i rest (ends (i ∷ rest) before) (ends rest (max before own_end)) s m (variant_once t start i) (own_end, run) merged
    (λ end. ((λ f. subst (λ n. ends rest (max before n) end) (one_run (variant_in t i) start f.0 own_end f.1.0 s f.1.1 run).0 f.2), (λ f. (own_end, (s, run), f)))) (variants_taken P t start i h before lt same)

-- ---- answers

-- an error is the answer where nothing runs
pub run_refused : (answer : Result (HomogeneousAggregate × ℕ) Heterogeneous) (P : ℕ → Option Reg → Type 0) → IsErr answer → ((end : ℕ) (r : Option Reg) → P end r → ⊥) → AnswersRun answer P
run_refused (Err e) P is none = none
run_refused (Ok found) P is none = absurd (false≢true is)

-- two scalars run as their parts do
pub pair_parts : (t : Typed) (l : Layout) (answer : Result HomogeneousAggregate Heterogeneous) (a b : Scalar) (at : ℕ) → l ≡ layout_in t → l.backend_repr ≡ ScalarPair a b at → Answers answer (AllRun t (layout_in t).size)
    → Answers answer (IsUniform t)
pair_parts (typed own m field variant) l answer a b at e f parts =
    let t : Typed = typed own m field variant in
    subst (λ view. Answers answer (RunsBy view own.size (AllRun t own.size))) (sym (ap (λ k. k.backend_repr) (sym e) ∙ f)) parts
pair_parts no_type l answer a b at e f parts = parts

-- parts that end elsewhere
pub ends_elsewhere : (t : Typed) (end : ℕ) (r : Option Reg) → AllRun t end r → end ≢ (layout_in t).size → (s : Option Reg) → AllRun t (layout_in t).size s → ⊥
ends_elsewhere t end r run other s whole = other (one_whole_run t end (layout_in t).size r s run whole).0

-- the answer is the one register, where the type is uniform
pub only_answer : (t : Typed) (answer : Result HomogeneousAggregate Heterogeneous) → Answers answer (IsUniform t) → (r : Option Reg) → IsUniform t r → IfOk answer (λ found. r ≡ register_of found) × IsOk answer
only_answer t (Ok found) is r its = (one_register t r (register_of found) its is, refl)
only_answer t (Err e) none r its = absurd (none r its)
