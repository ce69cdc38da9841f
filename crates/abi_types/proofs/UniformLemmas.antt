-- Types that are uniform.
use Rattle.std.proofs.Common.{inl, inr, ◌≡◌, ℕ, zero, suc, ◌<◌, ◌⊎◌, true, false, List, [], ◌∷◌, length, get_or, Option, None, refl, subst, sym, ◌∙◌, arith, All, zero-add}
use Rattle.std.specs.Prelude.{Contains}
use Rattle.std.specs.List.{AllByRecursion, range_with_len}
use Rattle.std.proofs.lemmas.List.Elements.{All-contains, All-from_recursion, recursion_from_All}
use Rattle.std.proofs.lemmas.List.FromFn.{get_or-range_with_len, length-range_with_len}
use Rattle.abi_scalar.specs.declared.backend_repr.BackendRepr.{BackendRepr}
use Rattle.abi_scalar.specs.declared.backend_repr.BackendRepr.TheVariants.{Scalar as OneScalar, ScalarPair, SimdScalableVector, SimdVector, Memory}
use Rattle.abi_scalar.specs.declared.fields_shape.FieldsShape.{FieldsShape}
use Rattle.abi_scalar.specs.declared.fields_shape.FieldsShape.TheVariants.{Primitive, Union, Array, Arbitrary}
use Rattle.abi_scalar.specs.declared.variants.Variants.{Variants}
use Rattle.abi_scalar.specs.declared.variants.Variants.TheVariants.{Empty, Single, Multiple}
use Rattle.abi_scalar.specs.Shape.{field_offset}
use Rattle.abi_types.specs.declared.reg.Reg.{Reg}
use Rattle.abi_types.specs.Homogeneous.{AllRun}
use Rattle.abi_types.specs.Ty.Typed.{Typed, typed, no_type, layout_in, variant_in}
use Rattle.abi_scalar.specs.Layout.{Layout}
use Rattle.abi_types.specs.Uniform.{AllRunBy, AreOne, FieldsRun, FieldsRunBy, IsUniform, RunsBy, VariantsRunBy, bulky_fields}
use Rattle.abi_types.proofs.RegisterLemmas.{HasOne, IsEnd, IsFound, chain_once, choice, each, end_from, end_once, end_to, found_from, found_once, found_to}

-- ---- parts that are named, and parts that are found

-- parts that are named have the register that is found
pub one_found : (own : ℕ → Option Reg → Type 0) (parts : List ℕ) (r : Option Reg) (registers : ℕ → Option Reg) → All (λ i. own i (registers i)) parts → AreOne registers parts r → IsFound own None parts r
one_found own parts r registers all one = found_from own None parts r registers all (inl refl) one.0 (last one.1)
  where
    last : ((r ≡ None) ⊎ ((i : ℕ) × Contains parts i × (registers i ≡ r))) → (r ≡ None) ⊎ (None ≡ r) ⊎ ((i : ℕ) × Contains parts i × (registers i ≡ r))
    last (inl e) = inl e
    last (inr at) = inr (inr at)

-- and parts can be named that have the register that is found
pub found_one : (own : ℕ → Option Reg → Type 0) (parts : List ℕ) (r : Option Reg) → ((i : ℕ) → HasOne own i) → IsFound own None parts r
    → (registers : ℕ → Option Reg) × All (λ i. own i (registers i)) parts × AreOne registers parts r
found_one own parts r one found =
    let named = found_to own None parts r one found in
    (named.0, named.1, (named.3, last named.0 named.4))
  where
    last : (registers : ℕ → Option Reg) → ((r ≡ None) ⊎ (None ≡ r) ⊎ ((i : ℕ) × Contains parts i × (registers i ≡ r))) → (r ≡ None) ⊎ ((i : ℕ) × Contains parts i × (registers i ≡ r))
    last registers (inl e) = inl e
    last registers (inr (inl e)) = inl (sym e)
    last registers (inr (inr at)) = inr at

range_at : (count k d : ℕ) → k < count → get_or (range_with_len 0 count) k d ≡ k
range_at count k d lt = get_or-range_with_len 0 count k d lt ∙ zero-add k

range_all : (P : ℕ → Type 0) (count : ℕ) → ((v : ℕ) → v < count → P v) → All P (range_with_len 0 count)
range_all P count h = λ k d lt.
    let below : k < count = omega (arith, lt, length-range_with_len 0 count) in
    subst P (sym (range_at count k d below)) (h k below)

in_range : (count v : ℕ) → v < count → Contains (range_with_len 0 count) v
in_range count v lt = (v, omega (arith, lt, length-range_with_len 0 count), range_at count v v lt)

below_count : (count v : ℕ) → Contains (range_with_len 0 count) v → v < count
below_count count v at =
    let below : at.0 < count = omega (arith, at.1, length-range_with_len 0 count) in
    let e : v ≡ at.0 = sym at.2 ∙ range_at count at.0 v below in
    omega (arith, e, below)

-- a variant that begins at the start has this register, and ends there
abbrev pub variant_own : (runs : (index start end : ℕ) → Option Reg → Type 0) → (start : ℕ) → (index : ℕ) → Option Reg → Type 0
variant_own runs start v r = (end : ℕ) × runs v start end r

-- a variant that begins at the start ends there
abbrev pub variant_ends : (runs : (index start end : ℕ) → Option Reg → Type 0) → (start : ℕ) → (index end : ℕ) → Type 0
variant_ends runs start v end = (r : Option Reg) × runs v start end r

-- variants end once, with one register
abbrev pub RunOnce : (runs : (index start end : ℕ) → Option Reg → Type 0) → Type 0
RunOnce runs = (v start e d : ℕ) (r s : Option Reg) → runs v start e r → runs v start d s → (e ≡ d) × (r ≡ s)

-- a variant has one register
pub own_once : (runs : (index start end : ℕ) → Option Reg → Type 0) → RunOnce runs → (start i : ℕ) → HasOne (variant_own runs start) i
own_once runs once start i r s f g = (once i start f.0 g.0 r s f.1 g.1).1

-- a variant has one end
pub ends_once : (runs : (index start end : ℕ) → Option Reg → Type 0) → RunOnce runs → (start i a b : ℕ) → variant_ends runs start i a → variant_ends runs start i b → a ≡ b
ends_once runs once start i a b f g = (once i start a b f.0 g.0 f.1 g.1).0

-- variants that are named have the register that is found, and end where it is found
pub variants_found : (count : ℕ) (runs : (index start end : ℕ) → Option Reg → Type 0) (start : ℕ) (h : Option Reg) (end : ℕ) (r : Option Reg) → VariantsRunBy count runs start h end r
    → IsFound (variant_own runs start) h (range_with_len 0 count) r × IsEnd (variant_ends runs start) (range_with_len 0 count) start end
variants_found count runs start h end r (ends, registers, run, before, most, some, e) = (
  found_from (variant_own runs start) h (range_with_len 0 count) r registers (range_all (λ v. variant_own runs start v (registers v)) count (λ v lt. (ends v, run v lt))) before most (last some),
  end_from (variant_ends runs start) ends (range_with_len 0 count) start end
      (recursion_from_All (λ v. variant_ends runs start v (ends v)) (range_with_len 0 count) (range_all (λ v. variant_ends runs start v (ends v)) count (λ v lt. (registers v, run v lt)))) e,
)
  where
    last : ((r ≡ None) ⊎ (h ≡ r) ⊎ ((v : ℕ) × (v < count) × (registers v ≡ r))) → (r ≡ None) ⊎ (h ≡ r) ⊎ ((i : ℕ) × Contains (range_with_len 0 count) i × (registers i ≡ r))
    last (inl e) = inl e
    last (inr (inl e)) = inr (inl e)
    last (inr (inr at)) = inr (inr (at.0, in_range count at.0 at.1, at.2))

-- and variants can be named that do
pub variants_named : (count : ℕ) (runs : (index start end : ℕ) → Option Reg → Type 0) (start : ℕ) (h : Option Reg) (end : ℕ) (r : Option Reg) → RunOnce runs
    → IsFound (variant_own runs start) h (range_with_len 0 count) r → IsEnd (variant_ends runs start) (range_with_len 0 count) start end → VariantsRunBy count runs start h end r
variants_named count runs start h end r once found ended =
    let named = found_to (variant_own runs start) h (range_with_len 0 count) r (own_once runs once start) found in
    let registers : ℕ → Option Reg = named.0 in
    let chosen : (ends : ℕ → ℕ) × AllByRecursion (λ v. runs v start (ends v) (registers v)) (range_with_len 0 count) =
    choice 0 (λ v e. runs v start e (registers v)) (range_with_len 0 count) (recursion_from_All (λ v. variant_own runs start v (registers v)) (range_with_len 0 count) named.1) in
    let ends : ℕ → ℕ = chosen.0 in
    let run : All (λ v. runs v start (ends v) (registers v)) (range_with_len 0 count) = All-from_recursion (λ v. runs v start (ends v) (registers v)) (range_with_len 0 count) chosen.1 in (
      ends,
      registers,
      (λ v lt. All-contains (λ v. runs v start (ends v) (registers v)) (range_with_len 0 count) v run (in_range count v lt)),
      named.2,
      named.3,
      last registers named.4,
      end_to (variant_ends runs start) ends (range_with_len 0 count) start end (ends_once runs once start)
          (each (λ v. runs v start (ends v) (registers v)) (λ v. variant_ends runs start v (ends v)) (range_with_len 0 count) (λ v p. (registers v, p)) chosen.1) ended,
    )
  where
    last : (registers : ℕ → Option Reg) → ((r ≡ None) ⊎ (h ≡ r) ⊎ ((i : ℕ) × Contains (range_with_len 0 count) i × (registers i ≡ r))) → (r ≡ None) ⊎ (h ≡ r) ⊎ ((v : ℕ) × (v < count) × (registers v ≡ r))
    last registers (inl e) = inl e
    last registers (inr (inl e)) = inr (inl e)
    last registers (inr (inr at)) = inr (inr (at.0, below_count count at.0 at.1, at.2))

-- ---- one register

-- the ends of a union's fields
abbrev pub union_ends : (field : ℕ → Typed) → (index end : ℕ) → Type 0
union_ends field i end = end ≡ (layout_in (field i)).size

-- the size of a field
abbrev pub size_at : (field : ℕ → Typed) → ℕ → ℕ
size_at field i = (layout_in (field i)).size

-- each field of a union ends at its size
pub sizes : (field : ℕ → Typed) (parts : List ℕ) → AllByRecursion (λ i. union_ends field i (size_at field i)) parts
sizes field [] = tt
sizes field (i ∷ parts) = (refl, sizes field parts)

fields_once : (s : FieldsShape ℕ) (l : Layout) (field : ℕ → Typed) (own : ℕ → Option Reg → Type 0) → ((i : ℕ) → HasOne own i) → (start e d : ℕ) (r q : Option Reg)
    → FieldsRunBy s l field own start e r → FieldsRunBy s l field own start d q → (e ≡ d) × (r ≡ q)
fields_once Primitive l field own one start e d r q f g = absurd f
fields_once (Array stride zero) l field own one start e d r q f g = (f.1 ∙ sym g.1, f.0 ∙ sym g.0)
fields_once (Array stride (suc count)) l field own one start e d r q f g = (f.1 ∙ sym g.1, one 0 r q f.0 g.0)
fields_once (Union count) l field own one start e d r q f g = (
  f.3 ∙ sym g.3,
  found_once own None (bulky_fields l field) r q one (one_found own (bulky_fields l field) r f.0 f.1 f.2) (one_found own (bulky_fields l field) q g.0 g.1 g.2),
)
fields_once (Arbitrary offsets order) l field own one start e d r q f g = (
  chain_once (field_offset l.fields) (size_at field) start (bulky_fields l field) e d f.3 g.3,
  found_once own None (bulky_fields l field) r q one (one_found own (bulky_fields l field) r f.0 f.1 f.2) (one_found own (bulky_fields l field) q g.0 g.1 g.2),
)

all_once : (vs : Variants ℕ ℕ) (fields : (end : ℕ) → Option Reg → Type 0) (runs : (index start end : ℕ) → Option Reg → Type 0) → ((e d : ℕ) (r s : Option Reg) → fields e r → fields d s → (e ≡ d) × (r ≡ s))
    → RunOnce runs → (e d : ℕ) (r s : Option Reg) → AllRunBy vs fields runs e r → AllRunBy vs fields runs d s → (e ≡ d) × (r ≡ s)
all_once (Multiple tag encoding at layouts) fields runs one once e d r s (m, h, f, rest) (n, k, g, other) =
    let same : (m ≡ n) × (h ≡ k) = one m n h k f g in
    let count : ℕ = length layouts in
    let mine = variants_found count runs m h e r rest in
    let its = variants_found count runs m h d s (subst (λ x. VariantsRunBy count runs m x d s) (sym same.1) (subst (λ x. VariantsRunBy count runs x k d s) (sym same.0) other)) in
    (end_once (variant_ends runs m) (range_with_len 0 count) m e d (ends_once runs once m) mine.1 its.1, found_once (variant_own runs m) h (range_with_len 0 count) r s (own_once runs once m) mine.0 its.0)
all_once (Single i) fields runs one once e d r s f g = one e d r s f g
all_once Empty fields runs one once e d r s f g = absurd f

view_once : (view : BackendRepr) (size : ℕ) (parts : Option Reg → Type 0) → ((r s : Option Reg) → parts r → parts s → r ≡ s) → (r s : Option Reg) → RunsBy view size parts r → RunsBy view size parts s → r ≡ s
view_once (OneScalar scalar) size parts one r s f g = f ∙ sym g
view_once (SimdVector element count) size parts one r s f g = f ∙ sym g
view_once (SimdScalableVector element count vectors) size parts one r s f g = absurd f
view_once (Memory false) size parts one r s f g = absurd f
view_once (Memory true) size parts one r s f g = one r s f g
view_once (ScalarPair a b at) size parts one r s f g = one r s f g

once : (t : Typed) → ((r s : Option Reg) → IsUniform t r → IsUniform t s → r ≡ s) × ((start e d : ℕ) (r s : Option Reg) → FieldsRun t start e r → FieldsRun t start d s → (e ≡ d) × (r ≡ s))
once (typed l m field variant) =
    let fields : (start e d : ℕ) (r s : Option Reg) → FieldsRun (typed l m field variant) start e r → FieldsRun (typed l m field variant) start d s → (e ≡ d) × (r ≡ s) =
    λ start e d r s. fields_once l.fields l field (λ i. IsUniform (field i)) (λ i. (once (field i)).0) start e d r s in
    let parts : Option Reg → Type 0 = AllRunBy l.variants (FieldsRunBy l.fields l field (λ i. IsUniform (field i)) 0) (λ v. FieldsRun (variant v)) l.size in (
      view_once l.backend_repr l.size parts
          (λ r s f g. (all_once l.variants (FieldsRunBy l.fields l field (λ i. IsUniform (field i)) 0) (λ v. FieldsRun (variant v)) (fields 0) (λ v start e d r s. (once (variant v)).1 start e d r s) l.size l.size r s f g).1),
      fields,
    )
once no_type = ((λ r s f g. absurd f), (λ start e d r s f g. absurd f))

-- a type is uniform with one register, or with none
pub one_register : (t : Typed) (r s : Option Reg) → IsUniform t r → IsUniform t s → r ≡ s
one_register t = (once t).0

-- and its fields run to one end
pub one_run : (t : Typed) (start e d : ℕ) (r s : Option Reg) → FieldsRun t start e r → FieldsRun t start d s → (e ≡ d) × (r ≡ s)
one_run t = (once t).1

-- and so do its fields and variants
pub one_whole_run : (t : Typed) (e d : ℕ) (r s : Option Reg) → AllRun t e r → AllRun t d s → (e ≡ d) × (r ≡ s)
one_whole_run t = all_once (layout_in t).variants (FieldsRun t 0) (λ v. FieldsRun (variant_in t v)) (one_run t 0) (λ v. one_run (variant_in t v))
