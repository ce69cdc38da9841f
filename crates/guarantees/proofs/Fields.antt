-- Fields of a struct, as handles see them and as bytes hold them.
use Rattle.std.proofs.Common.{◌≡◌, ℕ, zero, suc, ◌+◌, ◌<◌, ◌≤◌, List, Option, None, Some, Bor, length, arith, sym, ap, ◌∙◌, subst}
use Rattle.std.specs.Prelude.{IfSome, MatchOption}
use Rattle.abi_base.specs.declared.endian.Endian.{Endian}
use Rattle.abi_scalar.specs.Shape.{field_count, field_offset}
use Rattle.abi_types.specs.Ty.Lawful.{IsWellFormedType}
use Rattle.abi_types.specs.Ty.Typed.{Typed, typed, no_type, field_in, layout_in}
use Rattle.abi_tree.specs.Bytes.{bytes_at}
use Rattle.abi_tree.specs.Holding.{HoldParts, Holds, IsAt}
use Rattle.abi_tree.specs.Placed.{Placed, scalar, pair, never, fields, Parts, no_parts, part, layout_of, size_of}
use Rattle.abi_scalar.specs.Layout.{Layout}
use Rattle.abi_tree.specs.Seen.{HasOffset, Sees, SeesParts}
use Rattle.abi_tree.specs.Value.{Value, Values, no_values, more_values, list}
use Rattle.guarantees.specs.Field.{HasFieldAt, IsPartOf, value_at}

-- ---- as handles see them

layout-Sees : (t : Typed) (p : Placed) → Sees t p → layout_in t ≡ layout_of p
layout-Sees t (scalar layout s) h = h.0
layout-Sees t (pair layout parts) h = h.0.0
layout-Sees t (never layout mark) h = h.0
layout-Sees t _ h = h.0.0

-- the field with this index is seen at the offset
abbrev IsSeenAt : Typed → (index offset : ℕ) → Placed → Type 0
IsSeenAt t i o p = HasOffset t i o × Sees (field_in t i) p

seen_part : (t : Typed) (from : ℕ) (parts : Parts) (i o : ℕ) (p : Placed) → SeesParts t from parts → IsPartOf parts i o p → IsSeenAt t (from + i) o p
seen_part t from no_parts i o p s h = absurd h
seen_part t from (part offset placed parts) zero o p s h =
    let e : from ≡ from + 0 = omega arith in
    subst (λ j. IsSeenAt t j o p) e (s.0 ∙ sym h.0, subst (Sees (field_in t from)) (sym h.1) s.1)
seen_part t from (part offset placed parts) (suc i) o p s h =
    let e : suc from + i ≡ from + suc i = omega arith in
    subst (λ j. IsSeenAt t j o p) e (seen_part t (suc from) parts i o p s.2 h)

seen_field : (t : Typed) (placed : Placed) (i o : ℕ) (p : Placed) → Sees t placed → HasFieldAt placed i o p → IsSeenAt t i o p
seen_field t (fields layout mark parts) i o p s h =
    let e : 0 + i ≡ i = omega arith in
    subst (λ j. IsSeenAt t j o p) e (seen_part t 0 parts i o p s.1 h)
seen_field t _ i o p s h = absurd h

-- where a field was looked up, and how large
pub field_there : (t u : Typed) (placed : Placed) (layout own : Layout) (i o n : ℕ) → Sees t placed → layout ≡ layout_of placed → o ≡ field_offset layout.fields i →
    u ≡ field_in t i → layout_in u ≡ own → n ≡ own.size → (offset : ℕ) (field : Placed) → HasFieldAt placed i offset field → (o ≡ offset) × (n ≡ size_of field)
field_there t u placed layout own i o n s is at of_type beside large offset field h =
    let seen = seen_field t placed i offset field s h in
    let here : layout ≡ layout_in t = is ∙ sym (layout-Sees t placed s) in
    let there : own ≡ layout_of field = sym beside ∙ ap layout_in of_type ∙ layout-Sees (field_in t i) field seen.1 in
    (at ∙ ap (λ (l : Layout). field_offset l.fields i) here ∙ seen.0, large ∙ ap (λ (l : Layout). l.size) there)

-- a field lies inside
pub field_inside : (t : Typed) (layout : Layout) (i : ℕ) → IsWellFormedType t → layout ≡ layout_in t → i < field_count layout.fields → field_offset layout.fields i ≤ layout.size
field_inside (typed own marks field variant) layout i lawful is lt =
    let inside = lawful.0.inside i (subst (λ (l : Layout). i < field_count l.fields) is lt) in
    let at : field_offset layout.fields i ≡ field_offset own.fields i = ap (λ (l : Layout). field_offset l.fields i) is in
    let size : layout.size ≡ own.size = ap (λ (l : Layout). l.size) is in
    omega arith
field_inside no_type layout i lawful is lt = absurd lawful

-- ---- as bytes hold them

held_part : (order : Endian) (parts : Parts) (i o : ℕ) (p : Placed) (b : List ℕ) (vs : Values) (v : Value) → IsPartOf parts i o p → HoldParts order parts b vs →
    value_at vs i ≡ Some v → IsAt o (size_of p) (λ slice. Holds order p slice v) b
held_part order no_parts i o p b vs v h g e = absurd h
held_part order (part offset placed parts) i o p b no_values v h g e = absurd g
held_part order (part offset placed parts) zero o p b (more_values w vs) v h g e =
    let same : w ≡ v = cc in
    subst (λ j. IsAt j (size_of p) (λ slice. Holds order p slice v) b) (sym h.0)
    (subst (λ q. IsAt offset (size_of q) (λ slice. Holds order q slice v) b) (sym h.1)
    (subst (λ u. IsAt offset (size_of placed) (λ slice. Holds order placed slice u) b) same g.0))
held_part order (part offset placed parts) (suc i) o p b (more_values w vs) v h g e = held_part order parts i o p b vs v h g.1 e

-- a field's own slice holds its value
pub held_field : (order : Endian) (placed : Placed) (i o : ℕ) (p : Placed) (b : List ℕ) (vs : Values) (v : Value) → HasFieldAt placed i o p → Holds order placed b (list vs) →
    value_at vs i ≡ Some v → Holds order p (bytes_at b o (size_of p)) v
held_field order (fields layout mark parts) i o p b vs v h g e = (held_part order parts i o p b vs v h g.1 e).1
held_field order _ i o p b vs v h g e = absurd h

part_fits : (order : Endian) (parts : Parts) (i o : ℕ) (p : Placed) (b : List ℕ) (vs : Values) → IsPartOf parts i o p → HoldParts order parts b vs → o + size_of p ≤ length b
part_fits order no_parts i o p b vs h g = absurd h
part_fits order (part offset placed parts) i o p b no_values h g = absurd g
part_fits order (part offset placed parts) zero o p b (more_values w vs) h g =
    let size : size_of p ≡ size_of placed = ap size_of h.1 in
    omega (arith, h.0, size, g.0.0)
part_fits order (part offset placed parts) (suc i) o p b (more_values w vs) h g = part_fits order parts i o p b vs h g.1

-- and it lies inside the bytes
pub field_fits : (order : Endian) (placed : Placed) (i o : ℕ) (p : Placed) (b : List ℕ) (vs : Values) → HasFieldAt placed i o p → Holds order placed b (list vs) → o + size_of p ≤ length b
field_fits order (fields layout mark parts) i o p b vs h g = part_fits order parts i o p b vs h g.1
field_fits order _ i o p b vs h g = absurd h

-- ---- a slice that was looked for

module _ (b : List ℕ) (o n : ℕ) where
  -- the n bytes from o on, or None where they aren't there
  abbrev pub IsSlice : Option (Bor (List ℕ)) → Type 0
  IsSlice found = MatchOption found (o + n ≤ length b → ⊥) (λ slice. (o + n ≤ length b) × (slice.now ≡ bytes_at b o n))

  pub each_slice : (found : Option (Bor (List ℕ))) (P : List ℕ → Type 0) → IsSlice found → P (bytes_at b o n) → IfSome found (λ slice. P slice.now)
  each_slice None P h p = tt
  each_slice (Some slice) P h p = subst P (sym h.1) p

  pub no_slice : (found : Option (Bor (List ℕ))) → IsSlice found → found ≡ None → o + n ≤ length b → ⊥
  no_slice None h e le = h le
  no_slice (Some slice) h e le = absurd (cc)
