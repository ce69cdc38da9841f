-- Discriminants that are written, one variant more.
use Rattle.std.proofs.Common.{◌≡◌, ℕ, zero, suc, ◌+◌, ◌-◌, ◌<◌, ◌≤◌, List, [], length, drop, get_or, drop-cons, add-one, refl, ap, ◌∙◌}
use Rattle.std.specs.Prelude.{Option}
use Rattle.std.proofs.lemmas.List.{drop_all}
use Rattle.rust_source.specs.declared.item.Variant.{Variant}
use Rattle.rust_source.specs.declared.syntax.Expr.{Expr}
use Rattle.abi_rust.specs.Evaluating.{written_from, written_on}
use Rattle.abi_rust.proofs.Rooms.{none_left, turns}

pub written_more : (vs : List Variant) (index i behind : ℕ) (before : Option Expr) (v : Variant) → i < index → i < length vs → v ≡ get_or vs i v
    → written_from (index - i) (drop i vs) behind before ≡ written_on (written_from (index - (i + 1)) (drop (i + 1) vs)) behind before v.discriminant
written_more vs index i behind before v more within is =
    rw (turns index i more, drop-cons vs i v, ← is, add-one i) refl

pub written_done : (vs : List Variant) (index i behind : ℕ) (before : Option Expr) → index ≤ i → written_from (index - i) vs behind before ≡ (behind, before)
written_done vs index i behind before done = ap (λ k. written_from k vs behind before) (none_left index i done)

written_none : (k behind : ℕ) (before : Option Expr) → written_from k [] behind before ≡ (behind, before)
written_none zero behind before = refl
written_none (suc k) behind before = refl

pub written_end : (vs : List Variant) (k i behind : ℕ) (before : Option Expr) → length vs ≤ i → written_from k (drop i vs) behind before ≡ (behind, before)
written_end vs k i behind before done = ap (λ rest. written_from k rest behind before) (drop_all i vs done) ∙ written_none k behind before
