-- What objects say of fields, one more.
use Rattle.std.proofs.Common.{◌≡◌, ℕ, ◌+◌, ◌<◌, ◌≤◌, List, [], ◌∷◌, ◌++◌, Option, length, drop, get_or, drop-cons, add-one, refl}
use Rattle.std.proofs.lemmas.List.{drop_all}
use Rattle.serde_json.specs.View.{items_view, view}
use Rattle.serde_json.specs.declared.value.Value.{Value}
use Rattle.type_reports.specs.Facts.{field_said, fields_of_variant, fields_said, variants_said}

pub fields_on : (variant : Option (List ℕ)) (vs : List Value) (i : ℕ) (v : Value) → i < length vs → v ≡ get_or vs i v
    → fields_said variant (items_view (drop i vs)) ≡ field_said variant (view v) ∷ fields_said variant (items_view (drop (i + 1) vs))
fields_on variant vs i v more is = rw (drop-cons vs i v, ← is, add-one i) refl

pub fields_end : (variant : Option (List ℕ)) (vs : List Value) (i : ℕ) → length vs ≤ i → fields_said variant (items_view (drop i vs)) ≡ []
fields_end variant vs i done = rw (drop_all i vs done) refl

pub variants_on : (vs : List Value) (i : ℕ) (v : Value) → i < length vs → v ≡ get_or vs i v
    → variants_said (items_view (drop i vs)) ≡ fields_of_variant (view v) ++ variants_said (items_view (drop (i + 1) vs))
variants_on vs i v more is = rw (drop-cons vs i v, ← is, add-one i) refl

pub variants_end : (vs : List Value) (i : ℕ) → length vs ≤ i → variants_said (items_view (drop i vs)) ≡ []
variants_end vs i done = rw (drop_all i vs done) refl
