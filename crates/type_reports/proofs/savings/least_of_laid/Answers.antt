use Rattle.std.proofs.Common.{ℕ, List, [], ◌∷◌, map, subst, sym}
use Rattle.std.specs.Prelude.{All}
use Rattle.std.proofs.lemmas.List.Elements.{All-cons, All-head, All-map, All-nil, All-tail}
use Rattle.abi_scalar.specs.Lawful.{IsLawfulLayout}
use Rattle.abi_tree.specs.Laid.{placed_of}
use Rattle.abi_tree.specs.Placed.{layout_of}
use Rattle.type_reports.proofs.savings.least_of_laid.Goals as goal

-- a fact of each item's image is one of each image
All-from_map : {X Y : Type 0} (P : X → Type 0) (f : Y → X) (ys : List Y) → All P (map f ys) → All (λ y. P (f y)) ys
All-from_map P f [] h = All-nil (λ y. P (f y))
All-from_map P f (y ∷ ys) h = All-cons (λ y. P (f y)) y ys (All-head P (f y) (map f ys) h) (All-from_map P f ys (All-tail P (f y) (map f ys) h))

pub least_order-requires-clause-fields : goal.least_order-requires-clause-fields
least_order-requires-clause-fields c =
    rw c.deref.ensures.value
    (All-from_map (IsLawfulLayout c.args.cx.dl.now) (λ l. l.now) c.in_ok-layouts.layouts.items
    (subst (All (IsLawfulLayout c.args.cx.dl.now)) (sym c.in_ok-layouts.ensures)
    (All-map (IsLawfulLayout c.args.cx.dl.now) (λ laid. layout_of (placed_of laid)) c.args.fields.now c.requires)))
