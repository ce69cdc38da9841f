-- The calculator's answer to a list of fields, whatever lends their layouts.
use Rattle.std.proofs.Common.{◌≡◌, ℕ, ◌<◌, List, [], ◌∷◌, Some, Bool, true, false, map, refl, sym, ap, ◌∙◌, subst, inl, inr, All, Result, Ok, Err, zero, suc}
use Rattle.std.specs.Prelude.{nat_lt, slice_get, if◌then◌else◌}
use Rattle.std.specs.List.{list_all}
use Rattle.std.specs.Result.{IsErrAnd, IfErr}
use Rattle.std.proofs.lemmas.Bool.{lt-ltb}
use Rattle.std.proofs.lemmas.List.{length-map, map-id}
use Rattle.std.specs.Cmp.Derive.{both_true}
use Rattle.std.proofs.lemmas.List.Elements.{All-nil, All-cons, All-head, All-tail}
use Rattle.abi_base.specs.declared.data_layout.TargetDataLayout.{TargetDataLayout}
use Rattle.abi_base.specs.declared.struct_kind.StructKind.{StructKind}
use Rattle.abi_base.specs.DataLayout.{size_bound}
use Rattle.abi_scalar.specs.declared.repr.ReprOptions.{ReprOptions}
use Rattle.abi_scalar.specs.declared.error.LayoutCalculatorError.{LayoutCalculatorError}
use Rattle.abi_scalar.specs.declared.error.LayoutCalculatorError.TheVariants.{SizeOverflow, UnexpectedUnsized}
use Rattle.abi_scalar.specs.declared.error.LayoutCalculatorError.TheVariants as calculator
use Rattle.abi_univariant.specs.declared.order.NicheBias.TheVariants.{Start}
use Rattle.abi_univariant.specs.declared.placing.FieldsFault.{FieldsFault}
use Rattle.abi_univariant.specs.declared.placing.FieldsFault.TheVariants as fault
use Rattle.abi_univariant.specs.Fault.{IsErrorOf, fault_in}
use Rattle.abi_univariant.specs.InOrder.{IsOrderedAnswer, IsOrderedError}
use Rattle.abi_univariant.specs.Least.{IsOrderOf}
use Rattle.abi_univariant.specs.List.{IsUnivariantAnswer}
use Rattle.abi_univariant.specs.Order.{IsNamedOrder}
use Rattle.abi_univariant.specs.Part.{parts_of}
use Rattle.abi_univariant.specs.Placement.{fields_repr}
use Rattle.rustc_abi.specs.declared.error.LayError.{LayError}
use Rattle.abi_tree.specs.Placed.{Placed, layout_of, size_of}
use Rattle.abi_scalar.specs.Layout.{Layout}
use Rattle.rustc_abi.specs.Error.{lay_error, named, IsRefused}
use Rattle.rustc_abi.specs.Laying.{IsLaidList, IsListedInOrder}

-- what a choice made
pub chosen : (H : Type 0) (b : Bool) (layout made : Layout) → named {H = H} (if b then Ok layout else Err SizeOverflow) ≡ Ok made → made ≡ layout
chosen H true layout made h = cc
chosen H false layout made h = absurd (cc)

module _ {H : Type 0} (f : H → Layout) (dl : TargetDataLayout) (repr : ReprOptions) (kind : StructKind) where
  field_there : (hs : List H) (i : ℕ) (h : H) → slice_get hs i ≡ Some h → slice_get (map f hs) i ≡ Some (f h)
  field_there [] i h e = absurd (cc)
  field_there (k ∷ hs) zero h e = cc
  field_there (k ∷ hs) (suc i) h e = field_there hs i h e

  -- an error by its name
  named_error : (hs : List H) (fault : FieldsFault) (e : LayoutCalculatorError H) → IsErrorOf hs fault e →
      (error : LayoutCalculatorError Layout) × IsErrorOf (map f hs) fault error × (lay_error e ≡ lay_error error)
  named_error hs (fault.Unsized i) e h = (UnexpectedUnsized (f h.0), (f h.0, field_there hs i h.0 h.1, refl), ap lay_error h.2)
  named_error hs fault.TooLarge e h = (SizeOverflow, refl, ap lay_error h)
  named_error hs fault.OutOfMemory e h = (calculator.OutOfMemory, refl, ap lay_error h)

  -- it is the answer to the list of the layouts
  pub listed_ok : (hs : List H) (layouts : List Layout) (made : Layout) → map f hs ≡ layouts → IsUnivariantAnswer f (λ i. i) 0 dl repr kind hs (Ok made) → IsLaidList dl repr kind layouts (Ok made)
  listed_ok hs layouts made same h = subst (λ ls. IsLaidList dl repr kind ls (Ok made)) same h

  pub listed_err : (hs : List H) (layouts : List Layout) (e : LayoutCalculatorError H) → map f hs ≡ layouts → IsUnivariantAnswer f (λ i. i) 0 dl repr kind hs (Err e) →
      IsRefused (IsLaidList dl repr kind layouts) (lay_error e)
  listed_err hs layouts e same (inl (order, first, which, there, of)) =
      let error = named_error hs which e of in
      let whole : map (λ l. l) (map f hs) ≡ map f hs = map-id (map f hs) in
      let order_of = subst (λ ls. IsNamedOrder (fields_repr dl repr kind) Start (parts_of dl ls) order) (sym whole) first in
      let fault_of = subst (λ ls. fault_in (fields_repr dl repr kind) (size_bound dl) (parts_of dl ls) order ≡ Some which) (sym whole) there in
      subst (λ ls. IsRefused (IsLaidList dl repr kind ls) (lay_error e)) same (inr (error.0, (order, order_of, which, fault_of, error.1), error.2))
  listed_err hs layouts e same (inr memory) = inl (ap lay_error memory)

  -- and in an order that is handed in
  pub ordered_ok : (order : List ℕ) (hs : List H) (layouts : List Layout) (made : Layout) → map f hs ≡ layouts → IsOrderedAnswer f (λ i. i) 0 dl repr kind order hs (Ok made) →
      IsListedInOrder dl repr kind order layouts (Ok made)
  ordered_ok order hs layouts made same h = subst (λ ls. IsListedInOrder dl repr kind order ls (Ok made)) same h

  ordered_error : (order : List ℕ) (hs : List H) (e : LayoutCalculatorError H) → IsOrderedError f dl repr kind order hs e →
      IsRefused (IsListedInOrder dl repr kind order (map f hs)) (lay_error e)
  ordered_error order hs e (inl (bad, is)) =
      inr (calculator.BadOrder, inl ((λ allowed. bad (subst (λ n. IsOrderOf dl repr kind n order) (length-map hs f) allowed)), refl), ap lay_error is)
  ordered_error order hs e (inr (allowed, which, there, of)) =
      let error = named_error hs which e of in
      let as_many = subst (λ n. IsOrderOf dl repr kind n order) (sym (length-map hs f)) allowed in
      let fault_of = subst (λ ls. fault_in (fields_repr dl repr kind) (size_bound dl) (parts_of dl ls) order ≡ Some which) (sym (map-id (map f hs))) there in
      inr (error.0, inr (as_many, which, fault_of, error.1), error.2)

  pub ordered_err : (order : List ℕ) (hs : List H) (layouts : List Layout) (e : LayoutCalculatorError H) → map f hs ≡ layouts → IsOrderedAnswer f (λ i. i) 0 dl repr kind order hs (Err e) →
      IsRefused (IsListedInOrder dl repr kind order layouts) (lay_error e)
  ordered_err order hs layouts e same (inl refused) = subst (λ ls. IsRefused (IsListedInOrder dl repr kind order ls) (lay_error e)) same (ordered_error order hs e refused)
  ordered_err order hs layouts e same (inr memory) = inl (ap lay_error memory)

-- each of these numbers is below n
pub all_below : (n : ℕ) (children : List ℕ) → All (λ child. child < n) children → list_all (λ child. nat_lt child n) children ≡ true
all_below n [] h = refl
all_below n (c ∷ children) h =
    both_true (lt-ltb c n (All-head (λ child. child < n) c children h)) (all_below n children (All-tail (λ child. child < n) c children h))

-- a fact of each item's image is one of each image
pub All-from_map : {X Y : Type 0} (P : X → Type 0) (f : Y → X) (ys : List Y) → All P (map f ys) → All (λ y. P (f y)) ys
All-from_map P f [] h = All-nil (λ y. P (f y))
All-from_map P f (y ∷ ys) h = All-cons (λ y. P (f y)) y ys (All-head P (f y) (map f ys) h) (All-from_map P f ys (All-tail P (f y) (map f ys) h))

-- an error that was passed on
pub passed_on : {B : Type 0} (P : LayError → Type 0) (e : LayError) (r : Result B LayError) → IsErrAnd r (λ error. error ≡ e) → P e → IfErr r P
passed_on P e (Ok b) h refused = absurd h
passed_on P e (Err error) h refused = subst P (sym h) refused

-- the sizes of the images
pub map_sizes : {H : Type 0} (f : H → Layout) (hs : List H) → map (λ h. (f h).size) hs ≡ map (λ l. l.size) (map f hs)
map_sizes f [] = refl
map_sizes f (h ∷ hs) = ap (λ rest. (f h).size ∷ rest) (map_sizes f hs)

-- equal layouts have equal sizes
pub sizes_by : {H : Type 0} (f : H → Layout) (hs : List H) (ps : List Placed) → map f hs ≡ map layout_of ps → map (λ h. (f h).size) hs ≡ map size_of ps
sizes_by f hs ps same = map_sizes f hs ∙ ap (map (λ l. l.size)) same ∙ sym (map_sizes layout_of ps)
