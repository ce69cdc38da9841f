-- A coroutine's answer depends on the layouts of its fields alone, whatever lends them.
use Rattle.std.proofs.Common.{◌≡◌, ℕ, Bool, List, ◌∙◌, ap, inl, inr, length, map, refl, subst, sym}
use Rattle.std.specs.Prelude.{Result, Ok, Err}
use Rattle.std.proofs.lemmas.List.{length-map}
use Rattle.abi_base.specs.declared.data_layout.TargetDataLayout.{TargetDataLayout}
use Rattle.abi_base.specs.declared.struct_kind.StructKind.TheVariants.{AlwaysSized}
use Rattle.abi_index.specs.Relation.{Relation}
use Rattle.abi_scalar.specs.declared.error.LayoutCalculatorError.{LayoutCalculatorError}
use Rattle.abi_scalar.specs.declared.error.LayoutCalculatorError.TheVariants.{OutOfMemory, SizeOverflow}
use Rattle.abi_scalar.specs.declared.layout_data.LayoutData.{LayoutData}
use Rattle.abi_scalar.specs.declared.scalar.Scalar.{Scalar}
use Rattle.abi_calc.specs.Coroutine.Answer.{IsCoroutineAnswer}
use Rattle.abi_calc.specs.Coroutine.Layout.{coroutine_layout}
use Rattle.abi_calc.specs.Coroutine.Lists.{state_list_kind, default_repr, first_list}
use Rattle.abi_calc.specs.Coroutine.Promotion.{promoted_of}
use Rattle.abi_calc.specs.Coroutine.Sizes.{own_lists}
use Rattle.abi_calc.proofs.CoroutineLemmas.Promised.{map_first, map_own, own_error, own_layouts}
use Rattle.abi_calc.proofs.CoroutineLemmas.OneCoroutine.{Answers, AreOwn, IsFirst, error_own, lists_own}
use Rattle.abi_calc.proofs.EnumLemmas.SameType.{HasSameResult, first_error_by, listed_by, lists_by, refused_by, same_name}

module _ {H K : Type 0} (f : H → LayoutData ℕ ℕ) (g : K → LayoutData ℕ ℕ) (dl : TargetDataLayout) (prefix : List H) (ahead : List K) (tag : Scalar) (field : H) (held : K) (locals : List H) (others : List K)
    (states : List (List ℕ)) (promoted : List Bool) (before : map f prefix ≡ map g ahead) (holds : f field ≡ g held) (all : map f locals ≡ map g others) where
  fields_same : map f (first_list prefix field locals promoted) ≡ map g (first_list ahead held others promoted)
  fields_same = map_first f prefix field locals promoted ∙ (λ i. first_list (before i) (holds i) (all i) promoted) ∙ sym (map_first g ahead held others promoted)

  own_same : map (map f) (own_lists locals promoted states) ≡ map (map g) (own_lists others promoted states)
  own_same = map_own f locals promoted states ∙ ap (λ ls. own_lists ls promoted states) all ∙ sym (map_own g others promoted states)

  count_same : length prefix ≡ length ahead
  count_same = sym (length-map prefix f) ∙ ap length before ∙ length-map ahead g

  first_by : (x : LayoutData ℕ ℕ) → IsFirst f dl prefix tag field locals states promoted x → IsFirst g dl ahead tag held others states promoted x
  first_by x h = listed_by f g dl default_repr AlwaysSized (first_list prefix field locals promoted) (first_list ahead held others promoted) fields_same x h

  own_by : (x : LayoutData ℕ ℕ) (xs : List (LayoutData ℕ ℕ)) → AreOwn f dl prefix tag field locals states promoted x xs → AreOwn g dl ahead tag held others states promoted x xs
  own_by x xs h =
      own_layouts g (λ i. i) 0 dl (state_list_kind x) others promoted states xs
      (lists_by f g dl default_repr (state_list_kind x) (own_lists locals promoted states) (own_lists others promoted states) own_same xs (lists_own f dl (state_list_kind x) locals promoted states xs h))

  pub promoted_by : (r : Result (LayoutData ℕ ℕ) (LayoutCalculatorError H)) → Answers f dl prefix tag field locals states promoted r → HasSameResult r (Answers g dl ahead tag held others states promoted)
  promoted_by (Ok a) (x, h, xs, hs, below, is) =
      (Ok a, (x, first_by x h, xs, own_by x xs hs, below, subst (λ n. a ≡ coroutine_layout (λ i. i) (λ i. i) n tag promoted states x xs) count_same is), refl)
  promoted_by (Err e) (inl bad) =
      let error = refused_by f g dl default_repr AlwaysSized (first_list prefix field locals promoted) (first_list ahead held others promoted) fields_same e bad in
      (Err error.0, inl error.1, error.2)
  promoted_by (Err e) (inr (inl (x, h, inl later))) =
      let error = first_error_by f g dl default_repr (state_list_kind x) (own_lists locals promoted states) (own_lists others promoted states) own_same e (error_own f dl (state_list_kind x) locals promoted states e later) in
      (Err error.0, inr (inl (x, first_by x h, inl (own_error g (λ i. i) 0 dl (state_list_kind x) others promoted states error.0 error.1))), error.2)
  promoted_by (Err e) (inr (inl (x, h, inr (xs, hs, over, large)))) =
      (Err SizeOverflow, inr (inl (x, first_by x h, inr (xs, own_by x xs hs, over, refl))), same_name e SizeOverflow SizeOverflow large tt)
  promoted_by (Err e) (inr (inr want)) = (Err OutOfMemory, inr (inr refl), same_name e OutOfMemory OutOfMemory want tt)

-- a coroutine has the same answer for the same layouts
pub same_coroutine : {H K : Type 0} (f : H → LayoutData ℕ ℕ) (g : K → LayoutData ℕ ℕ) (dl : TargetDataLayout) (prefix : List H) (ahead : List K) (tag : Scalar) (field : H) (held : K) (locals : List H) (others : List K)
    (states : List (List ℕ)) (conflicts : Relation) → map f prefix ≡ map g ahead → f field ≡ g held → map f locals ≡ map g others → (r : Result (LayoutData ℕ ℕ) (LayoutCalculatorError H))
    → IsCoroutineAnswer f (λ i. i) (λ i. i) 0 dl prefix tag field locals states conflicts r → HasSameResult r (IsCoroutineAnswer g (λ i. i) (λ i. i) 0 dl ahead tag held others states conflicts)
same_coroutine f g dl prefix ahead tag field held locals others states conflicts before holds all r h =
    promoted_by f g dl prefix ahead tag field held locals others states (promoted_of states conflicts) before holds all r h
