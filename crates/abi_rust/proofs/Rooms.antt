-- What is found within less room, and a turn more of each loop.
use Rattle.std.proofs.Common.{◌≡◌, ℕ, zero, suc, ◌+◌, ◌-◌, ◌<◌, ◌≤◌, List, [], ◌∷◌, None, Bool, sym, ◌∙◌, length, map, drop, get_or, drop-cons, add-one, refl, ap, arith}
use Rattle.std.proofs.lemmas.List.{drop_all}
use Rattle.rust_source.specs.declared.item.Items.{Items}
use Rattle.rust_source.specs.declared.place.Symbol.{Symbol}
use Rattle.abi_rust.specs.declared.paths.Resolution.{Resolution}
use Rattle.abi_rust.specs.declared.paths.Space.{Space}
use Rattle.abi_rust.specs.declared.scope.Scope.{Scope}
use Rattle.std.specs.Prelude.{Option}
use Rattle.abi_rust.specs.declared.ty.Kind.{Kind}
use Rattle.abi_rust.specs.Kinds.{kind_step, kind_within, type_step, type_within}
use Rattle.rust_source.specs.declared.syntax.Expr.{Expr}
use Rattle.abi_rust.specs.declared.budget.Context.{Context}
use Rattle.abi_rust.specs.Evaluating.{evaluator, value_with}
use Rattle.abi_rust.specs.Meaning.{too_deep}
use Rattle.rust_source.specs.declared.syntax.Segment.{Segment}
use Rattle.rust_source.specs.declared.syntax.«Type».{«Type» as Written}
use Rattle.abi_rust.specs.Resolving.{inner, item_with, resolver, type_with}
use Rattle.abi_rust.specs.Tails.{Outer, tail_inner, tail_of_item_with, tail_with}
use Rattle.abi_rust.specs.Types.{GenericArgsRead, TyRead, Where}
use Rattle.abi_rust.specs.Names.{behind_all, beside_module, first, found_of, lookup_of, named_behind, names_in_path, path_named, root_above, root_within, space_before, target_in}
use Rattle.abi_rust.specs.declared.use_targets.UseTarget.{UseTarget}
use Rattle.rust_source.specs.declared.syntax.Path.{Path, out-Path}
use Rattle.abi_rust.specs.Visible.{parent}

pub turns : (n i : ℕ) → i < n → n - i ≡ suc (n - (i + 1))
turns n i more = omega arith

pub none_left : (n i : ℕ) → n ≤ i → n - i ≡ 0
none_left n i done = omega arith

pub root_more : (n i : ℕ) (items : Items) (m : ℕ) → i < n → root_within (n - i) items m ≡ root_above (root_within (n - (i + 1)) items) m (parent items m)
root_more n i items m more = ap (λ k. root_within k items m) (turns n i more)

pub root_done : (n i : ℕ) (items : Items) (m : ℕ) → n ≤ i → root_within (n - i) items m ≡ m
root_done n i items m done = ap (λ k. root_within k items m) (none_left n i done)

module _ (items : Items) (scope : Scope) where
  module _ (brought : ℕ → Space → Option Resolution) (m : ℕ) where
    pub names_step : (left fewer : ℕ) (space : Space) (before : Option Resolution) (name : Symbol) (names : List Symbol) → fewer + 1 ≡ left
        → behind_all items scope brought left m space before (name ∷ names)
        ≡ behind_all items scope brought fewer m space (named_behind items scope brought before (lookup_of m name (space_before fewer space) None)) names
    names_step zero fewer space before name names is = absurd (omega arith)
    names_step (suc left) fewer space before name names is =
        let e : left ≡ fewer = omega arith in
        ap (λ n. behind_all items scope brought n m space (named_behind items scope brought before (lookup_of m name (space_before n space) None)) names) e

    -- the names of a list, of which one more is looked at
    pub names_on : {X : Type 0} (view : X → Symbol) (all : List X) (d : X) (i left fewer : ℕ) (space : Space) (before : Option Resolution) → i < length all → fewer + 1 ≡ left
        → behind_all items scope brought left m space before (map view (drop i all))
        ≡ behind_all items scope brought fewer m space (named_behind items scope brought before (lookup_of m (view (get_or all i d)) (space_before fewer space) None)) (map view (drop (i + 1) all))
    names_on view all d i left fewer space before more is = rw (drop-cons all i d, add-one i) (names_step left fewer space before (view (get_or all i d)) (map view (drop (suc i) all)) is)

    pub names_past : (left : ℕ) (space : Space) (before : Option Resolution) (names : List Symbol) → left ≡ 0 → behind_all items scope brought left m space before names ≡ before
    names_past zero space before names is = refl
    names_past (suc left) space before names is = absurd (omega arith)

    pub names_none : (left : ℕ) (space : Space) (before : Option Resolution) → behind_all items scope brought left m space before [] ≡ before
    names_none zero space before = refl
    names_none (suc left) space before = refl

    pub names_end : {X : Type 0} (view : X → Symbol) (all : List X) (i left : ℕ) (space : Space) (before : Option Resolution) → length all ≤ i → behind_all items scope brought left m space before (map view (drop i all)) ≡ before
    names_end view all i left space before done = rw (drop_all i all done) (names_none left space before)

    -- what was found when no name is left is what all names name
    pub all_named : {X : Type 0} (view : X → Symbol) (all rest : List X) (begin : X) (count begun left : ℕ) (is_global : Bool) (space : Space) (skipped : Option ℕ) (start found : Option Resolution) (names : List Symbol)
        → all ≡ begin ∷ rest → begun + 1 ≡ count → start ≡ first items scope brought (lookup_of m (view begin) (space_before begun space) skipped) is_global
        → behind_all items scope brought left m space found names ≡ behind_all items scope brought begun m space start (map view rest)
        → behind_all items scope brought left m space found names ≡ found
        → found ≡ path_named items scope brought count m is_global space skipped (map view all)
    all_named view all rest begin zero begun left is_global space skipped start found names is counted started same past = absurd (omega arith)
    all_named view all rest begin (suc count) begun left is_global space skipped start found names is counted started same past =
        let e : begun ≡ count = omega arith in
        rw (is, ← e) (sym past ∙ (same ∙ ap (λ s. behind_all items scope brought begun m space s (map view rest)) started))

  -- what is found by what the scope's uses are known to bring in
  pub found_by_uses : (m : ℕ) (p : Path) (count n : ℕ) (space : Space) (targets : List UseTarget) (found result : Option Resolution)
      → targets ≡ scope.use_targets.items → count ≡ n
      → found ≡ path_named items scope (target_in targets) count m (out-Path p).is_global space None (names_in_path p)
      → result ≡ beside_module items scope count space (names_in_path p) found
      → result ≡ found_of items scope m p n space
  unfolding found_of
  found_by_uses m p count n space targets found result known counted named beside =
      beside ∙ (ap (beside_module items scope count space (names_in_path p))
      (named ∙ ap (λ ts. path_named items scope (target_in ts) count m (out-Path p).is_global space None (names_in_path p)) known)
      ∙ ap (λ k. found_of items scope m p k space) counted)

module _ (items : Items) (scope : Scope) (n i : ℕ) where
  pub type_more : (found : Option Resolution) → i < n → type_within items scope (n - i) found ≡ type_step items scope (type_within items scope (n - (i + 1))) found
  type_more found more = ap (λ k. type_within items scope k found) (turns n i more)

  pub type_done : (found : Option Resolution) → n ≤ i → type_within items scope (n - i) found ≡ None
  type_done found done = ap (λ k. type_within items scope k found) (none_left n i done)

  pub kind_more : (found : Option Resolution) → i < n → kind_within items scope (n - i) found ≡ kind_step items scope (kind_within items scope (n - (i + 1))) found
  kind_more found more = ap (λ k. kind_within items scope k found) (turns n i more)

  pub kind_done : (found : Option Resolution) → n ≤ i → kind_within items scope (n - i) found ≡ None
  kind_done found done = ap (λ k. kind_within items scope k found) (none_left n i done)

module _ (cx : Context) where
  pub value_less : (depth_left left : ℕ) (w v : Where) (e : Expr) (wanted : Option Kind) → left + 1 ≡ depth_left → v ≡ w → evaluator cx depth_left w e wanted ≡ value_with cx (evaluator cx left) v e wanted
  unfolding evaluator
  value_less zero left w v e wanted is same = absurd (omega arith)
  value_less (suc depth_left) left w v e wanted is same = let q : depth_left ≡ left = omega arith in rw (q, same) refl

  pub value_none : (depth_left : ℕ) (w : Where) (e : Expr) (wanted : Option Kind) → depth_left ≡ 0 → evaluator cx depth_left w e wanted ≡ too_deep
  unfolding evaluator
  value_none zero w e wanted is = refl
  value_none (suc depth_left) w e wanted is = absurd (omega arith)

  pub resolve_less : (depth_left left : ℕ) (w v : Where) (t : Written) → left + 1 ≡ depth_left → v ≡ w → resolver cx depth_left w t ≡ type_with cx (inner cx left) v t
  unfolding inner
  resolve_less zero left w v t is same = absurd (omega arith)
  resolve_less (suc depth_left) left w v t is same = let q : depth_left ≡ left = omega arith in rw (q, same) refl

  pub resolve_none : (depth_left : ℕ) (w : Where) (t : Written) → depth_left ≡ 0 → resolver cx depth_left w t ≡ too_deep
  unfolding inner
  resolve_none zero w t is = refl
  resolve_none (suc depth_left) w t is = absurd (omega arith)

  pub item_less : (depth_left left : ℕ) (w v : Where) (n : ℕ) (s : Segment) → left + 1 ≡ depth_left → v ≡ w → (inner cx depth_left).item_of w n s ≡ item_with cx (inner cx left) v n s
  unfolding inner
  item_less zero left w v n s is same = absurd (omega arith)
  item_less (suc depth_left) left w v n s is same = let q : depth_left ≡ left = omega arith in rw (q, same) refl

  pub item_none : (depth_left : ℕ) (w : Where) (n : ℕ) (s : Segment) → depth_left ≡ 0 → (inner cx depth_left).item_of w n s ≡ too_deep
  unfolding inner
  item_none zero w n s is = refl
  item_none (suc depth_left) w n s is = absurd (omega arith)

  pub tail_less : (depth_left left : ℕ) (outer inner : Outer) (t : TyRead) → left + 1 ≡ depth_left → inner ≡ outer → (tail_inner cx depth_left).tail_of outer t ≡ tail_with cx (tail_inner cx left) inner t
  unfolding tail_inner
  tail_less zero left outer inner t is same = absurd (omega arith)
  tail_less (suc depth_left) left outer inner t is same = let q : depth_left ≡ left = omega arith in rw (q, same) refl

  pub tail_none : (depth_left : ℕ) (outer : Outer) (t : TyRead) → depth_left ≡ 0 → (tail_inner cx depth_left).tail_of outer t ≡ too_deep
  unfolding tail_inner
  tail_none zero outer t is = refl
  tail_none (suc depth_left) outer t is = absurd (omega arith)

  pub tail_item_less : (depth_left left : ℕ) (outer inner : Outer) (n : ℕ) (gs : GenericArgsRead) → left + 1 ≡ depth_left → inner ≡ outer → (tail_inner cx depth_left).tail_of_item outer n gs ≡ tail_of_item_with cx (tail_inner cx left) inner n gs
  unfolding tail_inner
  tail_item_less zero left outer inner n gs is same = absurd (omega arith)
  tail_item_less (suc depth_left) left outer inner n gs is same = let q : depth_left ≡ left = omega arith in rw (q, same) refl

  pub tail_item_none : (depth_left : ℕ) (outer : Outer) (n : ℕ) (gs : GenericArgsRead) → depth_left ≡ 0 → (tail_inner cx depth_left).tail_of_item outer n gs ≡ too_deep
  unfolding tail_inner
  tail_item_none zero outer n gs is = refl
  tail_item_none (suc depth_left) outer n gs is = absurd (omega arith)
