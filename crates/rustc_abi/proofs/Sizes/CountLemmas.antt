-- How many nodes a tree is laid out with, node after node.
use Rattle.std.proofs.Common.{◌≡◌, ℕ, zero, suc, Bool, true, false, Option, Some, ◌+◌, ◌*◌, ◌==◌, ◌<◌, ◌++◌, [], ◌∷◌, List, arith, get_or, length, map, Ok, Err, Result, refl, sym, ap, ◌∙◌, subst}
use Rattle.std.specs.Prelude.{◌&&◌, ◌||◌, ◌↔◌, IfOk, Vec, if◌then◌else◌, nat_lt, not}
use Rattle.std.proofs.lemmas.Bool.{and_parts}
use Rattle.std.specs.Cmp.Derive.{both_true}
use Rattle.std.proofs.lemmas.List.{length-append}
use Rattle.std.specs.declared.alloc.Global.{Global}
use Rattle.abi_base.specs.declared.data_layout.TargetDataLayout.{TargetDataLayout}
use Rattle.abi_tree.specs.declared.node.Node.{Node}
use Rattle.abi_tree.specs.declared.tree.TypeTree.{TypeTree}
use Rattle.abi_scalar.specs.declared.repr.ReprOptions.{ReprOptions}
use Rattle.abi_scalar.specs.declared.error.LayoutCalculatorError.TheVariants.{SizeOverflow}
use Rattle.abi_base.specs.DataLayout.{size_bound}
use Rattle.abi_univariant.specs.Array.{array_answer, elements_layout}
use Rattle.rustc_abi.specs.Error.{named}
use Rattle.abi_tree.specs.Tree.{Tree, array, vector, struct, union, enum, coroutine, Trees, Variants, tree_of, trees, trees_of_variants}
use Rattle.abi_tree.specs.Placed.{Placed, layout_of}
use Rattle.abi_scalar.specs.Layout.{Layout}
use Rattle.abi_tree.specs.Deciding.{are_inhabited}
use Rattle.abi_tree.proofs.Meaning.NodesLemmas.{layout_of-placed_at}
use Rattle.abi_tree.specs.Nodes.{tagged_variants_in, placed_at}
use Rattle.abi_tree.specs.Well.{IsPut}
use Rattle.rustc_abi.specs.Adding.{IsAdded}
use Rattle.rustc_abi.specs.Count.{AddsOwn, AreCounted, AreVariantsCounted, HasMore, HasNodes, HaveNodes, IsCounted, IsOwnPut, VariantsHaveNodes, tagged_variant_count, own_nodes}
use Rattle.rustc_abi.specs.Inhabited.{AreInhabited, EachInhabited, IsInhabited, VariantsInhabited}
use Rattle.rustc_abi.proofs.Trees.OneAnswer.{one_answer}

-- what is told of an answer in two ways
pub both_ok : {A E : Type 0} (r : Result A E) (P Q R : A → Type 0) → IfOk r P → IfOk r Q → ((a : A) → P a → Q a → R a) → IfOk r R
both_ok (Ok a) P Q R p q f = f a p q
both_ok (Err e) P Q R p q f = tt

-- some nodes behind others, and more behind them
pub more_both : (n m : ℕ) (one two : Bool) (old mid new : List Node) → HasMore n one old mid → HasMore m two mid new → HasMore (n + m) (one || two) old new
more_both n m one two old mid new first second =
    (omega (arith, first.0, second.0), second.1 ∙ ap (λ b. b && not two) first.1 ∙ by (are_inhabited old) one)
  where
    by : (a b : Bool) → ((a && not b) && not two) ≡ (a && not (b || two))
    by true true = refl
    by true false = refl
    by false b = refl

pub more_as : (n m : ℕ) (flagged : Bool) (old new : List Node) → n ≡ m → HasMore n flagged old new → HasMore m flagged old new
more_as n m flagged old new same more = (omega (arith, same, more.0), more.1)

and_assoc : (a b c : Bool) → (a && (b && c)) ≡ ((a && b) && c)
and_assoc true b c = refl
and_assoc false b c = refl

and_true : (a : Bool) → (a && true) ≡ a
and_true true = refl
and_true false = refl

unset : (b : Bool) → not b ≡ true → b ≡ false
unset true e = absurd (cc)
unset false e = refl

-- a node behind others
pub more_one : (old new : List Node) (n : Node) → new ≡ old ++ n ∷ [] → HasMore 1 n.layout.uninhabited old new
more_one old new n is =
    (ap length is ∙ length-append old (n ∷ []), ap are_inhabited is ∙ all_append old (n ∷ []) ∙ ap (λ b. are_inhabited old && b) (and_true (not n.layout.uninhabited)))
  where
    all_append : (xs ys : List Node) → are_inhabited (xs ++ ys) ≡ (are_inhabited xs && are_inhabited ys)
    all_append [] ys = refl
    all_append (x ∷ xs) ys = ap (λ b. not x.layout.uninhabited && b) (all_append xs ys) ∙ and_assoc (not x.layout.uninhabited) (are_inhabited xs) (are_inhabited ys)

-- a node that is flagged only where one that was there is might as well not be
pub more_absorbed : (n : ℕ) (flagged : Bool) (old new : List Node) → (flagged ≡ true → are_inhabited old ≡ false) → HasMore n flagged old new → HasMore n false old new
more_absorbed n flagged old new only more = (more.0, more.1 ∙ by flagged refl ∙ sym (and_true (are_inhabited old)))
  where
    by : (b : Bool) → flagged ≡ b → (are_inhabited old && not b) ≡ are_inhabited old
    by true is = ap (λ b. b && false) (only is) ∙ sym (only is)
    by false is = and_true (are_inhabited old)

-- the own nodes of what was put last, from what it means
pub own_put : (old mid new : List Node) (i : ℕ) (placed : Placed) → IsPut mid new i placed → HasMore (own_nodes placed) (layout_of placed).uninhabited old new → IsOwnPut old new i
own_put old mid new i placed put more = (
  subst (λ p. length new ≡ length old + own_nodes p) (sym put.meant) more.0,
  subst (λ p. are_inhabited new ≡ (are_inhabited old && not (layout_of p).uninhabited)) (sym put.meant) more.1,
)

-- where no node is flagged, the one at a place isn't
unflagged_at : (ns : List Node) (i : ℕ) (d : Node) → i < length ns → are_inhabited ns ≡ true → (get_or ns i d).layout.uninhabited ≡ false
unflagged_at [] i d lt all = absurd (omega arith)
unflagged_at (n ∷ ns) zero d lt all = unset n.layout.uninhabited (and_parts (not n.layout.uninhabited) (are_inhabited ns) all).0
unflagged_at (n ∷ ns) (suc i) d lt all = unflagged_at ns i d (omega arith) (and_parts (not n.layout.uninhabited) (are_inhabited ns) all).1

-- so where the type at a place is, some node is
pub flagged_there : (ns : List Node) (i : ℕ) → i < length ns → (layout_of (placed_at ns i)).uninhabited ≡ true → are_inhabited ns ≡ false
flagged_there [] i lt flag = absurd (omega arith)
flagged_there (n ∷ ns) i lt flag = by (are_inhabited (n ∷ ns)) refl
  where
    by : (b : Bool) → are_inhabited (n ∷ ns) ≡ b → are_inhabited (n ∷ ns) ≡ false
    by true all =
        let is : (get_or (n ∷ ns) i n).layout.uninhabited ≡ true = sym (ap (λ (l : Layout). l.uninhabited) (layout_of-placed_at (n ∷ ns) i n lt)) ∙ flag in
        let none = unflagged_at (n ∷ ns) i n lt all in
        absurd (cc (is, none))
    by false some = some

-- an array is flagged only where its element is
pub array_flagged : (dl : TargetDataLayout) (element whole : Layout) (count : ℕ) → Ok whole ≡ named {H = ℕ} (array_answer 0 dl element (Some count)) → whole.uninhabited ≡ true → element.uninhabited ≡ true
array_flagged dl element whole count is flag = by (nat_lt (element.size * count) (size_bound dl)) is
  where
    by : (b : Bool) → Ok whole ≡ named {H = ℕ} (if b then Ok (elements_layout 0 true count element) else Err SizeOverflow) → element.uninhabited ≡ true
    by true e =
        let same : whole ≡ elements_layout 0 true count element = cc in
        (and_parts element.uninhabited (not (count == 0)) (sym (ap (λ (l : Layout). l.uninhabited) same) ∙ flag)).0
    by false e = absurd (cc)

-- as many tagged variants stand beside a tag as are listed
pub tagged_variants_listed : (done : List Placed) (vs : List (ℕ × ℕ)) → tagged_variant_count (tagged_variants_in done vs) ≡ length vs
tagged_variants_listed done [] = refl
tagged_variants_listed done (v ∷ vs) = let rest = tagged_variants_listed done vs in omega (arith, rest)

-- a tag, so many variants, and the whole
pub more_tagged_variants : (n m : ℕ) (flagged : Bool) (old one two new : List Node) → HasMore 1 false old one → HasMore n false one two → HasMore 1 flagged two new → m ≡ n → HasMore (m + 2) flagged old new
more_tagged_variants n m flagged old one two new first tagged_variants last same =
    more_as (1 + n + 1) (m + 2) flagged old new (omega (arith, same)) (more_both (1 + n) 1 false flagged old two new (more_both 1 n false false old one two first tagged_variants) last)

-- a type whose own nodes were put behind those of the types in it
pub own_counted : (dl : TargetDataLayout) (first old new : List Node) (i : ℕ) (t : Tree) (parts : ℕ) → IsAdded dl old new i t → IsOwnPut old new i →
    length old ≡ length first + parts → (n : ℕ) × AddsOwn dl t parts n × (length new ≡ length first + n)
own_counted dl first old new i t parts added own before =
    (parts + own_nodes (placed_at new i), (placed_at new i, added.exact, refl), omega (arith, own.0, before))

-- it has values, where no node is flagged, and only there
own_inhabited : (dl : TargetDataLayout) (old new : List Node) (i : ℕ) (t : Tree) → IsAdded dl old new i t → IsOwnPut old new i →
    (are_inhabited new ≡ true) ↔ ((are_inhabited old ≡ true) × IsInhabited dl t)
own_inhabited dl old new i t added own = (there, back)
  where
    there : are_inhabited new ≡ true → (are_inhabited old ≡ true) × IsInhabited dl t
    there all =
        let both = and_parts (are_inhabited old) (not (layout_of (placed_at new i)).uninhabited) (sym own.1 ∙ all) in
        (both.0, (placed_at new i, added.exact, unset (layout_of (placed_at new i)).uninhabited both.1))

    back : (are_inhabited old ≡ true) × IsInhabited dl t → are_inhabited new ≡ true
    back (all, (p, laying, unflagged)) =
        let same : Ok p ≡ Ok (placed_at new i) = one_answer dl t (Ok p) (Ok (placed_at new i)) laying added.exact in
        let is : p ≡ placed_at new i = cc in
        own.1 ∙ both_true all (ap not (ap (λ q. (layout_of q).uninhabited) (sym is) ∙ unflagged))

-- so has each type in it
parts_inhabited : {A B : Type 0} (first old new : List Node) → (are_inhabited old ≡ true) ↔ ((are_inhabited first ≡ true) × A) → (are_inhabited new ≡ true) ↔ ((are_inhabited old ≡ true) × B) →
    (are_inhabited new ≡ true) ↔ ((are_inhabited first ≡ true) × (A × B))
parts_inhabited first old new parts whole = (
  λ all. let here = whole.0 all in let before = parts.0 here.0 in (before.0, (before.1, here.1)),
  λ h. whole.1 (parts.1 (h.0, h.1.0), h.1.1),
)

-- a type without types in it
pub alone_counted : (dl : TargetDataLayout) (old new : List Node) (i : ℕ) (t : Tree) → IsAdded dl old new i t → IsOwnPut old new i →
    (n : ℕ) × AddsOwn dl t 0 n × (length new ≡ length old + n) × ((are_inhabited new ≡ true) ↔ ((are_inhabited old ≡ true) × IsInhabited dl t))
alone_counted dl old new i t added own =
    let whole = own_counted dl old old new i t 0 added own (omega arith) in
    (whole.0, whole.1, whole.2, own_inhabited dl old new i t added own)

-- a type with others in it, which have so many nodes
whole_counted : (dl : TargetDataLayout) (first old new : List Node) (i : ℕ) (t : Tree) (P : ℕ → Type 0) (A : Type 0) →
    (n : ℕ) × P n × (length old ≡ length first + n) × ((are_inhabited old ≡ true) ↔ ((are_inhabited first ≡ true) × A)) → IsAdded dl old new i t → IsOwnPut old new i →
    (n : ℕ) × ((m : ℕ) × P m × AddsOwn dl t m n) × (length new ≡ length first + n) × ((are_inhabited new ≡ true) ↔ ((are_inhabited first ≡ true) × (A × IsInhabited dl t)))
whole_counted dl first old new i t P A parts added own =
    let whole = own_counted dl first old new i t parts.0 added own parts.2 in
    (whole.0, (parts.0, parts.1, whole.1), whole.2, parts_inhabited first old new parts.3 (own_inhabited dl old new i t added own))

-- types with one type in them, or with several
pub array_counted : (dl : TargetDataLayout) (first old new : List Node) (i count : ℕ) (t : Tree) → IsCounted dl first old t → IsAdded dl old new i (array count t) → IsOwnPut old new i → IsCounted dl first new (array count t)
array_counted dl first old new i count t = whole_counted dl first old new i (array count t) (λ n. HasNodes dl t n) (EachInhabited dl t)

pub vector_counted : (dl : TargetDataLayout) (first old new : List Node) (i lanes : ℕ) (packed : Bool) (t : Tree) → IsCounted dl first old t → IsAdded dl old new i (vector lanes packed t) → IsOwnPut old new i →
    IsCounted dl first new (vector lanes packed t)
vector_counted dl first old new i lanes packed t = whole_counted dl first old new i (vector lanes packed t) (λ n. HasNodes dl t n) (EachInhabited dl t)

pub struct_counted : (dl : TargetDataLayout) (first old new : List Node) (i : ℕ) (repr : ReprOptions) (always_sized : Bool) (order : Option (List ℕ)) (ts : Trees) → AreCounted dl first old ts → IsAdded dl old new i (struct repr always_sized order ts) → IsOwnPut old new i →
    IsCounted dl first new (struct repr always_sized order ts)
struct_counted dl first old new i repr always_sized order ts = whole_counted dl first old new i (struct repr always_sized order ts) (λ n. HaveNodes dl ts n) (AreInhabited dl ts)

pub union_counted : (dl : TargetDataLayout) (first old new : List Node) (i : ℕ) (repr : ReprOptions) (ts : Trees) → AreCounted dl first old ts → IsAdded dl old new i (union repr ts) → IsOwnPut old new i → IsCounted dl first new (union repr ts)
union_counted dl first old new i repr ts = whole_counted dl first old new i (union repr ts) (λ n. HaveNodes dl ts n) (AreInhabited dl ts)

pub enum_counted : (dl : TargetDataLayout) (first old new : List Node) (i : ℕ) (repr : ReprOptions) (all : Variants) → AreVariantsCounted dl first old all → IsAdded dl old new i (enum repr all) → IsOwnPut old new i → IsCounted dl first new (enum repr all)
enum_counted dl first old new i repr all = whole_counted dl first old new i (enum repr all) (λ n. VariantsHaveNodes dl all n) (VariantsInhabited dl all)

coroutine_inhabited : {O M N F A B C : Type 0} → M ↔ (F × A) → O ↔ (M × B) → N ↔ (O × C) → N ↔ (F × (A × B × C))
coroutine_inhabited prefix locals whole = (
  λ all. let here = whole.0 all in let of_locals = locals.0 here.0 in let of_prefix = prefix.0 of_locals.0 in (of_prefix.0, (of_prefix.1, of_locals.1, here.1)),
  λ h. whole.1 (locals.1 (prefix.1 (h.0, h.1.0), h.1.1), h.1.2),
)

pub coroutine_counted : (dl : TargetDataLayout) (first middle old new : List Node) (i : ℕ) (prefix locals : Trees) (states : List (List ℕ)) (pairs : List (ℕ × ℕ)) → AreCounted dl first middle prefix → AreCounted dl middle old locals →
    IsAdded dl old new i (coroutine prefix locals states pairs) → IsOwnPut old new i → IsCounted dl first new (coroutine prefix locals states pairs)
coroutine_counted dl first middle old new i prefix locals states pairs before own_locals added own =
    let whole = own_counted dl first old new i (coroutine prefix locals states pairs) (before.0 + own_locals.0) added own (omega (arith, before.2, own_locals.2)) in (
      whole.0,
      (before.0, before.1, own_locals.0, own_locals.1, whole.1),
      whole.2,
      coroutine_inhabited before.3 own_locals.3 (own_inhabited dl old new i (coroutine prefix locals states pairs) added own),
    )

-- trees and one more
more_nodes : (dl : TargetDataLayout) (ts : List Tree) (t : Tree) (n m : ℕ) → HaveNodes dl (trees ts) n → HasNodes dl t m → HaveNodes dl (trees (ts ++ t ∷ [])) (n + m)
more_nodes dl [] t n m h g = (m, g, 0, refl, omega (arith, h))
more_nodes dl (u ∷ ts) t n m h g = (h.0, h.1, h.2 + m, more_nodes dl ts t h.2 m h.3 g, omega (arith, h.4))

more_inhabited : (dl : TargetDataLayout) (ts : List Tree) (t : Tree) → AreInhabited dl (trees ts) → EachInhabited dl t → AreInhabited dl (trees (ts ++ t ∷ []))
more_inhabited dl [] t h g = (g, tt)
more_inhabited dl (u ∷ ts) t h g = (h.0, more_inhabited dl ts t h.1 g)

one_inhabited : (dl : TargetDataLayout) (ts : List Tree) (t : Tree) → AreInhabited dl (trees (ts ++ t ∷ [])) → AreInhabited dl (trees ts) × EachInhabited dl t
one_inhabited dl [] t h = (tt, h.0)
one_inhabited dl (u ∷ ts) t h = let rest = one_inhabited dl ts t h.1 in ((h.0, rest.0), rest.1)

pub counted_more : (dl : TargetDataLayout) (first old new : List Node) (ts : List Tree) (t : Tree) → AreCounted dl first old (trees ts) → IsCounted dl old new t → AreCounted dl first new (trees (ts ++ t ∷ []))
counted_more dl first old new ts t h g = (
  h.0 + g.0,
  more_nodes dl ts t h.0 g.0 h.1 g.1,
  omega (arith, h.2, g.2),
  (
    λ all. let last = g.3.0 all in let before = h.3.0 last.0 in (before.0, more_inhabited dl ts t before.1 last.1),
    λ each. let parts = one_inhabited dl ts t each.1 in g.3.1 (h.3.1 (each.0, parts.0), parts.1),
  ),
)

-- variants and one more
more_variant_nodes : (dl : TargetDataLayout) (all : List (ℕ × Vec TypeTree Global)) (v : ℕ × Vec TypeTree Global) (n m : ℕ) → VariantsHaveNodes dl (trees_of_variants all) n →
    HaveNodes dl (trees (map tree_of v.1.items)) m → VariantsHaveNodes dl (trees_of_variants (all ++ v ∷ [])) (n + m)
more_variant_nodes dl [] v n m h g = (m, g, 0, refl, omega (arith, h))
more_variant_nodes dl (u ∷ all) v n m h g = (h.0, h.1, h.2 + m, more_variant_nodes dl all v h.2 m h.3 g, omega (arith, h.4))

more_variant_inhabited : (dl : TargetDataLayout) (all : List (ℕ × Vec TypeTree Global)) (v : ℕ × Vec TypeTree Global) → VariantsInhabited dl (trees_of_variants all) →
    AreInhabited dl (trees (map tree_of v.1.items)) → VariantsInhabited dl (trees_of_variants (all ++ v ∷ []))
more_variant_inhabited dl [] v h g = (g, tt)
more_variant_inhabited dl (u ∷ all) v h g = (h.0, more_variant_inhabited dl all v h.1 g)

one_variant_inhabited : (dl : TargetDataLayout) (all : List (ℕ × Vec TypeTree Global)) (v : ℕ × Vec TypeTree Global) → VariantsInhabited dl (trees_of_variants (all ++ v ∷ [])) →
    VariantsInhabited dl (trees_of_variants all) × AreInhabited dl (trees (map tree_of v.1.items))
one_variant_inhabited dl [] v h = (tt, h.0)
one_variant_inhabited dl (u ∷ all) v h = let rest = one_variant_inhabited dl all v h.1 in ((h.0, rest.0), rest.1)

pub variants_counted_more : (dl : TargetDataLayout) (first old new : List Node) (all : List (ℕ × Vec TypeTree Global)) (v : ℕ × Vec TypeTree Global) → AreVariantsCounted dl first old (trees_of_variants all) →
    AreCounted dl old new (trees (map tree_of v.1.items)) → AreVariantsCounted dl first new (trees_of_variants (all ++ v ∷ []))
variants_counted_more dl first old new all v h g = (
  h.0 + g.0,
  more_variant_nodes dl all v h.0 g.0 h.1 g.1,
  omega (arith, h.2, g.2),
  (
    λ unflagged. let last = g.3.0 unflagged in let before = h.3.0 last.0 in (before.0, more_variant_inhabited dl all v before.1 last.1),
    λ each. let parts = one_variant_inhabited dl all v each.1 in g.3.1 (h.3.1 (each.0, parts.0), parts.1),
  ),
)
