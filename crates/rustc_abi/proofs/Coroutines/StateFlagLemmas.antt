-- Layouts that indices name: their sizes, and whether one of them is flagged as one without values.
use Rattle.std.proofs.Common.{◌≡◌, ℕ, zero, suc, ◌<◌, List, [], ◌∷◌, ◌++◌, map, length, Option, Some, None, All, arith, refl, subst, sym, ap, ◌∙◌}
use Rattle.std.specs.Prelude.{Bool, true, false, ◌||◌, cond, filter_map, slice_get, ⊤}
use Rattle.std.specs.List.{cons_option, filter, list_all, list_any}
use Rattle.std.proofs.lemmas.Bool.{and_parts}
use Rattle.std.proofs.lemmas.List.Elements.{All-head, All-tail}
use Rattle.std.proofs.Math.Bool.{or-true}
use Rattle.abi_tree.specs.Placed.{Placed, layout_of, size_of}
use Rattle.abi_scalar.specs.Layout.{Layout}
use Rattle.abi_tree.specs.Nodes.{placed_in}
use Rattle.rustc_abi.proofs.Trees.ListLemmas.{map_sizes}
use Rattle.rustc_abi.proofs.Coroutines.StatePlacesLemmas.{picked_types}

-- the layouts that the indices name
abbrev pub picked_layouts : List Layout → (indices : List ℕ) → List Layout
picked_layouts ls ks = filter_map (slice_get ls) ks

layout_there : (ps : List Placed) (k : ℕ) → k < length ps → slice_get (map layout_of ps) k ≡ Some (layout_of (placed_in ps k))
layout_there [] k below = absurd (omega (arith, below))
layout_there (p ∷ ps) zero below = refl
layout_there (p ∷ ps) (suc k) below = layout_there ps k (omega (arith, below))

-- they are those of the types that the indices name
pub layouts_picked : (ps : List Placed) (ks : List ℕ) → All (λ k. k < length ps) ks → picked_layouts (map layout_of ps) ks ≡ map layout_of (picked_types ps ks)
layouts_picked ps [] known = refl
layouts_picked ps (k ∷ ks) known =
    ap (λ o. cons_option o (picked_layouts (map layout_of ps) ks)) (layout_there ps k (All-head (λ i. i < length ps) k ks known))
    ∙ ap (λ ls. layout_of (placed_in ps k) ∷ ls) (layouts_picked ps ks (All-tail (λ i. i < length ps) k ks known))

-- so are their sizes
pub sizes_picked : (ps : List Placed) (ks : List ℕ) → All (λ k. k < length ps) ks → map (λ (l : Layout). l.size) (picked_layouts (map layout_of ps) ks) ≡ map size_of (picked_types ps ks)
sizes_picked ps ks known = ap (map (λ (l : Layout). l.size)) (layouts_picked ps ks known) ∙ sym (map_sizes layout_of (picked_types ps ks))

-- some layout is flagged
abbrev pub has_flag : List Layout → Bool
has_flag ls = list_any (λ l. l.uninhabited) ls

flag_there : (ls : List Layout) (k : ℕ) (l : Layout) → slice_get ls k ≡ Some l → l.uninhabited ≡ true → has_flag ls ≡ true
flag_there [] k l e set = absurd (cc)
flag_there (m ∷ ls) zero l e set =
    let same : m ≡ l = cc in
    ap (λ (x : Layout). x.uninhabited || has_flag ls) same ∙ ap (λ b. b || has_flag ls) set
flag_there (m ∷ ls) (suc k) l e set = ap (λ b. m.uninhabited || b) (flag_there ls k l e set) ∙ or-true m.uninhabited

-- one of two flags is set
one_of : (P : Type 0) (first rest : Bool) → (first || rest) ≡ true → (first ≡ true → P) → (rest ≡ true → P) → P
one_of P true rest e a b = a refl
one_of P false rest e a b = b e

flag_by : (ls rest : List Layout) (k : ℕ) (o : Option Layout) → slice_get ls k ≡ o → has_flag (cons_option o rest) ≡ true → (has_flag rest ≡ true → has_flag ls ≡ true) → has_flag ls ≡ true
flag_by ls rest k None e set later = later set
flag_by ls rest k (Some l) e set later = one_of (has_flag ls ≡ true) l.uninhabited (has_flag rest) set (λ own. flag_there ls k l e own) later

-- where a layout that an index names is flagged, some layout is
pub flag_picked : (ls : List Layout) (ks : List ℕ) → has_flag (picked_layouts ls ks) ≡ true → has_flag ls ≡ true
flag_picked ls [] set = absurd (cc)
flag_picked ls (k ∷ ks) set = flag_by ls (picked_layouts ls ks) k (slice_get ls k) refl set (λ later. flag_picked ls ks later)

placed_there : (ps : List Placed) (k : ℕ) → k < length ps → slice_get ps k ≡ Some (placed_in ps k)
placed_there [] k below = absurd (omega (arith, below))
placed_there (p ∷ ps) zero below = refl
placed_there (p ∷ ps) (suc k) below = placed_there ps k (omega (arith, below))

-- where one of some of the types that these indices name is flagged, one of all of them is
pub own_flagged : (ps : List Placed) (own : ℕ → Bool) (state : List ℕ) → All (λ l. l < length ps) state → has_flag (map layout_of (filter_map (slice_get ps) (filter own state))) ≡ true
    → has_flag (map layout_of (map (placed_in ps) state)) ≡ true
own_flagged ps own [] known set = absurd (cc)
own_flagged ps own (k ∷ state) known set = by (own k) (own_flagged ps own state (All-tail (λ l. l < length ps) k state known)) set
  where
    rest : List ℕ
    rest = filter own state

    here : Bool
    here = (layout_of (placed_in ps k)).uninhabited

    all : Bool
    all = has_flag (map layout_of (map (placed_in ps) state))

    by : (b : Bool) → (has_flag (map layout_of (filter_map (slice_get ps) rest)) ≡ true → all ≡ true) → has_flag (map layout_of (filter_map (slice_get ps) (cond b (k ∷ rest) rest))) ≡ true → (here || all) ≡ true
    by true later set =
        let first = subst (λ o. has_flag (map layout_of (cons_option o (filter_map (slice_get ps) rest))) ≡ true) (placed_there ps k (All-head (λ l. l < length ps) k state known)) set in
        one_of ((here || all) ≡ true) here (has_flag (map layout_of (filter_map (slice_get ps) rest))) first (λ flag. ap (λ b. b || all) flag) (λ others. ap (λ b. here || b) (later others) ∙ or-true here)
    by false later set = ap (λ b. here || b) (later set) ∙ or-true here

-- each list is flagged where a layout is that its indices name
abbrev pub HaveOwnFlags : List Layout → (indices : List (List ℕ)) → (lists : List Layout) → Type 0
HaveOwnFlags ls [] [] = ⊤
HaveOwnFlags ls (ks ∷ all) (list ∷ lists) = (list.uninhabited ≡ has_flag (picked_layouts ls ks)) × HaveOwnFlags ls all lists
HaveOwnFlags ls _ _ = ⊥

-- where each list is flagged, and there is one, some layout is
flag_of_lists : (ls : List Layout) (all : List (List ℕ)) (lists : List Layout) → HaveOwnFlags ls all lists → 0 < length lists → list_all (λ (l : Layout). l.uninhabited) lists ≡ true → has_flag ls ≡ true
flag_of_lists ls all [] own some set = absurd (omega (arith, some))
flag_of_lists ls [] (list ∷ lists) own some set = absurd own
flag_of_lists ls (ks ∷ all) (list ∷ lists) own some set =
    flag_picked ls ks (sym own.0 ∙ (and_parts list.uninhabited (list_all (λ (l : Layout). l.uninhabited) lists) set).0)

-- beside others, a layout that isn't flagged says nothing
flag_around : (before : List Layout) (l : Layout) (behind : List Layout) → l.uninhabited ≡ false → has_flag (before ++ l ∷ behind) ≡ (has_flag before || has_flag behind)
flag_around [] l behind clear = ap (λ b. b || has_flag behind) clear
flag_around (m ∷ before) l behind clear = grouped m.uninhabited (has_flag (before ++ l ∷ behind)) (has_flag before) (has_flag behind) (flag_around before l behind clear)
  where
    grouped : (a rest b c : Bool) → rest ≡ (b || c) → (a || rest) ≡ ((a || b) || c)
    grouped true rest b c e = refl
    grouped false rest b c e = e

or_grouped : (a b c : Bool) → ((a || b) || c) ≡ (a || (b || c))
or_grouped true b c = refl
or_grouped false b c = refl

-- A coroutine is flagged where a prefix field is, and else only where a local is.
pub record IsFlaggedBy (prefix locals : List Layout) (flag : Bool) : Type 0 where
  pub other : Bool
  pub is : flag ≡ (has_flag prefix || other)
  pub of_local : other ≡ true → has_flag locals ≡ true

-- so it is where its first list has the prefix fields, the tag and some locals, and each other list some locals
pub flagged_by : (prefix : List Layout) (field : Layout) (locals : List Layout) (promoted : List ℕ) (all : List (List ℕ)) (lists : List Layout) (first : Bool) → field.uninhabited ≡ false →
    first ≡ has_flag (prefix ++ field ∷ picked_layouts locals promoted) → 0 < length lists → HaveOwnFlags locals all lists →
    IsFlaggedBy prefix locals (first || list_all (λ (l : Layout). l.uninhabited) lists)
flagged_by prefix field locals promoted all lists first clear e some own = record {
  other = has_flag (picked_layouts locals promoted) || list_all (λ (l : Layout). l.uninhabited) lists;
  is =
      ap (λ b. b || list_all (λ (l : Layout). l.uninhabited) lists) (e ∙ flag_around prefix field (picked_layouts locals promoted) clear)
      ∙ or_grouped (has_flag prefix) (has_flag (picked_layouts locals promoted)) (list_all (λ (l : Layout). l.uninhabited) lists);
  of_local = λ set. one_of (has_flag locals ≡ true) (has_flag (picked_layouts locals promoted)) (list_all (λ (l : Layout). l.uninhabited) lists) set
      (λ one. flag_picked locals promoted one) (λ each. flag_of_lists locals all lists own some each);
}
