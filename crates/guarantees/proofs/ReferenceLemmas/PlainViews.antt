-- How types that were laid out are seen: none is a vector whose length the machine decides, and vectors have bytes.
use Rattle.std.proofs.Common.{◌≡◌, ℕ, ◌*◌, ◌≤◌, true, List, [], ◌∷◌, Option, Some, length, map, refl, sym, ap, ◌∙◌, subst, arith, inl, inr, ⊎_elim, Ok}
use Rattle.std.specs.Prelude.{◌==◌, All, max, nat_lt}
use Rattle.std.proofs.lemmas.List.{length-map, map-id}
use Rattle.std.proofs.lemmas.List.Elements.{All-cons, All-contains, All-map, All-nil}
use Rattle.abi_base.specs.declared.data_layout.TargetDataLayout.{TargetDataLayout}
use Rattle.abi_base.specs.declared.niche_optimizations.NicheOptimizations.TheVariants.{Enabled}
use Rattle.abi_base.specs.declared.struct_kind.StructKind.TheVariants.{AlwaysSized}
use Rattle.abi_base.specs.DataLayout.{size_bound}
use Rattle.abi_scalar.specs.declared.backend_repr.BackendRepr.{BackendRepr}
use Rattle.abi_scalar.specs.declared.backend_repr.BackendRepr.TheVariants.{Scalar as OneScalar, ScalarPair, SimdScalableVector, SimdVector, Memory}
use Rattle.abi_scalar.specs.declared.repr.ReprOptions.{ReprOptions}
use Rattle.abi_scalar.specs.declared.scalar.Scalar.{Scalar}
use Rattle.abi_scalar.specs.Lawful.{IsLawfulLayout, IsLawfulView}
use Rattle.abi_scalar.specs.Simple.{never_layout}
use Rattle.abi_scalar.specs.View.{union_view}
use Rattle.abi_univariant.specs.Array.{elements_layout}
use Rattle.abi_univariant.specs.Simd.{simd_answer}
use Rattle.abi_univariant.specs.Fields.{greatest_size}
use Rattle.abi_univariant.specs.Union.{CountsForView, HasView, KeepsView, union_align}
use Rattle.abi_scalar.specs.Pair.{pair_size}
use Rattle.abi_calc.specs.declared.enums.strategy.EnumStrategy.{EnumStrategy}
use Rattle.abi_calc.specs.declared.enums.strategy.EnumStrategy.TheVariants.{NoValue, OneList, Several}
use Rattle.abi_calc.specs.declared.enums.payload.Payload.{Payload}
use Rattle.abi_calc.specs.declared.enums.payload.Payload.TheVariants.{Nothing, One, Other}
use Rattle.abi_calc.specs.Enums.Answer.{IsTypeAnswer}
use Rattle.abi_calc.specs.Enums.Choice.{IsNicheAnswer}
use Rattle.abi_calc.specs.Enums.Lists.{AreListLayouts}
use Rattle.abi_calc.specs.Enums.Niche.{needing_numbers, span_of, untagged_of, view_with}
use Rattle.abi_calc.specs.Enums.EnumStrategy.{strategy_of, variant_at}
use Rattle.abi_calc.specs.Enums.Payload.{beside_tag, common_of, tagged_view}
use Rattle.abi_calc.specs.Enums.Several.{IsAskedAnswer}
use Rattle.abi_calc.specs.Enums.Growth.{grown_tag, start_align}
use Rattle.abi_calc.specs.Enums.Tagged.{lists_align, lists_size, payloads_of}
use Rattle.abi_base.specs.declared.integer.Integer.{Integer}
use Rattle.abi_base.specs.declared.primitive.Primitive.TheVariants.{Int}
use Rattle.abi_base.specs.Integer.{integer_size}
use Rattle.abi_scalar.specs.declared.scalar.Scalar.TheVariants.{Initialized}
use Rattle.abi_scalar.specs.Scalar.{primitive_of, scalar_size}
use Rattle.abi_tree.specs.Placed.{Placed, layout_of, size_of, vector as placed_vector}
use Rattle.abi_scalar.specs.Layout.{Layout}
use Rattle.abi_tree.specs.Tree.{Tree, Trees, no_trees, more_trees, scalar, pair, never, unit, array, vector, struct, union, enum, coroutine}
use Rattle.rustc_abi.specs.Enums.{IsEnumed, IsTagIntegerAnswer as IsAsking, discriminants_of, layouts_of, numbered_from}
use Rattle.abi_tree.specs.Nodes.{parts_at, parts_at_0}
use Rattle.rustc_abi.specs.Everywhere.{OfEach, Within}
use Rattle.rustc_abi.specs.Laying.{AreLaying, IsLaying, IsUnited, enum_fault, fields_fault, one_scalar, placed_enum, placed_together, lanes_of}
use Rattle.rustc_abi.specs.ScalarFault.{scalar_fault}
use Rattle.guarantees.proofs.ReferenceLemmas.Answers.{faultless, inj-Ok, laid_by}
use Rattle.guarantees.proofs.ReferenceLemmas.Arrays.{elements_there}
use Rattle.guarantees.proofs.ReferenceLemmas.Beside.{two_faultless}
use Rattle.abi_univariant.proofs.Offsets.Rounding.{rounded_to}
use Rattle.guarantees.proofs.ReferenceLemmas.Several.{several_is}
use Rattle.guarantees.proofs.ReferenceLemmas.ZeroOut.{some_bytes}
use Rattle.guarantees.proofs.ReferenceLemmas.Variants.{better_has, inj-answer, no_layout, of_span}
use Rattle.guarantees.proofs.ReferenceLemmas.Views.{IsPlain, IsSeenSized, at_index, coroutine_there, each_sized, layout_of_answer, layout_there, plain_answer, plain_either, plain_pair, struct_plain, struct_seen, variants_sized, vector_is}

-- ---- and seen as a list of such types is

-- A vector has bytes, where its element is lawful.
module _ (dl : TargetDataLayout) where
  abbrev IsLawful : Tree → Placed → Type 0
  IsLawful t p = IsLawfulLayout dl (layout_of p)

  abbrev pub IsSeenPlain : Placed → Type 0
  IsSeenPlain p = IsPlain (layout_of p).backend_repr (size_of p)

  -- what isn't sized bytes is no vector either, where it is no vector
  plain_union : (view : BackendRepr) (size own : ℕ) → IsPlain view size → size ≤ own → IsPlain (union_view view) own
  plain_union (OneScalar s) size own h le = tt
  plain_union (ScalarPair a b offset) size own h le = tt
  plain_union (SimdVector element count) size own h le = omega (arith, h, le)
  plain_union (SimdScalableVector element count vectors) size own h le = absurd h
  plain_union (Memory sized) size own h le = refl

  plain_with : (offset : ℕ) (tag : Scalar) (view : BackendRepr) (size : ℕ) → IsPlain (view_with offset tag view) size
  plain_with offset tag (OneScalar s) size = tt
  plain_with offset tag (ScalarPair a b b_offset) size = plain_either (offset == 0) (ScalarPair tag _ b_offset) (ScalarPair _ tag b_offset) size tt tt
  plain_with offset tag _ size = refl

  -- ---- enums

  plain_niche : (repr : ReprOptions) (variants : List (List Placed)) (found : Option Layout) (n : Layout) → found ≡ Some n
      → IsNicheAnswer AreListLayouts layout_of (λ i. i) (λ i. i) dl repr variants found → IsPlain n.backend_repr n.size
  plain_niche repr variants found n is (inl h) = absurd (no_layout n (sym h.1 ∙ is))
  plain_niche repr variants found n is (inr (inl h)) = absurd (no_layout n (sym h.3 ∙ is))
  plain_niche repr variants found n is (inr (inr (free, lists, are, e))) =
      of_span dl repr (untagged_of lists) lists (λ l. IsPlain l.backend_repr l.size)
      (λ span list niche vs made. plain_either _ _ (Memory true) (lists_size dl lists) (plain_with niche.offset _ list.backend_repr (lists_size dl lists)) refl)
      (span_of (needing_numbers (untagged_of lists) (layouts_of variants))) n (sym e ∙ is)

  plain_beside : (tag : Scalar) (size align : ℕ) (payload : Payload) → IsPlain (beside_tag dl tag size align payload) size
  plain_beside tag size align Nothing = refl
  plain_beside tag size align (One s offset) = plain_pair dl size align 0 tag offset s
  plain_beside tag size align Other = refl

  plain_tagged : (tag : Scalar) (size align : ℕ) (payloads : List Payload) → IsPlain (tagged_view dl tag size align payloads) size
  plain_tagged tag size align payloads =
      plain_either (scalar_size dl tag == size) (OneScalar tag) (beside_tag dl tag size align (common_of dl payloads)) size tt
      (plain_beside tag size align (common_of dl payloads))

  plain_asked : (repr : ReprOptions) (values : List ℕ) (variants : List (List Placed)) (l : Layout)
      → IsAskedAnswer layout_of (λ i. i) (λ i. i) 0 dl repr (IsAsking dl repr) values variants (Ok l) → IsPlain l.backend_repr l.size
  plain_asked repr values variants l (asked, signed, for, (lists, are, by)) =
      let grown : Integer = grown_tag dl repr asked (start_align (λ i. i) (layouts_of variants) lists) in
      subst (λ (k : Layout). IsPlain k.backend_repr k.size) (sym by.ranged.2)
      (plain_tagged (Initialized (Int grown signed) by.ranged.0) (lists_size dl lists) (lists_align dl lists)
      (payloads_of dl (integer_size asked) (integer_size grown) (layouts_of variants) lists))

  plain_path : (repr : ReprOptions) (numbers : List ℕ) (strategy : EnumStrategy) (variants : List (List Placed)) (layout : Layout) → All (All IsSeenSized) variants
      → IsTypeAnswer layout_of (λ i. i) (λ i. i) (λ i. i) (λ i. i) dl repr variants true true Enabled (IsAsking dl repr) (λ items. items ≡ numbered_from 0 numbers) strategy (Ok layout)
      → IsPlain layout.backend_repr layout.size
  plain_path repr numbers NoValue variants layout all e =
      subst (λ (k : Layout). IsPlain k.backend_repr k.size) (sym (inj-answer layout (never_layout dl) e)) refl
  plain_path repr numbers (OneList i) variants layout all e =
      subst (λ (k : Layout). IsPlain k.backend_repr k.size) (sym e.2) (plain_answer dl repr AlwaysSized (variant_at variants i) e.0 (at_index dl variants i all) e.1)
  plain_path repr numbers Several variants layout all e =
      let b = several_is dl repr numbers variants layout e in
      subst (λ (k : Layout). IsPlain k.backend_repr k.size) (sym b.is)
      (better_has dl (λ l. IsPlain l.backend_repr l.size) b.tagged b.niche (plain_asked repr _ variants b.tagged b.asked)
      (λ n some. plain_niche repr variants b.niche n some b.beside))

  -- ---- unions

  all_below : (ls : List Layout) → All (λ (l : Layout). l.size ≤ greatest_size ls) ls
  all_below [] = All-nil (λ (l : Layout). l.size ≤ 0)
  all_below (l ∷ ls) =
      All-cons (λ (k : Layout). k.size ≤ max l.size (greatest_size ls)) l ls (omega arith) (λ k d lt. omega (arith, all_below ls k d lt))

  plain_together : (repr : ReprOptions) (layouts : List Layout) (view : BackendRepr) (size : ℕ) → greatest_size layouts ≤ size
      → All (λ (l : Layout). IsPlain l.backend_repr l.size) layouts → KeepsView dl repr layouts view → IsPlain view size
  plain_together repr layouts view size le all h =
      let c = h.common.1 in
      let f : Layout = c.some.0 in
      let own = All-contains (λ l. CountsForView l → HasView view h.common.0 l) layouts f c.all c.some.1 in
      let plain : IsPlain f.backend_repr f.size = All-contains (λ (l : Layout). IsPlain l.backend_repr l.size) layouts f all c.some.1 in
      let small : f.size ≤ greatest_size layouts = All-contains (λ (l : Layout). l.size ≤ greatest_size layouts) layouts f (all_below layouts) c.some.1 in
      subst (λ v. IsPlain v size) (own c.some.2).0 (plain_union f.backend_repr f.size size plain (omega (arith, small, le)))

  -- ---- each type

  mutual
    pub plain : (t : Tree) (p : Placed) → IsLaying dl t (Ok p) → Within dl IsLawful t p → IsSeenPlain p
    plain (scalar s) p h inside = subst IsSeenPlain (sym (faultless (one_scalar dl s) p (scalar_fault dl s) h)) tt
    plain (pair a b) p h inside =
        subst IsSeenPlain (sym (two_faultless dl a b p (scalar_fault dl a) (scalar_fault dl b) (nat_lt (pair_size dl a b) (size_bound dl)) h)) tt
    plain never p h inside = subst IsSeenPlain (sym (inj-Ok p _ h)) refl
    plain unit p h inside = subst IsSeenPlain (sym (inj-Ok p _ h)) refl
    plain (array count element) p (inl f) inside = absurd (cc f.2)
    plain (array count element) p (inr (q, there, e)) inside =
        subst IsSeenPlain (elements_there (nat_lt (size_of q * count) (size_bound dl)) count (elements_layout 0 true count (layout_of q)) q p e) refl
    plain (vector lanes packed element) p (inl f) inside = absurd (cc f.2)
    plain (vector lanes packed element) p (inr (q, there, e)) inside =
        let l = layout_of_answer dl (simd_answer (λ (l : Layout). l) 0 0 dl (layout_of q) lanes packed) p (λ layout. placed_vector layout (lanes_of lanes q)) e in
        let v = vector_is dl lanes packed q l.0 l.1 in
        let inner : Within dl IsLawful (vector lanes packed element) (placed_vector l.0 (lanes_of lanes q)) = subst (Within dl IsLawful (vector lanes packed element)) l.2 inside in
        let own : IsLawfulLayout dl (layout_of q) = inner.0 in
        let whole = subst (IsLawfulView dl (size_of q)) v.is own.view in
        let bytes : 1 ≤ scalar_size dl v.element = some_bytes dl (primitive_of v.element) whole.0.pointer in
        subst IsSeenPlain (sym l.2) (v.plain (omega (arith, bytes, whole.1)))
    plain (struct repr always_sized order all) p h inside =
        let s = struct_seen dl repr always_sized order all p h in struct_plain dl repr all p s (each_sized dl all s.fields s.are)
    plain (union repr all) p (inl f) inside = absurd (cc f.2)
    plain (union repr all) p (inr (ps, there, answer)) inside =
        let found = laid_by (fields_fault repr ps) (IsUnited dl repr (map layout_of ps)) (placed_together repr ps) p answer in
        let layouts : List Layout = map (λ l. l) (map layout_of ps) in
        let own : OfEach dl IsLawful all (parts_at_0 ps) = subst (Within dl IsLawful (union repr all)) (sym found.2) inside in
        let each : All IsSeenPlain ps = each_plain all (map {B = ℕ} (λ q. 0) ps) ps (length-map {B = ℕ} ps (λ q. 0)) there own in
        let views : All (λ (l : Layout). IsPlain l.backend_repr l.size) layouts =
        subst (All (λ (l : Layout). IsPlain l.backend_repr l.size)) (sym (map-id (map layout_of ps))) (All-map (λ (l : Layout). IsPlain l.backend_repr l.size) layout_of ps each) in
        let above : greatest_size layouts ≤ found.0.size =
        subst (λ n. greatest_size layouts ≤ n) (sym (ap (λ (l : Layout). l.size) found.1.2)) (rounded_to (greatest_size layouts) (union_align dl repr layouts)).above in
        subst IsSeenPlain found.2
        (⊎_elim (λ (k : KeepsView dl repr layouts found.0.backend_repr). plain_together repr layouts found.0.backend_repr found.0.size above views k)
        (λ k. subst (λ v. IsPlain v found.0.size) (sym k.0) refl) found.1.1)
    plain (enum repr all) p (inl f) inside = absurd (cc f.2)
    plain (enum repr all) p (inr (variants, there, answer)) inside =
        let numbers = discriminants_of all in
        let found = laid_by (enum_fault dl repr numbers variants) (IsEnumed dl repr numbers variants) (placed_enum dl repr numbers variants) p answer in
        subst IsSeenPlain found.2
        (subst (λ (l : Layout). IsPlain l.backend_repr l.size) (sym (layout_there dl repr numbers variants found.0 found.0.variants))
        (plain_path repr numbers (strategy_of true repr (layouts_of variants)) variants found.0 (variants_sized dl all variants there) found.1))
    plain (coroutine prefix locals states conflicts) p (inl f) inside = absurd (cc f.2)
    plain (coroutine prefix locals states conflicts) p (inr (pres, there, inl f)) inside = absurd (cc f.2)
    plain (coroutine prefix locals states conflicts) p (inr (pres, there, inr (ps, here, answer))) inside =
        subst (λ v. IsPlain v (size_of p)) (sym (coroutine_there dl pres ps states conflicts p answer)) refl

    pub each_plain : (ts : Trees) (os : List ℕ) (ps : List Placed) → length os ≡ length ps → AreLaying dl ts (Ok ps) → OfEach dl IsLawful ts (parts_at os ps) → All IsSeenPlain ps
    each_plain no_trees os [] e h inside = All-nil IsSeenPlain
    each_plain no_trees os (p ∷ ps) e h inside = absurd (cc h)
    each_plain (more_trees t ts) os ps e (inl f) inside = absurd (cc f.2)
    each_plain (more_trees t ts) os ps e (inr (q, here, inl f)) inside = absurd (cc f.2)
    each_plain (more_trees t ts) os [] e (inr (q, here, inr (rest, later, is))) inside = absurd (cc)
    each_plain (more_trees t ts) [] (p ∷ ps) e (inr (q, here, inr (rest, later, is))) inside = absurd (omega (arith, e))
    each_plain (more_trees t ts) (o ∷ os) (p ∷ ps) e (inr (q, here, inr (rest, later, is))) inside =
        let first : q ≡ p = cc in
        let more : rest ≡ ps = cc in
        All-cons IsSeenPlain p ps (plain t p (subst (λ x. IsLaying dl t (Ok x)) first here) inside.0.1)
        (each_plain ts os ps (omega (arith, e)) (subst (λ xs. AreLaying dl ts (Ok xs)) more later) inside.1)
