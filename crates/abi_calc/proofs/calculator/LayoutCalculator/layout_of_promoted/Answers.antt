-- The lists have layouts, and the whole is what they make.
use Rattle.std.proofs.Common.{◌≡◌, ◌≢◌, ◌+◌, ◌<◌, ◌≤◌, ◌∙◌, ap, arith, length, map, subst, sym}
use Rattle.std.specs.Prelude.{◌⊎◌, All, IfErr, IfOk}
use Rattle.std.specs.List.{AllPairs}
use Rattle.std.proofs.lemmas.List.{length-map}
use Rattle.std.proofs.lemmas.List.Elements.{All-map, All-weaker}
use Rattle.abi_base.specs.declared.struct_kind.StructKind.TheVariants.{AlwaysSized}
use Rattle.abi_base.specs.DataLayout.{size_bound}
use Rattle.abi_index.specs.BitSet.{members_of}
use Rattle.abi_scalar.specs.declared.error.LayoutCalculatorError.TheVariants.{OutOfMemory, SizeOverflow}
use Rattle.abi_univariant.specs.List.{IsUnivariantError}
use Rattle.abi_calc.specs.Coroutine.Layout.{IsStateTag, coroutine_layout, whole_size}
use Rattle.abi_calc.specs.Coroutine.Lists.{state_list_kind, default_repr, first_list}
use Rattle.abi_calc.specs.Coroutine.Sizes.{own_lists}
use Rattle.abi_calc.specs.Enums.Lists.{AreGoodLists, IsFirstListError, IsGoodList}
use Rattle.abi_calc.proofs.CoroutineLemmas.Promised.{IsAsked, first_count, first_lawful, first_promised, good_fields, good_own_fields, memory_sized, own_promised, whole_promised}
use Rattle.abi_calc.proofs.CoroutineLemmas.States.{members_few}
use Rattle.abi_calc.proofs.EnumLemmas.Lists.{good_lawful}
use Rattle.abi_calc.proofs.CoroutineLemmas.Apart.{told_promised}
use Rattle.abi_calc.proofs.CoroutineLemmas.Shared.{apart_promised}
use Rattle.abi_calc.proofs.calculator.LayoutCalculator.layout_of_promoted.Goals as goal

pub list_of_variant-requires-clause-fields : goal.list_of_variant-requires-clause-fields
list_of_variant-requires-clause-fields g c =
    let asked : IsAsked g.F.LayoutHandle.layout_of (g.VariantIdx.Idx.at 0) (g.Cx.HasDataLayout.target c.args.self.now.cx) c.args.prefix c.args.tag c.args.field c.args.locals.now (map (map g.LocalIdx.Idx.number) c.args.states.now) = record {
      law = c.requires.data_layout;
      before = c.requires.prefix;
      all = c.requires.locals;
      is_state_tag = subst (λ n. IsStateTag n c.args.tag) (sym (length-map c.args.states.now (map g.LocalIdx.Idx.number))) c.requires.tag;
      holds = c.requires.field;
    } in
    rw c.in_ok-fields.ensures (first_lawful g.F.LayoutHandle.layout_of g.FieldIdx.Idx.at g.FieldIdx.Idx.number (g.VariantIdx.Idx.at 0) (g.Cx.HasDataLayout.target c.args.self.now.cx) c.args.prefix c.args.tag c.args.field c.args.locals.now (map (map g.LocalIdx.Idx.number) c.args.states.now) c.args.promoted.now asked)

pub returns-in_err-fields-clause-sized : goal.returns-in_err-fields-clause-sized
returns-in_err-fields-clause-sized g c = memory_sized _ _ _ _ _ _ c.from_residual.result c.from_residual.ensures.1

pub returns-in-Err : goal.returns-in-Err
returns-in-Err g c =
    let asked : IsAsked g.F.LayoutHandle.layout_of (g.VariantIdx.Idx.at 0) (g.Cx.HasDataLayout.target c.args.self.now.cx) c.args.prefix c.args.tag c.args.field c.args.locals.now (map (map g.LocalIdx.Idx.number) c.args.states.now) = record {
      law = c.requires.data_layout;
      before = c.requires.prefix;
      all = c.requires.locals;
      is_state_tag = subst (λ n. IsStateTag n c.args.tag) (sym (length-map c.args.states.now (map g.LocalIdx.Idx.number))) c.requires.tag;
      holds = c.requires.field;
    } in
    let fault : IsUnivariantError g.F.LayoutHandle.layout_of (g.Cx.HasDataLayout.target c.args.self.now.cx) default_repr AlwaysSized (first_list c.args.prefix c.args.field c.args.locals.now c.args.promoted.now) c.in-Err.error ⊎ (c.in-Err.error ≡ OutOfMemory)
    = subst (λ fs. IsUnivariantError g.F.LayoutHandle.layout_of (g.Cx.HasDataLayout.target c.args.self.now.cx) default_repr AlwaysSized fs c.in-Err.error ⊎ (c.in-Err.error ≡ OutOfMemory)) c.in_ok-fields.ensures
    (subst (λ r. IsUnivariantError g.F.LayoutHandle.layout_of (g.Cx.HasDataLayout.target c.args.self.now.cx) r AlwaysSized c.in_ok-fields.fields c.in-Err.error ⊎ (c.in-Err.error ≡ OutOfMemory)) c.default_repr.ensures c.in-Err.ensures.fault) in
    let p = first_promised g.F.LayoutHandle.layout_of g.FieldIdx.Idx.at g.FieldIdx.Idx.number (g.VariantIdx.Idx.at 0) (g.Cx.HasDataLayout.target c.args.self.now.cx) c.args.prefix c.args.tag c.args.field c.args.locals.now (map (map g.LocalIdx.Idx.number) c.args.states.now) c.args.promoted.now asked c.in-Err.error fault in
    record {
      exact = p.exact;
      lawful = p.lawful;
      tag_distinguishes = tt;
      apart = λ conflicts by. tt;
      sized = p.sized;
    }

pub returns-in-Err-lists_of_own : goal.returns-in-Err-lists_of_own
returns-in-Err-lists_of_own g c =
    let asked : IsAsked g.F.LayoutHandle.layout_of (g.VariantIdx.Idx.at 0) (g.Cx.HasDataLayout.target c.args.self.now.cx) c.args.prefix c.args.tag c.args.field c.args.locals.now (map (map g.LocalIdx.Idx.number) c.args.states.now) = record {
      law = c.requires.data_layout;
      before = c.requires.prefix;
      all = c.requires.locals;
      is_state_tag = subst (λ n. IsStateTag n c.args.tag) (sym (length-map c.args.states.now (map g.LocalIdx.Idx.number))) c.requires.tag;
      holds = c.requires.field;
    } in
    let good : IsGoodList g.F.LayoutHandle.layout_of g.FieldIdx.Idx.at (g.VariantIdx.Idx.at 0) (g.Cx.HasDataLayout.target c.args.self.now.cx) default_repr AlwaysSized (first_list c.args.prefix c.args.field c.args.locals.now c.args.promoted.now) c.in-Ok.first
    = subst (λ fs. IsGoodList g.F.LayoutHandle.layout_of g.FieldIdx.Idx.at (g.VariantIdx.Idx.at 0) (g.Cx.HasDataLayout.target c.args.self.now.cx) default_repr AlwaysSized fs c.in-Ok.first) c.in_ok-fields.ensures
    (subst (λ r. IsGoodList g.F.LayoutHandle.layout_of g.FieldIdx.Idx.at (g.VariantIdx.Idx.at 0) (g.Cx.HasDataLayout.target c.args.self.now.cx) r AlwaysSized c.in_ok-fields.fields c.in-Ok.first) c.default_repr.ensures c.in-Ok.ensures.good) in
    let fault : IsFirstListError g.F.LayoutHandle.layout_of g.FieldIdx.Idx.at (g.VariantIdx.Idx.at 0) (g.Cx.HasDataLayout.target c.args.self.now.cx) default_repr (state_list_kind c.in-Ok.first) (own_lists c.args.locals.now c.args.promoted.now (map (map g.LocalIdx.Idx.number) c.args.states.now)) c.in-Err-lists_of_own.error ⊎ (c.in-Err-lists_of_own.error ≡ OutOfMemory)
    = subst (λ k. IsFirstListError g.F.LayoutHandle.layout_of g.FieldIdx.Idx.at (g.VariantIdx.Idx.at 0) (g.Cx.HasDataLayout.target c.args.self.now.cx) default_repr k (own_lists c.args.locals.now c.args.promoted.now (map (map g.LocalIdx.Idx.number) c.args.states.now)) c.in-Err-lists_of_own.error ⊎ (c.in-Err-lists_of_own.error ≡ OutOfMemory)) c.state_list_kind-kind.ensures c.in-Err-lists_of_own.ensures.fault in
    let p = own_promised g.F.LayoutHandle.layout_of g.FieldIdx.Idx.at g.FieldIdx.Idx.number (g.VariantIdx.Idx.at 0) (g.Cx.HasDataLayout.target c.args.self.now.cx) c.args.prefix c.args.tag c.args.field c.args.locals.now (map (map g.LocalIdx.Idx.number) c.args.states.now) c.args.promoted.now asked c.in-Ok.first good c.in-Err-lists_of_own.error fault in
    record {
      exact = p.exact;
      lawful = p.lawful;
      tag_distinguishes = tt;
      apart = λ conflicts by. tt;
      sized = p.sized;
    }

pub layout_of_lists-requires-clause-prefix : goal.layout_of_lists-requires-clause-prefix
layout_of_lists-requires-clause-prefix g c = omega (arith, members_few c.args.promoted.now, c.requires.same, c.requires.count, c.len-count.ensures.count)

pub layout_of_lists-requires-clause-first : goal.layout_of_lists-requires-clause-first
layout_of_lists-requires-clause-first g c =
    let good : IsGoodList g.F.LayoutHandle.layout_of g.FieldIdx.Idx.at (g.VariantIdx.Idx.at 0) (g.Cx.HasDataLayout.target c.args.self.now.cx) default_repr AlwaysSized (first_list c.args.prefix c.args.field c.args.locals.now c.args.promoted.now) c.in-Ok.first
    = subst (λ fs. IsGoodList g.F.LayoutHandle.layout_of g.FieldIdx.Idx.at (g.VariantIdx.Idx.at 0) (g.Cx.HasDataLayout.target c.args.self.now.cx) default_repr AlwaysSized fs c.in-Ok.first) c.in_ok-fields.ensures
    (subst (λ r. IsGoodList g.F.LayoutHandle.layout_of g.FieldIdx.Idx.at (g.VariantIdx.Idx.at 0) (g.Cx.HasDataLayout.target c.args.self.now.cx) r AlwaysSized c.in_ok-fields.fields c.in-Ok.first) c.default_repr.ensures c.in-Ok.ensures.good) in
    let many : length (first_list c.args.prefix c.args.field c.args.locals.now c.args.promoted.now) ≡ c.len-count.result + 1 + length (members_of c.args.promoted.now)
    = first_count c.args.prefix c.args.field c.args.locals.now c.args.promoted.now c.requires.same ∙ ap (λ n. n + 1 + length (members_of c.args.promoted.now)) (sym c.len-count.ensures.count) in
    good_fields g.F.LayoutHandle.layout_of g.FieldIdx.Idx.at g.FieldIdx.Idx.number g.FieldIdx.Idx.MAX_INDEX g.met.FieldIdx.Idx.number_at (g.VariantIdx.Idx.at 0) (g.Cx.HasDataLayout.target c.args.self.now.cx) AlwaysSized (first_list c.args.prefix c.args.field c.args.locals.now c.args.promoted.now) c.in-Ok.first (c.len-count.result + 1 + length (members_of c.args.promoted.now))
    many (omega (arith, c.in-Ok.ensures.within, ap length c.in_ok-fields.ensures)) good

pub layout_of_lists-requires-clause-lists : goal.layout_of_lists-requires-clause-lists
layout_of_lists-requires-clause-lists g c =
    let others : AreGoodLists g.F.LayoutHandle.layout_of g.FieldIdx.Idx.at (g.VariantIdx.Idx.at 0) (g.Cx.HasDataLayout.target c.args.self.now.cx) default_repr (state_list_kind c.in-Ok.first) (own_lists c.args.locals.now c.args.promoted.now (map (map g.LocalIdx.Idx.number) c.args.states.now)) c.in-Ok-lists_of_own.lists
    = subst (λ k. AreGoodLists g.F.LayoutHandle.layout_of g.FieldIdx.Idx.at (g.VariantIdx.Idx.at 0) (g.Cx.HasDataLayout.target c.args.self.now.cx) default_repr k (own_lists c.args.locals.now c.args.promoted.now (map (map g.LocalIdx.Idx.number) c.args.states.now)) c.in-Ok-lists_of_own.lists) c.state_list_kind-kind.ensures c.in-Ok-lists_of_own.ensures.good in
    good_own_fields g.F.LayoutHandle.layout_of g.FieldIdx.Idx.at g.FieldIdx.Idx.number g.FieldIdx.Idx.MAX_INDEX g.met.FieldIdx.Idx.number_at (g.VariantIdx.Idx.at 0) (g.Cx.HasDataLayout.target c.args.self.now.cx) (state_list_kind c.in-Ok.first) g.LocalIdx.Idx.number c.args.locals.now c.args.promoted.now c.args.states.now c.in-Ok-lists_of_own.lists
    c.requires.within c.in-Ok-lists_of_own.ensures.within others

pub layout_of_lists-requires-clause-lawful : goal.layout_of_lists-requires-clause-lawful
layout_of_lists-requires-clause-lawful g c =
    let others : AreGoodLists g.F.LayoutHandle.layout_of g.FieldIdx.Idx.at (g.VariantIdx.Idx.at 0) (g.Cx.HasDataLayout.target c.args.self.now.cx) default_repr (state_list_kind c.in-Ok.first) (own_lists c.args.locals.now c.args.promoted.now (map (map g.LocalIdx.Idx.number) c.args.states.now)) c.in-Ok-lists_of_own.lists
    = subst (λ k. AreGoodLists g.F.LayoutHandle.layout_of g.FieldIdx.Idx.at (g.VariantIdx.Idx.at 0) (g.Cx.HasDataLayout.target c.args.self.now.cx) default_repr k (own_lists c.args.locals.now c.args.promoted.now (map (map g.LocalIdx.Idx.number) c.args.states.now)) c.in-Ok-lists_of_own.lists) c.state_list_kind-kind.ensures c.in-Ok-lists_of_own.ensures.good in
    rw c.data_layout-dl.ensures (good_lawful g.F.LayoutHandle.layout_of g.FieldIdx.Idx.at (g.VariantIdx.Idx.at 0) (g.Cx.HasDataLayout.target c.args.self.now.cx) default_repr (state_list_kind c.in-Ok.first) (own_lists c.args.locals.now c.args.promoted.now (map (map g.LocalIdx.Idx.number) c.args.states.now)) c.in-Ok-lists_of_own.lists others)

pub returns : goal.returns
returns g c =
    let asked : IsAsked g.F.LayoutHandle.layout_of (g.VariantIdx.Idx.at 0) (g.Cx.HasDataLayout.target c.args.self.now.cx) c.args.prefix c.args.tag c.args.field c.args.locals.now (map (map g.LocalIdx.Idx.number) c.args.states.now) = record {
      law = c.requires.data_layout;
      before = c.requires.prefix;
      all = c.requires.locals;
      is_state_tag = subst (λ n. IsStateTag n c.args.tag) (sym (length-map c.args.states.now (map g.LocalIdx.Idx.number))) c.requires.tag;
      holds = c.requires.field;
    } in
    let good : IsGoodList g.F.LayoutHandle.layout_of g.FieldIdx.Idx.at (g.VariantIdx.Idx.at 0) (g.Cx.HasDataLayout.target c.args.self.now.cx) default_repr AlwaysSized (first_list c.args.prefix c.args.field c.args.locals.now c.args.promoted.now) c.in-Ok.first
    = subst (λ fs. IsGoodList g.F.LayoutHandle.layout_of g.FieldIdx.Idx.at (g.VariantIdx.Idx.at 0) (g.Cx.HasDataLayout.target c.args.self.now.cx) default_repr AlwaysSized fs c.in-Ok.first) c.in_ok-fields.ensures
    (subst (λ r. IsGoodList g.F.LayoutHandle.layout_of g.FieldIdx.Idx.at (g.VariantIdx.Idx.at 0) (g.Cx.HasDataLayout.target c.args.self.now.cx) r AlwaysSized c.in_ok-fields.fields c.in-Ok.first) c.default_repr.ensures c.in-Ok.ensures.good) in
    let others : AreGoodLists g.F.LayoutHandle.layout_of g.FieldIdx.Idx.at (g.VariantIdx.Idx.at 0) (g.Cx.HasDataLayout.target c.args.self.now.cx) default_repr (state_list_kind c.in-Ok.first) (own_lists c.args.locals.now c.args.promoted.now (map (map g.LocalIdx.Idx.number) c.args.states.now)) c.in-Ok-lists_of_own.lists
    = subst (λ k. AreGoodLists g.F.LayoutHandle.layout_of g.FieldIdx.Idx.at (g.VariantIdx.Idx.at 0) (g.Cx.HasDataLayout.target c.args.self.now.cx) default_repr k (own_lists c.args.locals.now c.args.promoted.now (map (map g.LocalIdx.Idx.number) c.args.states.now)) c.in-Ok-lists_of_own.lists) c.state_list_kind-kind.ensures c.in-Ok-lists_of_own.ensures.good in
    let laid = subst (λ n. IfOk c.layout_of_lists.result (λ layout. (whole_size c.in-Ok.first c.in-Ok-lists_of_own.lists < size_bound (g.Cx.HasDataLayout.target c.args.self.now.cx))
    × (layout ≡ coroutine_layout g.FieldIdx.Idx.at g.FieldIdx.Idx.number n c.args.tag c.args.promoted.now (map (map g.LocalIdx.Idx.number) c.args.states.now) c.in-Ok.first c.in-Ok-lists_of_own.lists))) c.len-count.ensures.count
    (subst (λ d. IfOk c.layout_of_lists.result (λ layout. (whole_size c.in-Ok.first c.in-Ok-lists_of_own.lists < size_bound d)
    × (layout ≡ coroutine_layout g.FieldIdx.Idx.at g.FieldIdx.Idx.number c.len-count.result c.args.tag c.args.promoted.now (map (map g.LocalIdx.Idx.number) c.args.states.now) c.in-Ok.first c.in-Ok-lists_of_own.lists))) c.data_layout-dl.ensures c.layout_of_lists.ensures.exact) in
    let fault = subst (λ d. IfErr c.layout_of_lists.result (λ e. ((size_bound d ≤ whole_size c.in-Ok.first c.in-Ok-lists_of_own.lists) × (e ≡ SizeOverflow)) ⊎ (e ≡ OutOfMemory))) c.data_layout-dl.ensures c.layout_of_lists.ensures.fault in
    let p = whole_promised g.F.LayoutHandle.layout_of g.FieldIdx.Idx.at g.FieldIdx.Idx.number (g.VariantIdx.Idx.at 0) (g.Cx.HasDataLayout.target c.args.self.now.cx) c.args.prefix c.args.tag c.args.field c.args.locals.now (map (map g.LocalIdx.Idx.number) c.args.states.now) c.args.promoted.now asked c.in-Ok.first good c.in-Ok-lists_of_own.lists others c.layout_of_lists.result laid fault in
    let states = map (map g.LocalIdx.Idx.number) c.args.states.now in
    let within : All (All (λ l. l < length c.args.locals.now)) (map (map g.LocalIdx.Idx.number) c.args.states.now)
    = All-map (All (λ l. l < length c.args.locals.now)) (map g.LocalIdx.Idx.number) c.args.states.now
    (All-weaker (All (λ l. g.LocalIdx.Idx.number l < length c.args.locals.now)) (λ s. All (λ l. l < length c.args.locals.now) (map g.LocalIdx.Idx.number s)) (λ s. All-map (λ l. l < length c.args.locals.now) g.LocalIdx.Idx.number s) c.args.states.now c.requires.within) in
    let once : All (AllPairs (λ a b. a ≢ b)) (map (map g.LocalIdx.Idx.number) c.args.states.now) = All-map (AllPairs (λ a b. a ≢ b)) (map g.LocalIdx.Idx.number) c.args.states.now c.requires.once in
    record {
      exact = p.exact;
      lawful = p.lawful;
      tag_distinguishes = told_promised g.F.LayoutHandle.layout_of g.FieldIdx.Idx.at g.FieldIdx.Idx.number (g.VariantIdx.Idx.at 0) (g.Cx.HasDataLayout.target c.args.self.now.cx) c.args.prefix c.args.tag c.args.field c.args.locals.now c.args.promoted.now
          c.requires.field c.requires.same c.in-Ok.first good (map (map g.LocalIdx.Idx.number) c.args.states.now) c.in-Ok-lists_of_own.lists
          (λ layout. whole_size c.in-Ok.first c.in-Ok-lists_of_own.lists < size_bound (g.Cx.HasDataLayout.target c.args.self.now.cx)) c.layout_of_lists.result asked.is_state_tag
          within once others laid;
      apart = λ conflicts by. apart_promised g.F.LayoutHandle.layout_of g.FieldIdx.Idx.at g.FieldIdx.Idx.number (g.VariantIdx.Idx.at 0) (g.Cx.HasDataLayout.target c.args.self.now.cx) c.args.prefix c.args.tag c.args.field c.args.locals.now
          states conflicts c.in-Ok.first c.in-Ok-lists_of_own.lists c.args.promoted.now by within once good others
          (λ layout. whole_size c.in-Ok.first c.in-Ok-lists_of_own.lists < size_bound (g.Cx.HasDataLayout.target c.args.self.now.cx)) c.layout_of_lists.result laid;
      sized = p.sized;
    }
