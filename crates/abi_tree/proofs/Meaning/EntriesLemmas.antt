-- Nodes as they are kept.
use Rattle.std.proofs.Common.{◌≡◌, ℕ, ◌<◌, List, [], ◌∷◌, ◌++◌, length, get_or, arith, refl, ap, ◌∙◌, length-append}
use Rattle.std.proofs.lemmas.List.{get_or_append_left, map-append}
use Rattle.std.proofs.lemmas.List.Elements.{All-head, All-push, All-tail, All-weaker}
use Rattle.abi_scalar.specs.Layout.{Layout}
use Rattle.abi_types.specs.Ty.Typed.{no_layout}
use Rattle.abi_tree.specs.declared.node.Shape.{Shape}
use Rattle.abi_tree.specs.declared.nodes.Entry.{Entry}
use Rattle.abi_tree.specs.Entries.{AreEntries, KeepsLayouts, entered, nodes_of}

module _ (old new : List Layout) (more : KeepsLayouts old new) where
  -- a node that is kept stays where layouts are put behind
  entered-more : (e : Entry) → e.layout < length old → entered new e ≡ entered old e
  entered-more e lt =
      ap (λ (ls : List Layout). entered ls e) more.1
      ∙ ap (λ (l : Layout). record { layout = l; shape = e.shape }) (get_or_append_left old more.0 no_layout e.layout lt)

  pub nodes-more : (es : List Entry) → AreEntries old es → nodes_of new es ≡ nodes_of old es
  nodes-more [] are = refl
  nodes-more (e ∷ es) are =
      let P = λ (e : Entry). e.layout < length old in
      ap (λ n. n ∷ nodes_of new es) (entered-more e (All-head P e es are)) ∙ ap (λ ns. entered old e ∷ ns) (nodes-more es (All-tail P e es are))

  pub entries-more : (es : List Entry) → AreEntries old es → AreEntries new es
  entries-more es are =
      let longer = length-append old more.0 in
      All-weaker (λ (e : Entry). e.layout < length old) (λ (e : Entry). e.layout < length new) (λ e lt. omega (arith, lt, longer, ap length more.1)) es are

  -- one more entry, whose layout is there
  pub entries-push : (es : List Entry) (e : Entry) → AreEntries old es → e.layout < length new → AreEntries new (es ++ e ∷ [])
  entries-push es e are lt = All-push (λ (e : Entry). e.layout < length new) es e (entries-more es are) lt

  pub nodes-push : (es : List Entry) (layout : Layout) (shape : Shape) (at : ℕ) → AreEntries old es → get_or new at no_layout ≡ layout →
      nodes_of new (es ++ record { layout = at; shape = shape } ∷ []) ≡ nodes_of old es ++ record { layout = layout; shape = shape } ∷ []
  nodes-push es layout shape at are is =
      map-append (entered new) es (record { layout = at; shape = shape } ∷ [])
      ∙ ap (λ ns. ns ++ record { layout = get_or new at no_layout; shape = shape } ∷ []) (nodes-more es are)
      ∙ ap (λ (l : Layout). nodes_of old es ++ record { layout = l; shape = shape } ∷ []) is
