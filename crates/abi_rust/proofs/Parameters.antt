-- Whether a path begins with a parameter.
use Rattle.std.proofs.Common.{◌≡◌, ◌∙◌, ap, Bool, List, [], ◌∷◌, true, false, length, map, refl, sym, rules, inl, inr, arith}
use Rattle.std.proofs.lemmas.Bool.Decides.{eqb_tells}
use Rattle.std.specs.Prelude.{◌&&◌, ◌||◌, nat_eq, not}
use Rattle.rust_source.specs.Syntax.{argument_of, arguments, path, path_as_read, segment, segment_of, segments}
use Rattle.rust_source.specs.declared.syntax.Argument.TheFolds.{fold_out-Segment, fold_out-Path}
use Rattle.rust_source.specs.declared.syntax.Path.{Path, out-Path}
use Rattle.rust_source.specs.declared.syntax.Segment.{Segment, out-Segment}
use Rattle.abi_rust.specs.declared.budget.Context.{Context}
use Rattle.abi_rust.specs.ParameterFree.{begins_by, first_number, first_of, is_alone, is_parameter, path_uses, segments_use}
use Rattle.abi_rust.specs.Types.{Where}

segment_is : (s : Segment)
    → segment_of s ≡ segment (out-Segment s).name.0 (out-Segment s).at (out-Segment s).lifetimes (arguments (map argument_of (out-Segment s).arguments.items))
segment_is s = search (rules, fold_out-Segment)

path_read : (p : Path) → path_as_read p ≡ path (out-Path p).is_global (segments (map segment_of (out-Path p).segments.items))
path_read p = search (rules, fold_out-Path)

first_is : (ss : List Segment) → first_of (segments (map segment_of ss)) ≡ first_number ss
first_is [] = refl
first_is (s ∷ ss) = rw (segment_is s) refl

one_alone : (ss : List Segment) → length ss ≡ 1 → is_alone (segments (map segment_of ss)) ≡ true
one_alone [] one = absurd (omega (arith, one))
one_alone (s ∷ []) one = refl
one_alone (s ∷ t ∷ ss) one = absurd (omega (arith, one))

not_alone : (ss : List Segment) → (length ss ≡ 1 → ⊥) → is_alone (segments (map segment_of ss)) ≡ false
not_alone [] more = refl
not_alone (s ∷ []) more = absurd (more refl)
not_alone (s ∷ t ∷ ss) more = refl

alone_is : (ss : List Segment) → is_alone (segments (map segment_of ss)) ≡ nat_eq (length ss) 1
alone_is ss =
    elim (eqb_tells (length ss) 1) [ inl one ↦ one_alone ss one.1 ∙ sym one.0 | inr more ↦ not_alone ss more.1 ∙ sym more.0 ]

module _ (cx : Context) (w : Where) where
  -- a parameter is named in a path that begins with one, or in what its names are given
  pub path_is : (in_type : Bool) (p : Path)
      → path_uses cx w in_type (path_as_read p) ≡ (is_parameter cx w in_type p || segments_use cx w (segments (map segment_of (out-Path p).segments.items)))
  path_is in_type p =
      let names = (out-Path p).segments.items in
      let rest = segments_use cx w (segments (map segment_of names)) in
      ap (λ read. path_uses cx w in_type read) (path_read p)
      ∙ ap (λ name. (not (out-Path p).is_global && begins_by cx w in_type (is_alone (segments (map segment_of names))) name) || rest) (first_is names)
      ∙ ap (λ alone. (not (out-Path p).is_global && begins_by cx w in_type alone (first_number names)) || rest) (alone_is names)
