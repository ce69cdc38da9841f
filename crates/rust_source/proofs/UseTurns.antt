-- A group of `use` one level deeper, a turn of its loops, and what stands at their ends.
use Rattle.std.proofs.Common.{◌≡◌, ℕ, zero, suc, ◌+◌, ◌-◌, ◌<◌, ◌≤◌, false, List, [], ◌∷◌, ◌++◌, Err, refl, ap, arith}
use Rattle.std.specs.Prelude.{if◌then◌else◌}
use Rattle.rust_source.specs.declared.fault.SourceFaultKind.TheVariants.{TooDeep}
use Rattle.rust_source.specs.declared.item.UsedName.{UsedName}
use Rattle.rust_source.specs.declared.place.Place.{Place}
use Rattle.rust_source.specs.declared.place.Symbol.{Symbol}
use Rattle.rust_source.specs.declared.reader.cursor.Cursor.{Cursor}
use Rattle.rust_source.specs.declared.reader.uses.UsePlace.{UsePlace}
use Rattle.rust_source.specs.Cursor.{comma_passed, fault, is_done}
use Rattle.rust_source.specs.Reading.{read_on, is_path_name, path_name}
use Rattle.rust_source.specs.Terms.{Known, done}
use Rattle.rust_source.specs.Uses.{Using, group_from, path_names_from, names_on, tree_read, tree_with}
use Rattle.rust_source.proofs.Turns.{none_left, turns}

pub tree_less : (depth_left left : ℕ) (place : UsePlace) (before : List UsedName) (c : Cursor) (known : Using) → left + 1 ≡ depth_left → tree_read depth_left place before c known ≡ tree_with (tree_read left) place before c known
unfolding tree_read
tree_less zero left place before c known is = absurd (omega arith)
tree_less (suc depth_left) left place before c known is = let e : depth_left ≡ left = omega arith in ap (λ r. tree_with (tree_read r) place before c known) e

pub tree_none : (depth_left : ℕ) (place : UsePlace) (before : List UsedName) (c : Cursor) (known : Using) → depth_left ≡ 0 → tree_read depth_left place before c known ≡ (Err (fault c TooDeep), known)
unfolding tree_read
tree_none zero place before c known is = refl
tree_none (suc depth_left) place before c known is = absurd (omega arith)

module _ (n i : ℕ) where
  pub names_more : (path : List UsedName) (c : Cursor) (names : Known) → i < n → path_names_from (n - i) path c names ≡ (if is_path_name c then read_on (λ (x : (Symbol × Place) × Cursor) ns. names_on (path_names_from (n - (i + 1))) (path ++ record { name = x.0.0; at = x.0.1 } ∷ []) x.1 ns) (path_name c names) else done ((path, false), c) names)
  names_more path c names more = ap (λ k. path_names_from k path c names) (turns n i more)

  pub names_done : (path : List UsedName) (c : Cursor) (names : Known) → n ≤ i → path_names_from (n - i) path c names ≡ done ((path, false), c) names
  names_done path c names past = ap (λ k. path_names_from k path c names) (none_left n i past)

  pub group_more : (depth_left : ℕ) (place : UsePlace) (path : List UsedName) (c : Cursor) (known : Using) → i < n → group_from (tree_read depth_left) (n - i) place path c known ≡ (if is_done c then done tt known else read_on (λ d ns. read_on (λ e ms. group_from (tree_read depth_left) (n - (i + 1)) place path e ms) (comma_passed d, ns)) (tree_read depth_left place path c known))
  group_more depth_left place path c known more = ap (λ k. group_from (tree_read depth_left) k place path c known) (turns n i more)

  pub group_done : (depth_left : ℕ) (place : UsePlace) (path : List UsedName) (c : Cursor) (known : Using) → n ≤ i → group_from (tree_read depth_left) (n - i) place path c known ≡ done tt known
  group_done depth_left place path c known past = ap (λ k. group_from (tree_read depth_left) k place path c known) (none_left n i past)
