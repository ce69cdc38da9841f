-- The names of modules, of one more.
use Rattle.std.proofs.Common.{◌≡◌, ◌∙◌, ℕ, zero, suc, ◌+◌, List, [], ◌++◌, Some, None, Ok, Err, ap, append-nil, append_assoc, codes, refl, sym, arith}
use Rattle.std.specs.Prelude.{OnOk, Option, Result, if◌then◌else◌, is_ok, slice_get}
use Rattle.rust_source.specs.declared.item.Items.{Items}
use Rattle.rust_source.specs.declared.item.«Module».{«Module»}
use Rattle.rust_source.specs.declared.names.Names.{Names}
use Rattle.rust_source.specs.Names.{text_of}
use Rattle.abi_rust.specs.Sources.{module_path_by, modules_before, module_path}

-- nothing is written more
pub nothing_more : (bytes rest : List ℕ) → rest ≡ [] → bytes ≡ bytes ++ rest
nothing_more bytes rest none = sym (ap (λ r. bytes ++ r) none ∙ append-nil bytes)

-- what is written last
pub last_written : {A E : Type 0} (r : Result A E) (new before last whole : List ℕ) → new ≡ (if is_ok r then before ++ last else before) → before ++ last ≡ whole → OnOk r (new ≡ whole)
last_written (Ok a) new before last whole written is = written ∙ is
last_written (Err e) new before last whole written is = tt

module _ (names : Names) (items : Items) where
  pub modules_none : (depth_left m : ℕ) → depth_left ≡ 0 → module_path names items depth_left m ≡ []
  unfolding module_path
  modules_none zero m is = refl
  modules_none (suc depth_left) m is = absurd (omega arith)

  -- those around a module, within less room
  pub modules_less : (depth_left left m : ℕ) (found : Option «Module») → left + 1 ≡ depth_left → slice_get items.modules.items m ≡ found
      → module_path names items depth_left m ≡ modules_before names (module_path names items left) found
  unfolding module_path
  modules_less zero left m found is at = absurd (omega arith)
  modules_less (suc depth_left) left m found is at =
      let same : depth_left ≡ left = omega arith in
      ap (λ r. modules_before names (module_path names items r) (slice_get items.modules.items m)) same
      ∙ ap (λ f. modules_before names (module_path names items left) f) at

  -- a root
  pub modules_root : (depth_left left m : ℕ) (x : «Module») → left + 1 ≡ depth_left → slice_get items.modules.items m ≡ Some x → x.parent ≡ None
      → module_path names items depth_left m ≡ []
  modules_root depth_left left m x is at root = modules_less depth_left left m (Some x) is at ∙ ap (λ p. module_path_by names (module_path names items left) x.name p) root

  -- what is written of a module behind those around it
  pub modules_inside : (depth_left left m above : ℕ) (x : «Module») (before outer inner : List ℕ) → left + 1 ≡ depth_left → slice_get items.modules.items m ≡ Some x → x.parent ≡ Some above
      → outer ≡ before ++ module_path names items left above → inner ≡ outer ++ text_of names x.name.0
      → inner ++ codes "::" ≡ before ++ module_path names items depth_left m
  modules_inside depth_left left m above x before outer inner is at within outside own =
      let report = modules_less depth_left left m (Some x) is at ∙ ap (λ p. module_path_by names (module_path names items left) x.name p) within in
      rw (report, own, outside) (ap (λ b. b ++ codes "::") (append_assoc before _ _) ∙ append_assoc before _ _)
