-- One use more.
use Rattle.std.proofs.Common.{◌≡◌, ◌∙◌, ◌<◌, ◌+◌, ℕ, List, ◌∷◌, Option, Some, None, ap, arith, length, drop, get_or, drop-cons, add-one, refl, rules, sym}
use Rattle.std.proofs.lemmas.Grind.{common_steps}
use Rattle.std.specs.Prelude.{nat_eq, if◌then◌else◌}
use Rattle.indexmap.specs.IndexMap.{get}
use Rattle.rust_source.specs.declared.item.Use.{Use}
use Rattle.abi_rust.specs.declared.use_targets.UseTarget.{UseTarget}
use Rattle.abi_rust.specs.EnumGlobs.{both, enum_among, enum_of_use}
use Rattle.abi_rust.specs.Scope.{numbered}
use Rattle.abi_rust.proofs.enum_globs.add_enum_globs.Goals as goal

-- of three it doesn't matter which two are joined first
both_both : (a b c : Option ℕ) → both (both a b) c ≡ both a (both b c)
both_both None b c = refl
both_both (Some n) None c = refl
both_both (Some n) (Some m) None = refl
both_both (Some n) (Some m) (Some k) = grind (arith, common_steps)

enums_more : (targets : List UseTarget) (uses : List Use) (i m : ℕ) (u : Use) → i < length uses → u ≡ get_or uses i u
    → enum_among targets i (drop i uses) m
    ≡ both (if nat_eq u.«module» m then enum_of_use targets (numbered i) u else None) (enum_among targets (i + 1) (drop (i + 1) uses) m)
enums_more targets uses i m u more is =
    let left : drop i uses ≡ get_or uses i u ∷ drop (i + 1) uses = rw add-one (drop-cons uses i u more) in
    rw (left, ← is) refl

pub loop-number-preserved : goal.loop-number-preserved
loop-number-preserved c = λ m.
    let targets = c.args.targets.now in
    let uses = c.args.items.now.uses.items in
    let i = c.loop-number.number in
    let used = c.used-item.result in
    let is = rw c.deref-used-items.ensures.value at c.used-item.is in
    let within : i < length uses = search rules in
    let known = get nat_eq c.loop-number.globs m in
    let one = if nat_eq used.«module» m then enum_of_use targets (numbered i) used else None in
    let rest = enum_among targets (i + 1) (drop (i + 1) uses) m in
    rw (c.in_ok-add_enum.ensures.ok m, c.enum_of_use-item.ensures, c.numbered.ensures)
    (both_both known one rest ∙ ap (both known) (sym (enums_more targets uses i m used within is)) ∙ c.loop-number.invariant m)
