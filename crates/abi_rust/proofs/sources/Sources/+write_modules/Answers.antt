-- What is written is the names of the modules around it, and then its own.
use Rattle.std.proofs.Common.{◌≡◌, ◌+◌, ◌++◌, ◌∙◌, arith, ap, codes, refl, sym}
use Rattle.std.specs.Prelude.{slice_get, string_bytes}
use Rattle.std.proofs.lemmas.Option.{slice_get_past, slice_get_read}
use Rattle.abi_rust.proofs.NamesTold.{last_written, modules_inside, modules_less, modules_none, modules_root, nothing_more}
use Rattle.abi_rust.proofs.sources.Sources.+write_modules.Goals as goal

pub returns-in_default : goal.returns-in_default
returns-in_default t c =
    let none : c.args.depth_left ≡ 0 = omega (arith, c.in_default.ensures) in
    nothing_more _ _ (modules_none c.args.self.now.names c.args.self.now.items c.args.depth_left c.args.module none)

pub returns-in_default-get : goal.returns-in_default-get
returns-in_default-get t c =
    let less : c.in-Some.depth_left + 1 ≡ c.args.depth_left = omega (arith, c.in-Some.ensures) in
    let past = slice_get_past c.deref.result.now c.args.module c.in_default-get.ensures.lookup.3 in
    nothing_more _ _ (modules_less c.args.self.now.names c.args.self.now.items c.args.depth_left c.in-Some.depth_left c.args.module _ less
    (ap (λ ms. slice_get ms c.args.module) (sym c.deref.ensures.value) ∙ past))

pub returns-in_default-parent : goal.returns-in_default-parent
returns-in_default-parent t c =
    let less : c.in-Some.depth_left + 1 ≡ c.args.depth_left = omega (arith, c.in-Some.ensures) in
    let found = c.in-Some-get.found.now in
    let at = slice_get_read c.deref.result.now _ c.args.module found refl c.in-Some-get.ensures.lookup.3.0 c.in-Some-get.ensures.lookup.1 in
    nothing_more _ _ (modules_root c.args.self.now.names c.args.self.now.items c.args.depth_left c.in-Some.depth_left c.args.module found less
    (ap (λ ms. slice_get ms c.args.module) (sym c.deref.ensures.value) ∙ at) c.in_default-parent.is)

pub returns : goal.returns
returns t c =
    let less : c.in-Some.depth_left + 1 ≡ c.args.depth_left = omega (arith, c.in-Some.ensures) in
    let found = c.in-Some-get.found.now in
    let at = slice_get_read c.deref.result.now _ c.args.module found refl c.in-Some-get.ensures.lookup.3.0 c.in-Some-get.ensures.lookup.1 in
    last_written c.push_str-2.result (string_bytes c.push_str-2.new.self) (string_bytes c.push_str.new.self) (codes "::") _ c.push_str-2.ensures.bytes
    (modules_inside c.args.self.now.names c.args.self.now.items c.args.depth_left c.in-Some.depth_left c.args.module c.in-Some-parent.parent found
    (string_bytes c.args.out.now) (string_bytes c.write_modules.new.out) (string_bytes c.push_str.new.self) less
    (ap (λ ms. slice_get ms c.args.module) (sym c.deref.ensures.value) ∙ at) c.in-Some-parent.is
    c.in_ok-write_modules.ensures (c.in_ok-push_str.ensures.bytes ∙ ap (λ t. string_bytes c.write_modules.new.out ++ t) c.text.ensures))
