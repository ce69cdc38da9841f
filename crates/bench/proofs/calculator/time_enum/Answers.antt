-- The variants' places stay apart by the integer that holds the last.
use Rattle.std.proofs.Common.{◌≡◌, ◌<◌, ◌≤◌, ℕ, ◌*◌, ◌^◌, IsTrue, ap, arith, length, map, not, rules, subst}
use Rattle.std.proofs.lemmas.List.Elements.{All-weaker}
use Rattle.abi_base.specs.Integer.{integer_size}
use Rattle.abi_univariant.specs.Placement.{source_order}
use Rattle.abi_calc.specs.Enums.EnumStrategy.{has_no_value, variant_at}
use Rattle.abi_index.specs.declared.idx.VariantIdx.{VariantIdx}
use Rattle.abi_scalar.specs.Range.{numbers_of}
use Rattle.bench.proofs.Apart.{apart}
use Rattle.bench.proofs.calculator.time_enum.Goals as goal

pub time-requires : goal.time-requires
time-requires c =
    let yes : IsTrue c.are_lawful_lists.result = search rules in
    let variants = c.args.variants.items in
    let items = c.in_ok-discriminants.discriminants.items in
    let size : ℕ = integer_size c.fit_unsigned-tag.result in
    let count : ℕ = c.len-count.result in
    let long : c.len-count.result ≡ length c.args.variants.items = search rules in
    let same : 2 ^ (size * 8) ≡ numbers_of size = ap (λ bits. 2 ^ bits) (omega arith) in
    let room : count ≤ numbers_of size = omega (arith, c.fit_unsigned-tag.ensures.holds, same) in
    let within = All-weaker (λ (item : VariantIdx × ℕ). item.1 < count) (λ item. item.1 < numbers_of size) (λ item less. omega (arith, less, room)) items c.in_ok-discriminants.ensures.within in
    record {
      at = λ alloc lent at same kept. record {
        data_layout = search rules;
        fields = rw c.deref.ensures.value at (c.are_lawful_lists.ensures yes);
        aligns = search rules;
        few = search rules;
        each = subst (λ n. map (λ item. item.0) items ≡ source_order n) long c.in_ok-discriminants.ensures.each;
        tag = record {
          most = search rules;
          differ = apart (numbers_of size) (λ item. not (has_no_value (variant_at (map (map (λ f. f.now)) variants) item.0))) items c.in_ok-discriminants.ensures.ascending within;
        };
      };
    }
