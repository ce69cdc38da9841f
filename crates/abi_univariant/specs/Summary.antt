-- What lists of fields have together that are the variants of one type.
use Rattle.std.specs.Prelude.{◌+◌, ◌%◌, ◌^◌, ◌&&◌, true, List, map, max, sum_by, None}
use Rattle.std.specs.List.{list_all}
use Rattle.abi_scalar.specs.declared.layout_data.LayoutData.{LayoutData}
use Rattle.abi_univariant.specs.declared.summary.Summary.{Summary}
use Rattle.abi_univariant.specs.Fields.{greater_of, greatest, greatest_asked, greatest_size}

-- what these have together
abbrev pub summary_of : {F V : Type 0} → List (LayoutData F V) → Summary
summary_of lists = record {
  size = greatest_size lists;
  align = greatest (map (λ l. l.align.abi) lists);
  unadjusted_abi_align = greatest (map (λ l. l.unadjusted_abi_align) lists);
  max_repr_align = greatest_asked lists;
  uninhabited = list_all (λ l. l.uninhabited) lists;
  randomization_seed = sum_by (λ l. l.randomization_seed) lists % 2 ^ 64;
}

-- what none has
abbrev pub no_lists : Summary
no_lists = record {
  size = 0;
  align = 0;
  unadjusted_abi_align = 0;
  max_repr_align = None;
  uninhabited = true;
  randomization_seed = 0;
}

-- with one more
abbrev pub with_list : {F V : Type 0} → Summary → LayoutData F V → Summary
with_list o l = record {
  size = max o.size l.size;
  align = max o.align l.align.abi;
  unadjusted_abi_align = max o.unadjusted_abi_align l.unadjusted_abi_align;
  max_repr_align = greater_of o.max_repr_align l.max_repr_align;
  uninhabited = o.uninhabited && l.uninhabited;
  randomization_seed = (o.randomization_seed + l.randomization_seed) % 2 ^ 64;
}
