-- Modules above, and globs before, of which one more is looked at.
use Rattle.std.proofs.Common.{◌≡◌, ◌∙◌, ℕ, zero, suc, ◌+◌, ◌-◌, ◌<◌, ◌≤◌, List, Bool, true, false, Option, None, Some, nat_eq, ap, refl}
use Rattle.std.specs.Prelude.{if◌then◌else◌}
use Rattle.rust_source.specs.declared.item.Items.{Items}
use Rattle.abi_rust.specs.declared.ways.Way.{Way}
use Rattle.abi_rust.specs.Visible.{inside_within, parent, so_above}
use Rattle.abi_rust.specs.Ways.{all_on, all_step, way_at}
use Rattle.abi_rust.proofs.Rooms.{none_left, turns}

pub inside_more : (n i : ℕ) (items : Items) (outer m : ℕ) → i < n
    → inside_within (n - i) items outer m ≡ (if nat_eq m outer then true else so_above (inside_within (n - (i + 1)) items outer) (parent items m))
inside_more n i items outer m more = ap (λ k. inside_within k items outer m) (turns n i more)

pub inside_done : (n i : ℕ) (items : Items) (outer m : ℕ) → n ≤ i → inside_within (n - i) items outer m ≡ false
inside_done n i items outer m done = ap (λ k. inside_within k items outer m) (none_left n i done)

pub on_more : (n i : ℕ) (is : Way → Bool) (ways : List Way) (last : Option Way) → i < n
    → all_on is (n - i) ways last ≡ all_step is (all_on is (n - (i + 1)) ways) ways last
on_more n i is ways last more = ap (λ k. all_on is k ways last) (turns n i more)

pub on_done : (n i : ℕ) (is : Way → Bool) (ways : List Way) (last : Option Way) → n ≤ i → all_on is (n - i) ways last ≡ true
on_done n i is ways last done = ap (λ k. all_on is k ways last) (none_left n i done)

-- a module that isn't the one is inside where the one above is
pub inside_up : (n i : ℕ) (items : Items) (outer m above : ℕ) → i < n → nat_eq m outer ≡ false → parent items m ≡ Some above
    → inside_within (n - i) items outer m ≡ inside_within (n - (i + 1)) items outer above
inside_up n i items outer m above more other up = inside_more n i items outer m more ∙ rw (other, up) refl

-- a glob that is so leaves those before
pub on_next : (n i : ℕ) (is : Way → Bool) (ways : List Way) (way : Way) → i < n → is way ≡ true
    → all_on is (n - i) ways (Some way) ≡ all_on is (n - (i + 1)) ways (way_at ways way.before)
on_next n i is ways way more holds = on_more n i is ways (Some way) more ∙ rw holds refl

-- one that isn't ends it
pub on_not : (n i : ℕ) (is : Way → Bool) (ways : List Way) (way : Way) → i < n → is way ≡ false → all_on is (n - i) ways (Some way) ≡ false
on_not n i is ways way more fails = on_more n i is ways (Some way) more ∙ rw fails refl

-- and so does the beginning of the way
pub on_end : (k : ℕ) (is : Way → Bool) (ways : List Way) → all_on is k ways None ≡ true
on_end zero is ways = refl
on_end (suc k) is ways = refl
