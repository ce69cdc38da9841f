-- The space of functions is known in the end.
use Rattle.std.proofs.Common.{◌≡◌, List, [], ◌∷◌, ◌++◌, Bool, true, false, Option, Some, None, IsSome, refl, sym, subst, eq-eqb, rules}
use Rattle.std.specs.Prelude.{◌==◌, is_some, if◌then◌else◌}
use Rattle.abi_base.specs.declared.address_space.AddressSpace.{AddressSpace}
use Rattle.abi_base.specs.declared.pointer_spec.PointerSpec.{PointerSpec}
use Rattle.abi_base.specs.declared.data_layout.TargetDataLayout.{TargetDataLayout}
use Rattle.abi_base.specs.DataLayout.{Knows, entry_of, known_spec}
use Rattle.abi_base.specs.DataLayoutText.{with_instructions}

some_of : {A : Type 0} (o : Option A) → is_some o ≡ true → IsSome o
some_of None h = absurd (cc)
some_of (Some x) h = search rules

entry_at : (e : AddressSpace × PointerSpec) (entries : List (AddressSpace × PointerSpec)) (space : AddressSpace) (t : Bool) → IsSome (entry_of entries space) → IsSome (if t then Some e.1 else entry_of entries space)
entry_at e entries space true h = search rules
entry_at e entries space false h = h

-- an entry that was added last is found, or one before it
entry_last : (entries : List (AddressSpace × PointerSpec)) (space : AddressSpace) (spec : PointerSpec) → IsSome (entry_of (entries ++ ((space, spec) ∷ [])) space)
entry_last [] space spec = let same : (space.0 == space.0) ≡ true = eq-eqb space.0 space.0 refl in rw same (search rules)
entry_last (e ∷ entries) space spec = entry_at e (entries ++ ((space, spec) ∷ [])) space (e.0.0 == space.0) (entry_last entries space spec)

known_at : (entry : Option PointerSpec) (spec : PointerSpec) (t : Bool) → IsSome entry → IsSome (if t then Some spec else entry)
known_at entry spec true h = search rules
known_at entry spec false h = h

added : TargetDataLayout → TargetDataLayout
added dl = record dl { address_space_info = dl.address_space_info ++ ((dl.instruction_address_space, dl.default_address_space_pointer_spec) ∷ []) }

either : (dl : TargetDataLayout) (t : Bool) → is_some (known_spec dl dl.instruction_address_space) ≡ t → Knows (if t then dl else added dl) (if t then dl else added dl).instruction_address_space
unfolding added
either dl true h = some_of (known_spec dl dl.instruction_address_space) h
either dl false h = known_at (entry_of (dl.address_space_info ++ ((dl.instruction_address_space, dl.default_address_space_pointer_spec) ∷ [])) dl.instruction_address_space) dl.default_address_space_pointer_spec (dl.instruction_address_space.0 == dl.default_address_space.0) (entry_last dl.address_space_info dl.instruction_address_space dl.default_address_space_pointer_spec)

pub knows_instructions : (dl made : TargetDataLayout) → made ≡ with_instructions dl → Knows made made.instruction_address_space
unfolding added
knows_instructions dl made e = subst (λ (d : TargetDataLayout). Knows d d.instruction_address_space) (sym e) (either dl (is_some (known_spec dl dl.instruction_address_space)) refl)
