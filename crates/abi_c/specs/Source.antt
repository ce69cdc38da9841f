-- What a call lends of the types of Rust source.
use Rattle.std.specs.Prelude.{◌≡◌, ℕ, ◌≤◌, ◌⊎◌, List, ◌∷◌, codes}
use Rattle.abi_tree.specs.Tree.{Trees}
use Rattle.type_reports.specs.Document.{IsDocument}
use Rattle.abi_c.specs.Flat.{Reply}
use Rattle.abi_c.specs.Lent.{Lent}
use Rattle.abi_c.specs.Numbers.FlatTree.{count_of_trees, flat_trees}

-- what says that memory was wanting
abbrev pub memory_document : List ℕ
memory_document = codes "{\n  \"faults\": [\n    {\n      \"text\": \"out of memory\"\n    }\n  ],\n  \"skipped\": [],\n  \"types\": [],\n  \"version\": 1\n}\n"

-- a JSON document, or that memory was wanting, is lent, and the status is one of four
abbrev pub IsLentDocument : (status : ℕ) → (old new : List ℕ) → (needed : ℕ) → Type 0
IsLentDocument status old new needed =
    (text : List ℕ) × (IsDocument text ⊎ ((text ≡ memory_document) × (status ≡ 1))) × (status ≤ 3) × Lent old new text needed

-- some types' numbers, behind their count, and one of four statuses
abbrev pub IsReplyOfTrees : Reply → Type 0
IsReplyOfTrees reply = (ts : Trees) × (reply.numbers ≡ count_of_trees ts ∷ flat_trees ts) × (reply.status ≤ 3)
