-- The files in which the items of a module may stand (Rust Reference, "Module source filenames" and "The path attribute").
use Rattle.std.specs.Prelude.{ℕ, List, [], ◌∷◌, ◌++◌, codes, drop, map, nat_eq, Option, None, Some, if◌then◌else◌}
use Rattle.std.specs.List.{starts_with}
use Rattle.std.specs.Borrow.{Bor}
use Rattle.type_reports.specs.declared.module_files.ModuleName.{ModuleName}

-- the name of a module in the names of files, which have no `r#`
abbrev pub file_name : (name : List ℕ) → List ℕ
file_name name = if starts_with nat_eq name (codes "r#") then drop 2 name else name

-- a path in a folder, whose name ends with `/`; an absolute one stands for itself
abbrev pub path_in : (folder path : List ℕ) → List ℕ
path_in folder path = if starts_with nat_eq path (codes "/") then path else folder ++ path

-- the folder of an inline module in this one: the one that its `path` says there, or the one of its name among those of the file's modules
abbrev pub folder_by : (folder own name : List ℕ) → (path : Option (Bor (List ℕ))) → List ℕ
folder_by folder own name None = folder ++ own ++ file_name name ++ codes "/"
folder_by folder own name (Some path) = path_in folder path.now ++ codes "/"

-- the files in which a module's items may stand: the one that its `path` says, or `NAME.rs` or `NAME/mod.rs` among those of the file's modules
abbrev pub files_by : (folder own name : List ℕ) → (path : Option (Bor (List ℕ))) → List (List ℕ)
files_by folder own name None =
    (folder ++ own ++ file_name name ++ codes ".rs") ∷ (folder ++ own ++ file_name name ++ codes "/mod.rs") ∷ []
files_by folder own name (Some path) = path_in folder path.now ∷ []

-- the files of a module that stands within these inline modules of a file, the outermost first. The file stands in this folder, and its own
-- modules in a folder within it: of a root, a `mod.rs` and a file that a `path` says it is the same folder
abbrev pub module_files : (folder own : List ℕ) → (inline : List ModuleName) → ModuleName → List (List ℕ)
module_files folder own [] m = files_by folder own m.name.now m.path
module_files folder own (outer ∷ inline) m = module_files (folder_by folder own outer.name.now outer.path) [] inline m
