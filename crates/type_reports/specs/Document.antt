-- What a report is as a text of JSON.
use Rattle.std.specs.Prelude.{◌≡◌, ℕ, List, ◌++◌, codes}
use Rattle.serde_json.specs.Data.{Data}
use Rattle.serde_json.specs.Written.{IsInOrder}

-- the text is a JSON value's, each of its items and members once and in order, with a line feed behind it
abbrev pub IsDocument : List ℕ → Type 0
IsDocument text = (body : List ℕ) × (d : Data) × (text ≡ body ++ codes "\n") × IsInOrder body d
