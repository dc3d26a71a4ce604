-- States when two texts are the same (01, Figures to hold it against: the stored answers).
use Rattle.std.specs.Prelude.{ℕ, Bool, List}
use Rattle.std.specs.Str.{bytes_eq}

abbrev pub same_text : List ℕ → List ℕ → Bool
same_text = bytes_eq
