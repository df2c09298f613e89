-- Lines of fields, and what a buffer holds once bytes are put into it. Assumes nothing.
use Rattle.std.specs.Prelude.{ℕ, ◌+◌, List, [], ◌∷◌, ◌++◌, length, take, drop}
use Rattle.text.specs.Cuts.{join_by}

-- fields parted by commas and closed by byte 10
abbrev pub line_of : List (List ℕ) → List ℕ
line_of fields = join_by 44 fields ++ 10 ∷ []

-- what `was` holds once s is put at `at`
abbrev pub placed : List ℕ → ℕ → List ℕ → List ℕ
placed was at s = take at was ++ (s ++ drop (at + length s) was)
