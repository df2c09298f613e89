-- Cutting bytes at a separator, and joining parts by one. Assumes nothing.
use Rattle.std.specs.Prelude.{ℕ, cond, List, [], ◌∷◌, ◌++◌, length, drop, ◌==◌}

-- the part before the first separator, or all where there is none
abbrev pub cut_first : ℕ → List ℕ → List ℕ
cut_first s [] = []
cut_first s (c ∷ cs) = cond (c == s) [] (c ∷ cut_first s cs)

-- the parts after the first separator, in order
abbrev pub cut_rest : ℕ → List ℕ → List (List ℕ)
cut_rest s [] = []
cut_rest s (c ∷ cs) = cond (c == s) (cut_first s cs ∷ cut_rest s cs) (cut_rest s cs)

-- all parts: one more than there are separators
abbrev pub cut_at : ℕ → List ℕ → List (List ℕ)
cut_at s bs = cut_first s bs ∷ cut_rest s bs

-- parts, each led by the separator
abbrev pub led_by : ℕ → List (List ℕ) → List ℕ
led_by s [] = []
led_by s (f ∷ fs) = s ∷ (f ++ led_by s fs)

-- parts with the separator between them
abbrev pub join_by : ℕ → List (List ℕ) → List ℕ
join_by s [] = []
join_by s (f ∷ fs) = f ++ led_by s fs

-- the field at the front: up to a comma, byte 10 or the end
abbrev pub field_of : List ℕ → List ℕ
field_of bs = cut_first 44 (cut_first 10 bs)

-- what stands past the field at the front and the byte that ends it
abbrev pub after : List ℕ → List ℕ
after bs = drop 1 (drop (length (field_of bs)) bs)

-- n where a line end was met, so that parts follow it, and else 0
abbrev pub closed_count : List (List ℕ) → ℕ → ℕ
closed_count [] n = 0
closed_count (m ∷ ms) n = n

-- how many fields the line at the front has, or 0 where no byte 10 ends it
abbrev pub line_count : List ℕ → ℕ
line_count bs = closed_count (cut_rest 10 bs) (length (cut_at 44 (cut_first 10 bs)))
