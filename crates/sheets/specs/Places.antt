-- Where a reader of a sheet stands. Assumes nothing.
use Rattle.std.specs.Prelude.{◌≡◌, ℕ, zero, suc, List}
use Rattle.text.specs.Cuts.{cut_rest, cut_at, after}

-- the number of the line that is read, and the bytes that are left
pub record Place : Type 0 where
  pub line : ℕ
  pub left : List ℕ

-- bytes past n fields
abbrev pub after_fields : ℕ → List ℕ → List ℕ
after_fields zero bs = bs
after_fields (suc n) bs = after_fields n (after bs)

-- past n fields of the line
abbrev pub past : ℕ → Place → Place
past n p = record { line = p.line; left = after_fields n p.left }

-- q stands past the line at p: what is left are the lines that follow it, and the number is still that of the line read
abbrev pub PastLine : Place → Place → Type 0
PastLine p q = (cut_rest 10 p.left ≡ cut_at 10 q.left) × (q.line ≡ p.line)
