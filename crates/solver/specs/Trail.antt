-- What the state table says of how its rows were made: each row of stage j + 1 extends the row of stage j that it names by its
-- width and its last space. Following the names back gives an allocation. Assumes nothing.
use Rattle.std.specs.Prelude.{◌≡◌, ℕ, zero, suc, ◌<◌, ◌≤◌, true, List, [], ◌∷◌, ◌++◌, length, slice_index_or}
use Rattle.drawing.specs.declared.words.Wire.{Wire}
use Rattle.drawing.specs.Plans.{Plan}
use Rattle.pricing.specs.Allocations.{Allocation, Book, lawful, is_step_of}
use Rattle.pricing.specs.Measures.{Measure}
use Rattle.frontier.specs.declared.records.State.{State}
use Rattle.frontier.specs.Bare.{no_wire}
use Rattle.frontier.specs.Points.{point_of}
use Rattle.frontier.specs.States.{kept_of}
use Rattle.frontier.specs.Stages.{may_follow, extended, start}
use Rattle.solver.specs.Front.{row_at, point_in}

module _ {V : Type 0} where
  -- the widths of the wires up to the row i of stage j
  abbrev pub widths_to : V → List (State V) → ℕ → ℕ → List ℕ
  widths_to e table zero i = []
  widths_to e table (suc j) i = widths_to e table j (row_at e table i).from ++ ((row_at e table i).width ∷ [])

  -- the spaces up to there
  abbrev pub spaces_to : V → List (State V) → ℕ → ℕ → List ℕ
  spaces_to e table zero i = (row_at e table i).last ∷ []
  spaces_to e table (suc j) i = spaces_to e table j (row_at e table i).from ++ ((row_at e table i).last ∷ [])

  -- the allocation of the first j wires that the row i of stage j was made by
  abbrev pub path_to : V → List (State V) → ℕ → ℕ → Allocation
  path_to e table j i = record { widths = widths_to e table j i; spaces = spaces_to e table j i }

  -- every row on the way back is in the table
  abbrev pub Back : V → List (State V) → ℕ → ℕ → Type 0
  Back e table zero i = Unit {0}
  Back e table (suc j) i = ((row_at e table i).from < length table) × Back e table j (row_at e table i).from

  -- and so is the row itself
  abbrev pub Safe : V → List (State V) → ℕ → ℕ → Type 0
  Safe e table j i = (i < length table) × Back e table j i

module _ {V : Type 0} (m : Measure V) (book : Book) (d : Plan) where
  -- a row of stage 0
  pub record Begins (s : State V) : Type 0 where
    pub space_step : is_step_of d.grid.spaces s.last ≡ true
    pub room : s.last ≤ d.channel
    pub is : kept_of s ≡ start m s.last

  -- the row s extends the row p by the wire q
  pub record Follows (q : Wire) (p s : State V) : Type 0 where
    pub width_step : is_step_of d.grid.widths s.width ≡ true
    pub space_step : is_step_of d.grid.spaces s.last ≡ true
    pub may : may_follow book d.channel (kept_of p) s.width s.last ≡ true
    pub is : kept_of s ≡ extended m q (kept_of p) s.width s.last

  module _ (e : V) (table : List (State V)) where
    -- the row i, taken as one of stage j, and all rows on its way back
    abbrev pub Linked : ℕ → ℕ → Type 0
    Linked zero i = (i < length table) × Begins (row_at e table i)
    Linked (suc j) i = (i < length table) × Follows (slice_index_or d.wires j no_wire) (row_at e table (row_at e table i).from) (row_at e table i) × Linked j (row_at e table i).from

    -- the rows of the stages 0 to n, stage j from cut j up to cut (j + 1): each but the first made from one of the stage before
    pub record Chained (cut : ℕ → ℕ) (n : ℕ) : Type 0 where
      pub ends : cut (suc n) ≤ length table
      pub rises : (j : ℕ) → j ≤ n → cut j ≤ cut (suc j)
      pub begins : (i : ℕ) → cut 0 ≤ i → i < cut 1 → Begins (row_at e table i)
      pub back : (j i : ℕ) → j < n → cut (suc j) ≤ i → i < cut (suc (suc j)) → (cut j ≤ (row_at e table i).from) × ((row_at e table i).from < cut (suc j))
      pub follows : (j i : ℕ) → j < n → cut (suc j) ≤ i → i < cut (suc (suc j)) → Follows (slice_index_or d.wires j no_wire) (row_at e table (row_at e table i).from) (row_at e table i)

-- the way back from a row of the last stage is a lawful allocation with the row's price
abbrev pub TrailLawful : {V : Type 0} → Measure V → V → Type 0
TrailLawful {V} m e =
    (book : Book) (d : Plan) (table : List (State V)) (i : ℕ) → Linked m book d e table (length d.wires) i →
    (lawful book d (path_to e table (length d.wires) i) ≡ true) × (point_of m d.wires (path_to e table (length d.wires) i) ≡ point_in (row_at e table i))

-- every row of a chained table is linked
abbrev pub ChainLinked : {V : Type 0} → Measure V → V → Type 0
ChainLinked {V} m e =
    (book : Book) (d : Plan) (table : List (State V)) (cut : ℕ → ℕ) (n : ℕ) → Chained m book d e table cut n → (j i : ℕ) → j ≤ n → cut j ≤ i → i < cut (suc j) →
    Linked m book d e table j i × Safe e table j i
