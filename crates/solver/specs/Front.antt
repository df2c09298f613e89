-- The curve taken point by point from the points of the last stage: after a point the next is the least in (power, delay) among
-- those of smaller delay. Assumes nothing.
use Rattle.std.specs.Prelude.{◌≡◌, ℕ, ◌+◌, ◌<◌, ◌≤◌, Bool, true, false, cond, not, List, [], ◌∷◌, map, length, get_or, Some, None, Option, ◌≢◌, nat_lt, slice_index, slice_index_or}
use Rattle.drawing.specs.Lists.{keep}
use Rattle.drawing.specs.Plans.{Plan, Sound}
use Rattle.pricing.specs.Allocations.{Book}
use Rattle.pricing.specs.Measures.{Measure}
use Rattle.frontier.specs.declared.records.Point.{Point}
use Rattle.frontier.specs.declared.records.State.{State}
use Rattle.frontier.specs.Orders.{blank_state, point_upto}
use Rattle.frontier.specs.Lists.{◌∈◌, undominated, rising}
use Rattle.frontier.specs.Points.{at_or_below}
use Rattle.frontier.specs.Curves.{curve}
use Rattle.frontier.specs.States.{kept_of, KeptRow}

module _ {V : Type 0} where
  -- the row i
  abbrev pub row_at : V → List (State V) → ℕ → State V
  row_at e rows i = slice_index_or rows i (blank_state e)

  -- the power and the delay of a row
  abbrev pub point_in : State V → Point V
  point_in s = record { power = s.power; delay = s.delay }

  -- and of all rows
  abbrev pub points_in : List (State V) → List (Point V)
  points_in rows = map point_in rows

  -- the delays of all rows are in reach of one number of wires
  abbrev pub InReach : (ℕ → V → Type 0) → List (Point V) → Type 0
  InReach reach ps = (k : ℕ) × (k ≤ 24) × ((p : Point V) → p ∈ ps → reach k p.delay)

  -- the last point, if there is one, is a row's
  abbrev pub Known : List (Point V) → Option V → Type 0
  Known ps None = Unit {0}
  Known ps (Some u) = (p : Point V) × (p ∈ ps) × (p.delay ≡ u)

module _ {V : Type 0} (m : Measure V) where
  -- of smaller delay than the last point, if there is one
  abbrev pub ahead : Option V → V → Bool
  ahead None v = true
  ahead (Some u) v = not (m.below u v)

  -- what is of smaller delay than the last point
  abbrev pub still_ahead : Option V → List (Point V) → List (Point V)
  still_ahead o ps = keep (λ p. ahead o p.delay) ps

  -- what of the curve is still to come after the delay o
  abbrev pub front : Option V → List (Point V) → List (Point V)
  front o ps = rising (λ p. p.power) (undominated (at_or_below m) (still_ahead o ps))

-- the kept states of the last stage, in any order: what is taken from them is the curve
abbrev pub RowsCurve : {V : Type 0} → Measure V → (ℕ → V → Type 0) → Type 0
RowsCurve {V} m reach =
    (book : Book) (d : Plan) → Sound d → (rows : List (State V)) → KeptRow m book d (map kept_of rows) →
    (front m None (points_in rows) ≡ curve m book d) × InReach reach (points_in rows)

-- rows in six runs, in each of which power does not fall: the run k stands from cut k up to cut (k + 1)
module _ {V : Type 0} (e : V) (rows : List (State V)) where
  -- seven cuts, the first at the first row and the last past the last
  pub record Runs (cuts : List ℕ) : Type 0 where
    pub seven : length cuts ≡ 7
    pub starts : get_or cuts 0 0 ≡ 0
    pub ends : get_or cuts 6 0 ≡ length rows
    pub rises : (k : ℕ) → k < 6 → slice_index cuts k ≤ slice_index cuts (k + 1)
    pub inside : (k : ℕ) → k < 7 → slice_index cuts k ≤ length rows
    pub sorted : (k i j : ℕ) → k < 6 → slice_index cuts k ≤ i → i ≤ j → j < slice_index cuts (k + 1) → (row_at e rows i).power ≤ (row_at e rows j).power

-- a row, if there is one, is among the rows
abbrev pub InRows : {V : Type 0} → List (State V) → Option ℕ → Type 0
InRows rows None = Unit {0}
InRows rows (Some i) = i < length rows

-- what taking the next point says of those to come: there is none, or a row is the first, and the others are left
abbrev pub Gives : {V : Type 0} → V → List (State V) → List (Point V) → Option ℕ → List (Point V) → Type 0
Gives e rows to_come None left = to_come ≡ []
Gives e rows to_come (Some r) left = (r < length rows) × (to_come ≡ point_in (row_at e rows r) ∷ left)

-- there is a row, and it is of less power
abbrev pub lower_row : {V : Type 0} → V → List (State V) → Option ℕ → ℕ → Bool
lower_row e rows None power = false
lower_row e rows (Some i) power = nat_lt (row_at e rows i).power power

module _ {V : Type 0} (m : Measure V) (e : V) (rows : List (State V)) where
  -- the first row ahead from one place up to another
  pub record FirstAhead (o : Option V) (from to r : ℕ) : Type 0 where
    pub low : from ≤ r
    pub high : r ≤ to
    pub skipped : (i : ℕ) → from ≤ i → i < r → ahead m o (row_at e rows i).delay ≢ true
    pub here : r < to → ahead m o (row_at e rows r).delay ≡ true

  -- the least of the rows ahead from one place up to another
  pub record LeastAhead (o : Option V) (from to r : ℕ) : Type 0 where
    pub low : from ≤ r
    pub high : r < to
    pub taken : ahead m o (row_at e rows r).delay ≡ true
    pub least : (i : ℕ) → from ≤ i → i < to → ahead m o (row_at e rows i).delay ≡ true → point_upto m (point_in (row_at e rows r)) (point_in (row_at e rows i)) ≡ true

  -- the same, if a row is ahead there
  abbrev pub LeastIn : Option V → ℕ → ℕ → Option ℕ → Type 0
  LeastIn o from to None = (i : ℕ) → from ≤ i → i < to → ahead m o (row_at e rows i).delay ≢ true
  LeastIn o from to (Some r) = LeastAhead o from to r

  -- the earlier of two rows by power, then by delay, where there are two
  abbrev pub earlier_row : Option ℕ → Option ℕ → Option ℕ
  earlier_row None b = b
  earlier_row (Some x) None = Some x
  earlier_row (Some x) (Some y) = cond (point_upto m (point_in (row_at e rows x)) (point_in (row_at e rows y))) (Some x) (Some y)

  -- how far each run is gone through: what lies behind is not ahead any more
  pub record Head (cuts : List ℕ) (o : Option V) (k h : ℕ) : Type 0 where
    pub low : get_or cuts k 0 ≤ h
    pub high : h ≤ slice_index cuts (k + 1)
    pub done : (i : ℕ) → slice_index cuts k ≤ i → i < h → ahead m o (row_at e rows i).delay ≢ true

  -- how far the six runs are gone through
  pub record Heads (cuts : List ℕ) (o : Option V) (heads : List ℕ) : Type 0 where
    pub six : length heads ≡ 6
    pub each : (k : ℕ) → k < 6 → Head cuts o k (slice_index heads k)

  -- the rows in their runs, and how far these are gone through
  pub record Going (reach : ℕ → V → Type 0) (cuts heads : List ℕ) (o : Option V) : Type 0 where
    pub reached : InReach reach (points_in rows)
    pub known : Known (points_in rows) o
    pub runs : Runs e rows cuts
    pub gone : Heads cuts o heads

-- rows in which the last space does not fall, nor the power among equals
module _ {V : Type 0} (e : V) (rows : List (State V)) where
  -- last spaces are steps
  pub record Ordered : Type 0 where
    pub low : (i : ℕ) → i < length rows → 1 ≤ (row_at e rows i).last
    pub high : (i : ℕ) → i < length rows → (row_at e rows i).last ≤ 6
    pub rises : (i j : ℕ) → i ≤ j → j < length rows → (row_at e rows i).last ≤ (row_at e rows j).last
    pub sorted : (i j : ℕ) → i ≤ j → j < length rows → (row_at e rows i).last ≡ (row_at e rows j).last → (row_at e rows i).power ≤ (row_at e rows j).power

module _ {V : Type 0} (e : V) (rows : List (State V)) where
  -- the rows up to c have a last space of at most k, the others a larger one
  pub record Cut (k c : ℕ) : Type 0 where
    pub within : c ≤ length rows
    pub below : (i : ℕ) → i < c → (row_at e rows i).last ≤ k
    pub above : (i : ℕ) → c ≤ i → i < length rows → k < (row_at e rows i).last
