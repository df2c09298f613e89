-- The point table and the strip after the curve is written, and while it is. Assumes nothing.
use Rattle.std.specs.Prelude.{◌≡◌, ℕ, suc, ◌-◌, ◌*◌, ◌<◌, ◌≤◌, true, List, ◌++◌, map, length, take, drop, replicate, None, slice_index_or}
use Rattle.drawing.specs.Plans.{Plan, Sound}
use Rattle.pricing.specs.Allocations.{Allocation, Book, lawful}
use Rattle.pricing.specs.Measures.{Measure}
use Rattle.frontier.specs.declared.records.Point.{Point}
use Rattle.frontier.specs.declared.records.State.{State}
use Rattle.frontier.specs.Orders.{blank_point}
use Rattle.frontier.specs.Points.{point_of}
use Rattle.frontier.specs.Curves.{curve}
use Rattle.frontier.specs.States.{kept_of, KeptRow}
use Rattle.solver.specs.Front.{row_at, point_in, points_in, front}
use Rattle.solver.specs.Strips.{row_bytes}
use Rattle.solver.specs.Trail.{path_to, Chained}

module _ {V : Type 0} where
  -- the row i of the strip is the witness of a row of the last stage that has the point's price
  pub record HasWitness (e : V) (table : List (State V)) (first wires : ℕ) (all_points : List (Point V)) (strip : List ℕ) (i : ℕ) : Type 0 where
    pub slot : ℕ
    pub from : first ≤ slot
    pub to : slot < length table
    pub priced : point_in (row_at e table slot) ≡ slice_index_or all_points i (blank_point e)
    pub bytes : take 49 (drop (49 * i) strip) ≡ row_bytes (path_to e table wires slot)

  -- the first n points are written, with their witnesses; the rest is blank
  pub record Filled (e : V) (table : List (State V)) (first wires : ℕ) (all_points : List (Point V)) (n : ℕ) (slots room : ℕ) (points : List (Point V)) (strip : List ℕ) : Type 0 where
    pub within : n ≤ length all_points
    pub on_curve : points ≡ take n all_points ++ replicate (slots - n) (blank_point e)
    pub long : length strip ≡ room
    pub witness : (i : ℕ) → i < n → HasWitness e table first wires all_points strip i
    pub rest_blank : drop (49 * n) strip ≡ replicate (room - 49 * n) 0

-- what solve promises of the point table and the strip, in the subject's words
pub record Shown {V : Type 0} (m : Measure V) (e : V) (book : Book) (d : Plan) (n slots room : ℕ) (points : List (Point V)) (strip : List ℕ) : Type 0 where
  pub count : n ≡ length (curve m book d)
  pub on_curve : points ≡ curve m book d ++ replicate (slots - n) (blank_point e)
  pub long : length strip ≡ room
  pub witness : (i : ℕ) → i < n → (x : Allocation) × (lawful book d x ≡ true) × (point_of m d.wires x ≡ slice_index_or (curve m book d) i (blank_point e)) × (take 49 (drop (49 * i) strip) ≡ row_bytes x)
  pub rest_blank : drop (49 * n) strip ≡ replicate (room - 49 * n) 0

-- the table's rows are chained and those of the last stage are its kept states: then what is written is the curve with its witnesses
abbrev pub FilledShown : {V : Type 0} → Measure V → V → Type 0
FilledShown {V} m e =
    (book : Book) (d : Plan) → Sound d → (table : List (State V)) (cut : ℕ → ℕ) → Chained m book d e table cut (length d.wires) → cut (suc (length d.wires)) ≡ length table →
    KeptRow m book d (map kept_of (drop (cut (length d.wires)) table)) →
    (n slots room : ℕ) (points : List (Point V)) (strip : List ℕ) → n ≡ length (front m None (points_in (drop (cut (length d.wires)) table))) →
    Filled e table (cut (length d.wires)) (length d.wires) (front m None (points_in (drop (cut (length d.wires)) table))) n slots room points strip →
    Shown m e book d n slots room points strip
