-- The power-delay curve of a plan, as a list that is computed and as a relation. Assumes nothing.
use Rattle.std.specs.Prelude.{◌≡◌, ℕ, true, List}
use Rattle.drawing.specs.Plans.{Plan}
use Rattle.pricing.specs.Allocations.{Allocation, Book, lawful}
use Rattle.pricing.specs.Measures.{Measure}
use Rattle.frontier.specs.declared.records.Point.{Point}
use Rattle.frontier.specs.Lists.{◌∈◌, undominated, rising, Rising}
use Rattle.frontier.specs.Points.{point_of, at_or_below, prices}

-- the power of a point
abbrev pub power_at : {V : Type 0} → Point V → ℕ
power_at p = p.power

module _ {V : Type 0} (m : Measure V) where
  -- the distinct prices of lawful allocations with no other at or below in both, power rising
  abbrev pub curve : Book → Plan → List (Point V)
  curve book d = rising power_at (undominated (at_or_below m) (prices m book d))

  -- a list of points is the curve: each lawful allocation, whatever its widths and spaces, has a point at or below its price; each
  -- point is the price of a lawful allocation; no other point is at or below it in both; power rises strictly
  pub record IsCurve (book : Book) (d : Plan) (points : List (Point V)) : Type 0 where
    pub covers : (x : Allocation) → lawful book d x ≡ true
        → (p : Point V) × (p ∈ points) × (at_or_below m p (point_of m d.wires x) ≡ true)
    pub attained : (p : Point V) → p ∈ points
        → (x : Allocation) × (lawful book d x ≡ true) × (point_of m d.wires x ≡ p)
    pub alone : (p q : Point V) → p ∈ points → q ∈ points → at_or_below m q p ≡ true → q ≡ p
    pub in_order : Rising power_at points

  -- the computed curve is the curve
  abbrev pub CurveIs : Book → Plan → Type 0
  CurveIs book d = IsCurve book d (curve book d)

  -- only one list is the curve
  abbrev pub CurveIsOne : Book → Plan → Type 0
  CurveIsOne book d = (xs ys : List (Point V)) → IsCurve book d xs → IsCurve book d ys → xs ≡ ys
