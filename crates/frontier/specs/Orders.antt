-- The order in which states and points stand in their lists, what a blank one is, and where a new one belongs. Assumes nothing.
use Rattle.std.specs.Prelude.{ℕ, suc, ◌+◌, ◌-◌, Bool, cond, ◌&&◌, ◌||◌, List, [], ◌∷◌, ◌++◌, reverse, take, drop, ◌==◌, nat_lt}
use Rattle.std.specs.List.{insert, between}
use Rattle.pricing.specs.Measures.{Measure}
use Rattle.frontier.specs.declared.records.Point.{Point}
use Rattle.frontier.specs.declared.records.State.{State}
use Rattle.frontier.specs.States.{Kept, kept_of}

-- a state of noughts, with the value of no wire
abbrev pub blank_state : {V : Type 0} → V → State V
blank_state e = record { from = 0; power = 0; used = 0; delay = e; last = 0; width = 0 }

-- a point of no power, with the value of no wire
abbrev pub blank_point : {V : Type 0} → V → Point V
blank_point e = record { power = 0; delay = e }

module _ {V : Type 0} (m : Measure V) where
  -- of states of one last space, the first comes no later: by power, then used width, then delay
  abbrev pub upto : Kept V → Kept V → Bool
  upto x y =
      nat_lt x.power y.power
      || (x.power == y.power && (nat_lt x.used y.used || (x.used == y.used && m.below x.delay y.delay)))

  -- of any two, the first comes no later: by last space, then as above
  abbrev pub kept_upto : Kept V → Kept V → Bool
  kept_upto x y = nat_lt x.last y.last || (x.last == y.last && upto x y)

  -- the same of two states as the code holds them
  abbrev pub state_upto : State V → State V → Bool
  state_upto x y = kept_upto (kept_of x) (kept_of y)

  -- the first point comes no later: by power, then by delay
  abbrev pub point_upto : Point V → Point V → Bool
  point_upto p q = nat_lt p.power q.power || (p.power == q.power && m.below p.delay q.delay)

module _ {A : Type 0} where
  -- how many at the front of a list do not come up to x, before the first that does
  abbrev pub front_above : (A → A → Bool) → A → List A → ℕ
  front_above order x [] = 0
  front_above order x (y ∷ ys) = cond (order y x) 0 (front_above order x ys + 1)

  -- the same from the high end: how many stand above x there
  abbrev pub high_above : (A → A → Bool) → A → List A → ℕ
  high_above order x ys = front_above order x (reverse ys)

  -- x put at the place i of the places before n: what stands there from i on moves one place up, over the place n
  abbrev pub put_at : List A → ℕ → ℕ → A → List A
  put_at xs i n x = insert (take n xs) i x ++ drop (suc n) xs

  -- x put among the places from a on and before n, below those at their high end that stand above it
  abbrev pub put_in_order : (A → A → Bool) → List A → ℕ → ℕ → A → List A
  put_in_order order xs a n x = put_at xs (n - high_above order x (between a n xs)) n x
