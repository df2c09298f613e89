-- For each last space the least used width of a lawful allocation, if there is one: a row of six places. Assumes nothing.
use Rattle.std.specs.Prelude.{◌≡◌, ℕ, ◌+◌, ◌<◌, ◌≤◌, true, List, Some, None, Option, length, slice_index_or}
use Rattle.drawing.specs.declared.words.Grid.{Grid}
use Rattle.drawing.specs.Plans.{Plan}
use Rattle.pricing.specs.Allocations.{Book, is_step_of}
use Rattle.frontier.specs.Bare.{unit_measure}
use Rattle.frontier.specs.Lists.{◌∈◌}
use Rattle.frontier.specs.States.{Kept, states}

-- a number is a step of a grid byte
abbrev pub is_step : ℕ → ℕ → Type 0
is_step byte s = is_step_of byte s ≡ true

-- a width may stand between two spaces
pub record MayStand (book : Book) (widths left right w : ℕ) : Type 0 where
  pub step : is_step widths w
  pub may : book left w right ≡ true

-- there is a number, and it is at most n
abbrev pub AtMost : Option ℕ → ℕ → Type 0
AtMost None n = ⊥
AtMost (Some b) n = b ≤ n

-- the least width between two spaces, if there is one
pub record LeastWidth (book : Book) (widths left right : ℕ) (least : Option ℕ) : Type 0 where
  pub may : (w : ℕ) → least ≡ Some w → MayStand book widths left right w
  pub low : (w : ℕ) → MayStand book widths left right w → AtMost least w

-- the used width at a place of a row, if there is one
abbrev pub used_at : List (Option ℕ) → ℕ → Option ℕ
used_at row i = slice_index_or row i None

-- how a wire was put in: the used width before it, and its width
pub record PutIn (book : Book) (widths channel : ℕ) (before : Option ℕ) (left right used : ℕ) : Type 0 where
  pub was : ℕ
  pub width : ℕ
  pub there : before ≡ Some was
  pub stands : MayStand book widths left right width
  pub sum : used ≡ was + width + right
  pub room : used ≤ channel

-- no wire put in makes a used width below the least, if there is one
abbrev pub NoneBelow : Book → ℕ → ℕ → Option ℕ → ℕ → ℕ → Option ℕ → Type 0
NoneBelow book widths channel before left right least =
    (was w : ℕ) → before ≡ Some was → MayStand book widths left right w → was + w + right ≤ channel → AtMost least (was + w + right)

-- the least used width after one wire more behind one place, if one fits
pub record Behind (book : Book) (widths channel : ℕ) (before : Option ℕ) (left right : ℕ) (least : Option ℕ) : Type 0 where
  pub way : (used : ℕ) → least ≡ Some used → PutIn book widths channel before left right used
  pub low : NoneBelow book widths channel before left right least

-- how a wire was put in behind some place of a row
abbrev pub Way : Book → ℕ → ℕ → List (Option ℕ) → ℕ → ℕ → Type 0
Way book widths channel row right used = (i : ℕ) × PutIn book widths channel (used_at row i) (i + 1) right used

-- the least used width with a given space after one wire more, looked for behind the first places
pub record Into (book : Book) (widths channel : ℕ) (row : List (Option ℕ)) (right count : ℕ) (least : Option ℕ) : Type 0 where
  pub way : (used : ℕ) → least ≡ Some used → Way book widths channel row right used
  pub low : (i : ℕ) → i < count → NoneBelow book widths channel (used_at row i) (i + 1) right least

-- the used width of no wires with a first space, if the channel has room for it
pub record FirstAt (spaces channel space : ℕ) (used : Option ℕ) : Type 0 where
  pub is : (u : ℕ) → used ≡ Some u → is_step spaces space × (u ≡ space) × (space ≤ channel)
  pub low : is_step spaces space → space ≤ channel → AtMost used space

-- the row of no wires
pub record First (spaces channel : ℕ) (row : List (Option ℕ)) : Type 0 where
  pub six : length row ≡ 6
  pub each : (i : ℕ) → i < 6 → FirstAt spaces channel (i + 1) (used_at row i)

-- the least used width with a last space after one wire more, if the grid has the space and a wire fits
pub record PushedAt (book : Book) (grid : Grid) (channel : ℕ) (row : List (Option ℕ)) (space : ℕ) (used : Option ℕ) : Type 0 where
  pub allowed : (u : ℕ) → used ≡ Some u → is_step grid.spaces space
  pub way : (u : ℕ) → used ≡ Some u → Way book grid.widths channel row space u
  pub low : (i : ℕ) → is_step grid.spaces space → NoneBelow book grid.widths channel (used_at row i) (i + 1) space used

-- the row of one wire more
pub record Pushed (book : Book) (grid : Grid) (channel : ℕ) (row next : List (Option ℕ)) : Type 0 where
  pub six : length next ≡ 6
  pub each : (i : ℕ) → i < 6 → PushedAt book grid channel row (i + 1) (used_at next i)

-- the row of a plan
pub record Least (book : Book) (d : Plan) (row : List (Option ℕ)) : Type 0 where
  pub has : (i u : ℕ) → used_at row i ≡ Some u → (s : Kept (Unit {0})) × (s ∈ states unit_measure book d) × (s.last ≡ i + 1) × (s.used ≡ u)
  pub low : (i : ℕ) (s : Kept (Unit {0})) → s ∈ states unit_measure book d → s.last ≡ i + 1 → AtMost (used_at row i) s.used
