-- The state table of a solve, the order in which a stage's states stand, what is offered to the next stage, and what of
-- it a stage that is being built holds. Assumes nothing.
use Rattle.std.specs.Prelude.{◌≡◌, ℕ, ◌+◌, ◌-◌, ◌*◌, ◌/◌, ◌%◌, ◌<◌, ◌≤◌, Bool, true, false, cond, ◌⊎◌, ◌↔◌, List, map, length, get_or, take, Some, None, Option, ◌≢◌, nat_lt, slice_index, slice_index_or, slice_range, slice_set}
use Rattle.drawing.specs.declared.words.Grid.{Grid}
use Rattle.drawing.specs.declared.words.Wire.{Wire}
use Rattle.drawing.specs.Plans.{within_limits}
use Rattle.pricing.specs.Allocations.{Laid, Book, is_step_of}
use Rattle.pricing.specs.Measures.{Measure}
use Rattle.frontier.specs.declared.records.State.{State}
use Rattle.frontier.specs.Lists.{◌∈◌, Fresh, each, undominated}
use Rattle.frontier.specs.Orders.{blank_state, upto}
use Rattle.frontier.specs.States.{Kept, kept_of, state_below}
use Rattle.frontier.specs.Stages.{extended, may_follow, extensions}

-- the wire q of width w between the spaces l and r
abbrev pub laid_as : Wire → ℕ → ℕ → ℕ → Laid
laid_as q l w r = record { wire = q; left = l; width = w; right = r }

-- a number from 1 to 6
abbrev pub Step : ℕ → Type 0
Step s = (1 ≤ s) × (s ≤ 6)

-- a wire that can be laid
pub record Laying (q : Wire) (l w r : ℕ) : Type 0 where
  pub fits : within_limits q ≡ true
  pub left : Step l
  pub width : Step w
  pub right : Step r

-- the state that the code holds of what counts x, where the last wire has the width w and the state at i is extended
abbrev pub stated : {V : Type 0} → Kept V → ℕ → ℕ → State V
stated x w i = record { last = x.last; used = x.used; power = x.power; delay = x.delay; width = w; from = i }

-- what counts of the states at the places from a on and before b
abbrev pub rows : {V : Type 0} → List (State V) → ℕ → ℕ → List (Kept V)
rows t a b = map kept_of (slice_range t a b)

-- the first place from i on and before b whose last space is l, or b
pub record Skipped {V : Type 0} (t : List (State V)) (i b l r : ℕ) : Type 0 where
  pub low : i ≤ r
  pub high : r ≤ b
  pub passed : (k : ℕ) (d : State V) → i ≤ k → k < r → (get_or t k d).last ≢ l
  pub found : (d : State V) → r < b → (get_or t r d).last ≡ l

-- where the stream k of the space s begins
pub record Opened {V : Type 0} (book : Book) (grid : Grid) (t : List (State V)) (a b s k h : ℕ) : Type 0 where
  pub low : a ≤ h
  pub high : h ≤ b
  pub last : (d : State V) → h < b → (get_or t h d).last ≡ k / 6 + 1
  pub lawful : h < b → (is_step_of grid.widths (k % 6 + 1) ≡ true) × (book (k / 6 + 1) (k % 6 + 1) s ≡ true)
  pub none : (i : ℕ) (d : State V) → a ≤ i → i < h → (get_or t i d).last ≡ k / 6 + 1 → is_step_of grid.widths (k % 6 + 1) ≡ true → book (k / 6 + 1) (k % 6 + 1) s ≢ true

-- a place, if there is one, is below n
abbrev pub Inside : Option ℕ → ℕ → Type 0
Inside None n = Unit {0}
Inside (Some k) n = k < n

-- the head of stream k has moved on
pub record Moved (heads heads' : List ℕ) (k b : ℕ) : Type 0 where
  pub to : ℕ
  pub is : heads' ≡ slice_set heads k to
  pub on : get_or heads k 0 < to
  pub high : to ≤ b

-- the stream k is not at its end
abbrev pub Live : List ℕ → ℕ → ℕ → Type 0
Live heads b k = (k < 36) × (slice_index heads k < b)

module _ {V : Type 0} (m : Measure V) where
  -- what stands past the end of a table
  abbrev pub blank : State V
  blank = blank_state m.empty

  -- the state at a place
  abbrev pub slot : List (State V) → ℕ → State V
  slot t i = slice_index_or t i blank

  -- what counts of the state at a place
  abbrev pub at : List (State V) → ℕ → Kept V
  at t i = kept_of (slice_index_or t i blank)

  -- what the states of a stage keep that has a wire to come
  pub record Fit (reach : ℕ → V → Type 0) (channel : ℕ) (s : Kept V) : Type 0 where
    pub last : Step s.last
    pub used : s.used ≤ channel
    pub power : s.power ≤ 11520000
    pub near : (k : ℕ) × (k ≤ 23) × reach k s.delay

  -- the states of a stage at the places from a on and before b, those of one last space in order
  pub record Standing (reach : ℕ → V → Type 0) (channel : ℕ) (t : List (State V)) (a b : ℕ) : Type 0 where
    pub fit : (i : ℕ) → a ≤ i → i < b → Fit reach channel (at t i)
    pub ordered : (i k : ℕ) → a ≤ i → i < k → k < b → (at t i).last ≡ (at t k).last → upto m (at t i) (at t k) ≡ true

  -- the head h of stream k
  pub record Head (t : List (State V)) (a b k h : ℕ) : Type 0 where
    pub high : h ≤ b
    pub low : a ≤ h
    pub last : h < b → (at t h).last ≡ k / 6 + 1

  -- what the head of stream k offers
  abbrev pub head_offer : Wire → List (State V) → List ℕ → ℕ → ℕ → Kept V
  head_offer q t heads s k = extended m q (at t (slice_index heads k)) (k % 6 + 1) s

  -- of the first n streams, the one whose head comes first
  abbrev pub Least : Wire → List (State V) → ℕ → List ℕ → ℕ → ℕ → Option ℕ → Type 0
  Least q t b heads s n None = (k : ℕ) → k < n → b ≤ slice_index heads k
  Least q t b heads s n (Some r) = (r < n) × (slice_index heads r < b) × ((k : ℕ) → k < n → slice_index heads k < b → upto m (head_offer q t heads s r) (head_offer q t heads s k) ≡ true)

  -- what it takes to read the heads of the streams
  pub record Ready (reach : ℕ → V → Type 0) (q : Wire) (t : List (State V)) (b : ℕ) (heads : List ℕ) (s : ℕ) : Type 0 where
    pub fits : within_limits q ≡ true
    pub space : Step s
    pub high : b ≤ length t
    pub fit : (k : ℕ) → k < 36 → slice_index heads k < b → Fit reach 300 (at (take b t) (slice_index heads k)) × ((at (take b t) (slice_index heads k)).last ≡ k / 6 + 1)

  -- whether a state of the places b up to end is at or below x
  abbrev pub Beaten : List (State V) → ℕ → ℕ → Kept V → Bool → Type 0
  Beaten t b end x true = (k : ℕ) × (b ≤ k) × (k < end) × (state_below m (at t k) x ≡ true)
  Beaten t b end x false = (k : ℕ) → b ≤ k → k < end → state_below m (at t k) x ≢ true

  -- the place of the lesser delay: of the state at a place, if there is one, and of one at the place end
  abbrev pub lesser : List (State V) → ℕ → Option ℕ → V → Option ℕ
  lesser t end None v = Some end
  lesser t end (Some k) v = cond (m.below (at t k).delay v) (Some k) (Some end)

  -- with a state noted, at the used width u
  abbrev pub noted : List (State V) → ℕ → Option ℕ → ℕ → ℕ → V → Option ℕ
  noted t end o u used delay = cond (nat_lt u used) o (lesser t end o delay)

  -- whether the state at a place, if there is one, has a delay not above v
  abbrev pub behind : List (State V) → Option ℕ → V → Bool
  behind t None v = false
  behind t (Some k) v = m.below (at t k).delay v

  -- the place of the least delay of the states of space s, at the places b up to end, whose used width is at most u
  abbrev pub LeastPlace : List (State V) → ℕ → ℕ → ℕ → ℕ → Option ℕ → Type 0
  LeastPlace t b end s u None = (k : ℕ) → b ≤ k → k < end → (at t k).last ≡ s → u < (at t k).used
  LeastPlace t b end s u (Some v) =
      (b ≤ v) × (v < end) × ((at t v).last ≡ s) × ((at t v).used ≤ u)
      × ((k : ℕ) → b ≤ k → k < end → (at t k).last ≡ s → (at t k).used ≤ u → m.below (at t v).delay (at t k).delay ≡ true)

  -- the places of the least delays, by used width
  abbrev pub Leasts : List (State V) → ℕ → ℕ → ℕ → List (Option ℕ) → Type 0
  Leasts t b end s least = (u : ℕ) → u < 301 → LeastPlace t b end s u (slice_index_or least u None)

  -- the same up to the end that is told, if there is one
  abbrev pub LeastsIf : List (State V) → ℕ → ℕ → List (Option ℕ) → Option ℕ → Type 0
  LeastsIf t b s least None = Unit {0}
  LeastsIf t b s least (Some end) = Leasts t b end s least

  -- a stage with its wire to come
  pub record Task (reach : ℕ → V → Type 0) (channel : ℕ) (q : Wire) (t : List (State V)) (a b : ℕ) : Type 0 where
    pub fits : within_limits q ≡ true
    pub narrow : channel ≤ 300
    pub low : a ≤ b
    pub high : b ≤ length t
    pub standing : Standing reach channel (take b t) a b

  module _ (book : Book) (grid : Grid) (channel : ℕ) (q : Wire) (t : List (State V)) (a b : ℕ) where
    -- the wire q of width w behind the state at i, with the space r after it
    abbrev pub offer : ℕ → ℕ → ℕ → Kept V
    offer i w r = extended m q (at t i) w r

    -- the places and numbers whose offer is lawful
    pub record Offered (i w r : ℕ) : Type 0 where
      pub low : a ≤ i
      pub high : i < b
      pub width : Step w
      pub width_in : is_step_of grid.widths w ≡ true
      pub space : Step r
      pub space_in : is_step_of grid.spaces r ≡ true
      pub follows : may_follow book channel (at t i) w r ≡ true

    -- a state of the new stage: an offer, and which
    pub record Made (x : State V) : Type 0 where
      pub offered : Offered x.from x.width x.last
      pub is : kept_of x ≡ offer x.from x.width x.last

    -- the places b up to end of t' hold what is kept of the offers that are done; s is the space whose turn it is
    pub record Sifted (Done : ℕ → ℕ → ℕ → Type 0) (s : ℕ) (t' : List (State V)) (end : ℕ) : Type 0 where
      pub made : (k : ℕ) → b ≤ k → k < end → Made (slot t' k)
      pub alone : (k : ℕ) → b ≤ k → k < end → (i w r : ℕ) → Offered i w r → state_below m (offer i w r) (at t' k) ≡ true → offer i w r ≡ at t' k
      pub covered : (i w r : ℕ) → Offered i w r → Done i w r → (k : ℕ) × (b ≤ k) × (k < end) × (state_below m (at t' k) (offer i w r) ≡ true)
      pub fresh : (k k' : ℕ) → b ≤ k → k < k' → k' < end → at t' k ≢ at t' k'
      pub lasts : (k : ℕ) → b ≤ k → k < end → (at t' k).last ≤ s
      pub later : (k : ℕ) → b ≤ k → k < end → (at t' k).last ≡ s → (i w : ℕ) → Offered i w s → (Done i w s → ⊥) → upto m (at t' k) (offer i w s) ≡ true
      pub ordered : (k k' : ℕ) → b ≤ k → k < k' → k' < end → ((at t' k).last ≤ (at t' k').last) × ((at t' k).last ≡ (at t' k').last → upto m (at t' k) (at t' k') ≡ true)

    -- the spaces before s are done
    abbrev pub Before : ℕ → ℕ → ℕ → ℕ → Type 0
    Before s i w r = r < s

    -- the stream of a last space and a width
    abbrev pub stream : ℕ → ℕ → ℕ
    stream l w = (l - 1) * 6 + (w - 1)

    -- the offers that are done in the turn of s: those of the spaces before s, and those of s before the head of their stream
    abbrev pub Ahead : List ℕ → ℕ → ℕ → ℕ → ℕ → Type 0
    Ahead heads s i w r = (r < s) ⊎ ((r ≡ s) × (i < slice_index heads (stream (at t i).last w)))

    -- what counts of all offers
    abbrev pub all_offers : List (Kept V)
    all_offers = each (extensions m book grid channel q) (rows t a b)

    -- the list of the new stage, as the next stage wants it
    pub record Next (t' : List (State V)) (end : ℕ) : Type 0 where
      pub low : b ≤ end
      pub high : end ≤ length t'
      pub made : (k : ℕ) → b ≤ k → k < end → Made (slot t' k)
      pub exactly : (s : Kept V) → (s ∈ rows t' b end) ↔ (s ∈ undominated (state_below m) all_offers)
      pub fresh : Fresh (rows t' b end)
      pub ordered : (k k' : ℕ) → b ≤ k → k < k' → k' < end → (at t' k).last ≡ (at t' k').last → upto m (at t' k) (at t' k') ≡ true

    -- the states that the new stage keeps outnumber the room
    abbrev pub Outnumber : ℕ → Type 0
    Outnumber room = room < length (undominated (state_below m) all_offers)

    -- in the turn of the space s, with the heads of its streams
    pub record Turn (s : ℕ) (heads : List ℕ) (t' : List (State V)) (end : ℕ) : Type 0 where
      pub sifted : Sifted (Ahead heads s) s t' end
      pub heads_fit : (k : ℕ) → k < 36 → Head t a b k (slice_index heads k)
      pub lawful : (k : ℕ) → k < 36 → slice_index heads k < b → (is_step_of grid.widths (k % 6 + 1) ≡ true) × (book (k / 6 + 1) (k % 6 + 1) s ≡ true)
      pub low : b ≤ end
      pub high : end ≤ length t'
      pub front : take b t' ≡ t

    -- in the turn of the space s, or out of room
    abbrev pub Turned : ℕ → List ℕ → List (State V) → Option ℕ → Type 0
    Turned s heads t' None = Outnumber (length t' - b)
    Turned s heads t' (Some end) = Turn s heads t' end

    -- between the turns: the spaces before s are done
    pub record Between (s : ℕ) (t' : List (State V)) (end : ℕ) : Type 0 where
      pub sifted : Sifted (Before s) s t' end
      pub earlier : (k : ℕ) → b ≤ k → k < end → (at t' k).last < s
      pub low : b ≤ end
      pub high : end ≤ length t'
      pub front : take b t' ≡ t

    -- between the turns, or out of room
    abbrev pub Filled : ℕ → List (State V) → Option ℕ → Type 0
    Filled s t' None = Outnumber (length t' - b)
    Filled s t' (Some end) = Between s t' end
