-- A measure that writes the values of another in another form shows what the other shows, written so. Assumes nothing.
use Rattle.std.proofs.Common.{◌≡◌, ℕ, zero, suc, ◌+◌, ◌<◌, ◌≤◌, true, ◌&&◌, eqb, leb, List, [], ◌∷◌, map, length, sym, refl, ap, ◌∙◌, arith}
use lib.ListN.{length-map}
use Rattle.drawing.specs.declared.words.Wire.{Wire}
use Rattle.drawing.specs.Lists.{all}
use Rattle.drawing.specs.Plans.{Plan, within_limits}
use Rattle.drawing.specs.Steps.{steps}
use Rattle.measures.specs.Laws.{Laws}
use Rattle.measures.specs.Carried.{Forms}
use Rattle.pricing.specs.Lists.{from_left}
use Rattle.pricing.specs.Allocations.{Laid, Allocation, Book, lay, lawful}
use Rattle.pricing.specs.Measures.{Measure}
use Rattle.pricing.specs.Prices.{join_wire, joined_delay}
use Rattle.pricing.specs.WirePrices.{wire_delay}
use Rattle.frontier.specs.declared.records.Point.{Point}
use Rattle.frontier.specs.Lists.{◌∈◌, undominated, rising}
use Rattle.frontier.specs.Points.{allocations, lawful_allocations, point_of, at_or_below, prices}
use Rattle.frontier.specs.Curves.{power_at, curve}
use Rattle.frontier.specs.States.{Kept, first, state_of, states, state_below, kept, kept_up_to}
use Rattle.frontier.specs.Written.{written, written_state, Written}
use Rattle.frontier.proofs.Members.{and_left, and_right, keep_in}
use Rattle.frontier.proofs.Rows.{uncons}
use Rattle.frontier.proofs.Allocations.{of, among, parts}
use Rattle.frontier.proofs.Reach.{LimitedWires, delay_small, step_small, state_reach}
use Rattle.frontier.proofs.OneCurve.{limited_take, price_reach}
use Rattle.frontier.proofs.Images.{map_agree, map_after, undominated_image, rising_image}

-- norm writes the values of m that are in reach, and n joins and compares them as m does
pub record Writes {V W : Type 0} (m : Measure V) (n : Measure W) (reach : ℕ → V → Type 0) (norm : V → W) : Type 0 where
  pub none : n.empty ≡ norm m.empty
  pub one_more : (k : ℕ) (v : V) (a t : ℕ) → k + 1 ≤ 24 → a < 60000000 → reach k v
      → n.joined (norm v) (n.made a t) ≡ norm (m.joined v (m.made a t))
  pub compared : (k : ℕ) (x y : V) → k ≤ 24 → reach k x → reach k y → n.below (norm x) (norm y) ≡ m.below x y

-- values that are written by norm, read by raw, and read back as they were written
pub forms_write : {V W : Type 0} (m : Measure V) (reach : ℕ → V → Type 0) (none : W) (raw : W → V) (norm : V → W)
    → Laws m.empty m.made m.joined m.below reach → Forms m.empty reach none raw norm
    → Writes m (record { empty = none; made = λ a t. norm (m.made a t); joined = λ x y. norm (m.joined (raw x) (raw y)); below = λ x y. m.below (raw x) (raw y) })
    reach norm
forms_write m reach none raw norm laws f = record {
  none = sym f.norm_empty;
  one_more = λ k v a t few small r.
      let v' = f.back k v (omega arith) r in
      let w' = f.back 1 (m.made a t) (omega arith) (laws.made_reach a t small) in
      λ i. norm (m.joined (v' i) (w' i));
  compared = λ k x y few rx ry.
      let x' = f.back k x few rx in
      let y' = f.back k y few ry in
      λ i. m.below (x' i) (y' i);
}

module _ {V W : Type 0} (m : Measure V) (n : Measure W) (norm : V → W) {reach : ℕ → V → Type 0}
    (laws : Laws m.empty m.made m.joined m.below reach) (w : Writes m n reach norm) where
  -- the wires of a list, joined one by one to a value in reach
  lay_written : (byte : ℕ) (qs : List Wire) (ws : List ℕ) (l : ℕ) (ss : List ℕ) → all within_limits qs ≡ true → all (among (steps byte)) ws ≡ true →
      length ws ≡ length qs → length ss ≡ length qs → (k : ℕ) (v : V) → k + length qs ≤ 24 → reach k v →
      from_left (join_wire n) (norm v) (lay qs ws l ss) ≡ norm (from_left (join_wire m) v (lay qs ws l ss))
  lay_written byte [] ws l ss t u g h k v few r = refl
  lay_written byte (q ∷ qs) [] l ss t u g h k v few r = absurd (omega arith)
  lay_written byte (q ∷ qs) (x ∷ ws) l [] t u g h k v few r = absurd (omega arith)
  lay_written byte (q ∷ qs) (x ∷ ws) l (s ∷ ss) t u g h k v few r =
      let y : Laid = record { wire = q; left = l; width = x; right = s } in
      let small = delay_small y (and_left (within_limits q) (all within_limits qs) t) (step_small byte x (and_left (among (steps byte) x) (all (among (steps byte)) ws) u)) in
      let now = laws.joined_reach k 1 v (m.made (wire_delay y) q.t) (omega arith) r (laws.made_reach (wire_delay y) q.t small) in
      ap (λ z. from_left (join_wire n) z (lay qs ws s ss)) (w.one_more k v (wire_delay y) q.t (omega arith) small r)
      ∙ lay_written byte qs ws s ss (and_right (within_limits q) (all within_limits qs) t) (and_right (among (steps byte) x) (all (among (steps byte)) ws) u)
      (omega arith) (omega arith) (k + 1) (join_wire m v y) (omega arith) now

  module _ (book : Book) (d : Plan) (ok : LimitedWires d.wires) where
    -- the delay of a lawful allocation
    delay_written : (x : Allocation) → lawful book d x ≡ true → joined_delay n d.wires x ≡ norm (joined_delay m d.wires x)
    delay_written x t =
        let p = parts book d x t in
        let c = uncons (length d.wires) x.spaces p.spaces_count in
        let few = ok.few in
        let spaces : x.spaces ≡ c.0 ∷ c.1 = c.2 in
        let same : x ≡ of x.widths (c.0 ∷ c.1) = λ i. record { widths = x.widths; spaces = spaces i } in
        let h = lay_written d.grid.widths d.wires x.widths c.0 c.1 ok.limited p.widths_in p.widths_count c.3 0 m.empty (omega arith) laws.empty_reach in
        ap (joined_delay n d.wires) same
        ∙ ap (λ z. from_left (join_wire n) z (lay d.wires x.widths c.0 c.1)) w.none
        ∙ h
        ∙ sym (ap (λ z. norm (joined_delay m d.wires z)) same)

    -- a listed allocation is lawful
    lawful_in : (x : Allocation) → x ∈ lawful_allocations book d → lawful book d x ≡ true
    lawful_in x i = (keep_in (lawful book d) (allocations d) i).1

    -- the prices
    pub prices_written : prices n book d ≡ map (written norm) (prices m book d)
    prices_written =
        map_agree (point_of n d.wires) (λ x. written norm (point_of m d.wires x)) (lawful_allocations book d)
        (λ x i. let e = delay_written x (lawful_in x i) in λ t. record { power = (point_of m d.wires x).power; delay = e t })
        ∙ map_after (written norm) (point_of m d.wires) (lawful_allocations book d)

    -- the states
    pub states_written : states n book d ≡ map (written_state norm) (states m book d)
    states_written =
        map_agree (state_of n d.wires) (λ x. written_state norm (state_of m d.wires x)) (lawful_allocations book d)
        (λ x i.
        let e = delay_written x (lawful_in x i) in
        let s = state_of m d.wires x in
        λ t. record { last = s.last; used = s.used; power = s.power; delay = e t })
        ∙ map_after (written_state norm) (state_of m d.wires) (lawful_allocations book d)

    -- which of two prices is at or below which
    pub prices_compared : (p q : Point V) → p ∈ prices m book d → q ∈ prices m book d → at_or_below n (written norm p) (written norm q) ≡ at_or_below m p q
    prices_compared p q i j =
        ap (λ b. leb p.power q.power && b)
        (w.compared (length d.wires) p.delay q.delay ok.few (price_reach m laws book d ok p i) (price_reach m laws book d ok q j))

    -- which of two states is at or below which
    states_compared : (s r : Kept V) → s ∈ states m book d → r ∈ states m book d → state_below n (written_state norm s) (written_state norm r) ≡ state_below m s r
    states_compared s r i j =
        ap (λ b. eqb s.last r.last && (leb s.used r.used && (leb s.power r.power && b)))
        (w.compared (length d.wires) s.delay r.delay ok.few (state_reach m laws book d ok s i) (state_reach m laws book d ok r j))

    -- the curve
    pub curve_written : curve n book d ≡ map (written norm) (curve m book d)
    curve_written =
        ap (λ (ps : List (Point W)). rising power_at (undominated (at_or_below n) ps)) prices_written
        ∙ ap (rising power_at) (undominated_image (written norm) (at_or_below m) (at_or_below n) (prices m book d) prices_compared)
        ∙ rising_image (written norm) power_at power_at (λ p. refl) (undominated (at_or_below m) (prices m book d))

    -- the undominated states
    front_written : undominated (state_below n) (states n book d) ≡ map (written_state norm) (undominated (state_below m) (states m book d))
    front_written =
        ap (undominated (state_below n)) states_written
        ∙ undominated_image (written_state norm) (state_below m) (state_below n) (states m book d) states_compared

  module _ (book : Book) (d : Plan) (ok : LimitedWires d.wires) where
    -- the kept states of each stage
    pub kept_written : (j : ℕ) → kept n book d j ≡ map (written_state norm) (kept m book d j)
    kept_written j = front_written book (first j d) (limited_take j d.wires ok)

    -- their number
    count_written : (j : ℕ) → length (kept n book d j) ≡ length (kept m book d j)
    count_written j = ap length (kept_written j) ∙ length-map (kept m book d j) (written_state norm)

    -- their number over the stages
    up_to_written : (j : ℕ) → kept_up_to n book d j ≡ kept_up_to m book d j
    up_to_written zero = count_written zero
    up_to_written (suc j) =
        let before = up_to_written j in
        let now = count_written (suc j) in
        λ i. before i + now i

    -- all that a plan shows
    pub all_written : Written m n norm book d
    all_written = record {
      each_price = prices_written book d ok;
      order = prices_compared book d ok;
      whole_curve = curve_written book d ok;
      each_row = kept_written;
      count = up_to_written (length d.wires);
    }
