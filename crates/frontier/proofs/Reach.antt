-- Each wire's delay is below 60,000,000, so a lawful allocation's delay is in reach of its wires. Assumes nothing.
use Rattle.std.proofs.Common.{◌≡◌, ℕ, suc, ◌+◌, ◌*◌, ◌/◌, ◌<◌, ◌≤◌, true, leb, List, [], ◌∷◌, length, sym, refl, ap, ◌∙◌, subst, mul-le-mul, div-le_self, arith}
use Rattle.std.proofs.lemmas.Bool.{leb-true}
use Rattle.drawing.specs.declared.words.Wire.{Wire}
use Rattle.drawing.specs.Lists.{all}
use Rattle.drawing.specs.Plans.{Plan, Sound, within_limits}
use Rattle.drawing.specs.Steps.{all_steps, has_step, steps}
use Rattle.measures.specs.Laws.{Laws}
use Rattle.pricing.specs.Lists.{from_left}
use Rattle.pricing.specs.Allocations.{Laid, Book, lay}
use Rattle.pricing.specs.Measures.{Measure}
use Rattle.pricing.specs.Prices.{join_wire}
use Rattle.pricing.specs.WirePrices.{wire_delay}
use Rattle.pricing.proofs.Limits.{limited}
use Rattle.frontier.specs.Lists.{◌∈◌}
use Rattle.frontier.specs.States.{Kept, state_of, states}
use Rattle.frontier.proofs.Members.{and_left, and_right, all_in, keep_in}
use Rattle.frontier.proofs.Rows.{uncons}
use Rattle.frontier.proofs.Allocations.{of, among, among_in, parts, states_in}

-- what a sound plan says of its wires
pub record LimitedWires (qs : List Wire) : Type 0 where
  pub few : length qs ≤ 24
  pub limited : all within_limits qs ≡ true

-- the wires of a sound plan
pub limited_wires : (d : Plan) → Sound d → LimitedWires d.wires
limited_wires d ok = record { few = ok.few; limited = ok.limited }

-- a step of a grid byte is at most 6
pub step_small : (byte w : ℕ) → among (steps byte) w ≡ true → w ≤ 6
step_small byte w t = leb-true w 6 (all_in (λ s. leb s 6) {xs = all_steps} (keep_in (has_step byte) all_steps (among_in (steps byte) w t)).0 refl)

-- the delay of a wire within its limits, of a width of at most 6, is below 60,000,000
pub delay_small : (y : Laid) → within_limits y.wire ≡ true → y.width ≤ 6 → wire_delay y < 60000000
delay_small y t h =
    let q = y.wire in
    let w = y.width in
    let f = limited q t in
    let bw : q.b * w ≤ 6000 = mul-le-mul f.b h in
    let g60 : 60 * q.g ≤ 60000 = omega (arith, f.g) in
    let gw : 60 * q.g * (60 / w) ≤ 3600000 = mul-le-mul g60 (div-le_self 60 w) in
    let ew : q.e * (60 / w) ≤ 60000 = mul-le-mul f.e (div-le_self 60 w) in
    let d60 : 60 * q.d + q.e * (60 / w) ≤ 120000 = omega (arith, f.d) in
    let sides : 60 / y.left + 60 / y.right ≤ 120 = omega (arith, div-le_self 60 y.left, div-le_self 60 y.right) in
    let de : (60 * q.d + q.e * (60 / w)) * (60 / y.left + 60 / y.right) ≤ 14400000 = mul-le-mul d60 sides in
    omega (arith, f.a)

module _ {V : Type 0} (m : Measure V) {reach : ℕ → V → Type 0} (laws : Laws m.empty m.made m.joined m.below reach) where
  -- the wires of a list, joined one by one to a value in reach of k wires
  lay_reach : (byte : ℕ) (qs : List Wire) (ws : List ℕ) (l : ℕ) (ss : List ℕ) → all within_limits qs ≡ true → all (among (steps byte)) ws ≡ true →
      length ws ≡ length qs → length ss ≡ length qs → (k : ℕ) (v : V) → k + length qs ≤ 24 → reach k v → reach (k + length qs) (from_left (join_wire m) v (lay qs ws l ss))
  lay_reach byte [] ws l ss t u g h k v few r = let e : k ≡ k + 0 = omega arith in subst (λ (n : ℕ). reach n v) e r
  lay_reach byte (q ∷ qs) [] l ss t u g h k v few r = absurd (omega arith)
  lay_reach byte (q ∷ qs) (w ∷ ws) l [] t u g h k v few r = absurd (omega arith)
  lay_reach byte (q ∷ qs) (w ∷ ws) l (s ∷ ss) t u g h k v few r =
      let y : Laid = record { wire = q; left = l; width = w; right = s } in
      let small = delay_small y (and_left (within_limits q) (all within_limits qs) t) (step_small byte w (and_left (among (steps byte) w) (all (among (steps byte)) ws) u)) in
      let now = laws.joined_reach k 1 v (m.made (wire_delay y) q.t) (omega arith) r (laws.made_reach (wire_delay y) q.t small) in
      let rest = lay_reach byte qs ws s ss (and_right (within_limits q) (all within_limits qs) t) (and_right (among (steps byte) w) (all (among (steps byte)) ws) u)
      (omega arith) (omega arith) (k + 1) (join_wire m v y) (omega arith) now in
      let e : k + 1 + length qs ≡ k + suc (length qs) = omega arith in
      subst (λ (n : ℕ). reach n (from_left (join_wire m) (join_wire m v y) (lay qs ws s ss))) e rest

  -- the delay of a lawful allocation
  pub state_reach : (book : Book) (d : Plan) → LimitedWires d.wires → (s : Kept V) → s ∈ states m book d → reach (length d.wires) s.delay
  state_reach book d ok s i =
      let r = states_in m book d i in
      let x = r.0 in
      let p = parts book d x r.1 in
      let few = ok.few in
      let c = uncons (length d.wires) x.spaces p.spaces_count in
      let spaces : x.spaces ≡ c.0 ∷ c.1 = c.2 in
      let same : x ≡ of x.widths (c.0 ∷ c.1) = λ i. record { widths = x.widths; spaces = spaces i } in
      let e : state_of m d.wires x ≡ state_of m d.wires (of x.widths (c.0 ∷ c.1)) = ap (state_of m d.wires) same in
      let h = lay_reach d.grid.widths d.wires x.widths c.0 c.1 ok.limited p.widths_in p.widths_count c.3 0 m.empty (omega arith) laws.empty_reach in
      let z : 0 + length d.wires ≡ length d.wires = omega arith in
      subst (λ (v : Kept V). reach (length d.wires) v.delay) (sym (r.2 ∙ e)) (subst (λ (n : ℕ). reach n (from_left (join_wire m) m.empty (lay d.wires x.widths c.0 c.1))) z h)
