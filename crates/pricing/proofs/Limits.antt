-- What the limits of a wire say of its numbers, and how large the parts of its prices can be. Assumes nothing.
use Rattle.std.proofs.Common.{◌≡◌, ℕ, ◌+◌, ◌*◌, ◌/◌, ◌<◌, ◌≤◌, Bool, true, false, ◌&&◌, leb, List, [], ◌∷◌, is_some, refl, ◌∙◌, mul-le-mul, div-le_self, arith, w32, Fits}
use Rattle.std.proofs.lemmas.Bool.{and_parts, leb-true, ltb-false, not-true, or_parts}
use Rattle.drawing.specs.declared.words.Wire.{Wire}
use Rattle.drawing.specs.Lists.{first_from}
use Rattle.drawing.specs.Plans.{excesses, within_limits}
use Rattle.rules.specs.Steps.{step, three_steps}
use Rattle.pricing.specs.Allocations.{Laid}
use Rattle.pricing.specs.Lists.{some_is}
use Rattle.pricing.specs.WirePrices.{wire_delay, wire_power}

-- there is a first `true` where there is one
some_first : (n : ℕ) (bs : List Bool) → some_is (λ b. b) bs ≡ is_some (first_from n bs)
some_first n [] = refl
some_first n (true ∷ bs) = refl
some_first n (false ∷ bs) = some_first (n + 1) bs

-- the numbers of a wire within its limits
pub record Limited (q : Wire) : Type 0 where
  pub a : q.a ≤ 1000
  pub b : q.b ≤ 1000
  pub g : q.g ≤ 1000
  pub d : q.d ≤ 1000
  pub e : q.e ≤ 1000
  pub k : q.k ≤ 1000
  pub h : q.h ≤ 1000
  pub t : q.t ≤ 60000000

pub limited : (q : Wire) → within_limits q ≡ true → Limited q
limited q w =
    let none : some_is (λ b. b) (excesses q) ≡ false = some_first 0 (excesses q) ∙ not-true _ w in
    let a = or_parts _ _ none in
    let b = or_parts _ _ a.1 in
    let g = or_parts _ _ b.1 in
    let d = or_parts _ _ g.1 in
    let e = or_parts _ _ d.1 in
    let k = or_parts _ _ e.1 in
    let h = or_parts _ _ k.1 in
    let t = or_parts _ _ h.1 in
    record {
      a = ltb-false _ _ a.0;
      b = ltb-false _ _ b.0;
      g = ltb-false _ _ g.0;
      d = ltb-false _ _ d.0;
      e = ltb-false _ _ e.0;
      k = ltb-false _ _ k.0;
      h = ltb-false _ _ h.0;
      t = ltb-false _ _ t.0;
    }

-- the second of three steps is at most 6
width_most : (l w r : ℕ) → three_steps l w r ≡ true → w ≤ 6
width_most l w r h =
    let others = (and_parts (step l) (step w && step r) h).1 in
    let this = (and_parts (step w) (step r) others).0 in
    leb-true w 6 (and_parts (leb 1 w) (leb w 6) this).1

-- how large the parts of a wire's delay can be
pub record DelayParts (q : Wire) (l w r : ℕ) : Type 0 where
  pub own : 3600 * (q.a + q.b * w) ≤ 25200000
  pub narrow : 60 * q.g * (60 / w) ≤ 3600000
  pub beside : 60 * q.d + q.e * (60 / w) ≤ 120000
  pub left : 60 / l ≤ 60
  pub width : 60 / w ≤ 60
  pub right : 60 / r ≤ 60

pub delay_parts : (q : Wire) (l w r : ℕ) → within_limits q ≡ true → three_steps l w r ≡ true → DelayParts q l w r
delay_parts q l w r fit on-steps =
    let f = limited q fit in
    let bw : q.b * w ≤ 6000 = mul-le-mul f.b (width_most l w r on-steps) in
    let g60 : 60 * q.g ≤ 60000 = omega (arith, f.g) in
    let ew : q.e * (60 / w) ≤ 60000 = mul-le-mul f.e (div-le_self 60 w) in
    record {
      own = omega (arith, f.a);
      narrow = mul-le-mul g60 (div-le_self 60 w);
      beside = omega (arith, f.d);
      left = div-le_self 60 l;
      width = div-le_self 60 w;
      right = div-le_self 60 r;
    }

-- how large the parts of a wire's power can be
pub record PowerParts (q : Wire) (l w r : ℕ) : Type 0 where
  pub k : q.k ≤ 1000
  pub own : 60 * q.k * w ≤ 360000
  pub h : q.h ≤ 1000
  pub left : 60 / l ≤ 60
  pub right : 60 / r ≤ 60

pub power_parts : (q : Wire) (l w r : ℕ) → within_limits q ≡ true → three_steps l w r ≡ true → PowerParts q l w r
power_parts q l w r fit on-steps =
    let f = limited q fit in
    let k60 : 60 * q.k ≤ 60000 = omega (arith, f.k) in
    record {
      k = f.k;
      own = mul-le-mul k60 (width_most l w r on-steps);
      h = f.h;
      left = div-le_self 60 l;
      right = div-le_self 60 r;
    }

-- every delay of a wire within its limits on steps is below 60,000,000
pub delay_small : (y : Laid) → within_limits y.wire ≡ true → three_steps y.left y.width y.right ≡ true → wire_delay y < 60000000
delay_small y fit on-steps =
    let parts = delay_parts y.wire y.left y.width y.right fit on-steps in
    let sides : 60 / y.left + 60 / y.right ≤ 120 = omega arith in
    omega (arith, mul-le-mul parts.beside sides)

-- every power of a wire within its limits on steps is at most 480,000
pub power_small : (y : Laid) → within_limits y.wire ≡ true → three_steps y.left y.width y.right ≡ true → wire_power y ≤ 480000
power_small y fit on-steps =
    let parts = power_parts y.wire y.left y.width y.right fit on-steps in
    let sides : 60 / y.left + 60 / y.right ≤ 120 = omega arith in
    omega (arith, mul-le-mul parts.h sides)

-- a product of such parts fits
pub product_fits : (x y : ℕ) → x ≤ 120000 → y ≤ 120 → Fits w32 (x * y)
product_fits x y hx hy = let p : x * y ≤ 14400000 = mul-le-mul hx hy in omega arith

-- a sum of such parts fits
pub sum_fits : (s x y : ℕ) → s ≤ 100000000 → x ≤ 120000 → y ≤ 120 → Fits w32 (s + x * y)
sum_fits s x y hs hx hy = let p : x * y ≤ 14400000 = mul-le-mul hx hy in omega arith
