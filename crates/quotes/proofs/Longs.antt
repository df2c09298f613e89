-- The first 26 steps of an argument are priced as all of them are: a drawing has at most 24 wires.
use Rattle.std.proofs.Common.{◌≡◌, ℕ, ◌≤◌, false, cond, not, List, [], ◌∷◌, length, take, Some, None, Err, Option, sym, refl, ap, ◌∙◌, inl, inr, arith}
use Rattle.std.proofs.lemmas.List.{take_all, length-take-le}
use Rattle.std.proofs.lemmas.Bool.Decides.{nat_tests, leb_tells}
use Rattle.drawing.specs.declared.refusals.Refusal.TheVariants.{WrongCount, StepOutsideGrid, TripleBarred, AboveChannel}
use Rattle.drawing.specs.Edits.{first_reason, unless_refused}
use Rattle.drawing.specs.Plans.{Plan}
use Rattle.measures.specs.declared.lates.Late.{Late}
use Rattle.measures.specs.declared.printable.Fields.TheVariants.{One, Two}
use Rattle.measures.specs.contracts.sums.TotalDelayMeasure.TheImpl as of_total
use Rattle.measures.specs.contracts.largest.WorstDelayMeasure.TheImpl as of_worst
use Rattle.measures.specs.contracts.lates.LateFirstDelayMeasure.TheImpl as of_late_first
use Rattle.rules.specs.Steps.{three_steps}
use Rattle.pricing.specs.Allocations.{Allocation, Book, counted, in_grid, admitted, within_channel}
use Rattle.pricing.specs.Measures.{Measure, meaning}
use Rattle.pricing.specs.Prices.{price_of}
use Rattle.pricing.specs.Replies.{priced}
use Rattle.quotes.specs.declared.names.MeasureName.{MeasureName}
use Rattle.quotes.specs.declared.names.MeasureName.TheVariants.{ByTotal, ByWorst, ByLate}
use Rattle.quotes.specs.declared.requests.Request.{Request}
use Rattle.quotes.specs.Asked.{Asked, Asks}
use Rattle.quotes.specs.Quotes.{reply_text, quote_by}

-- widths and spaces
abbrev of : List ℕ → List ℕ → Allocation
of ws ss = record { widths = ws; spaces = ss }

-- a wrong count is refused, whatever else
miscounted : {V : Type 0} (m : Measure V) (book : Book) (p : Plan) (x : Allocation) → counted p x ≡ false → priced m book p x ≡ Err WrongCount
miscounted m book p x e =
    ap (λ b. unless_refused (cond (not b) (Err WrongCount)
    (first_reason ((not (in_grid p x), StepOutsideGrid) ∷ (not (admitted book p x), TripleBarred) ∷ (not (within_channel p x), AboveChannel) ∷ []))) (price_of m p.wires x)) e

both_miscounted : {V : Type 0} (m : Measure V) (book : Book) (p : Plan) (x y : Allocation) → counted p x ≡ false → counted p y ≡ false → priced m book p x ≡ priced m book p y
both_miscounted m book p x y e f = miscounted m book p x e ∙ sym (miscounted m book p y f)

wide_miscounted : (p : Plan) (ws ss : List ℕ) → length p.wires ≤ 24 → 26 ≤ length ws → counted p (of ws ss) ≡ false
wide_miscounted p ws ss few h = grind (arith, nat_tests)

apart_miscounted : (p : Plan) (ws ss : List ℕ) → length p.wires ≤ 24 → 26 ≤ length ss → counted p (of ws ss) ≡ false
apart_miscounted p ws ss few h = grind (arith, nat_tests)

pub long_same : {V : Type 0} (m : Measure V) (book : Book) (p : Plan) (ws ss : List ℕ) → length p.wires ≤ 24
    → priced m book p (of (take 26 ws) (take 26 ss)) ≡ priced m book p (of ws ss)
long_same m book p ws ss few =
    elim (leb_tells (length ws) 26) [
      | inl w ↦ elim (leb_tells (length ss) 26) [
        | inl s ↦ ap (λ z. priced m book p (of z (take 26 ss))) (take_all 26 ws w.1) ∙ ap (λ z. priced m book p (of ws z)) (take_all 26 ss s.1)
        | inr s ↦ (let l : length (take 26 ss) ≡ 26 = length-take-le 26 ss (omega (arith, s.1)) in
            both_miscounted m book p (of (take 26 ws) (take 26 ss)) (of ws ss) (apart_miscounted p (take 26 ws) (take 26 ss) few (omega arith)) (apart_miscounted p ws ss few (omega (arith, s.1))))
      ]
      | inr w ↦ (let l : length (take 26 ws) ≡ 26 = length-take-le 26 ws (omega (arith, w.1)) in
          both_miscounted m book p (of (take 26 ws) (take 26 ss)) (of ws ss) (wide_miscounted p (take 26 ws) (take 26 ss) few (omega arith)) (wide_miscounted p ws ss few (omega (arith, w.1))))
    ]

pub long_quoted : (n : MeasureName) (p : Plan) (ws ss : List ℕ) → length p.wires ≤ 24 → quote_by n p (of (take 26 ws) (take 26 ss)) ≡ quote_by n p (of ws ss)
long_quoted ByTotal p ws ss few = ap (reply_text (λ v. One v)) (long_same (meaning of_total.ghosts (record {})) three_steps p ws ss few)
long_quoted ByWorst p ws ss few = ap (reply_text (λ v. One v)) (long_same (meaning of_worst.ghosts (record {})) three_steps p ws ss few)
long_quoted ByLate p ws ss few = ap (reply_text (λ (v : Late). Two v.count v.sum)) (long_same (meaning of_late_first.ghosts (record {})) three_steps p ws ss few)

-- what is asked where a request is held
pub record Held (r : Request) (q : Option Asked) : Type 0 where
  pub ask : Asked
  pub is : q ≡ Some ask
  pub by_is : r.measure ≡ ask.by
  pub wide_is : r.widths.items ≡ take 26 ask.wide
  pub apart_is : r.spaces.items ≡ take 26 ask.apart

pub held_of : (r : Request) (q : Option Asked) → Asks (Some r) q → Held r q
held_of r None h = absurd h
held_of r (Some a) h = record { ask = a; is = refl; by_is = h.0; wide_is = h.1; apart_is = h.2 }

-- the price that a held request asks for
pub quoted_as_asked : (r : Request) (a : Asked) (p : Plan) → length p.wires ≤ 24 → r.measure ≡ a.by → r.widths.items ≡ take 26 a.wide → r.spaces.items ≡ take 26 a.apart
    → quote_by r.measure p (of (r.widths.items) (r.spaces.items)) ≡ quote_by a.by p (of a.wide a.apart)
quoted_as_asked r a p few e w s =
    ap (λ (n : MeasureName). quote_by n p (of (r.widths.items) (r.spaces.items))) e
    ∙ ap (λ (z : List ℕ). quote_by a.by p (of z (r.spaces.items))) w
    ∙ ap (λ (z : List ℕ). quote_by a.by p (of (take 26 a.wide) z)) s
    ∙ long_quoted a.by p a.wide a.apart few
