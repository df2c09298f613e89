-- From the kept states of one stage to those of the next. Assumes nothing.
use Rattle.std.proofs.Common.{◌≡◌, ℕ, suc, ◌+◌, ◌-◌, ◌<◌, ◌≤◌, true, ◌&&◌, eqb, ltb, leb, ◌↔◌, List, map, length, take, drop, Some, None, sym, ap, ◌∙◌, subst, arith, length-take}
use Rattle.std.proofs.lemmas.List.{drop-take, take-take}
use Rattle.std.proofs.lemmas.Bool.{leb-true, le-leb, ltb-false, or_parts}
use Rattle.drawing.specs.declared.words.Grid.{Grid}
use Rattle.drawing.specs.declared.words.Wire.{Wire}
use Rattle.drawing.specs.Lists.{keep}
use Rattle.drawing.specs.Plans.{Plan, Sound, within_limits}
use Rattle.rules.specs.Steps.{step, three_steps}
use Rattle.measures.specs.Laws.{Laws}
use Rattle.pricing.specs.Allocations.{Book}
use Rattle.pricing.specs.Measures.{Measure}
use Rattle.pricing.specs.WirePrices.{wire_delay, wire_power}
use Rattle.pricing.proofs.Limits.{power_small}
use Rattle.frontier.specs.declared.records.State.{State}
use Rattle.frontier.specs.Lists.{◌∈◌, Fresh, each, unbeaten, undominated}
use Rattle.frontier.specs.Orders.{upto}
use Rattle.frontier.specs.States.{Kept, kept_of, first, state_below, kept, KeptRow}
use Rattle.frontier.specs.Stages.{extended, extensions}
use Rattle.frontier.proofs.Members.{and_right, and_both, all_in, keep_in}
use Rattle.frontier.proofs.Reach.{delay_small, limited_wires}
use Rattle.frontier.proofs.Counts.{distinct_fresh, row_next_holds, kept_counted_holds}
use Rattle.stages.specs.Table.{laid_as, Step, rows, blank, slot, at, Task, Made, all_offers, Next, Outnumber}
use Rattle.stages.specs.Stage.{Course, Fits, AheadOf, Onward}
use Rattle.stages.proofs.Heads.{read_front}
use Rattle.stages.proofs.Places.{at_member, orders, offers_good}

-- the channel of a sound plan is at most 300
pub narrow : (d : Plan) → Sound d → d.channel ≤ 300
narrow d ok = ltb-false 300 d.channel (or_parts (eqb d.channel 0) (ltb 300 d.channel) ok.channelled).1

-- numbers from 1 to 6 are steps
three : {l w r : ℕ} → Step l → Step w → Step r → three_steps l w r ≡ true
three {l} {w} {r} hl hw hr = and_both (step l) (step w && step r) (one l hl) (and_both (step w) (step r) (one w hw) (one r hr))
  where
    one : (n : ℕ) → Step n → step n ≡ true
    one n h = and_both (leb 1 n) (leb n 6) (le-leb 1 n h.0) (le-leb n 6 h.1)

-- the front holds the stage
front_part : {A : Type 0} (t : List A) (a b : ℕ) → a ≤ b → take (b - a) (drop a (take b t)) ≡ take (b - a) (drop a t)
front_part t a b low =
    let n = b - a in
    let e : b ≡ a + n = omega arith in
    ap (λ (z : ℕ). take n (drop a (take z t))) e ∙ ap (take n) (drop-take a n t) ∙ take-take n n (drop a t) (omega arith)

module _ {V : Type 0} {m : Measure V} {reach : ℕ → V → Type 0} (laws : Laws m.empty m.made m.joined m.below reach) {book : Book} {w : Course} {grid : Grid} {channel : ℕ} {q : Wire} {t : List (State V)} {a b : ℕ}
    (go : AheadOf m reach book w grid channel q t a b) where
  -- the plan
  abbrev d : Plan
  d = w.plan

  -- the number of wires laid
  abbrev j : ℕ
  j = w.stage

  -- what counts is read from the front
  front : (i : ℕ) → i < b → at m t i ≡ at m (take b t) i
  front i h = ap kept_of (read_front m t b i (blank m) h go.stage.high)

  -- the wire is within its limits
  fits_wire : within_limits q ≡ true
  fits_wire = subst (λ (z : Wire). within_limits z ≡ true) (sym go.wire) (all_in within_limits (at_member d.wires j q go.inside) go.sound.limited)

  -- what the states of the stage keep
  stage_fits : (i : ℕ) → a ≤ i → i < b → Fits m reach book channel j (at m (take b t) i)
  stage_fits i l h = subst (λ (z : Kept V). Fits m reach book channel j z) (front i h) (subst (λ (c : ℕ). Fits m reach book c j (at m t i)) go.same_channel (go.stage.fits i l h))

  -- the next stage can be made
  pub task_of : Task m reach channel q t a b
  task_of = record {
    fits = fits_wire;
    narrow = subst (λ (c : ℕ). c ≤ 300) go.same_channel (narrow d go.sound);
    low = go.stage.low;
    high = go.stage.high;
    standing = record {
      fit = λ i l h. let f = stage_fits i l h in record { last = f.last; used = f.used; power = omega (arith, f.power, go.inside, go.sound.few); near = (j, omega (arith, go.inside, go.sound.few), f.near) };
      ordered = λ i k l lt h e.
          let ih : i < b = omega arith in
          let u = go.stage.ordered i k l lt h (ap (λ (z : Kept V). z.last) (front i ih) ∙ e ∙ sym (ap (λ (z : Kept V). z.last) (front k h))) in
          subst (λ (z : Kept V). upto m z (at m (take b t) k) ≡ true) (front i ih) (subst (λ (z : Kept V). upto m (at m t i) z ≡ true) (front k h) u);
    };
  }

  -- the row of the stage, in the front
  row_front : KeptRow m book (first j d) (rows (take b t) a b)
  row_front = subst (λ (z : List (State V)). KeptRow m book (first j d) (map kept_of z)) (sym (front_part t a b go.stage.low)) go.stage.row

  -- the unbeaten offers
  abbrev best : Grid → ℕ → List (Kept V)
  best g c = undominated (state_below m) (each (extensions m book g c q) (rows (take b t) a b))

  -- a list of the unbeaten offers is the next row
  next_row : (row' : List (Kept V)) → Fresh row' → ((s : Kept V) → (s ∈ row') ↔ (s ∈ best grid channel)) → KeptRow m book (first (suc j) d) row'
  next_row row' fresh same =
      let same' : (s : Kept V) → (s ∈ row') ↔ (s ∈ best d.grid d.channel) =
      subst (λ (g : Grid). (s : Kept V) → (s ∈ row') ↔ (s ∈ best g d.channel)) (sym go.same_grid) (subst (λ (c : ℕ). (s : Kept V) → (s ∈ row') ↔ (s ∈ best grid c)) (sym go.same_channel) same) in
      row_next_holds m laws book d (limited_wires d go.sound) j q go.inside go.wire (rows (take b t) a b) row' row_front fresh same'

  -- none of them stands twice
  best_fresh : Fresh (best grid channel)
  best_fresh =
      let os = all_offers m book grid channel q (take b t) a b in
      let long : b ≤ length (take b t) = simp length-take (omega (arith, task_of.high)) in
      distinct_fresh (state_below m) (keep (unbeaten (state_below m) os) os) (λ x i.
      (orders m laws book grid channel q task_of.fits (take b t) a b task_of.standing task_of.low long).same x
      (offers_good m laws book grid channel q task_of.fits (take b t) a b task_of.standing task_of.low long x (keep_in (unbeaten (state_below m) os) os i).0))

  -- they are as many as the next stage keeps
  counted : length (best grid channel) ≡ length (kept m book d (suc j))
  counted = kept_counted_holds m laws book d (limited_wires d go.sound) (suc j) (best grid channel) (next_row (best grid channel) best_fresh (λ s. (λ i. i, λ i. i)))

  -- what a state of the next stage keeps
  grown : (x : State V) → Made m book grid channel q (take b t) a b x → Fits m reach book channel (suc j) (kept_of x)
  grown x made =
      let o = made.offered in
      let i = x.from in
      let r = x.last in
      let old = stage_fits i o.low o.high in
      let y = laid_as q (at m (take b t) i).last x.width r in
      let e : j + 1 ≡ suc j = omega arith in
      let near = laws.joined_reach j 1 (at m (take b t) i).delay (m.made (wire_delay y) q.t) (omega (arith, go.inside, go.sound.few)) old.near (laws.made_reach (wire_delay y) q.t (delay_small y fits_wire o.width.1)) in
      let small : wire_power y ≤ 480000 = power_small y fits_wire (three old.last o.width o.space) in
      let f : Fits m reach book channel (suc j) (extended m q (at m (take b t) i) x.width r) = record {
        last = o.space;
        used = leb-true _ _ (and_right (book (at m (take b t) i).last x.width r) (leb ((at m (take b t) i).used + x.width + r) channel) o.follows);
        power = omega (arith, small, old.power);
        near = subst (λ (n : ℕ). reach n (m.joined (at m (take b t) i).delay (m.made (wire_delay y) q.t))) e near;
      } in
      subst (λ (z : Kept V). Fits m reach book channel (suc j) z) (sym made.is) f

  -- the next stage is out of room
  pub onward_full : (t' : List (State V)) → Outnumber m book grid channel q (take b t) a b (length t' - b) → Onward m reach book w grid channel q t t' a b None
  onward_full t' h = subst (λ (n : ℕ). length t' - b < n) counted h

  -- the next stage is made
  pub onward_of : (t' : List (State V)) (end : ℕ) → take b t' ≡ take b t → Next m book grid channel q (take b t) a b t' end → Onward m reach book w grid channel q t t' a b (Some end)
  onward_of t' end same n = (
    same,
    record {
      low = n.low;
      high = n.high;
      row = next_row (rows t' b end) n.fresh n.exactly;
      fits = λ i l h. subst (λ (c : ℕ). Fits m reach book c (suc j) (at m t' i)) (sym go.same_channel) (grown (slot m t' i) (n.made i l h));
      ordered = n.ordered;
    },
    n.made,
  )
