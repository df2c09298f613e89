-- The heads of the streams, and the least of them. Assumes nothing.
use Rattle.std.proofs.Common.{◌≡◌, ℕ, ◌+◌, ◌%◌, ◌<◌, ◌≤◌, true, false, ◌&&◌, ◌||◌, ◌⊎◌, List, length, get_or, take, Some, None, Option, sym, refl, ◌∙◌, subst, inl, inr, arith, get_or-take}
use Rattle.std.proofs.lemmas.List.{get_or_default}
use Rattle.std.proofs.lemmas.Bool.{both_ways, le-ltb, eq-eqb}
use Rattle.drawing.specs.declared.words.Wire.{Wire}
use Rattle.measures.specs.Laws.{Laws}
use Rattle.pricing.specs.Measures.{Measure}
use Rattle.frontier.specs.declared.records.State.{State}
use Rattle.frontier.specs.Orders.{upto, state_upto}
use Rattle.frontier.specs.States.{Kept}
use Rattle.stages.specs.Table.{Laying, stated, blank, slot, at, head_offer, Least, Ready}
use Rattle.stages.proofs.Order.{Near, upto_total, upto_through, extended_near}
use Rattle.stages.proofs.Sift.{last_or}

-- a place before b, read from the front
pub read_front : {V : Type 0} (m : Measure V) (t : List (State V)) (b h : ℕ) (d : State V) → h < b → b ≤ length t → get_or t h d ≡ slot m (take b t) h
read_front m t b h d lt le = get_or_default t h d (blank m) (omega arith) ∙ sym (get_or-take b t h (blank m) lt)

module _ {V : Type 0} {m : Measure V} {reach : ℕ → V → Type 0} {q : Wire} {t : List (State V)} {b : ℕ} {heads : List ℕ} {s : ℕ} (ready : Ready m reach q t b heads s) where
  -- the state at a head, read from the front
  head_is : (k : ℕ) (d : State V) → get_or heads k 0 < b → slot m (take b t) (get_or heads k 0) ≡ get_or t (get_or heads k 0) d
  head_is k d h = sym (read_front m t b (get_or heads k 0) d h ready.high)

  -- of the state at a head: a wire can be laid behind it
  pub laying : (k : ℕ) (d : State V) → k < 36 → get_or heads k 0 < b → Laying q (get_or t (get_or heads k 0) d).last (k % 6 + 1) s
  laying k d lt h =
      subst (λ (z : State V). Laying q z.last (k % 6 + 1) s) (head_is k d h)
      (record { fits = ready.fits; left = (ready.fit k lt h).0.last; width = (omega arith, omega arith); right = ready.space })

  -- its used width is small
  pub small_used : (k : ℕ) (d : State V) → k < 36 → get_or heads k 0 < b → (get_or t (get_or heads k 0) d).used ≤ 300
  small_used k d lt h = subst (λ (z : State V). z.used ≤ 300) (head_is k d h) (ready.fit k lt h).0.used

  -- and so is its power
  pub small_power : (k : ℕ) (d : State V) → k < 36 → get_or heads k 0 < b → (get_or t (get_or heads k 0) d).power ≤ 11520000
  small_power k d lt h = subst (λ (z : State V). z.power ≤ 11520000) (head_is k d h) (ready.fit k lt h).0.power

module _ {V : Type 0} {m : Measure V} {reach : ℕ → V → Type 0} (laws : Laws m.empty m.made m.joined m.below reach) {q : Wire} {t : List (State V)} {b : ℕ} {heads : List ℕ} {s : ℕ} (ready : Ready m reach q t b heads s) where
  -- what the head of stream k offers
  abbrev H : ℕ → Kept V
  H k = head_offer m q (take b t) heads s k

  -- the same as the code holds it
  abbrev S : ℕ → State V
  S k = stated (head_offer m q (take b t) heads s k) (k % 6 + 1) (get_or heads k 0)

  -- it is in reach
  head_near : (k : ℕ) → k < 36 → get_or heads k 0 < b → Near reach (H k)
  head_near k lt h = extended_near m laws 300 q ready.fits (at m (take b t) (get_or heads k 0)) (k % 6 + 1) s (ready.fit k lt h).0 (omega arith, omega arith)

  -- two offers are of one last space, so the order of all states is that of a stage
  met : (o k : ℕ) (x y : State V) → x ≡ S o → y ≡ S k → state_upto m x y ≡ upto m (H o) (H k)
  met o k x y ex ey = (λ i. state_upto m (ex i) (ey i)) ∙ (λ i. le-ltb s s (omega arith) i || (eq-eqb s s refl i && upto m (H o) (H k)))

  -- the least of the first n heads
  abbrev L : ℕ → Option ℕ → Type 0
  L n o = Least m q (take b t) b heads s n o

  -- a head comes no later than itself
  upto_same : (k : ℕ) → k < 36 → get_or heads k 0 < b → upto m (H k) (H k) ≡ true
  upto_same k lt h = elim (upto_total m laws (H k) (H k) (head_near k lt h) (head_near k lt h)) [ inl u ↦ u | inr u ↦ u ]

  -- the first head that is not at its end
  pub least_first : (k : ℕ) → k < 36 → L k None → get_or heads k 0 < b → L (k + 1) (Some k)
  least_first k lt ls h = (omega arith, h, λ k' l i. go k' i (last_or k' k l))
    where
      go : (k' : ℕ) → get_or heads k' 0 < b → (k' < k) ⊎ (k' ≡ k) → upto m (H k) (H k') ≡ true
      go k' i (inl l) = let u = ls k' l in absurd (omega arith)
      go k' i (inr e) = subst (λ (z : ℕ). upto m (H k) (H z) ≡ true) (sym e) (upto_same k lt h)

  -- the least stays
  pub least_old : (k r : ℕ) → L k (Some r) → upto m (H r) (H k) ≡ true → L (k + 1) (Some r)
  least_old k r (lt, inside, first) u = (omega arith, inside, λ k' l i. go k' i (last_or k' k l))
    where
      go : (k' : ℕ) → get_or heads k' 0 < b → (k' < k) ⊎ (k' ≡ k) → upto m (H r) (H k') ≡ true
      go k' i (inl l) = first k' l i
      go k' i (inr e) = subst (λ (z : ℕ). upto m (H r) (H z) ≡ true) (sym e) u

  -- the new head is the least
  pub least_new : (k r : ℕ) → k < 36 → L k (Some r) → get_or heads k 0 < b → (upto m (H r) (H k) ≡ true → ⊥) → L (k + 1) (Some k)
  least_new k r lt (l, inside, first) h n =
      let r36 : r < 36 = omega arith in
      (omega arith, h, λ k' l i. go r36 k' i (last_or k' k l))
    where
      over : r < 36 → upto m (H k) (H r) ≡ true
      over r36 = elim (upto_total m laws (H k) (H r) (head_near k lt h) (head_near r r36 inside)) [ inl u ↦ u | inr u ↦ absurd (n u) ]

      go : r < 36 → (k' : ℕ) → get_or heads k' 0 < b → (k' < k) ⊎ (k' ≡ k) → upto m (H k) (H k') ≡ true
      go r36 k' i (inl l) =
          let k36 : k' < 36 = omega arith in
          upto_through m laws (H k) (H r) (H k') (head_near k lt h) (head_near r r36 inside) (head_near k' k36 i) (over r36) (first k' l i)
      go r36 k' i (inr e) = subst (λ (z : ℕ). upto m (H k) (H z) ≡ true) (sym e) (upto_same k lt h)

  -- the best so far stays: x and y are what the two heads offer, as the code holds them
  pub take_old : (k o : ℕ) (x y : State V) → L k (Some o) → x ≡ S o → y ≡ S k → true ≡ state_upto m x y → L (k + 1) (Some o)
  take_old k o x y ls ex ey u = least_old k o ls (sym (u ∙ met o k x y ex ey))

  -- the head of stream k is better
  pub take_new : (k o : ℕ) (x y : State V) → k < 36 → L k (Some o) → get_or heads k 0 < b → x ≡ S o → y ≡ S k → false ≡ state_upto m x y → L (k + 1) (Some k)
  take_new k o x y lt ls h ex ey u = least_new k o lt ls h (both_ways (upto m (H o) (H k)) (sym (u ∙ met o k x y ex ey)))
