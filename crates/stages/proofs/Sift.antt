-- What is kept of the offers, taken in order, is kept for good. Assumes nothing.
use Rattle.std.proofs.Common.{◌≡◌, ℕ, ◌+◌, ◌-◌, ◌*◌, ◌/◌, ◌%◌, ◌<◌, ◌≤◌, true, not, ◌≢◌, ◌⊎◌, List, length, get_or, set, Some, sym, refl, ap, ◌∙◌, subst, inl, inr, arith, get_or-set_other, get_or-set_same}
use Rattle.std.proofs.lemmas.Bool.{cases_lt, cases_eq}
use Rattle.drawing.specs.declared.words.Grid.{Grid}
use Rattle.drawing.specs.declared.words.Wire.{Wire}
use Rattle.drawing.specs.Plans.{within_limits}
use Rattle.measures.specs.Laws.{Laws}
use Rattle.pricing.specs.Allocations.{Book}
use Rattle.pricing.specs.Measures.{Measure}
use Rattle.frontier.specs.declared.records.State.{State}
use Rattle.frontier.specs.Lists.{unbeaten}
use Rattle.frontier.specs.Orders.{upto}
use Rattle.frontier.specs.States.{Kept, kept_of, first, state_below}
use Rattle.frontier.specs.Stages.{extended}
use Rattle.frontier.proofs.Extending.{below_parts}
use Rattle.stages.specs.Table.{stated, slot, at, Fit, Standing, Head, Least, Offered, Made, Sifted, Before, Ahead}
use Rattle.stages.proofs.Order.{Near, upto_through, below_first, below_same, below_through, extended_near, extended_upto}

-- a number below n + 1 is below n, or n
pub last_or : (k n : ℕ) → k < n + 1 → (k < n) ⊎ (k ≡ n)
last_or k n h = go (cases_lt k n)
  where
    go : (k < n) ⊎ (n ≤ k) → (k < n) ⊎ (k ≡ n)
    go (inl l) = inl l
    go (inr l) = inr (omega arith)

module _ {V : Type 0} (m : Measure V) {reach : ℕ → V → Type 0} (laws : Laws m.empty m.made m.joined m.below reach) (book : Book) (grid : Grid) (channel : ℕ) (q : Wire) (fits : within_limits q ≡ true)
    (t : List (State V)) (a b : ℕ) (st : Standing m reach channel t a b) where
  -- a lawful offer
  abbrev O : ℕ → ℕ → ℕ → Type 0
  O i w r = Offered m book grid channel q t a b i w r

  -- what counts of an offer
  abbrev off : ℕ → ℕ → ℕ → Kept V
  off i w r = extended m q (at m t i) w r

  -- what a stage that is being built holds
  abbrev Held : (ℕ → ℕ → ℕ → Type 0) → ℕ → List (State V) → ℕ → Type 0
  Held Done s t' end = Sifted m book grid channel q t a b Done s t' end

  -- an offer is in reach
  pub offer_near : (i w r : ℕ) → O i w r → Near reach (off i w r)
  offer_near i w r o = extended_near m laws channel q fits (at m t i) w r (st.fit i o.low o.high) o.width

  -- and so is a state that is made of one
  pub made_near : (x : State V) → Made m book grid channel q t a b x → Near reach (kept_of x)
  made_near x h = subst (λ (z : Kept V). Near reach z) (sym h.is) (offer_near x.from x.width x.last h.offered)

  -- nothing is done and nothing is held
  pub sift_start : (t' : List (State V)) → Held (Before m book grid channel q t a b 1) 1 t' b
  sift_start t' = record {
    made = λ k h i. absurd (omega arith);
    alone = λ k h i. absurd (omega arith);
    covered = λ i w r o d. let l = o.space.0 in absurd (omega arith);
    fresh = λ k k' h i j e. omega arith;
    lasts = λ k h i. absurd (omega arith);
    later = λ k h i. absurd (omega arith);
    ordered = λ k k' h i j. absurd (omega arith);
  }

  -- one offer more is done, and is not kept
  module _ (Done Done' : ℕ → ℕ → ℕ → Type 0) (s : ℕ) (t' : List (State V)) (end : ℕ) (S : Held Done s t' end) (i₀ w₀ : ℕ)
      (grows : (i w r : ℕ) → O i w r → Done' i w r → Done i w r ⊎ ((i ≡ i₀) × (w ≡ w₀) × (r ≡ s)))
      (keeps : (i w r : ℕ) → Done i w r → Done' i w r) where
    pub sift_drop : (O i₀ w₀ s → (k : ℕ) × (b ≤ k) × (k < end) × (state_below m (at m t' k) (off i₀ w₀ s) ≡ true)) → Held Done' s t' end
    sift_drop why = record {
      made = S.made;
      alone = S.alone;
      covered = λ i w r o d. cover i w r o (grows i w r o d);
      fresh = S.fresh;
      lasts = S.lasts;
      later = λ k h i e j w o n. S.later k h i e j w o (λ d. n (keeps j w s d));
      ordered = S.ordered;
    }
      where
        cover : (i w r : ℕ) → O i w r → Done i w r ⊎ ((i ≡ i₀) × (w ≡ w₀) × (r ≡ s)) → (k : ℕ) × (b ≤ k) × (k < end) × (state_below m (at m t' k) (off i w r) ≡ true)
        cover i w r o (inl d) = S.covered i w r o d
        cover i w r o (inr (ei, ew, er)) =
            let P : ℕ → ℕ → ℕ → Type 0 = λ i w r. O i w r → (k : ℕ) × (b ≤ k) × (k < end) × (state_below m (at m t' k) (off i w r) ≡ true) in
            subst (λ (z : ℕ). P z w r) (sym ei) (subst (λ (z : ℕ). P i₀ z r) (sym ew) (subst (λ (z : ℕ). P i₀ w₀ z) (sym er) why)) o

    -- or is kept, since nothing kept is at or below it
    pub sift_keep : O i₀ w₀ s → b ≤ end →
        ((i w r : ℕ) → Done i w r ⊎ (Done i w r → ⊥)) →
        (Done i₀ w₀ s → ⊥) →
        ((i w : ℕ) → O i w s → (Done i w s → ⊥) → upto m (off i₀ w₀ s) (off i w s) ≡ true) →
        ((k : ℕ) → b ≤ k → k < end → state_below m (at m t' k) (off i₀ w₀ s) ≡ true → ⊥) →
        (t'' : List (State V)) → ((k : ℕ) → k < end → slot m t'' k ≡ slot m t' k) → slot m t'' end ≡ stated (off i₀ w₀ s) w₀ i₀ →
        Held Done' s t'' (end + 1)
    sift_keep o₀ be decide undone least unbeaten t'' same new = record {
      made = λ k h i. made k h (last_or k end i);
      alone = λ k h i. alone k h (last_or k end i);
      covered = λ i w r o d. cover i w r o (grows i w r o d);
      fresh = λ k k' h i j. fresh k k' h i (last_or k' end j);
      lasts = λ k h i. lasts k h (last_or k end i);
      later = λ k h i e j w o n. later k h (last_or k end i) e j w o (λ d. n (keeps j w s d));
      ordered = λ k k' h i j. ordered k k' h i (last_or k' end j);
    }
      where
        x : Kept V
        x = off i₀ w₀ s

        x_near : Near reach (off i₀ w₀ s)
        x_near = offer_near i₀ w₀ s o₀

        old : (k : ℕ) → k < end → at m t'' k ≡ at m t' k
        old k h = ap kept_of (same k h)

        here : at m t'' end ≡ off i₀ w₀ s
        here = ap kept_of new

        here_at : (k : ℕ) → k ≡ end → at m t'' k ≡ off i₀ w₀ s
        here_at k e = ap (at m t'') e ∙ here

        near : (k : ℕ) → b ≤ k → k < end → Near reach (at m t' k)
        near k h i = made_near (slot m t' k) (S.made k h i)

        made : (k : ℕ) → b ≤ k → (k < end) ⊎ (k ≡ end) → Made m book grid channel q t a b (slot m t'' k)
        made k h (inl i) = subst (λ (z : State V). Made m book grid channel q t a b z) (sym (same k i)) (S.made k h i)
        made k h (inr e) =
            let z : slot m t'' k ≡ stated (off i₀ w₀ s) w₀ i₀ = ap (slot m t'') e ∙ new in
            subst (λ (z : State V). Made m book grid channel q t a b z) (sym z) (record { offered = o₀; is = refl })

        alone_new : (i w r : ℕ) → O i w r → state_below m (off i w r) (off i₀ w₀ s) ≡ true → Done i w r ⊎ (Done i w r → ⊥) → off i w r ≡ off i₀ w₀ s
        alone_new i w r o below (inl d) =
            let c = S.covered i w r o d in
            absurd (unbeaten c.0 c.1 c.2
            (below_through m laws (at m t' c.0) (off i w r) (off i₀ w₀ s) (near c.0 c.1 c.2) (offer_near i w r o) x_near c.3 below))
        alone_new i w r o below (inr n) =
            let er : r ≡ s = (below_parts m (off i w r) (off i₀ w₀ s) below).last in
            let P : ℕ → Type 0 = λ z. O i w z → (Done i w z → ⊥) → (upto m (off i₀ w₀ s) (off i w z) ≡ true) in
            let up = subst P (sym er) (least i w) o n in
            below_first m laws (off i w r) (off i₀ w₀ s) (offer_near i w r o) x_near below up

        alone : (k : ℕ) → b ≤ k → (k < end) ⊎ (k ≡ end) → (i w r : ℕ) → O i w r → state_below m (off i w r) (at m t'' k) ≡ true → off i w r ≡ at m t'' k
        alone k h (inl j) i w r o below =
            S.alone k h j i w r o (subst (λ (z : Kept V). state_below m (off i w r) z ≡ true) (old k j) below) ∙ sym (old k j)
        alone k h (inr e) i w r o below =
            alone_new i w r o (subst (λ (z : Kept V). state_below m (off i w r) z ≡ true) (here_at k e) below) (decide i w r) ∙ sym (here_at k e)

        cover : (i w r : ℕ) → O i w r → Done i w r ⊎ ((i ≡ i₀) × (w ≡ w₀) × (r ≡ s)) → (k : ℕ) × (b ≤ k) × (k < end + 1) × (state_below m (at m t'' k) (off i w r) ≡ true)
        cover i w r o (inl d) =
            let c = S.covered i w r o d in
            (c.0, c.1, omega (arith, c.2), subst (λ (z : Kept V). state_below m z (off i w r) ≡ true) (sym (old c.0 c.2)) c.3)
        cover i w r o (inr (ei, ew, er)) =
            let e : off i w r ≡ off i₀ w₀ s = λ j. off (ei j) (ew j) (er j) in
            let same : at m t'' end ≡ off i w r = here ∙ sym e in
            (end, be, omega arith, subst (λ (z : Kept V). state_below m z (off i w r) ≡ true) (sym same) (below_same m laws (off i w r) (offer_near i w r o)))

        fresh : (k k' : ℕ) → b ≤ k → k < k' → (k' < end) ⊎ (k' ≡ end) → at m t'' k ≡ at m t'' k' → ⊥
        fresh k k' h i (inl j) e = let l : k < end = omega arith in S.fresh k k' h i j (sym (old k l) ∙ e ∙ old k' j)
        fresh k k' h i (inr j) e =
            let l : k < end = omega arith in
            let is : at m t' k ≡ off i₀ w₀ s = sym (old k l) ∙ e ∙ here_at k' j in
            unbeaten k h l (subst (λ (z : Kept V). state_below m z (off i₀ w₀ s) ≡ true) (sym is) (below_same m laws (off i₀ w₀ s) x_near))

        lasts : (k : ℕ) → b ≤ k → (k < end) ⊎ (k ≡ end) → (at m t'' k).last ≤ s
        lasts k h (inl i) = let e = ap (λ (z : Kept V). z.last) (old k i) in let l = S.lasts k h i in omega arith
        lasts k h (inr i) = let e : (at m t'' k).last ≡ s = ap (λ (z : Kept V). z.last) (here_at k i) in omega arith

        later : (k : ℕ) → b ≤ k → (k < end) ⊎ (k ≡ end) → (at m t'' k).last ≡ s → (i w : ℕ) → O i w s → (Done i w s → ⊥) → upto m (at m t'' k) (off i w s) ≡ true
        later k h (inl j) e i w o n =
            subst (λ (z : Kept V). upto m z (off i w s) ≡ true) (sym (old k j)) (S.later k h j (ap (λ (z : Kept V). z.last) (sym (old k j)) ∙ e) i w o n)
        later k h (inr j) e i w o n = subst (λ (z : Kept V). upto m z (off i w s) ≡ true) (sym (here_at k j)) (least i w o n)

        ordered : (k k' : ℕ) → b ≤ k → k < k' → (k' < end) ⊎ (k' ≡ end) → ((at m t'' k).last ≤ (at m t'' k').last) × ((at m t'' k).last ≡ (at m t'' k').last → upto m (at m t'' k) (at m t'' k') ≡ true)
        ordered k k' h i (inl j) =
            let l : k < end = omega arith in
            let P : Kept V → Kept V → Type 0 = λ y z. (y.last ≤ z.last) × (y.last ≡ z.last → upto m y z ≡ true) in
            subst (λ (z : Kept V). P z (at m t'' k')) (sym (old k l)) (subst (λ (z : Kept V). P (at m t' k) z) (sym (old k' j)) (S.ordered k k' h i j))
        ordered k k' h i (inr j) =
            let l : k < end = omega arith in
            let P : Kept V → Kept V → Type 0 = λ y z. (y.last ≤ z.last) × (y.last ≡ z.last → upto m y z ≡ true) in
            subst (λ (z : Kept V). P z (at m t'' k')) (sym (old k l)) (subst (λ (z : Kept V). P (at m t' k) z) (sym (here_at k' j))
            (S.lasts k h l, λ e. S.later k h l e i₀ w₀ o₀ undone))

  -- the streams of one new space
  module _ (s : ℕ) (heads : List ℕ) (long : length heads ≡ 36) (each_head : (k : ℕ) → k < 36 → Head m t a b k (get_or heads k 0)) where
    -- the offers that are done
    abbrev A : ℕ → ℕ → ℕ → Type 0
    A i w r = Ahead m book grid channel q t a b heads s i w r

    -- an offer is done or not
    pub ahead_or : (i w r : ℕ) → A i w r ⊎ (A i w r → ⊥)
    ahead_or i w r = go (cases_lt r s) (cases_eq r s) (cases_lt i (get_or heads (((at m t i).last - 1) * 6 + (w - 1)) 0))
      where
        none : (s ≤ r) → (r ≡ s → i < get_or heads (((at m t i).last - 1) * 6 + (w - 1)) 0 → ⊥) → A i w r → ⊥
        none h f (inl l) = omega arith
        none h f (inr (e, l)) = f e l

        go : (r < s) ⊎ (s ≤ r) → (r ≡ s) ⊎ (r ≢ s) → (i < get_or heads (((at m t i).last - 1) * 6 + (w - 1)) 0) ⊎ (get_or heads (((at m t i).last - 1) * 6 + (w - 1)) 0 ≤ i) → A i w r ⊎ (A i w r → ⊥)
        go (inl h) e l = inl (inl h)
        go (inr h) (inl e) (inl l) = inl (inr (e, l))
        go (inr h) (inl e) (inr l) = inr (none h (λ e' l'. omega arith))
        go (inr h) (inr e) l = inr (none h (λ e' l'. e e'))

    -- the streams of a space are opened
    pub sift_open : (t' : List (State V)) (end : ℕ) → Held (Before m book grid channel q t a b s) s t' end →
        ((i w : ℕ) → O i w s → i < get_or heads (((at m t i).last - 1) * 6 + (w - 1)) 0 → ⊥) → Held A s t' end
    sift_open t' end S none = record {
      made = S.made;
      alone = S.alone;
      covered = λ i w r o d. cover i w r o d;
      fresh = S.fresh;
      lasts = S.lasts;
      later = λ k h i e j w o n. S.later k h i e j w o (λ d. n (inl d));
      ordered = S.ordered;
    }
      where
        cover : (i w r : ℕ) → O i w r → A i w r → (k : ℕ) × (b ≤ k) × (k < end) × (state_below m (at m t' k) (off i w r) ≡ true)
        cover i w r o (inl d) = S.covered i w r o d
        cover i w r o (inr (e, l)) = absurd (none i w (subst (λ (z : ℕ). O i w z) e o) l)

    -- all streams of a space are at their end
    pub sift_close : (t' : List (State V)) (end : ℕ) → Held A s t' end → ((k : ℕ) → k < 36 → b ≤ get_or heads k 0) → Held (Before m book grid channel q t a b (s + 1)) (s + 1) t' end
    sift_close t' end S past = record {
      made = S.made;
      alone = S.alone;
      covered = λ i w r o d. S.covered i w r o (done i w r o (last_or r s d));
      fresh = S.fresh;
      lasts = λ k h i. let l = S.lasts k h i in omega arith;
      later = λ k h i e. let l = S.lasts k h i in absurd (omega arith);
      ordered = S.ordered;
    }
      where
        done : (i w r : ℕ) → O i w r → (r < s) ⊎ (r ≡ s) → A i w r
        done i w r o (inl h) = inl h
        done i w r o (inr e) =
            let f = (st.fit i o.low o.high).last in
            let small : ((at m t i).last - 1) * 6 + (w - 1) < 36 = omega (arith, f.0, f.1, o.width.0, o.width.1) in
            inr (e, omega (arith, past (((at m t i).last - 1) * 6 + (w - 1)) small, o.high))

    -- the least head is the least offer that is not done
    pub least_of_all : (k₀ : ℕ) → k₀ < 36 → Least m q t b heads s 36 (Some k₀) →
        (i w : ℕ) → O i w s → (A i w s → ⊥) → upto m (off (get_or heads k₀ 0) (k₀ % 6 + 1) s) (off i w s) ≡ true
    least_of_all k₀ lt (less, inside, first) i w o n =
        let f = st.fit i o.low o.high in
        let l = (at m t i).last in
        let kk = (l - 1) * 6 + (w - 1) in
        let small : kk < 36 = omega (arith, f.last.0, f.last.1, o.width.0, o.width.1) in
        let ew : kk % 6 + 1 ≡ w = omega (arith, f.last.0, f.last.1, o.width.0, o.width.1) in
        let el : kk / 6 + 1 ≡ l = omega (arith, f.last.0, f.last.1, o.width.0, o.width.1) in
        let h = get_or heads kk 0 in
        let hd = each_head kk small in
        let hi : h ≤ i = elim (cases_lt i h) [ inl ahead ↦ absurd (n (inr (refl, ahead))) | inr le ↦ le ] in
        let hb : h < b = omega (arith, o.high) in
        let fh = st.fit h hd.low hb in
        let lasts : (at m t h).last ≡ l = hd.last hb ∙ el in
        let hd₀ = each_head k₀ lt in
        let f₀ = st.fit (get_or heads k₀ 0) hd₀.low inside in
        let up : upto m (off (get_or heads k₀ 0) (k₀ % 6 + 1) s) (off h w s) ≡ true = subst (λ (z : ℕ). upto m (off (get_or heads k₀ 0) (k₀ % 6 + 1) s) (off h z s) ≡ true) ew (first kk small hb) in
        let n₀ = extended_near m laws channel q fits (at m t (get_or heads k₀ 0)) (k₀ % 6 + 1) s f₀ (omega arith, omega arith) in
        let nh = extended_near m laws channel q fits (at m t h) w s fh o.width in
        let ni = offer_near i w s o in
        go f h hd.low hi fh lasts up n₀ nh ni (cases_lt h i)
      where
        go : Fit m reach channel (at m t i) → (h : ℕ) → a ≤ h → h ≤ i → Fit m reach channel (at m t h) → (at m t h).last ≡ (at m t i).last → upto m (off (get_or heads k₀ 0) (k₀ % 6 + 1) s) (off h w s) ≡ true →
            Near reach (off (get_or heads k₀ 0) (k₀ % 6 + 1) s) → Near reach (off h w s) → Near reach (off i w s) → (h < i) ⊎ (i ≤ h) → upto m (off (get_or heads k₀ 0) (k₀ % 6 + 1) s) (off i w s) ≡ true
        go f h low hi fh lasts up n₀ nh ni (inr ge) =
            let e : h ≡ i = omega arith in
            subst (λ (z : ℕ). upto m (off (get_or heads k₀ 0) (k₀ % 6 + 1) s) (off z w s) ≡ true) e up
        go f h low hi fh lasts up n₀ nh ni (inl l) =
            let step = extended_upto m laws channel q fits (at m t h) (at m t i) w s fh f o.width lasts (st.ordered h i low l o.high lasts) in
            upto_through m laws (off (get_or heads k₀ 0) (k₀ % 6 + 1) s) (off h w s) (off i w s) n₀ nh ni up step

    -- the head of one stream moves on, past its offer
    module _ (k₀ : ℕ) (lt : k₀ < 36) (h' : ℕ) (on : get_or heads k₀ 0 < h')
        (skipped : (i : ℕ) → get_or heads k₀ 0 + 1 ≤ i → i < h' → (at m t i).last ≡ k₀ / 6 + 1 → ⊥) where
      -- only its offer is newly done
      pub ahead_grows : (i w r : ℕ) → O i w r → Ahead m book grid channel q t a b (set heads k₀ h') s i w r →
          A i w r ⊎ ((i ≡ get_or heads k₀ 0) × (w ≡ k₀ % 6 + 1) × (r ≡ s))
      ahead_grows i w r o (inl h) = inl (inl h)
      ahead_grows i w r o (inr (e, h)) =
          let f = st.fit i o.low o.high in
          let l = (at m t i).last in
          let kk = (l - 1) * 6 + (w - 1) in
          let ew : kk % 6 + 1 ≡ w = omega (arith, f.last.0, f.last.1, o.width.0, o.width.1) in
          let el : kk / 6 + 1 ≡ l = omega (arith, f.last.0, f.last.1, o.width.0, o.width.1) in
          go kk ew el h (cases_eq kk k₀)
        where
          i₀ : ℕ
          i₀ = get_or heads k₀ 0

          three : (kk : ℕ) → kk ≡ k₀ → kk % 6 + 1 ≡ w → kk / 6 + 1 ≡ (at m t i).last → (i < get_or heads k₀ 0) ⊎ (get_or heads k₀ 0 ≤ i) → (i ≡ get_or heads k₀ 0) ⊎ (i ≢ get_or heads k₀ 0) → i < h' →
              (i < get_or heads kk 0) ⊎ ((i ≡ get_or heads k₀ 0) × (w ≡ k₀ % 6 + 1) × (r ≡ s))
          three kk ek ew el (inl before) c h = inl (subst (λ (z : ℕ). i < get_or heads z 0) (sym ek) before)
          three kk ek ew el (inr after) (inl is) h = inr (is, sym ew ∙ ap (λ (z : ℕ). z % 6 + 1) ek, e)
          three kk ek ew el (inr after) (inr not) h = absurd (skipped i (further (cases_lt (get_or heads k₀ 0) i)) h (sym el ∙ ap (λ (z : ℕ). z / 6 + 1) ek))
            where
              further : (get_or heads k₀ 0 < i) ⊎ (i ≤ get_or heads k₀ 0) → get_or heads k₀ 0 + 1 ≤ i
              further (inl l) = omega arith
              further (inr l) = absurd (not (omega arith))

          lift : (kk : ℕ) → kk ≡ ((at m t i).last - 1) * 6 + (w - 1) → (i < get_or heads kk 0) ⊎ ((i ≡ get_or heads k₀ 0) × (w ≡ k₀ % 6 + 1) × (r ≡ s)) → A i w r ⊎ ((i ≡ get_or heads k₀ 0) × (w ≡ k₀ % 6 + 1) × (r ≡ s))
          lift kk ek (inl before) = inl (inr (e, subst (λ (z : ℕ). i < get_or heads z 0) ek before))
          lift kk ek (inr here) = inr here

          go : (kk : ℕ) → kk % 6 + 1 ≡ w → kk / 6 + 1 ≡ (at m t i).last → i < get_or (set heads k₀ h') (((at m t i).last - 1) * 6 + (w - 1)) 0 → (kk ≡ k₀) ⊎ (kk ≢ k₀) →
              A i w r ⊎ ((i ≡ get_or heads k₀ 0) × (w ≡ k₀ % 6 + 1) × (r ≡ s))
          go kk ew el h c =
              let ek : kk ≡ ((at m t i).last - 1) * 6 + (w - 1) = omega arith in
              let h₁ : i < get_or (set heads k₀ h') kk 0 = subst (λ (z : ℕ). i < get_or (set heads k₀ h') z 0) (sym ek) h in
              elim c [
                | inl is ↦ let e₁ : get_or (set heads k₀ h') kk 0 ≡ h' = ap (λ (z : ℕ). get_or (set heads k₀ h') z 0) is ∙ get_or-set_same heads k₀ h' 0 (omega arith) in
                    lift kk ek (three kk is ew el (cases_lt i (get_or heads k₀ 0)) (cases_eq i (get_or heads k₀ 0)) (omega arith))
                | inr not ↦ let e₁ : get_or (set heads k₀ h') kk 0 ≡ get_or heads kk 0 = get_or-set_other heads k₀ kk h' 0 not in lift kk ek (inl (omega arith))
              ]

      -- what was done stays done
      pub ahead_keeps : (i w r : ℕ) → A i w r → Ahead m book grid channel q t a b (set heads k₀ h') s i w r
      ahead_keeps i w r (inl h) = inl h
      ahead_keeps i w r (inr (e, h)) = inr (e, go (((at m t i).last - 1) * 6 + (w - 1)) h (cases_eq (((at m t i).last - 1) * 6 + (w - 1)) k₀))
        where
          go : (kk : ℕ) → i < get_or heads kk 0 → (kk ≡ k₀) ⊎ (kk ≢ k₀) → i < get_or (set heads k₀ h') kk 0
          go kk l (inl is) =
              let e₁ : get_or (set heads k₀ h') kk 0 ≡ h' = ap (λ (z : ℕ). get_or (set heads k₀ h') z 0) is ∙ get_or-set_same heads k₀ h' 0 (omega arith) in
              let e₂ : get_or heads kk 0 ≡ get_or heads k₀ 0 = ap (λ (z : ℕ). get_or heads z 0) is in
              omega arith
          go kk l (inr not) = let e₁ : get_or (set heads k₀ h') kk 0 ≡ get_or heads kk 0 = get_or-set_other heads k₀ kk h' 0 not in omega arith
