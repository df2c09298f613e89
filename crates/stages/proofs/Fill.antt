-- The turn of one space, from its beginning to its end. Assumes nothing.
use Rattle.std.proofs.Common.{◌≡◌, ℕ, ◌+◌, ◌-◌, ◌*◌, ◌/◌, ◌%◌, ◌<◌, ◌≤◌, true, leb, List, length, get_or, take, None, sym, refl, ap, ◌∙◌, subst, arith, length-take}
use Rattle.drawing.specs.declared.words.Grid.{Grid}
use Rattle.drawing.specs.declared.words.Wire.{Wire}
use Rattle.measures.specs.Laws.{Laws}
use Rattle.pricing.specs.Allocations.{Book, is_step_of}
use Rattle.pricing.specs.Measures.{Measure}
use Rattle.frontier.specs.declared.records.State.{State}
use Rattle.frontier.proofs.Members.{and_left}
use Rattle.stages.specs.Table.{Opened, blank, at, Standing, Head, Least, Task, Offered, Next, Turn, Between}
use Rattle.stages.proofs.Sift.{sift_start, sift_open, sift_close}
use Rattle.stages.proofs.Heads.{read_front}
use Rattle.stages.proofs.Places.{next}

module _ {V : Type 0} {m : Measure V} {channel : ℕ} {q : Wire} {t t₁ : List (State V)} {a b : ℕ} where
  -- the front stays, so the task stays
  pub task_again : {reach : ℕ → V → Type 0} → Task m reach channel q t a b → take b t₁ ≡ take b t → length t₁ ≡ length t → Task m reach channel q t₁ a b
  task_again {reach} task e el = record {
    fits = task.fits;
    narrow = task.narrow;
    low = task.low;
    high = omega (arith, task.high);
    standing = subst (λ (z : List (State V)). Standing m reach channel z a b) (sym e) task.standing;
  }

  -- the same of a turn
  pub turn_again : {book : Book} {grid : Grid} {s : ℕ} {heads : List ℕ} {end : ℕ} → Turn m book grid channel q t a b s heads t₁ end → Turn m book grid channel q (take b t₁) a b s heads t₁ end
  turn_again {book} {grid} {s} {heads} {end} turn = subst (λ (z : List (State V)). Turn m book grid channel q z a b s heads t₁ end) (sym turn.front) turn

  -- and between turns
  pub between_again : {book : Book} {grid : Grid} {s end : ℕ} → Between m book grid channel q t a b s t₁ end → Between m book grid channel q (take b t₁) a b s t₁ end
  between_again {book} {grid} {s} {end} h = subst (λ (z : List (State V)). Between m book grid channel q z a b s t₁ end) (sym h.front) h

module _ {V : Type 0} {m : Measure V} {reach : ℕ → V → Type 0} (laws : Laws m.empty m.made m.joined m.below reach) {book : Book} {grid : Grid} {channel : ℕ} {q : Wire} {a b : ℕ} where
  module _ {t : List (State V)} (task : Task m reach channel q t a b) {s : ℕ} where
    -- the turn of a space begins
    pub open_turn : {heads : List ℕ} → length heads ≡ 36 → {start : ℕ} → Between m book grid channel q (take b t) a b s t start →
        ((k : ℕ) → k < 36 → Opened book grid t a b s k (get_or heads k 0)) → Turn m book grid channel q (take b t) a b s heads t start
    open_turn {heads} long {start} B opened = record {
      sifted = sift_open m laws book grid channel q task.fits (take b t) a b task.standing s heads long heads_fit t start B.sifted none;
      heads_fit = heads_fit;
      lawful = λ k lt. (opened k lt).lawful;
      low = B.low;
      high = B.high;
      front = refl;
    }
      where
        lasts : (i : ℕ) → i < b → (get_or t i (blank m)).last ≡ (at m (take b t) i).last
        lasts i h = ap (λ (z : State V). z.last) (read_front m t b i (blank m) h task.high)

        heads_fit : (k : ℕ) → k < 36 → Head m (take b t) a b k (get_or heads k 0)
        heads_fit k lt = let o = opened k lt in record { high = o.high; low = o.low; last = λ h. sym (lasts (get_or heads k 0) h) ∙ o.last (blank m) h }

        none : (i w : ℕ) → Offered m book grid channel q (take b t) a b i w s → i < get_or heads (((at m (take b t) i).last - 1) * 6 + (w - 1)) 0 → ⊥
        none i w o h =
            let f = task.standing.fit i o.low o.high in
            let l = (at m (take b t) i).last in
            let kk = (l - 1) * 6 + (w - 1) in
            let small : kk < 36 = omega (arith, f.last.0, f.last.1, o.width.0, o.width.1) in
            let ew : kk % 6 + 1 ≡ w = omega (arith, f.last.0, f.last.1, o.width.0, o.width.1) in
            let el : kk / 6 + 1 ≡ l = omega (arith, f.last.0, f.last.1, o.width.0, o.width.1) in
            let admits : book l w s ≡ true = and_left (book l w s) (leb ((at m (take b t) i).used + w + s) channel) o.follows in
            let admits' : book (kk / 6 + 1) (kk % 6 + 1) s ≡ true = subst (λ (z : ℕ). book z (kk % 6 + 1) s ≡ true) (sym el) (subst (λ (z : ℕ). book l z s ≡ true) (sym ew) admits) in
            (opened kk small).none i (blank m) o.low h (lasts i o.high ∙ sym el) (subst (λ (z : ℕ). is_step_of grid.widths z ≡ true) (sym ew) o.width_in) admits'

    -- the turn of a space ends
    pub close_turn : {heads : List ℕ} → length heads ≡ 36 → {end : ℕ} → Turn m book grid channel q (take b t) a b s heads t end →
        Least m q (take b t) b heads s 36 None → Between m book grid channel q (take b t) a b (s + 1) t end
    close_turn {heads} long {end} turn least = record {
      sifted = sift_close m laws book grid channel q task.fits (take b t) a b task.standing s heads long turn.heads_fit t end turn.sifted least;
      earlier = λ k h i. let l = turn.sifted.lasts k h i in omega arith;
      low = turn.low;
      high = turn.high;
      front = refl;
    }

  -- before the first turn
  pub start_turn : {t : List (State V)} → Task m reach channel q t a b → Between m book grid channel q (take b t) a b 1 t b
  start_turn {t} task = record {
    sifted = sift_start m laws book grid channel q task.fits (take b t) a b task.standing t;
    earlier = λ k h i. absurd (omega arith);
    low = omega arith;
    high = task.high;
    front = refl;
  }

  -- after the last turn
  pub stage_done : (t : List (State V)) {t₁ : List (State V)} {s end : ℕ} → s ≡ 7 → take b t₁ ≡ take b t → Task m reach channel q t₁ a b → Between m book grid channel q (take b t₁) a b s t₁ end →
      Next m book grid channel q (take b t) a b t₁ end
  stage_done t {t₁} {s} {end} es e task B =
      let B₇ : Between m book grid channel q (take b t₁) a b 7 t₁ end = subst (λ (z : ℕ). Between m book grid channel q (take b t₁) a b z t₁ end) es B in
      let long : b ≤ length (take b t₁) = simp length-take (omega (arith, task.high)) in
      subst (λ (z : List (State V)). Next m book grid channel q z a b t₁ end) e
      (next m laws book grid channel q task.fits (take b t₁) a b task.standing task.low long t₁ end B₇)
