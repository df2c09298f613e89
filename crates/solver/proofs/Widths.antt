-- Place by place: the least width, the least used width behind it, and the rows. Assumes nothing.
use Rattle.std.proofs.Common.{◌≡◌, ℕ, ◌+◌, ◌<◌, ◌≤◌, min, Bool, true, false, ◌&&◌, ◌⊎◌, List, Some, None, Option, sym, ◌∙◌, subst, inl, inr, ap, arith}
use Rattle.std.specs.Prelude.{MatchOption}
use Rattle.std.proofs.lemmas.Bool.{both_ways, cases_lt, leb-true}
use Rattle.pricing.specs.Allocations.{Book, is_step_of}
use Rattle.pricing.proofs.Steps.{step_from}
use Rattle.frontier.proofs.Members.{and_left, and_right, and_both}
use Rattle.solver.specs.Least.{is_step, MayStand, AtMost, LeastWidth, used_at, NoneBelow, Behind, Way, Into}
use Rattle.solver.specs.Options.{FirstOf}

-- a step of a grid byte is at least 1
pub step_low : (byte s : ℕ) → is_step byte s → 1 ≤ s
step_low byte s t = leb-true 1 s (and_left (lib.Dec.leb 1 s) (lib.Dec.leb s 6) (step_from byte s t))

-- and at most 6
pub step_high : (byte s : ℕ) → is_step byte s → s ≤ 6
step_high byte s t = leb-true s 6 (and_right (lib.Dec.leb 1 s) (lib.Dec.leb s 6) (step_from byte s t))

-- the two tests of a width in one
abbrev pub stands : Book → ℕ → ℕ → ℕ → ℕ → Bool
stands book widths left right w = is_step_of widths w && book left w right

-- the first width that passes both tests is the least
pub least_found : (book : Book) (widths left right : ℕ) (r : Option ℕ) →
    MatchOption r ((k : ℕ) → 1 ≤ k → k < 7 → stands book widths left right k ≡ false)
    (λ w. (1 ≤ w) × (w < 7) × (stands book widths left right w ≡ true) × ((k : ℕ) → 1 ≤ k → k < w → stands book widths left right k ≡ false)) →
    LeastWidth book widths left right r
least_found book widths left right None none = record {
  may = λ w e. absurd (cc);
  low = λ w m. both_ways _ (none w (step_low widths w m.step) (let h = step_high widths w m.step in omega arith)) (and_both (is_step_of widths w) (book left w right) m.step m.may);
}
least_found book widths left right (Some b) (low, high, t, none) = record {
  may = λ w e.
      let same : b ≡ w = cc in
      subst (λ (z : ℕ). MayStand book widths left right z) same
      (record { step = and_left (is_step_of widths b) (book left b right) t; may = and_right (is_step_of widths b) (book left b right) t });
  low = λ w m. go w m (cases_lt w b);
}
  where
    go : (w : ℕ) → MayStand book widths left right w → (w < b) ⊎ (b ≤ w) → b ≤ w
    go w m (inl k) = absurd (both_ways _ (none w (step_low widths w m.step) k) (and_both (is_step_of widths w) (book left w right) m.step m.may))
    go w m (inr k) = k

-- at most one is at most the other
pub at_most_up : (o : Option ℕ) (m n : ℕ) → AtMost o m → m ≤ n → AtMost o n
at_most_up None m n h k = h
at_most_up (Some b) m n h k = omega arith

-- the lesser of two numbers, where there are two
abbrev pub lesser_of : Option ℕ → Option ℕ → Option ℕ
lesser_of None b = b
lesser_of (Some x) None = Some x
lesser_of (Some x) (Some y) = Some (min x y)

-- the lesser of two is at most what either is at most
pub lesser_left : (a b : Option ℕ) (n : ℕ) → AtMost a n → AtMost (lesser_of a b) n
lesser_left None b n h = absurd h
lesser_left (Some x) None n h = h
lesser_left (Some x) (Some y) n h = omega arith

pub lesser_right : (a b : Option ℕ) (n : ℕ) → AtMost b n → AtMost (lesser_of a b) n
lesser_right None b n h = h
lesser_right (Some x) None n h = absurd h
lesser_right (Some x) (Some y) n h = omega arith

-- and is one of the two
lesser_one : (a b : Option ℕ) (n : ℕ) → lesser_of a b ≡ Some n → (a ≡ Some n) ⊎ (b ≡ Some n)
lesser_one None b n e = inr e
lesser_one (Some x) None n e = inl e
lesser_one (Some x) (Some y) n e = go (cases_lt x y)
  where
    go : (x < y) ⊎ (y ≤ x) → (Some x ≡ Some n) ⊎ (Some y ≡ Some n)
    go (inl h) = let m : min x y ≡ x = omega arith in inl (sym (ap Some m) ∙ e)
    go (inr h) = let m : min x y ≡ y = omega arith in inr (sym (ap Some m) ∙ e)

-- the first of two by their order is the lesser
pub lesser_first : (post : ℕ → ℕ → Bool → Type 0) → ((x y : ℕ) → post x y true → x ≤ y) → ((x y : ℕ) → post x y false → y ≤ x) →
    (a b r : Option ℕ) → FirstOf post a b r → r ≡ lesser_of a b
lesser_first post up down None b r h = h
lesser_first post up down (Some x) None r h = h
lesser_first post up down (Some x) (Some y) r (true, p, e) = let u = up x y p in let m : x ≡ min x y = omega arith in e ∙ ap Some m
lesser_first post up down (Some x) (Some y) r (false, p, e) = let u = down x y p in let m : y ≡ min x y = omega arith in e ∙ ap Some m

module _ (book : Book) (widths channel : ℕ) (row : List (Option ℕ)) (right : ℕ) where
  -- one place more
  pub into_more : (i : ℕ) (least used : Option ℕ) → Into book widths channel row right i least → Behind book widths channel (used_at row i) (i + 1) right used →
      Into book widths channel row right (i + 1) (lesser_of least used)
  into_more i least used was here = record {
    way = λ u e. way u (lesser_one least used u e);
    low = λ j h. low j (cases_lt j i) h;
  }
    where
      way : (u : ℕ) → (least ≡ Some u) ⊎ (used ≡ Some u) → Way book widths channel row right u
      way u (inl e) = was.way u e
      way u (inr e) = (i, here.way u e)

      low : (j : ℕ) → (j < i) ⊎ (i ≤ j) → j < i + 1 → NoneBelow book widths channel (used_at row j) (j + 1) right (lesser_of least used)
      low j (inl k) h = λ n w e m room. lesser_left least used (n + w + right) (was.low j k n w e m room)
      low j (inr k) h =
          let same : i ≡ j = omega arith in
          subst (λ (z : ℕ). NoneBelow book widths channel (used_at row z) (z + 1) right (lesser_of least used)) same
          (λ n w e m room. lesser_right least used (n + w + right) (here.low n w e m room))
