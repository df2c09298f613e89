-- One offer after another. Assumes nothing.
use Rattle.std.proofs.Common.{◌≡◌, ℕ, ◌+◌, ◌-◌, ◌*◌, ◌/◌, ◌%◌, ◌<◌, ◌≤◌, Bool, true, false, leb, ◌≢◌, ◌⊎◌, List, [], ◌∷◌, ◌++◌, length, get_or, take, set, Some, None, Option, sym, refl, ap, ◌∙◌, subst, inl, inr, arith, length-append, length-set, length-take, get_or-set_other, get_or-set_same}
use Rattle.std.proofs.lemmas.List.{take-set-le, get_or_append_left, get_or_at}
use Rattle.std.proofs.lemmas.Bool.{leb-true, le-leb, cases_eq}
use Rattle.drawing.specs.declared.words.Grid.{Grid}
use Rattle.drawing.specs.declared.words.Wire.{Wire}
use Rattle.measures.specs.Laws.{Laws}
use Rattle.pricing.specs.Allocations.{Book, is_step_of}
use Rattle.pricing.specs.Measures.{Measure}
use Rattle.frontier.specs.declared.records.State.{State}
use Rattle.frontier.specs.Orders.{upto}
use Rattle.frontier.specs.States.{Kept, kept_of}
use Rattle.frontier.proofs.Members.{and_right, and_both}
use Rattle.stages.specs.Table.{Step, stated, Skipped, Inside, blank, slot, at, Head, head_offer, Least, Ready, Beaten, noted, behind, Leasts, Task, Offered, Sifted, Ahead, Outnumber, Turn}
use Rattle.stages.proofs.Order.{Near}
use Rattle.stages.proofs.Sift.{offer_near, made_near, sift_drop, sift_keep, ahead_or, least_of_all, ahead_grows, ahead_keeps}
use Rattle.stages.proofs.Heads.{read_front}
use Rattle.stages.proofs.Places.{sifted_count}
use Rattle.stages.proofs.Leasts.{inside_of, behind_beaten, leasts_more}

module _ {V : Type 0} {m : Measure V} {reach : ℕ → V → Type 0} (laws : Laws m.empty m.made m.joined m.below reach) {book : Book} {grid : Grid} {channel : ℕ} {q : Wire} {t : List (State V)} {a b : ℕ}
    (task : Task m reach channel q t a b) {s : ℕ} {heads : List ℕ} {end : ℕ} (turn : Turn m book grid channel q (take b t) a b s heads t end) where
  -- what it takes to read the heads
  pub ready : Step s → Ready m reach q t b heads s
  ready step = record {
    fits = task.fits;
    space = step;
    high = task.high;
    fit = λ k lt h.
        let hd = turn.heads_fit k lt in
        let f = task.standing.fit (get_or heads k 0) hd.low h in
        (record { last = f.last; used = omega (arith, f.used, task.narrow); power = f.power; near = f.near }, hd.last h);
  }

  -- the places of the least delays stand inside the table
  pub least_inside : (least : List (Option ℕ)) → Leasts m t b end s least → (u : ℕ) → u < 301 → Inside (get_or least u None) (length t)
  least_inside least L u lt = inside_of m t b end s u (length t) turn.high (get_or least u None) (L u lt)

  module _ (long : length heads ≡ 36) (step : Step s) (among : is_step_of grid.spaces s ≡ true) (k : ℕ) (least : Least m q (take b t) b heads s 36 (Some k)) {h' : ℕ} (sk : Skipped t (get_or heads k 0 + 1) b (k / 6 + 1) h') where
    -- what the head offers
    abbrev x : Kept V
    x = head_offer m q (take b t) heads s k

    -- the same as the code holds it
    abbrev v : State V
    v = stated (head_offer m q (take b t) heads s k) (k % 6 + 1) (get_or heads k 0)

    -- the offers that are done
    abbrev D : List ℕ → ℕ → ℕ → ℕ → Type 0
    D hs i w r = Ahead m book grid channel q (take b t) a b hs s i w r

    -- a lawful offer
    abbrev O : ℕ → ℕ → ℕ → Type 0
    O i w r = Offered m book grid channel q (take b t) a b i w r

    -- the last spaces are read from the front
    lasts : (i : ℕ) → i < b → (get_or t i (blank m)).last ≡ (at m (take b t) i).last
    lasts i h = ap (λ (z : State V). z.last) (read_front m t b i (blank m) h task.high)

    -- what the head skips is of another last space
    skipped : (i : ℕ) → get_or heads k 0 + 1 ≤ i → i < h' → (at m (take b t) i).last ≡ k / 6 + 1 → ⊥
    skipped i l h e = let ib : i < b = omega (arith, sk.high) in sk.passed i (blank m) l h (lasts i ib ∙ e)

    -- only the head's offer is newly done
    grows : (i w r : ℕ) → O i w r → D (set heads k h') i w r → D heads i w r ⊎ ((i ≡ get_or heads k 0) × (w ≡ k % 6 + 1) × (r ≡ s))
    grows = ahead_grows m laws book grid channel q task.fits (take b t) a b task.standing s heads long turn.heads_fit k least.0 h' (omega (arith, sk.low)) skipped

    -- what was done stays done
    keeps : (i w r : ℕ) → D heads i w r → D (set heads k h') i w r
    keeps = ahead_keeps m laws book grid channel q task.fits (take b t) a b task.standing s heads long turn.heads_fit k least.0 h' (omega (arith, sk.low)) skipped

    -- a fact of each head, where it holds of the head that moved
    moved_heads : (P : ℕ → ℕ → Type 0) → ((j : ℕ) → j < 36 → P j (get_or heads j 0)) → P k h' → (j : ℕ) → j < 36 → P j (get_or (set heads k h') j 0)
    moved_heads P old new j lt = go (cases_eq j k)
      where
        go : (j ≡ k) ⊎ (j ≢ k) → P j (get_or (set heads k h') j 0)
        go (inl e) =
            let is : get_or (set heads k h') j 0 ≡ h' = ap (λ (z : ℕ). get_or (set heads k h') z 0) e ∙ get_or-set_same heads k h' 0 (omega (arith, least.0)) in
            subst (λ (z : ℕ). P j z) (sym is) (subst (λ (z : ℕ). P z h') (sym e) new)
        go (inr ne) = subst (λ (z : ℕ). P j z) (sym (get_or-set_other heads k j h' 0 ne)) (old j lt)

    -- the heads stand in their streams
    heads' : (j : ℕ) → j < 36 → Head m (take b t) a b j (get_or (set heads k h') j 0)
    heads' = moved_heads (λ j h. Head m (take b t) a b j h) turn.heads_fit
        (record { high = sk.high; low = omega (arith, sk.low, (turn.heads_fit k least.0).low); last = λ h. sym (lasts h' h) ∙ sk.found (blank m) h })

    -- and their streams are lawful
    lawful' : (j : ℕ) → j < 36 → get_or (set heads k h') j 0 < b → (is_step_of grid.widths (j % 6 + 1) ≡ true) × (book (j / 6 + 1) (j % 6 + 1) s ≡ true)
    lawful' = moved_heads (λ j h. h < b → (is_step_of grid.widths (j % 6 + 1) ≡ true) × (book (j / 6 + 1) (j % 6 + 1) s ≡ true)) turn.lawful (λ h. turn.lawful k least.0 least.1)

    -- the head's offer is lawful where the channel has room
    offered : x.used ≤ channel → O (get_or heads k 0) (k % 6 + 1) s
    offered fits =
        let hd = turn.heads_fit k least.0 in
        let ok = turn.lawful k least.0 least.1 in
        let i = get_or heads k 0 in
        record {
          low = hd.low;
          high = least.1;
          width = (omega arith, omega arith);
          width_in = ok.0;
          space = step;
          space_in = among;
          follows = and_both (book (at m (take b t) i).last (k % 6 + 1) s) (leb ((at m (take b t) i).used + (k % 6 + 1) + s) channel)
              (subst (λ (l : ℕ). book l (k % 6 + 1) s ≡ true) (sym (hd.last least.1)) ok.1) (le-leb _ _ fits);
        }

    -- the offer is dropped: it is too wide, or beaten
    pub turn_drop : (x.used ≤ channel → Beaten m t b end x true) → Turn m book grid channel q (take b t) a b s (set heads k h') t end
    turn_drop why = record {
      sifted = sift_drop m laws book grid channel q task.fits (take b t) a b task.standing (D heads) (D (set heads k h')) s t end turn.sifted (get_or heads k 0) (k % 6 + 1) grows keeps
          (λ o. why (leb-true _ _ (and_right (book (at m (take b t) (get_or heads k 0)).last (k % 6 + 1) s) (leb ((at m (take b t) (get_or heads k 0)).used + (k % 6 + 1) + s) channel) o.follows)));
      heads_fit = heads';
      lawful = lawful';
      low = turn.low;
      high = turn.high;
      front = refl;
    }

    -- the head's offer is not done yet
    undone : D heads (get_or heads k 0) (k % 6 + 1) s → ⊥
    undone (inl h) = omega arith
    undone (inr (e, h)) =
        let el : (at m (take b t) (get_or heads k 0)).last ≡ k / 6 + 1 = (turn.heads_fit k least.0).last least.1 in
        let ek : ((at m (take b t) (get_or heads k 0)).last - 1) * 6 + (k % 6 + 1 - 1) ≡ k = omega (arith, el) in
        let eh : get_or heads (((at m (take b t) (get_or heads k 0)).last - 1) * 6 + (k % 6 + 1 - 1)) 0 ≡ get_or heads k 0 = ap (λ (z : ℕ). get_or heads z 0) ek in
        omega (arith, eh)

    -- the offer is held, in any table that has it at the end
    held : x.used ≤ channel → Beaten m t b end x false → (t'' : List (State V)) → ((j : ℕ) → j < end → slot m t'' j ≡ slot m t j) → slot m t'' end ≡ v →
        Sifted m book grid channel q (take b t) a b (D (set heads k h')) s t'' (end + 1)
    held fits un t'' same new =
        sift_keep m laws book grid channel q task.fits (take b t) a b task.standing (D heads) (D (set heads k h')) s t end turn.sifted (get_or heads k 0) (k % 6 + 1) grows keeps
        (offered fits) turn.low
        (ahead_or m laws book grid channel q task.fits (take b t) a b task.standing s heads long turn.heads_fit)
        undone
        (least_of_all m laws book grid channel q task.fits (take b t) a b task.standing s heads long turn.heads_fit k least.0 least)
        un t'' same new

    -- the offer is kept
    pub turn_keep : x.used ≤ channel → Beaten m t b end x false → end < length t → Turn m book grid channel q (take b t) a b s (set heads k h') (set t end v) (end + 1)
    turn_keep fits un room = record {
      sifted = held fits un (set t end v) (λ j h. let ne : j ≢ end = omega arith in get_or-set_other t end j v (blank m) ne) (get_or-set_same t end v (blank m) room);
      heads_fit = heads';
      lawful = lawful';
      low = omega (arith, turn.low);
      high = omega (arith, length-set t end v);
      front = take-set-le b t end v turn.low;
    }

    -- the offer is to be kept and there is no room
    pub turn_full : x.used ≤ channel → Beaten m t b end x false → end ≡ length t → Outnumber m book grid channel q (take b t) a b (length t - b)
    turn_full fits un full =
        let t'' = t ++ (v ∷ []) in
        let long'' : length t'' ≡ length t + 1 = length-append t (v ∷ []) in
        let S = held fits un t'' (λ j h. get_or_append_left t (v ∷ []) (blank m) j (omega arith)) (get_or_at t v [] (blank m) end (sym full)) in
        let bt : length (take b t) ≡ b = simp length-take (omega (arith, task.high)) in
        let c = sifted_count m laws book grid channel q task.fits (take b t) a b task.standing task.low (omega arith) (D (set heads k h')) s t'' (end + 1) S (omega (arith, turn.low)) (omega arith) in
        omega (arith, c, turn.low)

    -- the same of the state y that the code has made
    module _ {y : State V} (is : y ≡ stated (head_offer m q (take b t) heads s k) (k % 6 + 1) (get_or heads k 0)) where
      -- it is too wide
      pub drop_wide : channel < y.used → Turn m book grid channel q (take b t) a b s (set heads k h') t end
      drop_wide h = turn_drop (λ fits. let e : y.used ≡ x.used = ap (λ (z : State V). z.used) is in absurd (wide e h fits))
        where
          wide : {u v : ℕ} → u ≡ v → channel < u → v ≤ channel → ⊥
          wide e h f = omega arith

      -- it is beaten
      pub drop_beaten : Beaten m t b end (kept_of y) true → Turn m book grid channel q (take b t) a b s (set heads k h') t end
      drop_beaten h = turn_drop (λ fits. subst (λ (z : State V). Beaten m t b end (kept_of z) true) is h)

      -- it is kept
      pub keep_it : y.used ≤ channel → Beaten m t b end (kept_of y) false → end < length t →
          Turn m book grid channel q (take b t) a b s (set heads k h') (set t end y) (end + 1)
      keep_it fits un room =
          subst (λ (z : State V). Turn m book grid channel q (take b t) a b s (set heads k h') (set t end z) (end + 1)) (sym is)
          (turn_keep (subst (λ (z : State V). z.used ≤ channel) is fits) (subst (λ (z : State V). Beaten m t b end (kept_of z) false) is un) room)

      -- there is no room for it
      pub full_it : y.used ≤ channel → Beaten m t b end (kept_of y) false → end ≡ length t → Outnumber m book grid channel q (take b t) a b (length t - b)
      full_it fits un full = turn_full (subst (λ (z : State V). z.used ≤ channel) is fits) (subst (λ (z : State V). Beaten m t b end (kept_of z) false) is un) full

      -- what is held is in reach
      near : (j : ℕ) → b ≤ j → j < end → Near reach (at m t j)
      near j h i = made_near m laws book grid channel q task.fits (take b t) a b task.standing (slot m t j) (turn.sifted.made j h i)

      -- and so is it
      y_near : y.used ≤ channel → Near reach (kept_of y)
      y_near fits =
          subst (λ (z : State V). Near reach (kept_of z)) (sym is)
          (offer_near m laws book grid channel q task.fits (take b t) a b task.standing (get_or heads k 0) (k % 6 + 1) s (offered (subst (λ (z : State V). z.used ≤ channel) is fits)))

      -- it is of the space s
      y_last : y.last ≡ s
      y_last = ap (λ (z : State V). z.last) is

      -- the least delay at its used width tells whether it is beaten
      pub beaten_by : y.used ≤ channel → (least : List (Option ℕ)) → Leasts m t b end s least → (r : Bool) → r ≡ behind m t (get_or least y.used None) y.delay → Beaten m t b end (kept_of y) r
      beaten_by fits least L r e =
          behind_beaten m laws t b end s near (kept_of y) (y_near fits) y_last (get_or least y.used None) (L y.used (omega (arith, fits, task.narrow)))
          (λ j h i el. subst (λ (z : State V). upto m (at m t j) (kept_of z) ≡ true) (sym is)
          (turn.sifted.later j h i el (get_or heads k 0) (k % 6 + 1) (offered (subst (λ (z : State V). z.used ≤ channel) is fits)) undone))
          r e

      -- its delay is noted
      pub leasts_kept : y.used ≤ channel → (least least' : List (Option ℕ)) → Leasts m t b end s least → ((u : ℕ) → u < 301 → get_or least' u None ≡ noted m t end (get_or least u None) u y.used y.delay) →
          end < length t → Leasts m (set t end y) b (end + 1) s least'
      leasts_kept fits least least' L note room =
          leasts_more m laws t b end s near (kept_of y) (y_near fits) y_last least least' turn.low L note (set t end y)
          (λ j h. let ne : j ≢ end = omega arith in ap kept_of (get_or-set_other t end j y (blank m) ne))
          (ap kept_of (get_or-set_same t end y (blank m) room))
