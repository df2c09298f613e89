-- Stage 0 is written space by space, and holds the kept states of no wire. Assumes nothing.
use Rattle.std.proofs.Common.{◌≡◌, ℕ, zero, suc, ◌+◌, ◌<◌, ◌≤◌, Bool, true, false, cond, leb, ◌≢◌, ◌⊎◌, List, [], ◌∷◌, ◌++◌, map, length, get_or, set, sym, refl, ap, ◌∙◌, subst, inl, inr, arith, length-append, length-set, get_or-set_other, get_or-set_same}
use mathlib.Core.List.Memᴰ
use Rattle.std.proofs.lemmas.List.{get_or_append_left, get_or_at}
use Rattle.std.proofs.lemmas.Bool.{leb-true, le-leb}
use Rattle.drawing.specs.declared.words.Grid.{Grid}
use Rattle.drawing.specs.Lists.{keep}
use Rattle.drawing.specs.Plans.{Plan, Sound}
use Rattle.drawing.specs.Steps.{all_steps, has_step, steps}
use Rattle.measures.specs.Laws.{Laws}
use Rattle.pricing.specs.Allocations.{Book, is_step_of}
use Rattle.pricing.specs.Measures.{Measure}
use Rattle.frontier.specs.declared.records.State.{State}
use Rattle.frontier.specs.Lists.{◌∈◌, Fresh}
use Rattle.frontier.specs.States.{Kept, kept_of, kept}
use Rattle.frontier.specs.Stages.{start, starts}
use Rattle.frontier.proofs.Members.{keep_in, keep_make, map_in, map_make}
use Rattle.frontier.proofs.Allocations.{among_in, among_make}
use Rattle.frontier.proofs.Reach.{limited_wires}
use Rattle.frontier.proofs.Counts.{count_le, kept_counted_holds}
use Rattle.frontier.proofs.Ends.{row_first_holds}
use Rattle.stages.specs.Table.{stated, rows, blank, slot, at}
use Rattle.stages.specs.Stage.{at_stage, Fits, Stage}
use Rattle.stages.specs.Openings.{Begins, Opening}
use Rattle.stages.proofs.Sift.{last_or}
use Rattle.stages.proofs.Places.{fresh_from, step_in, rows_length, rows_in, rows_make, rows_fresh}

-- the states of no wire, by grid and channel
abbrev firsts : {V : Type 0} → Measure V → Grid → ℕ → List (Kept V)
firsts m grid channel = map (start m) (keep (λ r. leb r channel) (steps grid.spaces))

module _ {V : Type 0} (m : Measure V) (grid : Grid) (channel : ℕ) where
  -- what a state of stage 0 counts is one of them
  begins_in : (x : State V) → Begins m grid channel x → kept_of x ∈ firsts m grid channel
  begins_in x h =
      map_make (start m) (keep_make (λ r. leb r channel) (among_in (steps grid.spaces) x.last h.step) (le-leb x.last channel h.room)) (ap kept_of h.is)

  -- before the first space nothing is written
  pub opening_start : (t : List (State V)) → Opening m grid channel 1 t 0
  opening_start t = record {
    high = omega arith;
    begins = λ k h. absurd (omega arith);
    earlier = λ k h. absurd (omega arith);
    whole = λ r h on room. let l = (step_in grid.spaces r on).0 in absurd (omega arith);
    rising = λ k k' h l. absurd (omega arith);
  }

  module _ {s : ℕ} {t : List (State V)} {end : ℕ} (was : Opening m grid channel s t end) where
    module _ (on : is_step_of grid.spaces s ≡ true) (room : s ≤ channel) (t₁ : List (State V)) (same : (k : ℕ) → k < end → slot m t₁ k ≡ slot m t k)
        (new : slot m t₁ end ≡ stated (start m s) 0 0) (long : end + 1 ≤ length t₁) where
      -- the last space of the new state
      newest : (slot m t₁ end).last ≡ s
      newest = ap (λ (z : State V). z.last) new

      -- the state of the space s stands at the end, in any table that holds the others
      pub opening_more : Opening m grid channel (s + 1) t₁ (end + 1)
      opening_more = record {
        high = long;
        begins = λ k h. begins k (last_or k end h);
        earlier = λ k h. earlier k (last_or k end h);
        whole = λ r h on room. whole r on room (last_or r s h);
        rising = λ k k' h l. rising k k' h (last_or k' end l);
      }
        where
          first_one : Begins m grid channel (stated (start m s) 0 0)
          first_one = record { step = on; room = room; is = refl }

          begins : (k : ℕ) → (k < end) ⊎ (k ≡ end) → Begins m grid channel (slot m t₁ k)
          begins k (inl h) = subst (λ (z : State V). Begins m grid channel z) (sym (same k h)) (was.begins k h)
          begins k (inr e) = subst (λ (z : State V). Begins m grid channel z) (sym (ap (slot m t₁) e ∙ new)) first_one

          earlier : (k : ℕ) → (k < end) ⊎ (k ≡ end) → (slot m t₁ k).last < s + 1
          earlier k (inl h) = let l = was.earlier k h in let e = ap (λ (z : State V). z.last) (same k h) in omega arith
          earlier k (inr e) = let l : (slot m t₁ k).last ≡ s = ap (λ (z : ℕ). (slot m t₁ z).last) e ∙ newest in omega arith

          whole : (r : ℕ) → is_step_of grid.spaces r ≡ true → r ≤ channel → (r < s) ⊎ (r ≡ s) → (k : ℕ) × (k < end + 1) × ((slot m t₁ k).last ≡ r)
          whole r on room (inl h) =
              let w = was.whole r h on room in
              (w.0, omega (arith, w.1), ap (λ (z : State V). z.last) (same w.0 w.1) ∙ w.2)
          whole r on room (inr e) = (end, omega arith, newest ∙ sym e)

          rising : (k k' : ℕ) → k < k' → (k' < end) ⊎ (k' ≡ end) → (slot m t₁ k).last < (slot m t₁ k').last
          rising k k' h (inl l) =
              let kl : k < end = omega arith in
              let r = was.rising k k' h l in
              let e = ap (λ (z : State V). z.last) (same k kl) in
              let e' = ap (λ (z : State V). z.last) (same k' l) in
              omega arith
          rising k k' h (inr l) =
              let kl : k < end = omega arith in
              let r = was.earlier k kl in
              let e = ap (λ (z : State V). z.last) (same k kl) in
              let e' : (slot m t₁ k').last ≡ s = ap (λ (z : ℕ). (slot m t₁ z).last) l ∙ newest in
              omega arith

    -- the state of the space s is written
    pub opening_put : is_step_of grid.spaces s ≡ true → s ≤ channel → end < length t → {x : State V} → x ≡ stated (start m s) 0 0 → Opening m grid channel (s + 1) (set t end x) (end + 1)
    opening_put on room lt {x} e =
        opening_more on room (set t end x) (λ k h. let ne : k ≢ end = omega arith in get_or-set_other t end k x (blank m) ne)
        (get_or-set_same t end x (blank m) lt ∙ e) (omega (arith, length-set t end x))

  -- different places hold different states
  opening_fresh : (s : ℕ) (t : List (State V)) (end : ℕ) → Opening m grid channel s t end → Fresh (rows t 0 end)
  opening_fresh s t end was =
      rows_fresh m t 0 end (omega arith) was.high
      (λ k k' z h l e. let r = was.rising k k' h l in let same = ap (λ (x : Kept V). x.last) e in omega arith)

  -- no more is written than there are states of no wire
  opening_count : (s : ℕ) (t : List (State V)) (end : ℕ) → Opening m grid channel s t end → end ≤ length (firsts m grid channel)
  opening_count s t end was =
      let c = count_le (rows t 0 end) (firsts m grid channel) (opening_fresh s t end was) (λ x i.
      let p = rows_in m t 0 end (omega arith) was.high i in
      Memᴰ.cast p.3 (begins_in (slot m t p.0) (was.begins p.0 p.2))) in
      omega (arith, rows_length m t 0 end (omega arith) was.high)

  -- a state is to be written and there is no room
  pub opening_full : {s : ℕ} {t : List (State V)} {end : ℕ} → Opening m grid channel s t end → is_step_of grid.spaces s ≡ true → s ≤ channel → end ≡ length t →
      length t < length (firsts m grid channel)
  opening_full {s} {t} {end} was on room full =
      let v = stated (start m s) 0 0 in
      let t₁ = t ++ (v ∷ []) in
      let long : length t₁ ≡ length t + 1 = length-append t (v ∷ []) in
      let more = opening_more was on room t₁ (λ k h. get_or_append_left t (v ∷ []) (blank m) k (omega arith)) (get_or_at t v [] (blank m) end (sym full)) (omega arith) in
      omega (arith, opening_count (s + 1) t₁ (end + 1) more)

-- no step stands twice among all steps
steps_fresh : Fresh all_steps
steps_fresh = fresh_from all_steps 0 (λ k k' h l e.
    let lk : k < 6 = omega arith in
    let a = step_at k lk in
    let b = step_at k' l in
    omega arith)
  where
    step_at : (k : ℕ) → k < 6 → get_or all_steps k 0 ≡ k + 1
    step_at zero h = refl
    step_at (suc zero) h = refl
    step_at (suc (suc zero)) h = refl
    step_at (suc (suc (suc zero))) h = refl
    step_at (suc (suc (suc (suc zero)))) h = refl
    step_at (suc (suc (suc (suc (suc zero))))) h = refl
    step_at (suc (suc (suc (suc (suc (suc k)))))) h = absurd (omega arith)

-- what is kept of a list in which none stands twice
fresh_keep : {A : Type 0} (f : A → Bool) (xs : List A) → Fresh xs → Fresh (keep f xs)
fresh_keep f [] h = tt
fresh_keep {A} f (x ∷ xs) h = go (f x) (fresh_keep f xs h.1)
  where
    go : (b : Bool) → Fresh (keep f xs) → Fresh (cond b (x ∷ keep f xs) (keep f xs))
    go true rest = ((λ i. h.0 (keep_in f xs i).0), rest)
    go false rest = rest

-- and what it is mapped to, where different elements go to different ones
fresh_map : {A B : Type 0} (f : A → B) → ((x y : A) → f x ≡ f y → x ≡ y) → (xs : List A) → Fresh xs → Fresh (map f xs)
fresh_map f one [] h = tt
fresh_map f one (x ∷ xs) h = ((λ i. let r = map_in f xs i in h.0 (Memᴰ.cast (one x r.0 r.2) r.1)), fresh_map f one xs h.1)

-- none of the states of no wire stands twice
firsts_fresh : {V : Type 0} (m : Measure V) (grid : Grid) (channel : ℕ) → Fresh (firsts m grid channel)
firsts_fresh m grid channel =
    fresh_map (start m) (λ x y e. ap (λ (z : Kept _). z.last) e) (keep (λ r. leb r channel) (steps grid.spaces))
    (fresh_keep (λ r. leb r channel) (steps grid.spaces) (fresh_keep (has_step grid.spaces) all_steps steps_fresh))

module _ {V : Type 0} (m : Measure V) {reach : ℕ → V → Type 0} (laws : Laws m.empty m.made m.joined m.below reach) (book : Book) (d : Plan) where
  -- as many states of no wire as stage 0 keeps
  pub firsts_count : Sound d → length (firsts m d.grid d.channel) ≡ length (kept m book d 0)
  firsts_count ok =
      kept_counted_holds m laws book d (limited_wires d ok) 0 (starts m d)
      (row_first_holds m book d (starts m d) (firsts_fresh m d.grid d.channel) (λ s. (λ i. i, λ i. i)))

  -- the written states are the kept states of stage 0
  pub opening_stage : (t : List (State V)) (end : ℕ) → Opening m d.grid d.channel 7 t end → Stage m reach book (at_stage d 0) t 0 end
  opening_stage t end was = record {
    low = omega arith;
    high = was.high;
    row = row_first_holds m book d (rows t 0 end) (opening_fresh m d.grid d.channel 7 t end was) (λ s. (to s, from s));
    fits = λ i l h. fits i h;
    ordered = λ i k l h lt e. let r = was.rising i k h lt in absurd (omega arith);
  }
    where
      to : (s : Kept V) → s ∈ rows t 0 end → s ∈ starts m d
      to s i =
          let p = rows_in m t 0 end (omega arith) was.high i in
          Memᴰ.cast p.3 (begins_in m d.grid d.channel (slot m t p.0) (was.begins p.0 p.2))

      from : (s : Kept V) → s ∈ starts m d → s ∈ rows t 0 end
      from s i =
          let a = map_in (start m) (keep (λ r. leb r d.channel) (steps d.grid.spaces)) i in
          let k = keep_in (λ r. leb r d.channel) (steps d.grid.spaces) a.1 in
          let on = among_make (steps d.grid.spaces) {x = a.0} k.0 in
          let w = was.whole a.0 (omega (arith, (step_in d.grid.spaces a.0 on).1)) on (leb-true a.0 d.channel k.1) in
          let e : at m t w.0 ≡ s = ap kept_of (was.begins w.0 w.1).is ∙ ap (start m) w.2 ∙ sym a.2 in
          Memᴰ.cast (sym e) (rows_make m t 0 end (omega arith) was.high w.0 (omega arith) w.1)

      fits : (i : ℕ) → i < end → Fits m reach book d.channel 0 (at m t i)
      fits i h =
          let b = was.begins i h in
          let r = (slot m t i).last in
          let f : Fits m reach book d.channel 0 (start m r) = record {
            last = step_in d.grid.spaces r b.step;
            used = b.room;
            power = omega arith;
            near = laws.empty_reach;
          } in
          subst (λ (z : Kept V). Fits m reach book d.channel 0 z) (sym (ap kept_of b.is)) f
