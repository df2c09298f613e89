-- Stage after stage. Assumes nothing.
use Rattle.std.proofs.Common.{◌≡◌, ℕ, zero, suc, ◌+◌, ◌-◌, ◌<◌, ◌≤◌, true, ◌⊎◌, List, length, get_or, take, Some, None, Option, sym, refl, ap, ◌∙◌, subst, inl, inr, arith}
use Rattle.std.proofs.lemmas.List.{get_or_default}
use Rattle.drawing.specs.declared.words.Grid.{Grid}
use Rattle.drawing.specs.declared.words.Wire.{Wire}
use Rattle.drawing.specs.Plans.{Plan, Sound}
use Rattle.measures.specs.Laws.{Laws}
use Rattle.pricing.specs.Allocations.{Book}
use Rattle.pricing.specs.Measures.{Measure}
use Rattle.frontier.specs.declared.records.State.{State}
use Rattle.frontier.specs.States.{Kept, kept_of, kept, kept_up_to, kept_states}
use Rattle.frontier.specs.Stages.{extended, may_follow, starts}
use Rattle.frontier.proofs.Reach.{limited_wires}
use Rattle.frontier.proofs.Counts.{kept_counted_holds}
use Rattle.stages.specs.Table.{rows, blank, slot, at, Made}
use Rattle.stages.specs.Stage.{Course, at_stage, Stage, AheadOf, Onward}
use Rattle.stages.specs.Openings.{Begins, Opening}
use Rattle.stages.specs.Chain.{cut, Chain, Whole}
use Rattle.stages.proofs.Sift.{last_or}
use Rattle.stages.proofs.Heads.{read_front}
use Rattle.stages.proofs.Places.{rows_length}
use Rattle.stages.proofs.Openings.{firsts_count, opening_stage}

-- equal fronts hold equal states
front_same : {V : Type 0} (m : Measure V) (t t' : List (State V)) (b i : ℕ) → b ≤ length t → b ≤ length t' → take b t' ≡ take b t → i < b → slot m t' i ≡ slot m t i
front_same m t t' b i high high' e h =
    read_front m t' b i (blank m) h high' ∙ ap (λ z. slot m z i) e ∙ sym (read_front m t b i (blank m) h high)

-- a state is made from another table that holds the same states of the stage before
made_over : {V : Type 0} (m : Measure V) (book : Book) (grid : Grid) (channel : ℕ) (q : Wire) (t t' : List (State V)) (a b : ℕ) (x : State V) →
    ((i : ℕ) → i < b → at m t' i ≡ at m t i) → Made m book grid channel q t a b x → Made m book grid channel q t' a b x
made_over {V} m book grid channel q t t' a b x same h =
    let o = h.offered in
    let e = sym (same x.from o.high) in
    record {
      offered = record {
        low = o.low;
        high = o.high;
        width = o.width;
        width_in = o.width_in;
        space = o.space;
        space_in = o.space_in;
        follows = subst (λ (z : Kept V). may_follow book channel z x.width x.last ≡ true) e o.follows;
      };
      is = h.is ∙ ap (λ (z : Kept V). extended m q z x.width x.last) e;
    }

module _ {V : Type 0} (m : Measure V) {reach : ℕ → V → Type 0} (laws : Laws m.empty m.made m.joined m.below reach) (book : Book) (d : Plan) where
  -- the kept states of more stages are more
  up_to_more : (n i : ℕ) → i ≤ n → kept_up_to m book d i ≤ kept_up_to m book d n
  up_to_more zero i h = let e : i ≡ 0 = omega arith in subst (λ (z : ℕ). kept_up_to m book d z ≤ kept_up_to m book d 0) (sym e) (omega arith)
  up_to_more (suc n) i h = go (last_or i (suc n) (omega arith)) (up_to_more n i)
    where
      go : (i < suc n) ⊎ (i ≡ suc n) → (i ≤ n → kept_up_to m book d i ≤ kept_up_to m book d n) → kept_up_to m book d i ≤ kept_up_to m book d n + length (kept m book d (suc n))
      go (inl l) rest = let r = rest (omega arith) in omega arith
      go (inr e) rest = subst (λ (z : ℕ). kept_up_to m book d z ≤ kept_up_to m book d n + length (kept m book d (suc n))) (sym e) (omega arith)

  -- the stages stay chained where their states stay
  chain_kept : (t t' : List (State V)) (n : ℕ) → ((i : ℕ) → i < cut m book d (suc n) → slot m t' i ≡ slot m t i) → Chain m book d t n → Chain m book d t' n
  chain_kept t t' n same c = record {
    begins = λ i h.
        let more = up_to_more n 0 (omega arith) in
        subst (λ (z : State V). Begins m d.grid d.channel z) (sym (same i (omega arith))) (c.begins i h);
    made = λ j i q h e low high.
        let here = up_to_more n (suc j) h in
        let before = up_to_more n j (omega arith) in
        subst (λ (z : State V). Made m book d.grid d.channel q t' (cut m book d j) (cut m book d (suc j)) z) (sym (same i (omega arith)))
        (made_over m book d.grid d.channel q t t' (cut m book d j) (cut m book d (suc j)) (slot m t i) (λ k l. ap kept_of (same k (omega arith))) (c.made j i q h e low high));
  }

  module _ (sound : Sound d) where
    -- as many states as the stage keeps
    counted : (j : ℕ) (t : List (State V)) (a b : ℕ) → Stage m reach book (at_stage d j) t a b → b - a ≡ length (kept m book d j)
    counted j t a b st = sym (rows_length m t a b st.low st.high) ∙ kept_counted_holds m laws book d (limited_wires d sound) j (rows t a b) st.row

    -- stage 0 stands
    pub begin : (t : List (State V)) (end : ℕ) → Opening m d.grid d.channel 7 t end → Whole m book d reach 0 t 0 end
    begin t end was =
        let st = opening_stage m laws book d t end was in
        let e : end ≡ kept_up_to m book d 0 = omega (arith, counted 0 t 0 end st) in
        record {
          stage = st;
          begin_at = refl;
          end_at = e;
          chain = record { begins = λ i h. was.begins i (omega arith); made = λ j i q h. absurd (omega arith) };
        }

    -- the states of stage 0 outnumber the table
    pub none_begin : (room : ℕ) → room < length (starts m d) → room < kept_states m book d
    none_begin room h =
        let more = up_to_more (length d.wires) 0 (omega arith) in
        let c = firsts_count m laws book d sound in
        omega arith

    -- the next wire can be laid
    ahead : (x : Wire) (j : ℕ) (t : List (State V)) (a b : ℕ) → j < length d.wires → Stage m reach book (at_stage d j) t a b →
        AheadOf m reach book (at_stage d j) d.grid d.channel (get_or d.wires j x) t a b
    ahead x j t a b lt st = record {
      same_grid = refl;
      same_channel = refl;
      sound = sound;
      inside = lt;
      wire = get_or_default d.wires j x (get_or d.wires j x) lt;
      stage = st;
    }

    -- the same as a call asks for it
    pub laid_next : (x : Wire) (j : ℕ) (t : List (State V)) (a b : ℕ) → j < length d.wires → Whole m book d reach j t a b →
        (w : Course) × AheadOf m reach book w d.grid d.channel (get_or d.wires j x) t a b
    laid_next x j t a b lt w = (at_stage d j, ahead x j t a b lt w.stage)

    -- what such a call makes
    abbrev pub After : Wire → List (State V) → List (State V) → ℕ → ℕ → Option ℕ → Type 0
    After q t t' a b r = (w : Course) → AheadOf m reach book w d.grid d.channel q t a b → Onward m reach book w d.grid d.channel q t t' a b r

    -- one stage more stands
    grown : (j : ℕ) (q : Wire) (t t' : List (State V)) (a b e : ℕ) → q ≡ get_or d.wires j q → j < length d.wires → Whole m book d reach j t a b →
        Onward m reach book (at_stage d j) d.grid d.channel q t t' a b (Some e) → Whole m book d reach (j + 1) t' b e
    grown j q t t' a b e eq lt w (front, st, made) =
        let es : suc j ≡ j + 1 = omega arith in
        let ends : e ≡ kept_up_to m book d j + length (kept m book d (suc j)) = omega (arith, counted (suc j) t' b e st, st.low, w.end_at) in
        subst (λ (z : ℕ). Whole m book d reach z t' b e) es (record { stage = st; begin_at = w.end_at; end_at = ends; chain = chain ends })
      where
        same : (i : ℕ) → i < b → slot m t' i ≡ slot m t i
        same i h = front_same m t t' b i w.stage.high (let a = st.low in let c = st.high in omega arith) front h

        same_front : (i : ℕ) → i < b → at m t' i ≡ at m (take b t) i
        same_front i h = ap kept_of (same i h ∙ read_front m t b i (blank m) h w.stage.high)

        -- the states of the new stage
        newest : (i : ℕ) (p : Wire) → p ≡ get_or d.wires j p → b ≤ i → i < e → Made m book d.grid d.channel p t' (cut m book d j) (cut m book d (suc j)) (slot m t' i)
        newest i p ep low high =
            let pq : q ≡ p = eq ∙ get_or_default d.wires j q p lt ∙ sym ep in
            let over = made_over m book d.grid d.channel q (take b t) t' a b (slot m t' i) same_front (made i low high) in
            let named = subst (λ (z : Wire). Made m book d.grid d.channel z t' a b (slot m t' i)) pq over in
            subst (λ (z : ℕ). Made m book d.grid d.channel p t' z (cut m book d (suc j)) (slot m t' i)) w.begin_at
            (subst (λ (z : ℕ). Made m book d.grid d.channel p t' a z (slot m t' i)) w.end_at named)

        chain : e ≡ kept_up_to m book d j + length (kept m book d (suc j)) → Chain m book d t' (suc j)
        chain ends = record { begins = old.begins; made = λ k i p h ep low high. go k i p ep low high (last_or k j (omega arith)) }
          where
            old : Chain m book d t' j
            old = chain_kept t t' j (λ i h. same i (let eb = w.end_at in omega arith)) w.chain

            go : (k i : ℕ) (p : Wire) → p ≡ get_or d.wires k p → cut m book d (suc k) ≤ i → i < cut m book d (suc (suc k)) → (k < j) ⊎ (k ≡ j) →
                Made m book d.grid d.channel p t' (cut m book d k) (cut m book d (suc k)) (slot m t' i)
            go k i p ep low high (inl h) = old.made k i p h ep low high
            go k i p ep low high (inr h) =
                let P : ℕ → Type 0 = λ z. p ≡ get_or d.wires z p → cut m book d (suc z) ≤ i → i < cut m book d (suc (suc z)) →
                Made m book d.grid d.channel p t' (cut m book d z) (cut m book d (suc z)) (slot m t' i) in
                subst P (sym h) (λ ep low high. newest i p ep (let eb = w.end_at in omega arith) (omega arith)) ep low high

    -- the same from what the call makes
    pub go_on : (x : Wire) (j : ℕ) (t t' : List (State V)) (a b e : ℕ) → j < length d.wires → Whole m book d reach j t a b → After (get_or d.wires j x) t t' a b (Some e) → Whole m book d reach (j + 1) t' b e
    go_on x j t t' a b e lt w after =
        let go = ahead x j t a b lt w.stage in
        grown j (get_or d.wires j x) t t' a b e go.wire lt w (after (at_stage d j) go)

    -- the next stage is out of room
    pub too_many : (x : Wire) (j : ℕ) (t t' : List (State V)) (a b : ℕ) → j < length d.wires → Whole m book d reach j t a b → After (get_or d.wires j x) t t' a b None → length t' < kept_states m book d
    too_many x j t t' a b lt w after =
        let h = after (at_stage d j) (ahead x j t a b lt w.stage) in
        let up = up_to_more (length d.wires) (suc j) lt in
        let fits : length t' < kept_up_to m book d j + length (kept m book d (suc j)) = omega (arith, w.end_at) in
        omega (arith, up)
