-- The way back from a linked row is a lawful allocation with the row's state. Assumes nothing.
use Rattle.std.proofs.Common.{◌≡◌, ℕ, zero, suc, ◌+◌, ◌-◌, ◌<◌, ◌≤◌, true, List, [], ◌∷◌, ◌++◌, length, get_or, take, sym, refl, ap, ◌∙◌, subst, arith, take_all, take-suc}
use Rattle.drawing.specs.declared.words.Wire.{Wire}
use Rattle.drawing.specs.Plans.{Plan}
use Rattle.drawing.specs.Steps.{steps}
use Rattle.pricing.specs.Allocations.{Book, lawful}
use Rattle.pricing.specs.Measures.{Measure}
use Rattle.frontier.specs.declared.records.State.{State}
use Rattle.frontier.specs.Bare.{no_wire}
use Rattle.frontier.specs.Points.{point_of}
use Rattle.frontier.specs.States.{Kept, kept_of, state_of, first}
use Rattle.frontier.specs.Stages.{point_at, may_follow, extended, start}
use Rattle.frontier.proofs.Members.{and_both}
use Rattle.frontier.proofs.Allocations.{of, drawn, among, Parts, whole, grow, state_snoc}
use Rattle.frontier.proofs.Rows.{uncons}
use Rattle.solver.specs.Front.{row_at, point_in}
use Rattle.solver.specs.Trail.{widths_to, spaces_to, path_to, Safe, Linked, Chained}

module _ {V : Type 0} (m : Measure V) (book : Book) where
  -- a wire more behind an allocation
  pub more : (d : Plan) (qs : List Wire) (q : Wire) (ws ss : List ℕ) (w r : ℕ) (s : Kept V) → Parts book (drawn d.grid d.channel qs) (of ws ss) → state_of m qs (of ws ss) ≡ s →
      (among (steps d.grid.widths) w ≡ true) → among (steps d.grid.spaces) r ≡ true → may_follow book d.channel s w r ≡ true →
      Parts book (drawn d.grid d.channel (qs ++ (q ∷ []))) (of (ws ++ (w ∷ [])) (ss ++ (r ∷ []))) × (state_of m (qs ++ (q ∷ [])) (of (ws ++ (w ∷ [])) (ss ++ (r ∷ []))) ≡ extended m q s w r)
  more d qs q ws ss w r s p es tw tr f =
      let c = uncons (length qs) ss p.spaces_count in
      let l = c.0 in
      let rest = c.1 in
      let cut : ss ≡ l ∷ rest = c.2 in
      let p' : Parts book (drawn d.grid d.channel qs) (of ws (l ∷ rest)) = subst (λ (z : List ℕ). Parts book (drawn d.grid d.channel qs) (of ws z)) cut p in
      let es' : state_of m qs (of ws (l ∷ rest)) ≡ s = subst (λ (z : List ℕ). state_of m qs (of ws z) ≡ s) cut es in
      let f' : (may_follow book d.channel (state_of m qs (of ws (l ∷ rest))) w r ≡ true) = subst (λ (z : Kept V). (may_follow book d.channel z w r ≡ true)) (sym es') f in
      let big = grow m book d.grid d.channel qs q ws l rest w r p' tw tr f' in
      let same = state_snoc m book d.grid d.channel qs q ws l rest w r p.widths_count c.3 in (
        subst (λ (z : List ℕ). Parts book (drawn d.grid d.channel (qs ++ (q ∷ []))) (of (ws ++ (w ∷ [])) (z ++ (r ∷ [])))) (sym cut) big,
        subst (λ (z : List ℕ). state_of m (qs ++ (q ∷ [])) (of (ws ++ (w ∷ [])) (z ++ (r ∷ []))) ≡ extended m q (state_of m qs (of ws (l ∷ rest))) w r) (sym cut) same ∙ ap (λ z. extended m q z w r) es',
      )

  module _ (d : Plan) (e : V) (table : List (State V)) where
    -- the way back from a row is an allocation of its stage, with the row's state
    pub trail : (j i : ℕ) → j ≤ length d.wires → Linked m book d e table j i →
        Parts book (first j d) (path_to e table j i) × (state_of m (take j d.wires) (path_to e table j i) ≡ kept_of (row_at e table i))
    trail zero i h (lt, b) =
        let r = (row_at e table i).last in
        let room : 0 + (r + 0) ≤ d.channel = let k = b.room in omega arith in
        let u : 0 + (r + 0) ≡ r = omega arith in
        let begin : state_of m [] (of [] (r ∷ [])) ≡ start m r = λ i. record { last = r; used = u i; power = 0; delay = m.empty } in (
          record {
            widths_count = refl;
            spaces_count = refl;
            widths_in = refl;
            spaces_in = and_both (among (steps d.grid.spaces) r) true b.space_step refl;
            admits = refl;
            room = room;
          },
          begin ∙ sym b.is,
        )
    trail (suc j) i h (lt, f, back) =
        let s = row_at e table i in
        let p = s.from in
        let q = get_or d.wires j no_wire in
        let rec = trail j p (omega arith) back in
        let wire : take (suc j) d.wires ≡ take j d.wires ++ (q ∷ []) = take-suc d.wires j no_wire (omega arith) in
        let g = more d (take j d.wires) q (widths_to e table j p) (spaces_to e table j p) s.width s.last (kept_of (row_at e table p)) rec.0 rec.1 f.width_step f.space_step f.may in (
          subst (λ (z : List Wire). Parts book (drawn d.grid d.channel z) (path_to e table (suc j) i)) (sym wire) g.0,
          subst (λ (z : List Wire). state_of m z (path_to e table (suc j) i) ≡ extended m q (kept_of (row_at e table p)) s.width s.last) (sym wire) g.1 ∙ sym f.is,
        )

    -- the witness of a row of the last stage
    pub witnessed : (i : ℕ) → Linked m book d e table (length d.wires) i →
        (lawful book d (path_to e table (length d.wires) i) ≡ true) × (point_of m d.wires (path_to e table (length d.wires) i) ≡ point_in (row_at e table i))
    witnessed i k =
        let n = length d.wires in
        let x = path_to e table n i in
        let t = trail n i (omega arith) k in
        let wires : take n d.wires ≡ d.wires = take_all n d.wires (omega arith) in (
          whole book d x (subst (λ (z : List Wire). Parts book (drawn d.grid d.channel z) x) wires t.0),
          ap point_at (subst (λ (z : List Wire). state_of m z x ≡ kept_of (row_at e table i)) wires t.1),
        )

    -- a linked row is safe
    pub linked_safe : (j i : ℕ) → Linked m book d e table j i → Safe e table j i
    linked_safe zero i k = (k.0, tt)
    linked_safe (suc j) i k = (k.0, linked_safe j (row_at e table i).from k.2)

    -- every row of a chained table is linked
    pub chained_linked : (cut : ℕ → ℕ) (n : ℕ) → Chained m book d e table cut n → (j i : ℕ) → j ≤ n → cut j ≤ i → i < cut (suc j) → Linked m book d e table j i
    chained_linked cut n c j i h low high = go j i h low high
      where
        up : (k j : ℕ) → j + k ≡ n → cut (suc j) ≤ cut (suc n)
        up zero j e = let f : j ≡ n = omega arith in subst (λ (z : ℕ). cut (suc j) ≤ cut (suc z)) f (omega arith)
        up (suc k) j e = let a = up k (suc j) (omega arith) in let b = c.rises (suc j) (omega arith) in omega arith

        inside : (j i : ℕ) → j ≤ n → i < cut (suc j) → i < length table
        inside j i h lt = let a = up (n - j) j (omega arith) in let b = c.ends in omega arith

        go : (j i : ℕ) → j ≤ n → cut j ≤ i → i < cut (suc j) → Linked m book d e table j i
        go zero i h low high = (inside zero i h high, c.begins i low high)
        go (suc j) i h low high =
            let b = c.back j i h low high in
            (inside (suc j) i h high, c.follows j i h low high, go j (row_at e table i).from (omega arith) b.0 b.1)
