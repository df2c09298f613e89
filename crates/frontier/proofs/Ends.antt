-- The first stage and the last. Assumes nothing.
use Rattle.std.proofs.Common.{◌≡◌, ℕ, ◌+◌, ◌≤◌, true, leb, List, [], ◌∷◌, map, length, sym, refl, ap, ◌∙◌, subst, arith, take_all}
use Rattle.std.proofs.lemmas.Bool.{leb-true, le-leb}
use Rattle.drawing.specs.declared.words.Wire.{Wire}
use Rattle.drawing.specs.Lists.{keep}
use Rattle.drawing.specs.Plans.{Plan}
use Rattle.drawing.specs.Steps.{steps}
use Rattle.measures.specs.Laws.{Laws}
use Rattle.pricing.specs.Allocations.{Allocation, Book, lawful}
use Rattle.pricing.specs.Measures.{Measure}
use Rattle.frontier.specs.declared.records.Point.{Point}
use Rattle.frontier.specs.Lists.{◌∈◌, spares, undominated}
use Rattle.frontier.specs.Points.{point_of, at_or_below, prices}
use Rattle.frontier.specs.Curves.{power_at, curve}
use Rattle.frontier.specs.States.{Kept, state_of, states, state_below, first, kept, IsKept, KeptRow}
use Rattle.frontier.specs.Stages.{point_at, start, RowFirst, RowLast, RowNone}
use Rattle.frontier.proofs.Members.{and_left, and_both, all_in, all_make, keep_in, keep_make, map_in, map_make, empty_of, none_in}
use Rattle.frontier.proofs.Rows.{uncons}
use Rattle.frontier.proofs.Sorted.{same_rising}
use Rattle.frontier.proofs.Fronts.{front_in, front_make, front_covers}
use Rattle.frontier.proofs.Allocations.{of, drawn, among, among_in, among_make, Parts, parts, whole, states_make}
use Rattle.frontier.proofs.Reach.{LimitedWires}
use Rattle.frontier.proofs.Extending.{below_parts}
use Rattle.frontier.proofs.OneCurve.{price_orders, prices_in, prices_make, curve_of_kept_holds, curve_rises}
use Rattle.frontier.proofs.Counts.{front_is, good, orders}

-- a list of length 0 is empty
nil_of : {A : Type 0} (xs : List A) → length xs ≡ 0 → xs ≡ []
nil_of [] h = refl
nil_of (x ∷ xs) h = absurd (omega arith)

module _ {V : Type 0} (m : Measure V) (book : Book) (d : Plan) where
  -- the state of one space and no wire
  pub start_state : (r : ℕ) → state_of m [] (of [] (r ∷ [])) ≡ start m r
  start_state r = let e : 0 + (r + 0) ≡ r = omega arith in λ i. record { last = r; used = e i; power = 0; delay = m.empty }

  -- a lawful allocation of no wires is one space
  pub only_space : (x : Allocation) → lawful book (first 0 d) x ≡ true → (r : ℕ) × (state_of m [] x ≡ start m r) × (r ∈ steps d.grid.spaces) × (leb r d.channel ≡ true)
  only_space x t =
      let p = parts book (first 0 d) x t in
      let c = uncons 0 x.spaces p.spaces_count in
      let r = c.0 in
      let spaces : x.spaces ≡ r ∷ [] = c.2 ∙ ap (λ zs. r ∷ zs) (nil_of c.1 c.3) in
      let widths : x.widths ≡ [] = nil_of x.widths p.widths_count in
      let same : x ≡ of [] (r ∷ []) = λ i. record { widths = widths i; spaces = spaces i } in
      let p' = subst (Parts book (first 0 d)) same p in
      let room : 0 + (r + 0) ≤ d.channel = p'.room in
      (r, ap (state_of m []) same ∙ start_state r, among_in (steps d.grid.spaces) r (and_left (among (steps d.grid.spaces) r) true p'.spaces_in), le-leb r d.channel (omega arith))

  -- the starts are the kept states of stage 0
  pub row_first_holds : RowFirst m book d
  row_first_holds row fresh' same = record { exactly = λ s. (to s, from s); fresh = fresh' }
    where
      to : (s : Kept V) → s ∈ row → IsKept m book (first 0 d) s
      to s i =
          let a = map_in (start m) (keep (λ r. leb r d.channel) (steps d.grid.spaces)) ((same s).0 i) in
          let r = a.0 in
          let k = keep_in (λ r. leb r d.channel) (steps d.grid.spaces) a.1 in
          let room : r ≤ d.channel = leb-true r d.channel k.1 in
          let p : Parts book (first 0 d) (of [] (r ∷ [])) = record {
            widths_count = refl;
            spaces_count = refl;
            widths_in = refl;
            spaces_in = and_both (among (steps d.grid.spaces) r) true (among_make (steps d.grid.spaces) k.0) refl;
            admits = refl;
            room = omega arith;
          } in
          record {
            of = of [] (r ∷ []);
            lawful_one = whole book (first 0 d) (of [] (r ∷ [])) p;
            at = start_state r ∙ sym a.2;
            alone = λ x t b.
                let o = only_space x t in
                let b' = below_parts m (state_of m [] x) s b in
                let last : o.0 ≡ r = ap (λ (z : Kept V). z.last) (sym o.1) ∙ b'.last ∙ ap (λ (z : Kept V). z.last) a.2 in
                o.1 ∙ ap (start m) last ∙ sym a.2;
          }

      from : (s : Kept V) → IsKept m book (first 0 d) s → s ∈ row
      from s c =
          let o = only_space c.of c.lawful_one in
          (same s).1 (map_make (start m) (keep_make (λ r. leb r d.channel) o.2 o.3) (sym c.at ∙ o.1))

module _ {V : Type 0} (m : Measure V) {reach : ℕ → V → Type 0} (laws : Laws m.empty m.made m.joined m.below reach) (book : Book) (d : Plan) (ok : LimitedWires d.wires) where
  -- a listed state is undominated
  row_to : (row : List (Kept V)) → KeptRow m book d row → (s : Kept V) → s ∈ row → s ∈ undominated (state_below m) (states m book d)
  row_to row h s i = (front_is m laws book d ok s).1 ((h.exactly s).0 i)

  -- an undominated state is listed
  row_from : (row : List (Kept V)) → KeptRow m book d row → (s : Kept V) → s ∈ undominated (state_below m) (states m book d) → s ∈ row
  row_from row h s i = (h.exactly s).1 ((front_is m laws book d ok s).0 i)

  -- the last stage is empty exactly where no allocation is lawful
  pub row_none_holds : RowNone m book d
  row_none_holds row h = ((λ e. empty_of (prices m book d) (λ p i. priced e p i)), λ e. empty_of row (λ s i. kept_one e s i))
    where
      priced : row ≡ [] → (p : Point V) → p ∈ prices m book d → ⊥
      priced e p i =
          let a = prices_in m book d i in
          let s = state_of m d.wires a.0 in
          let c = front_covers (state_below m) (orders m laws book d ok) (states m book d) (good m laws book d ok) (states_make m book d a.0 {s = s} a.1 refl) in
          none_in row e (row_from row h c.0 c.1)

      kept_one : prices m book d ≡ [] → (s : Kept V) → s ∈ row → ⊥
      kept_one e s i =
          let k = (h.exactly s).0 i in
          none_in (prices m book d) e (prices_make m book d k.of {p = point_of m d.wires k.of} k.lawful_one refl)

  -- the front of the prices goes by the members alone
  across : (xs ys : List (Kept V)) → ((s : Kept V) → s ∈ xs → s ∈ ys) → ((s : Kept V) → s ∈ ys → s ∈ xs) → ((s : Kept V) → s ∈ ys → s ∈ states m book d) →
      (p : Point V) → p ∈ undominated (at_or_below m) (map (point_at) xs) → p ∈ undominated (at_or_below m) (map (point_at) ys)
  across xs ys xy yx inside p i =
      let o = price_orders m laws (length d.wires) ok.few in
      let f = front_in (at_or_below m) o (map (point_at) xs) i in
      let a = map_in (point_at) xs f.0 in
      front_make (at_or_below m) o (map (point_at) ys)
      (λ q k. let b = map_in (point_at) ys k in subst (λ (z : Point V). reach (length d.wires) z.delay) (sym b.2) (good m laws book d ok b.0 (inside b.0 b.1)))
      (map_make (point_at) (xy a.0 a.1) a.2)
      (all_make (spares (at_or_below m) p) (map (point_at) ys) (λ z k.
      let b = map_in (point_at) ys k in
      all_in (spares (at_or_below m) p) (map_make (point_at) (yx b.0 b.1) b.2) f.1))

  -- the curve, from any list of the kept states of the last stage
  pub row_last_holds : RowLast m book d
  row_last_holds row h points up same =
      let last_kept = undominated (state_below m) (states m book d) in
      let n = length d.wires in
      let o = orders m laws book d ok in
      let inside : (s : Kept V) → s ∈ last_kept → s ∈ states m book d = λ s i. (front_in (state_below m) o (states m book d) i).0 in
      let at_end : kept m book d n ≡ last_kept =
      ap (λ (rs : List Wire). undominated (state_below m) (states m book (drawn d.grid d.channel rs))) (take_all n d.wires (omega arith)) in
      same_rising power_at points (curve m book d) up (curve_rises m laws book d ok)
      (λ p i. (curve_of_kept_holds m laws book d ok p).1 (subst (λ (ks : List (Kept V)). p ∈ undominated (at_or_below m) (map (point_at) ks)) (sym at_end)
      (across row last_kept (row_to row h) (row_from row h) inside p ((same p).0 i))))
      (λ p i. (same p).1 (across last_kept row (row_from row h) (row_to row h) (λ s j. inside s (row_to row h s j)) p
      (subst (λ (ks : List (Kept V)). p ∈ undominated (at_or_below m) (map (point_at) ks)) at_end ((curve_of_kept_holds m laws book d ok p).0 i))))
