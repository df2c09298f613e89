-- The row of a plan from stage to stage. Assumes nothing.
use Rattle.std.proofs.Common.{◌≡◌, ℕ, zero, suc, ◌+◌, ◌-◌, ◌<◌, ◌≤◌, Bool, true, leb, ◌⊎◌, List, [], ◌∷◌, ◌++◌, map, length, Some, None, Option, sym, refl, ap, ◌∙◌, subst, inl, inr, arith}
use Rattle.std.proofs.lemmas.Bool.{cases_lt, leb-true, le-leb}
use Rattle.std.proofs.lemmas.List.{get_or_past}
use Rattle.std.proofs.lemmas.Option.{none-some}
use Rattle.std.specs.List.{list_any}
use Rattle.std.specs.Prelude.{is_some}
use Rattle.drawing.specs.declared.words.Grid.{Grid}
use Rattle.drawing.specs.declared.words.Wire.{Wire}
use Rattle.drawing.specs.Lists.{all, keep}
use Rattle.drawing.specs.Plans.{Plan}
use Rattle.drawing.specs.Steps.{steps}
use Rattle.pricing.specs.Allocations.{Allocation, Book, lawful}
use Rattle.pricing.specs.Measures.{Measure}
use Rattle.frontier.specs.Bare.{unit_measure}
use Rattle.frontier.specs.Lists.{◌∈◌}
use Rattle.frontier.specs.States.{Kept, last_of, state_of, states}
use Rattle.frontier.specs.Stages.{extended, may_follow, extensions, start}
use Rattle.frontier.proofs.Members.{and_left, and_right, and_both, keep_in, keep_make, each_in, each_make, map_in, map_make}
use Rattle.frontier.proofs.Rows.{uncons}
use Rattle.frontier.proofs.Allocations.{of, drawn, among, among_in, among_make, Parts, parts, whole, states_in, states_make, next_in, next_make}
use Rattle.frontier.proofs.Ends.{start_state, only_space}
use Rattle.solver.specs.Least.{is_step, AtMost, used_at, First, Pushed, Least}
use Rattle.solver.proofs.Widths.{step_low, step_high, at_most_up}

-- the measure with one value
abbrev U : Measure (Unit {0})
U = unit_measure

-- what all spaces pass, the last passes
all_last : (f : ℕ → Bool) (l : ℕ) (ss : List ℕ) → all f (l ∷ ss) ≡ true → f (last_of l ss) ≡ true
all_last f l [] t = and_left (f l) true t
all_last f l (s ∷ ss) t = all_last f s ss (and_right (f l) (all f (s ∷ ss)) t)

-- the last space of a lawful allocation is a step of the grid
last_step : (book : Book) (d : Plan) (s : Kept (Unit {0})) → s ∈ states U book d → is_step d.grid.spaces s.last
last_step book d s i =
    let r = states_in U book d i in
    let p = parts book d r.0 r.1 in
    let c = uncons (length d.wires) r.0.spaces p.spaces_count in
    let t = all_last (among (steps d.grid.spaces)) c.0 c.1 (subst (λ (z : List ℕ). (all (among (steps d.grid.spaces)) z ≡ true)) c.2 p.spaces_in) in
    let e : s.last ≡ last_of c.0 c.1 = ap (λ (z : Kept (Unit {0})). z.last) r.2 ∙ ap (last_of 0) c.2 in
    subst (λ (z : ℕ). is_step d.grid.spaces z) (sym e) t

-- what is at most a number is one
pub at_most_some : (o : Option ℕ) (n : ℕ) → AtMost o n → (u : ℕ) × (o ≡ Some u) × (u ≤ n)
at_most_some None n h = absurd h
at_most_some (Some u) n h = (u, refl, h)

-- a place with a number is in the row
in_row : (row : List (Option ℕ)) (i u : ℕ) → used_at row i ≡ Some u → i < length row
in_row row i u e = go (cases_lt i (length row))
  where
    go : (i < length row) ⊎ (length row ≤ i) → i < length row
    go (inl h) = h
    go (inr h) = absurd (none-some u (sym (get_or_past row i None h) ∙ e))

-- a row in which some place has a number
pub some_place : (row : List (Option ℕ)) → list_any is_some row ≡ true → (i : ℕ) × (u : ℕ) × (used_at row i ≡ Some u)
some_place [] t = absurd (cc)
some_place (None ∷ row) t = let r = some_place row t in (suc r.0, r.1, r.2)
some_place (Some u ∷ row) t = (0, u, refl)

-- and the other way
pub place_some : (row : List (Option ℕ)) (i u : ℕ) → used_at row i ≡ Some u → list_any is_some row ≡ true
place_some [] i u e = absurd (cc)
place_some (Some v ∷ row) i u e = refl
place_some (None ∷ row) zero u e = absurd (cc)
place_some (None ∷ row) (suc i) u e = place_some row i u e

module _ (book : Book) (grid : Grid) (channel : ℕ) where
  -- the row of no wires
  pub least_first : (row : List (Option ℕ)) → First grid.spaces channel row → Least book (drawn grid channel []) row
  least_first row f = record {
    has = λ i u k.
        let lt = in_row row i u k in
        let six = f.six in
        let a = (f.each i (omega arith)).is u k in
        let r = i + 1 in
        let d = drawn grid channel [] in
        let room : r ≤ channel = a.2 in
        let p : Parts book d (of [] (r ∷ [])) = record {
          widths_count = refl;
          spaces_count = refl;
          widths_in = refl;
          spaces_in = and_both (among (steps grid.spaces) r) true a.0 refl;
          admits = refl;
          room = omega arith;
        } in
        (start U r, states_make U book d (of [] (r ∷ [])) (whole book d (of [] (r ∷ [])) p) (sym (start_state U book d r)), refl, sym a.1);
    low = λ i s m e.
        let d = drawn grid channel [] in
        let x = states_in U book d m in
        let o = only_space U book d x.0 x.1 in
        let same : s ≡ start U o.0 = x.2 ∙ o.1 in
        let last : s.last ≡ o.0 = ap (λ (z : Kept (Unit {0})). z.last) same in
        let wide : s.used ≡ o.0 = ap (λ (z : Kept (Unit {0})). z.used) same in
        let here : i + 1 ≡ o.0 = sym e ∙ last in
        let room : o.0 ≤ channel = leb-true _ _ o.3 in
        let step : is_step grid.spaces (i + 1) = subst (λ (z : ℕ). is_step grid.spaces z) (sym here) (among_make (steps grid.spaces) o.2) in
        let six = step_high grid.spaces (i + 1) step in
        at_most_up (used_at row i) (i + 1) s.used ((f.each i (omega arith)).low step (omega arith)) (omega arith);
  }

  -- the row of one wire more
  pub least_next : (qs : List Wire) (q : Wire) (row next : List (Option ℕ)) → Least book (drawn grid channel qs) row → Pushed book grid channel row next → Least book (drawn grid channel (qs ++ (q ∷ []))) next
  least_next qs q row next was p = record {
    has = λ i u k.
        let lt = in_row next i u k in
        let six = p.six in
        let at = p.each i (omega arith) in
        let y = (at.way u k).1 in
        let l = (at.way u k).0 in
        let w = y.width in
        let r = i + 1 in
        let sum : u ≡ y.was + w + r = y.sum in
        let room : u ≤ channel = y.room in
        let a = was.has l y.was y.there in
        let s = a.0 in
        let wide : s.used ≡ y.was = a.3 in
        let fits : s.used + w + r ≤ channel = omega arith in
        let asks : (book s.last w r ≡ true) = subst (λ (z : ℕ). (book z w r ≡ true)) (sym a.2) y.stands.may in
        let f : (may_follow book channel s w r ≡ true) = and_both (book s.last w r) (leb (s.used + w + r) channel) asks (le-leb _ _ fits) in
        let t = extended U q s w r in
        let ext : t ∈ extensions U book grid channel q s =
        each_make (λ v. map (extended U q s v) (keep (may_follow book channel s v) (steps grid.spaces))) (among_in (steps grid.widths) w y.stands.step)
        (map_make (extended U q s w) (keep_make (may_follow book channel s w) (among_in (steps grid.spaces) r (at.allowed u k)) f) refl) in
        (t, next_make U book grid channel qs q a.1 ext, refl, omega arith);
    low = λ i t m e.
        let n = next_in U book grid channel qs q m in
        let s = n.0 in
        let a = each_in (λ v. map (extended U q s v) (keep (may_follow book channel s v) (steps grid.spaces))) (steps grid.widths) n.2 in
        let w = a.0 in
        let b = map_in (extended U q s w) (keep (may_follow book channel s w) (steps grid.spaces)) a.2 in
        let r = b.0 in
        let k = keep_in (may_follow book channel s w) (steps grid.spaces) b.1 in
        let last : t.last ≡ r = ap (λ (z : Kept (Unit {0})). z.last) b.2 in
        let wide : t.used ≡ s.used + w + r = ap (λ (z : Kept (Unit {0})). z.used) b.2 in
        let here : r ≡ i + 1 = sym last ∙ e in
        let asks : (book s.last w r ≡ true) = and_left (book s.last w r) (leb (s.used + w + r) channel) k.1 in
        let room : s.used + w + r ≤ channel = leb-true _ _ (and_right (book s.last w r) (leb (s.used + w + r) channel) k.1) in
        let step = last_step book (drawn grid channel qs) s n.1 in
        let one = step_low grid.spaces s.last step in
        let l = s.last - 1 in
        let el : s.last ≡ l + 1 = omega arith in
        let low = at_most_some (used_at row l) s.used (was.low l s n.1 el) in
        let rstep : is_step grid.spaces (i + 1) = subst (λ (z : ℕ). is_step grid.spaces z) here (among_make (steps grid.spaces) k.0) in
        let six = step_high grid.spaces (i + 1) rstep in
        let asks' : (book (l + 1) w (i + 1) ≡ true) = subst (λ (z : ℕ). (book (l + 1) w z ≡ true)) here (subst (λ (z : ℕ). (book z w r ≡ true)) el asks) in
        at_most_up (used_at next i) (low.0 + w + (i + 1)) t.used
        ((p.each i (omega arith)).low l rstep low.0 w low.1 (record { step = among_make (steps grid.widths) a.1; may = asks' }) (let lo = low.2 in omega arith)) (let lo = low.2 in omega arith);
  }

  -- a used width in the row is that of a lawful allocation
  pub least_found : (qs : List Wire) (row : List (Option ℕ)) → Least book (drawn grid channel qs) row → (i u : ℕ) → used_at row i ≡ Some u → (x : Allocation) × (lawful book (drawn grid channel qs) x ≡ true)
  least_found qs row was i u k =
      let a = was.has i u k in
      let x = states_in U book (drawn grid channel qs) a.1 in
      (x.0, x.1)

  -- a lawful allocation leaves a used width in the row
  pub least_each : (qs : List Wire) (row : List (Option ℕ)) → Least book (drawn grid channel qs) row → (x : Allocation) → lawful book (drawn grid channel qs) x ≡ true → (i : ℕ) × (u : ℕ) × (used_at row i ≡ Some u)
  least_each qs row was x t =
      let d = drawn grid channel qs in
      let s = state_of U qs x in
      let m = states_make U book d x {s = s} t refl in
      let step = last_step book d s m in
      let one = step_low grid.spaces s.last step in
      let el : s.last ≡ (s.last - 1) + 1 = omega arith in
      let low = at_most_some (used_at row (s.last - 1)) s.used (was.low (s.last - 1) s m el) in
      (s.last - 1, low.0, low.1)
