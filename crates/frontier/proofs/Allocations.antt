-- The lawful allocations of a bundle with one wire more are those of the bundle, each with a width and a space more.
-- Assumes nothing.
use Rattle.std.proofs.Common.{◌≡◌, ℕ, zero, suc, ◌+◌, ◌≤◌, Bool, true, ◌&&◌, eqb, leb, List, [], ◌∷◌, ◌++◌, map, length, sym, refl, ap, ◌∙◌, subst, arith}
use mathlib.Core.List.Memᴰ
use Rattle.std.proofs.lemmas.Bool.{eqb-true, eq-eqb, leb-true, le-leb}
use Rattle.drawing.specs.declared.words.Grid.{Grid}
use Rattle.drawing.specs.declared.words.Wire.{Wire}
use Rattle.drawing.specs.Lists.{all, keep}
use Rattle.drawing.specs.Plans.{Plan}
use Rattle.drawing.specs.Steps.{steps}
use Rattle.pricing.specs.Lists.{some_is, total, from_left}
use Rattle.pricing.specs.Allocations.{Laid, Allocation, Book, lay, used_width, admits_laid, counted, in_grid, admitted, within_channel, lawful}
use Rattle.pricing.specs.Measures.{Measure}
use Rattle.pricing.specs.Prices.{join_wire}
use Rattle.pricing.specs.WirePrices.{wire_power}
use Rattle.frontier.specs.Lists.{choices, ◌∈◌}
use Rattle.frontier.specs.Points.{allocations}
use Rattle.frontier.specs.States.{Kept, last_of, state_of, states}
use Rattle.frontier.specs.Stages.{extended, may_follow, extensions}
use Rattle.frontier.proofs.Members.{and_left, and_right, and_both, some_in, some_make, keep_in, keep_make, each_in, each_make, map_in, map_make}
use Rattle.frontier.proofs.Rows.{total_snoc, length_snoc, map_snoc, from_left_snoc, last_snoc, all_snoc, all_snoc_make, unsnoc, uncons, lay_snoc}

-- widths, and spaces
abbrev pub of : List ℕ → List ℕ → Allocation
of ws ss = record { widths = ws; spaces = ss }

-- a grid, a channel and wires
abbrev pub drawn : Grid → ℕ → List Wire → Plan
drawn grid channel qs = record { grid = grid; channel = channel; wires = qs }

-- a number is one of the options
abbrev pub among : List ℕ → ℕ → Bool
among options x = some_is (eqb x) options

-- what passes the test stands among the options
pub among_in : (options : List ℕ) (x : ℕ) → among options x ≡ true → x ∈ options
among_in options x t = let r = some_in (eqb x) options t in Memᴰ.cast (eqb-true x r.0 r.2) r.1

-- and the other way
pub among_make : (options : List ℕ) {x : ℕ} → x ∈ options → among options x ≡ true
among_make options {x} i = some_make (eqb x) i (eq-eqb x x refl)

-- a list of n of the options is listed
choices_make : (n : ℕ) (options xs : List ℕ) → length xs ≡ n → all (among options) xs ≡ true → xs ∈ choices n options
choices_make zero options [] h t = Memᴰ.head refl
choices_make zero options (x ∷ xs) h t = absurd (omega arith)
choices_make (suc n) options [] h t = absurd (omega arith)
choices_make (suc n) options (x ∷ xs) h t =
    each_make (λ y. map (λ ys. y ∷ ys) (choices n options)) (among_in options x (and_left (among options x) (all (among options) xs) t))
    (map_make (λ ys. x ∷ ys) (choices_make n options xs (omega arith) (and_right (among options x) (all (among options) xs) t)) refl)

-- what a lawful allocation keeps, part by part
pub record Parts (book : Book) (d : Plan) (x : Allocation) : Type 0 where
  pub widths_count : length x.widths ≡ length d.wires
  pub spaces_count : length x.spaces ≡ suc (length d.wires)
  pub widths_in : all (among (steps d.grid.widths)) x.widths ≡ true
  pub spaces_in : all (among (steps d.grid.spaces)) x.spaces ≡ true
  pub admits : admitted book d x ≡ true
  pub room : used_width x ≤ d.channel

-- a lawful allocation keeps them all
pub parts : (book : Book) (d : Plan) (x : Allocation) → lawful book d x ≡ true → Parts book d x
parts book d x t =
    let tail = and_right (counted d x) (in_grid d x && (admitted book d x && within_channel d x)) t in
    let c = and_left (counted d x) (in_grid d x && (admitted book d x && within_channel d x)) t in
    let g = and_left (in_grid d x) (admitted book d x && within_channel d x) tail in
    let last = and_right (in_grid d x) (admitted book d x && within_channel d x) tail in
    let wc = eqb (length x.widths) (length d.wires) in
    let sc = eqb (length x.spaces) (length d.wires + 1) in
    let wg = all (among (steps d.grid.widths)) x.widths in
    let sg = all (among (steps d.grid.spaces)) x.spaces in
    let spaces : length x.spaces ≡ length d.wires + 1 = eqb-true _ _ (and_right wc sc c) in
    record {
      widths_count = eqb-true _ _ (and_left wc sc c);
      spaces_count = omega arith;
      widths_in = and_left wg sg g;
      spaces_in = and_right wg sg g;
      admits = and_left (admitted book d x) (within_channel d x) last;
      room = leb-true _ _ (and_right (admitted book d x) (within_channel d x) last);
    }

-- and what keeps them all is lawful
pub whole : (book : Book) (d : Plan) (x : Allocation) → Parts book d x → lawful book d x ≡ true
whole book d x p =
    let wc = eqb (length x.widths) (length d.wires) in
    let sc = eqb (length x.spaces) (length d.wires + 1) in
    let wg = all (among (steps d.grid.widths)) x.widths in
    let sg = all (among (steps d.grid.spaces)) x.spaces in
    let n = p.spaces_count in
    let spaces : length x.spaces ≡ length d.wires + 1 = omega arith in
    and_both (counted d x) (in_grid d x && (admitted book d x && within_channel d x))
    (and_both wc sc (eq-eqb _ _ p.widths_count) (eq-eqb _ _ spaces))
    (and_both (in_grid d x) (admitted book d x && within_channel d x) (and_both wg sg p.widths_in p.spaces_in)
    (and_both (admitted book d x) (within_channel d x) p.admits (le-leb _ _ p.room)))

-- a lawful allocation is listed
pub lawful_listed : (book : Book) (d : Plan) (x : Allocation) → lawful book d x ≡ true → x ∈ allocations d
lawful_listed book d x t =
    let p = parts book d x t in
    let n = length d.wires in
    each_make (λ ws. map (λ ss. of ws ss) (choices (suc n) (steps d.grid.spaces)))
    (choices_make n (steps d.grid.widths) x.widths p.widths_count p.widths_in)
    (map_make (λ ss. of x.widths ss) (choices_make (suc n) (steps d.grid.spaces) x.spaces p.spaces_count p.spaces_in) refl)

module _ {V : Type 0} (m : Measure V) (book : Book) where
  -- a listed state is that of a lawful allocation
  pub states_in : (d : Plan) {s : Kept V} → s ∈ states m book d → (x : Allocation) × (lawful book d x ≡ true) × (s ≡ state_of m d.wires x)
  states_in d i =
      let r = map_in (state_of m d.wires) (keep (lawful book d) (allocations d)) i in
      (r.0, (keep_in (lawful book d) (allocations d) r.1).1, r.2)

  -- and the state of a lawful allocation is listed
  pub states_make : (d : Plan) (x : Allocation) {s : Kept V} → lawful book d x ≡ true → s ≡ state_of m d.wires x → s ∈ states m book d
  states_make d x t e = map_make (state_of m d.wires) (keep_make (lawful book d) (lawful_listed book d x t) t) e

  module _ (grid : Grid) (channel : ℕ) (qs : List Wire) (q : Wire) where
    -- the state of an allocation with a wire, a width and a space more
    pub state_snoc : (ws : List ℕ) (l : ℕ) (ss : List ℕ) (w r : ℕ) → length ws ≡ length qs → length ss ≡ length qs →
        state_of m (qs ++ (q ∷ [])) (of (ws ++ (w ∷ [])) (l ∷ (ss ++ (r ∷ [])))) ≡ extended m q (state_of m qs (of ws (l ∷ ss))) w r
    state_snoc ws l ss w r g h =
        let y : Laid = record { wire = q; left = last_of l ss; width = w; right = r } in
        let e = lay_snoc qs ws l ss q w r g h in
        let step : V → Laid → V = join_wire m in
        let e_used : total (ws ++ (w ∷ [])) + (l + total (ss ++ (r ∷ []))) ≡ total ws + (l + total ss) + w + r =
        omega (arith, total_snoc ws w, total_snoc ss r) in
        let e_power : total (map wire_power (lay (qs ++ (q ∷ [])) (ws ++ (w ∷ [])) l (ss ++ (r ∷ [])))) ≡ total (map wire_power (lay qs ws l ss)) + wire_power y =
        ap (λ zs. total (map wire_power zs)) e ∙ ap total (map_snoc wire_power (lay qs ws l ss) y) ∙ total_snoc (map wire_power (lay qs ws l ss)) (wire_power y) in
        let e_delay : from_left step m.empty (lay (qs ++ (q ∷ [])) (ws ++ (w ∷ [])) l (ss ++ (r ∷ []))) ≡ step (from_left step m.empty (lay qs ws l ss)) y =
        ap (from_left step m.empty) e ∙ from_left_snoc step m.empty (lay qs ws l ss) y in
        λ i. record { last = last_snoc l ss r i; used = e_used i; power = e_power i; delay = e_delay i }

    -- what is lawful is lawful with one wire less
    pub shrink : (ws : List ℕ) (l : ℕ) (ss : List ℕ) (w r : ℕ) → length ws ≡ length qs → length ss ≡ length qs →
        Parts book (drawn grid channel (qs ++ (q ∷ []))) (of (ws ++ (w ∷ [])) (l ∷ (ss ++ (r ∷ [])))) →
        Parts book (drawn grid channel qs) (of ws (l ∷ ss)) × (among (steps grid.widths) w ≡ true) × (among (steps grid.spaces) r ≡ true) × (may_follow book channel (state_of m qs (of ws (l ∷ ss))) w r ≡ true)
    shrink ws l ss w r g h p =
        let bk : Laid → Bool = admits_laid book in
        let a = all_snoc bk (lay qs ws l ss) _ (subst (λ zs. all bk zs ≡ true) (lay_snoc qs ws l ss q w r g h) p.admits) in
        let wi = all_snoc (among (steps grid.widths)) ws w p.widths_in in
        let si = all_snoc (among (steps grid.spaces)) (l ∷ ss) r p.spaces_in in
        let total_room : total (ws ++ (w ∷ [])) + (l + total (ss ++ (r ∷ []))) ≤ channel = p.room in
        let fits : total ws + (l + total ss) + w + r ≤ channel = omega (arith, total_snoc ws w, total_snoc ss r) in (
          record { widths_count = g; spaces_count = ap suc h; widths_in = wi.0; spaces_in = si.0; admits = a.0; room = omega arith },
          wi.1,
          si.1,
          and_both (book (last_of l ss) w r) (leb (total ws + (l + total ss) + w + r) channel) a.1 (le-leb _ _ fits),
        )

    -- and with one more that may follow
    pub grow : (ws : List ℕ) (l : ℕ) (ss : List ℕ) (w r : ℕ) → Parts book (drawn grid channel qs) (of ws (l ∷ ss)) →
        (among (steps grid.widths) w ≡ true) → among (steps grid.spaces) r ≡ true → may_follow book channel (state_of m qs (of ws (l ∷ ss))) w r ≡ true →
        Parts book (drawn grid channel (qs ++ (q ∷ []))) (of (ws ++ (w ∷ [])) (l ∷ (ss ++ (r ∷ []))))
    grow ws l ss w r p tw tr f =
        let bk : Laid → Bool = admits_laid book in
        let ok = book (last_of l ss) w r in
        let lb = leb (total ws + (l + total ss) + w + r) channel in
        let h : length ss ≡ length qs = omega (arith, p.spaces_count) in
        let fits : total ws + (l + total ss) + w + r ≤ channel = leb-true _ _ (and_right ok lb f) in
        record {
          widths_count = length_snoc ws w ∙ ap suc p.widths_count ∙ sym (length_snoc qs q);
          spaces_count = ap suc (length_snoc ss r ∙ ap suc h ∙ sym (length_snoc qs q));
          widths_in = all_snoc_make (among (steps grid.widths)) ws w p.widths_in tw;
          spaces_in = all_snoc_make (among (steps grid.spaces)) (l ∷ ss) r p.spaces_in tr;
          admits = subst (λ zs. all bk zs ≡ true) (sym (lay_snoc qs ws l ss q w r p.widths_count h)) (all_snoc_make bk (lay qs ws l ss) _ p.admits (and_left ok lb f));
          room = omega (arith, total_snoc ws w, total_snoc ss r);
        }

    -- a lawful allocation of one wire more, with the state of what is without it
    longer : (ws : List ℕ) (l : ℕ) (ss : List ℕ) (w r : ℕ) (t : Kept V) → Parts book (drawn grid channel qs) (of ws (l ∷ ss)) →
        length ss ≡ length qs → among (steps grid.widths) w ≡ true → among (steps grid.spaces) r ≡ true →
        may_follow book channel (state_of m qs (of ws (l ∷ ss))) w r ≡ true → t ≡ extended m q (state_of m qs (of ws (l ∷ ss))) w r →
        t ∈ states m book (drawn grid channel (qs ++ (q ∷ [])))
    longer ws l ss w r t p h tw tr f e =
        let d' = drawn grid channel (qs ++ (q ∷ [])) in
        let y = of (ws ++ (w ∷ [])) (l ∷ (ss ++ (r ∷ []))) in
        states_make d' y (whole book d' y (grow ws l ss w r p tw tr f)) (e ∙ sym (state_snoc ws l ss w r p.widths_count h))

    -- the other way
    shorter : (ws : List ℕ) (l : ℕ) (ss : List ℕ) (w r : ℕ) (t : Kept V) → length ws ≡ length qs → length ss ≡ length qs →
        Parts book (drawn grid channel (qs ++ (q ∷ []))) (of (ws ++ (w ∷ [])) (l ∷ (ss ++ (r ∷ [])))) →
        t ≡ state_of m (qs ++ (q ∷ [])) (of (ws ++ (w ∷ [])) (l ∷ (ss ++ (r ∷ [])))) →
        (s : Kept V) × (s ∈ states m book (drawn grid channel qs)) × (t ∈ extensions m book grid channel q s)
    shorter ws l ss w r t g h p e =
        let d = drawn grid channel qs in
        let x = of ws (l ∷ ss) in
        let s = state_of m qs x in
        let small = shrink ws l ss w r g h p in (
          s,
          states_make d x (whole book d x small.0) refl,
          each_make (λ v. map (extended m q s v) (keep (may_follow book channel s v) (steps grid.spaces))) (among_in (steps grid.widths) w small.1)
              (map_make (extended m q s w) (keep_make (may_follow book channel s w) (among_in (steps grid.spaces) r small.2) small.3)
              (e ∙ state_snoc ws l ss w r g h)),
        )

    -- a state of one wire more extends one without it
    pub next_in : {t : Kept V} → t ∈ states m book (drawn grid channel (qs ++ (q ∷ []))) →
        (s : Kept V) × (s ∈ states m book (drawn grid channel qs)) × (t ∈ extensions m book grid channel q s)
    next_in {t} i =
        let d' = drawn grid channel (qs ++ (q ∷ [])) in
        let r = states_in d' i in
        let x = r.0 in
        let p = parts book d' x r.1 in
        let ew = unsnoc (length qs) x.widths (p.widths_count ∙ length_snoc qs q) in
        let es = unsnoc (suc (length qs)) x.spaces (p.spaces_count ∙ ap suc (length_snoc qs q)) in
        let c = uncons (length qs) es.0 es.3 in
        let spaces : x.spaces ≡ c.0 ∷ (c.1 ++ (es.1 ∷ [])) = es.2 ∙ ap (λ zs. zs ++ (es.1 ∷ [])) c.2 in
        let same : x ≡ of (ew.0 ++ (ew.1 ∷ [])) (c.0 ∷ (c.1 ++ (es.1 ∷ []))) = λ i. record { widths = ew.2 i; spaces = spaces i } in
        shorter ew.0 c.0 c.1 ew.1 es.1 t ew.3 c.3 (subst (Parts book d') same p) (r.2 ∙ ap (state_of m (qs ++ (q ∷ []))) same)

    -- what extends a state is a state of one wire more
    pub next_make : {s t : Kept V} → s ∈ states m book (drawn grid channel qs) → t ∈ extensions m book grid channel q s →
        t ∈ states m book (drawn grid channel (qs ++ (q ∷ [])))
    next_make {s} {t} i j =
        let d = drawn grid channel qs in
        let r = states_in d i in
        let x = r.0 in
        let p = parts book d x r.1 in
        let c = uncons (length qs) x.spaces p.spaces_count in
        let same : x ≡ of x.widths (c.0 ∷ c.1) = λ i. record { widths = x.widths; spaces = c.2 i } in
        extends x.widths c.0 c.1 (subst (Parts book d) same p) c.3
        (subst (λ (z : Kept V). t ∈ extensions m book grid channel q z) (r.2 ∙ ap (state_of m qs) same) j)
      where
        extends : (ws : List ℕ) (l : ℕ) (ss : List ℕ) → Parts book (drawn grid channel qs) (of ws (l ∷ ss)) → length ss ≡ length qs →
            t ∈ extensions m book grid channel q (state_of m qs (of ws (l ∷ ss))) → t ∈ states m book (drawn grid channel (qs ++ (q ∷ [])))
        extends ws l ss p h j =
            let s = state_of m qs (of ws (l ∷ ss)) in
            let a = each_in (λ v. map (extended m q s v) (keep (may_follow book channel s v) (steps grid.spaces))) (steps grid.widths) j in
            let b = map_in (extended m q s a.0) (keep (may_follow book channel s a.0) (steps grid.spaces)) a.2 in
            let k = keep_in (may_follow book channel s a.0) (steps grid.spaces) b.1 in
            longer ws l ss a.0 b.0 t p h (among_make (steps grid.widths) a.1) (among_make (steps grid.spaces) k.0) k.1 b.2
