-- The least delays by used width: they tell what is beaten. Assumes nothing.
use Rattle.std.proofs.Common.{◌≡◌, ℕ, ◌+◌, ◌<◌, ◌≤◌, Bool, true, false, cond, ◌⊎◌, List, get_or, replicate, Some, None, Option, sym, refl, ap, ◌∙◌, subst, inl, inr, arith}
use lib.ListN.{get_or-replicate}
use Rattle.std.proofs.lemmas.Bool.{both_ways, lt-ltb, le-ltb, cases_lt}
use Rattle.measures.specs.Laws.{Laws}
use Rattle.pricing.specs.Measures.{Measure}
use Rattle.frontier.specs.declared.records.State.{State}
use Rattle.frontier.specs.Orders.{upto}
use Rattle.frontier.specs.States.{Kept}
use Rattle.frontier.proofs.Extending.{below_parts, below_make}
use Rattle.stages.specs.Table.{Inside, at, Beaten, lesser, noted, behind, LeastPlace, Leasts}
use Rattle.stages.proofs.Order.{Comes, by_power, by_used, by_delay, comes, Near}
use Rattle.stages.proofs.Sift.{last_or}

-- a least place stands inside the table
pub inside_of : {V : Type 0} (m : Measure V) (t : List (State V)) (b end s u n : ℕ) → end ≤ n → (o : Option ℕ) → LeastPlace m t b end s u o → Inside o n
inside_of m t b end s u n h None l = tt
inside_of m t b end s u n h (Some v) (lo, hi, el, eu, rest) = omega arith

module _ {V : Type 0} (m : Measure V) {reach : ℕ → V → Type 0} (laws : Laws m.empty m.made m.joined m.below reach) (t : List (State V)) (b end s : ℕ)
    (near : (k : ℕ) → b ≤ k → k < end → Near reach (at m t k)) (x : Kept V) (x_near : Near reach x) (x_last : x.last ≡ s) where
  -- what the least delay at its used width says of x
  pub behind_beaten : (o : Option ℕ) → LeastPlace m t b end s x.used o → ((k : ℕ) → b ≤ k → k < end → (at m t k).last ≡ s → upto m (at m t k) x ≡ true) →
      (r : Bool) → r ≡ behind m t o x.delay → Beaten m t b end x r
  behind_beaten None least before true e = absurd (both_ways true e refl)
  behind_beaten None least before false e = λ k h i below.
      let p = below_parts m (at m t k) x below in
      let l = least k h i (p.last ∙ x_last) in
      let u = p.used in
      omega arith
  behind_beaten (Some k) (h, i, el, eu, least) before true e =
      let up = comes m (at m t k) x (before k h i el) in
      (k, h, i, below_make m (at m t k) x (record { last = el ∙ sym x_last; used = eu; power = powers up; delay = sym e }))
    where
      powers : Comes m (at m t k) x → (at m t k).power ≤ x.power
      powers (by_power p) = omega arith
      powers (by_used p u) = omega arith
      powers (by_delay p u d) = omega arith
  behind_beaten (Some k) (h, i, el, eu, least) before false e = λ j l lt below.
      let p = below_parts m (at m t j) x below in
      let nk = near k h i in
      let nj = near j l lt in
      let step = least j l lt (p.last ∙ x_last) p.used in
      let over = laws.transitive nk.0 nj.0 x_near.0 (at m t k).delay (at m t j).delay x.delay nk.1 nj.1 x_near.1 nk.2 nj.2 x_near.2 step p.delay in
      both_ways (m.below (at m t k).delay x.delay) (sym e) over

  -- x is written behind the others, and its delay noted
  pub leasts_more : (least least' : List (Option ℕ)) → b ≤ end → Leasts m t b end s least → ((u : ℕ) → u < 301 → get_or least' u None ≡ noted m t end (get_or least u None) u x.used x.delay) →
      (t₁ : List (State V)) → ((k : ℕ) → k < end → at m t₁ k ≡ at m t k) → at m t₁ end ≡ x → Leasts m t₁ b (end + 1) s least'
  leasts_more least least' be L is t₁ same new u lt =
      subst (λ (z : Option ℕ). LeastPlace m t₁ b (end + 1) s u z) (sym (is u lt)) (by (get_or least u None) (L u lt) (cases_lt u x.used))
    where
      here : (k : ℕ) → k ≡ end → at m t₁ k ≡ x
      here k e = ap (at m t₁) e ∙ new

      both : (P : Kept V → Type 0) → ((k : ℕ) → b ≤ k → k < end → P (at m t k)) → P x → (k : ℕ) → b ≤ k → k < end + 1 → P (at m t₁ k)
      both P old now k h i = go (last_or k end i)
        where
          go : (k < end) ⊎ (k ≡ end) → P (at m t₁ k)
          go (inl j) = subst P (sym (same k j)) (old k h j)
          go (inr e) = subst P (sym (here k e)) now

      -- the least is the old one at v
      stays : (v : ℕ) → b ≤ v → v < end → (at m t v).last ≡ s → (at m t v).used ≤ u → ((k : ℕ) → b ≤ k → k < end → (at m t k).last ≡ s → (at m t k).used ≤ u → m.below (at m t v).delay (at m t k).delay ≡ true) →
          (x.last ≡ s → x.used ≤ u → m.below (at m t v).delay x.delay ≡ true) → LeastPlace m t₁ b (end + 1) s u (Some v)
      stays v h i el eu least now =
          let e = same v i in
          let P : Kept V → Kept V → Type 0 = λ z y. y.last ≡ s → y.used ≤ u → (m.below z.delay y.delay ≡ true) in (
            h,
            omega arith,
            ap (λ (z : Kept V). z.last) e ∙ el,
            subst (λ (z : Kept V). z.used ≤ u) (sym e) eu,
            both (P (at m t₁ v)) (subst (λ (z : Kept V). (k : ℕ) → b ≤ k → k < end → P z (at m t k)) (sym e) least) (subst (λ (z : Kept V). P z x) (sym e) now),
          )

      reflexive : m.below x.delay x.delay ≡ true
      reflexive = laws.reflexive x_near.0 x.delay x_near.1 x_near.2

      -- the least is the new one
      comes_in : x.used ≤ u → ((k : ℕ) → b ≤ k → k < end → (at m t k).last ≡ s → (at m t k).used ≤ u → m.below x.delay (at m t k).delay ≡ true) → LeastPlace m t₁ b (end + 1) s u (Some end)
      comes_in h below =
          let P : Kept V → Kept V → Type 0 = λ z y. y.last ≡ s → y.used ≤ u → (m.below z.delay y.delay ≡ true) in (
            be,
            omega arith,
            ap (λ (z : Kept V). z.last) new ∙ x_last,
            subst (λ (z : Kept V). z.used ≤ u) (sym new) h,
            both (P (at m t₁ end)) (subst (λ (z : Kept V). (k : ℕ) → b ≤ k → k < end → P z (at m t k)) (sym new) below) (subst (λ (z : Kept V). P z x) (sym new) (λ el eu. reflexive)),
          )

      some : x.used ≤ u → (v : ℕ) → LeastPlace m t b end s u (Some v) → (r : Bool) → m.below (at m t v).delay x.delay ≡ r → LeastPlace m t₁ b (end + 1) s u (cond r (Some v) (Some end))
      some h v (vb, ve, el, eu, least) true e = stays v vb ve el eu least (λ l w. e)
      some h v (vb, ve, el, eu, least) false e = comes_in h below
        where
          nk : Near reach (at m t v)
          nk = near v vb ve

          under : m.below x.delay (at m t v).delay ≡ true
          under = elim (laws.entire x_near.0 nk.0 x.delay (at m t v).delay x_near.1 nk.1 x_near.2 nk.2) [
            | inl y ↦ y
            | inr y ↦ absurd (both_ways (m.below (at m t v).delay x.delay) e y)
          ]

          below : (j : ℕ) → b ≤ j → j < end → (at m t j).last ≡ s → (at m t j).used ≤ u → m.below x.delay (at m t j).delay ≡ true
          below j l i jl ju =
              let nj = near j l i in
              laws.transitive x_near.0 nk.0 nj.0 x.delay (at m t v).delay (at m t j).delay x_near.1 nk.1 nj.1 x_near.2 nk.2 nj.2 under (least j l i jl ju)

      wide : (o : Option ℕ) → LeastPlace m t b end s u o → x.used ≤ u → LeastPlace m t₁ b (end + 1) s u (lesser m t end o x.delay)
      wide None least h = comes_in h (λ k l i el eu. let n = least k l i el in absurd (omega arith))
      wide (Some v) least h = some h v least (m.below (at m t v).delay x.delay) refl

      narrow : (o : Option ℕ) → LeastPlace m t b end s u o → u < x.used → LeastPlace m t₁ b (end + 1) s u o
      narrow None least h = both (λ y. y.last ≡ s → u < y.used) least (λ e. h)
      narrow (Some v) (vb, ve, el, eu, least) h = stays v vb ve el eu least (λ l w. absurd (omega arith))

      by : (o : Option ℕ) → LeastPlace m t b end s u o → (u < x.used) ⊎ (x.used ≤ u) → LeastPlace m t₁ b (end + 1) s u (noted m t end o u x.used x.delay)
      by o least (inl h) = subst (λ (z : Bool). LeastPlace m t₁ b (end + 1) s u (cond z o (lesser m t end o x.delay))) (sym (lt-ltb u x.used h)) (narrow o least h)
      by o least (inr h) = subst (λ (z : Bool). LeastPlace m t₁ b (end + 1) s u (cond z o (lesser m t end o x.delay))) (sym (le-ltb u x.used h)) (wide o least h)

-- before the turn of a space nothing of it is kept
pub leasts_start : {V : Type 0} (m : Measure V) (t : List (State V)) (b end s : ℕ) → ((k : ℕ) → b ≤ k → k < end → (at m t k).last < s) → Leasts m t b end s (replicate 301 None)
leasts_start m t b end s earlier u lt =
    subst (λ z. LeastPlace m t b end s u z) (sym (get_or-replicate 301 u None None lt)) (λ k h i el. let e = earlier k h i in absurd (omega arith))
