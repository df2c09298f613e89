-- The elements of an array that calls of a closure made, where each call leaves the closure as it was. Assumes nothing.
use Rattle.std.proofs.Common.{◌≡◌, ℕ, zero, suc, ◌+◌, ◌<◌, ◌≤◌, ◌⊎◌, List, get_or, sym, refl, subst, inl, inr, arith}
use Rattle.std.proofs.lemmas.Bool.{cases_lt}
use Rattle.std.specs.Array.{IsFromFnResultFrom, IsFromFnResult}
use Rattle.std.specs.Fn.{Called}
use denote.Param.Members.{Mut}

module _ {F B : Type 0} (g : Mut F (ℕ × Unit {0}) B) (f : F) (ys : List B) (e : B) (P : ℕ → B → Type 0) (gives : (i : ℕ) (y : B) (q : F) → Called g f (i, tt) y q → (q ≡ f) × P i y) where
  -- from one number on
  made_from : (h : F) → h ≡ f → (i n : ℕ) → IsFromFnResultFrom g h ys i n → (k : ℕ) → i ≤ k → k < i + n → P k (get_or ys k e)
  made_from h s i zero m k low high = absurd (omega arith)
  made_from h s i (suc n) (q, y, at, call, rest) k low high =
      let one : (q ≡ f) × P i y = gives i y q (subst (λ (z : F). Called g z (i, tt) y q) s call) in
      let here : P i (get_or ys i e) = subst (λ (z : B). P i z) (sym (at.1 e)) one.1 in
      go here (λ a. made_from q one.0 (i + 1) n rest k (omega arith) (omega arith)) (cases_lt i k)
    where
      go : P i (get_or ys i e) → (i < k → P k (get_or ys k e)) → (i < k) ⊎ (k ≤ i) → P k (get_or ys k e)
      go here there (inl a) = there a
      go here there (inr a) = let same : i ≡ k = omega arith in subst (λ (z : ℕ). P z (get_or ys z e)) same here

  -- each
  pub made_each : (n : ℕ) → IsFromFnResult g f ys n → (k : ℕ) → k < n → P k (get_or ys k e)
  made_each n m k h = made_from f refl 0 n m.each k (omega arith) (omega arith)
