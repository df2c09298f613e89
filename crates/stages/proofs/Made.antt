-- What `array::from_fn` makes by a closure that its calls leave as it was. Assumes nothing.
use Rattle.std.proofs.Common.{◌≡◌, ℕ, zero, suc, ◌+◌, ◌<◌, ◌≤◌, ◌⊎◌, List, get_or, sym, subst, inl, inr, arith}
use denote.Param.Members.{Mut}
use Rattle.std.specs.Array.{IsFromFnResultFrom}
use Rattle.std.specs.Fn.{Called}
use Rattle.std.proofs.lemmas.Bool.{cases_lt}

-- what holds of each number and of what the closure gives for it holds of the elements
pub each_made : {F B : Type 0} (g : Mut F (ℕ × Unit {0}) B) (P : ℕ → B → Type 0) (f : F) (ys : List B) (i n : ℕ) →
    ((j : ℕ) (y : B) (q : F) → Called g f (j, tt) y q → (q ≡ f) × P j y) → IsFromFnResultFrom g f ys i n → (k : ℕ) (d : B) → i ≤ k → k < i + n → P k (get_or ys k d)
each_made g P f ys i zero one made k d low high = absurd (omega arith)
each_made {F} g P f ys i (suc n) one (q, y, is, call, rest) k d low high =
    go (one i y q call) (λ same. each_made g P f ys (i + 1) n one (subst (λ (z : F). IsFromFnResultFrom g z ys (i + 1) n) same rest) k d) (cases_lt i k)
  where
    go : (q ≡ f) × P i y → (q ≡ f → i + 1 ≤ k → k < i + 1 + n → P k (get_or ys k d)) → (i < k) ⊎ (k ≤ i) → P k (get_or ys k d)
    go (same, here) more (inl l) = more same (omega arith) (omega arith)
    go (same, here) more (inr l) =
        let e : i ≡ k = omega arith in
        subst (λ (z : ℕ). P z (get_or ys z d)) e (subst (λ z. P i z) (sym (is.1 d)) here)
