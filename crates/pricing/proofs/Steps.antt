-- The steps of a grid byte, by number. Assumes nothing.
use Rattle.std.proofs.Common.{◌≡◌, ℕ, zero, suc, ◌≤◌, Bool, true, false, cond, ◌&&◌, ◌||◌, eqb, List, [], ◌∷◌, sym, refl, ap, ◌∙◌, not-suc-le-zero, arith}
use Rattle.std.proofs.lemmas.Bool.{both_ways}
use Rattle.std.proofs.lemmas.Bool.Decides.{nat_tests}
use Rattle.drawing.specs.Lists.{keep}
use Rattle.drawing.specs.Steps.{all_steps, has_step}
use Rattle.rules.specs.Steps.{step}
use Rattle.pricing.specs.Lists.{some_is}
use Rattle.pricing.specs.Allocations.{is_step_of}

-- some kept element passes a test where some element passes it and is kept
some_kept : {X : Type 0} (f g : X → Bool) (xs : List X) → some_is g (keep f xs) ≡ some_is (λ x. g x && f x) xs
some_kept f g [] = refl
some_kept f g (x ∷ xs) = put (f x) ∙ ap (λ z. (g x && f x) || z) (some_kept f g xs)
  where
    put : (b : Bool) → some_is g (cond b (x ∷ keep f xs) (keep f xs)) ≡ (g x && b) || some_is g (keep f xs)
    put true = ap (λ z. z || some_is g (keep f xs)) (also (g x))
      where
        also : (b : Bool) → b ≡ b && true
        also true = refl
        also false = refl
    put false = ap (λ z. z || some_is g (keep f xs)) (neither (g x))
      where
        neither : (b : Bool) → false ≡ b && false
        neither true = refl
        neither false = refl

-- `or` with what is false changes nothing
or_none : (b : Bool) → b ≡ b || false
or_none true = refl
or_none false = refl

-- a number from 1 to 6 is a step of the byte where its bit is set
pub inside : (byte s : ℕ) → 1 ≤ s → s ≤ 6 → has_step byte s ≡ is_step_of byte s
inside byte s low high = go s low high ∙ sym (some_kept (has_step byte) (eqb s) all_steps)
  where
    go : (s : ℕ) → 1 ≤ s → s ≤ 6 → has_step byte s ≡ some_is (λ x. eqb s x && has_step byte x) all_steps
    go zero low high = absurd (not-suc-le-zero low)
    go (suc zero) low high = or_none (has_step byte 1)
    go (suc (suc zero)) low high = or_none (has_step byte 2)
    go (suc (suc (suc zero))) low high = or_none (has_step byte 3)
    go (suc (suc (suc (suc zero)))) low high = or_none (has_step byte 4)
    go (suc (suc (suc (suc (suc zero))))) low high = or_none (has_step byte 5)
    go (suc (suc (suc (suc (suc (suc zero)))))) low high = or_none (has_step byte 6)
    go (suc (suc (suc (suc (suc (suc (suc n))))))) low high = absurd (omega arith)

-- a number that is not from 1 to 6 is a step of no byte
pub outside : (byte s : ℕ) → step s ≡ false → false ≡ is_step_of byte s
outside byte s h = go ∙ sym (some_kept (has_step byte) (eqb s) all_steps)
  where
    go : false ≡ some_is (λ x. eqb s x && has_step byte x) all_steps
    go = grind (arith, nat_tests)

-- what is a step of a byte is a step
pub step_from : (byte s : ℕ) → is_step_of byte s ≡ true → step s ≡ true
step_from byte s h = go (step s) refl
  where
    go : (b : Bool) → step s ≡ b → b ≡ true
    go true e = refl
    go false e = absurd (both_ways (is_step_of byte s) (sym (outside byte s e)) h)
