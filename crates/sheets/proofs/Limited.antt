-- The numbers of a wire within its limits. Assumes nothing.
use Rattle.std.proofs.Common.{◌≡◌, ℕ, ◌+◌, ◌^◌, ◌<◌, ◌≤◌, Bool, true, false, List, [], ◌∷◌, is_some, refl, arith}
use Rattle.std.specs.List.{AllByRecursion as All}
use Rattle.std.proofs.lemmas.Bool.{ltb-false, true≢false}
use Rattle.drawing.specs.declared.words.Wire.{Wire}
use Rattle.drawing.specs.Lists.{first_from}
use Rattle.drawing.specs.Plans.{excesses, over_limit}
use Rattle.sheets.specs.Texts.{numbers}

-- where no `true` is found there is none
none_true : (n : ℕ) (bs : List Bool) → is_some (first_from n bs) ≡ false → All (λ b. b ≡ false) bs
none_true n [] e = tt
none_true n (true ∷ bs) e = absurd (true≢false e)
none_true n (false ∷ bs) e = (refl, none_true (n + 1) bs e)

-- the limits of a wire's numbers
pub record Limits (w : Wire) : Type 0 where
  pub a : w.a ≤ 1000
  pub b : w.b ≤ 1000
  pub g : w.g ≤ 1000
  pub d : w.d ≤ 1000
  pub e : w.e ≤ 1000
  pub k : w.k ≤ 1000
  pub h : w.h ≤ 1000
  pub t : w.t ≤ 60000000

-- a wire with no number above its limit keeps them all
pub limits : (w : Wire) → over_limit w ≡ false → Limits w
limits w fair =
    let z = none_true 0 (excesses w) fair in
    record {
      a = ltb-false 1000 w.a z.0;
      b = ltb-false 1000 w.b z.1.0;
      g = ltb-false 1000 w.g z.1.1.0;
      d = ltb-false 1000 w.d z.1.1.1.0;
      e = ltb-false 1000 w.e z.1.1.1.1.0;
      k = ltb-false 1000 w.k z.1.1.1.1.1.0;
      h = ltb-false 1000 w.h z.1.1.1.1.1.1.0;
      t = ltb-false 60000000 w.t z.1.1.1.1.1.1.1.0;
    }

-- its numbers have at most eight digits
pub numbers_below : (w : Wire) → over_limit w ≡ false → All (λ n. n < 10 ^ 8) (numbers w)
numbers_below w fair = let l = limits w fair in omega arith
