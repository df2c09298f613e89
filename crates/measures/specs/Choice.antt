-- A measure that is one of two kinds keeps the laws, since each kind does.
use mathlib.Core.Path.{◌≡◌, refl, sym, ap, ◌∙◌}
use mathlib.Core.Bool.{Bool, true, false, cond, ◌&&◌}
use Prim.Native.Nat.{ℕ}
use native.Mathlib.Omega.{arith}
use borrow.Author.Tests.{clash}
use Rattle.measures.specs.Laws.{Laws}
use Rattle.measures.specs.declared.measure.DelayMeasure.{Ghosts}
use Rattle.either.specs.declared.Either.{Either}
use Rattle.either.specs.declared.Either.TheVariants as kind
use Rattle.measures.specs.declared.values.EitherValue.{EitherValue}
use Rattle.measures.specs.declared.values.EitherValue.TheVariants.{Empty, First, Second}
use Rattle.measures.specs.Values.{to_first, to_second, from_first, from_second}
use Rattle.measures.specs.Either.{either_made, either_joined, either_below, either_reach}
use Rattle.measures.specs.Carried.{Forms, carried}

-- a test of two parts that passes passes in both
both_true : (a b : Bool) → a && b ≡ true → (a ≡ true) × (b ≡ true)
both_true true true h = (refl, refl)
both_true true false h = (refl, h)
both_true false b h = absurd (clash h)

-- a value is written as none where it is as good as the empty one, and else as one of W that reads as it is
pub forms : {V W : Type 0} (empty : V) (made : ℕ → ℕ → V) (joined : V → V → V) (below : V → V → Bool) (reach : ℕ → V → Type 0)
    (none : W) (raw : W → V) (one : V → W)
    → Laws empty made joined below reach → raw none ≡ empty → ((v : V) → raw (one v) ≡ v)
    → Forms empty reach none raw (λ v. cond (below v empty && below empty v) none (one v))
forms {V} {W} empty made joined below reach none raw one l raw_none raw-one =
    let norm : V → W = λ v. cond (below v empty && below empty v) none (one v) in
    let norm_empty : norm empty ≡ none = ap (λ (b : Bool). cond (b && b) none (one empty)) (l.reflexive 0 empty (omega arith) l.empty_reach) in
    record {
      raw_none = raw_none;
      norm_empty = norm_empty;
      again = λ v.
          elim (below v empty && below empty v) as (λ b. (below v empty && below empty v ≡ b) → norm (raw (cond b none (one v))) ≡ cond b none (one v)) [
            | true ↦ (λ e. ap norm raw_none ∙ norm_empty)
            | false ↦ (λ e. ap norm (raw-one v) ∙ ap (λ (b : Bool). cond b none (one v)) e)
          ] refl;
      back = λ k v le r.
          elim (below v empty && below empty v) as (λ b. (below v empty && below empty v ≡ b) → raw (cond b none (one v)) ≡ v) [
            | true ↦ (λ e. let t = both_true (below v empty) (below empty v) e in
                raw_none ∙ sym (l.antisymmetric k 0 v empty le (omega arith) r l.empty_reach t.0 t.1))
            | false ↦ (λ e. raw-one v)
          ] refl;
    }

-- each measure of a kind keeps the laws
abbrev pub Lawful : {P V : Type 0} → Ghosts P V → Type 0
Lawful {P} g = (p : P) → Laws g.EMPTY (g.made p) (g.joined p) (g.below p) (g.reach p)

module _ {P Q V W : Type 0} (f : Ghosts P V) (s : Ghosts Q W) where
  -- a value of the first kind is read back as it was written
  pub first_forms : Lawful f → (p : P) → Forms {W = EitherValue V W} f.EMPTY (f.reach p) Empty (to_first f.EMPTY) (from_first (f.below p) f.EMPTY)
  first_forms l p = forms f.EMPTY (f.made p) (f.joined p) (f.below p) (f.reach p) Empty (to_first f.EMPTY) First (l p) refl (λ v. refl)

  -- a value of the second kind is read back as it was written
  pub second_forms : Lawful s → (q : Q) → Forms {W = EitherValue V W} s.EMPTY (s.reach q) Empty (to_second s.EMPTY) (from_second (s.below q) s.EMPTY)
  second_forms l q = forms s.EMPTY (s.made q) (s.joined q) (s.below q) (s.reach q) Empty (to_second s.EMPTY) Second (l q) refl (λ v. refl)

  -- whichever of the two is at hand
  pub either_lawful : Lawful f → Lawful s
      → (m : Either P Q) → Laws {V = EitherValue V W} Empty (either_made f s m) (either_joined f s m) (either_below f s m) (either_reach f s m)
  either_lawful l o (kind.Left p) =
      carried f.EMPTY (f.made p) (f.joined p) (f.below p) (f.reach p) Empty (to_first f.EMPTY) (from_first (f.below p) f.EMPTY) (l p) (first_forms l p)
  either_lawful l o (kind.Right q) =
      carried s.EMPTY (s.made q) (s.joined q) (s.below q) (s.reach q) Empty (to_second s.EMPTY) (from_second (s.below q) s.EMPTY) (o q) (second_forms o q)
