-- The laws of a measure hold of one whose values are those of the first in another form.
use mathlib.Core.Path.{◌≡◌, sym, ap, subst, ◌∙◌}
use mathlib.Core.Bool.{Bool}
use Prim.Native.Nat.{ℕ, ◌+◌, ◌≤◌}
use native.Mathlib.Omega.{arith}
use Rattle.measures.specs.Laws.{Laws}

-- raw reads the other form W, and norm writes it: what is in reach is read back as it was written
pub record Forms {V W : Type 0} (empty : V) (reach : ℕ → V → Type 0) (none : W) (raw : W → V) (norm : V → W) : Type 0 where
  pub raw_none : raw none ≡ empty
  pub norm_empty : norm empty ≡ none
  pub again : (v : V) → norm (raw (norm v)) ≡ norm v
  pub back : (k : ℕ) (v : V) → k ≤ 24 → reach k v → raw (norm v) ≡ v

module _ {V W : Type 0} (empty : V) (made : ℕ → ℕ → V) (joined : V → V → V) (below : V → V → Bool)
    (reach : ℕ → V → Type 0) (none : W) (raw : W → V) (norm : V → W) where
  -- a join, written in the other form, is read back as it is
  read : Laws empty made joined below reach → Forms empty reach none raw norm
      → (j k : ℕ) (x y : V) → j + k ≤ 24 → reach j x → reach k y → raw (norm (joined x y)) ≡ joined x y
  read l f j k x y le rx ry = f.back (j + k) (joined x y) le (l.joined_reach j k x y le rx ry)

  -- every law, read by raw and written by norm
  pub carried : Laws empty made joined below reach → Forms empty reach none raw norm
      → Laws none (λ d t. norm (made d t)) (λ x y. norm (joined (raw x) (raw y))) (λ x y. below (raw x) (raw y))
      (λ k x. reach k (raw x) × (norm (raw x) ≡ x))
  carried l f =
      record {
        empty_reach = (subst (reach 0) (sym f.raw_none) l.empty_reach, ap norm f.raw_none ∙ f.norm_empty);
        made_reach = λ d t lt.
            let r = l.made_reach d t lt in
            (subst (reach 1) (sym (f.back 1 (made d t) (omega arith) r)) r, f.again (made d t));
        joined_reach = λ j k x y le rx ry.
            let r = l.joined_reach j k (raw x) (raw y) le rx.0 ry.0 in
            (subst (reach (j + k)) (sym (f.back (j + k) (joined (raw x) (raw y)) le r)) r, f.again (joined (raw x) (raw y)));
        empty_left = λ k x le r.
            ap (λ z. norm (joined z (raw x))) f.raw_none ∙ ap norm (l.empty_left k (raw x) le r.0) ∙ r.1;
        empty_right = λ k x le r.
            ap (λ z. norm (joined (raw x) z)) f.raw_none ∙ ap norm (l.empty_right k (raw x) le r.0) ∙ r.1;
        associative = λ i j k x y z le rx ry rz.
            ap (λ v. norm (joined v (raw z))) (read l f i j (raw x) (raw y) (omega arith) rx.0 ry.0)
            ∙ ap norm (l.associative i j k (raw x) (raw y) (raw z) le rx.0 ry.0 rz.0)
            ∙ sym (ap (λ v. norm (joined (raw x) v)) (read l f j k (raw y) (raw z) (omega arith) ry.0 rz.0));
        reflexive = λ k x le r. l.reflexive k (raw x) le r.0;
        transitive = λ i j k x y z li lj lk rx ry rz.
            l.transitive i j k (raw x) (raw y) (raw z) li lj lk rx.0 ry.0 rz.0;
        entire = λ i j x y li lj rx ry. l.entire i j (raw x) (raw y) li lj rx.0 ry.0;
        antisymmetric = λ i j x y li lj rx ry a b.
            sym rx.1 ∙ ap norm (l.antisymmetric i j (raw x) (raw y) li lj rx.0 ry.0 a b) ∙ ry.1;
        steady_left = λ i j k x y z li lj rx ry rz a.
            ap (λ v. below v (raw (norm (joined (raw z) (raw y))))) (read l f k i (raw z) (raw x) li rz.0 rx.0)
            ∙ ap (λ v. below (joined (raw z) (raw x)) v) (read l f k j (raw z) (raw y) lj rz.0 ry.0)
            ∙ l.steady_left i j k (raw x) (raw y) (raw z) li lj rx.0 ry.0 rz.0 a;
        steady_right = λ i j k x y z li lj rx ry rz a.
            ap (λ v. below v (raw (norm (joined (raw y) (raw z))))) (read l f i k (raw x) (raw z) li rx.0 rz.0)
            ∙ ap (λ v. below (joined (raw x) (raw z)) v) (read l f j k (raw y) (raw z) lj ry.0 rz.0)
            ∙ l.steady_right i j k (raw x) (raw y) (raw z) li lj rx.0 ry.0 rz.0 a;
      }
