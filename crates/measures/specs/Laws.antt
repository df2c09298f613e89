-- What every delay measure keeps.
use Rattle.std.specs.Prelude.{◌≡◌, Bool, true, ◌⊎◌, ℕ, ◌+◌, ◌<◌, ◌≤◌}

-- The empty value is in reach of 0 wires, a value made of a delay below 60,000,000 of 1, and a join of the wires of
-- both. The join is associative and the empty value neutral. 'Not above' is reflexive, transitive and total, and
-- holds both ways only between equal values. It stays when the same value is joined to both, on either side.
-- Each law is for values each in reach of at most 24 wires: those that it joins into one value are in reach of at
-- most 24 together, and those that it only compares are not added up.
pub record Laws {V : Type 0} (empty : V) (made : ℕ → ℕ → V) (joined : V → V → V) (below : V → V → Bool)
    (reach : ℕ → V → Type 0) : Type 0 where
  pub empty_reach : reach 0 empty
  pub made_reach : (d t : ℕ) → d < 60000000 → reach 1 (made d t)
  pub joined_reach : (j k : ℕ) (x y : V) → j + k ≤ 24 → reach j x → reach k y → reach (j + k) (joined x y)
  pub empty_left : (k : ℕ) (x : V) → k ≤ 24 → reach k x → joined empty x ≡ x
  pub empty_right : (k : ℕ) (x : V) → k ≤ 24 → reach k x → joined x empty ≡ x
  pub associative : (i j k : ℕ) (x y z : V) → i + j + k ≤ 24 → reach i x → reach j y → reach k z
      → joined (joined x y) z ≡ joined x (joined y z)
  pub reflexive : (k : ℕ) (x : V) → k ≤ 24 → reach k x → below x x ≡ true
  pub transitive : (i j k : ℕ) (x y z : V) → i ≤ 24 → j ≤ 24 → k ≤ 24 → reach i x → reach j y → reach k z
      → below x y ≡ true → below y z ≡ true → below x z ≡ true
  pub entire : (i j : ℕ) (x y : V) → i ≤ 24 → j ≤ 24 → reach i x → reach j y → (below x y ≡ true) ⊎ (below y x ≡ true)
  pub antisymmetric : (i j : ℕ) (x y : V) → i ≤ 24 → j ≤ 24 → reach i x → reach j y
      → below x y ≡ true → below y x ≡ true → x ≡ y
  pub steady_left : (i j k : ℕ) (x y z : V) → k + i ≤ 24 → k + j ≤ 24 → reach i x → reach j y → reach k z
      → below x y ≡ true → below (joined z x) (joined z y) ≡ true
  pub steady_right : (i j k : ℕ) (x y z : V) → i + k ≤ 24 → j + k ≤ 24 → reach i x → reach j y → reach k z
      → below x y ≡ true → below (joined x z) (joined y z) ≡ true
