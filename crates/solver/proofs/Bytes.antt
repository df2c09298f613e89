-- The 49 bytes of a witness grow by a width and a space. Assumes nothing.
use Rattle.std.proofs.Common.{◌≡◌, ℕ, zero, suc, ◌+◌, ◌-◌, ◌<◌, ◌≤◌, List, [], ◌∷◌, ◌++◌, length, set, replicate, sym, refl, ap, ◌∙◌, arith, length-append}
use lib.ListN.{length-replicate}
use lib.Seq.{set-append_left}
use Rattle.std.proofs.lemmas.List.{set-append_right}
use Rattle.frontier.specs.declared.records.State.{State}
use Rattle.frontier.proofs.Allocations.{of}
use Rattle.frontier.proofs.Rows.{length_snoc}
use Rattle.solver.specs.Front.{row_at}
use Rattle.solver.specs.Strips.{row_bytes}
use Rattle.solver.specs.Trail.{widths_to, spaces_to, path_to}

-- one place of the noughts is written
push_nought : (xs : List ℕ) (k x : ℕ) → set (xs ++ replicate (suc k) 0) (length xs) x ≡ (xs ++ (x ∷ [])) ++ replicate k 0
push_nought [] k x = refl
push_nought (y ∷ ys) k x = ap (λ zs. y ∷ zs) (push_nought ys k x)

-- the next place of a padded list is written
push_at : (n : ℕ) (xs : List ℕ) (x : ℕ) → length xs < n → set (xs ++ replicate (n - length xs) 0) (length xs) x ≡ (xs ++ (x ∷ [])) ++ replicate (n - length (xs ++ (x ∷ []))) 0
push_at n xs x h =
    let k = n - suc (length xs) in
    let e : n - length xs ≡ suc k = omega arith in
    let f : n - length (xs ++ (x ∷ [])) ≡ k = let s = length_snoc xs x in omega arith in
    ap (λ j. set (xs ++ replicate j 0) (length xs) x) e ∙ push_nought xs k x ∙ ap (λ j. (xs ++ (x ∷ [])) ++ replicate j 0) (sym f)

-- a padded list is as long as it is padded to
pub padded : (n : ℕ) (xs : List ℕ) → length xs ≤ n → length (xs ++ replicate (n - length xs) 0) ≡ n
padded n xs h = simp (length-append, length-replicate) (omega arith)

-- a width and a space more
pub row_more : (ws ss : List ℕ) (j w r : ℕ) → length ws ≡ j → length ss ≡ suc j → j < 24 →
    set (set (row_bytes (of ws ss)) j w) (25 + j) r ≡ row_bytes (of (ws ++ (w ∷ [])) (ss ++ (r ∷ [])))
row_more ws ss j w r ew es h =
    let a = ws ++ replicate (24 - length ws) 0 in
    let a' = (ws ++ (w ∷ [])) ++ replicate (24 - length (ws ++ (w ∷ []))) 0 in
    let b = ss ++ replicate (25 - length ss) 0 in
    let b' = (ss ++ (r ∷ [])) ++ replicate (25 - length (ss ++ (r ∷ []))) 0 in
    let la : length a ≡ 24 = padded 24 ws (omega arith) in
    let la' : length a' ≡ 24 = let s = length_snoc ws w in padded 24 (ws ++ (w ∷ [])) (omega arith) in
    let wide : set (a ++ b) j w ≡ a' ++ b =
    set-append_left a b j w (omega arith) ∙ ap (λ z. z ++ b) (ap (λ i. set a i w) (sym ew) ∙ push_at 24 ws w (omega arith)) in
    let k : (25 + j) - 24 ≡ length ss = omega arith in
    ap (λ z. set z (25 + j) r) wide ∙ set-append_right a' b 24 (25 + j) r la' (omega arith)
    ∙ ap (λ z. a' ++ z) (ap (λ i. set b i r) k ∙ push_at 25 ss r (omega arith))

-- no width and one space
pub row_first : (r : ℕ) → set (replicate 49 0) 24 r ≡ row_bytes (of [] (r ∷ []))
row_first r = refl

module _ {V : Type 0} (e : V) (table : List (State V)) where
  -- a width for each wire
  pub widths_length : (j i : ℕ) → length (widths_to e table j i) ≡ j
  widths_length zero i = refl
  widths_length (suc j) i = length_snoc (widths_to e table j (row_at e table i).from) (row_at e table i).width ∙ ap suc (widths_length j (row_at e table i).from)

  -- and one space more
  pub spaces_length : (j i : ℕ) → length (spaces_to e table j i) ≡ suc j
  spaces_length zero i = refl
  spaces_length (suc j) i = length_snoc (spaces_to e table j (row_at e table i).from) (row_at e table i).last ∙ ap suc (spaces_length j (row_at e table i).from)

  -- the witness of a row from that of the row before
  pub path_bytes : (j i : ℕ) → j < 24 →
      set (set (row_bytes (path_to e table j (row_at e table i).from)) j (row_at e table i).width) (25 + j) (row_at e table i).last ≡ row_bytes (path_to e table (suc j) i)
  path_bytes j i h =
      let p = (row_at e table i).from in
      row_more (widths_to e table j p) (spaces_to e table j p) j (row_at e table i).width (row_at e table i).last (widths_length j p) (spaces_length j p) h
