-- One point more, with its witness. Assumes nothing.
use Rattle.std.proofs.Common.{◌≡◌, ℕ, zero, suc, ◌+◌, ◌-◌, ◌*◌, ◌<◌, ◌≤◌, List, [], ◌∷◌, ◌++◌, length, get_or, take, drop, set, replicate, sym, refl, ap, ◌∙◌, add-one, arith, length-append, length-drop, length-take, get_or-drop, take-suc, drop-drop, below_more}
use borrow.Rule.Slice.PartMut.{put_mid}
use lib.ListN.{length-replicate}
use Rattle.std.proofs.lemmas.List.{drop-replicate}
use Rattle.std.proofs.lemmas.Slice.{between_is, take-put_mid_below, drop-put_mid, between-put_mid}
use Rattle.frontier.specs.declared.records.Point.{Point}
use Rattle.frontier.specs.declared.records.State.{State}
use Rattle.frontier.specs.Orders.{blank_state}
use Rattle.solver.specs.Front.{row_at, point_in}
use Rattle.solver.specs.Strips.{row_bytes}
use Rattle.solver.specs.Trail.{widths_to, spaces_to, path_to}
use Rattle.frontier.specs.Orders.{blank_point}
use Rattle.solver.specs.Written.{HasWitness, Filled}
use Rattle.solver.proofs.Bytes.{padded, widths_length, spaces_length}

-- what is left of a list, and its first element
pub drop_head : {A : Type 0} (d : A) (xs : List A) (n : ℕ) (p : A) (rest : List A) → drop n xs ≡ p ∷ rest → (n < length xs) × (get_or xs n d ≡ p) × (drop (suc n) xs ≡ rest)
drop_head d [] zero p rest e = absurd (omega (arith, ap length e))
drop_head d [] (suc n) p rest e = absurd (omega (arith, ap length e))
drop_head d (x ∷ xs) zero p rest e = (omega arith, cc, cc)
drop_head d (x ∷ xs) (suc n) p rest e = let r = drop_head d xs n p rest e in (omega (arith, r.0), r.1, r.2)

-- nothing is left
pub drop_none : {A : Type 0} (xs : List A) (n : ℕ) → drop n xs ≡ [] → length xs ≤ n
drop_none [] n e = omega arith
drop_none (x ∷ xs) zero e = absurd (omega (arith, ap length e))
drop_none (x ∷ xs) (suc n) e = let r = drop_none xs n e in omega arith

-- the next place of a blanked list is written
push_blank : {A : Type 0} (b : A) (xs : List A) (k : ℕ) (x : A) → set (xs ++ replicate (suc k) b) (length xs) x ≡ (xs ++ (x ∷ [])) ++ replicate k b
push_blank b [] k x = refl
push_blank b (y ∷ ys) k x = ap (λ zs. y ∷ zs) (push_blank b ys k x)

module _ {V : Type 0} (e : V) (table : List (State V)) (first wires : ℕ) (F : List (Point V)) (slots room : ℕ) where
  -- nothing is written
  pub fill_start : Filled e table first wires F 0 slots room (replicate slots (blank_point e)) (replicate room 0)
  fill_start = record {
    within = omega arith;
    on_curve = let q : slots ≡ slots - 0 = omega arith in ap (λ z. replicate z (blank_point e)) q;
    long = length-replicate room 0;
    witness = λ i h. absurd (omega arith);
    rest_blank = let q : room ≡ room - 0 = omega arith in ap (λ z. replicate z 0) q;
  }

  -- a witness is 49 bytes
  row_long : (i : ℕ) → wires ≤ 24 → length (row_bytes (path_to e table wires i)) ≡ 49
  row_long i few =
      let ws = widths_to e table wires i in
      let ss = spaces_to e table wires i in
      let lw = widths_length e table wires i in
      let ls = spaces_length e table wires i in
      let x = ws ++ replicate (24 - length ws) 0 in
      let y = ss ++ replicate (25 - length ss) 0 in
      let a : length x ≡ 24 = padded 24 ws (omega arith) in
      let b : length y ≡ 25 = padded 25 ss (omega arith) in
      let q : length x + length y ≡ 49 = omega arith in
      length-append x y ∙ q

  module _ (n : ℕ) (points : List (Point V)) (strip strip' : List ℕ) (was : Filled e table first wires F n slots room points strip) (p : Point V) (more : n < length F) (is : get_or F n (blank_point e) ≡ p)
      (enough : length F ≤ slots) (wide : 49 * length F ≤ room) (few : wires ≤ 24)
      (slot : ℕ) (from : first ≤ slot) (to : slot < length table) (priced : point_in (row_at e table slot) ≡ p)
      (wrote : strip' ≡ take (49 * n) strip ++ (row_bytes (path_to e table wires slot) ++ drop (49 * n + 49) strip)) (kept : length strip' ≡ length strip) where
    -- the strip with its part replaced
    mid : strip' ≡ put_mid (49 * n) 49 strip (row_bytes (path_to e table wires slot))
    mid = wrote ∙ ap (λ z. take (49 * n) strip ++ (row_bytes (path_to e table wires slot) ++ z)) (sym (drop-drop 49 (49 * n) strip))

    -- the part is in the strip
    long_enough : 49 * n + 49 ≤ length strip
    long_enough = let l = was.long in omega arith

    -- one point and its witness more
    pub fill_more : Filled e table first wires F (n + 1) slots room (set points n p) strip'
    fill_more = record {
      within = omega arith;
      on_curve =
          let b = blank_point e in
          let k = slots - (n + 1) in
          let spare : slots - n ≡ suc k = omega arith in
          let front_long : length (take n F) ≡ n = simp length-take (omega arith) in
          let a : points ≡ take n F ++ replicate (suc k) b = was.on_curve ∙ ap (λ z. take n F ++ replicate z b) spare in
          let c : set (take n F ++ replicate (suc k) b) n p ≡ (take n F ++ (p ∷ [])) ++ replicate k b =
          ap (λ z. set (take n F ++ replicate (suc k) b) z p) (sym front_long) ∙ push_blank b (take n F) k p in
          let d : take (n + 1) F ≡ take n F ++ (p ∷ []) = (rw add-one (take-suc F n b more)) ∙ ap (λ z. take n F ++ (z ∷ [])) is in
          ap (λ z. set z n p) a ∙ c ∙ ap (λ z. z ++ replicate k b) (sym d);
      long = kept ∙ was.long;
      witness = below_more _ _ old new;
      rest_blank =
          let l = long_enough in
          let a : drop (49 * (n + 1)) strip' ≡ drop (49 * (n + 1)) strip =
          ap (drop (49 * (n + 1))) mid ∙ drop-put_mid (49 * n) 49 strip (row_bytes (path_to e table wires slot)) (49 * (n + 1)) (omega arith) (omega arith) (row_long slot few) in
          let q : 49 * (n + 1) ≡ 49 * n + 49 = omega arith in
          let r : room - 49 * n - 49 ≡ room - 49 * (n + 1) = omega arith in
          a ∙ ap (λ z. drop z strip) q ∙ sym (drop-drop 49 (49 * n) strip) ∙ ap (drop 49) was.rest_blank ∙ drop-replicate 49 (room - 49 * n) 0 ∙ ap (λ z. replicate z 0) r;
    }
      where
        -- a row of the strip, cut the other way
        part_at : (s : List ℕ) (i : ℕ) → take 49 (drop (49 * i) s) ≡ drop (49 * i) (take (49 * i + 49) s)
        part_at s i =
            let q : (49 * i + 49) - 49 * i ≡ 49 = omega arith in
            ap (λ z. take z (drop (49 * i) s)) (sym q) ∙ between_is s (49 * i) (49 * i + 49)

        -- the rows before are as they were
        old : (i : ℕ) → i < n → HasWitness e table first wires F strip' i
        old i h =
            let w = was.witness i h in
            let l = long_enough in
            let same : take (49 * i + 49) strip' ≡ take (49 * i + 49) strip =
            ap (take (49 * i + 49)) mid ∙ take-put_mid_below (49 * n) 49 strip (row_bytes (path_to e table wires slot)) (49 * i + 49) (omega arith) (omega arith) in
            record {
              slot = w.slot;
              from = w.from;
              to = w.to;
              priced = w.priced;
              bytes = part_at strip' i ∙ ap (drop (49 * i)) same ∙ sym (part_at strip i) ∙ w.bytes;
            }

        -- the row written
        new : HasWitness e table first wires F strip' n
        new =
            let l = long_enough in
            let q : 49 ≡ (49 * n + 49) - 49 * n = omega arith in
            record {
              slot = slot;
              from = from;
              to = to;
              priced = priced ∙ sym is;
              bytes = ap (λ z. take 49 (drop (49 * n) z)) mid ∙ ap (λ z. take z (drop (49 * n) (put_mid (49 * n) 49 strip (row_bytes (path_to e table wires slot))))) q
                  ∙ between-put_mid (49 * n) 49 strip (row_bytes (path_to e table wires slot)) (49 * n + 49) (omega arith) (row_long slot few ∙ q);
            }

module _ {V : Type 0} (e : V) (table rows : List (State V)) (first r : ℕ) (part : rows ≡ drop first table) (h : r < length rows) where
  -- a row stands in the table
  pub slot_in : first + r < length table
  slot_in = let l : length rows ≡ length table - first = ap length part ∙ length-drop first table in omega arith

  -- and is the same there
  pub slot_same : row_at e table (first + r) ≡ row_at e rows r
  slot_same = sym (ap (λ z. get_or z r (blank_state e)) part ∙ get_or-drop first table r (blank_state e))
