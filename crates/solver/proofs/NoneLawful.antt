-- That nothing is lawful, as a test on lists. Assumes nothing.
use Rattle.std.proofs.Common.{◌≡◌, Bool, true, false, not, List, [], ◌∷◌, map, sym, refl, ap, ◌∙◌, subst}
use mathlib.Core.List.Memᴰ
use Rattle.drawing.specs.Plans.{Plan}
use Rattle.pricing.specs.Allocations.{Allocation, Book, lawful}
use Rattle.pricing.specs.Measures.{Measure}
use Rattle.frontier.specs.Lists.{◌∈◌}
use Rattle.frontier.specs.Points.{allocations, lawful_allocations, point_of, prices}
use Rattle.frontier.specs.Refusals.{none_of}
use Rattle.frontier.proofs.Members.{keep_in, keep_make, none_in}
use Rattle.frontier.proofs.Allocations.{lawful_listed}

-- an answer that is yes exactly where an allocation is lawful tells whether one is listed
pub listed_exactly : (book : Book) (d : Plan) (r : Bool) → (r ≡ true → (x : Allocation) × (lawful book d x ≡ true)) →
    ((x : Allocation) → lawful book d x ≡ true → r ≡ true) → r ≡ not (none_of (lawful_allocations book d))
listed_exactly book d r found each = go (lawful_allocations book d) refl
  where
    empty : (b : Bool) → r ≡ b → lawful_allocations book d ≡ [] → b ≡ false
    empty true h e =
        let a = found h in
        absurd (none_in (lawful_allocations book d) e (keep_make (lawful book d) (lawful_listed book d a.0 a.1) a.1))
    empty false h e = refl

    go : (xs : List Allocation) → lawful_allocations book d ≡ xs → r ≡ not (none_of xs)
    go [] e = empty r refl e
    go (x ∷ xs) e = each x (keep_in (lawful book d) (allocations d) (subst (λ (z : List Allocation). x ∈ z) (sym e) (Memᴰ.head refl))).1

-- a mapped list has nothing in it where the list has nothing in it
none_of_map : {A B : Type 0} (f : A → B) (xs : List A) → none_of (map f xs) ≡ none_of xs
none_of_map f [] = refl
none_of_map f (x ∷ xs) = refl

-- no price is listed where no allocation is
pub none_priced : {V : Type 0} (m : Measure V) (book : Book) (d : Plan) → none_of (prices m book d) ≡ none_of (lawful_allocations book d)
none_priced m book d = none_of_map (point_of m d.wires) (lawful_allocations book d)

-- a test turned twice
not_not : (b : Bool) → not (not b) ≡ b
not_not true = refl
not_not false = refl

-- an answer that tells whether an allocation is listed tells whether a price is
pub none_priced_where : {V : Type 0} (m : Measure V) (book : Book) (d : Plan) (r : Bool) → r ≡ not (none_of (lawful_allocations book d)) →
    none_of (prices m book d) ≡ not r
none_priced_where m book d r h = none_priced m book d ∙ sym (not_not (none_of (lawful_allocations book d))) ∙ ap not (sym h)
