-- A bundle of bare wires has the same lawful allocations. Assumes nothing.
use Rattle.std.proofs.Common.{◌≡◌, ℕ, suc, true, ◌&&◌, List, [], ◌∷◌, map, length, sym, refl, ap, ◌∙◌}
use lib.ListN.{length-map}
use Rattle.drawing.specs.declared.words.Wire.{Wire}
use Rattle.drawing.specs.Lists.{all}
use Rattle.drawing.specs.Plans.{Plan}
use Rattle.pricing.specs.Allocations.{Allocation, Book, admits_laid, lay, lay_between, lawful}
use Rattle.pricing.specs.Measures.{Measure}
use Rattle.frontier.specs.Points.{point_of, prices}
use Rattle.frontier.specs.Bare.{unit_measure, no_wire, bare, BareNone}
use Rattle.frontier.proofs.Members.{empty_of, none_in}
use Rattle.frontier.proofs.Allocations.{parts, whole}
use Rattle.frontier.proofs.OneCurve.{prices_in, prices_make}

module _ (book : Book) where
  -- the book asks the same of wires of noughts
  lay_bare : (qs : List Wire) (ws : List ℕ) (l : ℕ) (ss : List ℕ) → all (admits_laid book) (lay qs ws l ss) ≡ all (admits_laid book) (lay (map (λ q. no_wire) qs) ws l ss)
  lay_bare [] ws l ss = refl
  lay_bare (q ∷ qs) [] l ss = refl
  lay_bare (q ∷ qs) (w ∷ ws) l [] = refl
  lay_bare (q ∷ qs) (w ∷ ws) l (r ∷ ss) = ap (λ b. book l w r && b) (lay_bare qs ws r ss)

  -- the same, where the first of the spaces stands before the wires
  laid_bare : (qs : List Wire) (ws ss : List ℕ) → all (admits_laid book) (lay_between qs ws ss) ≡ all (admits_laid book) (lay_between (map (λ q. no_wire) qs) ws ss)
  laid_bare qs ws [] = refl
  laid_bare qs ws (l ∷ ss) = lay_bare qs ws l ss

  module _ (d : Plan) (x : Allocation) where
    -- there are as many wires of noughts
    same_length : length (map (λ q. no_wire) d.wires) ≡ length d.wires
    same_length = length-map d.wires (λ q. no_wire)

    -- what is lawful is lawful of the bare plan
    pub to_bare : lawful book d x ≡ true → lawful book (bare d) x ≡ true
    to_bare t =
        let p = parts book d x t in
        whole book (bare d) x (record {
          widths_count = p.widths_count ∙ sym same_length;
          spaces_count = p.spaces_count ∙ ap suc (sym same_length);
          widths_in = p.widths_in;
          spaces_in = p.spaces_in;
          admits = sym (laid_bare d.wires x.widths x.spaces) ∙ p.admits;
          room = p.room;
        })

    -- and the other way
    pub from_bare : lawful book (bare d) x ≡ true → lawful book d x ≡ true
    from_bare t =
        let p = parts book (bare d) x t in
        whole book d x (record {
          widths_count = p.widths_count ∙ same_length;
          spaces_count = p.spaces_count ∙ ap suc same_length;
          widths_in = p.widths_in;
          spaces_in = p.spaces_in;
          admits = laid_bare d.wires x.widths x.spaces ∙ p.admits;
          room = p.room;
        })

-- so none is lawful of the one exactly where none is of the other
pub bare_none_holds : {V : Type 0} (m : Measure V) (book : Book) (d : Plan) → BareNone m book d
bare_none_holds m book d = (
  (λ e. empty_of (prices unit_measure book (bare d)) (λ p i.
      let a = prices_in unit_measure book (bare d) i in
      none_in (prices m book d) e (prices_make m book d a.0 {p = point_of m d.wires a.0} (from_bare book d a.0 a.1) refl))),
  λ e. empty_of (prices m book d) (λ p i.
      let a = prices_in m book d i in
      none_in (prices unit_measure book (bare d)) e (prices_make unit_measure book (bare d) a.0 {p = point_of unit_measure (bare d).wires a.0} (to_bare book d a.0 a.1) refl)),
)
