-- The lines of a sheet as they are put together, number by number. Assumes nothing.
use Rattle.std.proofs.Common.{◌≡◌, ℕ, ◌+◌, ◌<◌, List, [], ◌∷◌, ◌++◌, length, get_or, map, take, decimal, append_assoc, sym, ap, ◌∙◌}
use Rattle.std.proofs.lemmas.List.{append-nil, take_more, map-append}
use Rattle.text.specs.Cuts.{led_by}

-- one part more, led by its comma
led_more : (fs : List (List ℕ)) (f : List ℕ) → led_by 44 (fs ++ (f ∷ [])) ≡ led_by 44 fs ++ (44 ∷ f)
led_more [] f = ap (λ x. 44 ∷ x) (append-nil f)
led_more (g ∷ gs) f = ap (λ x. 44 ∷ (g ++ x)) (led_more gs f) ∙ ap (λ x. 44 ∷ x) (sym (append_assoc g (led_by 44 gs) (44 ∷ f)))

-- a line of one number more
pub number_more : (l w : List ℕ) (ns : List ℕ) (i : ℕ) → i < length ns → l ≡ w ++ led_by 44 (map decimal (take i ns))
    → l ++ (44 ∷ decimal (get_or ns i 0)) ≡ w ++ led_by 44 (map decimal (take (i + 1) ns))
number_more l w ns i h e =
    let m : map decimal (take (i + 1) ns) ≡ map decimal (take i ns) ++ (decimal (get_or ns i 0) ∷ []) =
    ap (map decimal) (take_more ns i 0 h) ∙ map-append decimal (take i ns) (get_or ns i 0 ∷ []) in
    ap (λ x. x ++ (44 ∷ decimal (get_or ns i 0))) e
    ∙ (append_assoc w (led_by 44 (map decimal (take i ns))) (44 ∷ decimal (get_or ns i 0))
    ∙ ap (λ x. w ++ x) (sym (ap (led_by 44) m ∙ led_more (map decimal (take i ns)) (decimal (get_or ns i 0)))))
