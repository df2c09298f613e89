-- A timeline in memory, and what a change makes of the view that it holds. Assumes nothing.
use Rattle.std.proofs.Common.{◌≡◌, ℕ, suc, ◌+◌, ◌-◌, ◌<◌, ◌≤◌, List, [], ◌∷◌, ◌++◌, map, length, get_or, take, drop, set, sym, refl, ap, ◌∙◌, subst, add-one, arith}
use Rattle.std.proofs.lemmas.List.{map-set, get_or-map, length-append, length-drop, length-map, take-set, take-take, take_all, take_at, get_or-take, get_or_default, take_more_set, drop_more, drop-set, drop-set-lt, drop-append-le, length-take-le, take-map, drop-map, map_push}
use Rattle.drawing.specs.declared.drawings.Drawing.{Drawing}
use Rattle.drawing.specs.declared.words.Edit.{Edit}
use Rattle.drawing.specs.Plans.{Plan}
use Rattle.drawing.specs.Edits.{made}
use Rattle.drawing.specs.Shown.{plan_of}
use Rattle.bundle.specs.declared.changes.Change.TheVariants.{Make, Undo, Redo}
use Rattle.bundle.specs.Views.{View, view_of, view_moved}

-- views with the same three parts
same_view : (p q : Plan) (es fs ls ms : List Plan) → p ≡ q → es ≡ fs → ls ≡ ms
    → ◌≡◌ {A = View} (record { plan = p; earlier = es; later = ls }) (record { plan = q; earlier = fs; later = ms })
same_view p q es fs ls ms a b c = cc

-- as many earlier drawings as undo reaches
pub earlier_count : (line : List Plan) (reach undone : ℕ) → reach + undone ≤ length line → length (take reach line) ≡ reach
earlier_count line reach undone le = length-take-le reach line (omega arith)

-- as many later drawings as edits are undone
pub later_count : (line : List Plan) (reach undone : ℕ) → reach + undone ≤ length line → length (take undone (drop reach line)) ≡ undone
later_count line reach undone le =
    let l = length-drop reach line in
    length-take-le undone (drop reach line) (omega arith)

-- the drawing exchanged with the last earlier one
undo_plans : (p : Plan) (line : List Plan) (reach undone : ℕ) (d : Plan) → 0 < reach → reach + undone ≤ length line
    → view_of (get_or line (reach - 1) d) (set line (reach - 1) p) (reach - 1) (undone + 1) ≡ view_moved (view_of p line reach undone) Undo
undo_plans p line reach undone d lt le =
    let lr = earlier_count line reach undone le in
    let kl : reach - 1 < length line = omega arith in
    let kr : reach - 1 < reach = omega arith in
    let up : reach ≡ reach - 1 + 1 = omega arith in
    same_view _ _ _ _ _ _
    (get_or_default line (reach - 1) d p kl ∙ sym (get_or-take reach line (reach - 1) p kr) ∙ ap (λ z. get_or (take reach line) (z - 1) p) (sym lr))
    (take-set line (reach - 1) p ∙ sym (take-take (reach - 1) reach line (omega arith)) ∙ ap (λ z. take (z - 1) (take reach line)) (sym lr))
    (ap (take (undone + 1)) (drop-set line (reach - 1) p kl)
    ∙ ap (λ z. take z (p ∷ drop (reach - 1 + 1) line)) (add-one undone)
    ∙ ap (λ z. p ∷ take undone (drop z line)) (sym up))

-- the drawing exchanged with the first later one
redo_plans : (p : Plan) (line : List Plan) (reach undone : ℕ) (d : Plan) → 0 < undone → reach + undone ≤ length line
    → view_of (get_or line reach d) (set line reach p) (reach + 1) (undone - 1) ≡ view_moved (view_of p line reach undone) Redo
redo_plans p line reach undone d lt le =
    let kl : reach < length line = omega arith in
    let rl : reach < reach + 1 = omega arith in
    let un : undone ≡ suc (undone - 1) = omega arith in
    let c : take undone (drop reach line) ≡ get_or line reach p ∷ take (undone - 1) (drop (reach + 1) line) =
    ap (take undone) (drop_more line reach p kl) ∙ ap (λ z. take z (get_or line reach p ∷ drop (reach + 1) line)) un in
    same_view _ _ _ _ _ _
    (get_or_default line reach d p kl ∙ sym (ap (λ (z : List Plan). get_or z 0 p) c))
    (take_more_set line reach p kl)
    (ap (take (undone - 1)) (drop-set-lt (reach + 1) line reach p rl) ∙ sym (ap (drop 1) c))

-- an undo in memory
pub undo_line : (now : Drawing) (line : List Drawing) (reach undone : ℕ) (d : Drawing) → 0 < reach → reach + undone ≤ length line
    → view_of (plan_of (get_or line (reach - 1) d)) (map plan_of (set line (reach - 1) now)) (reach - 1) (undone + 1)
    ≡ view_moved (view_of (plan_of now) (map plan_of line) reach undone) Undo
undo_line now line reach undone d lt le =
    let lm = length-map line plan_of in
    let kl : reach - 1 < length line = omega arith in
    ap (λ (z : Plan). view_of z (map plan_of (set line (reach - 1) now)) (reach - 1) (undone + 1)) (sym (get_or-map plan_of line (reach - 1) d (plan_of d) kl))
    ∙ ap (λ (z : List Plan). view_of (get_or (map plan_of line) (reach - 1) (plan_of d)) z (reach - 1) (undone + 1)) (map-set plan_of line (reach - 1) now)
    ∙ undo_plans (plan_of now) (map plan_of line) reach undone (plan_of d) lt (omega arith)

-- a redo in memory
pub redo_line : (now : Drawing) (line : List Drawing) (reach undone : ℕ) (d : Drawing) → 0 < undone → reach + undone ≤ length line
    → view_of (plan_of (get_or line reach d)) (map plan_of (set line reach now)) (reach + 1) (undone - 1)
    ≡ view_moved (view_of (plan_of now) (map plan_of line) reach undone) Redo
redo_line now line reach undone d lt le =
    let lm = length-map line plan_of in
    let kl : reach < length line = omega arith in
    ap (λ (z : Plan). view_of z (map plan_of (set line reach now)) (reach + 1) (undone - 1)) (sym (get_or-map plan_of line reach d (plan_of d) kl))
    ∙ ap (λ (z : List Plan). view_of (get_or (map plan_of line) reach (plan_of d)) z (reach + 1) (undone - 1)) (map-set plan_of line reach now)
    ∙ redo_plans (plan_of now) (map plan_of line) reach undone (plan_of d) lt (omega arith)

-- an edit in memory
pub edit_line : (was then : Drawing) (line more : List Drawing) (reach on undone : ℕ) (e : Edit) → reach ≤ length line
    → plan_of then ≡ made (plan_of was) e
    → take on more ≡ drop (reach + 1 - 64) (take reach line ++ was ∷ [])
    → view_of (plan_of then) (map plan_of more) on 0 ≡ view_moved (view_of (plan_of was) (map plan_of line) reach undone) (Make e)
edit_line was then line more reach on undone e le is p =
    let lm = length-map line plan_of in
    let lr : length (take reach (map plan_of line)) ≡ reach = length-take-le reach (map plan_of line) (omega arith) in
    let q : take on (map plan_of more) ≡ drop (reach + 1 - 64) (take reach (map plan_of line) ++ plan_of was ∷ []) =
    take-map plan_of on more ∙ ap (map plan_of) p ∙ sym (drop-map plan_of (reach + 1 - 64) (take reach line ++ was ∷ []))
    ∙ ap (drop (reach + 1 - 64)) (map_push plan_of (take reach line) was ∙ ap (λ z. z ++ plan_of was ∷ []) (sym (take-map plan_of reach line))) in
    same_view _ _ _ _ _ _ is (q ∙ ap (λ z. drop (z + 1 - 64) (take reach (map plan_of line) ++ plan_of was ∷ [])) (sym lr)) refl

-- a full timeline turned left by one, and its last place written
full_line : {X : Type 0} (line turned : List X) (now : X) → length line ≡ 64 → turned ≡ drop 1 line ++ take 1 line
    → take 64 (set turned 63 now) ≡ drop 1 (take 64 line ++ now ∷ [])
full_line line turned now l e =
    let ld = length-drop 1 line in
    let lt = length-take-le 1 line (omega arith) in
    let la = length-append (drop 1 line) (take 1 line) in
    let ln : length turned ≡ 64 = ap length e ∙ omega arith in
    let all : take 64 line ≡ line = take_all 64 line (omega arith) in
    take_more_set turned 63 now (omega arith)
    ∙ ap (λ z. take 63 z ++ now ∷ []) e
    ∙ ap (λ z. z ++ now ∷ []) (take_at (drop 1 line) (take 1 line) 63 (omega arith))
    ∙ sym (drop-append-le 1 line (now ∷ []) (omega arith))
    ∙ ap (λ z. drop 1 (z ++ now ∷ [])) (sym all)

-- where all places are taken
pub keep_full : {X : Type 0} (line turned : List X) (now : X) (r : ℕ) → r ≡ 64 → length line ≡ 64 → turned ≡ drop 1 line ++ take 1 line
    → take 64 (set turned 63 now) ≡ drop (r + 1 - 64) (take r line ++ now ∷ [])
keep_full line turned now r e l t =
    subst (λ (r : ℕ). take 64 (set turned 63 now) ≡ drop (r + 1 - 64) (take r line ++ now ∷ [])) (sym e) (full_line line turned now l t)
