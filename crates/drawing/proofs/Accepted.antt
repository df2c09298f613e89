-- An accepted edit of a sound plan leaves it sound. Assumes nothing.
use Rattle.std.proofs.Common.{◌≡◌, ℕ, ◌+◌, ◌<◌, ◌≤◌, Bool, true, false, cond, length, set, Ok, Err, refl, ap, ◌∙◌, arith}
use Rattle.std.specs.List.{insert, remove}
use Rattle.std.proofs.lemmas.List.Edits.{length-insert, length-remove}
use Rattle.std.proofs.lemmas.List.{length-set}
use Rattle.std.proofs.lemmas.Bool.{leb-false, ltb-false, not_from_false}
use Rattle.drawing.specs.declared.words.Grid.{Grid}
use Rattle.drawing.specs.declared.words.Wire.{Wire}
use Rattle.drawing.specs.declared.refusals.Refusal.{Refusal}
use Rattle.drawing.specs.declared.words.Edit.{Edit}
use Rattle.drawing.specs.declared.words.Edit.TheVariants.{Insert, Remove, Replace, SetGrid, SetChannel}
use Rattle.drawing.specs.Plans.{Plan, Sound, over_limit, within_limits, too_narrow}
use Rattle.drawing.specs.Edits.{Reply, edit_reply, made}
use Rattle.drawing.proofs.Fits.{fewer_fit}
use Rattle.drawing.proofs.Lists.{all_inserted, all_removed, all_set}

-- a test that did not refuse
pub passed : (b : Bool) (why : Refusal) (go : Reply) → cond b (Err why) go ≡ Ok tt → (b ≡ false) × (go ≡ Ok tt)
passed true why go e = let z : ◌≡◌ {A = ℕ} 0 1 = cc in absurd (omega arith)
passed false why go e = (refl, e)

-- a wire within its limits, inserted where there is room
pub sound_insert : (p : Plan) (i : ℕ) (w : Wire) → Sound p → i ≤ length p.wires → over_limit w ≡ false → length p.wires < 24
    → too_narrow p.grid p.channel (length p.wires + 1) ≡ false → Sound (made p (Insert i w))
sound_insert p i w s le limit few fit =
    let l : length (insert p.wires i w) ≡ length p.wires + 1 = length-insert p.wires i w le in
    record {
      gridded = s.gridded;
      channelled = s.channelled;
      few = omega arith;
      limited = all_inserted within_limits p.wires i w s.limited (not_from_false (over_limit w) limit);
      fitting = ap (too_narrow p.grid p.channel) l ∙ fit;
    }

-- a wire removed
pub sound_remove : (p : Plan) (i : ℕ) → Sound p → i < length p.wires → Sound (made p (Remove i))
sound_remove p i s lt =
    let l : length (remove p.wires i) + 1 ≡ length p.wires = length-remove p.wires i lt in
    let few = s.few in
    record {
      gridded = s.gridded;
      channelled = s.channelled;
      few = omega arith;
      limited = all_removed within_limits p.wires i s.limited;
      fitting = fewer_fit p.grid p.channel (length (remove p.wires i)) (length p.wires) (omega arith) s.fitting;
    }

-- a wire within its limits, put in place of another
pub sound_replace : (p : Plan) (i : ℕ) (w : Wire) → Sound p → i < length p.wires → over_limit w ≡ false → Sound (made p (Replace i w))
sound_replace p i w s lt limit =
    let l : length (set p.wires i w) ≡ length p.wires = length-set p.wires i w in
    let few = s.few in
    record {
      gridded = s.gridded;
      channelled = s.channelled;
      few = omega arith;
      limited = all_set within_limits p.wires i w lt s.limited (not_from_false (over_limit w) limit);
      fitting = ap (too_narrow p.grid p.channel) l ∙ s.fitting;
    }

-- an accepted insertion: its place is there, and the plan stays sound
pub accepted_insert : (p : Plan) (i : ℕ) (w : Wire) → Sound p → edit_reply p (Insert i w) ≡ Ok tt
    → (i ≤ length p.wires) × Sound (made p (Insert i w))
accepted_insert p i w s ok =
    let placed = passed _ _ _ ok in
    let limit = passed _ _ _ placed.1 in
    let room = passed _ _ _ limit.1 in
    let wide = passed _ _ _ room.1 in
    let le : i ≤ length p.wires = ltb-false (length p.wires) i placed.0 in
    (le, sound_insert p i w s le limit.0 (leb-false 24 (length p.wires) room.0) wide.0)

-- an accepted removal
pub accepted_remove : (p : Plan) (i : ℕ) → Sound p → edit_reply p (Remove i) ≡ Ok tt → (i < length p.wires) × Sound (made p (Remove i))
accepted_remove p i s ok =
    let lt : i < length p.wires = leb-false (length p.wires) i (passed _ _ _ ok).0 in
    (lt, sound_remove p i s lt)

-- an accepted replacement
pub accepted_replace : (p : Plan) (i : ℕ) (w : Wire) → Sound p → edit_reply p (Replace i w) ≡ Ok tt
    → (i < length p.wires) × Sound (made p (Replace i w))
accepted_replace p i w s ok =
    let placed = passed _ _ _ ok in
    let lt : i < length p.wires = leb-false (length p.wires) i placed.0 in
    (lt, sound_replace p i w s lt (passed _ _ _ placed.1).0)

-- an accepted change of the grid
pub accepted_grid : (p : Plan) (grid : Grid) → Sound p → edit_reply p (SetGrid grid) ≡ Ok tt → Sound (made p (SetGrid grid))
accepted_grid p grid s ok =
    let good = passed _ _ _ ok in
    record { gridded = good.0; channelled = s.channelled; few = s.few; limited = s.limited; fitting = (passed _ _ _ good.1).0 }

-- an accepted change of the channel
pub accepted_channel : (p : Plan) (channel : ℕ) → Sound p → edit_reply p (SetChannel channel) ≡ Ok tt → Sound (made p (SetChannel channel))
accepted_channel p channel s ok =
    let good = passed _ _ _ ok in
    record { gridded = s.gridded; channelled = good.0; few = s.few; limited = s.limited; fitting = (passed _ _ _ good.1).0 }

-- every accepted edit leaves a sound plan sound
pub accepted : (p : Plan) (e : Edit) → Sound p → edit_reply p e ≡ Ok tt → Sound (made p e)
accepted p (Insert i w) s ok = (accepted_insert p i w s ok).1
accepted p (Remove i) s ok = (accepted_remove p i s ok).1
accepted p (Replace i w) s ok = (accepted_replace p i w s ok).1
accepted p (SetGrid grid) s ok = accepted_grid p grid s ok
accepted p (SetChannel channel) s ok = accepted_channel p channel s ok
