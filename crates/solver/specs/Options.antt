-- The first of two values by a test of them. Assumes nothing.
use Rattle.std.specs.Prelude.{◌≡◌, Bool, cond, Some, None, Option}

-- the one there is, or the first where the test says that it comes no later than the second
abbrev pub FirstOf : {T : Type 0} → (T → T → Bool → Type 0) → Option T → Option T → Option T → Type 0
FirstOf post None b r = r ≡ b
FirstOf post (Some x) None r = r ≡ Some x
FirstOf post (Some x) (Some y) r = (t : Bool) × post x y t × (r ≡ cond t (Some x) (Some y))
