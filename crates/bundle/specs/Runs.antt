-- Runs of changes. Assumes nothing.
use Rattle.std.specs.Prelude.{List, [], ◌∷◌}
use Rattle.drawing.specs.Plans.{Plan}
use Rattle.drawing.specs.Edits.{Reply}
use Rattle.bundle.specs.declared.changes.Change.{Change}
use Rattle.bundle.specs.History.{History, history_plan, history_reply, history_after}

-- the history after some changes
abbrev pub history_after_all : History → List Change → History
history_after_all h [] = h
history_after_all h (c ∷ cs) = history_after_all (history_after h c) cs

-- the replies to some changes
abbrev pub history_replies : History → List Change → List Reply
history_replies h [] = []
history_replies h (c ∷ cs) = history_reply h c ∷ history_replies (history_after h c) cs

-- what the history shows after each of some changes
abbrev pub history_plans : History → List Change → List Plan
history_plans h [] = []
history_plans h (c ∷ cs) = history_plan (history_after h c) ∷ history_plans (history_after h c) cs
