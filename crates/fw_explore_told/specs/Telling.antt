-- What is told of the entries that moves and lines wrote, and of movers that were not carried out.
use Rattle.std.specs.Prelude.{ℕ, zero, suc, ◌+◌, ◌==◌, ◌||◌, List, [], ◌∷◌, ◌++◌, Bool, true, false, codes, if◌then◌else◌}
use Rattle.std.specs.List.{filter, flat_map, list_any}
use Rattle.fw_log_entry.specs.declared.entry.Entry.{Entry}
use Rattle.fw_log_entry.specs.declared.entry.Entry.TheVariants.{Event, Outcome, Shown}
use Rattle.fw_log_entry.specs.declared.entry.Timed.{Timed}
use Rattle.fw_log_entry.specs.declared.codes.TheConstants.{NO_DEVICE}
use Rattle.fw_log_entry.specs.declared.codes.event.TheConstants.{ELECTED, DEFEATED}
use Rattle.fw_log_explain.specs.Lines.{what_text}
use Rattle.fw_explore_movers.specs.declared.mover.Mover.{Mover}
use Rattle.fw_explore_movers.specs.declared.mover.MoverKind.TheVariants.{HalfSteps, Once}
use Rattle.fw_explore_movers.specs.declared.mover.Explored.{Explored}

-- a text on a line of its own, after the mark of a skipped line
abbrev pub remark : List ℕ → List ℕ
remark text = codes "# " ++ text ++ 10 ∷ []

-- how a candidate contended
abbrev pub is_of_bid : ℕ → Bool
is_of_bid code = (code == ELECTED) || (code == DEFEATED)

-- an entry is told of the controller of this device
abbrev pub is_of_controller : ℕ → Entry → Bool
is_of_controller d (Event e) = if is_of_bid e.code then false else e.device == d
is_of_controller d (Outcome o) = o.device == d
is_of_controller d _ = false

-- and of its bids
abbrev pub is_of_candidate : ℕ → Entry → Bool
is_of_candidate d (Event e) = if is_of_bid e.code then e.device == d else false
is_of_candidate d _ = false

-- an entry shows a word
abbrev pub is_shown : Entry → Bool
is_shown (Shown s) = true
is_shown _ = false

-- the entries that pass, in their order, a line each, as `explain` has them but for their cycle
abbrev pub told_by : (Entry → Bool) → List Timed → List ℕ
told_by test out = flat_map (λ t. remark (what_text [] t.what)) (filter (λ t. test t.what) out)

-- the devices below a number, in order of declaration: of each what befell its controller, and then its bids
unfoldable pub told_of : ℕ → List Timed → List ℕ
told_of zero out = []
told_of (suc d) out = told_of d out ++ told_by (is_of_controller d) out ++ told_by (is_of_candidate d) out

-- What is told of entries: by device, then the events without one, then the shown words. Packets and bus resets are not told.
abbrev pub told : List Timed → List ℕ
told out = told_of 63 out ++ told_by (is_of_controller NO_DEVICE) out ++ told_by is_shown out

-- ---- movers that were not carried out

-- the mover at a place, if it is a line that the moves do not have
abbrev pub left_of : ℕ → List ℕ → Mover → List ℕ
left_of p w m = elim m.kind [ HalfSteps ↦ [] | Once ↦ if list_any (λ q. q == p) w then [] else remark (codes "not carried out: " ++ m.line.items) ]

-- those from a place on
unfoldable pub left_from : ℕ → List ℕ → List Mover → List ℕ
left_from p w [] = []
left_from p w (m ∷ movers) = left_of p w m ++ left_from (p + 1) w movers

-- those of all movers, in the order of the words
abbrev pub left_out : Explored → List ℕ → List ℕ
left_out x w = left_from 0 w x.movers.items
