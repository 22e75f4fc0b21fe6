-- The text of what is told of, in the order of the endings.
use Rattle.std.specs.Prelude.{ℕ, ◌≡◌, zero, suc, ◌+◌, List, [], ◌∷◌, ◌++◌, Bool, false, codes, slice_index_or, if◌then◌else◌}
use Rattle.std.specs.List.{filter, flat_map}
use Rattle.fw_log_entry.specs.declared.entry.Entry.{Entry}
use Rattle.fw_log_entry.specs.declared.entry.Entry.TheVariants.{Event, Outcome, Shown}
use Rattle.fw_log_entry.specs.declared.codes.TheConstants.{NO_DEVICE}
use Rattle.fw_log_explain.specs.Lines.{what_text}
use Rattle.fw_explore_movers.specs.declared.mover.Mover.{Mover}
use Rattle.fw_explore_movers.specs.declared.mover.MoverKind.TheVariants.{HalfSteps, Once}
use Rattle.fw_explore_movers.specs.declared.mover.Line.{Line}
use Rattle.fw_explore_told.specs.declared.past.ToldEntry.{ToldEntry}
use Rattle.fw_explore_told.specs.declared.past.ToldEntry.TheVariants as Tolds
use Rattle.fw_explore_told.specs.declared.telling.Whose.{Whose}
use Rattle.fw_explore_told.specs.declared.telling.Whose.TheVariants as Of
use Rattle.fw_explore_told.specs.Telling.{remark, is_of_controller, is_of_candidate, is_shown}

-- the entry of which is told
abbrev pub entry_of : ToldEntry → Entry
entry_of (Tolds.Event e) = Event e
entry_of (Tolds.Outcome o) = Outcome o
entry_of (Tolds.Shown s) = Shown s

-- its line
abbrev pub said_text : ToldEntry → List ℕ
said_text t = remark (what_text [] (entry_of t))

-- the lines of those that pass
abbrev pub said_by : (Entry → Bool) → List ToldEntry → List ℕ
said_by test said = flat_map said_text (filter (λ t. test (entry_of t)) said)

-- whose they are
abbrev pub test_of : Whose → Entry → Bool
test_of (Of.Controller d) = is_of_controller d
test_of (Of.Candidate d) = is_of_candidate d
test_of Of.Nobody = is_shown

-- it is told of neither the controller nor the candidate of a device
abbrev pub IsNotOf : ℕ → ToldEntry → Type 0
IsNotOf d t = (is_of_controller d (entry_of t) ≡ false) × (is_of_candidate d (entry_of t) ≡ false)

unfoldable pub said_of : ℕ → List ToldEntry → List ℕ
said_of zero said = []
said_of (suc d) said = said_of d said ++ said_by (is_of_controller d) said ++ said_by (is_of_candidate d) said

-- by device, then without one, then what was shown
abbrev pub said_all : List ToldEntry → List ℕ
said_all said = said_of 63 said ++ said_by (is_of_controller NO_DEVICE) said ++ said_by is_shown said

-- the line of a mover that is one, and is not marked
abbrev pub unmarked_by : Bool → Mover → List ℕ
unmarked_by done m = elim m.kind [ HalfSteps ↦ [] | Once ↦ if done then [] else remark (codes "not carried out: " ++ m.line.items) ]

-- by the place of the mover, and of all from a place on
abbrev pub unmarked : List Bool → ℕ → Mover → List ℕ
unmarked done p m = unmarked_by (slice_index_or done p false) m

unfoldable pub unmarked_from : List Bool → ℕ → List Mover → List ℕ
unmarked_from done p [] = []
unmarked_from done p (m ∷ movers) = unmarked done p m ++ unmarked_from done (p + 1) movers

-- lines as they stand in a script
abbrev pub lines_text : List Line → List ℕ
lines_text lines = flat_map (λ line. line.text.items ++ 10 ∷ []) lines
