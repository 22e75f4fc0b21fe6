-- Notices of changes: which kept request is told next, and what it is told.
use Rattle.std.specs.Prelude.{ℕ, ◌==◌, ◌&&◌, not, Bool, List, [], ◌∷◌, find, Option, if◌then◌else◌}
use Rattle.std.specs.Option.{option_map}
use Rattle.fw_fcp.specs.declared.frame.Frame.{Frame}
use Rattle.fw_avc.specs.declared.notify.Watched.{Watched}
use Rattle.fw_avc.specs.declared.notify.Watched.TheVariants.{Power, Transport}
use Rattle.fw_avc.specs.declared.notify.Kept.{Kept}
use Rattle.fw_avc.specs.State.{UnitState, now_of}
use Rattle.fw_avc.specs.Watched.{codes_of}

-- values differ if a response shows them differently
abbrev pub same_value : Watched → Watched → Bool
same_value v w = ((codes_of v).0 == (codes_of w).0) && ((codes_of v).1 == (codes_of w).1)

-- the state has changed since the request was told of it
abbrev pub is_changed : UnitState → Kept → Bool
is_changed u k = not (same_value k.value (now_of u k.value))

-- CHANGED from the address of the state, as a status response shows it
abbrev pub changed_frame : Watched → Frame
changed_frame (Power on) = record { code = 0xD; kind = 31; id = 7; opcode = (codes_of (Power on)).0; operands = (codes_of (Power on)).1 ∷ [] }
changed_frame (Transport t) = record { code = 0xD; kind = 4; id = 0; opcode = (codes_of (Transport t)).0; operands = (codes_of (Transport t)).1 ∷ [] }

-- a node and the frame that is sent to it
abbrev pub told : UnitState → Kept → ℕ × Frame
told u k = (k.node, changed_frame (now_of u k.value))

-- the first request whose state has changed
abbrev pub notice_of : UnitState → Option (ℕ × Frame)
notice_of u = option_map (told u) (find (is_changed u) u.kept)

-- a list without its first element that passes
unfoldable pub without_first : (Kept → Bool) → List Kept → List Kept
without_first passes [] = []
without_first passes (k ∷ ks) = if passes k then ks else k ∷ without_first passes ks

-- the request that is told is no longer kept
abbrev pub after_notice : UnitState → UnitState
after_notice u = record u { kept = without_first (is_changed u) u.kept }
