-- AV/C frames (AV/C General 3.0, frames): one byte each of transaction set and code, of address, and of opcode; then the operands.
use Rattle.std.specs.Prelude.{◌≡◌, ℕ, ◌/◌, ◌%◌, ◌<◌, ◌==◌, ◌||◌, nat_lt, Bool, false, List, [], ◌∷◌, length, slice_index, Option, Some, None, if◌then◌else◌}
use Rattle.fw_words.specs.Layout.{packed}
use Rattle.fw_fcp.specs.declared.FrameFault.{FrameFault}
use Rattle.fw_fcp.specs.declared.FrameFault.TheVariants.{Short, NotAvc, ReservedType}
use Rattle.fw_fcp.specs.declared.frame.Frame.{Frame}

-- the command types and response codes that the standard reserves
abbrev pub is_reserved : ℕ → Bool
is_reserved code = (code == 5) || (code == 6) || (code == 7) || (code == 0xE)

-- the frame has a spelling
pub record Fits (f : Frame) : Type 0 where
  pub code : f.code < 16
  pub known : is_reserved f.code ≡ false
  pub kind : f.kind < 32
  pub id : f.id < 8

-- the command transaction set, which is 0 for AV/C, and the code; the address, a subunit type and a subunit ID; the opcode
abbrev pub spelling : Frame → List ℕ
spelling f = packed ((4, 0) ∷ (4, f.code) ∷ []) 0 ∷ packed ((5, f.kind) ∷ (3, f.id) ∷ []) 0 ∷ f.opcode ∷ f.operands

-- the first fault that holds of the bytes
abbrev pub frame_fault : List ℕ → Option FrameFault
frame_fault bytes =
    let first = slice_index bytes 0 in
    if nat_lt (length bytes) 3 then Some Short
    else if nat_lt 0 (first / 16) then Some (NotAvc (first / 16))
    else if is_reserved (first % 16) then Some (ReservedType (first % 16))
    else None
