-- Only the rows of control commands change the tape.
use Rattle.std.proofs.Common.{◌≡◌, ◌≢◌, ℕ, List, [], ◌∷◌, Option, Some, None, Bool, true, false, IsTrue, ◌⊎◌, inl, inr, refl, sym, ◌∙◌, ap, arith, ◌==◌, if◌then◌else◌}
use Rattle.std.proofs.lemmas.Bool.{cases_eq}
use Rattle.std.proofs.lemmas.Bool.Decides.{nat_tests}
use Rattle.fw_fcp.specs.declared.frame.Frame.{Frame}
use Rattle.fw_fcp.specs.Tables.{row_of}
use Rattle.fw_tape.specs.declared.cassette.Cassette.{Cassette}
use Rattle.fw_tape.specs.declared.transport.Transport.{Transport}
use Rattle.fw_tape.specs.declared.transport.Transport.TheVariants.{Stop, Rewind, FastForward, Play, PlayPause, Reverse, ReversePause, Record, RecordPause}
use Rattle.fw_tape.specs.declared.row.TapeRow.{TapeRow}
use Rattle.fw_tape.specs.declared.row.TapeRow.TheVariants.{Eject, Enter, TransportState, TimeCode}
use Rattle.fw_tape.specs.Transports.{codes_of, same_state}
use Rattle.fw_tape.specs.Motion.{entered, first_frame, transport_of}
use Rattle.fw_tape.specs.Rows.{control_rows, rows_of}
use Rattle.fw_tape.specs.Commands.{response, row_response, row_after, tape_after}

-- a row of another command leaves the tape as it is
pub row_keeps : (t : Option Cassette) (code opcode : ℕ) (operands : List ℕ) (r : TapeRow) → code ≢ 0 → row_of (rows_of code) opcode operands ≡ Some r → row_after t (Some r) ≡ t
row_keeps None code opcode operands r other is = refl
row_keeps (Some c) code opcode operands TransportState other is = refl
row_keeps (Some c) code opcode operands TimeCode other is = refl
row_keeps (Some c) code opcode operands Eject other is = grind (arith, nat_tests)
row_keeps (Some c) code opcode operands (Enter t) other is = grind (arith, nat_tests)

kept_by_row : (t : Option Cassette) (f : Frame) (o : Option TapeRow) → (row_response t f o).code ≢ 9 → row_after t o ≡ t
kept_by_row None f o other = refl
kept_by_row (Some c) f None other = refl
kept_by_row (Some c) f (Some TransportState) other = refl
kept_by_row (Some c) f (Some TimeCode) other = refl
kept_by_row (Some c) f (Some Eject) other = absurd (other refl)
kept_by_row (Some c) f (Some (Enter t)) other = absurd (other refl)

control_response : (t : Option Cassette) (f : Frame) → f.code ≡ 0 → response t f ≡ row_response t f (row_of control_rows f.opcode f.operands)
control_response t f e = rw e refl

control_after : (t : Option Cassette) (f : Frame) → f.code ≡ 0 → tape_after t f ≡ row_after t (row_of control_rows f.opcode f.operands)
control_after t f e = rw e refl

pub asked_keeps : (t : Option Cassette) (f : Frame) → f.code ≢ 0 → tape_after t f ≡ t
asked_keeps t f other = grind (arith, nat_tests)

pub refused_keeps : (t : Option Cassette) (f : Frame) → (response t f).code ≢ 9 → tape_after t f ≡ t
refused_keeps t f other = go (cases_eq f.code 0)
  where
    go : (f.code ≡ 0) ⊎ (f.code ≢ 0) → tape_after t f ≡ t
    go (inr ne) = asked_keeps t f ne
    go (inl e) =
        let row = row_of control_rows f.opcode f.operands in
        control_after t f e ∙ kept_by_row t f row (λ nine. other (ap (λ r. r.code) (control_response t f e) ∙ nine))

-- states with the same codes are the same
state_at : ℕ → ℕ → Transport
state_at opcode operand =
    if opcode == 0xC4 then (if operand == 0x60 then Stop else if operand == 0x65 then Rewind else FastForward)
    else if opcode == 0xC2 then (if operand == 0x75 then Record else RecordPause)
    else if operand == 0x75 then Play else if operand == 0x7D then PlayPause else if operand == 0x65 then Reverse else ReversePause

state_of_codes : (t : Transport) → state_at (codes_of t).0 (codes_of t).1 ≡ t
unfolding state_at
state_of_codes Stop = refl
state_of_codes Rewind = refl
state_of_codes FastForward = refl
state_of_codes Play = refl
state_of_codes PlayPause = refl
state_of_codes Reverse = refl
state_of_codes ReversePause = refl
state_of_codes Record = refl
state_of_codes RecordPause = refl

pub same_codes : (t u : Transport) → IsTrue (same_state t u) → t ≡ u
same_codes t u same =
    let opcode : (codes_of t).0 ≡ (codes_of u).0 = grind (arith, nat_tests) in
    let operand : (codes_of t).1 ≡ (codes_of u).1 = grind (arith, nat_tests) in
    sym (state_of_codes t) ∙ ap (λ n. state_at n (codes_of t).1) opcode ∙ ap (λ n. state_at (codes_of u).0 n) operand ∙ state_of_codes u

entered_state : (t : Transport) (c : Cassette) → (entered t c).transport ≡ t
entered_state t c = go (same_state t c.transport) refl
  where
    go : (b : Bool) → same_state t c.transport ≡ b → (let d : Cassette = if b then c else record c { transport = t; start = first_frame t c; passed = 0 } in d.transport) ≡ t
    go true e = sym (same_codes t c.transport e)
    go false e = refl

pub enters : (c : Cassette) (f : Frame) (t : Transport) → f.code ≡ 0 → row_of control_rows f.opcode f.operands ≡ Some (Enter t) → transport_of (tape_after (Some c) f) ≡ t
enters c f t e row =
    ap transport_of (control_after (Some c) f e) ∙ ap (λ o. transport_of (row_after (Some c) o)) row ∙ entered_state t c

pub state_is_row : (t : Transport) → row_of control_rows (codes_of t).0 ((codes_of t).1 ∷ []) ≡ Some (Enter t)
state_is_row Stop = refl
state_is_row Rewind = refl
state_is_row FastForward = refl
state_is_row Play = refl
state_is_row PlayPause = refl
state_is_row Reverse = refl
state_is_row ReversePause = refl
state_is_row Record = refl
state_is_row RecordPause = refl
