-- What the unit's rules say of a frame to its tape subunit that is refused, and of a NOTIFY request.
use Rattle.std.proofs.Common.{◌≡◌, ◌≢◌, ℕ, ◌≤◌, List, Bool, true, false, ◌&&◌, length, ◌==◌, Option, Some, None, cond, if◌then◌else◌, ◌⊎◌, inl, inr, refl, sym, ◌∙◌, ap, subst, arith}
use Rattle.std.specs.Prelude.{is_some}
use Rattle.std.specs.Option.{option_map}
use Rattle.std.proofs.lemmas.Bool.{cases_eq, false≢true}
use Rattle.fw_fcp.specs.declared.frame.Frame.{Frame}
use Rattle.fw_fcp.specs.Tables.{row_of, fits}
use Rattle.fw_tape.specs.Desks.{NoVendor}
use Rattle.fw_tape.specs.declared.row.TapeRow.{TapeRow}
use Rattle.fw_tape.specs.declared.row.TapeRow.TheVariants.{TransportState}
use Rattle.fw_tape.specs.declared.transport.Transport as Transports
use Rattle.fw_tape.specs.Motion.{transport_of}
use Rattle.fw_tape.specs.Rows as TapeRows
use Rattle.fw_avc.specs.declared.notify.Watched.TheVariants.{Transport}
use Rattle.fw_avc.specs.State.{UnitState}
use Rattle.fw_avc.specs.Replies.{OfTape, Repeat, CarryOut, IsResponse, ruling, found_ruling, asked, shows_state, state_after, unit_after}
use Rattle.fw_avc.proofs.TapeLaws.{to_tape, with_tape, is_to_tape}

-- the row that a frame to the tape subunit is
abbrev pub tape_row : Frame → Option TapeRow
tape_row f = row_of (TapeRows.rows_of f.code) f.opcode f.operands

pub found_as : (f : Frame) (o : Option TapeRow) (operands : List ℕ) (b : Bool) → b ≡ is_some o → o ≡ row_of (TapeRows.rows_of f.code) f.opcode operands → operands ≡ f.operands
    → b ≡ is_some (tape_row f)
found_as f o operands b is row same = is ∙ ap is_some (row ∙ ap (λ l. row_of (TapeRows.rows_of f.code) f.opcode l) same)

-- what is answered and left, as the rules say
abbrev pub IsRuled : UnitState → ℕ → Frame → Frame → UnitState → Type 0
IsRuled u from f r v = IsResponse NoVendor u f (ruling u f) r × (v ≡ unit_after u from f)

repeated : (u : UnitState) (from : ℕ) (f r : Frame) (code : ℕ) → ruling u f ≡ Repeat code → r ≡ record f { code = code } → IsRuled u from f r u
repeated u from f r code is same = (subst (λ x. IsResponse NoVendor u f x r) (sym is) same, ap (λ x. state_after u from f x) (sym is))

-- ---- without power

rejects : (u : UnitState) (f : Frame) (code : ℕ) (o : Option TapeRow) → is_some o ≡ true → found_ruling (with_tape false u.tape u) (to_tape code f) (option_map OfTape o) ≡ Repeat 0xA
rejects u f code None e = absurd (false≢true e)
rejects u f code (Some row) e = refl

rejected : (u : UnitState) (f : Frame) → f.kind ≡ 4 → f.id ≡ 0 → f.code ≤ 4 → is_some (tape_row f) ≡ true → ruling (with_tape false u.tape u) f ≡ Repeat 0xA
rejected u f kind id most is_row = go (cases_eq f.code 0) (cases_eq f.code 1) (cases_eq f.code 3) (cases_eq f.code 2)
  where
    row : (code : ℕ) → f.code ≡ code → is_some (row_of (TapeRows.rows_of code) f.opcode f.operands) ≡ true
    row code e = subst (λ n. is_some (row_of (TapeRows.rows_of n) f.opcode f.operands) ≡ true) e is_row

    by : (code : ℕ) → f.code ≡ code → ruling (with_tape false u.tape u) (to_tape code f) ≡ Repeat 0xA → ruling (with_tape false u.tape u) f ≡ Repeat 0xA
    by code e h = subst (λ (g : Frame). ruling (with_tape false u.tape u) g ≡ Repeat 0xA) (is_to_tape f code kind id e) h

    go : (f.code ≡ 0) ⊎ (f.code ≢ 0) → (f.code ≡ 1) ⊎ (f.code ≢ 1) → (f.code ≡ 3) ⊎ (f.code ≢ 3) → (f.code ≡ 2) ⊎ (f.code ≢ 2) → ruling (with_tape false u.tape u) f ≡ Repeat 0xA
    go (inl e) one three two = by 0 e (rejects u f 0 (row_of TapeRows.control_rows f.opcode f.operands) (row 0 e))
    go (inr zero) (inl e) three two = by 1 e (rejects u f 1 (row_of TapeRows.status_rows f.opcode f.operands) (row 1 e))
    go (inr zero) (inr one) (inl e) two = by 3 e (rejects u f 3 (row_of TapeRows.notify_rows f.opcode f.operands) (row 3 e))
    go (inr zero) (inr one) (inr three) (inl e) = absurd (false≢true (row 2 e))
    go (inr zero) (inr one) (inr three) (inr two) = let e : f.code ≡ 4 = omega arith in absurd (false≢true (row 4 e))

-- a row is rejected
pub unpowered : (u : UnitState) (from : ℕ) (f r : Frame) → f.kind ≡ 4 → f.id ≡ 0 → f.code ≤ 4 → u.power ≡ false → is_some (tape_row f) ≡ true → r ≡ record f { code = 0xA } → IsRuled u from f r u
unpowered u from f r kind id most power is_row same =
    repeated u from f r 0xA (subst (λ p. ruling (with_tape p u.tape u) f ≡ Repeat 0xA) (sym power) (rejected u f kind id most is_row)) same

-- ---- a NOTIFY request

-- one that is no row is not implemented
pub unknown : (u : UnitState) (from : ℕ) (f r : Frame) → f.kind ≡ 4 → f.id ≡ 0 → f.code ≡ 3 → is_some (tape_row f) ≡ false → r ≡ record f { code = 8 } → IsRuled u from f r u
unknown u from f r kind id notify no_row same = repeated u from f r 8
    (subst (λ (g : Frame). ruling u g ≡ Repeat 8) (is_to_tape f 3 kind id notify) (none (row_of TapeRows.notify_rows f.opcode f.operands) row)) same
  where
    row : is_some (row_of TapeRows.notify_rows f.opcode f.operands) ≡ false
    row = subst (λ n. is_some (row_of (TapeRows.rows_of n) f.opcode f.operands) ≡ false) notify no_row

    none : (o : Option TapeRow) → is_some o ≡ false → found_ruling u (to_tape 3 f) (option_map OfTape o) ≡ Repeat 8
    none None e = refl
    none (Some x) e = absurd (false≢true (sym e))

-- what is shown of the transport: four requests are kept at most
abbrev pub Shows : UnitState → Transports.Transport → ℕ → Frame → Frame → UnitState → Type 0
Shows u t from f r v =
    (r ≡ (if (f.code == 3) && (length u.kept == 4) then record f { code = 0xA } else shows_state f (Transport t)))
    × (v ≡ (if (f.code == 3) && (length u.kept == 4) then u else asked u from f (Transport t)))

notified : (u : UnitState) (from : ℕ) (f r : Frame) (v : UnitState) → is_some (row_of TapeRows.notify_rows f.opcode f.operands) ≡ true
    → Shows (with_tape true u.tape u) (transport_of u.tape) from (to_tape 3 f) r v
    → IsRuled (with_tape true u.tape u) from (to_tape 3 f) r v
notified u from f r v is_row h = subst Ruled (sym (row ((f.opcode == 0xD0) && fits (TapeRows.only 0x7F) f.operands) is_row)) (shown (length u.kept == 4) h)
  where
    on : UnitState
    on = with_tape true u.tape u

    g : Frame
    g = to_tape 3 f

    Ruled : Option TapeRow → Type 0
    Ruled o = IsResponse NoVendor on g (found_ruling on g (option_map OfTape o)) r × (v ≡ state_after on from g (found_ruling on g (option_map OfTape o)))

    row : (b : Bool) → is_some (cond b (Some TransportState) None) ≡ true → cond b (Some TransportState) None ≡ Some TransportState
    row true e = refl
    row false e = absurd (false≢true e)

    shown : (full : Bool) → (r ≡ cond full (record g { code = 0xA }) (shows_state g (Transport (transport_of u.tape)))) × (v ≡ cond full on (asked on from g (Transport (transport_of u.tape))))
        → IsResponse NoVendor on g (cond full (Repeat 0xA) (CarryOut (OfTape TransportState))) r × (v ≡ state_after on from g (cond full (Repeat 0xA) (CarryOut (OfTape TransportState))))
    shown true e = e
    shown false e = e

-- one that is a row is shown the transport
pub told : (u : UnitState) (t : Transports.Transport) (from : ℕ) (f r : Frame) (v : UnitState) → f.kind ≡ 4 → f.id ≡ 0 → f.code ≡ 3 → u.power ≡ true → t ≡ transport_of u.tape
    → is_some (tape_row f) ≡ true → Shows u t from f r v → IsRuled u from f r v
told u t from f r v kind id notify power transport is_row h = subst (Goes f) (sym power) at_code (subst (λ x. Shows u x from f r v) transport h)
  where
    Goes : Frame → Bool → Type 0
    Goes g p = Shows (with_tape p u.tape u) (transport_of u.tape) from g r v → IsRuled (with_tape p u.tape u) from g r v

    row : is_some (row_of TapeRows.notify_rows f.opcode f.operands) ≡ true
    row = subst (λ n. is_some (row_of (TapeRows.rows_of n) f.opcode f.operands) ≡ true) notify is_row

    at_code : Goes f true
    at_code = subst (λ (g : Frame). Goes g true) (is_to_tape f 3 kind id notify) (notified u from f r v row)
