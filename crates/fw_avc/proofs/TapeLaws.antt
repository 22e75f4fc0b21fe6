-- What the tape subunit answers by its own table is what the unit's rules say of a frame to it.
use Rattle.std.proofs.Common.{◌≡◌, ◌≢◌, ℕ, ◌≤◌, Bool, true, false, not, ◌&&◌, List, [], ◌∷◌, length, drop, ◌==◌, Option, Some, None, if◌then◌else◌, ◌⊎◌, inl, inr, refl, sym, ◌∙◌, ap, subst, arith}
use Rattle.std.specs.Prelude.{is_some}
use Rattle.std.specs.Option.{option_map}
use Rattle.std.proofs.lemmas.Bool.{cases_eq}
use Rattle.std.proofs.lemmas.Bool.Decides.{nat_tests}
use Rattle.fw_fcp.specs.declared.frame.Frame.{Frame}
use Rattle.fw_fcp.specs.Tables.{row_of, has_opcode, is_padding}
use Rattle.fw_tape.specs.Desks.{VendorRelation, NoVendor}
use Rattle.fw_tape.specs.declared.cassette.Cassette.{Cassette}
use Rattle.fw_tape.specs.declared.row.TapeRow.{TapeRow}
use Rattle.fw_tape.specs.declared.row.TapeRow.TheVariants.{Eject, Enter, TransportState, TimeCode}
use Rattle.fw_tape.specs.Commands.{response, row_response, row_after, tape_after, inquired}
use Rattle.fw_tape.specs.Rows as TapeRows
use Rattle.fw_tape.proofs.RowLaws.{row_keeps}
use Rattle.fw_avc.specs.declared.row.UnitRow.TheVariants.{UnitInfo, SubunitInfo, PlugInfo, SetPower, PowerState, VendorDependent}
use Rattle.fw_avc.specs.State.{UnitState}
use Rattle.fw_avc.specs.Replies.{OfUnit, OfTape, Ruling, Repeat, CarryOut, Makes, IsResponse, ruling, found_ruling, state_after, unit_after}

-- the frame as a command of a type to the tape subunit
abbrev pub to_tape : ℕ → Frame → Frame
to_tape code f = record f { code = code; kind = 4; id = 0 }

abbrev pub with_tape : Bool → Option Cassette → UnitState → UnitState
with_tape power t u = record u { power = power; tape = t }

pub is_to_tape : (f : Frame) (code : ℕ) → f.kind ≡ 4 → f.id ≡ 0 → f.code ≡ code → to_tape code f ≡ f
is_to_tape f code kind id e = λ i. record f { code = sym e i; kind = sym kind i; id = sym id i }

-- ---- control and status commands, by row

abbrev Answers : ℕ → Type 0
Answers code = (u : UnitState) (f : Frame) (o : Option TapeRow) (power : Bool) (t : Option Cassette) → (is_some o && not power) ≡ false
    → IsResponse NoVendor (with_tape power t u) (to_tape code f) (found_ruling (with_tape power t u) (to_tape code f) (option_map OfTape o)) (row_response t (to_tape code f) o)

control_answer : Answers 0
control_answer u f None power t h = refl
control_answer u f (Some row) false t h = absurd (cc)
control_answer u f (Some TransportState) true t h = refl
control_answer u f (Some TimeCode) true None h = refl
control_answer u f (Some TimeCode) true (Some c) h = refl
control_answer u f (Some Eject) true None h = refl
control_answer u f (Some Eject) true (Some c) h = refl
control_answer u f (Some (Enter s)) true None h = refl
control_answer u f (Some (Enter s)) true (Some c) h = refl

status_answer : Answers 1
status_answer u f None power t h = refl
status_answer u f (Some row) false t h = absurd (cc)
status_answer u f (Some TransportState) true t h = refl
status_answer u f (Some TimeCode) true None h = refl
status_answer u f (Some TimeCode) true (Some c) h = refl
status_answer u f (Some Eject) true None h = refl
status_answer u f (Some Eject) true (Some c) h = refl
status_answer u f (Some (Enter s)) true None h = refl
status_answer u f (Some (Enter s)) true (Some c) h = refl

abbrev Leaves : ℕ → Type 0
Leaves code = (u : UnitState) (from : ℕ) (f : Frame) (o : Option TapeRow) (power : Bool) (t : Option Cassette) → (is_some o && not power) ≡ false
    → state_after (with_tape power t u) from (to_tape code f) (found_ruling (with_tape power t u) (to_tape code f) (option_map OfTape o)) ≡ with_tape power (row_after t o) u

control_leaves : Leaves 0
control_leaves u from f None power None h = refl
control_leaves u from f None power (Some c) h = refl
control_leaves u from f (Some row) false t h = absurd (cc)
control_leaves u from f (Some TransportState) true None h = refl
control_leaves u from f (Some TransportState) true (Some c) h = refl
control_leaves u from f (Some TimeCode) true None h = refl
control_leaves u from f (Some TimeCode) true (Some c) h = refl
control_leaves u from f (Some Eject) true None h = refl
control_leaves u from f (Some Eject) true (Some c) h = refl
control_leaves u from f (Some (Enter s)) true None h = refl
control_leaves u from f (Some (Enter s)) true (Some c) h = refl

status_leaves : Leaves 1
status_leaves u from f None power None h = refl
status_leaves u from f None power (Some c) h = refl
status_leaves u from f (Some row) false t h = absurd (cc)
status_leaves u from f (Some TransportState) true None h = refl
status_leaves u from f (Some TransportState) true (Some c) h = refl
status_leaves u from f (Some TimeCode) true None h = refl
status_leaves u from f (Some TimeCode) true (Some c) h = refl
status_leaves u from f (Some Eject) true None h = refl
status_leaves u from f (Some Eject) true (Some c) h = refl
status_leaves u from f (Some (Enter s)) true None h = refl
status_leaves u from f (Some (Enter s)) true (Some c) h = refl

-- ---- inquiries

same_found : (g : Frame) (o : Option TapeRow) → inquired g (is_some o) ≡ record g { code = if is_some (option_map OfTape o) then 0xC else 8 }
same_found g None = refl
same_found g (Some row) = refl

-- no control command of the tape subunit has opcode 0
same_bare : (opcode : ℕ) (operands : List ℕ)
    → (has_opcode TapeRows.control_rows opcode && is_padding operands) ≡ (has_opcode TapeRows.control_rows opcode && (if opcode == 0 then length operands == 0 else is_padding operands))
same_bare opcode operands = go (cases_eq opcode 0)
  where
    go : (opcode ≡ 0) ⊎ (opcode ≢ 0)
        → (has_opcode TapeRows.control_rows opcode && is_padding operands) ≡ (has_opcode TapeRows.control_rows opcode && (if opcode == 0 then length operands == 0 else is_padding operands))
    go (inl e) = rw e refl
    go (inr ne) = let no : (opcode == 0) ≡ false = grind (arith, nat_tests) in rw no refl

-- ---- all commands but NOTIFY

-- the commands that the tape subunit answers by itself, without power only those that are no row
pub record IsDirect (u : UnitState) (f : Frame) : Type 0 where
  pub kind : f.kind ≡ 4
  pub id : f.id ≡ 0
  pub code : f.code ≤ 4
  pub not_notify : f.code ≢ 3
  pub power : (is_some (row_of (TapeRows.rows_of f.code) f.opcode f.operands) && not u.power) ≡ false

pub record IsAnswered (u : UnitState) (from : ℕ) (f : Frame) : Type 0 where
  pub response : IsResponse NoVendor u f (ruling u f) (response u.tape f)
  pub state : record u { tape = tape_after u.tape f } ≡ unit_after u from f

answered_as : (u : UnitState) (from : ℕ) (f : Frame) (code : ℕ) → f.kind ≡ 4 → f.id ≡ 0 → f.code ≡ code → IsAnswered u from (to_tape code f) → IsAnswered u from f
answered_as u from f code kind id e h = let P : Frame → Type 0 = λ g. IsAnswered u from g in subst P (is_to_tape f code kind id e) h

control_answered : (u : UnitState) (from : ℕ) (f : Frame) → (is_some (row_of TapeRows.control_rows f.opcode f.operands) && not u.power) ≡ false → IsAnswered u from (to_tape 0 f)
control_answered u from f h = record {
  response = control_answer u f (row_of TapeRows.control_rows f.opcode f.operands) u.power u.tape h;
  state = sym (control_leaves u from f (row_of TapeRows.control_rows f.opcode f.operands) u.power u.tape h);
}

row_left : (t : Option Cassette) (opcode : ℕ) (operands : List ℕ) (o : Option TapeRow) → row_of TapeRows.status_rows opcode operands ≡ o → row_after t o ≡ t
row_left None opcode operands o e = refl
row_left (Some c) opcode operands None e = refl
row_left (Some c) opcode operands (Some r) e = row_keeps (Some c) 1 opcode operands r (omega arith) e

status_answered : (u : UnitState) (from : ℕ) (f : Frame) → (is_some (row_of TapeRows.status_rows f.opcode f.operands) && not u.power) ≡ false → IsAnswered u from (to_tape 1 f)
status_answered u from f h =
    let row = row_of TapeRows.status_rows f.opcode f.operands in
    let left : row_after u.tape row ≡ u.tape = row_left u.tape f.opcode f.operands row refl in
    record {
      response = status_answer u f row u.power u.tape h;
      state = sym (status_leaves u from f row u.power u.tape h ∙ ap (λ t. with_tape u.power t u) left);
    }

specific_answered : (u : UnitState) (from : ℕ) (f : Frame) → IsAnswered u from (to_tape 2 f)
specific_answered u from f = record { response = same_found (to_tape 2 f) (row_of TapeRows.control_rows f.opcode f.operands); state = refl }

general_answered : (u : UnitState) (from : ℕ) (f : Frame) → IsAnswered u from (to_tape 4 f)
general_answered u from f = record { response = ap (λ b. inquired (to_tape 4 f) b) (same_bare f.opcode f.operands); state = refl }

-- the row of a frame, as a fact on its command type
abbrev NoRefusal : UnitState → Frame → ℕ → Type 0
NoRefusal u f code = (is_some (row_of (TapeRows.rows_of code) f.opcode f.operands) && not u.power) ≡ false

pub tape_answered : (u : UnitState) (from : ℕ) (f : Frame) → IsDirect u f → IsAnswered u from f
tape_answered u from f d = go (cases_eq f.code 0) (cases_eq f.code 1) (cases_eq f.code 2)
  where
    go : (f.code ≡ 0) ⊎ (f.code ≢ 0) → (f.code ≡ 1) ⊎ (f.code ≢ 1) → (f.code ≡ 2) ⊎ (f.code ≢ 2) → IsAnswered u from f
    go (inl e) one two = answered_as u from f 0 d.kind d.id e (control_answered u from f (subst (NoRefusal u f) e d.power))
    go (inr zero) (inl e) two = answered_as u from f 1 d.kind d.id e (status_answered u from f (subst (NoRefusal u f) e d.power))
    go (inr zero) (inr one) (inl e) = answered_as u from f 2 d.kind d.id e (specific_answered u from f)
    go (inr zero) (inr one) (inr two) =
        let at_most = d.code in
        let no = d.not_notify in
        let e : f.code ≡ 4 = omega arith in
        answered_as u from f 4 d.kind d.id e (general_answered u from f)

-- ---- a response that needs no vendor is one at any vendor

makes_any : (V : VendorRelation) (bs cs : List ℕ) → Makes NoVendor bs cs → Makes V bs cs
makes_any V [] [] m = tt
makes_any V [] (y ∷ ys) m = absurd m
makes_any V (x ∷ xs) [] m = absurd m
makes_any V (x ∷ xs) (y ∷ ys) m = absurd m.0

pub any_vendor : (V : VendorRelation) (u : UnitState) (f r : Frame) (x : Ruling) → IsResponse NoVendor u f x r → IsResponse V u f x r
any_vendor V u f r (Repeat code) h = h
any_vendor V u f r (CarryOut (OfUnit UnitInfo)) h = h
any_vendor V u f r (CarryOut (OfUnit SubunitInfo)) h = h
any_vendor V u f r (CarryOut (OfUnit PlugInfo)) h = h
any_vendor V u f r (CarryOut (OfUnit (SetPower on))) h = h
any_vendor V u f r (CarryOut (OfUnit PowerState)) h = h
any_vendor V u f r (CarryOut (OfUnit VendorDependent)) h = record { bytes = h.bytes; made = makes_any V (drop 3 f.operands) h.bytes h.made; frame = h.frame }
any_vendor V u f r (CarryOut (OfTape TransportState)) h = h
any_vendor V u f r (CarryOut (OfTape TimeCode)) h = h
any_vendor V u f r (CarryOut (OfTape Eject)) h = h
any_vendor V u f r (CarryOut (OfTape (Enter s))) h = h
