use Rattle.std.proofs.Common.{◌≡◌, Bool, false, true, not, ◌&&◌, ap, subst, sym, ◌∙◌, refl}
use Rattle.std.specs.Prelude.{is_some}
use Rattle.std.proofs.lemmas.Bool.{false≢true}
use Rattle.fw_fcp.specs.declared.frame.Frame.{Frame}
use Rattle.fw_fcp.specs.Tables.{row_of}
use Rattle.fw_tape.specs.Commands.{response, tape_after}
use Rattle.fw_tape.specs.Motion.{transport_of}
use Rattle.fw_tape.specs.Rows as TapeRows
use Rattle.fw_avc.specs.contracts.unit.Unit.{the_view}
use Rattle.fw_avc.specs.Replies.{IsResponse, ruling}
use Rattle.fw_tape.specs.Desks.{NoVendor}
use Rattle.fw_avc.specs.State.{UnitState}
use Rattle.fw_avc.proofs.TapeLaws.{IsDirect, tape_answered}
use Rattle.fw_avc.proofs.TapeRulings.{found_as, unpowered, unknown, told}
use Rattle.fw_avc.proofs.unit.Unit.tape_command.Goals as goal
use Rattle.fw_avc.proofs.unit.Unit.tape_command.Goals.{else-is_row-via-then-is_row+else-not-self, else-is_row-via-else-is_row}

powered : (b p : Bool) → p ≡ true → (b && not p) ≡ false
powered b p e = rw e (elim b as (λ x. (x && false) ≡ false) [ true ↦ refl | false ↦ refl ])

pub returns-then-not-self : goal.returns-then-not-self
returns-then-not-self c =
    let f = c.args.f.now in
    let found = found_as f c.of.result c.as_slice.result.now c.is_some-is_row.result c.is_some-is_row.ensures c.of.ensures c.as_slice.ensures.value in
    let off = ap (λ (v : UnitState). v.power) (sym c.self.view_is) ∙ c.if-not-self.true in
    let h = unpowered c.args.self.now c.args.from f c.repeat.new.self c.requires.kind c.requires.id c.requires.code off (sym found ∙ c.if-is_row.true) c.repeat.ensures in
    record { response = h.0; unit = h.1 }

pub returns-then-not-is_row : goal.returns-then-not-is_row
returns-then-not-is_row c =
    let f = c.args.f.now in
    let found = found_as f c.of.result c.as_slice.result.now c.is_some-is_row.result c.is_some-is_row.ensures c.of.ensures c.as_slice.ensures.value in
    let h = unknown c.args.self.now c.args.from f c.repeat-then-not-is_row.new.self c.requires.kind c.requires.id c.if-f-ne-NOTIFY.false
    (sym found ∙ c.if-not-is_row.true) c.repeat-then-not-is_row.ensures in
    record { response = h.0; unit = h.1 }

powered_row : (c : goal.After-show) → c.self.inside.power ≡ true
powered_row c = elim c.else-is_row.branch [
  | else-is_row-via-then-is_row+else-not-self w ↦ w.if-not-self.false
  | else-is_row-via-else-is_row w ↦ absurd (false≢true (sym w.if-is_row.false ∙ c.if-not-is_row.false))
]

pub returns : goal.returns
returns c =
    let f = c.args.f.now in
    let found = found_as f c.of.result c.as_slice.result.now c.is_some-is_row.result c.is_some-is_row.ensures c.of.ensures c.as_slice.ensures.value in
    let on = ap (λ (v : UnitState). v.power) (sym c.self.view_is) ∙ powered_row c in
    let transport = c.transport-transport.ensures ∙ ap (λ (v : UnitState). transport_of v.tape) c.self.view_is in
    let h = told c.args.self.now c.transport-transport.result c.args.from f c.show.new.out c.show.new.self c.requires.kind c.requires.id c.if-f-ne-NOTIFY.false
    on transport (sym found ∙ c.if-not-is_row.false) (c.show.ensures.response, c.show.ensures.unit) in
    record { response = h.0; unit = h.1 }

not_refused : (c : goal.After-command) → (is_some (row_of (TapeRows.rows_of c.args.f.now.code) c.args.f.now.opcode c.args.f.now.operands) && not c.args.self.now.power) ≡ false
not_refused c =
    let f = c.args.f.now in
    let power = c.args.self.now.power in
    let found : c.is_some-is_row.result ≡ is_some (row_of (TapeRows.rows_of f.code) f.opcode f.operands) =
    c.is_some-is_row.ensures ∙ ap is_some (c.of.ensures ∙ ap (λ l. row_of (TapeRows.rows_of f.code) f.opcode l) c.as_slice.ensures.value) in
    elim c.else-is_row.branch [
      | else-is_row-via-then-is_row+else-not-self w ↦ powered (is_some (row_of (TapeRows.rows_of f.code) f.opcode f.operands)) power (ap (λ v. v.power) (sym c.self.view_is) ∙ w.if-not-self.false)
      | else-is_row-via-else-is_row w ↦ ap (λ b. b && not power) (sym found ∙ w.if-is_row.false)
    ]

direct : (c : goal.After-command) → IsDirect c.args.self.now c.args.f.now
direct c = record { kind = c.requires.kind; id = c.requires.id; code = c.requires.code; not_notify = c.if-f-ne-NOTIFY.true; power = not_refused c }

pub returns-then-f-ne-NOTIFY-clause-response : goal.returns-then-f-ne-NOTIFY-clause-response
returns-then-f-ne-NOTIFY-clause-response c =
    let u = c.args.self.now in
    let f = c.args.f.now in
    let P : Frame → Type 0 = λ r. IsResponse NoVendor u f (ruling u f) r in
    let same : response u.tape f ≡ c.command.new.out = ap (λ v. response v.tape f) (sym c.self.view_is) ∙ sym c.command.ensures.response in
    subst P same (tape_answered u c.args.from f (direct c)).response

pub returns-then-f-ne-NOTIFY-clause-unit : goal.returns-then-f-ne-NOTIFY-clause-unit
returns-then-f-ne-NOTIFY-clause-unit c =
    let f = c.args.f.now in
    ap (λ t. the_view (record c.self.inside { tape = t })) c.command.ensures.tape
    ∙ ap (λ u. let v : UnitState = record u { tape = tape_after u.tape f } in v) c.self.view_is ∙ (tape_answered c.args.self.now c.args.from f (direct c)).state
