-- What follows from a frame is one thing, if the vendor makes one thing of each byte.
use Rattle.fw_model_run.proofs.Common.{◌≡◌, ℕ, ◌+◌, ◌*◌, ◌<◌, List, [], ◌∷◌, Option, Some, None, refl, ap, sym, subst, ◌∙◌, arith, same_Some, Timed, Frame, spelling, Obeyed, FrameWrite, DeskRelations}
use Rattle.fw_model_run.proofs.Common.{IsFunction, request_of, Transition, IsGiven, Receive, State}
use Rattle.std.proofs.Common.{drop}
use Rattle.fw_fcp.specs.Frames.{Fits}
use Rattle.fw_tape.specs.declared.row.TapeRow.TheVariants.{Eject, Enter, TransportState, TimeCode}
use Rattle.fw_avc.specs.declared.row.UnitRow.TheVariants.{UnitInfo, SubunitInfo, PlugInfo, SetPower, PowerState, VendorDependent}
use Rattle.fw_avc.specs.Replies.{company, Ruling, Repeat, CarryOut, OfUnit, OfTape, Makes, IsResponse, IsVendorResponse, ruling}
use Rattle.fw_avc.specs.State.{UnitState}
use Rattle.fw_node.specs.Fcp.{IsCommand}
use Rattle.fw_model_run.specs.Frames.{IsFollowedBy}

-- ---- bytes are one frame

one_head : (c k i d l j : ℕ) → c < 16 → d < 16 → i < 8 → j < 8 → c ≡ d → k * 8 + i ≡ l * 8 + j → (k ≡ l) × (i ≡ j)
one_head c k i d l j a b e f same head = (omega (arith, e, f, head), omega (arith, e, f, head))

pub one_frame : (f g : Frame) → Fits f → Fits g → spelling f ≡ spelling g → f ≡ g
one_frame f g a b e =
    let first : f.code ≡ g.code = let x = ap (λ (xs : List ℕ). elim xs as (λ _. ℕ) [ [] ↦ 0 | y ∷ ys ↦ y ]) e in omega (arith, x) in
    let second : f.kind * 8 + f.id ≡ g.kind * 8 + g.id = let x = ap (λ (xs : List ℕ). elim (drop 1 xs) as (λ _. ℕ) [ [] ↦ 0 | y ∷ ys ↦ y ]) e in omega (arith, x) in
    let rest : f.opcode ∷ f.operands ≡ g.opcode ∷ g.operands = ap (λ (xs : List ℕ). drop 2 xs) e in
    let opcode : f.opcode ≡ g.opcode = cc rest in
    let operands : f.operands ≡ g.operands = ap (λ (xs : List ℕ). drop 1 xs) rest in
    let both = one_head f.code f.kind f.id g.code g.kind g.id a.code b.code a.id b.id first second in
    λ i. record { code = first i; kind = both.0 i; id = both.1 i; opcode = opcode i; operands = operands i }

-- ---- one response

one_made : (D : DeskRelations) (only : IsFunction D) (asked xs ys : List ℕ) → Makes D.vendor asked xs → Makes D.vendor asked ys → xs ≡ ys
one_made D only [] [] [] f g = refl
one_made D only [] [] (y ∷ ys) f g = absurd g
one_made D only [] (x ∷ xs) ys f g = absurd f
one_made D only (a ∷ asked) [] ys f g = absurd f
one_made D only (a ∷ asked) (x ∷ xs) [] f g = absurd g
one_made D only (a ∷ asked) (x ∷ xs) (y ∷ ys) f g =
    let first : x ≡ y = only.bytes company a x y f.0 g.0 in
    let rest = one_made D only asked xs ys f.1 g.1 in
    λ i. first i ∷ rest i

one_vendor : (D : DeskRelations) (only : IsFunction D) (f r q : Frame) → IsVendorResponse D.vendor f r → IsVendorResponse D.vendor f q → r ≡ q
one_vendor D only f r q a b =
    let bytes = one_made D only (drop 3 f.operands) a.bytes b.bytes a.made b.made in
    a.frame ∙ (ap (λ (xs : List ℕ). record f { code = 9; operands = 0xA0 ∷ 0xB0 ∷ 0xC0 ∷ xs }) bytes ∙ sym b.frame)

pub one_response : (D : DeskRelations) (only : IsFunction D) (u : UnitState) (f : Frame) (rule : Ruling) (r q : Frame) → IsResponse D.vendor u f rule r → IsResponse D.vendor u f rule q → r ≡ q
one_response D only u f (Repeat code) r q a b = a ∙ sym b
one_response D only u f (CarryOut (OfUnit UnitInfo)) r q a b = a ∙ sym b
one_response D only u f (CarryOut (OfUnit SubunitInfo)) r q a b = a ∙ sym b
one_response D only u f (CarryOut (OfUnit PlugInfo)) r q a b = a ∙ sym b
one_response D only u f (CarryOut (OfUnit (SetPower on))) r q a b = a ∙ sym b
one_response D only u f (CarryOut (OfUnit PowerState)) r q a b = a ∙ sym b
one_response D only u f (CarryOut (OfUnit VendorDependent)) r q a b = one_vendor D only f r q a b
one_response D only u f (CarryOut (OfTape TransportState)) r q a b = a ∙ sym b
one_response D only u f (CarryOut (OfTape TimeCode)) r q a b = a ∙ sym b
one_response D only u f (CarryOut (OfTape Eject)) r q a b = a ∙ sym b
one_response D only u f (CarryOut (OfTape (Enter t))) r q a b = a ∙ sym b

-- ---- what follows from a write

one_command : (w : FrameWrite) (f g : Frame) → IsCommand (Some (request_of w)) f → IsCommand (Some (request_of w)) g → f ≡ g
one_command w f g a b = one_frame f g a.fits b.fits (same_Some (spelling f) (spelling g) (sym a.written ∙ b.written))

one_followed : (D : DeskRelations) (only : IsFunction D) (s : State) (w : FrameWrite) (x y : Option Obeyed) → IsFollowedBy s w x → IsFollowedBy s w y → IsGiven D (Receive x) → IsGiven D (Receive y)
    → x ≡ y
one_followed D only s w None None f g given other = refl
one_followed D only s w None (Some y) f g given other = absurd (f g.0 y.command g.1)
one_followed D only s w (Some x) None f g given other = absurd (g f.0 x.command f.1)
one_followed D only s w (Some x) (Some y) f g given other =
    let unit : x.unit ≡ y.unit = f.2 ∙ sym g.2 in
    let command : x.command ≡ y.command = one_command w x.command y.command f.1 g.1 in
    let moved : IsResponse D.vendor x.unit x.command (ruling x.unit x.command) y.response
    = subst (λ c. IsResponse D.vendor x.unit c (ruling x.unit c) y.response) (sym command) (subst (λ u. IsResponse D.vendor u y.command (ruling u y.command) y.response) (sym unit) other) in
    let response = one_response D only x.unit x.command (ruling x.unit x.command) x.response y.response given moved in
    λ i. Some (record { unit = unit i; command = command i; response = response i })

pub one_obeyed : (D : DeskRelations) (only : IsFunction D) (s t u : State) (x y : Option Obeyed) (out other : List Timed) → Transition s (Receive x) out t → Transition s (Receive y) other u
    → IsGiven D (Receive x) → IsGiven D (Receive y) → x ≡ y
one_obeyed D only s t u x y out other f g given after =
    let same : g.found.write ≡ f.found.write = same_Some g.found.write f.found.write (sym g.may.waits ∙ f.may.waits) in
    one_followed D only s f.found.write x y f.may.followed (subst (λ w. IsFollowedBy s w y) same g.may.followed) given after
