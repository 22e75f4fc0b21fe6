-- A response to a frame that has a spelling has one.
use Rattle.std.proofs.Common.{◌≡◌, ℕ, ◌<◌, Bool, true, false, ◌||◌, ◌&&◌, not, ◌==◌, length, if◌then◌else◌, Option, Some, None, refl, ◌∙◌, ap, arith}
use Rattle.std.specs.Prelude.{is_none, is_some}
use Rattle.std.proofs.lemmas.Bool.Decides.{nat_tests}
use Rattle.fw_fcp.specs.declared.frame.Frame.{Frame}
use Rattle.fw_fcp.specs.Frames.{Fits, is_reserved}
use Rattle.fw_tape.specs.Desks.{VendorRelation}
use Rattle.fw_tape.specs.declared.row.TapeRow.TheVariants.{Eject, Enter, TransportState, TimeCode}
use Rattle.fw_avc.specs.declared.row.UnitRow.TheVariants.{UnitInfo, SubunitInfo, PlugInfo, SetPower, PowerState, VendorDependent}
use Rattle.fw_avc.specs.State.{UnitState}
use Rattle.fw_avc.specs.Replies.{TableRow, OfUnit, OfTape, Ruling, Repeat, CarryOut, IsResponse, ruling, found_ruling, is_unit, is_tape, needs_tape, row_as, is_controlled, is_bare}

-- the response codes that a unit gives
abbrev pub given : ℕ → Bool
given c = (c == 8) || (c == 9) || (c == 0xA) || (c == 0xC) || (c == 0xF)

pub is_given : Ruling → Bool
is_given (Repeat c) = given c
is_given (CarryOut row) = true

is_repeat : (c : ℕ) → given c ≡ true → is_given (Repeat c) ≡ true
unfolding is_given
is_repeat c e = e

is_carried : (row : TableRow) → is_given (CarryOut row) ≡ true
unfolding is_given
is_carried row = refl

if_given : (b : Bool) (x y : Ruling) → is_given x ≡ true → is_given y ≡ true → is_given (if b then x else y) ≡ true
if_given true x y h g = h
if_given false x y h g = g

inquiry_given : (b : Bool) → is_given (Repeat (if b then 0xC else 8)) ≡ true
inquiry_given true = is_repeat 0xC refl
inquiry_given false = is_repeat 8 refl

found_given : (u : UnitState) (f : Frame) (o : Option TableRow) → is_given (found_ruling u f o) ≡ true
found_given u f None = is_repeat 8 refl
found_given u f (Some row) =
    if_given (is_tape f && not u.power) _ _ (is_repeat 0xA refl)
    (if_given (needs_tape row && is_none u.tape) _ _ (is_repeat 0xA refl) (if_given ((f.code == 3) && (length u.kept == 4)) _ _ (is_repeat 0xA refl) (is_carried row)))

ruling_given : (u : UnitState) (f : Frame) → is_given (ruling u f) ≡ true
ruling_given u f =
    if_given (not (is_unit f || is_tape f)) _ _ (is_repeat 8 refl)
    (if_given (f.code == 2) _ _ (inquiry_given (is_some (row_as 0 f)))
    (if_given (f.code == 4) _ _ (inquiry_given (is_controlled f && is_bare f)) (found_given u f (row_as f.code f))))

coded : (f r : Frame) (c : ℕ) → given c ≡ true → Fits f → r.code ≡ c → r.kind ≡ f.kind → r.id ≡ f.id → Fits r
coded f r c g h code kind id =
    let low : c < 16 = grind (arith, nat_tests) in
    let known : is_reserved c ≡ false = grind (arith, nat_tests) in
    let f_kind = h.kind in
    let f_id = h.id in
    record { code = omega arith; known = ap is_reserved code ∙ known; kind = omega arith; id = omega arith }

state_given : (b : Bool) → given (if b then 0xF else 0xC) ≡ true
state_given true = refl
state_given false = refl

pub response_fits : (V : VendorRelation) (u : UnitState) (f r : Frame) (x : Ruling) → Fits f → is_given x ≡ true → IsResponse V u f x r → Fits r
unfolding is_given
response_fits V u f r (Repeat c) h g e = coded f r c g h (ap (λ p. p.code) e) (ap (λ p. p.kind) e) (ap (λ p. p.id) e)
response_fits V u f r (CarryOut (OfUnit UnitInfo)) h g e = coded f r 0xC refl h (ap (λ p. p.code) e) (ap (λ p. p.kind) e) (ap (λ p. p.id) e)
response_fits V u f r (CarryOut (OfUnit SubunitInfo)) h g e = coded f r 0xC refl h (ap (λ p. p.code) e) (ap (λ p. p.kind) e) (ap (λ p. p.id) e)
response_fits V u f r (CarryOut (OfUnit PlugInfo)) h g e = coded f r 0xC refl h (ap (λ p. p.code) e) (ap (λ p. p.kind) e) (ap (λ p. p.id) e)
response_fits V u f r (CarryOut (OfUnit (SetPower on))) h g e = coded f r 9 refl h (ap (λ p. p.code) e) (ap (λ p. p.kind) e) (ap (λ p. p.id) e)
response_fits V u f r (CarryOut (OfUnit PowerState)) h g e = coded f r _ (state_given (f.code == 3)) h (ap (λ p. p.code) e) (ap (λ p. p.kind) e) (ap (λ p. p.id) e)
response_fits V u f r (CarryOut (OfUnit VendorDependent)) h g e = coded f r 9 refl h (ap (λ p. p.code) e.frame) (ap (λ p. p.kind) e.frame) (ap (λ p. p.id) e.frame)
response_fits V u f r (CarryOut (OfTape TransportState)) h g e = coded f r _ (state_given (f.code == 3)) h (ap (λ p. p.code) e) (ap (λ p. p.kind) e) (ap (λ p. p.id) e)
response_fits V u f r (CarryOut (OfTape TimeCode)) h g e = coded f r 0xC refl h (ap (λ p. p.code) e) (ap (λ p. p.kind) e) (ap (λ p. p.id) e)
response_fits V u f r (CarryOut (OfTape Eject)) h g e = coded f r 9 refl h (ap (λ p. p.code) e) (ap (λ p. p.kind) e) (ap (λ p. p.id) e)
response_fits V u f r (CarryOut (OfTape (Enter s))) h g e = coded f r 9 refl h (ap (λ p. p.code) e) (ap (λ p. p.kind) e) (ap (λ p. p.id) e)

pub fits_response : (V : VendorRelation) (u : UnitState) (f r : Frame) → IsResponse V u f (ruling u f) r → Fits f → Fits r
fits_response V u f r e h = response_fits V u f r (ruling u f) h (ruling_given u f) e
