-- What frames change of a unit.
use Rattle.std.proofs.Common.{◌≡◌, ◌≢◌, ℕ, Bool, true, false, ◌==◌, ◌||◌, ◌&&◌, not, length, List, [], ◌∷◌, ◌++◌, Option, Some, None, if◌then◌else◌, refl, sym, ◌∙◌, ap, subst, arith}
use Rattle.std.specs.Prelude.{is_some, is_none}
use Rattle.std.specs.Option.{option_map}
use Rattle.std.proofs.lemmas.Bool.Decides.{nat_tests}
use Rattle.fw_fcp.specs.declared.frame.Frame.{Frame}
use Rattle.fw_fcp.specs.Tables.{row_of}
use Rattle.fw_tape.specs.Desks.{VendorRelation}
use Rattle.fw_tape.specs.declared.cassette.Cassette.{Cassette}
use Rattle.fw_tape.specs.declared.row.TapeRow.{TapeRow}
use Rattle.fw_tape.specs.declared.row.TapeRow.TheVariants.{Eject, Enter, TransportState, TimeCode}
use Rattle.fw_tape.specs.Commands.{row_after}
use Rattle.fw_tape.specs.Rows as TapeRows
use Rattle.fw_avc.specs.declared.row.UnitRow.{UnitRow}
use Rattle.fw_avc.specs.declared.row.UnitRow.TheVariants.{UnitInfo, SubunitInfo, PlugInfo, SetPower, PowerState, VendorDependent}
use Rattle.fw_avc.specs.declared.notify.Watched.{Watched}
use Rattle.fw_avc.specs.State.{UnitState}
use Rattle.fw_avc.specs.Rows as UnitRows
use Rattle.fw_avc.specs.Replies.{TableRow, OfUnit, OfTape, Ruling, Repeat, CarryOut, IsResponse, found_ruling, row_as}
use Rattle.fw_avc.specs.Replies.{row_state, state_after, unit_after, asked, is_unit, is_tape, needs_tape, is_controlled, is_bare}
use Rattle.fw_avc.specs.Laws.{is_refusal}

-- ---- a row of the one table or of the other

from_unit : (b c : Bool) (o : Option UnitRow) (p : Option TapeRow) (r : UnitRow) → (if b then option_map OfUnit o else if c then option_map OfTape p else None) ≡ Some (OfUnit r) → o ≡ Some r
from_unit true c None p r e = cc
from_unit true c (Some x) p r e = cc
from_unit false true o None r e = cc
from_unit false true o (Some x) r e = cc
from_unit false false o p r e = cc

from_tape : (b c : Bool) (o : Option UnitRow) (p : Option TapeRow) (r : TapeRow) → (if b then option_map OfUnit o else if c then option_map OfTape p else None) ≡ Some (OfTape r) → p ≡ Some r
from_tape true c None p r e = cc
from_tape true c (Some x) p r e = cc
from_tape false true o None r e = cc
from_tape false true o (Some x) r e = cc
from_tape false false o p r e = cc

-- ---- commands other than CONTROL

no_power : (code opcode : ℕ) (operands : List ℕ) (on : Bool) → code ≢ 0 → row_of (UnitRows.rows_of code) opcode operands ≡ Some (SetPower on) → ⊥
no_power code opcode operands on other e = grind (arith, nat_tests)

no_eject : (code opcode : ℕ) (operands : List ℕ) → code ≢ 0 → row_of (TapeRows.rows_of code) opcode operands ≡ Some Eject → ⊥
no_eject code opcode operands other e = grind (arith, nat_tests)

no_state : (code opcode : ℕ) (operands : List ℕ) (s : _) → code ≢ 0 → row_of (TapeRows.rows_of code) opcode operands ≡ Some (Enter s) → ⊥
no_state code opcode operands s other e = grind (arith, nat_tests)

-- a unit that is asked changes its kept requests at most, and these by NOTIFY alone
pub record IsAsked (u : UnitState) (f : Frame) (v : UnitState) : Type 0 where
  pub same : f.code ≢ 3 → v ≡ u
  pub rest : record v { kept = u.kept } ≡ u

unchanged : (u : UnitState) (f : Frame) → IsAsked u f u
unchanged u f = record { same = λ other. refl; rest = refl }

asked_changes : (u : UnitState) (from : ℕ) (f : Frame) (w : Watched) → IsAsked u f (asked u from f w)
asked_changes u from f w = record {
  same = λ other. let elsewhere : (f.code == 3) ≡ false = grind (arith, nat_tests) in rw elsewhere refl;
  rest = go (f.code == 3);
}
  where
    go : (b : Bool) → (let v : UnitState = if b then record u { kept = u.kept ++ record { node = from; value = w } ∷ [] } else u in record v { kept = u.kept }) ≡ u
    go true = refl
    go false = refl

row_asked : (u : UnitState) (from : ℕ) (f : Frame) (row : TableRow) → f.code ≢ 0 → row_as f.code f ≡ Some row → IsAsked u f (row_state u from f row)
row_asked u from f (OfUnit UnitInfo) other e = unchanged u f
row_asked u from f (OfUnit SubunitInfo) other e = unchanged u f
row_asked u from f (OfUnit PlugInfo) other e = unchanged u f
row_asked u from f (OfUnit (SetPower on)) other e = absurd (no_power f.code f.opcode f.operands on other (from_unit (is_unit f) (is_tape f) _ _ (SetPower on) e))
row_asked u from f (OfUnit PowerState) other e = asked_changes u from f _
row_asked u from f (OfUnit VendorDependent) other e = unchanged u f
row_asked u from f (OfTape TransportState) other e = asked_changes u from f _
row_asked u from f (OfTape TimeCode) other e = let P : Option Cassette → Type 0 = λ t. IsAsked u f (record u { tape = t }) in subst P (sym (same u.tape)) (unchanged u f)
  where
    same : (t : Option Cassette) → row_after t (Some TimeCode) ≡ t
    same None = refl
    same (Some c) = refl
row_asked u from f (OfTape Eject) other e = absurd (no_eject f.code f.opcode f.operands other (from_tape (is_unit f) (is_tape f) _ _ Eject e))
row_asked u from f (OfTape (Enter s)) other e = absurd (no_state f.code f.opcode f.operands s other (from_tape (is_unit f) (is_tape f) _ _ (Enter s) e))

-- if each of two rulings leaves a unit that was asked, a choice of them does
if_asked : (b : Bool) (x y : Ruling) (u : UnitState) (from : ℕ) (f : Frame) → IsAsked u f (state_after u from f x) → IsAsked u f (state_after u from f y)
    → IsAsked u f (state_after u from f (if b then x else y))
if_asked true x y u from f h g = h
if_asked false x y u from f h g = g

found_asked : (u : UnitState) (from : ℕ) (f : Frame) (o : Option TableRow) → f.code ≢ 0 → row_as f.code f ≡ o → IsAsked u f (state_after u from f (found_ruling u f o))
found_asked u from f None other e = unchanged u f
found_asked u from f (Some row) other e =
    if_asked (is_tape f && not u.power) (Repeat 0xA) _ u from f (unchanged u f)
    (if_asked (needs_tape row && is_none u.tape) (Repeat 0xA) _ u from f (unchanged u f)
    (if_asked ((f.code == 3) && (length u.kept == 4)) (Repeat 0xA) (CarryOut row) u from f (unchanged u f) (row_asked u from f row other e)))

pub unit_asked : (u : UnitState) (from : ℕ) (f : Frame) → f.code ≢ 0 → IsAsked u f (unit_after u from f)
unit_asked u from f other =
    if_asked (not (is_unit f || is_tape f)) (Repeat 8) _ u from f (unchanged u f)
    (if_asked (f.code == 2) (Repeat (if is_some (row_as 0 f) then 0xC else 8)) _ u from f (unchanged u f)
    (if_asked (f.code == 4) (Repeat (if is_controlled f && is_bare f then 0xC else 8)) _ u from f (unchanged u f) (found_asked u from f (row_as f.code f) other refl)))

-- ---- refusals

coded : (r : Frame) (c : ℕ) → is_refusal c ≡ false → r.code ≡ c → is_refusal r.code ≡ true → ⊥
coded r c given e refusal = let clash : true ≡ false = sym refusal ∙ ap is_refusal e ∙ given in cc

state_coded : (b : Bool) → is_refusal (if b then 0xF else 0xC) ≡ false
state_coded true = refl
state_coded false = refl

pub refused : (V : VendorRelation) (u : UnitState) (from : ℕ) (f r : Frame) (x : Ruling) → is_refusal r.code ≡ true → IsResponse V u f x r → state_after u from f x ≡ u
refused V u from f r (Repeat c) refusal e = refl
refused V u from f r (CarryOut (OfUnit UnitInfo)) refusal e = absurd (coded r 0xC refl (ap (λ p. p.code) e) refusal)
refused V u from f r (CarryOut (OfUnit SubunitInfo)) refusal e = absurd (coded r 0xC refl (ap (λ p. p.code) e) refusal)
refused V u from f r (CarryOut (OfUnit PlugInfo)) refusal e = absurd (coded r 0xC refl (ap (λ p. p.code) e) refusal)
refused V u from f r (CarryOut (OfUnit (SetPower on))) refusal e = absurd (coded r 9 refl (ap (λ p. p.code) e) refusal)
refused V u from f r (CarryOut (OfUnit PowerState)) refusal e = absurd (coded r _ (state_coded (f.code == 3)) (ap (λ p. p.code) e) refusal)
refused V u from f r (CarryOut (OfUnit VendorDependent)) refusal e = absurd (coded r 9 refl (ap (λ p. p.code) e.frame) refusal)
refused V u from f r (CarryOut (OfTape TransportState)) refusal e = absurd (coded r _ (state_coded (f.code == 3)) (ap (λ p. p.code) e) refusal)
refused V u from f r (CarryOut (OfTape TimeCode)) refusal e = absurd (coded r 0xC refl (ap (λ p. p.code) e) refusal)
refused V u from f r (CarryOut (OfTape Eject)) refusal e = absurd (coded r 9 refl (ap (λ p. p.code) e) refusal)
refused V u from f r (CarryOut (OfTape (Enter s))) refusal e = absurd (coded r 9 refl (ap (λ p. p.code) e) refusal)
