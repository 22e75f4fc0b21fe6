-- What the tests find of a request, and which offset an address is.
use Rattle.std.proofs.Common.{◌≡◌, ◌<◌, ◌≤◌, ℕ, ◌+◌, ◌-◌, ◌&&◌, nat_le, Bool, true, false, Option, Some, None, is_some, refl, ap, sym, ◌∙◌, arith, cond, IsTrue, IsFalse}
use Rattle.std.proofs.lemmas.Bool.Decides.{nat_tests}
use Rattle.std.proofs.lemmas.Option.{same_Some}
use Rattle.fw_log_entry.specs.Network.{device_of_id}
use Rattle.fw_model_account.specs.Account.{Account, Request}
use Rattle.fw_model_account.specs.Words.{first_address}
use Rattle.fw_model_audit.specs.Looked.{Looked, Asks, is_watched}
use Rattle.fw_model_audit.specs.Faults.{HasFault, HasNoNode, rank}
use Rattle.fw_model_audit.specs.Judged.{judged_request, watched_offset}
use Rattle.fw_model_audit.specs.declared.fault.AuditFault.{AuditFault}
use Rattle.fw_model_audit.specs.declared.fault.AuditFault.TheVariants.{NoNode, Overlap, Orphan, NotAllowed, WrongWord, NoMove, NoEvent}

-- it is a swap that is no move
abbrev pub is_no_move : AuditFault → Bool
is_no_move (NoMove old new) = true
is_no_move _ = false

-- the first fault, or none but a swap that is no move
abbrev pub IsJudged : Account → Looked → Option AuditFault → Type 0
IsJudged l x None = (g : AuditFault) → IsFalse (is_no_move g) → HasFault l x g → ⊥
IsJudged l x (Some f) = HasFault l x f × ((g : AuditFault) → rank g < rank f → HasFault l x g → ⊥)

pub no_some : {A : Type 0} (v : A) → None ≡ Some v → ⊥
no_some v e = cc

-- ---- requests

pub request_judged : (l : Account) (id : ℕ) → IsJudged l (Asks id) (judged_request l id (device_of_id l.latest id))
request_judged l id = by (device_of_id l.latest id) refl
  where
    lowest : (g : AuditFault) → rank g < 1 → HasFault l (Asks id) g → ⊥
    lowest (NoNode k) lt h = omega arith
    lowest (Overlap k) lt h = omega arith
    lowest (Orphan k) lt h = omega arith
    lowest (NotAllowed k o) lt h = omega arith
    lowest (WrongWord a b) lt h = omega arith
    lowest (NoMove a b) lt h = omega arith
    lowest (NoEvent k) lt h = omega arith

    noded : (c k : ℕ) → device_of_id l.latest id ≡ Some c → HasNoNode l (Asks id) k → ⊥
    noded c k d h = no_some c (sym h.1 ∙ (ap (device_of_id l.latest) (sym h.0) ∙ d))

    second : (c : ℕ) → device_of_id l.latest id ≡ Some c → (g : AuditFault) → rank g < 2 → HasFault l (Asks id) g → ⊥
    second c d (NoNode k) lt h = noded c k d h
    second c d (Overlap k) lt h = omega arith
    second c d (Orphan k) lt h = omega arith
    second c d (NotAllowed k o) lt h = omega arith
    second c d (WrongWord a b) lt h = omega arith
    second c d (NoMove a b) lt h = omega arith
    second c d (NoEvent k) lt h = omega arith

    clear : (c : ℕ) → device_of_id l.latest id ≡ Some c → l.outstanding c ≡ None → (g : AuditFault) → IsFalse (is_no_move g) → HasFault l (Asks id) g → ⊥
    clear c d out (NoNode k) n h = noded c k d h
    clear c d out (Overlap k) n h =
        let same : h.1.0 ≡ c = same_Some h.1.0 c (sym h.1.2 ∙ (ap (device_of_id l.latest) (sym h.0) ∙ d)) in
        no_some h.1.1 (sym out ∙ (ap l.outstanding (sym same) ∙ h.1.3))
    clear c d out (Orphan k) n h = h
    clear c d out (NotAllowed k o) n h = h
    clear c d out (WrongWord a b) n h = h
    clear c d out (NoMove a b) n h = h
    clear c d out (NoEvent k) n h = h

    free : (c : ℕ) → device_of_id l.latest id ≡ Some c → (o : Option Request) → l.outstanding c ≡ o → IsJudged l (Asks id) (cond (is_some o) (Some (Overlap id)) None)
    free c d None out = clear c d out
    free c d (Some q) out = ((refl, (c, q, d, out)), second c d)

    by : (o : Option ℕ) → device_of_id l.latest id ≡ o → IsJudged l (Asks id) (judged_request l id o)
    by None d = ((refl, d), lowest)
    by (Some c) d = free c d (l.outstanding c) refl

-- ---- watched offsets

-- the offset of an address, if it is watched
pub offset_of : (address offset : ℕ) → watched_offset address ≡ Some offset → (address ≡ first_address + offset) × IsTrue (is_watched offset)
offset_of address offset e = go (nat_le first_address address) (is_watched (address - first_address)) refl refl e
  where
    go : (a b : Bool) → nat_le first_address address ≡ a → is_watched (address - first_address) ≡ b → cond (a && b) (Some (address - first_address)) None ≡ Some offset
        → (address ≡ first_address + offset) × IsTrue (is_watched offset)
    go true true ta tb f =
        let same : address - first_address ≡ offset = same_Some (address - first_address) offset f in
        let low : first_address ≤ address = grind (arith, nat_tests) in
        (omega (arith, same, low), ap is_watched (sym same) ∙ tb)
    go true false ta tb f = absurd (no_some offset f)
    go false b ta tb f = absurd (no_some offset f)

pub offset_found : (address offset : ℕ) → address ≡ first_address + offset → IsTrue (is_watched offset) → watched_offset address ≡ Some offset
offset_found address offset place watched =
    let t : nat_le first_address address ≡ true = grind (arith, nat_tests) in
    let same : address - first_address ≡ offset = omega (arith, place) in
    let w : is_watched (address - first_address) ≡ true = ap is_watched same ∙ watched in
    rw (t, w) (ap (λ k. Some k) same)
