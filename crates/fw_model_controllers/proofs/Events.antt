-- What requests, responses, deaths, the end of the reclaim second and a bus reset leave to a controller.
use Rattle.fw_model_controllers.proofs.Common.{PlugAt, ConnectionKind, PointToPoint, Broadcast, ◌≡◌, ◌≢◌, ℕ, false, Option, Some}
use Rattle.fw_model_controllers.proofs.Common.{None, refl, ◌∙◌, arith, cond, nat_tests, ResetEntry, Pending, Allocation, Account}
use Rattle.fw_model_controllers.proofs.Common.{Request, after_reset, after_second, asked, ended, output_addressed, connections_of, HasReserved, Holds, Keeps, Leaves}
use Rattle.fw_model_account.specs.Account.{Holder, Connected, Orphaned, Owner, Of, Dead, Connections, is_pending, is_pending_of}
use Rattle.fw_model_account.specs.Events.{after_death, orphaned_allocation, orphaned_holder, orphaned_connections, orphaned_owner, after_withholding}
use Rattle.fw_model_account.specs.Packets.{addressed_after}
use Rattle.fw_model_controllers.specs.Holding.{Reservation, no_holding, is_of}

-- ---- deaths

pending_of_other : (c d : ℕ) (x : Option Allocation) → d ≢ c → is_pending d (orphaned_allocation c x) ≡ is_pending d x
pending_of_other c d None ne = refl
pending_of_other c d (Some x) ne = go x.holder
  where
    go : (h : Holder) → is_pending_of d (orphaned_holder c h) ≡ is_pending_of d h
    go (Pending k p) = grind (arith, nat_tests)
    go (Connected p) = refl
    go (Orphaned p) = refl

reserved_of_other : (c d : ℕ) (l : Account) (o : Option Reservation) → d ≢ c → HasReserved d o l.allocations → HasReserved d o (after_death c l).allocations
reserved_of_other c d l None ne has = λ ch. pending_of_other c d (l.allocations ch) ne ∙ has ch
reserved_of_other c d l (Some r) ne has = (has.0, rw has.1 (grind (arith, nat_tests)))

connections_of_other : (c d : ℕ) (kind : ConnectionKind) (s : Connections) → d ≢ c → connections_of d kind (orphaned_connections c s) ≡ connections_of d kind s
connections_of_other c d PointToPoint s ne = grind (arith, nat_tests)
connections_of_other c d Broadcast s ne = go s.broadcast
  where
    go : (o : Option Owner) → cond {A = ℕ} (is_of d (orphaned_owner c o)) 1 0 ≡ cond (is_of d o) 1 0
    go None = refl
    go (Some (Of k)) = grind (arith, nat_tests)
    go (Some Dead) = refl

pub death_leaves : (c d : ℕ) (l : Account) → d ≢ c → Leaves d l (after_death c l)
death_leaves c d l ne = record {
  holding = λ h has. record {
    reserved = reserved_of_other c d l h.reserved ne has.reserved;
    outputs = λ kind q. connections_of_other c d kind (l.outputs q) ne ∙ has.outputs kind q;
    inputs = λ kind q. connections_of_other c d kind (l.inputs q) ne ∙ has.inputs kind q;
  };
  addressed = refl;
}

pub death_keeps : (c : ℕ) (l : Account) → Keeps l (after_death c l)
death_keeps c l = record { rates = λ q. refl; settings = λ q h. refl; channels = λ q h. refl; latest = refl; reclaims = λ r. (r, λ ch. refl) }

-- a dead controller has nothing
no_pending : (c : ℕ) (x : Option Allocation) → is_pending c (orphaned_allocation c x) ≡ false
no_pending c None = refl
no_pending c (Some x) = go x.holder
  where
    go : (h : Holder) → is_pending_of c (orphaned_holder c h) ≡ false
    go (Pending k p) = grind (arith, nat_tests)
    go (Connected p) = refl
    go (Orphaned p) = refl

no_connections_of : (c : ℕ) (kind : ConnectionKind) (s : Connections) → connections_of c kind (orphaned_connections c s) ≡ 0
no_connections_of c PointToPoint s = grind (arith, nat_tests)
no_connections_of c Broadcast s = go s.broadcast
  where
    go : (o : Option Owner) → cond {A = ℕ} (is_of c (orphaned_owner c o)) 1 0 ≡ 0
    go None = refl
    go (Some (Of k)) = grind (arith, nat_tests)
    go (Some Dead) = refl

pub dead_holds : (c : ℕ) (l : Account) → Holds (after_death c l) c no_holding
dead_holds c l = record { reserved = λ ch. no_pending c (l.allocations ch); outputs = λ kind q. no_connections_of c kind (l.outputs q); inputs = λ kind q. no_connections_of c kind (l.inputs q) }

-- ---- the end of the reclaim second

pub second_keeps : (l : Account) → Keeps l (after_second l)
second_keeps l = record { rates = λ q. refl; settings = λ q h. refl; channels = λ q h. refl; latest = refl; reclaims = λ r. absurd (grind arith) }

pub second_leaves : (d : ℕ) (l : Account) → Leaves d l (after_second l)
second_leaves d l = record { holding = λ h has. record { reserved = has.reserved; outputs = has.outputs; inputs = has.inputs }; addressed = refl }

-- ---- channel 31 is withheld

pub withholding_keeps : (l : Account) → Keeps l (after_withholding l)
withholding_keeps l = record { rates = λ q. refl; settings = λ q h. refl; channels = λ q h. refl; latest = refl; reclaims = λ r. (r, λ ch. refl) }

pub withholding_leaves : (d : ℕ) (l : Account) → Leaves d l (after_withholding l)
withholding_leaves d l = record { holding = λ h has. record { reserved = has.reserved; outputs = has.outputs; inputs = has.inputs }; addressed = refl }

-- ---- requests and responses

pub asked_keeps : (c : ℕ) (request : Request) (l : Account) → Keeps l (asked c request l)
asked_keeps c request l = record { rates = λ q. refl; settings = λ q h. refl; channels = λ q h. refl; latest = refl; reclaims = λ r. (r, λ ch. refl) }

addressed_of_other : (c d : ℕ) (o : Option PlugAt) (l : Account) → d ≢ c → addressed_after c o l d ≡ l.addressed d
addressed_of_other c d None l ne = refl
addressed_of_other c d (Some p) l ne = grind (arith, nat_tests)

pub asked_leaves : (c d : ℕ) (request : Request) (l : Account) → d ≢ c → Leaves d l (asked c request l)
asked_leaves c d request l ne = record {
  holding = λ h has. record { reserved = has.reserved; outputs = has.outputs; inputs = has.inputs };
  addressed = addressed_of_other c d (output_addressed l.latest request.target request.address) l ne;
}

pub ended_keeps : (c : ℕ) (l : Account) → Keeps l (ended c l)
ended_keeps c l = record { rates = λ q. refl; settings = λ q h. refl; channels = λ q h. refl; latest = refl; reclaims = λ r. (r, λ ch. refl) }

pub ended_leaves : (c d : ℕ) (l : Account) → Leaves d l (ended c l)
ended_leaves c d l = record { holding = λ h has. record { reserved = has.reserved; outputs = has.outputs; inputs = has.inputs }; addressed = refl }

-- ---- a bus reset

none_of : (d : ℕ) (kind : ConnectionKind) → connections_of d kind (record { counts = λ c. 0; orphaned = 0; broadcast = None }) ≡ 0
none_of d PointToPoint = refl
none_of d Broadcast = refl

pub reset_holds : (r : ResetEntry) (d : ℕ) (l : Account) → Holds (after_reset r l) d no_holding
reset_holds r d l = record { reserved = λ ch. refl; outputs = λ kind q. none_of d kind; inputs = λ kind q. none_of d kind }
