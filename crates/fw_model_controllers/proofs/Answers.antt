-- What an answer is, and what follows it, in a form that each stage uses.
use Rattle.fw_model_controllers.proofs.Common.{PlugAt, ConnectionKind, PointToPoint, Broadcast, ◌≡◌, ◌≢◌, ℕ, Bool, true, false, Option}
use Rattle.fw_model_controllers.proofs.Common.{Some, None, eqb, cond, refl, subst, sym, arith, ◌&&◌, option_map, nat_tests}
use Rattle.fw_model_controllers.proofs.Common.{Reply, Account, HasConnection, word_of, Connection, PlugToPlug, BroadcastOut, BroadcastIn, Job}
use Rattle.fw_model_controllers.proofs.Common.{Stage, Target, kind_of, output_of, input_of, is_listen, hear, refuse}
use Rattle.fw_model_controllers.proofs.Common.{hear_reply, is_at_output, is_at_input, has_output, has_input, IsAnswer, register_at, stands, Others, IsInStep, sees}
use Rattle.fw_terms.proofs.Tables.{same_plug_self}
use Rattle.fw_model_controllers.specs.Holding.{same_kind}
use Rattle.fw_model_controllers.proofs.Counts.{connection_is}
use Rattle.fw_model_controllers.proofs.Goes.{IsSeen}

-- ---- complete, or refused

-- a complete answer that shows the word of its register
pub record IsComplete (l : Account) (t : Target) (r : Reply) : Type 0 where
  pub rcode : r.rcode ≡ 0
  pub value : r.value ≡ word_of l (register_at t)

pub complete : (l : Account) (t : Target) (r : Reply) → IsAnswer l t r → stands l.latest t ≡ true → IsComplete l t r
complete l t r a e = let c = a.complete e in record { rcode = c.0; value = c.1 }

pub heard : (l : Account) (c : ℕ) (j : Job) (s : Stage) (others : Others) (t : Target) (r : Reply) → IsComplete l t r → IsInStep l c j (hear j s (word_of l (register_at t))) false others
    → IsInStep l c j (hear_reply j s r) false others
heard l c j s others t r done i = go (eqb r.rcode 0) refl
  where
    go : (b : Bool) → eqb r.rcode 0 ≡ b → IsInStep l c j (cond b (hear j s r.value) (refuse j s r.rcode)) false others
    go true e = subst (λ v. IsInStep l c j (hear j s v) false others) (sym done.value) i
    go false e = absurd (grind (arith, nat_tests, done.rcode))

pub was_refused : (l : Account) (c : ℕ) (j : Job) (s : Stage) (others : Others) (r : Reply) → r.rcode ≢ 0 → IsInStep l c j (refuse j s r.rcode) false others
    → IsInStep l c j (hear_reply j s r) false others
was_refused l c j s others r ne i = go (eqb r.rcode 0) refl
  where
    go : (b : Bool) → eqb r.rcode 0 ≡ b → IsInStep l c j (cond b (hear j s r.value) (refuse j s r.rcode)) false others
    go true e = absurd (ne (grind (arith, nat_tests)))
    go false e = i

-- what follows if the swap has succeeded, and if the word was another
pub swapped : (l m : Account) (c : ℕ) (j : Job) (s done : Stage) (failed : ℕ → Stage) (others : Others) (t : Target) (r : Reply) (arg : ℕ) → IsComplete l t r
    → (arg ≡ word_of l (register_at t) → IsInStep m c j done false others) → IsInStep l c j (failed (word_of l (register_at t))) false others
    → IsInStep (cond (eqb r.rcode 0 && eqb r.value arg) m l) c j (cond (eqb r.rcode 0) (cond (eqb r.value arg) done (failed r.value)) (refuse j s r.rcode)) false others
swapped l m c j s done failed others t r arg is yes_ no_ = go (eqb r.rcode 0) refl (eqb r.value arg) refl
  where
    go : (b : Bool) → eqb r.rcode 0 ≡ b → (d : Bool) → eqb r.value arg ≡ d → IsInStep (cond (b && d) m l) c j (cond b (cond d done (failed r.value)) (refuse j s r.rcode)) false others
    go true e true f = let v = is.value in yes_ (grind (arith, nat_tests))
    go true e false f = subst (λ v. IsInStep l c j (failed v) false others) (sym is.value) no_
    go false e d f = absurd (grind (arith, nat_tests, is.rcode))

-- a swap that succeeded shows its argument
pub shown_argument : (l : Account) (t : Target) (r : Reply) (arg : ℕ) → IsComplete l t r → (eqb r.rcode 0 && eqb r.value arg) ≡ true → word_of l (register_at t) ≡ arg
shown_argument l t r arg is e = let v = is.value in grind (arith, nat_tests)

-- ---- plugs

-- a connection but a broadcast-in one has an output plug
pub output_plug : (conn : Connection) → is_listen conn ≡ false → (p : PlugAt) × (output_of conn ≡ Some p)
output_plug (PlugToPlug out into) e = (out, refl)
output_plug (BroadcastOut out) e = (out, refl)
output_plug (BroadcastIn into) e = absurd (grind arith)

pub has_output_plug : (conn : Connection) (p : PlugAt) → output_of conn ≡ Some p → is_listen conn ≡ false
has_output_plug (PlugToPlug out into) p e = refl
has_output_plug (BroadcastOut out) p e = refl
has_output_plug (BroadcastIn into) p e = grind arith

-- a register of the plug that there is
pub mapped : (f : PlugAt → Target) (o : Option PlugAt) (t : Target) → option_map f o ≡ Some t → (p : PlugAt) × (o ≡ Some p) × (f p ≡ t)
mapped f None t e = grind arith
mapped f (Some p) t e = (p, refl, grind arith)

pub same_plug_is : (o : Option PlugAt) (p q : PlugAt) → o ≡ Some p → o ≡ Some q → q ≡ p
same_plug_is o p q e f = grind (arith)

pub same_kind_self : (k : ConnectionKind) → same_kind k k ≡ true
same_kind_self PointToPoint = refl
same_kind_self Broadcast = refl

pub at_own_output : (j : Job) (p : PlugAt) → output_of j.connection ≡ Some p → has_output j.connection (kind_of j.connection) p ≡ true
at_own_output j p e = rw e (grind (arith, same_plug_self p, same_kind_self (kind_of j.connection)))

pub at_own_input : (j : Job) (q : PlugAt) → input_of j.connection ≡ Some q → has_input j.connection (kind_of j.connection) q ≡ true
at_own_input j q e = rw e (grind (arith, same_plug_self q, same_kind_self (kind_of j.connection)))

-- ---- the job's own connections

pub own_output : (l : Account) (c : ℕ) (j : Job) (s : Stage) (b : Bool) (others : Others) (p : PlugAt) → IsInStep l c j s b others → output_of j.connection ≡ Some p → is_at_output s ≡ true
    → HasConnection c (kind_of j.connection) (l.outputs p)
own_output l c j s b others p i e at = connection_is c (kind_of j.connection) (l.outputs p) (rw (i.holds.outputs (kind_of j.connection) p) (rw (at, at_own_output j p e) (omega arith)))

pub own_input : (l : Account) (c : ℕ) (j : Job) (s : Stage) (b : Bool) (others : Others) (q : PlugAt) → IsInStep l c j s b others → input_of j.connection ≡ Some q → is_at_input s ≡ true
    → HasConnection c (kind_of j.connection) (l.inputs q)
own_input l c j s b others q i e at = connection_is c (kind_of j.connection) (l.inputs q) (rw (i.holds.inputs (kind_of j.connection) q) (rw (at, at_own_input j q e) (omega arith)))

-- the plug that a stage has seen
pub seen_is : (l : Account) (c : ℕ) (j : Job) (s : Stage) (b : Bool) (others : Others) → IsInStep l c j s b others → sees s ≡ true → (p : PlugAt) → output_of j.connection ≡ Some p → IsSeen l c p
seen_is l c j s b others i e p is = record { addressed = i.addressed p is (rw e refl); found = i.found p is e }
