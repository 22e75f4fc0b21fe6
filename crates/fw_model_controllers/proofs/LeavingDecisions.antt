-- What each decision of a connection that is left leads to.
use Rattle.fw_model_controllers.proofs.Common.{PlugAt, ◌≡◌, ℕ, Bool, true, false, Some, None, is_some, cond, refl, arith, Account, Job, Ending, Broken, LeaveInput, ReadOutputToLeave, LeaveOutput}
use Rattle.fw_model_controllers.proofs.Common.{Ended, output_of, input_of, is_listen, input_left}
use Rattle.fw_plug.specs.Words.{units_of}
use Rattle.fw_model_controllers.proofs.Decisions.{IsNext}
use Rattle.fw_model_controllers.proofs.InputDecisions.{none_at_output}

-- ---- leaving

-- channel and units of the job's output plug
abbrev pub PlugHas : Account → Job → ℕ → ℕ → Type 0
PlugHas l j ch u = (p : PlugAt) → output_of j.connection ≡ Some p → ((l.settings p).channel ≡ ch) × (units_of (l.settings p) ≡ u)

pub leave_input_next : (l : Account) (j : Job) (ch u v : ℕ) (may seen found : Bool) → is_some (input_of j.connection) ≡ true → PlugHas l j ch u
    → IsNext l j None true true may seen found (LeaveInput ch u v)
leave_input_next l j ch u v may seen found there is = record {
  pending = refl;
  output = λ kind q. refl;
  input = λ kind q. refl;
  knows = λ p x. tt;
  flow = is;
  channel = λ q x. tt;
  keeps = tt;
  fresh = tt;
  plugs = λ y. there;
  allocates = λ x. grind arith;
  sees = λ x. grind arith;
  sees_input = λ x. grind arith;
}

pub input_left_next : (l : Account) (j : Job) (ch u : ℕ) (may seen found : Bool) → PlugHas l j ch u → IsNext l j None true false may seen found (input_left j ch u)
input_left_next l j ch u may seen found is = go (is_listen j.connection) refl
  where
    go : (b : Bool) → is_listen j.connection ≡ b → IsNext l j None true false may seen found (cond b (Ended Broken) (ReadOutputToLeave Broken ch u))
    go true e = record {
      pending = refl;
      output = none_at_output j.connection true e;
      input = λ kind q. refl;
      knows = λ p x. tt;
      flow = λ p x. tt;
      channel = λ q x. tt;
      keeps = tt;
      fresh = tt;
      plugs = λ y. grind arith;
      allocates = λ x. grind arith;
      sees = λ x. grind arith;
      sees_input = λ x. grind arith;
    }
    go false e = record {
      pending = refl;
      output = λ kind q. refl;
      input = λ kind q. refl;
      knows = λ p x. tt;
      flow = is;
      channel = λ q x. tt;
      keeps = tt;
      fresh = tt;
      plugs = λ y. grind arith;
      allocates = λ x. grind arith;
      sees = λ x. grind arith;
      sees_input = λ x. grind arith;
    }

pub leave_output_next : (l : Account) (j : Job) (e : Ending) (ch u v : ℕ) (may found : Bool) → PlugHas l j ch u → IsNext l j None true false may true found (LeaveOutput e ch u v)
leave_output_next l j e ch u v may found is = record {
  pending = refl;
  output = λ kind q. refl;
  input = λ kind q. refl;
  knows = λ p x. tt;
  flow = is;
  channel = λ q x. tt;
  keeps = tt;
  fresh = tt;
  plugs = λ y. grind arith;
  allocates = λ x. grind arith;
  sees = λ x. refl;
  sees_input = λ x. grind arith;
}
