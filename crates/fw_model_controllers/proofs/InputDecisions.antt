-- What each decision of the input plug leads to, and of a connection that is made.
use Rattle.fw_model_controllers.proofs.Common.{PlugAt, ConnectionKind, ◌≡◌, ℕ, Bool, true, false, Some, None, is_some, eqb, cond, refl, arith, ◌&&◌, nat_tests, is_connected, Account, Connection}
use Rattle.fw_model_controllers.proofs.Common.{PlugToPlug, BroadcastOut, BroadcastIn, Flow, Job, Ending, ReadInput, ConnectInput, Made, Ended, output_of, input_of, is_listen, channel_of, counter_of}
use Rattle.fw_model_controllers.proofs.Common.{has_broadcast, output_joined, decide_in, has_output, has_input, count_of, IsFlow}
use Rattle.std.specs.Prelude.{not}
use Rattle.fw_cmp_jobs.specs.declared.job.Ending.TheVariants.{PlugFull, InputBusy}
use Rattle.fw_cmp_jobs.specs.Connections.{is_point_to_point}
use Rattle.fw_cmp_jobs.specs.Decisions.{leave_output, listen_flow, decide_listen, decide_point_to_point}
use Rattle.fw_model_controllers.proofs.Decisions.{IsNext}

-- ---- the input plug

-- the job's output plug is set to this flow
abbrev pub FlowIs : Account → Job → Flow → Type 0
FlowIs l j f = (p : PlugAt) → output_of j.connection ≡ Some p → IsFlow (l.settings p) f

leave_next : (l : Account) (j : Job) (e : Ending) (f : Flow) (may seen found : Bool) → is_listen j.connection ≡ false → FlowIs l j f
    → IsNext l j None true false may seen found (leave_output j.connection e f)
leave_next l j e f may seen found no_listen is = rw no_listen
    (record {
      pending = refl;
      output = λ kind q. refl;
      input = λ kind q. refl;
      knows = λ p x. tt;
      flow = λ p x. let k = is p x in
          (k.channel, k.units);
      channel = λ q x. tt;
      keeps = tt;
      fresh = tt;
      plugs = λ y. grind arith;
      allocates = λ x. grind arith;
      sees = λ x. grind arith;
      sees_input = λ x. grind arith;
    })

connect_next : (l : Account) (j : Job) (f : Flow) (w : ℕ) (may seen : Bool) → is_some (input_of j.connection) ≡ true → FlowIs l j f → (is_connected w ≡ true → channel_of w ≡ f.channel)
    → IsNext l j None true false may seen true (ConnectInput f w)
connect_next l j f w may seen there is same = record {
  pending = refl;
  output = λ kind q. refl;
  input = λ kind q. refl;
  knows = λ p x. tt;
  flow = is;
  channel = λ q x. tt;
  keeps = same;
  fresh = tt;
  plugs = λ y. there;
  allocates = λ x. grind arith;
  sees = λ x. grind arith;
  sees_input = λ x. refl;
}

-- a broadcast-in connection has no output plug
pub no_output : (conn : Connection) (p : PlugAt) → is_listen conn ≡ true → output_of conn ≡ Some p → ⊥
no_output (PlugToPlug out into) p e x = grind arith
no_output (BroadcastOut out) p e x = grind arith
no_output (BroadcastIn into) p e x = grind arith

pub none_at_output : (conn : Connection) (b : Bool) → is_listen conn ≡ true → (kind : ConnectionKind) (q : PlugAt) → 0 ≡ count_of (b && has_output conn kind q)
none_at_output (PlugToPlug out into) b e kind q = grind arith
none_at_output (BroadcastOut out) b e kind q = grind arith
none_at_output (BroadcastIn into) true e kind q = refl
none_at_output (BroadcastIn into) false e kind q = refl

-- a broadcast-out connection has no input plug
no_input : (conn : Connection) (p : PlugAt) → is_listen conn ≡ false → is_point_to_point conn ≡ false → input_of conn ≡ Some p → ⊥
no_input (PlugToPlug out into) p e x y = grind arith
no_input (BroadcastOut out) p e x y = grind arith
no_input (BroadcastIn into) p e x y = grind arith

none_at_input : (conn : Connection) (b : Bool) → is_listen conn ≡ false → is_point_to_point conn ≡ false → (kind : ConnectionKind) (q : PlugAt) → count_of (b && has_input conn kind q) ≡ 0
none_at_input (PlugToPlug out into) b e x kind q = grind arith
none_at_input (BroadcastOut out) true e x kind q = refl
none_at_input (BroadcastOut out) false e x kind q = refl
none_at_input (BroadcastIn into) b e x kind q = grind arith

listen_next : (l : Account) (j : Job) (f : Flow) (w : ℕ) (may seen : Bool) → is_some (input_of j.connection) ≡ true → is_listen j.connection ≡ true
    → IsNext l j None true false may seen true (decide_listen j f w)
listen_next l j f w may seen there listens = go (has_broadcast w)
  where
    go : (b : Bool) → IsNext l j None true false may seen true (cond b (Ended (InputBusy w)) (ConnectInput (listen_flow j f w) w))
    go true = record {
      pending = refl;
      output = none_at_output j.connection true listens;
      input = λ kind q. refl;
      knows = λ p x. tt;
      flow = λ p x. tt;
      channel = λ q x. tt;
      keeps = tt;
      fresh = tt;
      plugs = λ y. grind arith;
      allocates = λ x. grind arith;
      sees = λ x. grind arith;
      sees_input = λ x. grind arith;
    }
    go false = connect_next l j (listen_flow j f w) w may seen there (λ p x. absurd (no_output j.connection p listens x)) (λ e. rw e refl)

point_to_point_next : (l : Account) (j : Job) (f : Flow) (w : ℕ) (may seen : Bool) → is_some (input_of j.connection) ≡ true → is_listen j.connection ≡ false → FlowIs l j f
    → IsNext l j None true false may seen true (decide_point_to_point j f w)
point_to_point_next l j f w may seen there no_listen is = go (is_connected w) refl (eqb (channel_of w) f.channel) refl (eqb (counter_of w) 63)
  where
    go : (b : Bool) → is_connected w ≡ b → (d : Bool) → eqb (channel_of w) f.channel ≡ d → (full : Bool)
        → IsNext l j None true false may seen true (cond (b && not d) (leave_output j.connection (InputBusy w) f) (cond full (leave_output j.connection (PlugFull w) f) (ConnectInput f w)))
    go true e false g full = leave_next l j (InputBusy w) f may seen true no_listen is
    go true e true g true = leave_next l j (PlugFull w) f may seen true no_listen is
    go true e true g false = connect_next l j f w may seen there is (λ x. grind (arith, nat_tests))
    go false e d g true = leave_next l j (PlugFull w) f may seen true no_listen is
    go false e d g false = connect_next l j f w may seen there is (λ x. grind (arith, nat_tests))

pub in_next : (l : Account) (j : Job) (f : Flow) (w : ℕ) (may seen : Bool) → is_some (input_of j.connection) ≡ true → FlowIs l j f → IsNext l j None true false may seen true (decide_in j f w)
in_next l j f w may seen there is = go (is_listen j.connection) refl
  where
    go : (b : Bool) → is_listen j.connection ≡ b → IsNext l j None true false may seen true (cond b (decide_listen j f w) (decide_point_to_point j f w))
    go true e = listen_next l j f w may seen there e
    go false e = point_to_point_next l j f w may seen there e is

-- the node of the input plug refused
pub refused_next : (l : Account) (j : Job) (e : Ending) (f : Flow) (may seen found : Bool) → FlowIs l j f → IsNext l j None true false may seen found (leave_output j.connection e f)
refused_next l j e f may seen found is = go (is_listen j.connection) refl
  where
    go : (b : Bool) → is_listen j.connection ≡ b → IsNext l j None true false may seen found (leave_output j.connection e f)
    go true x = rw x (record {
      pending = refl;
      output = none_at_output j.connection true x;
      input = λ kind q. refl;
      knows = λ p y. tt;
      flow = λ p y. tt;
      channel = λ q y. tt;
      keeps = tt;
      fresh = tt;
      plugs = λ y. grind arith;
      allocates = λ y. grind arith;
      sees = λ y. grind arith;
      sees_input = λ y. grind arith;
    })
    go false x = leave_next l j e f may seen found x is

-- ---- connected

both_plugs : (conn : Connection) → is_point_to_point conn ≡ true → is_some (input_of conn) ≡ true
both_plugs (PlugToPlug out into) e = refl
both_plugs (BroadcastOut out) e = grind arith
both_plugs (BroadcastIn into) e = grind arith

pub joined_next : (l : Account) (j : Job) (f : Flow) (may seen found : Bool) → is_listen j.connection ≡ false → FlowIs l j f → IsNext l j None true false may seen found (output_joined j f)
joined_next l j f may seen found no_listen is = go (is_point_to_point j.connection) refl
  where
    go : (b : Bool) → is_point_to_point j.connection ≡ b → IsNext l j None true false may seen found (cond b (ReadInput f) (Made f))
    go true e = record {
      pending = refl;
      output = λ kind q. refl;
      input = λ kind q. refl;
      knows = λ p x. tt;
      flow = is;
      channel = λ q x. tt;
      keeps = tt;
      fresh = tt;
      plugs = λ y. both_plugs j.connection e;
      allocates = λ x. grind arith;
      sees = λ x. grind arith;
      sees_input = λ x. grind arith;
    }
    go false e = record {
      pending = refl;
      output = λ kind q. refl;
      input = none_at_input j.connection true no_listen e;
      knows = λ p x. tt;
      flow = is;
      channel = λ q x. absurd (no_input j.connection q no_listen e x);
      keeps = tt;
      fresh = tt;
      plugs = λ y. grind arith;
      allocates = λ x. grind arith;
      sees = λ x. grind arith;
      sees_input =
          λ x. grind arith;
    }

pub made_next : (l : Account) (j : Job) (f : Flow) (may seen found : Bool) → FlowIs l j f → ((q : PlugAt) → input_of j.connection ≡ Some q → l.input_channel q ≡ f.channel)
    → IsNext l j None true true may seen found (Made f)
made_next l j f may seen found is channel = record {
  pending = refl;
  output = λ kind q. refl;
  input = λ kind q. refl;
  knows = λ p x. tt;
  flow = is;
  channel = channel;
  keeps = tt;
  fresh = tt;
  plugs = λ y. grind arith;
  allocates = λ x. grind arith;
  sees = λ x. grind arith;
  sees_input = λ x. grind arith;
}
