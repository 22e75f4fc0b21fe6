-- The half steps of a job that leaves its output plug, and gives back its units and its channel.
use Rattle.fw_model_controllers.proofs.Common.{PlugAt, ◌≡◌, ℕ, ◌+◌, ◌-◌, ◌<◌, ◌≤◌, Bool, true, false, Some, None, cond}
use Rattle.fw_model_controllers.proofs.Common.{leb, refl, ap, ap₂, subst, sym, ◌∙◌, arith, nat_tests, update_plug_same, Reply, is_connected}
use Rattle.fw_model_controllers.proofs.Common.{Pending, Account, has_connection, remainder, DisconnectOutput, ReleaseUnits, ReleaseChannel}
use Rattle.fw_model_controllers.proofs.Common.{Can, after, HasConnection, drop_connection, is_output, IsSound}
use Rattle.fw_model_controllers.proofs.Common.{channel_word, had_connection, Job, Then, EndsAs, Ending}
use Rattle.fw_model_controllers.proofs.Common.{Stage, ReadOutputToLeave, LeaveOutput, ReadBandwidthToRelease, RaiseBandwidth, ReadChannelsToRelease}
use Rattle.fw_model_controllers.proofs.Common.{RestoreChannel, Ended, OutputPlug, Channels, BandwidthAvailable, kind_of, output_of}
use Rattle.fw_model_controllers.proofs.Common.{half_of, one_less, shows_connection, remainder_of, goes_on, is_at_output}
use Rattle.fw_model_controllers.proofs.Common.{at_plug, after_move, Others, reservation, IsInStep, HalfStep}
use Rattle.fw_model_account.specs.Account.{counter}
use Rattle.fw_model_account.proofs.Connections.{fewer_connections}
use Rattle.fw_cmp_jobs.specs.Plugs.{with_bit}
use Rattle.fw_cmp_jobs.specs.Decisions.{decide_leave_out, output_left, decide_raise}
use Rattle.fw_model_controllers.specs.Holding.{plug_reservation}
use Rattle.fw_model_controllers.specs.InStep.{again}
use Rattle.fw_model_controllers.proofs.Words.{output_word, output_shows, shows_connected, shows_own, output_less, remainder_shown}
use Rattle.fw_model_controllers.proofs.Registers.{bit_set, remainder_more}
use Rattle.fw_model_controllers.proofs.Decisions.{IsNext, some_units, ended_next, on_next}
use Rattle.fw_model_controllers.proofs.LeavingDecisions.{leave_output_next}
use Rattle.fw_model_controllers.proofs.ManagerDecisions.{raise_next, release_next, restore_next, released_next}
use Rattle.fw_model_controllers.proofs.Goes.{stays}
use Rattle.fw_model_controllers.proofs.Answers.{IsComplete, complete, heard, swapped, own_output, seen_is}
use Rattle.fw_model_controllers.proofs.Makes.{seen_here, managed, held_is}
use Rattle.fw_model_controllers.proofs.Moved.{Hears, moves_by, moved, reserved_is, one_output, settings_fit, outputs_fit}

-- ---- leaving the output plug

-- the output plug that the job is connected to is there, and shows its connection
there_left : (l : Account) (c : ℕ) (j : Job) (s : Stage) (others : Others) (p : PlugAt) (r : Reply) → Hears l c j s others (OutputPlug p) r → output_of j.connection ≡ Some p → is_at_output s ≡ true
    → is_output l.latest p ≡ true
there_left l c j s others p r x e at = x.sound.there p (grind (arith, had_connection c (kind_of j.connection) (l.outputs p) x.below (own_output l c j s true others p x.step e at)))

shows_left : (l : Account) (c : ℕ) (j : Job) (s : Stage) (others : Others) (p : PlugAt) (r : Reply) → Hears l c j s others (OutputPlug p) r → output_of j.connection ≡ Some p → is_at_output s ≡ true
    → shows_connection (kind_of j.connection) (output_word (l.outputs p) (l.settings p)) ≡ true
shows_left l c j s others p r x e at = shows_own c (kind_of j.connection) _ (l.outputs p) x.below
    (output_shows (l.outputs p) (l.settings p) (outputs_fit l p x.sound) (settings_fit l p x.sound (there_left l c j s others p r x e at))) (own_output l c j s true others p x.step e at)

leave_again : (l : Account) (c : ℕ) (j : Job) (end : Ending) (ch u v : ℕ) (others : Others) → shows_connection (kind_of j.connection) v ≡ true → IsInStep l c j (LeaveOutput end ch u v) false others
    → IsInStep l c j (decide_leave_out j end ch u v) false others
leave_again l c j end ch u v others shows i = rw shows i

pub read_output_to_leave : (l : Account) (c : ℕ) (j : Job) (end : Ending) (ch u : ℕ) (others : Others) (p : PlugAt) (r : Reply) → Hears l c j (ReadOutputToLeave end ch u) others (OutputPlug p) r
    → output_of j.connection ≡ Some p → HalfStep l c j (ReadOutputToLeave end ch u) others (OutputPlug p) r
read_output_to_leave l c j end ch u others p r x e = record {
  moves = λ swap g y. absurd (grind arith);
  step = heard l c j (ReadOutputToLeave end ch u) others (OutputPlug p) r (complete l (OutputPlug p) r x.answer there)
      (leave_again l c j end ch u (output_word (l.outputs p) (l.settings p)) others (shows_left l c j (ReadOutputToLeave end ch u) others p r x e refl)
      (stays l c j (ReadOutputToLeave end ch u) (LeaveOutput end ch u (output_word (l.outputs p) (l.settings p))) others true false refl x.step
      (λ y. seen_here l c j p (x.step.addressed p e refl) there e) (λ y. absurd (grind arith))
      (leave_output_next l j end ch u (output_word (l.outputs p) (l.settings p)) false false x.step.knows_flow)));
}
  where
    there : is_output l.latest p ≡ true
    there = there_left l c j (ReadOutputToLeave end ch u) others p r x e refl

can_leave : (l : Account) (c : ℕ) (j : Job) (end : Ending) (ch u arg : ℕ) (others : Others) (p : PlugAt) (r : Reply) → Hears l c j (LeaveOutput end ch u arg) others (OutputPlug p) r
    → output_of j.connection ≡ Some p → Can c p (DisconnectOutput (kind_of j.connection)) l
can_leave l c j end ch u arg others p r x e = record {
  has = own_output l c j (LeaveOutput end ch u arg) true others p x.step e refl;
  last = λ gone. (x.step.holds.reserved, x.step.addressed p e refl);
}

-- the plug shows whether it is still connected
still_shown : (l : Account) (c : ℕ) (j : Job) (p : PlugAt) → c < 63 → IsSound l → is_output l.latest p ≡ true → HasConnection c (kind_of j.connection) (l.outputs p)
    → counter (drop_connection c (kind_of j.connection) (l.outputs p)) ≤ 63
    → is_connected (one_less (kind_of j.connection) (output_word (l.outputs p) (l.settings p))) ≡ has_connection (drop_connection c (kind_of j.connection) (l.outputs p))
still_shown l c j p lt s there has few = ap is_connected (sym (output_less c (kind_of j.connection) (l.outputs p) (l.settings p) lt has))
    ∙ shows_connected _ (drop_connection c (kind_of j.connection) (l.outputs p)) (output_shows (drop_connection c (kind_of j.connection) (l.outputs p)) (l.settings p) few (settings_fit l p s there))

pub leave_output : (l : Account) (c : ℕ) (j : Job) (end : Ending) (ch u arg : ℕ) (others : Others) (p : PlugAt) (r : Reply) → Hears l c j (LeaveOutput end ch u arg) others (OutputPlug p) r
    → output_of j.connection ≡ Some p → HalfStep l c j (LeaveOutput end ch u arg) others (OutputPlug p) r
leave_output l c j end ch u arg others p r x e = record {
  moves = moves_by l c (OutputPlug p) r (record { argument = arg; new = one_less (kind_of j.connection) arg }) _ is (λ v. record {
    plug = p;
    move = DisconnectOutput (kind_of j.connection);
    move_is = ap (λ o. at_plug o (DisconnectOutput (kind_of j.connection))) e;
    is_move = record {
      can = can;
      place = refl;
      before = v;
      later = ap (λ y. output_word y (l.settings p)) (update_plug_same l.outputs p (drop_connection c (kind_of j.connection) (l.outputs p)))
          ∙ (output_less c (kind_of j.connection) (l.outputs p) (l.settings p) x.below can.has ∙ ap (one_less (kind_of j.connection)) v);
    };
  });
  step = swapped l (after_move c (at_plug (output_of j.connection) (DisconnectOutput (kind_of j.connection))) l) c j (LeaveOutput end ch u arg) (output_left j end ch u arg)
      (decide_leave_out j end ch u) others (OutputPlug p) r arg is
      (λ v. subst (λ o. IsInStep (after_move c (at_plug o (DisconnectOutput (kind_of j.connection))) l) c j (output_left j end ch u arg) false others) (sym e)
      (done (has_connection (drop_connection c (kind_of j.connection) (l.outputs p))) refl
      (ap (λ w. is_connected (one_less (kind_of j.connection) w)) v ∙ still_shown l c j p x.below x.sound there can.has few)))
      (leave_again l c j end ch u (output_word (l.outputs p) (l.settings p)) others (shows_left l c j (LeaveOutput end ch u arg) others p r x e refl)
      (stays l c j (LeaveOutput end ch u arg) (LeaveOutput end ch u (output_word (l.outputs p) (l.settings p))) others true false refl x.step
      (λ y. seen_is l c j (LeaveOutput end ch u arg) true others x.step refl) (λ y. absurd (grind arith))
      (leave_output_next l j end ch u (output_word (l.outputs p) (l.settings p)) false false x.step.knows_flow)));
}
  where
    can : Can c p (DisconnectOutput (kind_of j.connection)) l
    can = can_leave l c j end ch u arg others p r x e

    there : is_output l.latest p ≡ true
    there = there_left l c j (LeaveOutput end ch u arg) others p r x e refl

    few : counter (drop_connection c (kind_of j.connection) (l.outputs p)) ≤ 63
    few = omega (arith, outputs_fit l p x.sound, fewer_connections c (kind_of j.connection) (l.outputs p) x.below)

    is : IsComplete l (OutputPlug p) r
    is = complete l (OutputPlug p) r x.answer there

    -- if it was the last, the plug's channel and units are the job's
    reserved : (b : Bool) → has_connection (drop_connection c (kind_of j.connection) (l.outputs p)) ≡ b → b ≡ false
        → Some (plug_reservation p l) ≡ reservation (output_of j.connection) (Some (record { channel = ch; units = u }))
    reserved b e' f = ap₂ (λ k n. Some (record { plug = p; channel = k; units = n })) (x.step.knows_flow p e).0 (x.step.knows_flow p e).1 ∙ reserved_is j p (record { channel = ch; units = u }) e

    done : (b : Bool) → has_connection (drop_connection c (kind_of j.connection) (l.outputs p)) ≡ b
        → is_connected (one_less (kind_of j.connection) arg) ≡ has_connection (drop_connection c (kind_of j.connection) (l.outputs p))
        → IsInStep (after c p (DisconnectOutput (kind_of j.connection)) l) c j (output_left j end ch u arg) false others
    done true still same = rw (same ∙ still)
        (moved l c j (LeaveOutput end ch u arg) (Ended end) others p (DisconnectOutput (kind_of j.connection)) None false false false false x.below x.sound can refl x.step (λ y. absurd (grind arith))
        (λ y. absurd (grind arith)) (ended_next (after c p (DisconnectOutput (kind_of j.connection)) l) j end false false false)
        (record { reserved = rw still refl; outputs = λ kind q. omega (arith, one_output j p e kind q); inputs = λ kind q. refl }))
    done false gone same = rw (same ∙ gone)
        (moved l c j (LeaveOutput end ch u arg) (ReadBandwidthToRelease (EndsAs end) ch u) others p (DisconnectOutput (kind_of j.connection))
        (Some (record { channel = ch; units = u })) false false false false x.below x.sound can refl x.step (λ y. absurd (grind arith)) (λ y. absurd (grind arith))
        (release_next (after c p (DisconnectOutput (kind_of j.connection)) l) j (EndsAs end) ch u false false false (rw (sym (x.step.knows_flow p e).1) (some_units (l.settings p))) (λ y. y))
        (record { reserved = rw gone (reserved false gone refl); outputs = λ kind q. omega (arith, one_output j p e kind q); inputs = λ kind q. refl }))

-- ---- giving back

-- what is given back fits, since it was allocated
raised : (l : Account) (c : ℕ) (j : Job) (next : Then) (ch u : ℕ) (p : PlugAt) (others : Others) (may : Bool) → IsSound l → ch < 64
    → l.allocations ch ≡ Some (record { holder = Pending c p; units = u }) → 0 < u → (again next ≡ true → may ≡ true)
    → IsNext l j (Some (record { channel = ch; units = u })) false false may false false (decide_raise next ch u (remainder l))
raised l c j next ch u p others may s lt held some f = go (leb (u + remainder_of (remainder l)) 4915) refl
  where
    fits : u + remainder_of (remainder l) ≤ 4915
    fits = let v = remainder_shown (remainder l) (omega arith) in let more = remainder_more l c p ch u s lt held in omega arith

    go : (b : Bool) → leb (u + remainder_of (remainder l)) 4915 ≡ b
        → IsNext l j (Some (record { channel = ch; units = u })) false false may false false (cond b (RaiseBandwidth next ch u (remainder l)) (ReadChannelsToRelease next ch))
    go true e = raise_next l j next ch u (remainder l) may false false some f
    go false e = absurd (grind (arith, nat_tests, fits))

pub read_bandwidth_to_release : (l : Account) (c : ℕ) (j : Job) (next : Then) (ch u : ℕ) (others : Others) (p : PlugAt) (r : Reply)
    → Hears l c j (ReadBandwidthToRelease next ch u) others BandwidthAvailable r → output_of j.connection ≡ Some p → HalfStep l c j (ReadBandwidthToRelease next ch u) others BandwidthAvailable r
read_bandwidth_to_release l c j next ch u others p r x e =
    let held = held_is l c j (ReadBandwidthToRelease next ch u) true others p (record { channel = ch; units = u }) x.step e refl in
    record {
      moves = λ swap g y. absurd (grind arith);
      step = heard l c j (ReadBandwidthToRelease next ch u) others BandwidthAvailable r (managed l c j (ReadBandwidthToRelease next ch u) others BandwidthAvailable p r x e refl refl)
          (stays l c j (ReadBandwidthToRelease next ch u) (decide_raise next ch u (remainder l)) others false false refl x.step (λ y. absurd (grind arith)) (λ y. absurd (grind arith))
          (raised l c j next ch u p others (again next) x.sound held.0 held.1 (x.step.knows p e) (λ y. y)));
    }

can_release_units : (l : Account) (c : ℕ) (j : Job) (next : Then) (ch u arg : ℕ) (others : Others) (p : PlugAt) (r : Reply) → Hears l c j (RaiseBandwidth next ch u arg) others BandwidthAvailable r
    → output_of j.connection ≡ Some p → Can c p (ReleaseUnits ch u) l
can_release_units l c j next ch u arg others p r x e =
    let held = held_is l c j (RaiseBandwidth next ch u arg) true others p (record { channel = ch; units = u }) x.step e refl in
    record { addressed = x.sound.for_addressed c ch p u held.1; within = held.0; some = x.step.knows p e; held = held.1 }

pub raise_bandwidth : (l : Account) (c : ℕ) (j : Job) (next : Then) (ch u arg : ℕ) (others : Others) (p : PlugAt) (r : Reply) → Hears l c j (RaiseBandwidth next ch u arg) others BandwidthAvailable r
    → output_of j.connection ≡ Some p → HalfStep l c j (RaiseBandwidth next ch u arg) others BandwidthAvailable r
raise_bandwidth l c j next ch u arg others p r x e = record {
  moves = moves_by l c BandwidthAvailable r (record { argument = arg; new = arg + u }) _ is (λ v. record {
    plug = p;
    move = ReleaseUnits ch u;
    move_is = ap (λ o. at_plug o (ReleaseUnits ch u)) e;
    is_move = record { can = can; place = refl; before = v; later = remainder_more l c p ch u x.sound can.within can.held ∙ ap (λ y. y + u) v };
  });
  step = swapped l (after_move c (at_plug (output_of j.connection) (ReleaseUnits ch u)) l) c j (RaiseBandwidth next ch u arg) (ReadChannelsToRelease next ch)
      (decide_raise next ch u) others BandwidthAvailable r arg is
      (λ v. subst (λ o. IsInStep (after_move c (at_plug o (ReleaseUnits ch u)) l) c j (ReadChannelsToRelease next ch) false others) (sym e) done)
      (stays l c j (RaiseBandwidth next ch u arg) (decide_raise next ch u (remainder l)) others false false refl x.step (λ y. absurd (grind arith)) (λ y. absurd (grind arith))
      (raised l c j next ch u p others (again next) x.sound can.within can.held can.some (λ y. y)));
}
  where
    can : Can c p (ReleaseUnits ch u) l
    can = can_release_units l c j next ch u arg others p r x e

    is : IsComplete l BandwidthAvailable r
    is = managed l c j (RaiseBandwidth next ch u arg) others BandwidthAvailable p r x e refl refl

    done : IsInStep (after c p (ReleaseUnits ch u) l) c j (ReadChannelsToRelease next ch) false others
    done =
        let n = released_next (after c p (ReleaseUnits ch u) l) j next ch (again next) false false (λ y. y) in
        moved l c j (RaiseBandwidth next ch u arg) (ReadChannelsToRelease next ch) others p (ReleaseUnits ch u)
        (Some (record { channel = ch; units = 0 })) false false false false x.below x.sound can refl x.step (λ y. absurd (grind arith)) (λ y. absurd (grind arith)) n
        (record { reserved = reserved_is j p (record { channel = ch; units = 0 }) e; outputs = λ kind q. refl; inputs = λ kind q. refl })

pub read_channels_to_release : (l : Account) (c : ℕ) (j : Job) (next : Then) (ch : ℕ) (others : Others) (p : PlugAt) (r : Reply)
    → Hears l c j (ReadChannelsToRelease next ch) others (Channels (half_of ch)) r → output_of j.connection ≡ Some p → HalfStep l c j (ReadChannelsToRelease next ch) others (Channels (half_of ch)) r
read_channels_to_release l c j next ch others p r x e = record {
  moves = λ swap g y. absurd (grind arith);
  step = heard l c j (ReadChannelsToRelease next ch) others (Channels (half_of ch)) r (managed l c j (ReadChannelsToRelease next ch) others (Channels (half_of ch)) p r x e refl refl)
      (stays l c j (ReadChannelsToRelease next ch) (RestoreChannel next ch (channel_word l (half_of ch))) others false false refl x.step (λ y. absurd (grind arith)) (λ y. absurd (grind arith))
      (restore_next l j next ch (channel_word l (half_of ch)) (again next) false false (λ y. y)));
}

pub restore_channel : (l : Account) (c : ℕ) (j : Job) (next : Then) (ch arg : ℕ) (others : Others) (p : PlugAt) (r : Reply) → Hears l c j (RestoreChannel next ch arg) others (Channels (half_of ch)) r
    → output_of j.connection ≡ Some p → HalfStep l c j (RestoreChannel next ch arg) others (Channels (half_of ch)) r
restore_channel l c j next ch arg others p r x e = record {
  moves = moves_by l c (Channels (half_of ch)) r (record { argument = arg; new = with_bit arg (ch - half_of ch) }) _ is (λ v. record {
    plug = p;
    move = ReleaseChannel ch;
    move_is = ap (λ o. at_plug o (ReleaseChannel ch)) e;
    is_move = record { can = can; place = refl; before = v; later = bit_set l c p ch 0 x.sound can.within can.held ∙ ap (λ y. with_bit y (ch - half_of ch)) v };
  });
  step = swapped l (after_move c (at_plug (output_of j.connection) (ReleaseChannel ch)) l) c j (RestoreChannel next ch arg) (goes_on next) (λ v. RestoreChannel next ch v) others
      (Channels (half_of ch)) r arg is
      (λ v. subst (λ o. IsInStep (after_move c (at_plug o (ReleaseChannel ch)) l) c j (goes_on next) false others) (sym e) done)
      (stays l c j (RestoreChannel next ch arg) (RestoreChannel next ch (channel_word l (half_of ch))) others false false refl x.step (λ y. absurd (grind arith)) (λ y. absurd (grind arith))
      (restore_next l j next ch (channel_word l (half_of ch)) (again next) false false (λ y. y)));
}
  where
    can : Can c p (ReleaseChannel ch) l
    can = let held = held_is l c j (RestoreChannel next ch arg) true others p (record { channel = ch; units = 0 }) x.step e refl in record { within = held.0; held = held.1 }

    is : IsComplete l (Channels (half_of ch)) r
    is = managed l c j (RestoreChannel next ch arg) others (Channels (half_of ch)) p r x e refl refl

    done : IsInStep (after c p (ReleaseChannel ch) l) c j (goes_on next) false others
    done =
        let n = on_next (after c p (ReleaseChannel ch) l) j next (again next) false false (λ y. y) in
        moved l c j (RestoreChannel next ch arg) (goes_on next) others p (ReleaseChannel ch) None false false false false x.below x.sound can refl x.step (λ y. absurd (grind arith))
        (λ y. absurd (grind arith)) n
        (record {
          reserved = ap (reservation (output_of j.connection)) (sym n.pending);
          outputs = λ kind q. ap (λ y. others.outputs kind q + y) (sym (n.output kind q));
          inputs = λ kind q. ap (λ y. others.inputs kind q + y) (sym (n.input kind q));
        })
