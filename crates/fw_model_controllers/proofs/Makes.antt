-- The half steps of a job that allocates a channel and units, and connects its output plug.
use Rattle.fw_model_controllers.proofs.Common.{PlugAt, ◌≡◌, ℕ, ◌-◌, ◌<◌, Bool, true, false, Option, Some, None, refl}
use Rattle.fw_model_controllers.proofs.Common.{ap, subst, sym, ◌∙◌, arith, nat_tests, Reply, Pending, Account, remainder, AllocateChannel}
use Rattle.fw_model_controllers.proofs.Common.{AllocateUnits, Can, after, is_output, IsSound, channel_word, Job, HeldResources}
use Rattle.fw_model_controllers.proofs.Common.{NoPlug, Stage, ReadOutput, ReadChannels, SwapChannels, ReadBandwidth, SwapBandwidth}
use Rattle.fw_model_controllers.proofs.Common.{ConnectOutput, Target, OutputPlug, Channels, BandwidthAvailable, output_of, half_of}
use Rattle.fw_model_controllers.proofs.Common.{remainder_of, needs, decide_channel, decide_units, decide_out, hear_reply}
use Rattle.fw_model_controllers.proofs.Common.{pending_of, HasReserved, stands, has_manager, at_plug, after_move, Others, reservation, units_at, MayReclaim, IsInStep, HalfStep}
use Rattle.fw_cmp_jobs.specs.Plugs.{without_bit, units_with}
use Rattle.fw_cmp_jobs.specs.Decisions.{units_or, is_other}
use Rattle.fw_model_controllers.specs.InStep.{works}
use Rattle.fw_model_controllers.proofs.Words.{output_word, units_shown, remainder_shown}
use Rattle.fw_model_controllers.proofs.Registers.{open_is, bit_cleared, remainder_less}
use Rattle.fw_model_controllers.proofs.Decisions.{some_units, NeedsAre, ended_next, out_next}
use Rattle.fw_model_controllers.proofs.ManagerDecisions.{channel_next, units_next, allocated_next, funded_next}
use Rattle.fw_model_controllers.proofs.Goes.{IsSeen, stays}
use Rattle.fw_model_controllers.proofs.Answers.{IsComplete, complete, heard, was_refused, swapped, has_output_plug, same_plug_is, seen_is}
use Rattle.fw_model_controllers.proofs.Moved.{Hears, moves_by, moved, reserved_is, stays_at_plugs, settings_fit, outputs_fit}

-- ---- reading the output plug

-- what the job needs by the word of its output plug
needs_by : (l : Account) (j : Job) (p : PlugAt) (units : Option ℕ) → IsSound l → is_output l.latest p ≡ true → ((u : ℕ) → units ≡ Some u → u ≡ units_at (l.settings p).rate j.overhead)
    → units_or units (units_with j.overhead (output_word (l.outputs p) (l.settings p))) ≡ units_at (l.settings p).rate j.overhead
needs_by l j p None s there f = units_shown (l.outputs p) (l.settings p) j.overhead (outputs_fit l p s) (settings_fit l p s there)
needs_by l j p (Some u) s there f = f u refl

pub needs_are : (l : Account) (c : ℕ) (j : Job) (s : Stage) (b : Bool) (others : Others) (p : PlugAt) → IsSound l → IsInStep l c j s b others → output_of j.connection ≡ Some p
    → is_output l.latest p ≡ true → NeedsAre l j (output_word (l.outputs p) (l.settings p))
needs_are l c j s b others p sound i e there q f = subst (λ x. needs j (output_word (l.outputs p) (l.settings p)) ≡ units_at (l.settings x).rate j.overhead)
    (sym (same_plug_is (output_of j.connection) p q e f)) (needs_by l j p j.units sound there (λ u g. i.units p u e g))

pub seen_here : (l : Account) (c : ℕ) (j : Job) (p : PlugAt) → l.addressed c ≡ Some p → is_output l.latest p ≡ true → output_of j.connection ≡ Some p → (q : PlugAt) → output_of j.connection ≡ Some q
    → IsSeen l c q
seen_here l c j p addressed there e q f = subst (λ x. IsSeen l c x) (sym (same_plug_is (output_of j.connection) p q e f)) (record { addressed = addressed; found = there })

pub read_output : (l : Account) (c : ℕ) (j : Job) (others : Others) (p : PlugAt) (r : Reply) → Hears l c j ReadOutput others (OutputPlug p) r → output_of j.connection ≡ Some p
    → HalfStep l c j ReadOutput others (OutputPlug p) r
read_output l c j others p r x e = record { moves = λ swap f y. absurd (grind arith); step = go (stands l.latest (OutputPlug p)) refl }
  where
    go : (b : Bool) → is_output l.latest p ≡ b → IsInStep l c j (hear_reply j ReadOutput r) false others
    go true there = heard l c j ReadOutput others (OutputPlug p) r (complete l (OutputPlug p) r x.answer there)
        (stays l c j ReadOutput (decide_out j None (output_word (l.outputs p) (l.settings p))) others true false refl x.step (λ y. seen_here l c j p (x.step.addressed p e refl) there e)
        (λ y. absurd (grind arith)) (out_next l j (output_word (l.outputs p) (l.settings p)) false (needs_are l c j ReadOutput true others p x.sound x.step e there)))
    go false gone = was_refused l c j ReadOutput others r (x.answer.refused gone)
        (stays l c j ReadOutput _ others false false refl x.step (λ y. absurd (grind arith)) (λ y. absurd (grind arith)) (ended_next l j (NoPlug r.rcode) true false false))

-- ---- the manager's registers

pub managed : (l : Account) (c : ℕ) (j : Job) (s : Stage) (others : Others) (t : Target) (p : PlugAt) (r : Reply) → Hears l c j s others t r → output_of j.connection ≡ Some p → works s ≡ true
    → stands l.latest t ≡ has_manager l.latest → IsComplete l t r
managed l c j s others t p r x e working same = complete l t r x.answer (same ∙ x.step.manager (has_output_plug j.connection p e) working)

pub read_channels : (l : Account) (c : ℕ) (j : Job) (base w : ℕ) (others : Others) (p : PlugAt) (r : Reply) → Hears l c j (ReadChannels base w) others (Channels base) r
    → output_of j.connection ≡ Some p → HalfStep l c j (ReadChannels base w) others (Channels base) r
read_channels l c j base w others p r x e = record {
  moves = λ swap f y. absurd (grind arith);
  step = heard l c j (ReadChannels base w) others (Channels base) r (managed l c j (ReadChannels base w) others (Channels base) p r x e refl refl)
      (stays l c j (ReadChannels base w) (decide_channel j j.asked base w (channel_word l base)) others true false refl x.step (λ y. seen_is l c j (ReadChannels base w) true others x.step refl)
      (λ y. absurd (grind arith)) (channel_next l j base w (channel_word l base) false x.step.knows));
}

-- the channel that a job may reclaim is the one that it wants
pub reclaim_is : (l : Account) (p : PlugAt) (j : Job) (ch : ℕ) → MayReclaim l p j → is_other j.asked ch ≡ false
    → l.reclaimable ch ≡ Some (record { plug = p; units = units_at (l.settings p).rate j.overhead })
reclaim_is l p j ch m own = let same : m.0 ≡ ch = asked_is j.asked m.0 ch m.1 own in rw (sym same) m.2
  where
    asked_is : (o : Option ℕ) (k ch : ℕ) → o ≡ Some k → is_other o ch ≡ false → k ≡ ch
    asked_is None k ch e f = grind arith
    asked_is (Some a) k ch e f = grind (arith, nat_tests)

can_allocate_channel : (l : Account) (c : ℕ) (j : Job) (ch arg w : ℕ) (others : Others) (p : PlugAt) (r : Reply) → Hears l c j (SwapChannels ch arg w) others (Channels (half_of ch)) r
    → output_of j.connection ≡ Some p → channel_word l (half_of ch) ≡ arg → Can c p (AllocateChannel ch) l
can_allocate_channel l c j ch arg w others p r x e v = record {
  addressed = x.step.addressed p e refl;
  within = x.stage.1;
  available = open_is l ch x.stage.1 (rw v x.stage.3);
  no_pending = x.step.holds.reserved;
  reclaims = λ runs. (_, reclaim_is l p j ch (x.step.reclaims p e runs refl) (x.step.knows p e).0);
}

pub swap_channels : (l : Account) (c : ℕ) (j : Job) (ch arg w : ℕ) (others : Others) (p : PlugAt) (r : Reply) → Hears l c j (SwapChannels ch arg w) others (Channels (half_of ch)) r
    → output_of j.connection ≡ Some p → HalfStep l c j (SwapChannels ch arg w) others (Channels (half_of ch)) r
swap_channels l c j ch arg w others p r x e = record {
  moves = moves_by l c (Channels (half_of ch)) r (record { argument = arg; new = without_bit arg (ch - half_of ch) }) _ is
      (λ v. let can = can_allocate_channel l c j ch arg w others p r x e v in record {
        plug = p;
        move = AllocateChannel ch;
        move_is = ap (λ o. at_plug o (AllocateChannel ch)) e;
        is_move = record { can = can; place = refl; before = v; later = bit_cleared l c p ch can.within can.available (rw v x.stage.3) ∙ ap (λ y. without_bit y (ch - half_of ch)) v };
      });
  step = swapped l (after_move c (at_plug (output_of j.connection) (AllocateChannel ch)) l) c j (SwapChannels ch arg w) (ReadBandwidth ch w) (decide_channel j j.asked (half_of ch) w) others
      (Channels (half_of ch)) r arg is
      (λ v. subst (λ o. IsInStep (after_move c (at_plug o (AllocateChannel ch)) l) c j (ReadBandwidth ch w) false others) (sym e) (done (can_allocate_channel l c j ch arg w others p r x e (sym v))))
      (stays l c j (SwapChannels ch arg w) (decide_channel j j.asked (half_of ch) w (channel_word l (half_of ch))) others true false refl x.step
      (λ y. seen_is l c j (SwapChannels ch arg w) true others x.step refl) (λ y. absurd (grind arith))
      (channel_next l j (half_of ch) w (channel_word l (half_of ch)) false (λ q f. (x.step.knows q f).1)));
}
  where
    is : IsComplete l (Channels (half_of ch)) r
    is = managed l c j (SwapChannels ch arg w) others (Channels (half_of ch)) p r x e refl refl

    done : Can c p (AllocateChannel ch) l → IsInStep (after c p (AllocateChannel ch) l) c j (ReadBandwidth ch w) false others
    done can =
        let n = allocated_next (after c p (AllocateChannel ch) l) j ch w false (x.step.knows p e).0 (λ q f. (x.step.knows q f).1) in
        moved l c j (SwapChannels ch arg w) (ReadBandwidth ch w) others p (AllocateChannel ch) (Some (record { channel = ch; units = 0 })) false false true false x.below x.sound can refl x.step
        (λ y. seen_is l c j (SwapChannels ch arg w) true others x.step refl) (λ y. absurd (grind arith)) n
        (stays_at_plugs (after c p (AllocateChannel ch) l) j (SwapChannels ch arg w) (ReadBandwidth ch w) others _ _ false false true true false n
        (reserved_is j p (record { channel = ch; units = 0 }) e) (λ kind q. refl) (λ kind q. refl))

pub read_bandwidth : (l : Account) (c : ℕ) (j : Job) (ch w : ℕ) (others : Others) (p : PlugAt) (r : Reply) → Hears l c j (ReadBandwidth ch w) others BandwidthAvailable r
    → output_of j.connection ≡ Some p → HalfStep l c j (ReadBandwidth ch w) others BandwidthAvailable r
read_bandwidth l c j ch w others p r x e = record {
  moves = λ swap f y. absurd (grind arith);
  step = heard l c j (ReadBandwidth ch w) others BandwidthAvailable r (managed l c j (ReadBandwidth ch w) others BandwidthAvailable p r x e refl refl)
      (stays l c j (ReadBandwidth ch w) (decide_units j ch w (remainder l)) others true false refl x.step (λ y. seen_is l c j (ReadBandwidth ch w) true others x.step refl) (λ y. absurd (grind arith))
      (units_next l j ch w (remainder l) false (x.step.knows p e).0 (λ q f. (x.step.knows q f).1)));
}

-- what a job holds for its output plug
pub held_is : (l : Account) (c : ℕ) (j : Job) (s : Stage) (b : Bool) (others : Others) (p : PlugAt) (h : HeldResources) → IsInStep l c j s b others → output_of j.connection ≡ Some p
    → pending_of s ≡ Some h
    → (h.channel < 64) × (l.allocations h.channel ≡ Some (record { holder = Pending c p; units = h.units }))
held_is l c j s b others p h i e held = subst (λ o. HasReserved c o l.allocations) (ap (reservation (output_of j.connection)) held ∙ sym (reserved_is j p h e)) i.holds.reserved

can_allocate_units : (l : Account) (c : ℕ) (j : Job) (ch u arg w : ℕ) (others : Others) (p : PlugAt) (r : Reply) → Hears l c j (SwapBandwidth ch u arg w) others BandwidthAvailable r
    → output_of j.connection ≡ Some p → remainder l ≡ arg → Can c p (AllocateUnits ch u) l
can_allocate_units l c j ch u arg w others p r x e v =
    let own : u ≡ units_at (l.settings p).rate j.overhead = (x.step.knows p e).2 in
    let held = held_is l c j (SwapBandwidth ch u arg w) true others p (record { channel = ch; units = 0 }) x.step e refl in
    record {
      addressed = x.step.addressed p e refl;
      within = held.0;
      some = rw own (some_units (record { channel = 0; rate = (l.settings p).rate; overhead = j.overhead }));
      fits = omega (arith, x.stage.2, remainder_shown (remainder l) (omega arith), ap remainder_of v);
      channel = held.1;
      reclaims = λ runs. rw own (reclaim_is l p j ch (x.step.reclaims p e runs refl) (x.step.knows p e).0);
    }

pub swap_bandwidth : (l : Account) (c : ℕ) (j : Job) (ch u arg w : ℕ) (others : Others) (p : PlugAt) (r : Reply) → Hears l c j (SwapBandwidth ch u arg w) others BandwidthAvailable r
    → output_of j.connection ≡ Some p → HalfStep l c j (SwapBandwidth ch u arg w) others BandwidthAvailable r
swap_bandwidth l c j ch u arg w others p r x e = record {
  moves = moves_by l c BandwidthAvailable r (record { argument = arg; new = arg - u }) _ is (λ v. let can = can_allocate_units l c j ch u arg w others p r x e v in record {
    plug = p;
    move = AllocateUnits ch u;
    move_is = ap (λ o. at_plug o (AllocateUnits ch u)) e;
    is_move = record { can = can; place = refl; before = v; later = remainder_less l c p ch u can.within can.channel ∙ ap (λ y. y - u) v };
  });
  step = swapped l (after_move c (at_plug (output_of j.connection) (AllocateUnits ch u)) l) c j (SwapBandwidth ch u arg w) (ConnectOutput ch u w)
      (decide_units j ch w) others BandwidthAvailable r arg is
      (λ v. subst (λ o. IsInStep (after_move c (at_plug o (AllocateUnits ch u)) l) c j (ConnectOutput ch u w) false others) (sym e) (done (can_allocate_units l c j ch u arg w others p r x e (sym v))))
      (stays l c j (SwapBandwidth ch u arg w) (decide_units j ch w (remainder l)) others true false refl x.step (λ y. seen_is l c j (SwapBandwidth ch u arg w) true others x.step refl)
      (λ y. absurd (grind arith)) (units_next l j ch w (remainder l) false (x.step.knows p e).0 (λ q f. (x.step.knows q f).1)));
}
  where
    is : IsComplete l BandwidthAvailable r
    is = managed l c j (SwapBandwidth ch u arg w) others BandwidthAvailable p r x e refl refl

    done : Can c p (AllocateUnits ch u) l → IsInStep (after c p (AllocateUnits ch u) l) c j (ConnectOutput ch u w) false others
    done can =
        let n = funded_next (after c p (AllocateUnits ch u) l) j ch u w false (λ q f. (x.step.knows q f).2) in
        moved l c j (SwapBandwidth ch u arg w) (ConnectOutput ch u w) others p (AllocateUnits ch u) (Some (record { channel = ch; units = u })) false false true false x.below x.sound can refl x.step
        (λ y. seen_is l c j (SwapBandwidth ch u arg w) true others x.step refl) (λ y. absurd (grind arith)) n
        (stays_at_plugs (after c p (AllocateUnits ch u) l) j (SwapBandwidth ch u arg w) (ConnectOutput ch u w) others _ _ false false true true false n
        (reserved_is j p (record { channel = ch; units = u }) e) (λ kind q. refl) (λ kind q. refl))
