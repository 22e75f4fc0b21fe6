-- The half steps of a job that connects its output plug.
use Rattle.fw_model_controllers.proofs.Common.{PlugAt, ConnectionKind, ◌≡◌, ℕ, ◌+◌, ◌<◌, Bool, true, false, Some, None}
use Rattle.fw_model_controllers.proofs.Common.{refl, ap, ap₂, subst, sym, ◌∙◌, arith, update_plug_same, Reply, Settings, is_connected}
use Rattle.fw_model_controllers.proofs.Common.{Account, ConnectFirst, ConnectOverlaid, Can, after, add_connection, is_output, IsSound}
use Rattle.fw_model_controllers.proofs.Common.{word_of, Job, Stage, ConnectOutput, OverlayOutput, OutputPlug, kind_of}
use Rattle.fw_model_controllers.proofs.Common.{output_of, is_full, decide_out, output_joined, job_outputs, register_at, at_plug, after_move}
use Rattle.fw_model_controllers.proofs.Common.{Others, reservation, units_at, sees, IsInStep, IsFlow, HalfStep}
use Rattle.fw_cmp_jobs.specs.Plugs.{one_more, with_channel, with_overhead, overhead_of}
use Rattle.fw_cmp_jobs.specs.Decisions.{first_flow, overlaid_flow}
use Rattle.fw_cmp_jobs.specs.Requests.{first_word}
use Rattle.fw_model_controllers.specs.Holding.{one_at}
use Rattle.fw_model_controllers.proofs.Counts.{room_of_empty}
use Rattle.fw_model_controllers.proofs.Words.{output_word, output_shows, settings_shown, shows_connected, room_is, output_more, settings_set, units_shown}
use Rattle.fw_model_controllers.proofs.Decisions.{IsNext, out_next, held_next}
use Rattle.fw_model_controllers.proofs.InputDecisions.{FlowIs, joined_next}
use Rattle.fw_model_controllers.proofs.Goes.{stays}
use Rattle.fw_model_controllers.proofs.Answers.{IsComplete, complete, swapped, has_output_plug, same_plug_is, seen_is}
use Rattle.fw_model_controllers.proofs.Makes.{needs_are, held_is}
use Rattle.fw_model_controllers.proofs.Moved.{Hears, moves_by, moved, one_output, settings_fit, outputs_fit}

-- the output plug's register is there, once it was seen
at_output : (l : Account) (c : ℕ) (j : Job) (s : Stage) (others : Others) (p : PlugAt) (r : Reply) → Hears l c j s others (OutputPlug p) r → output_of j.connection ≡ Some p → sees s ≡ true
    → IsComplete l (OutputPlug p) r
at_output l c j s others p r x e seen = complete l (OutputPlug p) r x.answer (x.step.found p e seen)

-- what the job's own connection adds
one_more_output : (j : Job) (t : Stage) (others : Others) (p : PlugAt) (l : Account) (may seen found : Bool) → output_of j.connection ≡ Some p → IsNext l j None true false may seen found t
    → (kind : ConnectionKind) (q : PlugAt) → (others.outputs kind q + 0) + one_at (kind_of j.connection) p kind q ≡ others.outputs kind q + job_outputs j t kind q
one_more_output j t others p l may seen found e n kind q = omega (arith, one_output j p e kind q, n.output kind q)

-- ---- the first connection

can_connect_first : (l : Account) (c : ℕ) (j : Job) (ch u arg : ℕ) (others : Others) (p : PlugAt) (r : Reply) → Hears l c j (ConnectOutput ch u arg) others (OutputPlug p) r
    → output_of j.connection ≡ Some p → output_word (l.outputs p) (l.settings p) ≡ arg → Can c p (ConnectFirst (kind_of j.connection) ch j.overhead) l
can_connect_first l c j ch u arg others p r x e v =
    let there = x.step.found p e refl in
    let held = held_is l c j (ConnectOutput ch u arg) true others p (record { channel = ch; units = u }) x.step e refl in
    record {
      is_plug = there;
      empty = sym (shows_connected _ (l.outputs p) (output_shows (l.outputs p) (l.settings p) (outputs_fit l p x.sound) (settings_fit l p x.sound there))) ∙ (ap is_connected v ∙ x.stage.2.1);
      within = held.0;
      small = x.job.overhead;
      held = rw (sym (x.step.knows p e)) held.1;
    }

-- the plug's word with its first connection
first_word_is : (l : Account) (c : ℕ) (j : Job) (ch arg : ℕ) (p : PlugAt) → c < 63 → IsSound l → Can c p (ConnectFirst (kind_of j.connection) ch j.overhead) l
    → output_word (l.outputs p) (l.settings p) ≡ arg → word_of (after c p (ConnectFirst (kind_of j.connection) ch j.overhead) l) (register_at (OutputPlug p)) ≡ first_word j ch arg
first_word_is l c j ch arg p lt s can v =
    let now : Settings = record { channel = ch; rate = (l.settings p).rate; overhead = j.overhead } in
    let room = room_of_empty (kind_of j.connection) (l.outputs p) can.empty in
    ap₂ output_word (update_plug_same l.outputs p (add_connection c (kind_of j.connection) (l.outputs p))) (update_plug_same l.settings p now)
    ∙ (output_more c (kind_of j.connection) (l.outputs p) now lt room
    ∙ (ap (one_more (kind_of j.connection)) (sym (settings_set (l.outputs p) (l.settings p) ch j.overhead (outputs_fit l p s) (settings_fit l p s can.is_plug) can.within))
    ∙ ap (λ w. one_more (kind_of j.connection) (with_overhead (with_channel w ch) j.overhead)) v))

first_flow_is : (l : Account) (c : ℕ) (j : Job) (ch u : ℕ) (p : PlugAt) → output_of j.connection ≡ Some p → u ≡ units_at (l.settings p).rate j.overhead
    → FlowIs (after c p (ConnectFirst (kind_of j.connection) ch j.overhead) l) j (first_flow j ch u)
first_flow_is l c j ch u p e units q f =
    let now : Settings = record { channel = ch; rate = (l.settings p).rate; overhead = j.overhead } in
    subst (λ k. IsFlow k (first_flow j ch u)) (sym (ap (λ y. (after c p (ConnectFirst (kind_of j.connection) ch j.overhead) l).settings y) (same_plug_is (output_of j.connection) p q e f)
    ∙ update_plug_same l.settings p now)) (record { channel = refl; overhead = refl; units = sym units })

pub connect_output : (l : Account) (c : ℕ) (j : Job) (ch u arg : ℕ) (others : Others) (p : PlugAt) (r : Reply) → Hears l c j (ConnectOutput ch u arg) others (OutputPlug p) r
    → output_of j.connection ≡ Some p → HalfStep l c j (ConnectOutput ch u arg) others (OutputPlug p) r
connect_output l c j ch u arg others p r x e = record {
  moves = moves_by l c (OutputPlug p) r (record { argument = arg; new = first_word j ch arg }) _ is (λ v. let can = can_connect_first l c j ch u arg others p r x e v in record {
    plug = p;
    move = ConnectFirst (kind_of j.connection) ch j.overhead;
    move_is = ap (λ o. at_plug o (ConnectFirst (kind_of j.connection) ch j.overhead)) e;
    is_move = record { can = can; place = refl; before = v; later = first_word_is l c j ch arg p x.below x.sound can v };
  });
  step = swapped l (after_move c (at_plug (output_of j.connection) (ConnectFirst (kind_of j.connection) ch j.overhead)) l) c j (ConnectOutput ch u arg) (output_joined j (first_flow j ch u))
      (decide_out j (Some (record { channel = ch; units = u }))) others (OutputPlug p) r arg is
      (λ v. subst (λ o. IsInStep (after_move c (at_plug o (ConnectFirst (kind_of j.connection) ch j.overhead)) l) c j (output_joined j (first_flow j ch u)) false others) (sym e)
      (done (can_connect_first l c j ch u arg others p r x e (sym v))))
      (stays l c j (ConnectOutput ch u arg) (decide_out j (Some (record { channel = ch; units = u })) (output_word (l.outputs p) (l.settings p))) others true false refl x.step
      (λ y. seen_is l c j (ConnectOutput ch u arg) true others x.step refl) (λ y. absurd (grind arith))
      (held_next l j (record { channel = ch; units = u }) (output_word (l.outputs p) (l.settings p)) false x.step.knows));
}
  where
    is : IsComplete l (OutputPlug p) r
    is = at_output l c j (ConnectOutput ch u arg) others p r x e refl

    done : Can c p (ConnectFirst (kind_of j.connection) ch j.overhead) l
        → IsInStep (after c p (ConnectFirst (kind_of j.connection) ch j.overhead) l) c j (output_joined j (first_flow j ch u)) false others
    done can =
        let m : Account = after c p (ConnectFirst (kind_of j.connection) ch j.overhead) l in
        let n = joined_next m j (first_flow j ch u) true true false (has_output_plug j.connection p e) (first_flow_is l c j ch u p e (x.step.knows p e)) in
        moved l c j (ConnectOutput ch u arg) (output_joined j (first_flow j ch u)) others p
        (ConnectFirst (kind_of j.connection) ch j.overhead) None true false true false x.below x.sound can refl x.step (λ y. seen_is l c j (ConnectOutput ch u arg) true others x.step refl)
        (λ y. absurd (grind arith)) n
        (record {
          reserved = ap (reservation (output_of j.connection)) (sym n.pending);
          outputs = one_more_output j (output_joined j (first_flow j ch u)) others p m true true false e n;
          inputs = λ kind q. ap (λ y. others.inputs kind q + y) (sym (n.input kind q));
        })

-- ---- one connection more

can_overlay : (l : Account) (c : ℕ) (j : Job) (arg : ℕ) (others : Others) (p : PlugAt) (r : Reply) → Hears l c j (OverlayOutput arg) others (OutputPlug p) r → output_of j.connection ≡ Some p
    → output_word (l.outputs p) (l.settings p) ≡ arg → Can c p (ConnectOverlaid (kind_of j.connection)) l
can_overlay l c j arg others p r x e v =
    let shows = output_shows (l.outputs p) (l.settings p) (outputs_fit l p x.sound) (settings_fit l p x.sound (x.step.found p e refl)) in
    record {
      connected = sym (shows_connected _ (l.outputs p) shows) ∙ (ap is_connected v ∙ x.stage.2);
      room = room_is (kind_of j.connection) _ (l.outputs p) shows (outputs_fit l p x.sound) (ap (is_full (kind_of j.connection)) v ∙ x.stage.3);
    }

more_word_is : (l : Account) (c : ℕ) (j : Job) (arg : ℕ) (p : PlugAt) → c < 63 → Can c p (ConnectOverlaid (kind_of j.connection)) l → output_word (l.outputs p) (l.settings p) ≡ arg
    → word_of (after c p (ConnectOverlaid (kind_of j.connection)) l) (register_at (OutputPlug p)) ≡ one_more (kind_of j.connection) arg
more_word_is l c j arg p lt can v =
    ap (λ y. output_word y (l.settings p)) (update_plug_same l.outputs p (add_connection c (kind_of j.connection) (l.outputs p)))
    ∙ (output_more c (kind_of j.connection) (l.outputs p) (l.settings p) lt can.room ∙ ap (one_more (kind_of j.connection)) v)

overlaid_flow_is : (l : Account) (j : Job) (arg : ℕ) (p : PlugAt) → IsSound l → is_output l.latest p ≡ true → output_of j.connection ≡ Some p → output_word (l.outputs p) (l.settings p) ≡ arg
    → FlowIs l j (overlaid_flow arg)
overlaid_flow_is l j arg p s there e v q f =
    let shown = settings_shown (l.outputs p) (l.settings p) (outputs_fit l p s) (settings_fit l p s there) in
    let units = units_shown (l.outputs p) (l.settings p) in
    subst (λ y. IsFlow (l.settings y) (overlaid_flow arg)) (sym (same_plug_is (output_of j.connection) p q e f))
    (subst (λ w. IsFlow (l.settings p) (overlaid_flow w)) v
    (record {
      channel = sym (ap (λ (k : Settings). k.channel) shown);
      overhead = sym (ap (λ (k : Settings). k.overhead) shown);
      units = sym (units (overhead_of (output_word (l.outputs p) (l.settings p))) (outputs_fit l p s) (settings_fit l p s there)
          ∙ ap (units_at (l.settings p).rate) (ap (λ (k : Settings). k.overhead) shown));
    }))

pub overlay_output : (l : Account) (c : ℕ) (j : Job) (arg : ℕ) (others : Others) (p : PlugAt) (r : Reply) → Hears l c j (OverlayOutput arg) others (OutputPlug p) r → output_of j.connection ≡ Some p
    → HalfStep l c j (OverlayOutput arg) others (OutputPlug p) r
overlay_output l c j arg others p r x e = record {
  moves = moves_by l c (OutputPlug p) r (record { argument = arg; new = one_more (kind_of j.connection) arg }) _ is (λ v. let can = can_overlay l c j arg others p r x e v in record {
    plug = p;
    move = ConnectOverlaid (kind_of j.connection);
    move_is = ap (λ o. at_plug o (ConnectOverlaid (kind_of j.connection))) e;
    is_move = record { can = can; place = refl; before = v; later = more_word_is l c j arg p x.below can v };
  });
  step = swapped l (after_move c (at_plug (output_of j.connection) (ConnectOverlaid (kind_of j.connection))) l) c j (OverlayOutput arg) (output_joined j (overlaid_flow arg)) (decide_out j None) others
      (OutputPlug p) r arg is
      (λ v. subst (λ o. IsInStep (after_move c (at_plug o (ConnectOverlaid (kind_of j.connection))) l) c j (output_joined j (overlaid_flow arg)) false others) (sym e) (done (sym v)))
      (stays l c j (OverlayOutput arg) (decide_out j None (output_word (l.outputs p) (l.settings p))) others true false refl x.step (λ y. seen_is l c j (OverlayOutput arg) true others x.step refl)
      (λ y. absurd (grind arith)) (out_next l j (output_word (l.outputs p) (l.settings p)) false (needs_are l c j (OverlayOutput arg) true others p x.sound x.step e there)));
}
  where
    there : is_output l.latest p ≡ true
    there = x.step.found p e refl

    is : IsComplete l (OutputPlug p) r
    is = at_output l c j (OverlayOutput arg) others p r x e refl

    done : output_word (l.outputs p) (l.settings p) ≡ arg → IsInStep (after c p (ConnectOverlaid (kind_of j.connection)) l) c j (output_joined j (overlaid_flow arg)) false others
    done v =
        let m : Account = after c p (ConnectOverlaid (kind_of j.connection)) l in
        let n = joined_next m j (overlaid_flow arg) true true false (has_output_plug j.connection p e) (overlaid_flow_is l j arg p x.sound there e v) in
        moved l c j (OverlayOutput arg) (output_joined j (overlaid_flow arg)) others p (ConnectOverlaid (kind_of j.connection)) None true false true false x.below x.sound
        (can_overlay l c j arg others p r x e v) refl x.step (λ y. seen_is l c j (OverlayOutput arg) true others x.step refl) (λ y. absurd (grind arith)) n
        (record {
          reserved = ap (reservation (output_of j.connection)) (sym n.pending);
          outputs = one_more_output j (output_joined j (overlaid_flow arg)) others p m true true false e n;
          inputs = λ kind q. ap (λ y. others.inputs kind q + y) (sym (n.input kind q));
        })
