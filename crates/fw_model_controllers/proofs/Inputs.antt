-- The half steps of a job at its input plug.
use Rattle.fw_model_controllers.proofs.Common.{PlugAt, ◌≡◌, ℕ, ◌+◌, ◌<◌, Bool, true, false, Some, None, cond, refl}
use Rattle.fw_model_controllers.proofs.Common.{ap, ap₂, subst, sym, ◌∙◌, arith, update_plug_same, Reply, is_connected, Account, has_connection}
use Rattle.fw_model_controllers.proofs.Common.{DisconnectInput, Can, after, HasConnection, add_connection, drop_connection, is_input, IsSound}
use Rattle.fw_model_controllers.proofs.Common.{word_of, had_connection, Flow, Job, NoPlug, Stage, ReadInput}
use Rattle.fw_model_controllers.proofs.Common.{ConnectInput, ReadInputToLeave, LeaveInput, Made, InputPlug, kind_of, output_of}
use Rattle.fw_model_controllers.proofs.Common.{input_of, one_less, channel_of, is_full, shows_connection, decide_in, input_left}
use Rattle.fw_model_controllers.proofs.Common.{hear_reply, is_at_input, register_at, stands, at_plug, after_move, Others, reservation, IsInStep, HalfStep}
use Rattle.fw_model_account.specs.Moves.{ConnectInput as ConnectsInput}
use Rattle.fw_cmp_jobs.specs.Plugs.{one_more, with_channel}
use Rattle.fw_cmp_jobs.specs.Decisions.{decide_leave_in}
use Rattle.fw_cmp_jobs.specs.Requests.{input_word as joined_word}
use Rattle.fw_model_controllers.proofs.Words.{Shows, input_word, input_shows, channel_shown, shows_connected, shows_own, room_is, input_more, input_less, input_channel_set}
use Rattle.fw_model_controllers.proofs.InputDecisions.{FlowIs, in_next, refused_next, made_next}
use Rattle.fw_model_controllers.proofs.LeavingDecisions.{leave_input_next, input_left_next}
use Rattle.fw_model_controllers.proofs.Goes.{stays}
use Rattle.fw_model_controllers.proofs.Answers.{IsComplete, complete, heard, was_refused, swapped, same_plug_is, own_input}
use Rattle.fw_model_controllers.proofs.Moved.{Hears, moves_by, moved, one_input, inputs_fit}

-- what is known of an input plug that was found
shows_input : (l : Account) (q : PlugAt) → IsSound l → is_input l.latest q ≡ true → Shows (input_word (l.inputs q) (l.input_channel q)) (l.inputs q)
shows_input l q s there = input_shows (l.inputs q) (l.input_channel q) (inputs_fit l q s) (s.channels_fit q there)

flow_stays : (l : Account) (c : ℕ) (j : Job) (f : Flow) (b : Bool) (others : Others) → IsInStep l c j (ReadInput f) b others → FlowIs l j f
flow_stays l c j f b others i = i.knows_flow

pub read_input : (l : Account) (c : ℕ) (j : Job) (f : Flow) (others : Others) (q : PlugAt) (r : Reply) → Hears l c j (ReadInput f) others (InputPlug q) r → input_of j.connection ≡ Some q
    → HalfStep l c j (ReadInput f) others (InputPlug q) r
read_input l c j f others q r x e = record { moves = λ swap g y. absurd (grind arith); step = go (stands l.latest (InputPlug q)) refl }
  where
    go : (b : Bool) → is_input l.latest q ≡ b → IsInStep l c j (hear_reply j (ReadInput f) r) false others
    go true there = heard l c j (ReadInput f) others (InputPlug q) r (complete l (InputPlug q) r x.answer there)
        (stays l c j (ReadInput f) (decide_in j f (input_word (l.inputs q) (l.input_channel q))) others false true refl x.step (λ y. absurd (grind arith))
        (λ y p g. subst (λ z. is_input l.latest z ≡ true) (sym (same_plug_is (input_of j.connection) q p e g)) there)
        (in_next l j f (input_word (l.inputs q) (l.input_channel q)) false false (x.step.plugs refl) x.step.knows_flow))
    go false gone = was_refused l c j (ReadInput f) others r (x.answer.refused gone)
        (stays l c j (ReadInput f) _ others false false refl x.step (λ y. absurd (grind arith)) (λ y. absurd (grind arith)) (refused_next l j (NoPlug r.rcode) f false false false x.step.knows_flow))

can_connect_input : (l : Account) (c : ℕ) (j : Job) (f : Flow) (arg : ℕ) (others : Others) (q : PlugAt) (r : Reply) → Hears l c j (ConnectInput f arg) others (InputPlug q) r
    → input_of j.connection ≡ Some q → input_word (l.inputs q) (l.input_channel q) ≡ arg → Can c q (ConnectsInput (kind_of j.connection) f.channel) l
can_connect_input l c j f arg others q r x e v =
    let there = x.step.found_input q e refl in
    let shows = shows_input l q x.sound there in
    record {
      is_plug = there;
      within = x.stage.1.channel;
      room = room_is (kind_of j.connection) _ (l.inputs q) shows (inputs_fit l q x.sound) (ap (is_full (kind_of j.connection)) v ∙ x.stage.3);
      stays = λ has. sym (x.step.knows_input (ap is_connected (sym v) ∙ (shows_connected _ (l.inputs q) shows ∙ has)))
          ∙ (ap channel_of (sym v) ∙ channel_shown (l.inputs q) (l.input_channel q) (inputs_fit l q x.sound) (x.sound.channels_fit q there));
    }

-- the plug's word with one connection more
joined_word_is : (l : Account) (c : ℕ) (j : Job) (f : Flow) (arg : ℕ) (q : PlugAt) → c < 63 → IsSound l → Can c q (ConnectsInput (kind_of j.connection) f.channel) l
    → input_word (l.inputs q) (l.input_channel q) ≡ arg → word_of (after c q (ConnectsInput (kind_of j.connection) f.channel) l) (register_at (InputPlug q)) ≡ joined_word j f.channel arg
joined_word_is l c j f arg q lt s can v =
    ap₂ input_word (update_plug_same l.inputs q (add_connection c (kind_of j.connection) (l.inputs q))) (update_plug_same l.input_channel q f.channel)
    ∙ (input_more c (kind_of j.connection) (l.inputs q) f.channel lt can.room
    ∙ (ap (one_more (kind_of j.connection)) (go (has_connection (l.inputs q)) refl (shows_connected _ (l.inputs q) (shows_input l q s can.is_plug)))
    ∙ ap (joined_word j f.channel) v))
  where
    go : (b : Bool) → has_connection (l.inputs q) ≡ b → is_connected (input_word (l.inputs q) (l.input_channel q)) ≡ has_connection (l.inputs q)
        → input_word (l.inputs q) f.channel ≡ cond (is_connected (input_word (l.inputs q) (l.input_channel q))) (input_word (l.inputs q) (l.input_channel q))
        (with_channel (input_word (l.inputs q) (l.input_channel q)) f.channel)
    go true has same = ap (input_word (l.inputs q)) (can.stays has)
        ∙ ap (λ b. cond b (input_word (l.inputs q) (l.input_channel q)) (with_channel (input_word (l.inputs q) (l.input_channel q)) f.channel)) (sym (same ∙ has))
    go false has same = sym (input_channel_set (l.inputs q) (l.input_channel q) f.channel (inputs_fit l q s) (s.channels_fit q can.is_plug))
        ∙ ap (λ b. cond b (input_word (l.inputs q) (l.input_channel q)) (with_channel (input_word (l.inputs q) (l.input_channel q)) f.channel)) (sym (same ∙ has))

pub connect_input : (l : Account) (c : ℕ) (j : Job) (f : Flow) (arg : ℕ) (others : Others) (q : PlugAt) (r : Reply) → Hears l c j (ConnectInput f arg) others (InputPlug q) r
    → input_of j.connection ≡ Some q → HalfStep l c j (ConnectInput f arg) others (InputPlug q) r
connect_input l c j f arg others q r x e = record {
  moves = moves_by l c (InputPlug q) r (record { argument = arg; new = joined_word j f.channel arg }) _ is (λ v. let can = can_connect_input l c j f arg others q r x e v in record {
    plug = q;
    move = ConnectsInput (kind_of j.connection) f.channel;
    move_is = ap (λ o. at_plug o (ConnectsInput (kind_of j.connection) f.channel)) e;
    is_move = record { can = can; place = refl; before = v; later = joined_word_is l c j f arg q x.below x.sound can v };
  });
  step = swapped l (after_move c (at_plug (input_of j.connection) (ConnectsInput (kind_of j.connection) f.channel)) l) c j (ConnectInput f arg) (Made f) (decide_in j f) others (InputPlug q) r arg is
      (λ v. subst (λ o. IsInStep (after_move c (at_plug o (ConnectsInput (kind_of j.connection) f.channel)) l) c j (Made f) false others) (sym e)
      (done (can_connect_input l c j f arg others q r x e (sym v))))
      (stays l c j (ConnectInput f arg) (decide_in j f (input_word (l.inputs q) (l.input_channel q))) others false true refl x.step (λ y. absurd (grind arith)) (λ y p g. x.step.found_input p g refl)
      (in_next l j f (input_word (l.inputs q) (l.input_channel q)) false false (x.step.plugs refl) x.step.knows_flow));
}
  where
    is : IsComplete l (InputPlug q) r
    is = complete l (InputPlug q) r x.answer (x.step.found_input q e refl)

    done : Can c q (ConnectsInput (kind_of j.connection) f.channel) l → IsInStep (after c q (ConnectsInput (kind_of j.connection) f.channel) l) c j (Made f) false others
    done can =
        let m : Account = after c q (ConnectsInput (kind_of j.connection) f.channel) l in
        let n = made_next m j f false false false x.step.knows_flow (λ p g. ap (λ y. m.input_channel y) (same_plug_is (input_of j.connection) q p e g)
        ∙ update_plug_same l.input_channel q f.channel) in
        moved l c j (ConnectInput f arg) (Made f) others q (ConnectsInput (kind_of j.connection) f.channel) None true true false false x.below x.sound can refl x.step (λ y. absurd (grind arith))
        (λ y. absurd (grind arith)) n
        (record { reserved = refl; outputs = λ kind p. refl; inputs = λ kind p. omega (arith, one_input j q e kind p, n.input kind p) })

-- ---- leaving

-- the input plug that the job is connected to is there, and shows its connection
left_input_there : (l : Account) (c : ℕ) (j : Job) (s : Stage) (others : Others) (q : PlugAt) (r : Reply) → Hears l c j s others (InputPlug q) r → input_of j.connection ≡ Some q → is_at_input s ≡ true
    → is_input l.latest q ≡ true
left_input_there l c j s others q r x e at = x.sound.inputs_there q (had_connection c (kind_of j.connection) (l.inputs q) x.below (own_input l c j s true others q x.step e at))

left_input_shows : (l : Account) (c : ℕ) (j : Job) (s : Stage) (others : Others) (q : PlugAt) (r : Reply) → Hears l c j s others (InputPlug q) r → input_of j.connection ≡ Some q → is_at_input s ≡ true
    → shows_connection (kind_of j.connection) (input_word (l.inputs q) (l.input_channel q)) ≡ true
left_input_shows l c j s others q r x e at = shows_own c (kind_of j.connection) _ (l.inputs q) x.below (shows_input l q x.sound (left_input_there l c j s others q r x e at))
    (own_input l c j s true others q x.step e at)

-- the stage after a word that shows the connection
leave_again : (l : Account) (c : ℕ) (j : Job) (ch u v : ℕ) (others : Others) → shows_connection (kind_of j.connection) v ≡ true → IsInStep l c j (LeaveInput ch u v) false others
    → IsInStep l c j (decide_leave_in j ch u v) false others
leave_again l c j ch u v others shows i = rw shows i

pub read_input_to_leave : (l : Account) (c : ℕ) (j : Job) (ch u : ℕ) (others : Others) (q : PlugAt) (r : Reply) → Hears l c j (ReadInputToLeave ch u) others (InputPlug q) r
    → input_of j.connection ≡ Some q → HalfStep l c j (ReadInputToLeave ch u) others (InputPlug q) r
read_input_to_leave l c j ch u others q r x e = record {
  moves = λ swap g y. absurd (grind arith);
  step = heard l c j (ReadInputToLeave ch u) others (InputPlug q) r (complete l (InputPlug q) r x.answer (left_input_there l c j (ReadInputToLeave ch u) others q r x e refl))
      (leave_again l c j ch u (input_word (l.inputs q) (l.input_channel q)) others (left_input_shows l c j (ReadInputToLeave ch u) others q r x e refl)
      (stays l c j (ReadInputToLeave ch u) (LeaveInput ch u (input_word (l.inputs q) (l.input_channel q))) others false false refl x.step (λ y. absurd (grind arith)) (λ y. absurd (grind arith))
      (leave_input_next l j ch u (input_word (l.inputs q) (l.input_channel q)) false false false (x.step.plugs refl) x.step.knows_flow)));
}

pub leave_input : (l : Account) (c : ℕ) (j : Job) (ch u arg : ℕ) (others : Others) (q : PlugAt) (r : Reply) → Hears l c j (LeaveInput ch u arg) others (InputPlug q) r → input_of j.connection ≡ Some q
    → HalfStep l c j (LeaveInput ch u arg) others (InputPlug q) r
leave_input l c j ch u arg others q r x e = record {
  moves = moves_by l c (InputPlug q) r (record { argument = arg; new = one_less (kind_of j.connection) arg }) _ is (λ v. record {
    plug = q;
    move = DisconnectInput (kind_of j.connection);
    move_is = ap (λ o. at_plug o (DisconnectInput (kind_of j.connection))) e;
    is_move = record {
      can = record { has = has };
      place = refl;
      before = v;
      later = ap (λ y. input_word y (l.input_channel q)) (update_plug_same l.inputs q (drop_connection c (kind_of j.connection) (l.inputs q)))
          ∙ (input_less c (kind_of j.connection) (l.inputs q) (l.input_channel q) x.below has ∙ ap (one_less (kind_of j.connection)) v);
    };
  });
  step = swapped l (after_move c (at_plug (input_of j.connection) (DisconnectInput (kind_of j.connection))) l) c j (LeaveInput ch u arg) (input_left j ch u) (decide_leave_in j ch u) others
      (InputPlug q) r arg is
      (λ v. subst (λ o. IsInStep (after_move c (at_plug o (DisconnectInput (kind_of j.connection))) l) c j (input_left j ch u) false others) (sym e) done)
      (leave_again l c j ch u (input_word (l.inputs q) (l.input_channel q)) others (left_input_shows l c j (LeaveInput ch u arg) others q r x e refl)
      (stays l c j (LeaveInput ch u arg) (LeaveInput ch u (input_word (l.inputs q) (l.input_channel q))) others false false refl x.step (λ y. absurd (grind arith)) (λ y. absurd (grind arith))
      (leave_input_next l j ch u (input_word (l.inputs q) (l.input_channel q)) false false false (x.step.plugs refl) x.step.knows_flow)));
}
  where
    has : HasConnection c (kind_of j.connection) (l.inputs q)
    has = own_input l c j (LeaveInput ch u arg) true others q x.step e refl

    is : IsComplete l (InputPlug q) r
    is = complete l (InputPlug q) r x.answer (left_input_there l c j (LeaveInput ch u arg) others q r x e refl)

    done : IsInStep (after c q (DisconnectInput (kind_of j.connection)) l) c j (input_left j ch u) false others
    done =
        let m : Account = after c q (DisconnectInput (kind_of j.connection)) l in
        let n = input_left_next m j ch u false false false x.step.knows_flow in
        moved l c j (LeaveInput ch u arg) (input_left j ch u) others q (DisconnectInput (kind_of j.connection)) None true false false false x.below x.sound (record { has = has }) refl x.step
        (λ y. absurd (grind arith)) (λ y. absurd (grind arith)) n
        (record {
          reserved = ap (reservation (output_of j.connection)) (sym n.pending);
          outputs = λ kind p. ap (λ y. others.outputs kind p + y) (sym (n.output kind p));
          inputs = λ kind p. omega (arith, one_input j q e kind p, n.input kind p);
        })
