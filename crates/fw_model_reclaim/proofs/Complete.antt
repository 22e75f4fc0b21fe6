-- A whole connection stands in its slot, or was just made, if no break of it is current.
use Rattle.fw_model_reclaim.proofs.Common.{PlugAt, ◌≡◌, ◌⊎◌, inl, inr, ℕ, Bool, true, false, Some, refl, sym, ap, subst, ◌∙◌, arith, cond, nat_tests, Account, Connection, PlugToPlug, BroadcastOut}
use Rattle.fw_model_reclaim.proofs.Common.{BroadcastIn, Flow, Slot, Established, Current, Nothing, Asking, Hearing, Overtaken, Job, Purpose, Make, Restore, Break, Stage, ReadInput, ConnectInput}
use Rattle.fw_model_reclaim.proofs.Common.{ReadInputToLeave, LeaveInput, ReadOutputToLeave, LeaveOutput, Made, output_of, input_of}
use Rattle.fw_model_reclaim.proofs.Common.{ControllerState, slot_at, StageFits, HasInput, is_current_slot, IsFlow}
use Rattle.fw_model_reclaim.proofs.Common.{is_at, KeepsFlow, MatchesFor, CurrentMatches, Side, Output, Input, IsComplete, Stands, IsUnbroken, World, CanReclaim, IsAtWork}
use Rattle.fw_cmp.specs.Controllers.{break_runs}
use Rattle.fw_cmp_jobs.specs.Slots.{is_break_at}
use Rattle.fw_cmp.specs.Holdings.{is_at_output, is_at_input}
use Rattle.fw_model_reclaim.specs.Makings.{is_making_stage, MakesFor, CurrentMakes}
use Rattle.fw_model_reclaim.specs.Whole.{connection_in, is_standing, is_job_at, is_there, IsWhole, IsMade}
use Rattle.fw_model_reclaim.proofs.Living.{facts_in}
use Rattle.fw_model_reclaim.proofs.Safe.{breaks_is}

-- ---- the stage of a job whose connection is there

-- it is there at each plug that it has
abbrev pub AllThere : Connection → (Side → Bool) → Type 0
AllThere (PlugToPlug out into) at = (at Output ≡ true) × (at Input ≡ true)
AllThere (BroadcastOut out) at = at Output ≡ true
AllThere (BroadcastIn into) at = at Input ≡ true

pub record HasMade (s : Stage) : Type 0 where
  pub flow : Flow
  pub is : s ≡ Made flow

made_input : (conn : Connection) (s : Stage) → is_making_stage conn s ≡ true → is_at_input s ≡ true → HasMade s
made_input conn (Made f) m at = record { flow = f; is = refl }
made_input conn (ReadInputToLeave ch u) m at = absurd (grind (arith, m))
made_input conn (LeaveInput ch u arg) m at = absurd (grind (arith, m))
made_input conn _ m at = absurd (grind (arith, at))

made_output : (out : PlugAt) (j : Job) (s : Stage) → j.connection ≡ BroadcastOut out → StageFits j s → is_making_stage (BroadcastOut out) s ≡ true → is_at_output s ≡ true → HasMade s
made_output out j (Made f) e fits m at = record { flow = f; is = refl }
made_output out j (ReadInput f) e fits m at = absurd (subst (λ k. HasInput k) e fits.0)
made_output out j (ConnectInput f arg) e fits m at = absurd (subst (λ k. HasInput k) e fits.0)
made_output out j (ReadInputToLeave ch u) e fits m at = absurd (grind (arith, m))
made_output out j (LeaveInput ch u arg) e fits m at = absurd (grind (arith, m))
made_output out j (ReadOutputToLeave n ch u) e fits m at = absurd (grind (arith, m))
made_output out j (LeaveOutput n ch u arg) e fits m at = absurd (grind (arith, m))
made_output out j _ e fits m at = absurd (grind (arith, at))

has_made : (conn : Connection) (j : Job) (s : Stage) → j.connection ≡ conn → StageFits j s → is_making_stage j.connection s ≡ true → AllThere conn (λ side. is_at side s) → HasMade s
has_made (PlugToPlug out into) j s e fits m at = made_input j.connection s m at.1
has_made (BroadcastOut out) j s e fits m at = made_output out j s e fits (subst (λ k. is_making_stage k s ≡ true) e m) at
has_made (BroadcastIn into) j s e fits m at = made_input j.connection s m at

all_alike : (conn : Connection) (a b : Side → Bool) → ((side : Side) → a side ≡ b side) → AllThere conn a → AllThere conn b
all_alike (PlugToPlug out into) a b same at = (sym (same Output) ∙ at.0, sym (same Input) ∙ at.1)
all_alike (BroadcastOut out) a b same at = sym (same Output) ∙ at
all_alike (BroadcastIn into) a b same at = sym (same Input) ∙ at

-- the same on both sides
on_one_side : (conn : Connection) (x : Bool) → AllThere conn (λ side. x) → x ≡ true
on_one_side (PlugToPlug out into) x at = at.0
on_one_side (BroadcastOut out) x at = at
on_one_side (BroadcastIn into) x at = at

-- ---- a whole connection is complete

-- two flows that the plugs of a connection do not tell from each other
pub record SameFlow (f g : Flow) : Type 0 where
  pub channel : g.channel ≡ f.channel
  pub overhead : g.overhead ≡ f.overhead
  pub units : g.units ≡ f.units

pub record AreAlike (conn : Connection) (f g : Flow) : Type 0 where
  pub output : (p : PlugAt) → output_of conn ≡ Some p → SameFlow f g
  pub input : (q : PlugAt) → input_of conn ≡ Some q → g.channel ≡ f.channel

-- if it is, with the flow that its slot or its job has; its plugs do not tell this flow from the one that they are set to
pub record IsFound (w : World) (c i : ℕ) (conn : Connection) (f : Flow) : Type 0 where
  pub flow : Flow
  pub complete : IsComplete (w.controllers c) i conn flow
  pub agrees : AreAlike conn f flow

standing_is : (x : Slot) (conn : Connection) → is_standing x ≡ true → connection_in x ≡ Some conn → (f : Flow) × (x ≡ Established conn f)
standing_is (Established k f) conn e same = (f, ap (λ y. Established y f) (grind (arith, same)))
standing_is _ conn e same = absurd (grind (arith, e))

matched : (why : Purpose) (j : Job) (x : Slot) → MatchesFor why j x → connection_in x ≡ Some j.connection
matched Make j x m = ap connection_in m
matched Restore j x m = ap connection_in m.2
matched Break j x (inl m) = ap connection_in m.1
matched Break j x (inr m) = ap connection_in m

makes_or_breaks : (why : Purpose) (conn : Connection) (s : Stage) → MakesFor why conn s → (is_making_stage conn s ≡ true) ⊎ (why ≡ Break)
makes_or_breaks Make conn s m = inl m
makes_or_breaks Restore conn s m = inl m
makes_or_breaks Break conn s m = inr refl

-- a flow to which the plugs of a connection are set in one way
alike : (l : Account) (conn : Connection) (f g : Flow) → ((p : PlugAt) → output_of conn ≡ Some p → IsFlow (l.settings p) f) → ((q : PlugAt) → input_of conn ≡ Some q → l.input_channel q ≡ f.channel)
    → KeepsFlow l conn g → AreAlike conn f g
alike l conn f g out into k = record {
  output = λ p e. record { channel = sym (k.output p e).channel ∙ (out p e).channel; overhead = sym (k.output p e).overhead ∙ (out p e).overhead; units = sym (k.output p e).units ∙ (out p e).units };
  input = λ q e. sym (k.input q e) ∙ into q e;
}

everywhere : (w : World) (c i : ℕ) (conn : Connection) (f : Flow) → IsWhole w c i conn f → AllThere conn (λ side. is_there side (w.controllers c) i)
everywhere w c i conn f whole = go conn whole.output whole.input
  where
    go : (k : Connection) → ((p : PlugAt) → output_of k ≡ Some p → (is_there Output (w.controllers c) i ≡ true) × IsFlow (w.account.settings p) f)
        → ((q : PlugAt) → input_of k ≡ Some q → (is_there Input (w.controllers c) i ≡ true) × (w.account.input_channel q ≡ f.channel)) → AllThere k (λ side. is_there side (w.controllers c) i)
    go (PlugToPlug out into) a b = ((a out refl).0, (b into refl).0)
    go (BroadcastOut out) a b = (a out refl).0
    go (BroadcastIn into) a b = (b into refl).0

found : (w : World) (c i : ℕ) (conn : Connection) (f g : Flow) → IsWhole w c i conn f → IsComplete (w.controllers c) i conn g → KeepsFlow w.account conn g → IsFound w c i conn f
found w c i conn f g whole complete keeps = record { flow = g; complete = complete; agrees = alike w.account conn f g (λ p e. (whole.output p e).1) (λ q e. (whole.input q e).1) keeps }

-- a job at its slot has made it
found_made : (w : World) (c i : ℕ) (conn : Connection) (f : Flow) (j : Job) (s : Stage) → CanReclaim w → IsWhole w c i conn f → IsAtWork (w.controllers c).current j s → j.slot ≡ i
    → is_break_at j i ≡ false → MatchesFor j.purpose j (slot_at (w.controllers c) j.slot) → MakesFor j.purpose j.connection s → AllThere conn (λ side. is_at side s) → IsFound w c i conn f
found_made w c i conn f j s h whole work at unbroken match makes there = go (makes_or_breaks j.purpose j.connection s makes)
  where
    same : j.connection ≡ conn
    same = let here : connection_in (slot_at (w.controllers c) i) ≡ Some j.connection =
        ap (λ k. connection_in (slot_at (w.controllers c) k)) (sym at) ∙ matched j.purpose j (slot_at (w.controllers c) j.slot) match in grind (arith, here, whole.connection)

    made : HasMade s → IsFound w c i conn f
    made m =
        let work_made : IsAtWork (w.controllers c).current j (Made m.flow) = subst (λ x. IsAtWork (w.controllers c).current j x) m.is work in
        found w c i conn f m.flow whole (IsMade j work_made at same) (subst (λ k. KeepsFlow w.account k m.flow) same ((facts_in w c h).made j m.flow work_made))

    go : (is_making_stage j.connection s ≡ true) ⊎ (j.purpose ≡ Break) → IsFound w c i conn f
    go (inl m) = made (has_made conn j s same ((facts_in w c h).stage j s work) m there)
    go (inr why) = absurd (grind (arith, nat_tests, at, unbroken, breaks_is j i Break why))

pub complete_of : (w : World) (c i : ℕ) (conn : Connection) (f : Flow) → CanReclaim w → IsUnbroken (w.controllers c) i → IsWhole w c i conn f → IsFound w c i conn f
complete_of w c i conn f h unbroken whole = go (is_current_slot (w.controllers c).current i) refl
  where
    x : ControllerState
    x = w.controllers c

    resting : is_current_slot (w.controllers c).current i ≡ false → IsFound w c i conn f
    resting e =
        let stands = on_one_side conn (is_standing (slot_at (w.controllers c) i))
        (all_alike conn (λ side. is_there side (w.controllers c) i) (λ side. is_standing (slot_at (w.controllers c) i))
        (λ side. ap (λ b. cond b (is_job_at side (w.controllers c).current) (is_standing (slot_at (w.controllers c) i))) e) (everywhere w c i conn f whole)) in
        let is = standing_is (slot_at (w.controllers c) i) conn stands whole.connection in
        found w c i conn f is.0 whole (Stands is.1 e) ((h.each c).standing i conn is.0 is.1 e)

    there : (cur : Current) → (w.controllers c).current ≡ cur → is_current_slot (w.controllers c).current i ≡ true → AllThere conn (λ side. is_job_at side cur)
    there cur is e = all_alike conn (λ side. is_there side (w.controllers c) i) (λ side. is_job_at side cur)
        (λ side. ap (λ b. cond b (is_job_at side (w.controllers c).current) (is_standing (slot_at (w.controllers c) i))) e ∙ ap (is_job_at side) is) (everywhere w c i conn f whole)

    current : (cur : Current) → (w.controllers c).current ≡ cur → is_current_slot (w.controllers c).current i ≡ true → is_current_slot cur i ≡ true → break_runs cur i ≡ false
        → CurrentMatches (w.controllers c) cur → CurrentMakes cur → IsFound w c i conn f
    current Nothing is e at b m k = absurd (grind (arith, at))
    current (Asking j s) is e at b m k = found_made w c i conn f j s h whole (inl is) (grind (arith, nat_tests, at)) b m k (there (Asking j s) is e)
    current (Hearing j s) is e at b m k = found_made w c i conn f j s h whole (inr is) (grind (arith, nat_tests, at)) b m k (there (Hearing j s) is e)
    current (Overtaken n o) is e at b m k = absurd (grind (arith, at))

    go : (b : Bool) → is_current_slot (w.controllers c).current i ≡ b → IsFound w c i conn f
    go false e = resting e
    go true e = current (w.controllers c).current refl e e unbroken.runs (h.each c).matches (h.makes c)

-- ---- and a complete one is whole

made_there : (side : Side) (f : Flow) → is_at side (Made f) ≡ true
made_there Output f = refl
made_there Input f = refl

complete_keeps : (w : World) (c i : ℕ) (conn : Connection) (g : Flow) → CanReclaim w → IsComplete (w.controllers c) i conn g → KeepsFlow w.account conn g
complete_keeps w c i conn g h (Stands e idle) = (h.each c).standing i conn g e idle
complete_keeps w c i conn g h (IsMade j work at same) = subst (λ k. KeepsFlow w.account k g) same ((facts_in w c h).made j g work)

work_matches : (w : World) (c : ℕ) (j : Job) (s : Stage) → CanReclaim w → IsAtWork (w.controllers c).current j s → MatchesFor j.purpose j (slot_at (w.controllers c) j.slot)
work_matches w c j s h (inl e) = subst (λ x. CurrentMatches (w.controllers c) x) e (h.each c).matches
work_matches w c j s h (inr e) = subst (λ x. CurrentMatches (w.controllers c) x) e (h.each c).matches

complete_in : (w : World) (c i : ℕ) (conn : Connection) (g : Flow) → CanReclaim w → IsComplete (w.controllers c) i conn g → connection_in (slot_at (w.controllers c) i) ≡ Some conn
complete_in w c i conn g h (Stands e idle) = ap connection_in e
complete_in w c i conn g h (IsMade j work at same) = ap (λ k. connection_in (slot_at (w.controllers c) k)) (sym at)
    ∙ (matched j.purpose j (slot_at (w.controllers c) j.slot) (work_matches w c j (Made g) h work) ∙ ap (λ k. Some k) same)

there_by : (side : Side) (c : ControllerState) (i : ℕ) (cur : Current) (s : Stage) → c.current ≡ cur → is_current_slot cur i ≡ true → is_job_at side cur ≡ true → is_there side c i ≡ true
there_by side c i cur s e at job = ap (λ b. cond b (is_job_at side c.current) (is_standing (slot_at c i))) (ap (λ x. is_current_slot x i) e ∙ at) ∙ (ap (is_job_at side) e ∙ job)

complete_there : (c : ControllerState) (i : ℕ) (conn : Connection) (g : Flow) (side : Side) → IsComplete c i conn g → is_there side c i ≡ true
complete_there c i conn g side (Stands e idle) = ap (λ b. cond b (is_job_at side c.current) (is_standing (slot_at c i))) idle ∙ ap is_standing e
complete_there c i conn g side (IsMade j (inl e) at same) = there_by side c i (Asking j (Made g)) (Made g) e (grind (arith, nat_tests, at)) (made_there side g)
complete_there c i conn g side (IsMade j (inr e) at same) = there_by side c i (Hearing j (Made g)) (Made g) e (grind (arith, nat_tests, at)) (made_there side g)

pub whole_of : (w : World) (c i : ℕ) (conn : Connection) (f g : Flow) → CanReclaim w → IsComplete (w.controllers c) i conn g → AreAlike conn f g → IsWhole w c i conn f
whole_of w c i conn f g h complete a = record {
  connection = complete_in w c i conn g h complete;
  output = λ p e. (
    complete_there (w.controllers c) i conn g Output complete,
    record {
      channel = (keeps.output p e).channel ∙ (a.output p e).channel;
      overhead = (keeps.output p e).overhead ∙ (a.output p e).overhead;
      units = (keeps.output p e).units ∙ (a.output p e).units;
    },
  );
  input = λ q e. (complete_there (w.controllers c) i conn g Input complete, keeps.input q e ∙ a.input q e);
}
  where
    keeps : KeepsFlow w.account conn g
    keeps = complete_keeps w c i conn g h complete
