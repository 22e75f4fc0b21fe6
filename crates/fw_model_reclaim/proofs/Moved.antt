-- A half step leaves each connected plug what it is set to, and in a reclaim second each plug.
use Rattle.fw_model_reclaim.proofs.Common.{PlugAt, ◌≡◌, ◌≢◌, ◌⊎◌, inl, inr, ℕ, Bool, true, false, Option, Some, None, refl, sym, ap, subst, ◌∙◌, arith, Account, has_connection, after, restoring_job}
use Rattle.fw_model_reclaim.proofs.Common.{Connection, Flow, Slot, Restoring, Job, Purpose, Make, Restore, Break, Stage, Begin, ReadOutput, ReadChannels, SwapChannels, ReadBandwidth, SwapBandwidth}
use Rattle.fw_model_reclaim.proofs.Common.{ConnectOutput, OverlayOutput, ReadInput, ConnectInput, ReadInputToLeave, LeaveInput, ReadOutputToLeave, LeaveOutput, ReadBandwidthToRelease, RaiseBandwidth}
use Rattle.fw_model_reclaim.proofs.Common.{ReadChannelsToRelease, RestoreChannel, Made, Ended, kind_of, output_of, input_of}
use Rattle.fw_model_reclaim.proofs.Common.{IsFlow, MatchesFor, CourseFor, IsOnCourse, IsRestorable, LeavesPlugs, Carries}
use Rattle.fw_model_reclaim.proofs.Common.{Unchanged, Moved, is_ended, is_still, is_leaving}
use Rattle.fw_terms.specs.Tables.{update_plug}
use Rattle.fw_terms.proofs.Tables.{update_plug_at}
use Rattle.fw_plug.specs.Words.{Settings}
use Rattle.fw_model_account.specs.Moves.{Move, AllocateChannel, AllocateUnits, ConnectFirst, ConnectOverlaid, ConnectInput as JoinInput}
use Rattle.fw_model_account.specs.Moves.{DisconnectInput, DisconnectOutput, ReleaseUnits, ReleaseChannel, Can}
use Rattle.fw_model_controllers.specs.Moves.{move_of, at_plug, after_move}
use Rattle.fw_model_controllers.proofs.Holdings.{move_keeps}

-- all plugs keep what they are set to
pub record SameSettings (l m : Account) : Type 0 where
  pub settings : (q : PlugAt) → m.settings q ≡ l.settings q
  pub channels : (q : PlugAt) → m.input_channel q ≡ l.input_channel q

-- a move that makes a plug's first connection
is_first : Move → Bool
is_first (AllocateChannel ch) = false
is_first (AllocateUnits ch u) = false
is_first (ConnectFirst kind ch overhead) = true
is_first (ConnectOverlaid kind) = false
is_first (JoinInput kind ch) = true
is_first (DisconnectInput kind) = false
is_first (DisconnectOutput kind) = false
is_first (ReleaseUnits ch u) = false
is_first (ReleaseChannel ch) = false

other_move : (l : Account) (c : ℕ) (p : PlugAt) (m : Move) → is_first m ≡ false → SameSettings l (after c p m l)
unfolding is_first
other_move l c p (AllocateChannel ch) e = record { settings = λ q. refl; channels = λ q. refl }
other_move l c p (AllocateUnits ch u) e = record { settings = λ q. refl; channels = λ q. refl }
other_move l c p (ConnectFirst kind ch overhead) e = absurd (grind arith)
other_move l c p (ConnectOverlaid kind) e = record { settings = λ q. refl; channels = λ q. refl }
other_move l c p (JoinInput kind ch) e = absurd (grind arith)
other_move l c p (DisconnectInput kind) e = record { settings = λ q. refl; channels = λ q. refl }
other_move l c p (DisconnectOutput kind) e = record { settings = λ q. refl; channels = λ q. refl }
other_move l c p (ReleaseUnits ch u) e = record { settings = λ q. refl; channels = λ q. refl }
other_move l c p (ReleaseChannel ch) e = record { settings = λ q. refl; channels = λ q. refl }

-- ---- by stage

-- the stages of a first connection
connects : Stage → Bool
connects (ConnectOutput ch u arg) = true
connects (ConnectInput f arg) = true
connects _ = false

-- no plug is set anew
abbrev Still : Account → ℕ → Option (PlugAt × Move) → Type 0
Still l c m = SameSettings l (after_move c m l)

nothing_moved : (l : Account) (c : ℕ) → Still l c None
nothing_moved l c = record { settings = λ q. refl; channels = λ q. refl }

at_some_plug : (l : Account) (c : ℕ) (o : Option PlugAt) (m : Move) → is_first m ≡ false → Still l c (at_plug o m)
at_some_plug l c None m e = nothing_moved l c
at_some_plug l c (Some p) m e = other_move l c p m e

unconnecting : (l : Account) (c : ℕ) (j : Job) (s : Stage) → connects s ≡ false → Still l c (move_of j s)
unfolding connects is_first
unconnecting l c j Begin e = nothing_moved l c
unconnecting l c j ReadOutput e = nothing_moved l c
unconnecting l c j (ReadChannels base w) e = nothing_moved l c
unconnecting l c j (SwapChannels ch arg w) e = at_some_plug l c (output_of j.connection) (AllocateChannel ch) refl
unconnecting l c j (ReadBandwidth ch w) e = nothing_moved l c
unconnecting l c j (SwapBandwidth ch u arg w) e = at_some_plug l c (output_of j.connection) (AllocateUnits ch u) refl
unconnecting l c j (ConnectOutput ch u arg) e = absurd (grind arith)
unconnecting l c j (OverlayOutput arg) e = at_some_plug l c (output_of j.connection) (ConnectOverlaid (kind_of j.connection)) refl
unconnecting l c j (ReadInput f) e = nothing_moved l c
unconnecting l c j (ConnectInput f arg) e = absurd (grind arith)
unconnecting l c j (ReadInputToLeave ch u) e = nothing_moved l c
unconnecting l c j (LeaveInput ch u arg) e = at_some_plug l c (input_of j.connection) (DisconnectInput (kind_of j.connection)) refl
unconnecting l c j (ReadOutputToLeave n ch u) e = nothing_moved l c
unconnecting l c j (LeaveOutput n ch u arg) e = at_some_plug l c (output_of j.connection) (DisconnectOutput (kind_of j.connection)) refl
unconnecting l c j (ReadBandwidthToRelease next ch u) e = nothing_moved l c
unconnecting l c j (RaiseBandwidth next ch u arg) e = at_some_plug l c (output_of j.connection) (ReleaseUnits ch u) refl
unconnecting l c j (ReadChannelsToRelease next ch) e = nothing_moved l c
unconnecting l c j (RestoreChannel next ch arg) e = at_some_plug l c (output_of j.connection) (ReleaseChannel ch) refl
unconnecting l c j (Made f) e = nothing_moved l c
unconnecting l c j (Ended n) e = nothing_moved l c

-- ---- a first connection that is restored sets the plug to what it is set to

same_settings : (k : Settings) (f : Flow) (ch : ℕ) → IsFlow k f → ch ≡ f.channel → record { channel = ch; rate = k.rate; overhead = f.overhead } ≡ k
same_settings k f ch is e = λ i. record { channel = (e ∙ sym is.channel) i; rate = k.rate; overhead = sym is.overhead i }

restored_output : (l : Account) (c i : ℕ) (conn : Connection) (f : Flow) (ch u arg : ℕ) (o : Option PlugAt) → ((p : PlugAt) → o ≡ Some p → IsFlow (l.settings p) f) → ch ≡ f.channel
    → Still l c (at_plug o (ConnectFirst (kind_of conn) ch f.overhead))
restored_output l c i conn f ch u arg None is e = nothing_moved l c
restored_output l c i conn f ch u arg (Some p) is e = record { settings = λ q. at q; channels = λ q. refl }
  where
    now : Settings
    now = record { channel = ch; rate = (l.settings p).rate; overhead = f.overhead }

    at : (q : PlugAt) → update_plug l.settings p now q ≡ l.settings q
    at q = go (update_plug_at l.settings p now q)
      where
        go : ((q ≡ p) × (update_plug l.settings p now q ≡ now)) ⊎ ((q ≢ p) × (update_plug l.settings p now q ≡ l.settings q)) → update_plug l.settings p now q ≡ l.settings q
        go (inl x) = x.1 ∙ (same_settings (l.settings p) f ch (is p refl) e ∙ ap l.settings (sym x.0))
        go (inr x) = x.1

restored_input : (l : Account) (c : ℕ) (conn : Connection) (f : Flow) (ch : ℕ) (o : Option PlugAt) → ((q : PlugAt) → o ≡ Some q → l.input_channel q ≡ f.channel) → ch ≡ f.channel
    → Still l c (at_plug o (JoinInput (kind_of conn) ch))
restored_input l c conn f ch None is e = nothing_moved l c
restored_input l c conn f ch (Some p) is e = record { settings = λ q. refl; channels = λ q. at q (update_plug_at l.input_channel p ch q) }
  where
    at : (q : PlugAt) → ((q ≡ p) × (update_plug l.input_channel p ch q ≡ ch)) ⊎ ((q ≢ p) × (update_plug l.input_channel p ch q ≡ l.input_channel q))
        → update_plug l.input_channel p ch q ≡ l.input_channel q
    at q (inl x) = x.1 ∙ (e ∙ (sym (is p refl) ∙ ap l.input_channel (sym x.0)))
    at q (inr x) = x.1

restored_still : (l : Account) (c i : ℕ) (conn : Connection) (f : Flow) (s : Stage) → IsRestorable l conn f → IsOnCourse f s → Still l c (move_of (restoring_job i conn f) s)
unfolding connects
restored_still l c i conn f Begin r on = unconnecting l c (restoring_job i conn f) Begin refl
restored_still l c i conn f ReadOutput r on = unconnecting l c (restoring_job i conn f) ReadOutput refl
restored_still l c i conn f (ReadChannels base w) r on = unconnecting l c (restoring_job i conn f) (ReadChannels base w) refl
restored_still l c i conn f (SwapChannels ch arg w) r on = unconnecting l c (restoring_job i conn f) (SwapChannels ch arg w) refl
restored_still l c i conn f (ReadBandwidth ch w) r on = unconnecting l c (restoring_job i conn f) (ReadBandwidth ch w) refl
restored_still l c i conn f (SwapBandwidth ch u arg w) r on = unconnecting l c (restoring_job i conn f) (SwapBandwidth ch u arg w) refl
restored_still l c i conn f (ConnectOutput ch u arg) r on = restored_output l c i conn f ch u arg (output_of conn) r.keeps.output on.0
restored_still l c i conn f (OverlayOutput arg) r on = unconnecting l c (restoring_job i conn f) (OverlayOutput arg) refl
restored_still l c i conn f (ReadInput g) r on = unconnecting l c (restoring_job i conn f) (ReadInput g) refl
restored_still l c i conn f (ConnectInput g arg) r on = restored_input l c conn f g.channel (input_of conn) r.keeps.input (ap (λ (x : Flow). x.channel) on)
restored_still l c i conn f (ReadInputToLeave ch u) r on = absurd on
restored_still l c i conn f (LeaveInput ch u arg) r on = absurd on
restored_still l c i conn f (ReadOutputToLeave e ch u) r on = absurd on
restored_still l c i conn f (LeaveOutput e ch u arg) r on = absurd on
restored_still l c i conn f (ReadBandwidthToRelease next ch u) r on = absurd on
restored_still l c i conn f (RaiseBandwidth next ch u arg) r on = absurd on
restored_still l c i conn f (ReadChannelsToRelease next ch) r on = absurd on
restored_still l c i conn f (RestoreChannel next ch arg) r on = absurd on
restored_still l c i conn f (Made g) r on = unconnecting l c (restoring_job i conn f) (Made g) refl
restored_still l c i conn f (Ended e) r on = absurd on

-- ---- by what the job is to do

ended_unconnecting : (s : Stage) → is_ended s ≡ true → connects s ≡ false
unfolding connects
ended_unconnecting (Ended e) h = refl
ended_unconnecting (ConnectOutput ch u arg) h = absurd (grind arith)
ended_unconnecting (ConnectInput f arg) h = absurd (grind arith)
ended_unconnecting _ h = refl

still_unconnecting : (s : Stage) → is_still s ≡ true → connects s ≡ false
unfolding connects
still_unconnecting (ConnectOutput ch u arg) h = absurd (grind arith)
still_unconnecting (ConnectInput f arg) h = absurd (grind arith)
still_unconnecting _ h = refl

leaving_unconnecting : (s : Stage) → is_leaving s ≡ true → connects s ≡ false
unfolding connects
leaving_unconnecting (ConnectOutput ch u arg) h = absurd (grind arith)
leaving_unconnecting (ConnectInput f arg) h = absurd (grind arith)
leaving_unconnecting _ h = refl

-- in a reclaim second no plug is set anew
course_still : (l : Account) (c : ℕ) (j : Job) (s : Stage) (slot : Slot) (why : Purpose) → MatchesFor why j slot → CourseFor why slot s
    → ((conn : Connection) (f : Flow) → slot ≡ Restoring conn f false → IsRestorable l conn f) → Still l c (move_of j s)
course_still l c j s slot Make m course own = unconnecting l c j s (ended_unconnecting s course)
course_still l c j s slot Restore m course own = go m.0 m.1 m.2 m.3 (subst (λ x. CourseFor Restore x s) m.2 course)
  where
    go : (f : Flow) (over : Bool) → slot ≡ Restoring j.connection f over → j ≡ restoring_job j.slot j.connection f → CourseFor Restore (Restoring j.connection f over) s → Still l c (move_of j s)
    go f true e is on = unconnecting l c j s (still_unconnecting s on)
    go f false e is on = subst (λ x. Still l c (move_of x s)) (sym is) (restored_still l c j.slot j.connection f s (own j.connection f e) on)
course_still l c j s slot Break m course own = unconnecting l c j s (leaving_unconnecting s course)

move_latest : (l : Account) (c : ℕ) (p : PlugAt) (m : Move) → ((after c p m l).latest ≡ l.latest) × ((after c p m l).reclaiming ≡ l.reclaiming)
    × ((ch : ℕ) → (after c p m l).reclaimable ch ≡ l.reclaimable ch)
move_latest l c p (AllocateChannel ch) = (refl, refl, λ k. refl)
move_latest l c p (AllocateUnits ch u) = (refl, refl, λ k. refl)
move_latest l c p (ConnectFirst kind ch overhead) = (refl, refl, λ k. refl)
move_latest l c p (ConnectOverlaid kind) = (refl, refl, λ k. refl)
move_latest l c p (JoinInput kind ch) = (refl, refl, λ k. refl)
move_latest l c p (DisconnectInput kind) = (refl, refl, λ k. refl)
move_latest l c p (DisconnectOutput kind) = (refl, refl, λ k. refl)
move_latest l c p (ReleaseUnits ch u) = (refl, refl, λ k. refl)
move_latest l c p (ReleaseChannel ch) = (refl, refl, λ k. refl)

leaves_same : (l : Account) → LeavesPlugs l l
leaves_same l = record { settings = λ q e. refl; channels = λ q e. refl; latest = refl; reclaiming = refl; reclaimable = λ k. refl }

leaves_move : (l : Account) (c : ℕ) (p : PlugAt) (m : Move) → Can c p m l → (l.reclaiming ≡ true → SameSettings l (after c p m l)) → LeavesPlugs l (after c p m l)
leaves_move l c p m can still = record {
  settings = λ q. settings q;
  channels = λ q. channels q;
  latest = (move_latest l c p m).0;
  reclaiming = (move_latest l c p m).1;
  reclaimable = (move_latest l c p m).2;
}
  where
    settings : (q : PlugAt) → (has_connection (l.outputs q) ≡ true) ⊎ (l.reclaiming ≡ true) → (after c p m l).settings q ≡ l.settings q
    settings q (inl has) = (move_keeps c p m l can).settings q has
    settings q (inr runs) = (still runs).settings q

    channels : (q : PlugAt) → (has_connection (l.inputs q) ≡ true) ⊎ (l.reclaiming ≡ true) → (after c p m l).input_channel q ≡ l.input_channel q
    channels q (inl has) = (move_keeps c p m l can).channels q has
    channels q (inr runs) = (still runs).channels q

-- what the answer to a controller's request leaves to all
pub carried_leaves : (l : Account) (c : ℕ) (j : Job) (s : Stage) (slot : Slot) (m : Account) → MatchesFor j.purpose j slot → (l.reclaiming ≡ true → CourseFor j.purpose slot s)
    → ((conn : Connection) (f : Flow) → slot ≡ Restoring conn f false → IsRestorable l conn f) → Carries l c j s m → LeavesPlugs l m
carried_leaves l c j s slot m match course own (Unchanged e) = subst (λ x. LeavesPlugs l x) (sym e) (leaves_same l)
carried_leaves l c j s slot m match course own (Moved p move is can e) =
    subst (λ x. LeavesPlugs l x) (sym e) (leaves_move l c p move can (λ runs. subst (λ o. Still l c o) is (course_still l c j s slot j.purpose match (course runs) own)))
