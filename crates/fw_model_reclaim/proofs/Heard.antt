-- What follows an answer keeps a restoring on its course, stage by stage.
use Rattle.fw_model_reclaim.proofs.Common.{PlugAt, ◌≡◌, ℕ, ◌<◌, true, Some, None, refl, sym, ap, subst}
use Rattle.fw_model_reclaim.proofs.Common.{◌∙◌, arith, cond, eqb, nat_tests, Reply, Account, restoring_job, Connection, PlugToPlug, BroadcastOut}
use Rattle.fw_model_reclaim.proofs.Common.{BroadcastIn, Flow, Job, Target, Stage, Begin, ReadOutput, ReadChannels, SwapChannels, ReadBandwidth, SwapBandwidth, ConnectOutput, OverlayOutput, ReadInput}
use Rattle.fw_model_reclaim.proofs.Common.{ConnectInput, ReadInputToLeave, LeaveInput, ReadOutputToLeave, LeaveOutput}
use Rattle.fw_model_reclaim.proofs.Common.{ReadBandwidthToRelease, RaiseBandwidth, ReadChannelsToRelease, RestoreChannel, Made}
use Rattle.fw_model_reclaim.proofs.Common.{Ended, kind_of, output_of, input_of, half_of, decide_units, decide_in, overlaid_flow}
use Rattle.fw_model_reclaim.proofs.Common.{HasInput, target_of, hear, hear_reply, refuse, IsAnswer, has_manager, most}
use Rattle.fw_model_reclaim.proofs.Common.{number_of, IsOnCourse}
use Rattle.std.specs.Prelude.{IsTrue}
use Rattle.std.specs.Option.{option_map}
use Rattle.fw_model_account.specs.Account.{Pending, remainder}
use Rattle.fw_model_account.specs.Words.{word_of}
use Rattle.fw_cmp_jobs.specs.declared.request.Target.TheVariants.{OutputPlug, InputPlug, BandwidthAvailable}
use Rattle.fw_cmp_jobs.specs.Fits.{HasOutput}
use Rattle.fw_model_controllers.specs.Holding.{HasReserved}
use Rattle.fw_model_controllers.specs.InStep.{reservation}
use Rattle.fw_model_controllers.specs.Registers.{register_at, stands}
use Rattle.fw_model_reclaim.specs.Rooms.{IsRestoring}
use Rattle.fw_model_reclaim.proofs.Course.{AtOutput, course_output, course_input, course_channel, course_units, course_joined, overlaid_is, whichever}

-- the output plug of a connection that has one, and the input plug
pub output_there : (conn : Connection) → HasOutput conn → (p : PlugAt) × (output_of conn ≡ Some p)
output_there (PlugToPlug out into) has = (out, refl)
output_there (BroadcastOut out) has = (out, refl)
output_there (BroadcastIn into) has = absurd (grind arith)

pub input_there : (conn : Connection) → HasInput conn → (q : PlugAt) × (input_of conn ≡ Some q)
input_there (PlugToPlug out into) has = (into, refl)
input_there (BroadcastOut out) has = absurd has
input_there (BroadcastIn into) has = (into, refl)

-- the register answers with its word
answers : (l : Account) (j : Job) (s : Stage) (t : Target) (r : Reply) → IsAnswer l t r → IsTrue (stands l.latest t) → hear_reply j s r ≡ hear j s (word_of l (register_at t))
answers l j s t r a st =
    let e = a.complete st in
    let complete : eqb r.rcode 0 ≡ true = grind (arith, nat_tests, e.0) in
    ap (λ b. cond b (hear j s r.value) (refuse j s r.rcode)) complete ∙ ap (λ v. hear j s v) e.1

at_output : (l : Account) (c i : ℕ) (conn : Connection) (f : Flow) (s : Stage) (p : PlugAt) → output_of conn ≡ Some p → IsRestoring l c i conn f s → AtOutput l p f
at_output l c i conn f s p e h = record { sound = h.sound; second = h.restorable.second; flow = h.restorable.keeps.output p e; listed = h.restorable.listed p e; there = h.restorable.output p e }

-- what the answer leads to, if the request's register is t
abbrev pub Leads : Account → ℕ → Connection → Flow → Stage → Reply → Target → Type 0
Leads l i conn f s r t = IsAnswer l t r → IsOnCourse f (hear_reply (restoring_job i conn f) s r)

-- by a word of the output plug, of the input plug, of the manager
by_output : (l : Account) (c i : ℕ) (conn : Connection) (f : Flow) (s : Stage) (r : Reply) (p : PlugAt) → output_of conn ≡ Some p → IsRestoring l c i conn f s
    → IsOnCourse f (hear (restoring_job i conn f) s (word_of l (register_at (OutputPlug p)))) → Leads l i conn f s r (OutputPlug p)
by_output l c i conn f s r p e h on a = subst (λ x. IsOnCourse f x) (sym (answers l (restoring_job i conn f) s (OutputPlug p) r a (h.restorable.output p e))) on

by_input : (l : Account) (c i : ℕ) (conn : Connection) (f : Flow) (s : Stage) (r : Reply) (q : PlugAt) → input_of conn ≡ Some q → IsRestoring l c i conn f s
    → IsOnCourse f (hear (restoring_job i conn f) s (word_of l (register_at (InputPlug q)))) → Leads l i conn f s r (InputPlug q)
by_input l c i conn f s r q e h on a = subst (λ x. IsOnCourse f x) (sym (answers l (restoring_job i conn f) s (InputPlug q) r a (h.restorable.input q e))) on

by_manager : (l : Account) (c i : ℕ) (conn : Connection) (f : Flow) (s : Stage) (r : Reply) (t : Target) → HasOutput conn → stands l.latest t ≡ has_manager l.latest → IsRestoring l c i conn f s
    → IsOnCourse f (hear (restoring_job i conn f) s (word_of l (register_at t))) → Leads l i conn f s r t
by_manager l c i conn f s r t has st h on a = subst (λ x. IsOnCourse f x) (sym (answers l (restoring_job i conn f) s t r a (st ∙ h.restorable.keeps.manager has))) on

-- the target of a request
abbrev pub Asked : Job → Stage → Target → Type 0
Asked j s t = target_of j s ≡ Some t

-- a request at the output plug is at that plug
output_asked : (conn : Connection) (p : PlugAt) (t : Target) → output_of conn ≡ Some p → option_map OutputPlug (output_of conn) ≡ Some t → t ≡ OutputPlug p
output_asked conn p t e a = grind (arith, e, a)

input_asked : (conn : Connection) (q : PlugAt) (t : Target) → input_of conn ≡ Some q → option_map InputPlug (input_of conn) ≡ Some t → t ≡ InputPlug q
input_asked conn q t e a = grind (arith, e, a)

-- ---- by stage

-- a swap that succeeds goes on, one that fails is decided anew
swapped : (f : Flow) (v arg : ℕ) (x y : Stage) → (v ≡ arg → IsOnCourse f x) → IsOnCourse f y → IsOnCourse f (cond (eqb v arg) x y)
swapped f v arg x y done failed = whichever f (eqb v arg) x y (λ e. done (grind (arith, nat_tests))) (λ e. failed)

-- what the controller has allocated for its output plug
allocated_for : (l : Account) (c : ℕ) (conn : Connection) (p : PlugAt) (ch u : ℕ) → output_of conn ≡ Some p
    → HasReserved c (reservation (output_of conn) (Some (record { channel = ch; units = u }))) l.allocations → l.allocations ch ≡ Some (record { holder = Pending c p; units = u })
allocated_for l c conn p ch u e has = (subst (λ o. HasReserved c (reservation o (Some (record { channel = ch; units = u }))) l.allocations) e has).1

units_on : (l : Account) (c i : ℕ) (conn : Connection) (f : Flow) (s : Stage) (ch w : ℕ) → IsRestoring l c i conn f s → HasOutput conn
    → HasReserved c (reservation (output_of conn) (Some (record { channel = ch; units = 0 }))) l.allocations → ch ≡ f.channel → IsOnCourse f (decide_units (restoring_job i conn f) ch w (remainder l))
units_on l c i conn f s ch w h out has e =
    let p = output_there conn out in
    subst (λ k. IsOnCourse f (decide_units (restoring_job i conn f) k w (remainder l))) (sym e)
    (course_units l c p.0 i conn f w (at_output l c i conn f s p.0 p.1 h)
    (subst (λ k. l.allocations k ≡ Some (record { holder = Pending c p.0; units = 0 })) e (allocated_for l c conn p.0 ch 0 p.1 has)))

input_on : (l : Account) (c i : ℕ) (conn : Connection) (f : Flow) (s : Stage) (g : Flow) (q : PlugAt) → input_of conn ≡ Some q → IsRestoring l c i conn f s → g ≡ f
    → number_of (kind_of conn) (l.inputs q) < most (kind_of conn) → IsOnCourse f (decide_in (restoring_job i conn f) g (word_of l (register_at (InputPlug q))))
input_on l c i conn f s g q has h e room = subst (λ x. IsOnCourse f (decide_in (restoring_job i conn f) x (word_of l (register_at (InputPlug q))))) (sym e)
    (course_input l q i conn f (record { sound = h.sound; channel = h.restorable.keeps.input q has; there = h.restorable.input q has }) has room)

pub heard : (l : Account) (c i : ℕ) (conn : Connection) (f : Flow) (s : Stage) (r : Reply) (t : Target) → IsRestoring l c i conn f s → IsOnCourse f s → Asked (restoring_job i conn f) s t
    → Leads l i conn f s r t
heard l c i conn f Begin r t h on a = absurd (grind arith)
heard l c i conn f ReadOutput r t h on a =
    let p = output_there conn h.fits in
    subst (λ x. Leads l i conn f ReadOutput r x) (sym (output_asked conn p.0 t p.1 a))
    (by_output l c i conn f ReadOutput r p.0 p.1 h (course_output l c p.0 i conn f None (at_output l c i conn f ReadOutput p.0 p.1 h) tt (h.output_room p.0 p.1 refl)))
heard l c i conn f (ReadChannels base w) r t h on a = by_manager l c i conn f (ReadChannels base w) r t h.fits.0 (grind (arith, a)) h (course_channel i conn f base w (word_of l (register_at t)))
heard l c i conn f (SwapChannels ch arg w) r t h on a = by_manager l c i conn f (SwapChannels ch arg w) r t h.fits.0 (grind (arith, a)) h
    (swapped f (word_of l (register_at t)) arg (ReadBandwidth ch w) _ (λ e. on) (course_channel i conn f (half_of ch) w (word_of l (register_at t))))
heard l c i conn f (ReadBandwidth ch w) r t h on a = subst (λ x. Leads l i conn f (ReadBandwidth ch w) r x) (asked_bandwidth a)
    (by_manager l c i conn f (ReadBandwidth ch w) r BandwidthAvailable h.fits.0 refl h (units_on l c i conn f (ReadBandwidth ch w) ch w h h.fits.0 h.reserved on))
  where
    asked_bandwidth : Some BandwidthAvailable ≡ Some t → BandwidthAvailable ≡ t
    asked_bandwidth e = grind (arith, e)
heard l c i conn f (SwapBandwidth ch u arg w) r t h on a = subst (λ x. Leads l i conn f (SwapBandwidth ch u arg w) r x) (asked_bandwidth a)
    (by_manager l c i conn f (SwapBandwidth ch u arg w) r BandwidthAvailable h.fits.0 refl h
    (swapped f (remainder l) arg (ConnectOutput ch u w) _ (λ e. on) (units_on l c i conn f (SwapBandwidth ch u arg w) ch w h h.fits.0 h.reserved on.0)))
  where
    asked_bandwidth : Some BandwidthAvailable ≡ Some t → BandwidthAvailable ≡ t
    asked_bandwidth e = grind (arith, e)
heard l c i conn f (ConnectOutput ch u arg) r t h on a =
    let p = output_there conn h.fits.0 in
    let room = h.output_room p.0 p.1 refl in
    let held : l.allocations f.channel ≡ Some (record { holder = Pending c p.0; units = f.units }) =
    subst (λ k. l.allocations k ≡ Some (record { holder = Pending c p.0; units = f.units })) on.0
    (subst (λ v. l.allocations ch ≡ Some (record { holder = Pending c p.0; units = v })) on.1 (allocated_for l c conn p.0 ch u p.1 h.reserved)) in
    subst (λ x. Leads l i conn f (ConnectOutput ch u arg) r x) (sym (output_asked conn p.0 t p.1 a))
    (by_output l c i conn f (ConnectOutput ch u arg) r p.0 p.1 h
    (swapped f (word_of l (register_at (OutputPlug p.0))) arg _ _ (λ e. course_joined i conn f _ (λ k. record { channel = on.0 k; overhead = f.overhead; units = on.1 k }))
    (course_output l c p.0 i conn f (Some (record { channel = ch; units = u })) (at_output l c i conn f (ConnectOutput ch u arg) p.0 p.1 h) (on.0, on.1, held) room)))
heard l c i conn f (OverlayOutput arg) r t h on a =
    let p = output_there conn h.fits.0 in
    let room = h.output_room p.0 p.1 refl in
    let at = at_output l c i conn f (OverlayOutput arg) p.0 p.1 h in
    subst (λ x. Leads l i conn f (OverlayOutput arg) r x) (sym (output_asked conn p.0 t p.1 a))
    (by_output l c i conn f (OverlayOutput arg) r p.0 p.1 h (swapped f (word_of l (register_at (OutputPlug p.0))) arg _ _
    (λ e. course_joined i conn f _ (subst (λ v. overlaid_flow v ≡ f) e (overlaid_is l p.0 f at))) (course_output l c p.0 i conn f None at tt room)))
heard l c i conn f (ReadInput g) r t h on a =
    let q = input_there conn h.fits.0 in
    let room = h.input_room q.0 q.1 refl in
    subst (λ x. Leads l i conn f (ReadInput g) r x) (sym (input_asked conn q.0 t q.1 a)) (by_input l c i conn f (ReadInput g) r q.0 q.1 h (input_on l c i conn f (ReadInput g) g q.0 q.1 h on room))
heard l c i conn f (ConnectInput g arg) r t h on a =
    let q = input_there conn h.fits.0 in
    let room = h.input_room q.0 q.1 refl in
    subst (λ x. Leads l i conn f (ConnectInput g arg) r x) (sym (input_asked conn q.0 t q.1 a))
    (by_input l c i conn f (ConnectInput g arg) r q.0 q.1 h (swapped f (word_of l (register_at (InputPlug q.0))) arg (Made g) _ (λ e. on)
    (input_on l c i conn f (ConnectInput g arg) g q.0 q.1 h on room)))
heard l c i conn f (ReadInputToLeave ch u) r t h on a = absurd on
heard l c i conn f (LeaveInput ch u arg) r t h on a = absurd on
heard l c i conn f (ReadOutputToLeave e ch u) r t h on a = absurd on
heard l c i conn f (LeaveOutput e ch u arg) r t h on a = absurd on
heard l c i conn f (ReadBandwidthToRelease next ch u) r t h on a = absurd on
heard l c i conn f (RaiseBandwidth next ch u arg) r t h on a = absurd on
heard l c i conn f (ReadChannelsToRelease next ch) r t h on a = absurd on
heard l c i conn f (RestoreChannel next ch arg) r t h on a = absurd on
heard l c i conn f (Made g) r t h on a = absurd (grind arith)
heard l c i conn f (Ended e) r t h on a = absurd on
