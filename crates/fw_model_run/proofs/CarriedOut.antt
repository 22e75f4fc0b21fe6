-- What the state decides of an order is carried out.
use Rattle.std.proofs.Common.{◌≡◌, ℕ, ◌+◌, ◌-◌, ◌≤◌, nat_le, Bool, true, false, List, [], ◌∷◌, Option, Some, None}
use Rattle.std.proofs.Common.{refl, sym, subst, arith}
use Rattle.std.specs.Prelude.{⊤, if◌then◌else◌}
use Rattle.std.proofs.lemmas.Bool.{and_parts, leb-true}
use Rattle.fw_log_entry.specs.declared.entry.Timed.{Timed}
use Rattle.fw_order.specs.declared.order.Order.{Order}
use Rattle.fw_order.specs.declared.order.Order.TheVariants as Orders
use Rattle.fw_model_run.specs.Actions.{Action, Withhold, Pass, EndSecond, Die, CarryOut, Start, BecomeCandidate}
use Rattle.fw_model_run.specs.Bidding.{is_candidate}
use Rattle.fw_model_run.specs.Carrying.{Carries, withholds, withholds_already, declares, joins, resets, connects, breaks, steps, waits, waits_over}
use Rattle.fw_model_run.specs.Carrying.{dies, dies_late, dies_idle, loses, starts, goes_on, transacts, shows}
use Rattle.fw_model_run.specs.Carrying.{becomes_candidate, stays_candidate, contends, dubs, ends}
use Rattle.fw_model_run.specs.Deeds.{Transitions}
use Rattle.fw_model_run.specs.HalfSteps.{has_request}
use Rattle.fw_model_run.specs.Orders.{actions_of, cycles_before, is_over_within, unless}
use Rattle.fw_model_run.specs.State.{State}
use Rattle.fw_model_run.proofs.Decided.{over_after}

-- the order does what was decided, if anything was
abbrev CarriesDecided : Option (List Action) → State → Order → List Timed → State → Type 0
CarriesDecided None s o out t = ⊤
CarriesDecided (Some decided) s o out t = Transitions s decided out t → Carries s o decided out t

-- nothing is done
nothing : (s t : State) (o : Order) (out : List Timed) → Carries s o [] [] s → (out ≡ []) × (t ≡ s) → Carries s o [] out t
nothing s t o out f e = subst (λ z. Carries s o [] z t) (sym e.0) (subst (λ z. Carries s o [] [] z) (sym e.1) f)

carry_withhold : (so : Bool) (s t : State) (out : List Timed) → s.account.withheld ≡ so → Transitions s (unless so Withhold) out t → Carries s Orders.Withhold (unless so Withhold) out t
carry_withhold true s t out e f = nothing s t Orders.Withhold out (withholds_already e) f
carry_withhold false s t out e f = withholds f

carry_candidate : (so : Bool) (s t : State) (d : ℕ) (out : List Timed) → is_candidate s d ≡ so → Transitions s (unless so (BecomeCandidate d)) out t
    → Carries s (Orders.Candidate d) (unless so (BecomeCandidate d)) out t
carry_candidate true s t d out e f = nothing s t (Orders.Candidate d) out (stays_candidate e) f
carry_candidate false s t d out e f = becomes_candidate f

carry_start : (dead : Bool) (s t : State) (d : ℕ) (out : List Timed) → s.dead d ≡ dead → Transitions s (if dead then Start d ∷ [] else []) out t
    → Carries s (Orders.Start d) (if dead then Start d ∷ [] else []) out t
carry_start true s t d out e f = starts f
carry_start false s t d out e f = nothing s t (Orders.Start d) out (goes_on e) f

carry_wait : (over : Bool) (s t : State) (n before after : ℕ) (out : List Timed) → before ≡ cycles_before s → after ≡ n - (before + 1) → is_over_within s n ≡ over
    → Transitions s (if over then Pass before ∷ EndSecond ∷ Pass after ∷ [] else Pass n ∷ []) out t
    → Carries s (Orders.Wait n) (if over then Pass before ∷ EndSecond ∷ Pass after ∷ [] else Pass n ∷ []) out t
carry_wait false s t n before after out first last e f = waits f
carry_wait true s t n before after out first last e f =
    let reached : s.clock.over_at ≤ s.clock.cycle + n = leb-true s.clock.over_at (s.clock.cycle + n) (and_parts s.account.reclaiming (nat_le s.clock.over_at (s.clock.cycle + n)) e).1 in
    let at : s.clock.cycle + before + 1 ≡ s.clock.over_at = (over_after s t before (Pass after ∷ []) out f).1 in
    let sum : n ≡ before + 1 + after = omega (arith, reached, at, last) in
    waits_over sum f

carry_late : (has : Bool) (s t : State) (d : ℕ) (out : List Timed) → has_request (s.controllers d).current ≡ has
    → Transitions s (if has then CarryOut d ∷ Die d ∷ [] else Die d ∷ []) out t → Carries s (Orders.Die d true) (if has then CarryOut d ∷ Die d ∷ [] else Die d ∷ []) out t
carry_late true s t d out e f = dies_late f
carry_late false s t d out e f = dies_idle e f

carry_decided : (s : State) (o : Order) (out : List Timed) (t : State) → CarriesDecided (actions_of s o) s o out t
carry_decided s Orders.Withhold out t = λ f. carry_withhold s.account.withheld s t out refl f
carry_decided s (Orders.Declare name kind ports speed) out t = λ f. declares f
carry_decided s (Orders.Cable a b) out t = λ f. joins f
carry_decided s (Orders.Reset d) out t = λ f. resets f
carry_decided s (Orders.Connect d w i) out t = λ f. connects f
carry_decided s (Orders.Break d i) out t = λ f. breaks f
carry_decided s (Orders.Step d count) out t = λ f. steps f
carry_decided s (Orders.Settle n) out t = tt
carry_decided s (Orders.Wait n) out t = λ f. carry_wait (is_over_within s n) s t n (cycles_before s) (n - (cycles_before s + 1)) out refl refl refl f
carry_decided s (Orders.Cycles n) out t = tt
carry_decided s (Orders.Die d true) out t = λ f. carry_late (has_request (s.controllers d).current) s t d out refl f
carry_decided s (Orders.Die d false) out t = λ f. dies f
carry_decided s (Orders.Lose d) out t = λ f. loses f
carry_decided s (Orders.Start d) out t = λ f. carry_start (s.dead d) s t d out refl f
carry_decided s (Orders.Transact x) out t = λ f. transacts f
carry_decided s (Orders.Command a b bytes) out t = tt
carry_decided s (Orders.Insert d tape system) out t = tt
carry_decided s (Orders.Eject d) out t = tt
carry_decided s (Orders.Show d offset) out t = λ f. shows f
carry_decided s (Orders.Candidate d) out t = λ f. carry_candidate (is_candidate s d) s t d out refl f
carry_decided s (Orders.Contend d count) out t = λ f. contends f
carry_decided s (Orders.Dub d) out t = λ f. dubs f
carry_decided s Orders.End out t = λ f. ends f

pub decided_is_carried : (s : State) (o : Order) (decided : List Action) (out : List Timed) (t : State) → actions_of s o ≡ Some decided → Transitions s decided out t → Carries s o decided out t
decided_is_carried s o decided out t e f = subst (λ z. CarriesDecided z s o out t) e (carry_decided s o out t) f
