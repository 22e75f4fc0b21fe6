-- Between the commands of a run no response waits.
use Rattle.std.proofs.Common.{◌≡◌, ◌≢◌, ◌⊎◌, inl, inr, ℕ, List, [], ◌∷◌, Bool, true, false, cond, Option, Some, None, refl, ap, sym, subst, ◌∙◌}
use Rattle.std.specs.Prelude.{⊤}
use Rattle.std.proofs.lemmas.Bool.{cases_eq}
use Rattle.fw_terms.specs.Tables.{update}
use Rattle.fw_log_entry.specs.declared.entry.Timed.{Timed}
use Rattle.fw_fcp.specs.declared.frame.Frame.{Frame}
use Rattle.fw_script_command.specs.declared.command.Command.{Command}
use Rattle.fw_order.specs.declared.order.Order.{Order}
use Rattle.fw_model_run.specs.Actions.{Action, SendCommand, SendFrame, Receive}
use Rattle.fw_model_run.specs.Actions.{InsertTape, EjectTape}
use Rattle.fw_model_run.specs.Deeds.{Transition, Transitions}
use Rattle.fw_model_run.specs.Carrying.{none, SendsAll, quiet, sends, Carries}
use Rattle.fw_model_run.specs.Carrying.{waits}
use Rattle.fw_model_run.specs.Carrying.{commanded}
use Rattle.std.proofs.lemmas.Option.{same_Some}
use Rattle.fw_model_run.specs.Decks.{DeckState, FrameWrite, Obeyed, after_frame, next_frame}
use Rattle.fw_model_run.specs.Frames.{decks_after, command_write}
use Rattle.fw_model_run.specs.Runs.{Run, begun, and_then}
use Rattle.fw_model_run.specs.State.{State, has_deck}
use Rattle.fw_model_run.proofs.Turns.{update_new, update_others}
use Rattle.fw_bus_engine.specs.Framing.{IsQuiet}
use Rattle.fw_bus_state.specs.declared.machine.Machine.{Machine}
use Rattle.fw_bus_state.specs.Stands.{StandsFor}
use Rattle.fw_model_run.proofs.Alterations.{Allows, Alteration, AtUnits, IsAtUnits, altered}
use Rattle.fw_model_run.proofs.Effects.{Effect, altering, effect, resetting}
use Rattle.fw_model_run.proofs.Each.{Each, IsCommand, IsPartOf, each_carried}
use Rattle.fw_model_run.proofs.Runs.{carries_steps}

-- no response waits
abbrev pub AreQuiet : State → Type 0
AreQuiet s = (d : ℕ) → (s.decks d).waiting ≡ None

-- none but that of a device
abbrev AreQuietBut : ℕ → State → Type 0
AreQuietBut b s = ((d : ℕ) → d ≢ b → (s.decks d).waiting ≡ None) × (has_deck s b ≡ false → (s.decks b).waiting ≡ None)

-- no action but the answer to a command leaves a response
abbrev IsCalm : Action → Type 0
IsCalm (Receive (Some x)) = ⊥
IsCalm _ = ⊤

abbrev AreCalm : List Action → Type 0
AreCalm actions = Each IsCalm actions

-- ---- one action

as_is : (t u : State) → t ≡ u → AreQuiet u → AreQuiet t
as_is t u e q = subst AreQuiet (sym e) q

update_quiet : (f : ℕ → DeckState) (d : ℕ) (k : DeckState) → ((c : ℕ) → (f c).waiting ≡ None) → k.waiting ≡ None → (c : ℕ) → (update f d k c).waiting ≡ None
update_quiet f d k q e c = go (cases_eq c d)
  where
    go : (c ≡ d) ⊎ (c ≢ d) → (update f d k c).waiting ≡ None
    go (inl same) = ap (λ x. (update f d k x).waiting) same ∙ (ap (λ (x : DeckState). x.waiting) (update_new f d k) ∙ e)
    go (inr ne) = ap (λ (x : DeckState). x.waiting) (update_others f d k c ne) ∙ q c

sent_quiet : (k : DeckState) → k.waiting ≡ None → (after_frame k).waiting ≡ None
sent_quiet k e = go k.waiting
  where
    go : (w : Option (ℕ × Frame)) → (after_frame (record k { waiting = w })).waiting ≡ None
    go None = refl
    go (Some told) = refl

-- one that does not touch a unit
apart_quiet : (s : State) (a : Action) (out : List Timed) (t : State) → (IsAtUnits a → ⊥) → AreQuiet s → Effect s a out t → AreQuiet t
apart_quiet s a out t apart q (resetting counts half_steps n initiator free begins may r) = as_is t _ r.state_is (λ d. refl)
apart_quiet s a out t apart q (altering y w out_is is ok) = as_is t _ is (by y ok)
  where
    by : (y : Alteration) → Allows s a y → AreQuiet (altered s y)
    by (AtUnits says decks frame) ok = absurd (apart ok.3)
    by _ ok = λ d. q d

step_quiet : (s : State) (a : Action) (out : List Timed) (t : State) → IsCalm a → AreQuiet s → Transition s a out t → AreQuiet t
step_quiet s (SendFrame d) out t calm q x = as_is t _ x.state_is (update_quiet s.decks d (after_frame (s.decks d)) q (sent_quiet (s.decks d) (q d)))
step_quiet s (Receive None) out t calm q x = as_is t _ x.state_is q
step_quiet s (Receive (Some y)) out t calm q x = absurd calm
step_quiet s (InsertTape d tape system) out t calm q x = as_is t _ x.state_is (update_quiet s.decks d _ q (q d))
step_quiet s (EjectTape d) out t calm q x = as_is t _ x.state_is (update_quiet s.decks d _ q (q d))
step_quiet s a out t calm q x = apart_quiet s a out t (λ no. no) q (effect s a out t x)

steps_quiet : (s : State) (actions : List Action) (out : List Timed) (t : State) → AreCalm actions → AreQuiet s → Transitions s actions out t → AreQuiet t
steps_quiet s [] out t calm q f = as_is t s f.1 q
steps_quiet s (a ∷ actions) out t calm q f = steps_quiet f.2 actions f.1 t calm.1 (step_quiet s a f.0 f.2 calm.0 q f.3) f.5

-- ---- an order

-- the response that waits is sent
but_sent : (s m : State) (b : ℕ) (first : List Timed) → AreQuietBut b s → Transitions s (SendFrame b ∷ Receive None ∷ []) first m → AreQuietBut b m
but_sent s m b first q f =
    let sent = f.3 in
    let u : State = f.2 in
    let is : m ≡ record u { frame = None } = f.5.5.1 ∙ f.5.3.state_is in
    subst (AreQuietBut b) (sym (is ∙ ap (λ (z : State). record z { frame = None }) sent.state_is)) (
      (λ d ne. ap (λ (x : DeckState). x.waiting) (update_others s.decks b (after_frame (s.decks b)) d ne) ∙ q.0 d ne),
      λ off. ap (λ (x : DeckState). x.waiting) (update_new s.decks b (after_frame (s.decks b))) ∙ sent_quiet (s.decks b) (q.1 off),
    )

all_quiet : (b : ℕ) (s : State) (xs : List Action) (out : List Timed) (t : State) → AreQuietBut b s → SendsAll b s xs out t → AreQuiet t
all_quiet b s xs out t q (quiet e) = λ d. go d (cases_eq d b)
  where
    waits : (c : Bool) → has_deck s b ≡ c → (s.decks b).waiting ≡ None
    waits false off = q.1 off
    waits true on = of (s.decks b).waiting (sym (ap (λ c. cond c (next_frame (s.decks b)) None) on) ∙ e)
      where
        of : (w : Option (ℕ × Frame)) → next_frame (record (s.decks b) { waiting = w }) ≡ None → w ≡ None
        of None e = refl
        of (Some told) e = let no : ⊥ = cc e in absurd no

    go : (d : ℕ) → (d ≡ b) ⊎ (d ≢ b) → (s.decks d).waiting ≡ None
    go d (inl same) = ap (λ c. (s.decks c).waiting) same ∙ waits (has_deck s b) refl
    go d (inr ne) = q.0 d ne
all_quiet b s xs out t q (sends m more first last f g) = all_quiet b m more last t (but_sent s m b first q f) g

but_all : (b : ℕ) (s : State) → AreQuiet s → AreQuietBut b s
but_all b s q = ((λ d ne. q d), λ off. q b)

-- a command leaves a response at its device alone, and only if that has a unit
but_received : (s m : State) (a b : ℕ) (bytes : List ℕ) (o : Option Obeyed) (first : List Timed) → AreQuiet s → Transitions s (SendCommand a b bytes ∷ Receive o ∷ []) first m → AreQuietBut b m
but_received s m a b bytes o first q f = go o f.5
  where
    mid : State
    mid = f.2

    asked : mid ≡ record s { frame = Some (command_write a b bytes) }
    asked = f.3.state_is

    go : (o : Option Obeyed) → Transitions mid (Receive o ∷ []) f.1 m → AreQuietBut b m
    go None h = but_all b m (steps_quiet mid (Receive None ∷ []) f.1 m (tt, tt) (as_is mid _ asked q) h)
    go (Some y) h =
        let w = h.3.found.write in
        at w (same_Some w (command_write a b bytes) (sym h.3.may.waits ∙ ap (λ (z : State). z.frame) asked)) h.3.may.followed.0 (h.5.1 ∙ h.3.state_is)
      where
        at : (w : FrameWrite) → w ≡ command_write a b bytes → has_deck mid w.to ≡ true → m ≡ record mid { decks = decks_after mid w (Some y); frame = None } → AreQuietBut b m
        at w same on is =
            let to : w.to ≡ b = ap (λ (z : FrameWrite). z.to) same in
            let quiet_mid : AreQuiet mid = as_is mid _ asked q in
            subst (AreQuietBut b) (sym is) (
              (λ d ne. ap (λ (x : DeckState). x.waiting) (update_others mid.decks w.to _ d (λ e. ne (e ∙ to))) ∙ quiet_mid d),
              λ off. let wrong : false ≡ true = sym off ∙ (ap (has_deck mid) (sym to) ∙ on) in let no : ⊥ = cc wrong in absurd no,
            )

-- no order but a command has such an answer
calm_part : (o : Order) → (IsCommand o → ⊥) → (a : Action) → IsPartOf o a → IsCalm a
calm_part o other (Receive (Some x)) is = absurd (other is)
calm_part o other _ is = tt

carries_quiet : (s : State) (o : Order) (xs : List Action) (out : List Timed) (t : State) → AreQuiet s → Carries s o xs out t → AreQuiet t
carries_quiet s o xs out t q (commanded {a = a} {b = b} {bytes = bytes} x m more first last f g) = all_quiet b m more last t (but_received s m a b bytes x first q f) g
carries_quiet s o xs out t q f = steps_quiet s xs out t (each_carried IsCalm s o xs out t (calm_part o (λ is. is)) f) q (carries_steps s o xs out t f)

-- ---- a run

pub run_quiet : {commands : List Command} {actions : List Action} {log : List Timed} {s : State} → Run commands actions log s → AreQuiet s
run_quiet begun = λ d. refl
run_quiet (and_then {s = s} r c o more out t decided carries) = carries_quiet s o more out t (run_quiet r) carries

-- so no response waits in a machine that stands for its state
pub quiet_of : (m : Machine) (s : State) → StandsFor m s → AreQuiet s → IsQuiet m.devices
quiet_of m s st q d lt = let h = st.devices.decks.each d lt in h.waiting ∙ go (has_deck s d) (q d)
  where
    go : (b : Bool) → (s.decks d).waiting ≡ None → cond b (s.decks d).waiting None ≡ None
    go true e = e
    go false e = refl
