-- What commands do, and so a run, is actions one after another.
use Rattle.fw_model_run.proofs.Common.{◌≡◌, ℕ, zero, suc, Option, Some, List, [], ◌∷◌, ◌++◌, None, refl, ap, sym, subst, ◌∙◌, append_assoc, PlugAt, ResetEntry, Timed, Command, Order, talkers, State}
use Rattle.fw_model_run.proofs.Common.{first_state, living, Action, Unsettled, SendCommand, SendFrame, Receive, InsertTape}
use Rattle.fw_model_run.proofs.Common.{EjectTape, StartCycle, SendPacket, KeepBlock, Transitions, heard_in, half_steps_of}
use Rattle.fw_model_run.proofs.Common.{Rounds, none, round, rest, Carries, settled, writes_cycles}
use Rattle.fw_model_run.proofs.Common.{next_cycle, SendsPackets, HasCycle, HasCycles, commanded, inserts, ejects, ejects_nothing}
use Rattle.fw_model_run.proofs.Common.{SendsAll, quiet, sends, Run, begun, and_then}
use Rattle.fw_log_entry.specs.Log.{latest_epoch}
use Rattle.fw_log_entry.specs.declared.version.Version.TheVariants.{Two}
use Rattle.fw_log_entry.proofs.LogLaws.{entries_append}
use Rattle.fw_model_run.specs.Giving.{log_bytes}
use Rattle.fw_model_run.specs.Carrying.{unsettled, WritesCycle}
use Rattle.fw_model_run.proofs.Decided.{carried}

pub steps_then : (s t u : State) (xs ys : List Action) (a b : List Timed) → Transitions s xs a t → Transitions t ys b u → Transitions s (xs ++ ys) (a ++ b) u
steps_then s t u [] ys a b f g = rw f.0 (rw f.1 at g)
steps_then s t u (x ∷ xs) ys a b f g = (f.0, f.1 ++ b, f.2, f.3, ap (λ z. z ++ b) f.4 ∙ append_assoc f.0 f.1 b, steps_then f.2 t u xs ys f.1 b f.5 g)

pub rounds_steps : (n : ℕ) (s : State) (actions : List Action) (out : List Timed) (t : State) → Rounds n s actions out t → Transitions s actions out t
rounds_steps n s actions out t none = (refl, refl)
rounds_steps n s actions out t (round {n = k} m more first last f g) = steps_then s m t (half_steps_of (living s)) more first last f (rounds_steps k m more last t g)
rounds_steps n s actions out t (rest f) = f

all_steps : (d : ℕ) (s : State) (actions : List Action) (out : List Timed) (t : State) → SendsAll d s actions out t → Transitions s actions out t
all_steps d s actions out t (quiet e) = (refl, refl)
all_steps d s actions out t (sends m more first last f g) = steps_then s m t (SendFrame d ∷ Receive None ∷ []) more first last f (all_steps d m more last t g)

pub packets_steps : (plugs : List PlugAt) (s : State) (actions : List Action) (out : List Timed) (t : State) → SendsPackets plugs s actions out t → Transitions s actions out t
packets_steps [] s actions out t f = subst (λ xs. Transitions s xs out t) (sym f.0) (f.1, f.2)
packets_steps (p ∷ plugs) s actions out t f =
    subst (λ xs. Transitions s xs out t) (sym f.7) (subst (λ o. Transitions s (SendPacket p f.0 ∷ f.2) o t) (sym f.8)
    (steps_then s f.1 t (SendPacket p f.0 ∷ []) f.2 f.3 f.4 f.5 (packets_steps plugs f.1 f.2 f.4 t f.6)))

pub writes_steps : (s : State) (actions : List Action) (out : List Timed) (t : State) → WritesCycle s actions out t → Transitions s actions out t
writes_steps s actions out t f =
    subst (λ xs. Transitions s xs out t) (sym f.actions_are)
    (subst (λ o. Transitions s (next_cycle s ∷ StartCycle ∷ f.packets) o t) (sym f.out_is)
    (steps_then s f.mid t (next_cycle s ∷ StartCycle ∷ []) f.packets f.first f.last f.comes (packets_steps (talkers f.mid.account) f.mid f.packets f.last t f.sends)))

nothing_after : (xs : List Timed) → xs ++ [] ≡ xs
nothing_after [] = refl
nothing_after (x ∷ xs) = ap (λ z. x ∷ z) (nothing_after xs)

pub cycle_steps : (o : Option ResetEntry) (s : State) (actions : List Action) (out : List Timed) (t : State) → HasCycle o s actions out t → Transitions s actions out t
cycle_steps None s actions out t f = subst (λ xs. Transitions s xs out t) (sym f.1) f.0
cycle_steps (Some e) s actions out t f =
    let keeps = KeepBlock (heard_in f.sent out) ∷ [] in
    subst (λ xs. Transitions s xs out t) (sym f.actions_are)
    (subst (λ o. Transitions s (f.written ++ keeps) o t) (nothing_after out)
    (steps_then s f.sent t f.written keeps out [] (writes_steps s f.written out f.sent f.writes) f.keeps))

cycles_steps : (n : ℕ) (s : State) (actions : List Action) (out : List Timed) (t : State) → HasCycles n s actions out t → Transitions s actions out t
unfolding HasCycles
cycles_steps zero s actions out t f = subst (λ xs. Transitions s xs out t) (sym f.0) (f.1, f.2)
cycles_steps (suc n) s actions out t f =
    subst (λ xs. Transitions s xs out t) (sym f.7)
    (subst (λ o. Transitions s (f.1 ++ f.2) o t) (sym f.8) (steps_then s f.0 t f.1 f.2 f.3 f.4 (cycle_steps s.account.latest s f.1 f.3 f.0 f.5) (cycles_steps n f.0 f.2 f.4 t f.6)))

pub carries_steps : (s : State) (o : Order) (actions : List Action) (out : List Timed) (t : State) → Carries s o actions out t → Transitions s actions out t
carries_steps s o actions out t (settled {n = k} f e) = rounds_steps k s actions out t f
carries_steps s o actions out t (unsettled {n = k} m more first last f g) = steps_then s m t more (Unsettled ∷ []) first last (rounds_steps k s more first m f) g
carries_steps s o actions out t (writes_cycles {n = n} f) = cycles_steps n s actions out t f
carries_steps s o actions out t (commanded {a = a} {b = b} {bytes = bytes} x m more first last f g) =
    steps_then s m t (SendCommand a b bytes ∷ Receive x ∷ []) more first last f (all_steps b m more last t g)
carries_steps s o actions out t (inserts {d = d} {tape = tape} {system = system} m more first last f g) =
    steps_then s m t (InsertTape d tape system ∷ []) more first last f (all_steps d m more last t g)
carries_steps s o actions out t (ejects {d = d} m more first last f g) = steps_then s m t (EjectTape d ∷ []) more first last f (all_steps d m more last t g)
carries_steps s o actions out t (ejects_nothing e) = (refl, refl)
carries_steps s o actions out t f = let x = carried s o actions out t f in subst (λ z. Transitions s z out t) (sym x.0) x.1

pub log_append : (epoch : ℕ) (xs ys : List Timed) → log_bytes epoch (xs ++ ys) ≡ log_bytes epoch xs ++ log_bytes (latest_epoch epoch xs) ys
log_append epoch xs ys = entries_append Two epoch xs ys

-- a run is its actions, one after another
pub run_steps : (commands : List Command) (actions : List Action) (log : List Timed) (s : State) → Run commands actions log s → Transitions first_state actions log s
run_steps commands actions log s begun = (refl, refl)
run_steps commands actions log s (and_then {commands = cs} {actions = xs} {log = prefix} {s = mid} r c o more out t decided f) =
    steps_then first_state mid s xs more prefix out (run_steps cs xs prefix mid r) (carries_steps mid o more out s f)
