-- The epoch of a state is that of the latest reset among the entries that led to it.
use Rattle.fw_model_run.proofs.Common.{◌≡◌, ℕ, ◌==◌, ◌&&◌, cond, Bool, true, false, List, [], ◌∷◌, Option, Some, None, is_some, refl, ap, sym, ◌∙◌, quadlet_at, PlugAt, Head, Packet, ReadQuadletReply}
use Rattle.fw_model_run.proofs.Common.{
  LockReply,
  device_of_id,
  Entry,
  Reset,
  Async,
  Iso,
  Event,
  Outcome,
  Shown,
  End,
  Timed,
  Account,
  next_account,
  Register,
  register_of,
  Action,
  Transition,
  Transitions,
  IsGood,
}
use Rattle.fw_model_run.proofs.Common.{at_most, State, epoch_of, first_state, Run, Command}
use Rattle.std.proofs.Common.{is_none}
use Rattle.fw_async.specs.declared.packet.Packet.TheVariants.{WriteQuadlet, WriteBlock, WriteReply, ReadQuadlet, ReadBlock, ReadBlockReply, CycleStart, Lock}
use Rattle.fw_log_entry.specs.Log.{epoch_after, latest_epoch}
use Rattle.fw_log_entry.specs.declared.entry.EventEntry.{EventEntry}
use Rattle.fw_log_entry.proofs.LogLaws.{latest_append}
use Rattle.fw_model_account.specs.Account.{Operation, Reads, Locks, Request}
use Rattle.fw_model_account.specs.Events.{after_reset, after_second, after_death, after_withholding}
use Rattle.fw_model_account.specs.Fold.{after_event}
use Rattle.fw_model_account.specs.Moves.{Move}
use Rattle.fw_model_account.specs.Decode.{move_at}
use Rattle.fw_model_account.specs.Packets.{Reply, Read, Locked, asked_by, is_reply_to, is_swapped, moved, swapped, replied, replied_to, answered, after_request, after_reply, after_packet}
use Rattle.fw_model_run.proofs.Runs.{run_steps}
use Rattle.fw_model_run.proofs.Times.{first_good}
use Rattle.fw_model_run.proofs.Along.{step_led}
use Rattle.fw_model_run.proofs.Hears.{moved_bus}
use Rattle.fw_model_run.proofs.Leads.{NextIs}
use Rattle.fw_model_run.proofs.Steps.{step_good}

-- an account that some entry leads to, if there is one, has the bus of the one before
abbrev SameBus : Account → Option Account → Type 0
SameBus l o = (m : Account) → o ≡ Some m → m.latest ≡ l.latest

none_leads : (l : Account) → SameBus l None
none_leads l m e = cc e

some_leads : (l n : Account) → n.latest ≡ l.latest → SameBus l (Some n)
some_leads l n same m e = let is : n ≡ m = cc in ap (λ (x : Account). x.latest) (sym is) ∙ same

cond_leads : (b : Bool) (l : Account) (x y : Option Account) → SameBus l x → SameBus l y → SameBus l (cond b x y)
cond_leads true l x y f g = f
cond_leads false l x y f g = g

moved_leads : (c : ℕ) (o : Option (PlugAt × Move)) (l : Account) → SameBus l (moved c o l)
moved_leads c None l = none_leads l
moved_leads c (Some m) l = some_leads l _ (moved_bus c m.0 m.1 l).0

swapped_leads : (c : ℕ) (o : Option Register) (arg new : ℕ) (l : Account) → SameBus l (swapped c o arg new l)
swapped_leads c None arg new l = some_leads l _ refl
swapped_leads c (Some register) arg new l = moved_leads c (move_at l c register arg new) l

replied_leads : (c : ℕ) (request : Request) (operation : Operation) (reply : Reply) (l : Account) → SameBus l (replied c request operation reply l)
replied_leads c request Reads reply l = some_leads l _ refl
replied_leads c request (Locks function bytes) Read l = some_leads l _ refl
replied_leads c request (Locks function bytes) (Locked f rcode old) l =
    cond_leads (is_swapped function bytes rcode old) l _ _ (swapped_leads c (register_of l.latest request.target request.address) (quadlet_at bytes 0) (quadlet_at bytes 4) l) (some_leads l _ refl)

replied_to_leads : (c : ℕ) (o : Option Request) (source : ℕ) (reply : Reply) (l : Account) → SameBus l (replied_to c o source reply l)
replied_to_leads c None source reply l = none_leads l
replied_to_leads c (Some request) source reply l =
    cond_leads ((request.target == source) && is_reply_to request.operation reply) l _ _ (replied_leads c request request.operation reply l) (none_leads l)

answered_leads : (o : Option ℕ) (source : ℕ) (reply : Reply) (l : Account) → SameBus l (answered o source reply l)
answered_leads None source reply l = none_leads l
answered_leads (Some c) source reply l = replied_to_leads c (l.outstanding c) source reply l

asked_leads : (o : Option ℕ) (request : Request) (l : Account) → SameBus l (asked_by o request l)
asked_leads None request l = none_leads l
asked_leads (Some c) request l = cond_leads (is_none (l.outstanding c)) l _ _ (some_leads l _ refl) (none_leads l)

request_leads : (h : Head) (address : ℕ) (operation : Operation) (l : Account) → SameBus l (after_request h address operation l)
request_leads h address operation l = cond_leads (h.tl == 0) l _ _ (asked_leads (device_of_id l.latest h.source) _ l) (some_leads l l refl)

reply_leads : (h : Head) (reply : Reply) (l : Account) → SameBus l (after_reply h reply l)
reply_leads h reply l = cond_leads (h.tl == 0) l _ _ (answered_leads (device_of_id l.latest h.destination) h.source reply l) (some_leads l l refl)

packet_leads : (p : Packet) (l : Account) → SameBus l (after_packet p l)
packet_leads (WriteQuadlet h offset value) l = some_leads l l refl
packet_leads (WriteBlock h offset bytes) l = some_leads l l refl
packet_leads (WriteReply h rcode) l = some_leads l l refl
packet_leads (ReadQuadlet h offset) l = request_leads h offset Reads l
packet_leads (ReadBlock h offset len) l = some_leads l l refl
packet_leads (ReadQuadletReply h rcode value) l = reply_leads h Read l
packet_leads (ReadBlockReply h rcode bytes) l = some_leads l l refl
packet_leads (CycleStart h offset time) l = some_leads l l refl
packet_leads (Lock h offset function bytes) l = request_leads h offset (Locks function bytes) l
packet_leads (LockReply h rcode function bytes) l = reply_leads h (Locked function rcode bytes) l

event_leads : (e : EventEntry) (l : Account) → SameBus l (after_event e l)
event_leads e l =
    cond_leads (e.code == 1) l _ _ (cond_leads l.reclaiming l _ _ (some_leads l (after_second l) refl) (none_leads l))
    (cond_leads (e.code == 2) l _ _ (some_leads l (after_death e.device l) refl)
    (cond_leads (e.code == 8) l _ _ (cond_leads (is_some l.latest) l _ _ (none_leads l) (some_leads l (after_withholding l) refl)) (some_leads l l refl)))

-- the epoch of the account that an entry leads to
same_epoch : (l : Account) (o : Option Account) (m : Account) → SameBus l o → o ≡ Some m → epoch_of m.latest ≡ epoch_of l.latest
same_epoch l o m same e = ap epoch_of (same m e)

next_epoch : (l m : Account) (e : Entry) → next_account l e ≡ Some m → epoch_of m.latest ≡ epoch_after (epoch_of l.latest) e
next_epoch l m (Reset r) e = let is : after_reset r l ≡ m = cc e in ap (λ (x : Account). epoch_of x.latest) (sym is)
next_epoch l m (Async p) e = same_epoch l (after_packet p l) m (packet_leads p l) e
next_epoch l m (Iso p) e = same_epoch l (Some l) m (some_leads l l refl) e
next_epoch l m (Event x) e = same_epoch l (after_event x l) m (event_leads x l) e
next_epoch l m (Outcome o) e = same_epoch l (Some l) m (some_leads l l refl) e
next_epoch l m (Shown s) e = same_epoch l (Some l) m (some_leads l l refl) e
next_epoch l m End e = same_epoch l (Some l) m (some_leads l l refl) e

led_epoch : (cycle : ℕ) (l m : Account) (o : Option Entry) → NextIs l o m → epoch_of m.latest ≡ latest_epoch (epoch_of l.latest) (at_most cycle o)
led_epoch cycle l m None same = ap (λ (x : Account). epoch_of x.latest) same
led_epoch cycle l m (Some e) next = next_epoch l m e next

-- an action leads from the epoch of its state to that of the next
pub step_epoch : (s t : State) (a : Action) (out : List Timed) → IsGood s → Transition s a out t → epoch_of t.account.latest ≡ latest_epoch (epoch_of s.account.latest) out
step_epoch s t a out g f =
    let w = step_led s t a out g f in
    led_epoch t.clock.cycle s.account t.account w.entry w.next ∙ ap (latest_epoch (epoch_of s.account.latest)) (sym w.is)

pub steps_epoch : (s t : State) (actions : List Action) (out : List Timed) → IsGood s → Transitions s actions out t → epoch_of t.account.latest ≡ latest_epoch (epoch_of s.account.latest) out
steps_epoch s t [] out g f = ap (λ (x : State). epoch_of x.account.latest) f.1 ∙ ap (latest_epoch (epoch_of s.account.latest)) (sym f.0)
steps_epoch s t (a ∷ actions) out g f =
    steps_epoch f.2 t actions f.1 (step_good s a f.0 f.2 g f.3) f.5
    ∙ ap (λ (n : ℕ). latest_epoch n f.1) (step_epoch s f.2 a f.0 g f.3)
    ∙ sym (latest_append (epoch_of s.account.latest) f.0 f.1) ∙ ap (latest_epoch (epoch_of s.account.latest)) (sym f.4)

-- and its entry has the epoch of the state after it in its head
pub entry_epoch : (s t : State) (a : Action) (cycle : ℕ) (e : Entry) → IsGood s → Transition s a (at_most cycle (Some e)) t
    → epoch_after (epoch_of t.account.latest) e ≡ epoch_after (epoch_of s.account.latest) e
entry_epoch s t a cycle e g f = by e (step_epoch s t a (at_most cycle (Some e)) g f)
  where
    by : (e : Entry) → epoch_of t.account.latest ≡ epoch_after (epoch_of s.account.latest) e → epoch_after (epoch_of t.account.latest) e ≡ epoch_after (epoch_of s.account.latest) e
    by (Reset r) is = refl
    by (Async p) is = is
    by (Iso p) is = is
    by (Event x) is = is
    by (Outcome o) is = is
    by (Shown x) is = is
    by End is = is

-- the epoch of a run's state is that of the latest reset of its log
pub run_epoch : (commands : List Command) (actions : List Action) (log : List Timed) (s : State) → Run commands actions log s → epoch_of s.account.latest ≡ latest_epoch 0 log
run_epoch commands actions log s r = steps_epoch first_state s actions log first_good (run_steps commands actions log s r)
