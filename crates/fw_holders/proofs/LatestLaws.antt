-- The latest bus reset of an account, and the nodes that tables have, stay after an entry that is no bus reset.
use Rattle.fw_holders.proofs.Common.{
  ◌≡◌,
  ◌==◌,
  ◌∙◌,
  ℕ,
  Bool,
  true,
  false,
  Option,
  Some,
  None,
  cond,
  ap,
  refl,
  sym,
  PlugAt,
  Entry,
  ResetEntry,
  Reset,
  Async,
  Iso,
  Account,
  Request,
  device_of_id,
  StandsFor,
  Tables,
  Answer,
  Ok,
  nodes_of,
}
use Rattle.std.proofs.Common.{◌&&◌, is_none, is_some}
use Rattle.std.proofs.lemmas.Option.{same_Some}
use Rattle.fw_async.specs.declared.packet.Packet.{Packet}
use Rattle.fw_async.specs.declared.packet.Packet.TheVariants.{WriteQuadlet, WriteBlock, WriteReply, ReadQuadlet, ReadBlock, ReadQuadletReply, ReadBlockReply, CycleStart, Lock, LockReply}
use Rattle.fw_terms.specs.declared.label.Label.TheVariants.{Procedure}
use Rattle.fw_terms.specs.Labels.{label_code}
use Rattle.fw_words.specs.Quadlet.{quadlet_at}
use Rattle.fw_log_entry.specs.declared.codes.event.TheConstants as Events
use Rattle.fw_log_entry.specs.declared.entry.Entry.TheVariants.{Event, Outcome, Shown, End}
use Rattle.fw_model_account.specs.Account.{Operation, Reads, Locks}
use Rattle.fw_model_account.specs.Decode.{move_at}
use Rattle.fw_model_account.specs.Events.{after_second, after_death, after_withholding}
use Rattle.fw_model_account.specs.Fold.{next_account}
use Rattle.fw_account_tables.specs.Stands.{Stands}
use Rattle.fw_audit.specs.Found.{Judges}
use Rattle.fw_model_account.specs.Moves.{Move, after}
use Rattle.fw_model_account.specs.Packets.{Reply, Read, Locked, asked, asked_by, ended, is_reply_to, is_swapped, moved, swapped, replied, replied_to, answered, after_packet}
use Rattle.fw_model_account.specs.Words.{Register, register_of}
use Rattle.fw_holders.proofs.HoldingLaws.{nodes_shown}
use Rattle.fw_holders.proofs.ReplyLaws.{after_latest}

same_of : (l m : Account) → Some l ≡ Some m → m.latest ≡ l.latest
same_of l m e = ap (λ (x : Account). x.latest) (sym (same_Some l m e))

asked_latest : (o : Option ℕ) (r : Request) (l m : Account) → asked_by o r l ≡ Some m → m.latest ≡ l.latest
asked_latest None r l m e = cc
asked_latest (Some c) r l m e = free (is_none (l.outstanding c)) e
  where
    free : (b : Bool) → cond b (Some (asked c r l)) None ≡ Some m → m.latest ≡ l.latest
    free true n = same_of (asked c r l) m n
    free false n = cc

request_latest : (b : Bool) (o : Option ℕ) (r : Request) (l m : Account) → cond b (asked_by o r l) (Some l) ≡ Some m → m.latest ≡ l.latest
request_latest true o r l m e = asked_latest o r l m e
request_latest false o r l m e = same_of l m e

moved_latest : (c : ℕ) (o : Option (PlugAt × Move)) (l m : Account) → moved c o l ≡ Some m → m.latest ≡ l.latest
moved_latest c None l m e = cc
moved_latest c (Some x) l m e = same_of (ended c (after c x.0 x.1 l)) m e ∙ after_latest c x.0 x.1 l

swapped_latest : (c : ℕ) (o : Option Register) (a n : ℕ) (l m : Account) → swapped c o a n l ≡ Some m → m.latest ≡ l.latest
swapped_latest c None a n l m e = same_of (ended c l) m e
swapped_latest c (Some v) a n l m e = moved_latest c (move_at l c v a n) l m e

replied_latest : (c : ℕ) (q : Request) (op : Operation) (reply : Reply) (l m : Account) → replied c q op reply l ≡ Some m → m.latest ≡ l.latest
replied_latest c q Reads reply l m e = same_of (ended c l) m e
replied_latest c q (Locks f bytes) Read l m e = same_of (ended c l) m e
replied_latest c q (Locks f bytes) (Locked g rcode old) l m e = by (is_swapped f bytes rcode old) e
  where
    by : (b : Bool) → cond b (swapped c (register_of l.latest q.target q.address) (quadlet_at bytes 0) (quadlet_at bytes 4) l) (Some (ended c l)) ≡ Some m → m.latest ≡ l.latest
    by true n = swapped_latest c (register_of l.latest q.target q.address) (quadlet_at bytes 0) (quadlet_at bytes 4) l m n
    by false n = same_of (ended c l) m n

replied_to_latest : (c : ℕ) (o : Option Request) (source : ℕ) (reply : Reply) (l m : Account) → replied_to c o source reply l ≡ Some m → m.latest ≡ l.latest
replied_to_latest c None source reply l m e = cc
replied_to_latest c (Some q) source reply l m e = by ((q.target == source) && is_reply_to q.operation reply) e
  where
    by : (b : Bool) → cond b (replied c q q.operation reply l) None ≡ Some m → m.latest ≡ l.latest
    by true n = replied_latest c q q.operation reply l m n
    by false n = cc

answered_latest : (o : Option ℕ) (source : ℕ) (reply : Reply) (l m : Account) → answered o source reply l ≡ Some m → m.latest ≡ l.latest
answered_latest None source reply l m e = cc
answered_latest (Some c) source reply l m e = replied_to_latest c (l.outstanding c) source reply l m e

reply_latest : (b : Bool) (o : Option ℕ) (source : ℕ) (reply : Reply) (l m : Account) → cond b (answered o source reply l) (Some l) ≡ Some m → m.latest ≡ l.latest
reply_latest true o source reply l m e = answered_latest o source reply l m e
reply_latest false o source reply l m e = same_of l m e

packet_latest : (p : Packet) (l m : Account) → after_packet p l ≡ Some m → m.latest ≡ l.latest
packet_latest (WriteQuadlet h offset value) l m e = same_of l m e
packet_latest (WriteBlock h offset bytes) l m e = same_of l m e
packet_latest (WriteReply h rcode) l m e = same_of l m e
packet_latest (ReadQuadlet h offset) l m e =
    request_latest (h.tl == label_code Procedure) (device_of_id l.latest h.source) (record { target = h.destination; address = offset; operation = Reads }) l m e
packet_latest (ReadBlock h offset len) l m e = same_of l m e
packet_latest (ReadQuadletReply h rcode value) l m e = reply_latest (h.tl == label_code Procedure) (device_of_id l.latest h.destination) h.source Read l m e
packet_latest (ReadBlockReply h rcode bytes) l m e = same_of l m e
packet_latest (CycleStart h offset time) l m e = same_of l m e
packet_latest (Lock h offset function bytes) l m e =
    request_latest (h.tl == label_code Procedure) (device_of_id l.latest h.source) (record { target = h.destination; address = offset; operation = Locks function bytes }) l m e
packet_latest (LockReply h rcode function bytes) l m e =
    reply_latest (h.tl == label_code Procedure) (device_of_id l.latest h.destination) h.source (Locked function rcode bytes) l m e

event_latest : (a b c d f : Bool) (device : ℕ) (l m : Account)
    → cond a (cond d (Some (after_second l)) None) (cond b (Some (after_death device l)) (cond c (cond f None (Some (after_withholding l))) (Some l))) ≡ Some m → m.latest ≡ l.latest
event_latest true b c true f device l m e = same_of (after_second l) m e
event_latest true b c false f device l m e = cc
event_latest false true c d f device l m e = same_of (after_death device l) m e
event_latest false false true d true device l m e = cc
event_latest false false true d false device l m e = same_of (after_withholding l) m e
event_latest false false false d f device l m e = same_of l m e

stays_latest : (e : Entry) (l m : Account) → ((r : ResetEntry) → e ≡ Reset r → ⊥) → next_account l e ≡ Some m → m.latest ≡ l.latest
stays_latest (Reset r) l m other e = absurd (other r refl)
stays_latest (Async p) l m other e = packet_latest p l m e
stays_latest (Iso p) l m other e = same_of l m e
stays_latest (Event x) l m other e = event_latest (x.code == Events.SECOND_OVER) (x.code == Events.DIED) (x.code == Events.WITHHELD) l.reclaiming (is_some l.latest) x.device l m e
stays_latest (Outcome x) l m other e = same_of l m e
stays_latest (Shown w) l m other e = same_of l m e
stays_latest End l m other e = same_of l m e

-- so the nodes stay
stay_nodes : (old new : Tables) (l m : Account) → StandsFor old l → StandsFor new m → m.latest ≡ l.latest → old.nodes ≡ new.nodes
stay_nodes old new l m h k same = nodes_shown old l h ∙ ap nodes_of (sym same) ∙ sym (nodes_shown new m k)

judged_nodes : (old new : Tables) (l : Account) (e : Entry) (a : Option Answer) → ((r : ResetEntry) → e ≡ Reset r → ⊥) → StandsFor old l → Judges new l e (Ok a) → old.nodes ≡ new.nodes
judged_nodes old new l e a other h j = let m = j.1.0 in stay_nodes old new l m h j.1.2 (stays_latest e l m other j.1.1)

pub taken_nodes : (old new : Tables) (e : Entry) (a : Option Answer)
    → ((r : ResetEntry) → e ≡ Reset r → ⊥) → Stands old → ((l : Account) → StandsFor old l → Judges new l e (Ok a)) → old.nodes ≡ new.nodes
taken_nodes old new e a other stands judged = judged_nodes old new stands.0 e a other stands.1 (judged stands.0 stands.1)

packet_is_other : (p : Packet) (r : ResetEntry) → Async p ≡ Reset r → ⊥
packet_is_other p r e = let z : ⊥ = cc in z

-- a packet is no bus reset
pub passed_nodes : (old new : Tables) (p : Packet) (a : Option Answer) → Stands old → ((l : Account) → StandsFor old l → Judges new l (Async p) (Ok a)) → old.nodes ≡ new.nodes
passed_nodes old new p a stands judged = taken_nodes old new (Async p) a (packet_is_other p) stands judged
