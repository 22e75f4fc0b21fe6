-- Which output plugs linger after each entry of a log.
use Rattle.fw_model_controllers.proofs.Common.{◌≡◌, ℕ, ◌<◌, ◌&&◌, cond, Bool, true, false, Option, Some, None, is_some}
use Rattle.fw_model_controllers.proofs.Common.{refl, ap, sym, subst, arith, nat_tests, PlugAt, ResetEntry, Account, Request, after_reset}
use Rattle.fw_model_controllers.proofs.Common.{after_second, Move, after, is_output, asked, ended, IsSound}
use Rattle.std.proofs.Common.{◌==◌, is_none}
use Rattle.fw_async.specs.declared.packet.Head.{Head}
use Rattle.fw_async.specs.declared.packet.Packet.{Packet}
use Rattle.fw_async.specs.declared.packet.Packet.TheVariants.{WriteQuadlet, WriteBlock, WriteReply, ReadQuadlet, ReadBlock, ReadQuadletReply}
use Rattle.fw_async.specs.declared.packet.Packet.TheVariants.{ReadBlockReply, CycleStart, Lock, LockReply}
use Rattle.fw_log_entry.specs.declared.entry.Entry.{Entry}
use Rattle.fw_log_entry.specs.declared.entry.Entry.TheVariants.{Reset, Async, Iso, Event, Outcome, Shown, End}
use Rattle.fw_log_entry.specs.declared.entry.EventEntry.{EventEntry}
use Rattle.fw_log_entry.specs.Network.{device_of_id}
use Rattle.fw_words.specs.Quadlet.{quadlet_at}
use Rattle.fw_model_account.specs.Account.{Operation, Reads, Locks, talks}
use Rattle.fw_model_account.specs.Decode.{move_at}
use Rattle.fw_model_account.specs.Events.{after_death, after_withholding}
use Rattle.fw_model_account.specs.Fold.{next_account, after_event}
use Rattle.fw_model_account.specs.Packets.{asked_by, Reply as Replies, Read, Locked, is_reply_to, is_swapped, moved, swapped, replied, replied_to}
use Rattle.fw_model_account.specs.Packets.{answered, after_request, after_reply, after_packet}
use Rattle.fw_model_account.specs.Words.{Register, register_of}
use Rattle.fw_model_account.proofs.Decoded.{move_at_is}
use Rattle.fw_model_account.proofs.Network.{not_both}
use Rattle.fw_model_account.proofs.Packets.{device_below}
use Rattle.fw_model_controllers.specs.Lingering.{LingerUnchanged, LingerActive, LingerAfter}
use Rattle.fw_model_controllers.proofs.Lingers.{talks_shown, same_account, move_lingers}

-- ---- packets

stays : (l m : Account) → Some l ≡ Some m → LingerUnchanged l m
stays l m e = let same : l ≡ m = cc in subst (LingerUnchanged l) same (same_account l)

ended_stays : (c : ℕ) (k l m : Account) → LingerUnchanged l k → Some (ended c k) ≡ Some m → LingerUnchanged l m
ended_stays c k l m h e = let same : ended c k ≡ m = cc in subst (LingerUnchanged l) same h

request_lingers : (h : Head) (address : ℕ) (operation : Operation) (l m : Account) → after_request h address operation l ≡ Some m → LingerUnchanged l m
request_lingers h address operation l m e = go (h.tl == 0) e
  where
    request : Request
    request = record { target = h.destination; address = address; operation = operation }

    free : (c : ℕ) (b : Bool) → cond b (Some (asked c request l)) None ≡ Some m → LingerUnchanged l m
    free c true f = let same : asked c request l ≡ m = cc in subst (LingerUnchanged l) same (same_account l)
    free c false f = absurd (not_both None m refl f)

    by : (o : Option ℕ) → asked_by o request l ≡ Some m → LingerUnchanged l m
    by None f = absurd (not_both None m refl f)
    by (Some c) f = free c (is_none (l.outstanding c)) f

    go : (b : Bool) → cond b (asked_by (device_of_id l.latest h.source) request l) (Some l) ≡ Some m → LingerUnchanged l m
    go true f = by (device_of_id l.latest h.source) f
    go false f = stays l m f

swapped_lingers : (c : ℕ) (o : Option Register) (arg new : ℕ) (l m : Account) → c < 63 → IsSound l → swapped c o arg new l ≡ Some m → LingerUnchanged l m
swapped_lingers c None arg new l m lt s e = ended_stays c l l m (same_account l) e
swapped_lingers c (Some register) arg new l m lt s e = go (move_at l c register arg new) refl e
  where
    go : (o : Option (PlugAt × Move)) → move_at l c register arg new ≡ o → moved c o l ≡ Some m → LingerUnchanged l m
    go None f g = absurd (not_both None m refl g)
    go (Some k) f g = ended_stays c (after c k.0 k.1 l) l m (move_lingers c k.0 k.1 l lt s (move_at_is l c register arg new k.0 k.1 s f).can) g

replied_lingers : (c : ℕ) (request : Request) (operation : Operation) (reply : Replies) (l m : Account) → c < 63 → IsSound l
    → replied c request operation reply l ≡ Some m → LingerUnchanged l m
replied_lingers c request Reads reply l m lt s e = ended_stays c l l m (same_account l) e
replied_lingers c request (Locks function bytes) Read l m lt s e = ended_stays c l l m (same_account l) e
replied_lingers c request (Locks function bytes) (Locked f rcode old) l m lt s e = go (is_swapped function bytes rcode old) e
  where
    at : Option Register
    at = register_of l.latest request.target request.address

    go : (b : Bool) → cond b (swapped c at (quadlet_at bytes 0) (quadlet_at bytes 4) l) (Some (ended c l)) ≡ Some m → LingerUnchanged l m
    go true g = swapped_lingers c at (quadlet_at bytes 0) (quadlet_at bytes 4) l m lt s g
    go false g = ended_stays c l l m (same_account l) g

reply_lingers : (h : Head) (reply : Replies) (l m : Account) → IsSound l → after_reply h reply l ≡ Some m → LingerUnchanged l m
reply_lingers h reply l m s e = go (h.tl == 0) e
  where
    to : (c : ℕ) (o : Option Request) → c < 63 → replied_to c o h.source reply l ≡ Some m → LingerUnchanged l m
    to c None lt f = absurd (not_both None m refl f)
    to c (Some request) lt f = one ((request.target == h.source) && is_reply_to request.operation reply) f
      where
        one : (b : Bool) → cond b (replied c request request.operation reply l) None ≡ Some m → LingerUnchanged l m
        one true g = replied_lingers c request request.operation reply l m lt s g
        one false g = absurd (not_both None m refl g)

    by : (o : Option ℕ) → device_of_id l.latest h.destination ≡ o → answered o h.source reply l ≡ Some m → LingerUnchanged l m
    by None d f = absurd (not_both None m refl f)
    by (Some c) d f = to c (l.outstanding c) (device_below l.latest h.destination c s.range d) f

    go : (b : Bool) → cond b (answered (device_of_id l.latest h.destination) h.source reply l) (Some l) ≡ Some m → LingerUnchanged l m
    go true f = by (device_of_id l.latest h.destination) refl f
    go false f = stays l m f

packet_lingers : (p : Packet) (l m : Account) → IsSound l → after_packet p l ≡ Some m → LingerUnchanged l m
packet_lingers (WriteQuadlet h offset value) l m s e = stays l m e
packet_lingers (WriteBlock h offset bytes) l m s e = stays l m e
packet_lingers (WriteReply h rcode) l m s e = stays l m e
packet_lingers (ReadQuadlet h offset) l m s e = request_lingers h offset Reads l m e
packet_lingers (ReadBlock h offset len) l m s e = stays l m e
packet_lingers (ReadQuadletReply h rcode value) l m s e = reply_lingers h Read l m s e
packet_lingers (ReadBlockReply h rcode bytes) l m s e = stays l m e
packet_lingers (CycleStart h offset time) l m s e = stays l m e
packet_lingers (Lock h offset function bytes) l m s e = request_lingers h offset (Locks function bytes) l m e
packet_lingers (LockReply h rcode function bytes) l m s e = reply_lingers h (Locked function rcode bytes) l m s e

-- ---- entries

reset_lingers : (r : ResetEntry) (l : Account) → IsSound l → LingerActive r l (after_reset r l)
reset_lingers r l s = record {
  stays = λ p was is. let active = talks_shown l p s was in grind (arith, active, is);
  joins = λ p off. go p off (talks l p) refl;
  leaves = λ p off. grind (arith, off);
}
  where
    go : (p : PlugAt) → is_output l.latest p ≡ false → (b : Bool) → talks l p ≡ b → (talks l p && is_output (Some r) p) ≡ false
    go p off true e = absurd (let on = s.there p e in grind (arith, on, off))
    go p off false e = ap (λ b. b && is_output (Some r) p) e

-- only what an event of another code than the second's end leaves
same_flags : (l m : Account) → Some l ≡ Some m → (q : PlugAt) → m.continues q ≡ l.continues q
same_flags l m e q = let same : l ≡ m = cc in ap (λ (x : Account). x.continues q) (sym same)

event_lingers : (e : EventEntry) (l m : Account) → after_event e l ≡ Some m → LingerAfter (Event e) l m
event_lingers e l m f =
    (λ code. over (e.code == 1) (e.code == 2) (e.code == 8) (grind (arith, nat_tests, code)) f, λ other. rest (e.code == 1) (e.code == 2) (e.code == 8) (grind (arith, nat_tests, other)) f)
  where
    by : Bool → Bool → Bool → Option Account
    by a b c = cond a (cond l.reclaiming (Some (after_second l)) None)
        (cond b (Some (after_death e.device l)) (cond c (cond (is_some l.latest) None (Some (after_withholding l))) (Some l)))

    ends : (b : Bool) → cond b (Some (after_second l)) None ≡ Some m → (q : PlugAt) → m.continues q ≡ false
    ends true g q = let same : after_second l ≡ m = cc in ap (λ (x : Account). x.continues q) (sym same)
    ends false g q = absurd (not_both None m refl g)

    over : (a b c : Bool) → a ≡ true → by a b c ≡ Some m → (q : PlugAt) → m.continues q ≡ false
    over false b c t g q = absurd (grind (arith, t))
    over true b c t g q = ends l.reclaiming g q

    withheld : (b : Bool) → cond b None (Some (after_withholding l)) ≡ Some m → (q : PlugAt) → m.continues q ≡ l.continues q
    withheld true g q = absurd (not_both None m refl g)
    withheld false g q = let same : after_withholding l ≡ m = cc in ap (λ (x : Account). x.continues q) (sym same)

    rest : (a b c : Bool) → a ≡ false → by a b c ≡ Some m → (q : PlugAt) → m.continues q ≡ l.continues q
    rest true b c t g q = absurd (grind (arith, t))
    rest false true c t g q = let same : after_death e.device l ≡ m = cc in ap (λ (x : Account). x.continues q) (sym same)
    rest false false true t g q = withheld (is_some l.latest) g q
    rest false false false t g q = same_flags l m g q

pub entry_lingers : (l m : Account) (e : Entry) → IsSound l → next_account l e ≡ Some m → LingerAfter e l m
entry_lingers l m (Reset r) s f = let same : after_reset r l ≡ m = cc in subst (LingerActive r l) same (reset_lingers r l s)
entry_lingers l m (Async p) s f = packet_lingers p l m s f
entry_lingers l m (Iso p) s f = same_flags l m f
entry_lingers l m (Event v) s f = event_lingers v l m f
entry_lingers l m (Outcome o) s f = same_flags l m f
entry_lingers l m (Shown v) s f = same_flags l m f
entry_lingers l m End s f = same_flags l m f
