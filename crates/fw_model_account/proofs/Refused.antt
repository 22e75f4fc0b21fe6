-- There is no account after an entry exactly if it is refused.
use Rattle.fw_model_account.proofs.Common.{PlugAt, Head, LockReply, ResetEntry, Async, ◌≡◌, ◌≢◌, ℕ, ◌==◌, ◌&&◌, Bool, true, false, Option, Some, None, is_some, List, refl, sym, subst, ◌∙◌, arith}
use Rattle.fw_model_account.proofs.Common.{cond, nat_tests, Account, Locks, Move, after, Register, register_of, move_at, ended, next_account, IsSound}
use Rattle.fw_async.specs.declared.packet.Packet.{Packet}
use Rattle.fw_async.specs.declared.packet.Packet.TheVariants.{WriteQuadlet, WriteBlock, WriteReply, ReadQuadlet, ReadBlock, ReadQuadletReply, ReadBlockReply, CycleStart, Lock}
use Rattle.fw_log_entry.specs.declared.entry.EventEntry.{EventEntry}
use Rattle.fw_log_entry.specs.declared.entry.Entry.{Entry}
use Rattle.fw_log_entry.specs.declared.entry.Entry.TheVariants.{Reset, Iso, Event, Outcome, Shown, End}
use Rattle.std.proofs.Common.{◌↔◌, length}
use Rattle.fw_words.specs.Quadlet.{quadlet_at}
use Rattle.fw_model_account.specs.Account.{Operation, Reads, Request}
use Rattle.fw_model_account.specs.Decode.{IsMove}
use Rattle.fw_model_account.specs.Events.{after_second, after_death, after_withholding}
use Rattle.fw_model_account.specs.Packets.{asked, is_reply_to, is_swapped, moved, swapped, replied, after_reply, after_packet, Locked}
use Rattle.fw_model_account.specs.Fold.{after_event}
use Rattle.fw_model_account.specs.Refused.{Ends, IsLockRefused, WasRead, OtherFunction, NoMove, IsPacketRefused, IsEventRefused, NoSecond, TooLate, IsRefused}
use Rattle.fw_model_account.proofs.Network.{not_both}
use Rattle.fw_model_account.proofs.Decoded.{move_at_is, move_found}
use Rattle.fw_model_account.proofs.Packets.{device_below}
use Rattle.fw_model_account.proofs.RefusedReads.{some_is, number_is, number_not, number_same, number_differs, request_refused, refused_request, reply_refused, refused_reply, other_kind, read_refused}
use Rattle.fw_model_account.proofs.RefusedReads.{refused_read}

-- ---- locks

swap_parts : (a b c d e : Bool) → (a && b && c && d && e) ≡ true → (a ≡ true) × (b ≡ true) × (c ≡ true) × (d ≡ true) × (e ≡ true)
swap_parts a b c d e t = (grind arith, grind arith, grind arith, grind arith, grind arith)

lock_refused : (h : Head) (rcode function : ℕ) (old : List ℕ) (l : Account) → IsSound l → after_reply h (Locked function rcode old) l ≡ None → IsLockRefused h rcode function old l
lock_refused h rcode function old l s e = reply_refused h (Locked function rcode old) l (IsLockRefused h rcode function old l) e (λ r. IsLockRefused.Unexpected r)
    (λ c request n t k. other c request n request.operation refl k) (λ c request n t k f. none c request.target request.address request.operation n t k f)
  where
    other : (c : ℕ) (request : Request) → Ends h c request l → (operation : Operation) → request.operation ≡ operation → is_reply_to operation (Locked function rcode old) ≡ false
        → IsLockRefused h rcode function old l
    other c request n Reads o k = WasRead c request n o
    other c request n (Locks asked bytes) o k = OtherFunction c request asked bytes n o (number_not asked function k)

    no_move : (c address asked : ℕ) (bytes : List ℕ) (register : Register) → Ends h c (record { target = h.source; address = address; operation = Locks asked bytes }) l
        → is_swapped asked bytes rcode old ≡ true → asked ≡ function → register_of l.latest h.source address ≡ Some register → (o : Option (PlugAt × Move))
        → move_at l c register (quadlet_at bytes 0) (quadlet_at bytes 4) ≡ o → moved c o l ≡ None → IsLockRefused h rcode function old l
    no_move c address asked bytes register n t g place None none f =
        let w = swap_parts (asked == 2) (length bytes == 8) (rcode == 0) (length old == 4) (quadlet_at old 0 == quadlet_at bytes 0) t in
        let two : asked ≡ 2 = number_is asked 2 w.0 in
        let ends : Ends h c (record { target = h.source; address = address; operation = Locks 2 bytes }) l =
        subst (λ k. Ends h c (record { target = h.source; address = address; operation = Locks k bytes }) l) two n in
        NoMove c address bytes register (sym g ∙ two)
        (record {
          ends = ends;
          quadlets = number_is (length bytes) 8 w.1;
          complete = number_is rcode 0 w.2;
          quadlet = number_is (length old) 4 w.3;
          shown = number_is (quadlet_at old 0) (quadlet_at bytes 0) w.4;
          place = place;
        })
        (λ p m is. not_both _ (p, m) none (move_found c p m register (quadlet_at bytes 0) (quadlet_at bytes 4) l (device_below l.latest h.destination c s.range n.device) s is))
    no_move c address asked bytes register n t g place (Some k) found f = absurd (some_is (ended c (after c k.0 k.1 l)) f)

    at : (c address asked : ℕ) (bytes : List ℕ) (o : Option Register) → Ends h c (record { target = h.source; address = address; operation = Locks asked bytes }) l
        → is_swapped asked bytes rcode old ≡ true → asked ≡ function → register_of l.latest h.source address ≡ o → swapped c o (quadlet_at bytes 0) (quadlet_at bytes 4) l ≡ None
        → IsLockRefused h rcode function old l
    at c address asked bytes None n t g place f = absurd (some_is (ended c l) f)
    at c address asked bytes (Some register) n t g place f = no_move c address asked bytes register n t g place (move_at l c register (quadlet_at bytes 0) (quadlet_at bytes 4)) refl f

    shown : (c address asked : ℕ) (bytes : List ℕ) (b : Bool) → Ends h c (record { target = h.source; address = address; operation = Locks asked bytes }) l → asked ≡ function
        → is_swapped asked bytes rcode old ≡ b → cond b (swapped c (register_of l.latest h.source address) (quadlet_at bytes 0) (quadlet_at bytes 4) l) (Some (ended c l)) ≡ None
        → IsLockRefused h rcode function old l
    shown c address asked bytes true n g t f = at c address asked bytes (register_of l.latest h.source address) n t g refl f
    shown c address asked bytes false n g t f = absurd (some_is (ended c l) f)

    none : (c target address : ℕ) (operation : Operation) → Ends h c (record { target = target; address = address; operation = operation }) l → target ≡ h.source
        → is_reply_to operation (Locked function rcode old) ≡ true → replied c (record { target = target; address = address; operation = operation }) operation (Locked function rcode old) l ≡ None
        → IsLockRefused h rcode function old l
    none c target address Reads n t k f = absurd (some_is (ended c l) f)
    none c target address (Locks asked bytes) n t k f =
        shown c address asked bytes (is_swapped asked bytes rcode old) (subst (λ v. Ends h c (record { target = v; address = address; operation = Locks asked bytes }) l) t n)
        (number_is asked function k) refl (subst (λ v. replied c (record { target = v; address = address; operation = Locks asked bytes }) (Locks asked bytes) (Locked function rcode old) l
        ≡ None) t f)

no_move_found : (c : ℕ) (register : Register) (arg new : ℕ) (l : Account) → IsSound l → ((p : PlugAt) (m : Move) → IsMove c p m register arg new l → ⊥) → move_at l c register arg new ≡ None
no_move_found c register arg new l s none = go (move_at l c register arg new) refl
  where
    go : (o : Option (PlugAt × Move)) → move_at l c register arg new ≡ o → o ≡ None
    go None e = refl
    go (Some k) e = absurd (none k.0 k.1 (move_at_is l c register arg new k.0 k.1 s e))

refused_lock : (h : Head) (rcode function : ℕ) (old : List ℕ) (l : Account) → IsSound l → IsLockRefused h rcode function old l → after_reply h (Locked function rcode old) l ≡ None
refused_lock h rcode function old l s (IsLockRefused.Unexpected r) = refused_reply h (Locked function rcode old) l r
refused_lock h rcode function old l s (WasRead c request n o) = other_kind h (Locked function rcode old) c request l n (rw o refl)
refused_lock h rcode function old l s (OtherFunction c request asked bytes n o ne) = other_kind h (Locked function rcode old) c request l n (rw o (number_differs asked function ne))
refused_lock h rcode function old l s (NoMove c address bytes register two w none) =
    let n = w.ends in
    rw n.label (rw n.device (rw n.outstanding (rw (number_same h.source h.source refl)
    (rw (number_same 2 function (sym two)) (rw (number_same (length bytes) 8 w.quadlets)
    (rw (number_same rcode 0 w.complete) (rw (number_same (length old) 4 w.quadlet)
    (rw (number_same (quadlet_at old 0) (quadlet_at bytes 0) w.shown) (rw w.place (rw (no_move_found c register (quadlet_at bytes 0) (quadlet_at bytes 4) l s none) refl))))))))))

-- ---- entries

packet_refused : (p : Packet) (l : Account) → IsSound l → after_packet p l ≡ None → IsPacketRefused p l
packet_refused (WriteQuadlet h offset value) l s e = some_is l e
packet_refused (WriteBlock h offset bytes) l s e = some_is l e
packet_refused (WriteReply h rcode) l s e = some_is l e
packet_refused (ReadQuadlet h offset) l s e = request_refused h offset Reads l e
packet_refused (ReadBlock h offset len) l s e = some_is l e
packet_refused (ReadQuadletReply h rcode value) l s e = read_refused h l e
packet_refused (ReadBlockReply h rcode bytes) l s e = some_is l e
packet_refused (CycleStart h offset time) l s e = some_is l e
packet_refused (Lock h offset function bytes) l s e = request_refused h offset (Locks function bytes) l e
packet_refused (LockReply h rcode function bytes) l s e = lock_refused h rcode function bytes l s e

refused_packet : (p : Packet) (l : Account) → IsSound l → IsPacketRefused p l → after_packet p l ≡ None
refused_packet (WriteQuadlet h offset value) l s r = absurd r
refused_packet (WriteBlock h offset bytes) l s r = absurd r
refused_packet (WriteReply h rcode) l s r = absurd r
refused_packet (ReadQuadlet h offset) l s r = refused_request h offset Reads l r
refused_packet (ReadBlock h offset len) l s r = absurd r
refused_packet (ReadQuadletReply h rcode value) l s r = refused_read h l r
refused_packet (ReadBlockReply h rcode bytes) l s r = absurd r
refused_packet (CycleStart h offset time) l s r = absurd r
refused_packet (Lock h offset function bytes) l s r = refused_request h offset (Locks function bytes) l r
refused_packet (LockReply h rcode function bytes) l s r = refused_lock h rcode function bytes l s r

event_refused : (v : EventEntry) (l : Account) → after_event v l ≡ None → IsEventRefused v l
event_refused v l e = go (v.code == 1) (v.code == 2) (v.code == 8) refl refl e
  where
    over : (b : Bool) → l.reclaiming ≡ b → cond b (Some (after_second l)) None ≡ None → l.reclaiming ≡ false
    over true r f = absurd (some_is (after_second l) f)
    over false r f = r

    late : (o : Option ResetEntry) → cond (is_some o) None (Some (after_withholding l)) ≡ None → o ≢ None
    late None f same = some_is (after_withholding l) f
    late (Some r) f same = some_is r same

    go : (a b c : Bool) → (v.code == 1) ≡ a → (v.code == 8) ≡ c → cond a (cond l.reclaiming (Some (after_second l)) None)
        (cond b (Some (after_death v.device l)) (cond c (cond (is_some l.latest) None (Some (after_withholding l))) (Some l))) ≡ None → IsEventRefused v l
    go true b c t u f = NoSecond (number_is v.code 1 t) (over l.reclaiming refl f)
    go false true c t u f = absurd (some_is (after_death v.device l) f)
    go false false true t u f = TooLate (number_is v.code 8 u) (late l.latest f)
    go false false false t u f = absurd (some_is l f)

-- if there is a reset entry
has_reset : (o : Option ResetEntry) → o ≢ None → is_some o ≡ true
has_reset None some = absurd (some refl)
has_reset (Some r) some = refl

refused_event : (v : EventEntry) (l : Account) → IsEventRefused v l → after_event v l ≡ None
refused_event v l (NoSecond code none) = rw (number_same v.code 1 code) (rw none refl)
refused_event v l (TooLate code late) =
    let first : (v.code == 1) ≡ false = grind (arith, nat_tests) in
    let second : (v.code == 2) ≡ false = grind (arith, nat_tests) in
    rw (first, second, number_same v.code 8 code, has_reset l.latest late) refl

entry_refused : (l : Account) (e : Entry) → IsSound l → next_account l e ≡ None → IsRefused e l
entry_refused l (Reset r) s e = cc
entry_refused l (Async p) s e = packet_refused p l s e
entry_refused l (Iso p) s e = some_is l e
entry_refused l (Event v) s e = event_refused v l e
entry_refused l (Outcome o) s e = some_is l e
entry_refused l (Shown v) s e = some_is l e
entry_refused l End s e = some_is l e

refused_entry : (l : Account) (e : Entry) → IsSound l → IsRefused e l → next_account l e ≡ None
refused_entry l (Reset r) s x = absurd x
refused_entry l (Async p) s x = refused_packet p l s x
refused_entry l (Iso p) s x = absurd x
refused_entry l (Event v) s x = refused_event v l x
refused_entry l (Outcome o) s x = absurd x
refused_entry l (Shown v) s x = absurd x
refused_entry l End s x = absurd x

pub refused_exactly : (l : Account) (e : Entry) → IsSound l → (next_account l e ≡ None) ↔ IsRefused e l
refused_exactly l e s = (entry_refused l e s, refused_entry l e s)
