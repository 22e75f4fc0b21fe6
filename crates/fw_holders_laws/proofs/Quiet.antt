-- Entries without a line leave the holders.
use Rattle.std.proofs.Common.{◌≡◌, ◌==◌, ◌&&◌, ℕ, Bool, true, false, cond, List, [], ◌∷◌, ◌++◌, Option, Some, None, is_none, is_some, refl, ap, sym, subst, ◌∙◌, codes}
use Rattle.fw_async.specs.declared.packet.Packet.{Packet}
use Rattle.fw_async.specs.declared.packet.Packet.TheVariants.{WriteQuadlet, WriteBlock, WriteReply, ReadQuadlet, ReadBlock, ReadQuadletReply, ReadBlockReply, CycleStart, Lock, LockReply}
use Rattle.fw_terms.specs.Labels.{label_code}
use Rattle.fw_terms.specs.declared.label.Label.TheVariants.{Procedure}
use Rattle.fw_terms.specs.declared.plug.PlugAt.{PlugAt}
use Rattle.fw_words.specs.Quadlet.{quadlet_at}
use Rattle.fw_log_entry.specs.Network.{device_of_id}
use Rattle.fw_log_entry.specs.declared.codes.event.TheConstants.{SECOND_OVER, DIED, WITHHELD}
use Rattle.fw_log_entry.specs.declared.entry.Entry.{Entry}
use Rattle.fw_log_entry.specs.declared.entry.Entry.TheVariants.{Reset, Async, Iso, Event, Outcome, Shown, End}
use Rattle.fw_log_entry.specs.declared.entry.EventEntry.{EventEntry}
use Rattle.fw_log_entry.specs.declared.entry.Timed.{Timed}
use Rattle.fw_model_account.specs.Account.{Account, Operation, Reads, Locks, Request}
use Rattle.fw_model_account.specs.Decode.{move_at}
use Rattle.fw_model_account.specs.Events.{after_second, after_death, after_withholding}
use Rattle.fw_model_account.specs.Fold.{account_from, account_of, after_event, entries_of, next_account, no_account}
use Rattle.fw_model_account.specs.Moves.{Move}
use Rattle.fw_model_account.specs.Packets.{Reply, Read, Locked, asked, asked_by, is_reply_to, is_swapped, moved, swapped, replied, replied_to, answered, ended, after_packet}
use Rattle.fw_model_account.specs.Words.{Register, register_of}
use Rattle.fw_model_account.proofs.Fold.{account_from-append}
use Rattle.fw_audit.proofs.Audits.{account_push}
use Rattle.fw_model_audit.specs.Looked.{Replies, Other, Response, looked_packet, quadlet_in}
use Rattle.fw_holders.specs.Deeds.{death_text, event_told, move_told, swap_told, answer_told, reply_told, response_told, packet_told, told}
use Rattle.fw_holders.specs.Told.{entry_line, holders, line, line_of, rest_of_line}
use Rattle.fw_holders.proofs.HoldsLaws.{entries_push}
use Rattle.fw_holders_laws.specs.Between.{HasSameHolders}
use Rattle.fw_holders_laws.proofs.Lines.{some_end, first_empty, second_empty}

nowhere : {X : Type 0} (k : Account) → None ≡ Some k → X
nowhere k e = let z : ⊥ = cc in absurd z

something : {X : Type 0} (what : List ℕ) → Some what ≡ None → X
something what e = let z : ⊥ = cc in absurd z

same_some : {X : Type 0} (x y : X) → Some x ≡ Some y → x ≡ y
same_some x y e = cc

-- ---- the same holders

pub same_holders : (l : Account) → HasSameHolders l l
same_holders l =
    record { latest = refl; withheld = refl; reclaiming = refl; allocations = refl; outputs = refl; inputs = refl; settings = refl; input_channel = refl; continues = refl; reclaimable = refl }

pub holders_then : (l k m : Account) → HasSameHolders l k → HasSameHolders k m → HasSameHolders l m
holders_then l k m a b = record {
  latest = b.latest ∙ a.latest;
  withheld = b.withheld ∙ a.withheld;
  reclaiming = b.reclaiming ∙ a.reclaiming;
  allocations = b.allocations ∙ a.allocations;
  outputs = b.outputs ∙ a.outputs;
  inputs = b.inputs ∙ a.inputs;
  settings = b.settings ∙ a.settings;
  input_channel = b.input_channel ∙ a.input_channel;
  continues = b.continues ∙ a.continues;
  reclaimable = b.reclaimable ∙ a.reclaimable;
}

as_some : (l m k : Account) → HasSameHolders l m → Some m ≡ Some k → HasSameHolders l k
as_some l m k h e = subst (HasSameHolders l) (same_some m k e) h

ended_holders : (c : ℕ) (l : Account) → HasSameHolders l (ended c l)
ended_holders c l =
    record { latest = refl; withheld = refl; reclaiming = refl; allocations = refl; outputs = refl; inputs = refl; settings = refl; input_channel = refl; continues = refl; reclaimable = refl }

asked_holders : (c : ℕ) (q : Request) (l : Account) → HasSameHolders l (asked c q l)
asked_holders c q l =
    record { latest = refl; withheld = refl; reclaiming = refl; allocations = refl; outputs = refl; inputs = refl; settings = refl; input_channel = refl; continues = refl; reclaimable = refl }

-- ---- packets

moves : (l k : Account) (c : ℕ) (o : Option (PlugAt × Move)) → moved c o l ≡ Some k → move_told l c o ≡ None → HasSameHolders l k
moves l k c None e f = nowhere k e
moves l k c (Some m) e f = something _ f

swaps : (l k : Account) (c : ℕ) (o : Option Register) (a n : ℕ) → swapped c o a n l ≡ Some k → swap_told l c o a n ≡ None → HasSameHolders l k
swaps l k c None a n e f = as_some l (ended c l) k (ended_holders c l) e
swaps l k c (Some v) a n e f = moves l k c (move_at l c v a n) e f

replies : (l k : Account) (c : ℕ) (q : Request) (op : Operation) (reply : Reply) → replied c q op reply l ≡ Some k → answer_told l c q op reply ≡ None → HasSameHolders l k
replies l k c q Reads reply e f = as_some l (ended c l) k (ended_holders c l) e
replies l k c q (Locks function bytes) Read e f = as_some l (ended c l) k (ended_holders c l) e
replies l k c q (Locks function bytes) (Locked g rcode old) e f = by (is_swapped function bytes rcode old) e f
  where
    by : (b : Bool) → cond b (swapped c (register_of l.latest q.target q.address) (quadlet_at bytes 0) (quadlet_at bytes 4) l) (Some (ended c l)) ≡ Some k
        → cond b (swap_told l c (register_of l.latest q.target q.address) (quadlet_at bytes 0) (quadlet_at bytes 4)) None ≡ None → HasSameHolders l k
    by true x y = swaps l k c (register_of l.latest q.target q.address) (quadlet_at bytes 0) (quadlet_at bytes 4) x y
    by false x y = as_some l (ended c l) k (ended_holders c l) x

responds : (l k : Account) (d : Option ℕ) (source : ℕ) (reply : Reply) → answered d source reply l ≡ Some k → response_told l d reply ≡ None → HasSameHolders l k
responds l k None source reply e f = nowhere k e
responds l k (Some c) source reply e f = by (l.outstanding c) e f
  where
    taken : (b : Bool) (o : Option Account) → cond b o None ≡ Some k → o ≡ Some k
    taken true o x = x
    taken false o x = nowhere k x

    by : (o : Option Request) → replied_to c o source reply l ≡ Some k → reply_told l c o reply ≡ None → HasSameHolders l k
    by None x y = nowhere k x
    by (Some q) x y = replies l k c q q.operation reply (taken ((q.target == source) && is_reply_to q.operation reply) (replied c q q.operation reply l) x) y

labelled : (l k : Account) (b : Bool) (r : Response)
    → cond b (answered (device_of_id l.latest r.requester) r.responder r.reply l) (Some l) ≡ Some k → packet_told l (cond b (Replies r) Other) ≡ None → HasSameHolders l k
labelled l k true r e f = responds l k (device_of_id l.latest r.requester) r.responder r.reply e f
labelled l k false r e f = as_some l l k (same_holders l) e

asks : (l k : Account) (b : Bool) (d : Option ℕ) (q : Request) → cond b (asked_by d q l) (Some l) ≡ Some k → HasSameHolders l k
asks l k false d q e = as_some l l k (same_holders l) e
asks l k true None q e = nowhere k e
asks l k true (Some c) q e = by (is_none (l.outstanding c)) e
  where
    by : (b : Bool) → cond b (Some (asked c q l)) None ≡ Some k → HasSameHolders l k
    by true x = as_some l (asked c q l) k (asked_holders c q l) x
    by false x = nowhere k x

packets : (l k : Account) (p : Packet) → after_packet p l ≡ Some k → packet_told l (looked_packet p) ≡ None → HasSameHolders l k
packets l k (WriteQuadlet h offset value) e f = as_some l l k (same_holders l) e
packets l k (WriteBlock h offset bytes) e f = as_some l l k (same_holders l) e
packets l k (WriteReply h rcode) e f = as_some l l k (same_holders l) e
packets l k (ReadQuadlet h offset) e f = asks l k (h.tl == label_code Procedure) (device_of_id l.latest h.source) (record { target = h.destination; address = offset; operation = Reads }) e
packets l k (ReadBlock h offset len) e f = as_some l l k (same_holders l) e
packets l k (ReadQuadletReply h rcode value) e f =
    labelled l k (h.tl == label_code Procedure) (record { requester = h.destination; responder = h.source; rcode = rcode; reply = Read; word = Some value }) e f
packets l k (ReadBlockReply h rcode bytes) e f = as_some l l k (same_holders l) e
packets l k (CycleStart h offset time) e f = as_some l l k (same_holders l) e
packets l k (Lock h offset function bytes) e f =
    asks l k (h.tl == label_code Procedure) (device_of_id l.latest h.source) (record { target = h.destination; address = offset; operation = Locks function bytes }) e
packets l k (LockReply h rcode function bytes) e f =
    labelled l k (h.tl == label_code Procedure) (record { requester = h.destination; responder = h.source; rcode = rcode; reply = Locked function rcode bytes; word = quadlet_in bytes }) e f

-- ---- entries

events : (l k : Account) (e : EventEntry) → after_event e l ≡ Some k → event_told l e ≡ None → HasSameHolders l k
events l k e x y = by (e.code == SECOND_OVER) (e.code == DIED) (e.code == WITHHELD) x y
  where
    by : (second death withheld : Bool)
        → cond second (cond l.reclaiming (Some (after_second l)) None)
        (cond death (Some (after_death e.device l)) (cond withheld (cond (is_some l.latest) None (Some (after_withholding l))) (Some l))) ≡ Some k
        → cond second (Some (codes "the second is over")) (cond death (Some (death_text l e.device)) (cond withheld (Some (codes "channel 31 is withheld")) None)) ≡ None → HasSameHolders l k
    by true death withheld a b = something _ b
    by false true withheld a b = something _ b
    by false false true a b = something _ b
    by false false false a b = as_some l l k (same_holders l) a

entry_quiet : (l k : Account) (e : Entry) → next_account l e ≡ Some k → told l e ≡ None → HasSameHolders l k
entry_quiet l k (Reset r) x y = something _ y
entry_quiet l k (Async p) x y = packets l k p x y
entry_quiet l k (Iso p) x y = as_some l l k (same_holders l) x
entry_quiet l k (Event e) x y = events l k e x y
entry_quiet l k (Outcome o) x y = as_some l l k (same_holders l) x
entry_quiet l k (Shown s) x y = as_some l l k (same_holders l) x
entry_quiet l k End x y = as_some l l k (same_holders l) x

-- ---- entries without a line

some_line : (cycle : ℕ) (what : List ℕ) (l : Account) → line cycle what l ≡ [] → ⊥
unfolding line rest_of_line
some_line cycle what l e = some_end _ 10 [] (second_empty _ _ e)

no_line : (cycle : ℕ) (o : Option (List ℕ)) (k : Account) → line_of cycle o (Some k) ≡ [] → o ≡ None
no_line cycle None k e = refl
no_line cycle (Some what) k e = absurd (some_line cycle what k e)

no_more : (es : List Entry) (k : Account) → account_from None es ≡ Some k → ⊥
no_more [] k e = nowhere k e
no_more (e ∷ es) k x = no_more es k x

step : (l k : Account) (t : Timed) (rest : List Entry) (m : Option Account) → next_account l t.what ≡ m → account_from m rest ≡ Some k
    → line_of t.cycle (told l t.what) m ≡ [] → (n : Account) × (next_account l t.what ≡ Some n) × HasSameHolders l n
step l k t rest None next goes silent = absurd (no_more rest k goes)
step l k t rest (Some n) next goes silent = (n, next, entry_quiet l n t.what next (no_line t.cycle (told l t.what) n silent))

pub holders_between : (before more : List Timed) (l k : Account) → account_of (entries_of before) ≡ Some l → account_from (Some l) (entries_of more) ≡ Some k → holders before more ≡ []
    → HasSameHolders l k
holders_between before [] l k at goes silent = as_some l l k (same_holders l) goes
holders_between before (t ∷ rest) l k at goes silent =
    let first : line_of t.cycle (told l t.what) (next_account l t.what) ≡ [] =
    ap (λ o. entry_line o t) (sym at) ∙ first_empty (entry_line (account_of (entries_of before)) t) (holders (before ++ t ∷ []) rest) silent in
    let x = step l k t (entries_of rest) (next_account l t.what) refl goes first in
    let here : account_of (entries_of (before ++ t ∷ [])) ≡ Some x.0 = ap account_of (entries_push before t) ∙ account_push (entries_of before) t.what l at ∙ x.1 in
    let on : account_from (Some x.0) (entries_of rest) ≡ Some k = ap (λ o. account_from o (entries_of rest)) (sym x.1) ∙ goes in
    holders_then l x.0 k x.2 (holders_between (before ++ t ∷ []) rest x.0 k here on (second_empty (entry_line (account_of (entries_of before)) t) (holders (before ++ t ∷ []) rest) silent))

entries_append : (xs ys : List Timed) → entries_of (xs ++ ys) ≡ entries_of xs ++ entries_of ys
entries_append [] ys = refl
entries_append (x ∷ xs) ys = ap (λ es. x.what ∷ es) (entries_append xs ys)

pub holders_stay : (before more : List Timed) (l k : Account) → account_of (entries_of before) ≡ Some l → account_of (entries_of (before ++ more)) ≡ Some k → holders before more ≡ []
    → HasSameHolders l k
holders_stay before more l k at goes silent =
    let parts : account_of (entries_of before ++ entries_of more) ≡ Some k = ap account_of (sym (entries_append before more)) ∙ goes in
    let on : account_from (Some l) (entries_of more) ≡ Some k = ap (λ o. account_from o (entries_of more)) (sym at)
    ∙ sym (account_from-append (entries_of before) (entries_of more) (Some no_account)) ∙ parts in
    holders_between before more l k at on silent
