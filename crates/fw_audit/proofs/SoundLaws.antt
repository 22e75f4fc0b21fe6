-- An entry that is taken, and shows no word but one that is due, has no fault.
use Rattle.std.proofs.Common.{◌≡◌, ◌<◌, ◌^◌, ◌==◌, ◌&&◌, ℕ, Bool, true, false, cond, List, length, Option, Some, None, Ok, arith, refl, ap, sym, subst, ◌∙◌}
use Rattle.std.proofs.lemmas.Nat.{from_be_bytes-to_be_bytes_4}
use Rattle.std.specs.Int.{to_be_bytes, w32}
use Rattle.std.specs.Option.{option_map}
use Rattle.std.proofs.lemmas.Bool.{false≢true}
use Rattle.std.proofs.lemmas.Bool.Decides.{nat_tests}
use Rattle.fw_async.specs.declared.packet.Head.{Head}
use Rattle.fw_async.specs.declared.packet.Packet.TheVariants.{Lock, LockReply, ReadQuadlet, ReadQuadletReply}
use Rattle.fw_terms.specs.Labels.{label_code}
use Rattle.fw_terms.specs.declared.label.Label.TheVariants.{Procedure}
use Rattle.fw_words.specs.Quadlet.{quadlet_at}
use Rattle.fw_words.specs.Swaps.{swap_bytes}
use Rattle.fw_words.specs.declared.swap.Swap.{Swap as TheSwap}
use Rattle.fw_log_entry.specs.Network.{device_of_id}
use Rattle.fw_log_entry.specs.declared.entry.Entry.{Entry}
use Rattle.fw_log_entry.specs.declared.entry.Entry.TheVariants.{Async, Shown}
use Rattle.fw_log_entry.specs.declared.entry.ShownEntry.{ShownEntry}
use Rattle.fw_model_account.specs.Account.{Account, Locks, Reads, Request}
use Rattle.fw_model_account.specs.Fold.{next_account}
use Rattle.fw_model_account.specs.Packets.{Read, Locked, answered, asked_by, ended, is_quadlet_swap, replied_to}
use Rattle.fw_model_account.specs.Sound.{IsSound}
use Rattle.fw_model_account.specs.Words.{Register, register_of, word_of}
use Rattle.fw_model_audit.specs.Faults.{HasNoFault}
use Rattle.fw_model_audit.specs.Judged.{judged, judged_answer, judged_at, judged_quadlet, not_allowed, watched_offset}
use Rattle.fw_model_audit.specs.Looked.{Response, Looked, Asks, Replies, Shows, Happens, Other, looked, quadlet_in, IsAnswer}
use Rattle.fw_ledger.specs.Refused.{IsAnswered, ShowsAnswer, GoesOn, response_in}
use Rattle.fw_account_tables.specs.Stands.{AskedFor, Follows, StandsFor}
use Rattle.fw_ledger.specs.Swapped.{account_swapped, is_lock_of, swap_done}
use Rattle.fw_ledger.specs.declared.answer.Answer.{Answer}
use Rattle.fw_account_tables.specs.declared.tables.Asked.TheVariants.{Read as ReadAsked, Swap as SwapAsked}
use Rattle.fw_account_tables.specs.declared.tables.Tables.{Tables}
use Rattle.fw_ledger.proofs.LockReplies.{lock_goes}
use Rattle.fw_ledger.proofs.Replies.{IsEnded, reply_labelled, request_labelled, request_shows}
use Rattle.fw_model_audit.specs.declared.fault.AuditFault.{AuditFault}
use Rattle.fw_audit.specs.Found.{Judges, StandsAfter}
use Rattle.fw_audit.proofs.AnswerLaws.{answer_judged}
use Rattle.fw_audit.proofs.Verdicts.{goes_after, goes_verdict, no_answer_verdict}

-- a request to read a quadlet was taken
pub read_clear : (l : Account) (h : Head) (offset : ℕ) (new : Tables) → IsSound l → (h.tl == label_code Procedure) ≡ true
    → GoesOn new (asked_by (device_of_id l.latest h.source) (record { target = h.destination; address = offset; operation = Reads }) l) → Judges new l (Async (ReadQuadlet h offset)) (Ok None)
read_clear l h offset new s label goes = (no_answer_verdict l e new s on shows other, goes_after new l e on, shows)
  where
    e : Entry
    e = Async (ReadQuadlet h offset)

    on : GoesOn new (next_account l e)
    on = request_labelled new l h _ label goes

    shows : ShowsAnswer l (looked e) None
    shows = request_shows l h h.source

    other : (k : ShownEntry) → e ≡ Shown k → ⊥
    other k is = cc is

-- a lock request
pub lock_clear : (l : Account) (h : Head) (offset function : ℕ) (bytes : List ℕ) (new : Tables) → IsSound l → (h.tl == label_code Procedure) ≡ true
    → GoesOn new (asked_by (device_of_id l.latest h.source) (record { target = h.destination; address = offset; operation = Locks function bytes }) l)
    → Judges new l (Async (Lock h offset function bytes)) (Ok None)
lock_clear l h offset function bytes new s label goes = (no_answer_verdict l e new s on shows other, goes_after new l e on, shows)
  where
    e : Entry
    e = Async (Lock h offset function bytes)

    on : GoesOn new (next_account l e)
    on = request_labelled new l h _ label goes

    shows : ShowsAnswer l (looked e) None
    shows = request_shows l h h.source

    other : (k : ShownEntry) → e ≡ Shown k → ⊥
    other k is = cc is

-- a response to a read was taken, and shows the word that is due
pub reply_clear : (l : Account) (h : Head) (rcode value c target address : ℕ) (due : Option ℕ) (new : Tables) → IsSound l → (h.tl == label_code Procedure) ≡ true
    → device_of_id l.latest h.destination ≡ Some c
    → l.outstanding c ≡ Some (record { target = target; address = address; operation = Reads }) → target ≡ h.source → due ≡ option_map (word_of l) (register_of l.latest target address)
    → judged_at h.destination value (watched_offset address) due ≡ None → StandsFor new (ended c l)
    → Judges new l (Async (ReadQuadletReply h rcode value)) (Ok (Some (record { requester = h.destination; asked = ReadAsked target address; rcode = rcode; shown = Some value; due = due })))
reply_clear l h rcode value c target address due new s label dev out same due_is right stands = (clear, goes_after new l e on, shows)
  where
    e : Entry
    e = Async (ReadQuadletReply h rcode value)

    r : Response
    r = record { requester = h.destination; responder = h.source; rcode = rcode; reply = Read; word = Some value }

    q : Request
    q = record { target = target; address = address; operation = Reads }

    a : Answer
    a = record { requester = h.destination; asked = ReadAsked target address; rcode = rcode; shown = Some value; due = due }

    is_answer : IsAnswer l r q
    is_answer = record { controller = c; device = dev; outstanding = out; responder = same; kind = refl }

    is_answered : IsAnswered l r a
    is_answered = record { requester = refl; rcode = refl; shown = refl; request = q; answer = is_answer; asked = refl; due = due_is }

    test : (target == h.source) ≡ true
    test = grind (arith, nat_tests, same)

    next : next_account l e ≡ Some (ended c l)
    next =
        ap (λ b. cond b (answered (device_of_id l.latest h.destination) h.source Read l) (Some l)) label
        ∙ ap (λ d. answered d h.source Read l) dev
        ∙ ap (λ o. replied_to c o h.source Read l) out
        ∙ ap (λ b. cond (b && true) (Some (ended c l)) None) test

    on : GoesOn new (next_account l e)
    on = subst (GoesOn new) (sym next) stands

    shows : ShowsAnswer l (looked e) (Some a)
    shows = subst (λ b. ShowsAnswer l (cond b (Replies r) Other) (Some a)) (sym label) (a, refl, is_answered)

    either : (b : Bool) (o : Option AuditFault) → o ≡ None → cond b o None ≡ None
    either true o is = is
    either false o is = refl

    quiet : judged l (looked e) ≡ None
    quiet =
        ap (λ b. judged l (cond b (Replies r) Other)) label
        ∙ answer_judged l r q is_answer
        ∙ either (rcode == 0) _ (ap (judged_at h.destination value (watched_offset address)) (sym due_is) ∙ right)

    clear : HasNoFault l (looked e)
    clear = goes_verdict l e None (ended c l) s next (sym quiet)

-- ---- swaps

-- an old value has four bytes, and they are it
pub old_long : (v : ℕ) → length (to_be_bytes w32 v) ≡ 4
old_long v = refl

pub old_back : (v : ℕ) → v < 2 ^ 32 → quadlet_at (to_be_bytes w32 v) 0 ≡ v
old_back v low = from_be_bytes-to_be_bytes_4 v low

-- the request that a compare_swap is
pub swap_asked : (target address : ℕ) (s : TheSwap) → s.argument < 2 ^ 32 → s.new < 2 ^ 32
    → AskedFor (SwapAsked target address s) (Some (record { target = target; address = address; operation = Locks 2 (swap_bytes s) }))
swap_asked target address s low small =
    (swap_bytes s, refl, refl, sym (from_be_bytes-to_be_bytes_4 s.argument low), sym (from_be_bytes-to_be_bytes_4 s.new small))

-- the swap that a response makes, by the quadlet that it shows
pub swap_shown : (target address rcode value : ℕ) (s : TheSwap) (old : List ℕ) → length old ≡ 4 → quadlet_at old 0 ≡ value
    → cond ((rcode == 0) && (value == s.argument)) (Some s) None ≡ swap_done (SwapAsked target address s) rcode old
swap_shown target address rcode value s old size at = rw (size, at) (go (rcode == 0) (value == s.argument))
  where
    go : (a b : Bool) → cond (a && b) (Some s) None ≡ cond (a && true && b) (Some s) None
    go true true = refl
    go true false = refl
    go false b = refl

-- a swap that was made goes on
pub swap_goes : (taken : Bool) (old new : Tables) (o : Option Account) → Follows taken old new o → taken ≡ true → GoesOn new o
swap_goes taken old new None h made = absurd (false≢true (sym h.0 ∙ made))
swap_goes taken old new (Some m) h made = h.1

-- one that is no move changes nothing
pub swap_stays : (taken : Bool) (old new : Tables) (o : Option Account) → Follows taken old new o → taken ≡ false → new ≡ old
swap_stays taken old new None h stopped = h.1
swap_stays taken old new (Some m) h stopped = absurd (false≢true (sym stopped ∙ h.0))

-- a response to a compare_swap was taken, shows the word that is due, and its swap is a move if it makes one
pub swap_clear : (l : Account) (h : Head) (rcode c target address value : ℕ) (s : TheSwap) (old : List ℕ) (due : Option ℕ) (o : Option Register) (done : Option TheSwap) (mid new : Tables)
    → IsSound l → (h.tl == label_code Procedure) ≡ true → device_of_id l.latest h.destination ≡ Some c → AskedFor (SwapAsked target address s) (l.outstanding c) → target ≡ h.source
    → length old ≡ 4 → quadlet_at old 0 ≡ value → o ≡ register_of l.latest target address → due ≡ option_map (word_of l) (register_of l.latest target address)
    → judged_at h.destination value (watched_offset address) due ≡ None → done ≡ swap_done (SwapAsked target address s) rcode old → GoesOn mid (account_swapped c o done l)
    → ((m : Account) → StandsFor mid m → StandsFor new (ended c m))
    → Judges new l (Async (LockReply h rcode 2 old)) (Ok (Some (record { requester = h.destination; asked = SwapAsked target address s; rcode = rcode; shown = Some value; due = due })))
swap_clear l h rcode c target address value s old due o done mid new sound label dev asked same size at place due_is right made on end = (clear, after, shown.0)
  where
    e : Entry
    e = Async (LockReply h rcode 2 old)

    r : Response
    r = response_in h rcode (Locked 2 rcode old) (quadlet_in old)

    q : Request
    q = record { target = target; address = address; operation = Locks 2 asked.0 }

    a : Answer
    a = record { requester = h.destination; asked = SwapAsked target address s; rcode = rcode; shown = Some value; due = due }

    holds : is_lock_of (SwapAsked target address s) h.source 2 ≡ true
    holds = grind (arith, nat_tests, same)

    x : IsEnded l c r (SwapAsked target address s)
    x = record { request = q; outstanding = asked.1; asked = (asked.0, refl, asked.2, asked.3, asked.4); target = same; kind = refl }

    is_answer : IsAnswer l r q
    is_answer = record { controller = c; device = dev; outstanding = asked.1; responder = same; kind = refl }

    word : quadlet_in old ≡ Some value
    word = rw (size, at) refl

    is_answered : IsAnswered l r a
    is_answered = record { requester = refl; rcode = refl; shown = sym word; request = q; answer = is_answer; asked = x.asked; due = due_is }

    goes : GoesOn new (replied_to c (l.outstanding c) h.source (Locked 2 rcode old) l)
    goes = lock_goes mid new l c h rcode 2 old (SwapAsked target address s) o done x asked holds place made on end

    shown : ShowsAnswer l (looked e) (Some a) × GoesOn new (next_account l e)
    shown = reply_labelled l h (Locked 2 rcode old) r c a new label dev is_answered goes

    after : StandsAfter new l e
    after = goes_after new l e shown.1

    either : (b : Bool) (f : Option AuditFault) → f ≡ None → cond b f None ≡ None
    either true f is = is
    either false f is = refl

    quadlet : is_quadlet_swap 2 asked.0 ≡ true
    quadlet = rw asked.2 refl

    shows_due : judged_answer l h.destination target address (Locks 2 asked.0) (quadlet_in old) ≡ None
    shows_due =
        ap (λ b. cond b (judged_quadlet l h.destination target address (quadlet_in old)) (not_allowed h.destination (watched_offset address))) quadlet
        ∙ ap (judged_quadlet l h.destination target address) word
        ∙ ap (judged_at h.destination value (watched_offset address)) (sym due_is) ∙ right

    quiet : judged l (looked e) ≡ None
    quiet = ap (λ b. judged l (cond b (Replies r) Other)) label ∙ answer_judged l r q is_answer ∙ either (rcode == 0) _ shows_due

    clear : HasNoFault l (looked e)
    clear = goes_verdict l e None after.0 sound after.1 (sym quiet)
