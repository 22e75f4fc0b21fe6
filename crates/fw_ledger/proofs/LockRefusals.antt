-- Responses to lock requests that are refused: to no such request, or with a swap that is no move.
use Rattle.fw_ledger.proofs.Common.{PlugAt, ◌≡◌, ◌<◌, ◌==◌, ◌&&◌, ℕ, Bool, true, false, Option, Some, None, List, length, cond, refl, sym, ◌∙◌, ap, subst, arith, option_map, nat_tests, false≢true}
use Rattle.fw_ledger.proofs.Common.{Account, Request, Locks, Move, IsSound, word_of, IsMove, AskedFor, response_in, Asked, Tables, NotAsked}
use Rattle.std.proofs.lemmas.Option.{same_Some}
use Rattle.fw_async.specs.declared.packet.Head.{Head}
use Rattle.fw_words.specs.Quadlet.{quadlet_at}
use Rattle.fw_words.specs.declared.swap.Swap.{Swap as TheSwap}
use Rattle.fw_log_entry.specs.Network.{device_of_id}
use Rattle.fw_model_account.specs.Account.{Reads}
use Rattle.fw_model_account.specs.Words.{Register, register_of}
use Rattle.fw_model_account.specs.Packets.{Locked, ended, is_reply_to, replied_to}
use Rattle.fw_model_account.proofs.Decoded.{move_found}
use Rattle.fw_model_audit.specs.Looked.{Response, Replies, IsAnswer, quadlet_in}
use Rattle.fw_model_audit.specs.Faults.{IsBadSwap}
use Rattle.fw_model_audit.proofs.Refusals.{IsRegisterAt, same_request}
use Rattle.fw_model_audit.proofs.WatchedRegisters.{register_placed}
use Rattle.fw_ledger.specs.Swapped.{is_lock_of, swap_done, account_swapped}
use Rattle.fw_ledger.specs.Refused.{IsRefusedFor, IsSwapRefused, word_asked}
use Rattle.fw_ledger.specs.declared.refused.Refused.{Refused}
use Rattle.fw_ledger.specs.declared.refused.Refused.TheVariants.{Orphan}
use Rattle.fw_account_tables.specs.declared.tables.Asked.TheVariants.{Read, Swap, Lock}
use Rattle.fw_ledger.proofs.Replies.{IsEnded, ended_answer, orphan_by}
use Rattle.fw_ledger.proofs.LockReplies.{lock_next}

-- a response to a lock that is to no such request
lock_other : (l : Account) (c source function rcode : ℕ) (old : List ℕ) (a : Asked) → AskedFor a (l.outstanding c) → is_lock_of a source function ≡ false
    → (q : Request) → l.outstanding c ≡ Some q → q.target ≡ source → is_reply_to q.operation (Locked function rcode old) ≡ true → ⊥
lock_other l c source function rcode old NotAsked is fails q out same kind = let clash : None ≡ Some q = sym is ∙ out in cc clash
lock_other l c source function rcode old (Read target address) is fails q out same kind =
    let one : record { target = target; address = address; operation = Reads } ≡ q = same_Some _ q (sym is ∙ out) in
    false≢true (ap (λ (x : Request). is_reply_to x.operation (Locked function rcode old)) one ∙ kind)
lock_other l c source function rcode old (Swap target address s) is fails q out same kind =
    let one : record { target = target; address = address; operation = Locks 2 is.0 } ≡ q = same_Some _ q (sym is.1 ∙ out) in
    let at : target ≡ source = ap (λ (x : Request). x.target) one ∙ same in
    let of : (2 == function) ≡ true = ap (λ (x : Request). is_reply_to x.operation (Locked function rcode old)) one ∙ kind in
    absurd (grind (arith, nat_tests))
lock_other l c source function rcode old (Lock target address asked) is fails q out same kind =
    let one : record { target = target; address = address; operation = Locks asked is.0 } ≡ q = same_Some _ q (sym is.1 ∙ out) in
    let at : target ≡ source = ap (λ (x : Request). x.target) one ∙ same in
    let of : (asked == function) ≡ true = ap (λ (x : Request). is_reply_to x.operation (Locked function rcode old)) one ∙ kind in
    absurd (grind (arith, nat_tests))

-- goes to none
stops : (l : Account) (c source function rcode : ℕ) (old : List ℕ) (o : Option Request)
    → ((q : Request) → o ≡ Some q → q.target ≡ source → is_reply_to q.operation (Locked function rcode old) ≡ true → ⊥) → replied_to c o source (Locked function rcode old) l ≡ None
stops l c source function rcode old None none = refl
stops l c source function rcode old (Some q) none = go (q.target == source) (is_reply_to q.operation (Locked function rcode old)) refl refl
  where
    go : (a b : Bool) → (q.target == source) ≡ a → is_reply_to q.operation (Locked function rcode old) ≡ b → replied_to c (Some q) source (Locked function rcode old) l ≡ None
    go true true e f = absurd (none q refl (grind (arith, nat_tests)) f)
    go true false e f = rw (e, f) refl
    go false b e f = rw e refl

pub lock_refused : (l : Account) (c : ℕ) (h : Head) (rcode function : ℕ) (old : List ℕ) (a : Asked) → device_of_id l.latest h.destination ≡ Some c → AskedFor a (l.outstanding c)
    → is_lock_of a h.source function ≡ false
    → (replied_to c (l.outstanding c) h.source (Locked function rcode old) l ≡ None)
    × IsRefusedFor l (Replies (response_in h rcode (Locked function rcode old) (quadlet_in old))) (Orphan h.destination)
lock_refused l c h rcode function old a d is fails =
    let none = lock_other l c h.source function rcode old a is fails in
    (stops l c h.source function rcode old (l.outstanding c) none, orphan_by l (response_in h rcode (Locked function rcode old) (quadlet_in old)) c d none)

-- what a response shows whose swap was made
pub record IsDone (a : Asked) (rcode : ℕ) (old : List ℕ) (s : TheSwap) : Type 0 where
  pub target : ℕ
  pub address : ℕ
  pub asked : a ≡ Swap target address s
  pub complete : rcode ≡ 0
  pub quadlet : (length old == 4) ≡ true
  pub shown : quadlet_at old 0 ≡ s.argument

done_is : (a : Asked) (rcode : ℕ) (old : List ℕ) (s : TheSwap) → swap_done a rcode old ≡ Some s → IsDone a rcode old s
done_is NotAsked rcode old s e = cc e
done_is (Read target address) rcode old s e = cc e
done_is (Lock target address function) rcode old s e = cc e
done_is (Swap target address k) rcode old s e = go (rcode == 0) (length old == 4) (quadlet_at old 0 == k.argument) refl refl refl e
  where
    go : (x y z : Bool) → (rcode == 0) ≡ x → (length old == 4) ≡ y → (quadlet_at old 0 == k.argument) ≡ z → cond (x && y && z) (Some k) None ≡ Some s → IsDone (Swap target address k) rcode old s
    go true true true ex ey ez f =
        let one : k ≡ s = same_Some k s f in
        let at : quadlet_at old 0 ≡ k.argument = grind (arith, nat_tests) in
        record { target = target; address = address; asked = ap (λ v. Swap target address v) one; complete = grind (arith, nat_tests); quadlet = ey; shown = at ∙ ap (λ (v : TheSwap). v.argument) one }
    go true true false ex ey ez f = cc f
    go true false z ex ey ez f = cc f
    go false y z ex ey ez f = cc f

-- a swap that is no move is refused for that
pub move_refused : (l : Account) (c : ℕ) (h : Head) (rcode function : ℕ) (old : List ℕ) (a : Asked) (f : Refused) → c < 63 → IsSound l → device_of_id l.latest h.destination ≡ Some c
    → (x : IsEnded l c (response_in h rcode (Locked function rcode old) (quadlet_in old)) a) → IsSwapRefused l c (register_of l.latest x.request.target x.request.address) (swap_done a rcode old) f
    → IsRefusedFor l (Replies (response_in h rcode (Locked function rcode old) (quadlet_in old))) f
move_refused l c h rcode function old a f lt sound d x stop = subst (IsRefusedFor l (Replies r)) (sym stop.5) (bad, due)
  where
    r : Response
    r = response_in h rcode (Locked function rcode old) (quadlet_in old)

    register : Register
    register = stop.0

    s : TheSwap
    s = stop.1

    done : IsDone a rcode old s
    done = done_is a rcode old s stop.3

    placed : IsRegisterAt x.request.address
    placed = register_placed l.latest x.request.target x.request.address register stop.2

    swap : AskedFor (Swap done.target done.address s) (Some x.request)
    swap = subst (λ v. AskedFor v (Some x.request)) done.asked x.asked

    none : (p : PlugAt) (m : Move) → IsMove c p m register s.argument s.new l → ⊥
    none p m is = let clash : None ≡ Some (p, m) = sym stop.4 ∙ move_found c p m register s.argument s.new l lt sound is in cc clash

    bad : IsBadSwap l r s.argument s.new
    bad = record {
      request = x.request;
      offset = placed.offset;
      watched = record { answer = ended_answer l c r a d x; complete = done.complete; address = placed.place; watched = placed.watched };
      bytes = swap.0;
      swap = ap (λ (q : Request). q.operation) (same_Some _ _ swap.1);
      quadlets = swap.2;
      argument = sym swap.3;
      value = sym swap.4;
      shown = rw done.quadlet (ap (λ v. Some v) done.shown);
      register = register;
      place = stop.2;
      none = none;
    }

    due : (k : Response) (q : Request) → Replies r ≡ Replies k → IsAnswer l k q → word_asked l q ≡ Some (word_of l register)
    due k q same answer =
        let one : r ≡ k = cc same in
        let is : q ≡ x.request = same_request l r c x.request d x.outstanding q (subst (λ v. IsAnswer l v q) (sym one) answer) in
        ap (word_asked l) is ∙ ap (option_map (word_of l)) stop.2

-- the response whose swap is no move
pub lock_stopped : (t mid : Tables) (l : Account) (c : ℕ) (h : Head) (rcode function : ℕ) (old : List ℕ) (a : Asked) (o : Option Register) (done : Option TheSwap) (f : Refused) → c < 63 → IsSound l
    → device_of_id l.latest h.destination ≡ Some c → (x : IsEnded l c (response_in h rcode (Locked function rcode old) (quadlet_in old)) a) → AskedFor a (l.outstanding c)
    → is_lock_of a h.source function ≡ true
    → o ≡ register_of l.latest x.request.target x.request.address → done ≡ swap_done a rcode old → (account_swapped c o done l ≡ None) × (mid ≡ t) × IsSwapRefused l c o done f
    → (replied_to c (l.outstanding c) h.source (Locked function rcode old) l ≡ None) × (mid ≡ t) × IsRefusedFor l (Replies (response_in h rcode (Locked function rcode old) (quadlet_in old))) f
lock_stopped t mid l c h rcode function old a o done f lt sound d x is holds place made stop =
    let n = lock_next l c h rcode function old a x.request x.outstanding is holds in
    let none = subst (λ v. account_swapped c v (swap_done a rcode old) l ≡ None) place (subst (λ v. account_swapped c o v l ≡ None) made stop.0) in
    let why = subst (λ v. IsSwapRefused l c v (swap_done a rcode old) f) place (subst (λ v. IsSwapRefused l c o v f) made stop.2) in
    (n ∙ ap (option_map (ended c)) none, stop.1, move_refused l c h rcode function old a f lt sound d x why)
