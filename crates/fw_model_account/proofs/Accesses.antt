-- The account after a request, after a response, and after a compare_swap that is a move.
use Rattle.fw_model_account.proofs.Common.{PlugAt, Head, LockReply, Async, ◌≡◌, ◌≢◌, ℕ, ◌<◌, ◌^◌, ◌==◌, ◌&&◌, Bool, true}
use Rattle.fw_model_account.proofs.Common.{false, Some, None, List, [], ◌∷◌, refl, ap, sym, ◌∙◌, arith, nat_tests, Account}
use Rattle.fw_model_account.proofs.Common.{Locks, device_of_id, Move, after, Register, register_of, move_at, ended, next_account, IsSound}
use Rattle.fw_async.specs.declared.packet.Packet.TheVariants.{ReadQuadlet, ReadQuadletReply, Lock}
use Rattle.fw_log_entry.specs.declared.entry.Entry.{Entry}
use Rattle.std.proofs.Common.{◌++◌, length}
use Rattle.std.proofs.lemmas.Nat.{from_be_bytes-to_be_bytes_4}
use Rattle.std.specs.Int.{to_be_bytes, from_be_bytes, w32}
use Rattle.fw_words.specs.Quadlet.{quadlet_at}
use Rattle.fw_model_account.specs.Account.{Operation, Reads}
use Rattle.fw_model_account.specs.Decode.{IsMove}
use Rattle.fw_model_account.specs.Packets.{asked, is_reply_to, is_swapped, moved, replied, after_request, after_reply, Reply, Read, Locked}
use Rattle.fw_model_account.specs.Fold.{next_of, account_of}
use Rattle.fw_model_account.proofs.Decoded.{move_found}
use Rattle.fw_model_account.proofs.Packets.{device_below}
use Rattle.fw_model_account.proofs.Fold.{account_from-append}

-- argument and new value of a quadlet compare_swap
abbrev pub swap_bytes : ℕ → ℕ → List ℕ
swap_bytes arg new = to_be_bytes w32 arg ++ to_be_bytes w32 new

-- ---- requests

request_is : (l : Account) (h : Head) (address : ℕ) (operation : Operation) (c : ℕ) → h.tl ≡ 0 → device_of_id l.latest h.source ≡ Some c → l.outstanding c ≡ None
    → after_request h address operation l ≡ Some (asked c (record { target = h.destination; address = address; operation = operation }) l)
request_is l h address operation c tl by free = rw tl (rw by (rw free refl))

pub after_read_request : (l : Account) (h : Head) (address c : ℕ) → h.tl ≡ 0 → device_of_id l.latest h.source ≡ Some c → l.outstanding c ≡ None
    → next_account l (Async (ReadQuadlet h address)) ≡ Some (asked c (record { target = h.destination; address = address; operation = Reads }) l)
after_read_request l h address c tl by free = request_is l h address Reads c tl by free

pub after_lock_request : (l : Account) (h : Head) (address function : ℕ) (bytes : List ℕ) (c : ℕ) → h.tl ≡ 0 → device_of_id l.latest h.source ≡ Some c → l.outstanding c ≡ None
    → next_account l (Async (Lock h address function bytes)) ≡ Some (asked c (record { target = h.destination; address = address; operation = Locks function bytes }) l)
after_lock_request l h address function bytes c tl by free = request_is l h address (Locks function bytes) c tl by free

-- ---- responses

same : (n : ℕ) → (n == n) ≡ true
same n = grind (arith, nat_tests)

differ : (n k : ℕ) → n ≢ k → (n == k) ≡ false
differ n k ne = grind (arith, nat_tests)

reply_is : (l : Account) (h : Head) (reply : Reply) (c address : ℕ) (operation : Operation) → h.tl ≡ 0 → device_of_id l.latest h.destination ≡ Some c
    → l.outstanding c ≡ Some (record { target = h.source; address = address; operation = operation }) → is_reply_to operation reply ≡ true
    → after_reply h reply l ≡ replied c (record { target = h.source; address = address; operation = operation }) operation reply l
reply_is l h reply c address operation tl to one kind = rw tl (rw to (rw one (rw (same h.source) (rw kind refl))))

pub after_read_reply : (l : Account) (h : Head) (rcode value c address : ℕ) → h.tl ≡ 0 → device_of_id l.latest h.destination ≡ Some c
    → l.outstanding c ≡ Some (record { target = h.source; address = address; operation = Reads }) → next_account l (Async (ReadQuadletReply h rcode value)) ≡ Some (ended c l)
after_read_reply l h rcode value c address tl to one = reply_is l h Read c address Reads tl to one refl

lock_reply_is : (l : Account) (h : Head) (rcode function : ℕ) (bytes old : List ℕ) (c address : ℕ) → h.tl ≡ 0 → device_of_id l.latest h.destination ≡ Some c
    → l.outstanding c ≡ Some (record { target = h.source; address = address; operation = Locks function bytes })
    → after_reply h (Locked function rcode old) l ≡ replied c (record { target = h.source; address = address; operation = Locks function bytes }) (Locks function bytes) (Locked function rcode old) l
lock_reply_is l h rcode function bytes old c address tl to one = reply_is l h (Locked function rcode old) c address (Locks function bytes) tl to one (same function)

-- a lock that does not show its argument changes nothing
pub after_lock_reply : (l : Account) (h : Head) (rcode function : ℕ) (bytes old : List ℕ) (c address : ℕ) → h.tl ≡ 0 → device_of_id l.latest h.destination ≡ Some c
    → l.outstanding c ≡ Some (record { target = h.source; address = address; operation = Locks function bytes }) → is_swapped function bytes rcode old ≡ false
    → next_account l (Async (LockReply h rcode function old)) ≡ Some (ended c l)
after_lock_reply l h rcode function bytes old c address tl to one not = lock_reply_is l h rcode function bytes old c address tl to one ∙ rw not refl

first_of_swap : (arg new : ℕ) → arg < 2 ^ 32 → quadlet_at (swap_bytes arg new) 0 ≡ arg
first_of_swap arg new lt = from_be_bytes-to_be_bytes_4 arg lt

second_of_swap : (arg new : ℕ) → new < 2 ^ 32 → quadlet_at (swap_bytes arg new) 4 ≡ new
second_of_swap arg new lt = from_be_bytes-to_be_bytes_4 new lt

old_value : (old : ℕ) → old < 2 ^ 32 → quadlet_at (to_be_bytes w32 old) 0 ≡ old
old_value old lt = from_be_bytes-to_be_bytes_4 old lt

-- a compare_swap that finds another word changes nothing
pub after_failed_swap : (l : Account) (h : Head) (arg new old c address : ℕ) → h.tl ≡ 0 → device_of_id l.latest h.destination ≡ Some c
    → l.outstanding c ≡ Some (record { target = h.source; address = address; operation = Locks 2 (swap_bytes arg new) }) → arg < 2 ^ 32 → old < 2 ^ 32 → old ≢ arg
    → next_account l (Async (LockReply h 0 2 (to_be_bytes w32 old))) ≡ Some (ended c l)
after_failed_swap l h arg new old c address tl to one small little ne = after_lock_reply l h 0 2 (swap_bytes arg new) (to_be_bytes w32 old) c address tl to one not
  where
    not : (from_be_bytes w32 (to_be_bytes w32 old) == from_be_bytes w32 (to_be_bytes w32 arg)) ≡ false
    not = differ _ _ (λ e. ne (sym (from_be_bytes-to_be_bytes_4 old little) ∙ e ∙ from_be_bytes-to_be_bytes_4 arg small))

-- a response that is not complete changes nothing
pub after_refused_lock : (l : Account) (h : Head) (rcode function : ℕ) (bytes old : List ℕ) (c address : ℕ) → h.tl ≡ 0 → device_of_id l.latest h.destination ≡ Some c
    → l.outstanding c ≡ Some (record { target = h.source; address = address; operation = Locks function bytes }) → rcode ≢ 0
    → next_account l (Async (LockReply h rcode function old)) ≡ Some (ended c l)
after_refused_lock l h rcode function bytes old c address tl to one ne =
    after_lock_reply l h rcode function bytes old c address tl to one (go (function == 2) (length bytes == 8) (rcode == 0) (differ rcode 0 ne))
  where
    go : (a b d : Bool) → d ≡ false → (a && b && d && (length old == 4) && (quadlet_at old 0 == quadlet_at bytes 0)) ≡ false
    go true true d e = rw e refl
    go true false d e = refl
    go false b d e = refl

-- a compare_swap that finds its argument at a register of the account is the move that it is
pub after_move : (l : Account) (h : Head) (c : ℕ) (p : PlugAt) (m : Move) (register : Register) (arg new address : ℕ) → IsSound l → h.tl ≡ 0 → device_of_id l.latest h.destination ≡ Some c
    → l.outstanding c ≡ Some (record { target = h.source; address = address; operation = Locks 2 (swap_bytes arg new) }) → arg < 2 ^ 32 → new < 2 ^ 32
    → register_of l.latest h.source address ≡ Some register → IsMove c p m register arg new l → next_account l (Async (LockReply h 0 2 (to_be_bytes w32 arg))) ≡ Some (ended c (after c p m l))
after_move l h c p m register arg new address s tl to one small little place is =
    lock_reply_is l h 0 2 (swap_bytes arg new) (to_be_bytes w32 arg) c address tl to one ∙ rw (same (from_be_bytes w32 (to_be_bytes w32 arg))) (rw place (ap (λ o. moved c o l) found))
  where
    found : move_at l c register (quadlet_at (swap_bytes arg new) 0) (quadlet_at (swap_bytes arg new) 4) ≡ Some (p, m)
    found = rw (first_of_swap arg new small, second_of_swap arg new little) (move_found c p m register arg new l (device_below l.latest h.destination c s.range to) s is)

-- ---- one entry more

pub account_of-push : (es : List Entry) (e : Entry) → account_of (es ++ e ∷ []) ≡ next_of (account_of es) e
account_of-push es e = account_from-append es (e ∷ []) _
