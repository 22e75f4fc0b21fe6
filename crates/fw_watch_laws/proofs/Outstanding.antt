-- What an account without a fault says of a response: which request it is to, and which move a swap is.
use Rattle.fw_watch_laws.proofs.Common.{◌≡◌, refl, ap, sym, ◌∙◌, ℕ, ◌==◌, ◌&&◌, Bool, true, false, List, length, if◌then◌else◌, Option, Some, None, eqb-true, eq-eqb, same_Some, quadlet_at, Swap}
use Rattle.fw_watch_laws.proofs.Common.{COMPARE_SWAP, PlugAt, Procedure, label_code, Head, device_of_id, Account, Operation, Reads, Locks, Request, Move, Place, register_of, move_at, Reply, Locked}
use Rattle.fw_watch_laws.proofs.Common.{ended, is_swapped, replied, is_reply_to, IsSound, SwapOf, lock_of}
use Rattle.fw_model_account.specs.Moves.{after}
use Rattle.fw_model_account.specs.Decode.{IsMove}
use Rattle.fw_model_account.specs.Packets.{moved, swapped, replied_to, answered, after_reply}
use Rattle.fw_model_account.proofs.Decoded.{move_at_is}
use Rattle.fw_watch_requests.specs.declared.asked.Asking.TheVariants.{Lock}
use Rattle.fw_watch_laws.proofs.Matches.{asking_of}

-- a response with the label of procedures is to the outstanding request of its requester, and the account goes on
pub record IsReplyTo (l m : Account) (h : Head) (reply : Reply) : Type 0 where
  pub controller : ℕ
  pub request : Request
  pub device : device_of_id l.latest h.destination ≡ Some controller
  pub outstanding : l.outstanding controller ≡ Some request
  pub target : request.target ≡ h.source
  pub kind : is_reply_to request.operation reply ≡ true
  pub next : replied controller request request.operation reply l ≡ Some m

both_true : (a b : Bool) → (a && b) ≡ true → (a ≡ true) × (b ≡ true)
both_true true true e = (refl, refl)
both_true a b e = cc

reply_if : (b : Bool) (c : ℕ) (r : Request) (h : Head) (reply : Reply) (l m : Account) → ((r.target == h.source) && is_reply_to r.operation reply) ≡ b
    → device_of_id l.latest h.destination ≡ Some c → l.outstanding c ≡ Some r → (if b then replied c r r.operation reply l else None) ≡ Some m → IsReplyTo l m h reply
reply_if false c r h reply l m e d o n = cc
reply_if true c r h reply l m e d o n =
    let x = both_true (r.target == h.source) (is_reply_to r.operation reply) e in
    record { controller = c; request = r; device = d; outstanding = o; target = eqb-true r.target h.source x.0; kind = x.1; next = n }

reply_request : (o : Option Request) (c : ℕ) (h : Head) (reply : Reply) (l m : Account) → l.outstanding c ≡ o → device_of_id l.latest h.destination ≡ Some c
    → replied_to c o h.source reply l ≡ Some m → IsReplyTo l m h reply
reply_request None c h reply l m e d n = cc
reply_request (Some r) c h reply l m e d n = reply_if ((r.target == h.source) && is_reply_to r.operation reply) c r h reply l m refl d e n

reply_device : (o : Option ℕ) (h : Head) (reply : Reply) (l m : Account) → device_of_id l.latest h.destination ≡ o → answered o h.source reply l ≡ Some m → IsReplyTo l m h reply
reply_device None h reply l m e n = cc
reply_device (Some c) h reply l m e n = reply_request (l.outstanding c) c h reply l m refl e n

pub reply_to : (h : Head) (reply : Reply) (l m : Account) → h.tl ≡ label_code Procedure → after_reply h reply l ≡ Some m → IsReplyTo l m h reply
reply_to h reply l m tl n =
    reply_device (device_of_id l.latest h.destination) h reply l m refl
    (ap (λ (b : Bool). if b then answered (device_of_id l.latest h.destination) h.source reply l else Some l) (sym (eq-eqb h.tl (label_code Procedure) tl)) ∙ n)

-- ---- swaps

-- a request is this quadlet compare_swap
pub record IsSwapOf (o : Operation) (swap : Swap) : Type 0 where
  pub data_of : List ℕ
  pub operation : o ≡ Locks COMPARE_SWAP data_of
  pub size : length data_of ≡ 8
  pub argument : quadlet_at data_of 0 ≡ swap.argument
  pub new : quadlet_at data_of 4 ≡ swap.new

swap_if : (b : Bool) (function : ℕ) (bytes : List ℕ) (swap : Swap) → ((function == 2) && (length bytes == 8)) ≡ b → lock_of function bytes ≡ SwapOf swap → IsSwapOf (Locks function bytes) swap
swap_if false function bytes swap e f = (let g : Lock ≡ SwapOf swap = simp e at f in cc)
swap_if true function bytes swap e f =
    let x = both_true (function == 2) (length bytes == 8) e in
    let w : Swap = record { argument = quadlet_at bytes 0; new = quadlet_at bytes 4 } in
    let g : SwapOf w ≡ SwapOf swap = simp e at f in
    let same : w ≡ swap = cc in
    record {
      data_of = bytes;
      operation = ap (λ (n : ℕ). Locks n bytes) (eqb-true function 2 x.0);
      size = eqb-true (length bytes) 8 x.1;
      argument = ap (λ (y : Swap). y.argument) same;
      new = ap (λ (y : Swap). y.new) same;
    }

pub is_swap_of : (o : Operation) (swap : Swap) → asking_of o ≡ SwapOf swap → IsSwapOf o swap
is_swap_of Reads swap e = cc
is_swap_of (Locks function bytes) swap e = swap_if ((function == 2) && (length bytes == 8)) function bytes swap refl e

-- a swap is a move of the account
pub record IsSwapMove (l m : Account) (c : ℕ) (register : Place) (swap : Swap) : Type 0 where
  pub plug : PlugAt
  pub move : Move
  pub is : IsMove c plug move register swap.argument swap.new l
  pub later : m ≡ ended c (after c plug move l)

pub moved_by : (o : Option (PlugAt × Move)) (c : ℕ) (register : Place) (swap : Swap) (l m : Account) → IsSound l → move_at l c register swap.argument swap.new ≡ o → moved c o l ≡ Some m
    → IsSwapMove l m c register swap
moved_by None c register swap l m s e n = cc
moved_by (Some x) c register swap l m s e n =
    record { plug = x.0; move = x.1; is = move_at_is l c register swap.argument swap.new x.0 x.1 s e; later = sym (same_Some (ended c (after c x.0 x.1 l)) m n) }

-- it shows the argument
shows : (bytes old : List ℕ) (swap : Swap) → length bytes ≡ 8 → length old ≡ 4 → quadlet_at bytes 0 ≡ swap.argument → quadlet_at old 0 ≡ swap.argument → is_swapped COMPARE_SWAP bytes 0 old ≡ true
shows bytes old swap a b c d = rw (eq-eqb (length bytes) 8 a, eq-eqb (length old) 4 b, eq-eqb (quadlet_at old 0) (quadlet_at bytes 0) (d ∙ sym c)) refl

pub swap_moves : (l m : Account) (c : ℕ) (r : Request) (swap : Swap) (old : List ℕ) (register : Place) → IsSound l → IsSwapOf r.operation swap → length old ≡ 4 → quadlet_at old 0 ≡ swap.argument
    → register_of l.latest r.target r.address ≡ Some register → replied c r r.operation (Locked COMPARE_SWAP 0 old) l ≡ Some m → IsSwapMove l m c register swap
swap_moves l m c r swap old register s i size word place n =
    let a : replied c r (Locks COMPARE_SWAP i.data_of) (Locked COMPARE_SWAP 0 old) l ≡ Some m = ap (λ (o : Operation). replied c r o (Locked COMPARE_SWAP 0 old) l) (sym i.operation) ∙ n in
    let F : Bool → Option Account = λ b. if b then swapped c (register_of l.latest r.target r.address) (quadlet_at i.data_of 0) (quadlet_at i.data_of 4) l else Some (ended c l) in
    let b : swapped c (register_of l.latest r.target r.address) (quadlet_at i.data_of 0) (quadlet_at i.data_of 4) l ≡ Some m =
    ap F (sym (shows i.data_of old swap i.size size i.argument word)) ∙ a in
    let d : swapped c (Some register) swap.argument swap.new l ≡ Some m =
    ap (λ (x : Option Place). swapped c x swap.argument swap.new l) (sym place)
    ∙ ap (λ (x : ℕ). swapped c (register_of l.latest r.target r.address) x swap.new l) (sym i.argument)
    ∙ ap (λ (x : ℕ). swapped c (register_of l.latest r.target r.address) (quadlet_at i.data_of 0) x l) (sym i.new) ∙ b in
    moved_by (move_at l c register swap.argument swap.new) c register swap l m s refl d
