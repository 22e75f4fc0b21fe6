-- The tables after the response to a lock request.
use Rattle.fw_ledger.proofs.Common.{PlugAt, ◌≡◌, ◌==◌, ◌&&◌, ℕ, Bool, true, false, Option, Some, None, List, length, cond, refl, sym, ◌∙◌, ap, subst, arith, option_map, nat_tests, false≢true}
use Rattle.fw_ledger.proofs.Common.{Account, Request, Locks, Move, move_at, StandsFor, AskedFor, moved_by, GoesOn, response_in, Asked, Tables, NotAsked}
use Rattle.std.proofs.lemmas.Option.{same_Some}
use Rattle.fw_async.specs.declared.packet.Head.{Head}
use Rattle.fw_words.specs.Quadlet.{quadlet_at}
use Rattle.fw_words.specs.Swaps.{quadlet_swap}
use Rattle.fw_words.specs.declared.swap.Swap.{Swap as TheSwap}
use Rattle.fw_model_account.specs.Words.{Register, register_of}
use Rattle.fw_model_account.specs.Packets.{Locked, ended, is_swapped, swapped, moved, replied_to, is_quadlet_swap}
use Rattle.fw_model_audit.specs.Looked.{quadlet_in}
use Rattle.fw_ledger.specs.Swapped.{account_after, shows_argument}
use Rattle.fw_ledger.specs.Swapped.{is_lock_of, swap_done, account_swapped}
use Rattle.fw_account_tables.specs.declared.tables.Asked.TheVariants.{Read, Swap, Lock}
use Rattle.fw_ledger.proofs.Replies.{IsEnded}

-- ---- what is asked

-- the data of a lock is that of a quadlet compare_swap
pub record IsQuadletSwap (function : ℕ) (bytes : List ℕ) (s : TheSwap) : Type 0 where
  pub kind : function ≡ 2
  pub size : length bytes ≡ 8
  pub argument : s.argument ≡ quadlet_at bytes 0
  pub new : s.new ≡ quadlet_at bytes 4

pub quadlet_swap_is : (function : ℕ) (bytes : List ℕ) (s : TheSwap) → quadlet_swap function bytes ≡ Some s → IsQuadletSwap function bytes s
quadlet_swap_is function bytes s h = go (function == 2) (length bytes == 8) refl refl h
  where
    go : (a b : Bool) → (function == 2) ≡ a → (length bytes == 8) ≡ b
        → cond (a && b) (Some (record { argument = quadlet_at bytes 0; new = quadlet_at bytes 4 })) None ≡ Some s → IsQuadletSwap function bytes s
    go true true e f same =
        let is : record { argument = quadlet_at bytes 0; new = quadlet_at bytes 4 } ≡ s = cc in
        record { kind = grind (arith, nat_tests); size = grind (arith, nat_tests); argument = ap (λ (x : TheSwap). x.argument) (sym is); new = ap (λ (x : TheSwap). x.new) (sym is) }
    go true false e f same = absurd (cc)
    go false b e f same = absurd (cc)

-- it is not
pub no_quadlet_swap : (function : ℕ) (bytes : List ℕ) → quadlet_swap function bytes ≡ None → is_quadlet_swap function bytes ≡ false
no_quadlet_swap function bytes h =
    go (function == 2) (length bytes == 8) (record { argument = quadlet_at bytes 0; new = quadlet_at bytes 4 }) h
  where
    go : (a b : Bool) (s : TheSwap) → cond (a && b) (Some s) None ≡ None → (a && b) ≡ false
    go true true s same = absurd (cc)
    go true false s same = refl
    go false b s same = refl

-- ---- responses

-- what a response to the request makes
pub lock_expected : (l : Account) (c source function rcode : ℕ) (old bytes : List ℕ) (o : Option Request) (target address : ℕ)
    → o ≡ Some (record { target = target; address = address; operation = Locks function bytes }) → target ≡ source
    → replied_to c o source (Locked function rcode old) l ≡
    (cond (is_swapped function bytes rcode old) (swapped c (register_of l.latest target address) (quadlet_at bytes 0) (quadlet_at bytes 4) l)
    (Some (ended c l)))
lock_expected l c source function rcode old bytes o target address e same =
    let a : (target == source) ≡ true = grind (arith, nat_tests) in
    let b : (function == function) ≡ true = grind (arith, nat_tests) in
    rw e (rw a (rw b refl))

-- whether it swapped
pub swapped_is : (rcode argument : ℕ) (old bytes : List ℕ) → length bytes ≡ 8 → argument ≡ quadlet_at bytes 0
    → is_swapped 2 bytes rcode old ≡ shows_argument argument rcode old
swapped_is rcode argument old bytes size e = rw (size, e) refl

-- the swap, and then the end of the request
swap_then_end : (l : Account) (c : ℕ) (o : Option Register) (arg word : ℕ) → swapped c o arg word l ≡ option_map (ended c) (account_after c o (λ r. move_at l c r arg word) l)
swap_then_end l c None arg word = refl
swap_then_end l c (Some r) arg word = go (move_at l c r arg word)
  where
    go : (o : Option (PlugAt × Move)) → moved c o l ≡ option_map (ended c) (moved_by c o l)
    go None = refl
    go (Some m) = refl

-- a lock of another kind or size is none
never_swapped : (function rcode : ℕ) (bytes old : List ℕ) → is_quadlet_swap function bytes ≡ false → is_swapped function bytes rcode old ≡ false
never_swapped function rcode bytes old e = go (function == 2) (length bytes == 8) e
  where
    go : (a b : Bool) → (a && b) ≡ false → (a && b && (rcode == 0) && (length old == 4) && (quadlet_at old 0 == quadlet_at bytes 0)) ≡ false
    go true true f = absurd (false≢true (sym f))
    go true false f = refl
    go false b f = refl

-- the request that the response ends
pub lock_ended : (l : Account) (c : ℕ) (h : Head) (rcode function : ℕ) (old : List ℕ) (a : Asked) → AskedFor a (l.outstanding c) → is_lock_of a h.source function ≡ true
    → IsEnded l c (response_in h rcode (Locked function rcode old) (quadlet_in old)) a
lock_ended l c h rcode function old NotAsked is holds = absurd (false≢true holds)
lock_ended l c h rcode function old (Read target address) is holds = absurd (false≢true holds)
lock_ended l c h rcode function old (Swap target address s) is holds = record {
  request = record { target = target; address = address; operation = Locks 2 is.0 };
  outstanding = is.1;
  asked = (is.0, refl, is.2, is.3, is.4);
  target = grind (arith, nat_tests);
  kind = grind (arith, nat_tests);
}
lock_ended l c h rcode function old (Lock target address asked) is holds = record {
  request = record { target = target; address = address; operation = Locks asked is.0 };
  outstanding = is.1;
  asked = (is.0, refl, is.2);
  target = grind (arith, nat_tests);
  kind = grind (arith, nat_tests);
}

-- what it makes
pub lock_next : (l : Account) (c : ℕ) (h : Head) (rcode function : ℕ) (old : List ℕ) (a : Asked) (q : Request) → l.outstanding c ≡ Some q → AskedFor a (l.outstanding c)
    → is_lock_of a h.source function ≡ true
    → replied_to c (l.outstanding c) h.source (Locked function rcode old) l ≡ option_map (ended c) (account_swapped c (register_of l.latest q.target q.address) (swap_done a rcode old) l)
lock_next l c h rcode function old NotAsked q out is holds = absurd (false≢true holds)
lock_next l c h rcode function old (Read target address) q out is holds = absurd (false≢true holds)
lock_next l c h rcode function old (Swap target address s) q out is holds =
    let bytes : List ℕ = is.0 in
    let same : target ≡ h.source = grind (arith, nat_tests) in
    let two : function ≡ 2 = grind (arith, nat_tests) in
    let one : record { target = target; address = address; operation = Locks 2 bytes } ≡ q = same_Some _ q (sym is.1 ∙ out) in
    let place : register_of l.latest target address ≡ register_of l.latest q.target q.address = ap (λ (x : Request). register_of l.latest x.target x.address) one in
    ap (λ f. replied_to c (l.outstanding c) h.source (Locked f rcode old) l) two
    ∙ lock_expected l c h.source 2 rcode old bytes (l.outstanding c) target address is.1 same
    ∙ ap (λ b. cond b (swapped c (register_of l.latest target address) (quadlet_at bytes 0) (quadlet_at bytes 4) l) (Some (ended c l))) (swapped_is rcode s.argument old bytes is.2 is.3)
    ∙ ap (λ o. cond (shows_argument s.argument rcode old) (swapped c o (quadlet_at bytes 0) (quadlet_at bytes 4) l) (Some (ended c l))) place
    ∙ ap (λ v. cond (shows_argument s.argument rcode old) (swapped c (register_of l.latest q.target q.address) v (quadlet_at bytes 4) l) (Some (ended c l))) (sym is.3)
    ∙ ap (λ v. cond (shows_argument s.argument rcode old) (swapped c (register_of l.latest q.target q.address) s.argument v l) (Some (ended c l))) (sym is.4)
    ∙ go (shows_argument s.argument rcode old)
  where
    go : (b : Bool) → cond b (swapped c (register_of l.latest q.target q.address) s.argument s.new l) (Some (ended c l))
        ≡ option_map (ended c) (account_swapped c (register_of l.latest q.target q.address) (cond b (Some s) None) l)
    go true = swap_then_end l c (register_of l.latest q.target q.address) s.argument s.new
    go false = refl
lock_next l c h rcode function old (Lock target address asked) q out is holds =
    let same : target ≡ h.source = grind (arith, nat_tests) in
    let kind : asked ≡ function = grind (arith, nat_tests) in
    ap (λ f. replied_to c (l.outstanding c) h.source (Locked f rcode old) l) (sym kind)
    ∙ lock_expected l c h.source asked rcode old is.0 (l.outstanding c) target address is.1 same
    ∙ ap (λ b. cond b (swapped c (register_of l.latest target address) (quadlet_at is.0 0) (quadlet_at is.0 4) l) (Some (ended c l))) (never_swapped asked rcode is.0 old is.2)

-- ---- the whole response

-- the account that the swap leaves, with its request ended
goes : (new : Tables) (c : ℕ) (o : Option Account) (mid : Tables) → GoesOn mid o → ((m : Account) → StandsFor mid m → StandsFor new (ended c m)) → GoesOn new (option_map (ended c) o)
goes new c None mid h end = h
goes new c (Some m) mid h end = end m h

pub lock_goes : (mid new : Tables) (l : Account) (c : ℕ) (h : Head) (rcode function : ℕ) (old : List ℕ) (a : Asked) (o : Option Register) (done : Option TheSwap)
    → (x : IsEnded l c (response_in h rcode (Locked function rcode old) (quadlet_in old)) a) → AskedFor a (l.outstanding c) → is_lock_of a h.source function ≡ true
    → o ≡ register_of l.latest x.request.target x.request.address → done ≡ swap_done a rcode old → GoesOn mid (account_swapped c o done l)
    → ((m : Account) → StandsFor mid m → StandsFor new (ended c m)) → GoesOn new (replied_to c (l.outstanding c) h.source (Locked function rcode old) l)
lock_goes mid new l c h rcode function old a o done x is holds place made on end =
    let n = lock_next l c h rcode function old a x.request x.outstanding is holds in
    let at = subst (λ v. GoesOn mid (account_swapped c v (swap_done a rcode old) l)) place (subst (λ v. GoesOn mid (account_swapped c o v l)) made on) in
    subst (GoesOn new) (sym n) (goes new c (account_swapped c (register_of l.latest x.request.target x.request.address) (swap_done a rcode old) l) mid at end)
