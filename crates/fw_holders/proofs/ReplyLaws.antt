-- What is told of a response is what its request and its words say.
use Rattle.fw_holders.proofs.Common.{◌≡◌, ◌==◌, ℕ, Bool, true, false, Option, Some, None, List, length, cond, refl, sym, ap, ◌∙◌, false≢true, PlugAt, device_of_id, Account, Request, Replies, Response}
use Rattle.fw_holders.proofs.Common.{IsAnswered, Answer, packet_told, nodes_of}
use Rattle.std.proofs.Common.{◌-◌, ◌&&◌, nat_le, option_map}
use Rattle.fw_words.specs.Quadlet.{quadlet_at}
use Rattle.fw_log_entry.specs.Network.{first_id}
use Rattle.fw_model_account.specs.Account.{Operation, Reads, Locks}
use Rattle.fw_model_account.specs.Decode.{move_at}
use Rattle.fw_model_account.specs.Moves.{Move, AllocateChannel, AllocateUnits, ConnectFirst, ConnectOverlaid, ConnectInput, DisconnectInput, DisconnectOutput, ReleaseUnits, ReleaseChannel, after}
use Rattle.fw_model_account.specs.Packets.{Reply, Read, Locked, ended, is_reply_to, is_quadlet_swap, is_swapped, moved, swapped, replied, replied_to, answered}
use Rattle.fw_model_account.specs.Sound.{IsSound}
use Rattle.fw_model_account.specs.Words.{Register, BandwidthAvailable, ChannelsAvailable, OutputPlug, InputPlug, register_of, register_at, first_address}
use Rattle.fw_model_account.proofs.Bounds.{IsThere, register_there}
use Rattle.fw_model_audit.specs.Looked.{quadlet_in}
use Rattle.fw_holders_text.specs.declared.deed.Deed.{Deed}
use Rattle.fw_holders.specs.Counts.{shows}
use Rattle.fw_holders.specs.Deeds.{move_told, swap_told, answer_told, reply_told, response_told}
use Rattle.fw_holders.specs.Found.{word_deed, swap_deed, operation_deed, answer_deed, HasReply}
use Rattle.fw_holders_text.specs.Deeds.{done_text}
use Rattle.fw_holders.proofs.MoveLaws.{IsIn, word_deed_is}

-- what stays of an account, and what is told of a response
pub record Tells (l k : Account) (c : ℕ) (what : Option (List ℕ)) (deed : Option Deed) : Type 0 where
  pub text : what ≡ option_map (done_text (nodes_of l.latest) l.reclaiming c) deed
  pub latest : k.latest ≡ l.latest
  pub reclaiming : k.reclaiming ≡ l.reclaiming

same_some : {X : Type 0} (x y : X) → Some x ≡ Some y → x ≡ y
same_some x y e = cc

pub after_latest : (c : ℕ) (p : PlugAt) (m : Move) (l : Account) → (after c p m l).latest ≡ l.latest
after_latest c p (AllocateChannel ch) l = refl
after_latest c p (AllocateUnits ch u) l = refl
after_latest c p (ConnectFirst kind ch overhead) l = refl
after_latest c p (ConnectOverlaid kind) l = refl
after_latest c p (ConnectInput kind ch) l = refl
after_latest c p (DisconnectInput kind) l = refl
after_latest c p (DisconnectOutput kind) l = refl
after_latest c p (ReleaseUnits ch u) l = refl
after_latest c p (ReleaseChannel ch) l = refl

after_reclaiming : (c : ℕ) (p : PlugAt) (m : Move) (l : Account) → (after c p m l).reclaiming ≡ l.reclaiming
after_reclaiming c p (AllocateChannel ch) l = refl
after_reclaiming c p (AllocateUnits ch u) l = refl
after_reclaiming c p (ConnectFirst kind ch overhead) l = refl
after_reclaiming c p (ConnectOverlaid kind) l = refl
after_reclaiming c p (ConnectInput kind ch) l = refl
after_reclaiming c p (DisconnectInput kind) l = refl
after_reclaiming c p (DisconnectOutput kind) l = refl
after_reclaiming c p (ReleaseUnits ch u) l = refl
after_reclaiming c p (ReleaseChannel ch) l = refl

-- no move
quiet : (l k : Account) (c : ℕ) → Some (ended c l) ≡ Some k → Tells l k c None None
quiet l k c e = let same = same_some (ended c l) k e in record { text = refl; latest = ap (λ (a : Account). a.latest) (sym same); reclaiming = ap (λ (a : Account). a.reclaiming) (sym same) }

-- the register that was asked is there
is_in : (l : Account) (id address : ℕ) (v : Register) → register_of l.latest id address ≡ Some v → IsIn l v
is_in l id address v e = by (nat_le first_id id && nat_le first_address address) e
  where
    here : (v : Register) → IsThere l.latest v → IsIn l v
    here BandwidthAvailable h = tt
    here (ChannelsAvailable base) h = tt
    here (OutputPlug p) h = h
    here (InputPlug p) h = h

    by : (b : Bool) → cond b (register_at l.latest (id - first_id) (address - first_address)) None ≡ Some v → IsIn l v
    by true f = here v (register_there l.latest (id - first_id) (address - first_address) v f)
    by false f = let z : ⊥ = cc in absurd z

moves : (l k : Account) (c : ℕ) (v : Register) (a n : ℕ) → IsSound l → IsIn l v → moved c (move_at l c v a n) l ≡ Some k → Tells l k c (move_told l c (move_at l c v a n)) (word_deed v a n)
moves l k c v a n s there e = by (move_at l c v a n) refl e
  where
    by : (o : Option (PlugAt × Move)) → move_at l c v a n ≡ o → moved c o l ≡ Some k → Tells l k c (move_told l c o) (word_deed v a n)
    by None at f = let z : ⊥ = cc in absurd z
    by (Some m) at f =
        let same = same_some (ended c (after c m.0 m.1 l)) k f in
        record {
          text = sym (ap (option_map (done_text (nodes_of l.latest) l.reclaiming c)) (word_deed_is l c v a n m s there at));
          latest = ap (λ (x : Account). x.latest) (sym same) ∙ after_latest c m.0 m.1 l;
          reclaiming = ap (λ (x : Account). x.reclaiming) (sym same) ∙ after_reclaiming c m.0 m.1 l;
        }

swaps : (l k : Account) (c : ℕ) (o : Option Register) (a n : ℕ) → IsSound l → ((v : Register) → o ≡ Some v → IsIn l v) → swapped c o a n l ≡ Some k
    → Tells l k c (swap_told l c o a n) (swap_deed o a n)
swaps l k c None a n s there e = quiet l k c e
swaps l k c (Some v) a n s there e = moves l k c v a n s (there v refl) e

shows_in : (b : Bool) (x y : ℕ) → shows (cond b (Some x) None) y ≡ (b && (x == y))
shows_in true x y = refl
shows_in false x y = refl

and_more : (x d e : Bool) → (x && (d && e)) ≡ ((x && d) && e)
and_more true d e = refl
and_more false d e = refl

same_test : (f rc : ℕ) (bytes old : List ℕ) → (is_quadlet_swap f bytes && (rc == 0) && shows (quadlet_in old) (quadlet_at bytes 0)) ≡ is_swapped f bytes rc old
same_test f rc bytes old =
    ap (λ b. (is_quadlet_swap f bytes && (rc == 0)) && b) (shows_in (length old == 4) (quadlet_at old 0) (quadlet_at bytes 0))
    ∙ and_more (is_quadlet_swap f bytes && (rc == 0)) (length old == 4) (quadlet_at old 0 == quadlet_at bytes 0)

replies : (l k : Account) (c : ℕ) (q : Request) (op : Operation) (reply : Reply) (rcode : ℕ) (word : Option ℕ) → IsSound l → is_reply_to op reply ≡ true → HasReply reply rcode word
    → replied c q op reply l ≡ Some k → Tells l k c (answer_told l c q op reply) (operation_deed l.latest q op rcode word)
replies l k c q Reads Read rcode word s kind is e = quiet l k c e
replies l k c q Reads (Locked f rc old) rcode word s kind is e = absurd (false≢true kind)
replies l k c q (Locks f bytes) Read rcode word s kind is e = absurd (false≢true kind)
replies l k c q (Locks f bytes) (Locked g rc old) rcode word s kind is e =
    let v = register_of l.latest q.target q.address in
    let a = quadlet_at bytes 0 in
    let n = quadlet_at bytes 4 in
    rw (sym is.0, is.1, same_test f rc bytes old) (by (is_swapped f bytes rc old) e)
  where
    by : (b : Bool) → cond b (swapped c (register_of l.latest q.target q.address) (quadlet_at bytes 0) (quadlet_at bytes 4) l) (Some (ended c l)) ≡ Some k
        → Tells l k c (cond b (swap_told l c (register_of l.latest q.target q.address) (quadlet_at bytes 0) (quadlet_at bytes 4)) None) (cond b (swap_deed
        (register_of l.latest q.target q.address) (quadlet_at bytes 0) (quadlet_at bytes 4)) None)
    by true x = swaps l k c _ _ _ s (λ v at. is_in l q.target q.address v at) x
    by false x = quiet l k c x

-- what a response tells
pub response_tells : (l k : Account) (r : Response) (a : Answer) → IsSound l → HasReply r.reply r.rcode r.word → (h : IsAnswered l r a)
    → answered (device_of_id l.latest r.requester) r.responder r.reply l ≡ Some k
    → Tells l k h.answer.controller (packet_told l (Replies r)) (answer_deed l.latest h.request a.rcode a.shown)
response_tells l k r a s is h e =
    let c = h.answer.controller in
    let q = h.request in
    let f : answered (Some c) r.responder r.reply l ≡ Some k = ap (λ o. answered o r.responder r.reply l) (sym h.answer.device) ∙ e in
    let g : replied_to c (Some q) r.responder r.reply l ≡ Some k = ap (λ o. replied_to c o r.responder r.reply l) (sym h.answer.outstanding) ∙ f in
    let x : Tells l k c (answer_told l c q q.operation r.reply) (operation_deed l.latest q q.operation r.rcode r.word) =
    replies l k c q q.operation r.reply r.rcode r.word s h.answer.kind is (taken _ _ k g) in
    let told : packet_told l (Replies r) ≡ answer_told l c q q.operation r.reply = ap (λ o. response_told l o r.reply) h.answer.device ∙ ap (λ o. reply_told l c o r.reply) h.answer.outstanding in
    record {
      text = told ∙ x.text ∙ ap (λ (o : Option ℕ). option_map (done_text (nodes_of l.latest) l.reclaiming c) (operation_deed l.latest q q.operation r.rcode o)) (sym h.shown)
          ∙ ap (λ n. option_map (done_text (nodes_of l.latest) l.reclaiming c) (operation_deed l.latest q q.operation n a.shown)) (sym h.rcode);
      latest = x.latest;
      reclaiming = x.reclaiming;
    }
  where
    taken : (b : Bool) (o : Option Account) (k : Account) → cond b o None ≡ Some k → o ≡ Some k
    taken true o k e = e
    taken false o k e = let z : ⊥ = cc in absurd z
