-- What an action writes: one entry at most, by which the account is led on, and whose word, if it shows one, is the account's.
use Rattle.fw_model_run.proofs.Common.{◌≡◌, ◌⊎◌, inl, ℕ, ◌≤◌, List, Option, Some, None, refl, sym, subst, arith}
use Rattle.fw_model_run.proofs.Common.{IsTrue, ⊤, Head, Packet, ReadQuadletReply, LockReply, Swap, Reply, Entry, Reset, Async, Iso}
use Rattle.fw_model_run.proofs.Common.{Event, Outcome, Shown, End, Timed, Account, Current, Nothing, Asking, Hearing, Overtaken}
use Rattle.fw_model_run.proofs.Common.{Next, Send, EndOf, Idle, Waiting, Deaf, Force, Access, IsHeard, offset_of}
use Rattle.fw_model_run.proofs.Common.{request_at, swap_bytes, next, after_next, packet_of, procedure_head, Transaction, at_most, State, Declared, is_linked, is_living, directory_of, transaction_head}
use Rattle.fw_model_run.proofs.Common.{access_request, said, asks, half, half_of, Resets, IsAnswered, IsGood}
use Rattle.fw_async.specs.declared.packet.Packet.TheVariants.{WriteQuadlet, WriteBlock, WriteReply, ReadQuadlet, ReadBlock, ReadBlockReply, CycleStart, Lock}
use Rattle.fw_csr.specs.declared.request.Request.{Request as Asked}
use Rattle.fw_cmp_jobs.specs.Requests.{request_of}
use Rattle.fw_model_controllers.specs.Requests.{Tells, IsResponse}
use Rattle.fw_model_controllers.proofs.Leads.{turn_tells}
use Rattle.fw_model_run.specs.HalfSteps.{HalfStep}
use Rattle.fw_model_run.specs.Headline.{IsReadBy, IsReadIn}
use Rattle.fw_model_run.proofs.Hears.{heard_of, half_hears}
use Rattle.fw_model_run.proofs.Leads.{NextIs, linked_of}
use Rattle.fw_model_run.proofs.Responses.{heard_shows}
use Rattle.fw_model_run.proofs.Turns.{living_linked}

-- the entry is the request of a transaction of the script, which waits for its answer
pub record IsAsked (s : State) (e : Entry) (t : State) : Type 0 where
  pub transaction : Transaction
  pub waits : t.transaction ≡ Some transaction
  pub request : e ≡ Async (packet_of (transaction_head s transaction) (access_request transaction.access))
  pub target : IsTrue (is_linked s transaction.to)
  pub same : t ≡ record s { transaction = Some transaction }

-- the word that an entry shows, if any, is the account's, and it asks for none
abbrev pub Says : Account → Option Entry → Type 0
Says l None = ⊤
Says l (Some e) = IsAnswered l e × ((u : Entry) → IsReadIn l e u)

-- the account stays as it is with it, and the word that it shows, if any, is the account's
abbrev pub LeavesAccount : Account → Option Entry → Type 0
LeavesAccount l o = NextIs l o l × Says l o

pub record Led (s : State) (out : List Timed) (t : State) : Type 0 where
  pub entry : Option Entry
  pub is : out ≡ at_most t.clock.cycle entry
  pub next : NextIs s.account entry t.account
  -- the word that it shows, if any, is the account's
  pub answers : (e : Entry) → entry ≡ Some e → IsAnswered s.account e
  -- it asks for no word of the account, or for one that the next entry shows
  pub asks : (e u : Entry) → entry ≡ Some e → IsReadIn s.account e u ⊎ IsAsked s e t
  -- its cycle is not after that of the next
  pub later : s.clock.cycle ≤ t.clock.cycle

-- ---- what writes nothing, or an entry that asks for nothing

no_entry : (e : Entry) → None ≡ Some e → ⊥
no_entry e x = cc x

says_answered : (l : Account) (o : Option Entry) (e : Entry) → Says l o → o ≡ Some e → IsAnswered l e
says_answered l None e h is = absurd (no_entry e is)
says_answered l (Some x) e h is = let same : x ≡ e = cc in subst (IsAnswered l) same h.0

says_unread : (l : Account) (o : Option Entry) (e u : Entry) → Says l o → o ≡ Some e → IsReadIn l e u
says_unread l None e u h is = absurd (no_entry e is)
says_unread l (Some x) e u h is = let same : x ≡ e = cc in subst (λ z. IsReadIn l z u) same (h.1 u)

pub led_says : (s : State) (o : Option Entry) (out : List Timed) (t : State) → out ≡ at_most t.clock.cycle o → NextIs s.account o t.account → Says s.account o → s.clock.cycle ≤ t.clock.cycle
    → Led s out t
led_says s o out t is next says later = record {
  entry = o;
  is = is;
  next = next;
  answers = λ e x. says_answered s.account o e says x;
  asks = λ e u x. inl (says_unread s.account o e u says x);
  later = later;
}

-- ---- packets

-- a request without the script's label, and each other packet, is no read of the script
unlabelled : (l : Account) (h : Head) (offset : ℕ) (q : Packet) → (h.tl ≡ 1 → ⊥) → IsReadBy l (ReadQuadlet h offset) q
unlabelled l h offset (ReadQuadletReply k rcode value) other = λ label complete register at. absurd (other label)
unlabelled l h offset (WriteQuadlet k o value) other = tt
unlabelled l h offset (WriteBlock k o bytes) other = tt
unlabelled l h offset (WriteReply k rcode) other = tt
unlabelled l h offset (ReadQuadlet k o) other = tt
unlabelled l h offset (ReadBlock k o len) other = tt
unlabelled l h offset (ReadBlockReply k rcode bytes) other = tt
unlabelled l h offset (CycleStart k o time) other = tt
unlabelled l h offset (Lock k o function bytes) other = tt
unlabelled l h offset (LockReply k rcode function bytes) other = tt

pub unlabelled_swap : (l : Account) (h : Head) (offset function : ℕ) (bytes : List ℕ) (q : Packet) → (h.tl ≡ 1 → ⊥) → IsReadBy l (Lock h offset function bytes) q
unlabelled_swap l h offset function bytes (LockReply k rcode swapped old) other = λ label complete register at. absurd (other label)
unlabelled_swap l h offset function bytes (WriteQuadlet k o value) other = tt
unlabelled_swap l h offset function bytes (WriteBlock k o more) other = tt
unlabelled_swap l h offset function bytes (WriteReply k rcode) other = tt
unlabelled_swap l h offset function bytes (ReadQuadlet k o) other = tt
unlabelled_swap l h offset function bytes (ReadBlock k o len) other = tt
unlabelled_swap l h offset function bytes (ReadQuadletReply k rcode value) other = tt
unlabelled_swap l h offset function bytes (ReadBlockReply k rcode more) other = tt
unlabelled_swap l h offset function bytes (CycleStart k o time) other = tt
unlabelled_swap l h offset function bytes (Lock k o f more) other = tt

-- a packet that asks for nothing
pub unread : (l : Account) (p : Packet) → ((q : Packet) → IsReadBy l p q) → (u : Entry) → IsReadIn l (Async p) u
unread l p not (Async q) = not q
unread l p not (Reset r) = tt
unread l p not (Iso q) = tt
unread l p not (Event e) = tt
unread l p not (Outcome o) = tt
unread l p not (Shown s) = tt
unread l p not End = tt

request_says : (l : Account) (to source offset : ℕ) (w : Option Swap) → Says l (Some (Async (packet_of (procedure_head to source) (request_at offset w))))
request_says l to source offset None = ((tt, tt), unread l (ReadQuadlet (procedure_head to source) offset) (λ q. unlabelled l (procedure_head to source) offset q (λ e. absurd (omega (arith, e)))))
request_says l to source offset (Some swap) = (
  (tt, tt),
  unread l (packet_of (procedure_head to source) (request_at offset (Some swap)))
      (λ q. unlabelled_swap l (procedure_head to source) offset 2 (swap_bytes swap) q (λ e. absurd (omega (arith, e)))),
)

response_unread : (l : Account) (h : Head) (w : Option Swap) (r : Reply) (p q : Packet) → IsResponse h w r p → IsReadBy l p q
response_unread l h None r p q is = subst (λ z. IsReadBy l z q) (sym is) tt
response_unread l h (Some swap) r p q is = subst (λ z. IsReadBy l z q) (sym is.1) tt

-- ---- half steps

asks_says : (s : State) (d : ℕ) → IsGood s → IsHeard (s.controllers d).current → Says s.account (asks s d).says
asks_says s d g heard = go (next s.clock.cycle (directory_of s) (s.controllers d)) refl
  where
    tells : Tells (directory_of s) (next s.clock.cycle (directory_of s) (s.controllers d)) (after_next s.clock.cycle (directory_of s) (s.controllers d)).current
    tells = turn_tells s.clock.cycle (directory_of s) (s.controllers d) (g.reclaims.step.fits d) (g.reclaims.step.goes_on d) heard

    sends : (to : ℕ) (q : Asked) (a : Access) → q ≡ request_of a → Says s.account (said s d (Send to q))
    sends to q a same = subst (λ z. Says s.account (said s d (Send to z))) (sym same) (request_says s.account to _ (offset_of a.target) a.swap)

    Ok : Next → Type 0
    Ok y = Says s.account (said s d y)

    go : (y : Next) → next s.clock.cycle (directory_of s) (s.controllers d) ≡ y → Ok (next s.clock.cycle (directory_of s) (s.controllers d))
    go (Send to q) f = let w = tells.sent to q f in subst Ok (sym f) (sends to q w.0 w.1)
    go (EndOf i o) f = subst Ok (sym f) ((tt, tt), λ u. tt)
    go Idle f = subst Ok (sym f) tt
    go (Waiting until) f = subst Ok (sym f) tt
    go (Deaf until) f = subst Ok (sym f) tt
    go Force f = subst Ok (sym f) tt

pub half_says : (s : State) (d : ℕ) → IsGood s → IsTrue (is_living s d) → Says s.account (half s d).says
half_says s d g lives = go (s.controllers d).current refl
  where
    Ok : Current → Type 0
    Ok c = Says s.account (half_of s d c).says

    rests : (c : Current) → (s.controllers d).current ≡ c → IsHeard c → half_of s d c ≡ asks s d → Ok (s.controllers d).current
    rests c e heard is = subst Ok (sym e) (subst (λ (h : HalfStep). Says s.account h.says) (sym is) (asks_says s d g (subst IsHeard (sym e) heard)))

    go : (c : Current) → (s.controllers d).current ≡ c → Ok (s.controllers d).current
    go Nothing e = rests Nothing e tt refl
    go (Asking j stage) e = rests (Asking j stage) e tt refl
    go (Overtaken i o) e = rests (Overtaken i o) e tt refl
    go (Hearing j stage) e =
        let x = heard_of s d j stage g lives e in
        let h = half_hears s d j stage g e x in
        subst (λ (y : HalfStep). Says s.account y.says) (sym h.half_is)
        (heard_shows s d j stage g (linked_of s d g (living_linked s d lives)) e x h, unread s.account h.response.packet (λ q. response_unread s.account _ _ _ h.response.packet q h.response.is))

-- ---- bus resets

pub reset_led : (s : State) (n : Declared) (counts given : ℕ) (initiator : ℕ) (out : List Timed) (t : State) → Resets (record s { declared = n; resets = counts; half_steps = given }) initiator out t
    → Led s out t
reset_led s n counts given initiator out t r = subst (λ (z : State). Led s out z) (sym r.state_is) (led_says s (Some (Reset r.entry)) out _ r.out_is refl ((tt, tt), λ u. tt) (omega arith))
