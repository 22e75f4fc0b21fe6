-- Entries that tell nothing of bids for the bus manager.
use Rattle.fw_model_run.proofs.Common.{◌≡◌, ℕ, ◌==◌, ◌||◌, cond, List, [], ◌∷◌, Bool, true, false, Option, Some, None, refl, ap, sym, subst, ◌∙◌, arith, IsTrue, ⊤, nat_tests, same_Some, Head, Packet}
use Rattle.fw_model_run.proofs.Common.{Current, Nothing, Asking, Hearing, Overtaken, Next, Send, EndOf, Idle, Waiting, Deaf}
use Rattle.fw_model_run.proofs.Common.{Force, next, Reply, Request, Swap, Entry, Reset, Async, Iso, Event, Outcome}
use Rattle.fw_model_run.proofs.Common.{Shown, End, Timed, entries_of, packet_of, response_head, old_bytes, quadlet_at, procedure_head}
use Rattle.fw_model_run.proofs.Common.{bid_answer, at_most, IsGood, said, asks, half, half_of, answer_packet}
use Rattle.fw_model_run.proofs.Common.{State, directory_of, is_living}
use Rattle.fw_csr.specs.declared.request.Request.TheVariants.{Read, ReadBlock, Write, WriteBlock, Lock}
use Rattle.fw_log_entry.specs.declared.codes.event.TheConstants.{ELECTED, DEFEATED}
use Rattle.fw_order.specs.declared.order.Access.{Access}
use Rattle.fw_order.specs.declared.order.Access.TheVariants as Accesses
use Rattle.fw_model_controllers.specs.Requests.{IsResponse}
use Rattle.fw_model_run.specs.Elected.{Answers, with_answer, answers_after, answers_from, ShowsHeld, IsBid, IsElection}
use Rattle.fw_model_run.specs.HalfSteps.{HalfStep}
use Rattle.fw_model_run.proofs.Hears.{heard_of, half_hears}
use Rattle.fw_model_run.proofs.Transactions.{access_response}

abbrev pub IsPlain : Entry → Type 0
IsPlain (Async p) = bid_answer p ≡ None
IsPlain (Event e) = ((e.code == ELECTED) || (e.code == DEFEATED)) ≡ false
IsPlain (Reset r) = ⊥
IsPlain (Iso p) = ⊤
IsPlain (Outcome o) = ⊤
IsPlain (Shown s) = ⊤
IsPlain End = ⊤

abbrev pub ArePlain : Option Entry → Type 0
ArePlain None = ⊤
ArePlain (Some e) = IsPlain e

-- ---- what follows

pub plain_after : (a : Answers) (e : Entry) → IsPlain e → answers_after a e ≡ a
plain_after a (Reset r) f = absurd f
plain_after a (Async p) f = ap (with_answer a) f
plain_after a (Iso p) f = refl
plain_after a (Event e) f = refl
plain_after a (Outcome o) f = refl
plain_after a (Shown s) f = refl
plain_after a End f = refl

-- the code of an event, 0 of another entry
abbrev pub code_in : Entry → ℕ
code_in (Event e) = e.code
code_in (Reset r) = 0
code_in (Async p) = 0
code_in (Iso p) = 0
code_in (Outcome o) = 0
code_in (Shown s) = 0
code_in End = 0

plain_code : (e : Entry) → IsPlain e → ((code_in e == ELECTED) || (code_in e == DEFEATED)) ≡ false
plain_code (Reset r) f = absurd f
plain_code (Async p) f = refl
plain_code (Iso p) f = refl
plain_code (Event e) f = f
plain_code (Outcome o) f = refl
plain_code (Shown s) f = refl
plain_code End f = refl

-- an entry with another code is no event of an election
pub no_event : (e f : Entry) (n : ℕ) → code_in f ≡ n → e ≡ f → (code_in e == n) ≡ false → ⊥
no_event e f n code is off = let same : code_in e ≡ n = ap code_in is ∙ code in grind (arith, nat_tests, same, off)

first_off : (a b : Bool) → (a || b) ≡ false → a ≡ false
first_off a b e = grind (arith, e)

second_off : (a b : Bool) → (a || b) ≡ false → b ≡ false
second_off a b e = grind (arith, e)

plain_shows : (s : State) (e : Entry) → IsPlain e → ShowsHeld s e
plain_shows s (Async p) f = λ id word is. absurd (let clash : None ≡ Some (id, word) = sym f ∙ is in cc clash)
plain_shows s (Reset r) f = tt
plain_shows s (Iso p) f = tt
plain_shows s (Event e) f = tt
plain_shows s (Outcome o) f = tt
plain_shows s (Shown x) f = tt
plain_shows s End f = tt

pub plain_bid : (a : Answers) (s : State) (e : Entry) → IsPlain e → IsBid a s e
plain_bid a s e f = record {
  elected = λ d is. absurd (no_event e _ ELECTED refl is (first_off (code_in e == ELECTED) (code_in e == DEFEATED) (plain_code e f)));
  defeated = λ d is. absurd (no_event e _ DEFEATED refl is (second_off (code_in e == ELECTED) (code_in e == DEFEATED) (plain_code e f)));
  answers = plain_shows s e f;
}

-- ---- packets

-- no request answers a bid
pub request_plain : (h : Head) (q : Request) → bid_answer (packet_of h q) ≡ None
request_plain h (Read offset) = refl
request_plain h (ReadBlock offset len) = refl
request_plain h (Write offset value) = refl
request_plain h (WriteBlock offset bytes) = refl
request_plain h (Lock offset function bytes) = refl

-- nor does a response to a controller
response_plain : (n to : ℕ) (w : Option Swap) (r : Reply) (p : Packet) → IsResponse (procedure_head n to) w r p → bid_answer p ≡ None
response_plain n to None r p is = ap bid_answer is
response_plain n to (Some swap) r p is = ap bid_answer is.1

-- one to the script
pub script_plain : (n : ℕ) (h : Head) (a : Access) (r : Reply) → h.tl ≡ 1 → bid_answer (access_response n h a r) ≡ None
script_plain n h (Accesses.Read offset) r label = refl
script_plain n h (Accesses.Swap offset swap) r label = ap (λ k. cond (k == 2) (Some ((response_head n h).destination, quadlet_at (old_bytes r) 0)) None) label

-- or one to a frame
pub frame_plain : (s : State) (n : ℕ) (h : Head) (b : Bool) (offset value : ℕ) (bytes : List ℕ) (p : Packet) → answer_packet s n h (cond b (Write offset value) (WriteBlock offset bytes)) ≡ Some p
    → bid_answer p ≡ None
frame_plain s n h true offset value bytes p is = subst (λ z. bid_answer z ≡ None) (same_Some _ p is) refl
frame_plain s n h false offset value bytes p is = subst (λ z. bid_answer z ≡ None) (same_Some _ p is) refl

-- ---- half steps of controllers

said_plain : (s : State) (d : ℕ) (x : Next) → ArePlain (said s d x)
said_plain s d (Send to q) = request_plain _ q
said_plain s d (EndOf i o) = tt
said_plain s d Idle = tt
said_plain s d (Waiting until) = tt
said_plain s d (Deaf until) = tt
said_plain s d Force = tt

pub half_plain : (s : State) (d : ℕ) → IsGood s → IsTrue (is_living s d) → ArePlain (half s d).says
half_plain s d g lives = go (s.controllers d).current refl
  where
    asks_plain : ArePlain (asks s d).says
    asks_plain = said_plain s d (next s.clock.cycle (directory_of s) (s.controllers d))

    go : (c : Current) → (s.controllers d).current ≡ c → ArePlain (half s d).says
    go Nothing e = subst (λ x. ArePlain (half_of s d x).says) (sym e) asks_plain
    go (Asking j stage) e = subst (λ x. ArePlain (half_of s d x).says) (sym e) asks_plain
    go (Overtaken i o) e = subst (λ x. ArePlain (half_of s d x).says) (sym e) asks_plain
    go (Hearing j stage) e =
        let x = heard_of s d j stage g lives e in
        let h = half_hears s d j stage g e x in
        subst (λ (y : HalfStep). ArePlain y.says) (sym h.half_is) (response_plain _ _ _ _ h.response.packet h.response.is)

-- ---- what is written

abbrev pub AllBid : Answers → State → List Timed → Type 0
AllBid a s [] = ⊤
AllBid a s (t ∷ out) = IsBid a s t.what × AllBid (answers_after a t.what) s out

-- what an action leads to
pub record BidsOn (a : Answers) (s : State) (out : List Timed) (t : State) : Type 0 where
  pub election : IsElection (answers_from a (entries_of out)) t
  pub entries : AllBid a s out

pub plainly : (a : Answers) (s t : State) (out : List Timed) (cycle : ℕ) (o : Option Entry) → out ≡ at_most cycle o → ArePlain o → IsElection a t → BidsOn a s out t
plainly a s t out cycle o is plain h = subst (λ z. BidsOn a s z t) (sym is) (go o plain)
  where
    go : (o : Option Entry) → ArePlain o → BidsOn a s (at_most cycle o) t
    go None p = record { election = h; entries = tt }
    go (Some e) p = record { election = subst (λ x. IsElection x t) (sym (plain_after a e p)) h; entries = (plain_bid a s e p, tt) }
