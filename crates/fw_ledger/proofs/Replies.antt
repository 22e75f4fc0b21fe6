-- The tables after packets of procedures and others, and after the response to a read request.
use Rattle.fw_ledger.proofs.Common.{◌≡◌, ◌==◌, ◌&&◌, ℕ, Bool, true, false, Option, Some, None, length, slice_set, Vec, Global, cond, refl, sym, ◌∙◌, ap, subst, arith, length-set, false≢true}
use Rattle.fw_ledger.proofs.Common.{nat_tests, Account, Request, Locks, StandsFor, AskedFor, GoesOn, response_in, Tables, Asked, NotAsked}
use Rattle.std.proofs.lemmas.Option.{same_Some}
use Rattle.fw_async.specs.declared.packet.Head.{Head}
use Rattle.fw_terms.specs.declared.label.Label.TheVariants.{Procedure}
use Rattle.fw_terms.specs.Labels.{label_code}
use Rattle.fw_log_entry.specs.Network.{device_of_id}
use Rattle.fw_model_account.specs.Account.{Reads}
use Rattle.fw_model_account.specs.Packets.{Reply, Read as ReadReply, is_reply_to, replied_to, answered, after_reply, ended}
use Rattle.fw_model_audit.specs.Looked.{Response, Looked, Asks, Replies, Other, labelled, IsAnswer}
use Rattle.fw_ledger.specs.Swapped.{is_read_of}
use Rattle.fw_ledger.specs.Refused.{IsRefusedFor, IsAnswered, ShowsAnswer}
use Rattle.fw_ledger.specs.declared.answer.Answer.{Answer}
use Rattle.fw_ledger.specs.declared.refused.Refused.{Refused}
use Rattle.fw_ledger.specs.declared.refused.Refused.TheVariants.{NoNode, Orphan}
use Rattle.fw_account_tables.specs.declared.tables.Asked.TheVariants.{Read, Swap, Lock}
use Rattle.fw_account_tables.proofs.Related.{related_set}
use Rattle.fw_model_account.proofs.Packets.{ended_keeps}

-- ---- labels

-- a packet that is not of a procedure changes nothing
pub other_label : (t : Tables) (l : Account) (label : ℕ) (o : Option Account) → StandsFor t l → (label == label_code Procedure) ≡ false
    → GoesOn t (cond (label == label_code Procedure) o (Some l))
other_label t l label o h e = rw e h

-- and is no answer
pub other_shows : (l : Account) (h : Head) (r : Response) → (h.tl == label_code Procedure) ≡ false → ShowsAnswer l (labelled h (Replies r)) None
other_shows l h r e = rw e refl

-- a request is no answer
pub request_shows : (l : Account) (h : Head) (id : ℕ) → ShowsAnswer l (labelled h (Asks id)) None
request_shows l h id = go (h.tl == label_code Procedure)
  where
    go : (b : Bool) → ShowsAnswer l (cond b (Asks id) Other) None
    go true = refl
    go false = refl

-- a request of a procedure
pub request_labelled : (new : Tables) (l : Account) (h : Head) (o : Option Account) → (h.tl == label_code Procedure) ≡ true → GoesOn new o → GoesOn new (cond (h.tl == label_code Procedure) o (Some l))
request_labelled new l h o e goes = rw e goes

-- one that is refused
pub request_refused : (t new : Tables) (l : Account) (h : Head) (o : Option Account) (x : Looked) (f : Refused) → (h.tl == label_code Procedure) ≡ true → (o ≡ None) × (new ≡ t) × IsRefusedFor l x f
    → (cond (h.tl == label_code Procedure) o (Some l) ≡ None) × (new ≡ t) × IsRefusedFor l (labelled h x) f
request_refused t new l h o x f e stop = (rw e stop.0, stop.1, subst (λ b. IsRefusedFor l (cond b x Other) f) (sym e) stop.2)

-- a response of a procedure to the request of controller c
pub reply_labelled : (l : Account) (h : Head) (reply : Reply) (r : Response) (c : ℕ) (a : Answer) (new : Tables) → (h.tl == label_code Procedure) ≡ true → device_of_id l.latest h.destination ≡ Some c
    → IsAnswered l r a → GoesOn new (replied_to c (l.outstanding c) h.source reply l) → ShowsAnswer l (labelled h (Replies r)) (Some a) × GoesOn new (after_reply h reply l)
reply_labelled l h reply r c a new e d is goes = (rw e (a, refl, is), rw e (subst (GoesOn new) (sym (ap (λ o. answered o h.source reply l) d)) goes))

-- one that is refused
pub refusal_labelled : (t new : Tables) (l : Account) (h : Head) (reply : Reply) (r : Response) (c : ℕ) (f : Refused) → (h.tl == label_code Procedure) ≡ true
    → device_of_id l.latest h.destination ≡ Some c
    → (replied_to c (l.outstanding c) h.source reply l ≡ None) × (new ≡ t) × IsRefusedFor l (Replies r) f → (after_reply h reply l ≡ None) × (new ≡ t) × IsRefusedFor l (labelled h (Replies r)) f
refusal_labelled t new l h reply r c f e d stop = (rw e (ap (λ o. answered o h.source reply l) d ∙ stop.0), stop.1, subst (λ b. IsRefusedFor l (cond b (Replies r) Other) f) (sym e) stop.2)

-- one to no node
pub nobody_labelled : (l : Account) (h : Head) (rcode : ℕ) (reply : Reply) (word : Option ℕ) → (h.tl == label_code Procedure) ≡ true → device_of_id l.latest h.destination ≡ None
    → (after_reply h reply l ≡ None) × IsRefusedFor l (labelled h (Replies (response_in h rcode reply word))) (NoNode h.destination)
nobody_labelled l h rcode reply word e d = (rw e (ap (λ o. answered o h.source reply l) d), rw e (refl, d))

-- ---- the request that a response ends

-- the tables after the end of a request of controller c
pub ended_stands : (t : Tables) (l : Account) (c : ℕ) (requests : Vec Asked Global) → StandsFor t l → requests.items ≡ slice_set t.asked.items c NotAsked
    → StandsFor (record t { asked = requests }) (ended c l)
ended_stands t l c requests h e = record {
  sizes = record {
    charges = h.sizes.charges;
    reclaimable = h.sizes.reclaimable;
    addressed = h.sizes.addressed;
    outputs = h.sizes.outputs;
    inputs = h.sizes.inputs;
    output_seats = h.sizes.output_seats;
    input_seats = h.sizes.input_seats;
    continues = h.sizes.continues;
    asked = ap length e ∙ length-set t.asked.items c NotAsked ∙ h.sizes.asked;
  };
  latest = h.latest;
  plugs = h.plugs;
  withheld = h.withheld;
  resources = h.resources;
  second = record { runs = h.second.runs; reclaimable = h.second.reclaimable; continues = h.second.continues };
  outputs = h.outputs;
  inputs = h.inputs;
  controllers = record {
    addressed = h.controllers.addressed;
    asked = λ d lt. rw e (related_set AskedFor t.asked.items c NotAsked NotAsked 63 l.outstanding None h.sizes.asked refl h.controllers.asked d lt);
  };
  sound = ended_keeps c l h.sound;
}

-- no request is one that the response answers
pub orphan_by : (l : Account) (r : Response) (c : ℕ) → device_of_id l.latest r.requester ≡ Some c
    → ((q : Request) → l.outstanding c ≡ Some q → q.target ≡ r.responder → is_reply_to q.operation r.reply ≡ true → ⊥) → IsRefusedFor l (Replies r) (Orphan r.requester)
orphan_by l r c d none = ((refl, never), (c, d))
  where
    never : (q : Request) → IsAnswer l r q → ⊥
    never q a =
        let same : a.controller ≡ c = same_Some a.controller c (sym a.device ∙ d) in
        none q (ap l.outstanding (sym same) ∙ a.outstanding) a.responder a.kind

-- the request that is outstanding answers it
pub record IsEnded (l : Account) (c : ℕ) (r : Response) (a : Asked) : Type 0 where
  pub request : Request
  pub outstanding : l.outstanding c ≡ Some request
  pub asked : AskedFor a (Some request)
  pub target : request.target ≡ r.responder
  pub kind : is_reply_to request.operation r.reply ≡ true

abbrev pub ended_answer : (l : Account) (c : ℕ) (r : Response) (a : Asked) → device_of_id l.latest r.requester ≡ Some c → (x : IsEnded l c r a) → IsAnswer l r x.request
ended_answer l c r a d x = record { controller = c; device = d; outstanding = x.outstanding; responder = x.target; kind = x.kind }

-- ---- reads

-- a read response that is to no such request
read_other : (l : Account) (c source : ℕ) (a : Asked) → AskedFor a (l.outstanding c) → is_read_of a source ≡ false
    → (q : Request) → l.outstanding c ≡ Some q → q.target ≡ source → is_reply_to q.operation ReadReply ≡ true → ⊥
read_other l c source NotAsked is fails q out same kind = let clash : None ≡ Some q = sym is ∙ out in cc clash
read_other l c source (Read target address) is fails q out same kind =
    let one : record { target = target; address = address; operation = Reads } ≡ q = same_Some _ q (sym is ∙ out) in
    let at : target ≡ source = ap (λ (x : Request). x.target) one ∙ same in
    absurd (grind (arith, nat_tests))
read_other l c source (Swap target address swap) is fails q out same kind =
    let one : record { target = target; address = address; operation = Locks 2 is.0 } ≡ q = same_Some _ q (sym is.1 ∙ out) in
    false≢true (ap (λ (x : Request). is_reply_to x.operation ReadReply) one ∙ kind)
read_other l c source (Lock target address function) is fails q out same kind =
    let one : record { target = target; address = address; operation = Locks function is.0 } ≡ q = same_Some _ q (sym is.1 ∙ out) in
    false≢true (ap (λ (x : Request). is_reply_to x.operation ReadReply) one ∙ kind)

-- is refused
read_stops : (l : Account) (c source : ℕ) (a : Asked) → AskedFor a (l.outstanding c) → is_read_of a source ≡ false → replied_to c (l.outstanding c) source ReadReply l ≡ None
read_stops l c source NotAsked is fails = rw is refl
read_stops l c source (Read target address) is fails = rw (is, fails) refl
read_stops l c source (Swap target address swap) is fails = rw is.1 (both (target == source))
  where
    both : (b : Bool) → cond (b && false) (Some (ended c l)) None ≡ None
    both true = refl
    both false = refl
read_stops l c source (Lock target address function) is fails = rw is.1 (both (target == source))
  where
    both : (b : Bool) → cond (b && false) (Some (ended c l)) None ≡ None
    both true = refl
    both false = refl

pub read_refused : (l : Account) (c : ℕ) (h : Head) (rcode : ℕ) (word : Option ℕ) (a : Asked) → device_of_id l.latest h.destination ≡ Some c → AskedFor a (l.outstanding c)
    → is_read_of a h.source ≡ false
    → (replied_to c (l.outstanding c) h.source ReadReply l ≡ None) × IsRefusedFor l (Replies (response_in h rcode ReadReply word)) (Orphan h.destination)
read_refused l c h rcode word a d is fails = (read_stops l c h.source a is fails, orphan_by l (response_in h rcode ReadReply word) c d (read_other l c h.source a is fails))

-- a read response ends its request
pub read_ended : (l : Account) (c : ℕ) (h : Head) (rcode : ℕ) (word : Option ℕ) (a : Asked) → AskedFor a (l.outstanding c) → is_read_of a h.source ≡ true
    → IsEnded l c (response_in h rcode ReadReply word) a × (replied_to c (l.outstanding c) h.source ReadReply l ≡ Some (ended c l))
read_ended l c h rcode word NotAsked is holds = absurd (false≢true holds)
read_ended l c h rcode word (Read target address) is holds = (
  record { request = record { target = target; address = address; operation = Reads }; outstanding = is; asked = refl; target = grind (arith, nat_tests); kind = refl },
  rw (is, holds) refl,
)
read_ended l c h rcode word (Swap target address swap) is holds = absurd (false≢true holds)
read_ended l c h rcode word (Lock target address function) is holds = absurd (false≢true holds)
