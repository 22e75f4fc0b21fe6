-- Which requests, responses and reads are refused.
use Rattle.fw_model_account.proofs.Common.{Head, ◌≡◌, ◌≢◌, ℕ, ◌==◌, ◌&&◌, Bool, true, false, Option, Some, None, refl, sym, ◌∙◌, true≢false, arith, cond, nat_tests, Account, Locks, device_of_id}
use Rattle.fw_model_account.proofs.Common.{ended}
use Rattle.std.proofs.Common.{is_none}
use Rattle.fw_model_account.specs.Account.{Operation, Reads, Request}
use Rattle.fw_model_account.specs.Packets.{asked, asked_by, is_reply_to, replied, replied_to, answered, after_request, after_reply, Reply, Read}
use Rattle.fw_model_account.specs.Refused.{IsRequestRefused, NoNode, Overlap, Ends, IsReplyRefused, NoReceiver, NoRequest, OtherNode, IsReadRefused, OtherKind}

pub some_is : {A : Type 0} (v : A) → Some v ≡ None → ⊥
some_is v e = cc

pub number_is : (n k : ℕ) → (n == k) ≡ true → n ≡ k
number_is n k e = grind (arith, nat_tests)

pub number_not : (n k : ℕ) → (n == k) ≡ false → n ≢ k
number_not n k e = λ same. absurd (true≢false (sym (rw same (grind (arith, nat_tests))) ∙ e))

pub number_same : (n k : ℕ) → n ≡ k → (n == k) ≡ true
number_same n k e = grind (arith, nat_tests)

pub number_differs : (n k : ℕ) → n ≢ k → (n == k) ≡ false
number_differs n k ne = grind (arith, nat_tests)

-- ---- requests

there : (o : Option Request) → is_none o ≡ false → o ≢ None
there None e = λ f. true≢false e
there (Some v) e = λ f. cc

pub request_refused : (h : Head) (address : ℕ) (operation : Operation) (l : Account) → after_request h address operation l ≡ None → IsRequestRefused h l
request_refused h address operation l e = go (h.tl == 0) refl e
  where
    request : Request
    request = record { target = h.destination; address = address; operation = operation }

    free : (c : ℕ) (b : Bool) → h.tl ≡ 0 → device_of_id l.latest h.source ≡ Some c → is_none (l.outstanding c) ≡ b → cond b (Some (asked c request l)) None ≡ None → IsRequestRefused h l
    free c true tl d n f = absurd (some_is (asked c request l) f)
    free c false tl d n f = Overlap c tl d (there (l.outstanding c) n)

    by : (o : Option ℕ) → h.tl ≡ 0 → device_of_id l.latest h.source ≡ o → asked_by o request l ≡ None → IsRequestRefused h l
    by None tl d f = NoNode tl d
    by (Some c) tl d f = free c (is_none (l.outstanding c)) tl d refl f

    go : (b : Bool) → (h.tl == 0) ≡ b → cond b (asked_by (device_of_id l.latest h.source) request l) (Some l) ≡ None → IsRequestRefused h l
    go true t f = by (device_of_id l.latest h.source) (number_is h.tl 0 t) refl f
    go false t f = absurd (some_is l f)

not_free : (o : Option Request) → o ≢ None → is_none o ≡ false
not_free None ne = absurd (ne refl)
not_free (Some v) ne = refl

pub refused_request : (h : Head) (address : ℕ) (operation : Operation) (l : Account) → IsRequestRefused h l → after_request h address operation l ≡ None
refused_request h address operation l (NoNode tl d) = rw tl (rw d refl)
refused_request h address operation l (Overlap c tl d ne) = rw tl (rw d (rw (not_free (l.outstanding c) ne) refl))

-- ---- responses

-- an accepted response, or why it is none
pub reply_refused : (h : Head) (reply : Reply) (l : Account) (R : Type 0) → after_reply h reply l ≡ None → (IsReplyRefused h l → R)
    → ((c : ℕ) (request : Request) → Ends h c request l → request.target ≡ h.source → is_reply_to request.operation reply ≡ false → R)
    → ((c : ℕ) (request : Request) → Ends h c request l → request.target ≡ h.source → is_reply_to request.operation reply ≡ true → replied c request request.operation reply l ≡ None → R) → R
reply_refused h reply l R e unexpected other none = go (h.tl == 0) refl e
  where
    kind : (c : ℕ) (request : Request) (b : Bool) → Ends h c request l → request.target ≡ h.source → is_reply_to request.operation reply ≡ b
        → cond b (replied c request request.operation reply l) None ≡ None → R
    kind c request true n t k f = none c request n t k f
    kind c request false n t k f = other c request n t k

    from : (c : ℕ) (request : Request) (b : Bool) → Ends h c request l → (request.target == h.source) ≡ b
        → cond (b && is_reply_to request.operation reply) (replied c request request.operation reply l) None ≡ None → R
    from c request true n t f = kind c request (is_reply_to request.operation reply) n (number_is request.target h.source t) refl f
    from c request false n t f = unexpected (OtherNode c request n (number_not request.target h.source t))

    to : (c : ℕ) (o : Option Request) → h.tl ≡ 0 → device_of_id l.latest h.destination ≡ Some c → l.outstanding c ≡ o → replied_to c o h.source reply l ≡ None → R
    to c None tl d n f = unexpected (NoRequest c tl d n)
    to c (Some request) tl d n f = from c request (request.target == h.source) (record { label = tl; device = d; outstanding = n }) refl f

    by : (o : Option ℕ) → h.tl ≡ 0 → device_of_id l.latest h.destination ≡ o → answered o h.source reply l ≡ None → R
    by None tl d f = unexpected (NoReceiver tl d)
    by (Some c) tl d f = to c (l.outstanding c) tl d refl f

    go : (b : Bool) → (h.tl == 0) ≡ b → cond b (answered (device_of_id l.latest h.destination) h.source reply l) (Some l) ≡ None → R
    go true t f = by (device_of_id l.latest h.destination) (number_is h.tl 0 t) refl f
    go false t f = absurd (some_is l f)

pub refused_reply : (h : Head) (reply : Reply) (l : Account) → IsReplyRefused h l → after_reply h reply l ≡ None
refused_reply h reply l (NoReceiver tl d) = rw tl (rw d refl)
refused_reply h reply l (NoRequest c tl d n) = rw tl (rw d (rw n refl))
refused_reply h reply l (OtherNode c request n ne) = rw n.label (rw n.device (rw n.outstanding (rw (number_differs request.target h.source ne) refl)))

pub other_kind : (h : Head) (reply : Reply) (c : ℕ) (request : Request) (l : Account) → Ends h c request l → is_reply_to request.operation reply ≡ false → after_reply h reply l ≡ None
other_kind h reply c request l n k = rw n.label (rw n.device (rw n.outstanding (go (request.target == h.source))))
  where
    go : (b : Bool) → cond (b && is_reply_to request.operation reply) (replied c request request.operation reply l) None ≡ None
    go true = rw k refl
    go false = refl

-- ---- reads

pub read_refused : (h : Head) (l : Account) → after_reply h Read l ≡ None → IsReadRefused h l
read_refused h l e = reply_refused h Read l (IsReadRefused h l) e (λ r. IsReadRefused.Unexpected r) (λ c request n t k. other c request n request.operation refl k)
    (λ c request n t k f. none c request request.operation f)
  where
    other : (c : ℕ) (request : Request) → Ends h c request l → (operation : Operation) → request.operation ≡ operation → is_reply_to operation Read ≡ false → IsReadRefused h l
    other c request n Reads o k = absurd (true≢false k)
    other c request n (Locks function bytes) o k = OtherKind c request function bytes n o

    none : (c : ℕ) (request : Request) (operation : Operation) → replied c request operation Read l ≡ None → IsReadRefused h l
    none c request Reads f = absurd (some_is (ended c l) f)
    none c request (Locks function bytes) f = absurd (some_is (ended c l) f)

pub refused_read : (h : Head) (l : Account) → IsReadRefused h l → after_reply h Read l ≡ None
refused_read h l (IsReadRefused.Unexpected r) = refused_reply h Read l r
refused_read h l (OtherKind c request function bytes n o) = other_kind h Read c request l n (rw o refl)
