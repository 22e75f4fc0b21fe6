-- The verdict on a response that ends a request, by what the ledger says of it.
use Rattle.std.proofs.Common.{◌≡◌, ℕ, ◌==◌, ◌&&◌, Bool, true, false, Option, Some, None, refl, ap, sym, subst, ◌∙◌, arith, cond}
use Rattle.std.specs.Option.{option_map}
use Rattle.std.proofs.lemmas.Bool.Decides.{nat_tests}
use Rattle.std.proofs.lemmas.Option.{same_Some}
use Rattle.fw_model_account.specs.Account.{Account, Reads, Locks, Request}
use Rattle.fw_model_account.specs.Packets.{is_quadlet_swap, is_reply_to}
use Rattle.fw_model_account.specs.Words.{register_of, word_of}
use Rattle.fw_account_tables.specs.Stands.{AskedFor}
use Rattle.fw_ledger.specs.Refused.{IsAnswered}
use Rattle.fw_ledger.specs.declared.answer.Answer.{Answer}
use Rattle.fw_account_tables.specs.declared.tables.Asked.TheVariants.{Nothing as NotAsked, Read as ReadAsked, Swap as SwapAsked, Lock as LockAsked}
use Rattle.fw_words.specs.declared.swap.Swap.{Swap}
use Rattle.fw_model_audit.specs.Looked.{Response, Replies, IsAnswer}
use Rattle.fw_model_audit.specs.Judged.{judged, judged_response, judged_reply, judged_answer, judged_quadlet, not_allowed, watched_offset}
use Rattle.fw_model_audit.specs.declared.fault.AuditFault.{AuditFault}
use Rattle.fw_model_audit.specs.declared.fault.AuditFault.TheVariants.{Orphan}

pub clash : {A : Type 0} (v : A) → None ≡ Some v → ⊥
clash v e = cc

-- the verdict on a response that ends a request, by the request
pub answer_judged : (l : Account) (r : Response) (q : Request) → IsAnswer l r q
    → judged l (Replies r) ≡ cond (r.rcode == 0) (judged_answer l r.requester q.target q.address q.operation r.word) None
answer_judged l r q a =
    let t : (q.target == r.responder) ≡ true = (let e = a.responder in grind (arith, nat_tests)) in
    ap (judged_response l r) a.device ∙ ap (judged_reply l r) a.outstanding
    ∙ ap (λ b. cond (b && is_reply_to q.operation r.reply) (cond (r.rcode == 0) (judged_answer l r.requester q.target q.address q.operation r.word) None) (Some (Orphan r.requester))) t
    ∙ ap (λ b. cond b (cond (r.rcode == 0) (judged_answer l r.requester q.target q.address q.operation r.word) None) (Some (Orphan r.requester))) a.kind

pub zero : (n k : ℕ) → n ≡ k → k ≡ 0 → (n == 0) ≡ true
zero n k e z = grind (arith, nat_tests)

not_zero : (n k : ℕ) → k ≡ n → (k ≡ 0 → ⊥) → (n == 0) ≡ false
not_zero n k e z = go (n == 0) refl
  where
    go : (b : Bool) → (n == 0) ≡ b → b ≡ false
    go true t = absurd (z (grind (arith, nat_tests)))
    go false t = refl

-- an answer that is not complete shows nothing
pub incomplete_judged : (l : Account) (r : Response) (a : Answer) → IsAnswered l r a → (a.rcode ≡ 0 → ⊥) → None ≡ judged l (Replies r)
incomplete_judged l r a is other =
    sym (answer_judged l r is.request is.answer ∙ ap (λ b. cond b (judged_answer l r.requester is.request.target is.request.address is.request.operation r.word) None)
    (not_zero r.rcode a.rcode is.rcode other))

-- a complete one
complete_judged : (l : Account) (r : Response) (a : Answer) → (is : IsAnswered l r a) → a.rcode ≡ 0
    → judged l (Replies r) ≡ judged_answer l r.requester is.request.target is.request.address is.request.operation r.word
complete_judged l r a is done =
    answer_judged l r is.request is.answer ∙ ap (λ b. cond b (judged_answer l r.requester is.request.target is.request.address is.request.operation r.word) None)
    (zero r.rcode a.rcode (sym is.rcode) done)

-- of a read or of a swap
quadlet_same : (l : Account) (r : Response) (a : Answer) → (is : IsAnswered l r a) → (o : Option AuditFault) (address : ℕ)
    → is.request.address ≡ address → ((target : ℕ) → a.due ≡ option_map (word_of l) (register_of l.latest target address) → o ≡ judged_quadlet l a.requester target address a.shown)
    → o ≡ judged_quadlet l r.requester is.request.target is.request.address r.word
quadlet_same l r a is o address at says =
    says is.request.target (is.due ∙ ap (λ k. option_map (word_of l) (register_of l.latest is.request.target k)) at)
    ∙ ap (λ k. judged_quadlet l k is.request.target address a.shown) is.requester
    ∙ ap (λ w. judged_quadlet l r.requester is.request.target address w) is.shown
    ∙ ap (λ k. judged_quadlet l r.requester is.request.target k r.word) (sym at)

pub read_judged : (l : Account) (r : Response) (a : Answer) (o : Option AuditFault) (target address : ℕ) → IsAnswered l r a → a.rcode ≡ 0 → a.asked ≡ ReadAsked target address
    → ((t : ℕ) → a.due ≡ option_map (word_of l) (register_of l.latest t address) → o ≡ judged_quadlet l a.requester t address a.shown) → o ≡ judged l (Replies r)
read_judged l r a o target address is done asked says =
    let x : Some is.request ≡ Some (record { target = target; address = address; operation = Reads }) = subst (λ v. AskedFor v (Some is.request)) asked is.asked in
    let q : is.request ≡ record { target = target; address = address; operation = Reads } = same_Some _ _ x in
    quadlet_same l r a is o address (ap (λ (v : Request). v.address) q) says
    ∙ sym (complete_judged l r a is done ∙ ap (λ p. judged_answer l r.requester is.request.target is.request.address p r.word) (ap (λ (v : Request). v.operation) q))

pub swap_judged : (l : Account) (r : Response) (a : Answer) (o : Option AuditFault) (target address : ℕ) (s : Swap) → IsAnswered l r a → a.rcode ≡ 0 → a.asked ≡ SwapAsked target address s
    → ((t : ℕ) → a.due ≡ option_map (word_of l) (register_of l.latest t address) → o ≡ judged_quadlet l a.requester t address a.shown) → o ≡ judged l (Replies r)
swap_judged l r a o target address s is done asked says =
    let x = subst (λ v. AskedFor v (Some is.request)) asked is.asked in
    let q : is.request ≡ record { target = target; address = address; operation = Locks 2 x.0 } = same_Some _ _ x.1 in
    let two : is_quadlet_swap 2 x.0 ≡ true = rw x.2 refl in
    quadlet_same l r a is o address (ap (λ (v : Request). v.address) q) says
    ∙ sym (complete_judged l r a is done ∙ ap (λ p. judged_answer l r.requester is.request.target is.request.address p r.word) (ap (λ (v : Request). v.operation) q)
    ∙ ap (λ b. cond b (judged_quadlet l r.requester is.request.target is.request.address r.word) (not_allowed r.requester (watched_offset is.request.address))) two)

pub lock_judged : (l : Account) (r : Response) (a : Answer) (o : Option AuditFault) (target address function : ℕ) → IsAnswered l r a → a.rcode ≡ 0 → a.asked ≡ LockAsked target address function
    → o ≡ not_allowed a.requester (watched_offset address) → o ≡ judged l (Replies r)
lock_judged l r a o target address function is done asked says =
    let x = subst (λ v. AskedFor v (Some is.request)) asked is.asked in
    let q : is.request ≡ record { target = target; address = address; operation = Locks function x.0 } = same_Some _ _ x.1 in
    says ∙ ap (λ k. not_allowed k (watched_offset address)) is.requester ∙ ap (λ k. not_allowed r.requester (watched_offset k)) (sym (ap (λ (v : Request). v.address) q))
    ∙ sym (complete_judged l r a is done ∙ ap (λ p. judged_answer l r.requester is.request.target is.request.address p r.word) (ap (λ (v : Request). v.operation) q)
    ∙ ap (λ b. cond b (judged_quadlet l r.requester is.request.target is.request.address r.word) (not_allowed r.requester (watched_offset is.request.address))) x.2)

-- what is asked of nobody is not answered
pub nothing_judged : (l : Account) (r : Response) (a : Answer) → IsAnswered l r a → a.asked ≡ NotAsked → ⊥
nothing_judged l r a is asked =
    let x : Some is.request ≡ None = subst (λ v. AskedFor v (Some is.request)) asked is.asked in
    clash is.request (sym x)
