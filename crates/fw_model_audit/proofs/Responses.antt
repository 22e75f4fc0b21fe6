-- The tests find the first fault of a response, but for a swap that is no move.
use Rattle.std.proofs.Common.{◌≡◌, ◌<◌, ℕ, ◌==◌, ◌&&◌, not, Bool, true, false, Option, Some, None, option_map, List, refl, ap, sym, subst, ◌∙◌, true≢false, arith, cond, IsTrue, IsFalse}
use Rattle.std.proofs.lemmas.Bool.Decides.{nat_tests}
use Rattle.std.proofs.lemmas.Option.{same_Some}
use Rattle.fw_log_entry.specs.Network.{device_of_id}
use Rattle.fw_model_account.specs.Account.{Account, Operation, Reads, Locks, Request}
use Rattle.fw_model_account.specs.Packets.{is_quadlet_swap, is_reply_to}
use Rattle.fw_model_account.specs.Words.{Register, register_of, word_of}
use Rattle.fw_model_audit.specs.Looked.{Response, Replies, IsAnswer, IsWatchedAnswer}
use Rattle.fw_model_audit.specs.Faults.{HasFault, HasNoNode, IsBadAnswer, NoRegister, NoSwap, NoQuadlet, IsNotAllowed, IsWrongAnswer, rank}
use Rattle.fw_model_audit.specs.Judged.{judged_response, judged_reply, judged_answer, judged_quadlet, judged_word, not_allowed, watched_offset}
use Rattle.fw_model_audit.specs.declared.fault.AuditFault.{AuditFault}
use Rattle.fw_model_audit.specs.declared.fault.AuditFault.TheVariants.{NoNode, Overlap, Orphan, NotAllowed, WrongWord, NoMove, NoEvent}
use Rattle.fw_model_audit.proofs.Refusals.{same_request}
use Rattle.fw_model_audit.proofs.Requests.{is_no_move, IsJudged, no_some, offset_of, offset_found}

-- ---- responses

response_noded : (l : Account) (r : Response) (c k : ℕ) → device_of_id l.latest r.requester ≡ Some c → HasNoNode l (Replies r) k → ⊥
response_noded l r c k d h = no_some c (sym h.1 ∙ (ap (device_of_id l.latest) (sym h.0) ∙ d))

-- below an orphan there is only a response of no node
below_orphan : (l : Account) (r : Response) (c : ℕ) → device_of_id l.latest r.requester ≡ Some c → (g : AuditFault) → rank g < 3 → HasFault l (Replies r) g → ⊥
below_orphan l r c d (NoNode k) lt h = response_noded l r c k d h
below_orphan l r c d (Overlap k) lt h = h
below_orphan l r c d (Orphan k) lt h = omega arith
below_orphan l r c d (NotAllowed k o) lt h = omega arith
below_orphan l r c d (WrongWord a b) lt h = omega arith
below_orphan l r c d (NoMove a b) lt h = omega arith
below_orphan l r c d (NoEvent k) lt h = omega arith

-- what a bad answer is an answer to
bad_answer : (l : Account) (r : Response) (offset : ℕ) → IsBadAnswer l r offset → (q : Request) × IsWatchedAnswer l r q offset
bad_answer l r offset (NoRegister q w none) = (q, w)
bad_answer l r offset (NoSwap q w function bytes is not) = (q, w)
bad_answer l r offset (NoQuadlet q w none) = (q, w)

-- a response to the outstanding request
answered : (l : Account) (r : Response) (c : ℕ) (q : Request) → device_of_id l.latest r.requester ≡ Some c → l.outstanding c ≡ Some q → q.target ≡ r.responder
    → IsTrue (is_reply_to q.operation r.reply)
    → IsJudged l (Replies r) (cond (r.rcode == 0) (judged_answer l r.requester q.target q.address q.operation r.word) None)
answered l r c q d out same kind = complete (r.rcode == 0) refl
  where
    answer : IsAnswer l r q
    answer = record { controller = c; device = d; outstanding = out; responder = same; kind = kind }

    only : (p : Request) → IsAnswer l r p → p ≡ q
    only p a = same_request l r c q d out p a

    -- no fault but one that a watched answer has
    clear : ((p : Request) (k : ℕ) → IsWatchedAnswer l r p k → ⊥) → (g : AuditFault) → IsFalse (is_no_move g) → HasFault l (Replies r) g → ⊥
    clear not (NoNode k) n h = response_noded l r c k d h
    clear not (Overlap k) n h = h
    clear not (Orphan k) n h = h.1 q answer
    clear not (NotAllowed k o) n h = let w = bad_answer l r o h.1 in not w.0 o w.1
    clear not (WrongWord a b) n h = not h.request h.offset h.watched
    clear not (NoMove a b) n h = absurd (true≢false n)
    clear not (NoEvent k) n h = h

    below_allowed : (g : AuditFault) → rank g < 4 → HasFault l (Replies r) g → ⊥
    below_allowed (NoNode k) lt h = response_noded l r c k d h
    below_allowed (Overlap k) lt h = h
    below_allowed (Orphan k) lt h = h.1 q answer
    below_allowed (NotAllowed k o) lt h = omega arith
    below_allowed (WrongWord a b) lt h = omega arith
    below_allowed (NoMove a b) lt h = omega arith
    below_allowed (NoEvent k) lt h = omega arith

    below_word : ((k o : ℕ) → IsNotAllowed l (Replies r) k o → ⊥) → (g : AuditFault) → rank g < 5 → HasFault l (Replies r) g → ⊥
    below_word not (NoNode k) lt h = response_noded l r c k d h
    below_word not (Overlap k) lt h = h
    below_word not (Orphan k) lt h = h.1 q answer
    below_word not (NotAllowed k o) lt h = not k o h
    below_word not (WrongWord a b) lt h = omega arith
    below_word not (NoMove a b) lt h = omega arith
    below_word not (NoEvent k) lt h = omega arith

    clear_word : ((k o : ℕ) → IsNotAllowed l (Replies r) k o → ⊥) → ((a b : ℕ) → IsWrongAnswer l r a b → ⊥) → (g : AuditFault) → IsFalse (is_no_move g) → HasFault l (Replies r) g → ⊥
    clear_word not right (NoNode k) n h = response_noded l r c k d h
    clear_word not right (Overlap k) n h = h
    clear_word not right (Orphan k) n h = h.1 q answer
    clear_word not right (NotAllowed k o) n h = not k o h
    clear_word not right (WrongWord a b) n h = right a b h
    clear_word not right (NoMove a b) n h = absurd (true≢false n)
    clear_word not right (NoEvent k) n h = h

    -- at a watched offset
    module_bad : (k : ℕ) → IsBadAnswer l r k → IsJudged l (Replies r) (Some (NotAllowed r.requester k))
    module_bad k bad = ((refl, bad), below_allowed)

    word : (k : ℕ) → IsWatchedAnswer l r q k → ((function : ℕ) (bytes : List ℕ) → q.operation ≡ Locks function bytes → IsFalse (is_quadlet_swap function bytes) → ⊥)
        → (found : ℕ) → r.word ≡ Some found → (o : Option Register) → register_of l.latest q.target q.address ≡ o
        → IsJudged l (Replies r) (judged_word r.requester k found (option_map (word_of l) o))
    word k w swaps found shown None at = module_bad k (NoRegister q w at)
    word k w swaps found shown (Some register) at = test (found == word_of l register) refl
      where
        allowed : (i o : ℕ) → IsNotAllowed l (Replies r) i o → ⊥
        allowed i o h = bad h.1
          where
            bad : IsBadAnswer l r o → ⊥
            bad (NoRegister p v none) =
                no_some register (sym none ∙ (ap (λ (x : Request). register_of l.latest x.target x.address) (only p v.answer) ∙ at))
            bad (NoSwap p v function bytes is not) = swaps function bytes (ap (λ (x : Request). x.operation) (sym (only p v.answer)) ∙ is) not
            bad (NoQuadlet p v none) = no_some found (sym none ∙ shown)

        right : found ≡ word_of l register → (a b : ℕ) → IsWrongAnswer l r a b → ⊥
        right same a b h =
            let f : found ≡ a = same_Some found a (sym shown ∙ h.shown) in
            let place : register ≡ h.register = same_Some register h.register
            (sym at ∙ (ap (λ (x : Request). register_of l.latest x.target x.address) (sym (only h.request h.watched.answer)) ∙ h.place)) in
            h.differs (sym f ∙ (same ∙ (ap (word_of l) place ∙ h.due)))

        test : (b : Bool) → (found == word_of l register) ≡ b → IsJudged l (Replies r) (cond b None (Some (WrongWord found (word_of l register))))
        test true t = clear_word allowed (right (grind (arith, nat_tests)))
        test false t = (
          record {
            request = q;
            offset = k;
            watched = w;
            register = register;
            place = at;
            shown = shown;
            due = refl;
            differs = λ same. true≢false (sym (ap (λ v. found == v) (sym same) ∙ equal found) ∙ t);
          },
          below_word allowed,
        )
          where
            equal : (v : ℕ) → (v == v) ≡ true
            equal v = grind (arith, nat_tests)

    quadlet : (k : ℕ) → IsWatchedAnswer l r q k → ((function : ℕ) (bytes : List ℕ) → q.operation ≡ Locks function bytes → IsFalse (is_quadlet_swap function bytes) → ⊥)
        → (v : Option ℕ) → r.word ≡ v → IsJudged l (Replies r) (judged_quadlet l r.requester q.target q.address v)
    quadlet k w swaps None shown = rw (offset_found q.address k w.address w.watched) (module_bad k (NoQuadlet q w shown))
    quadlet k w swaps (Some found) shown = rw (offset_found q.address k w.address w.watched) (word k w swaps found shown (register_of l.latest q.target q.address) refl)

    by_operation : (k : ℕ) → IsWatchedAnswer l r q k → (o : Operation) → q.operation ≡ o → IsJudged l (Replies r) (judged_answer l r.requester q.target q.address o r.word)
    by_operation k w Reads is = quadlet k w (λ function bytes other not. let clash : Reads ≡ Locks function bytes = sym is ∙ other in cc clash) r.word refl
    by_operation k w (Locks function bytes) is = swap (is_quadlet_swap function bytes) refl
      where
        swap : (b : Bool) → is_quadlet_swap function bytes ≡ b → IsJudged l (Replies r)
            (cond b (judged_quadlet l r.requester q.target q.address r.word) (not_allowed r.requester (watched_offset q.address)))
        swap true t = quadlet k w (λ f bs other not. true≢false (sym t ∙ (swap_same f bs (sym is ∙ other) ∙ not))) r.word refl
          where
            swap_same : (f : ℕ) (bs : List ℕ) → Locks function bytes ≡ Locks f bs → is_quadlet_swap function bytes ≡ is_quadlet_swap f bs
            swap_same f bs e = ap swap_in e
              where
                swap_in : Operation → Bool
                swap_in Reads = false
                swap_in (Locks g cs) = is_quadlet_swap g cs
        swap false t = rw (offset_found q.address k w.address w.watched) (module_bad k (NoSwap q w function bytes is t))

    -- at another offset
    unwatched : watched_offset q.address ≡ None → (p : Request) (k : ℕ) → IsWatchedAnswer l r p k → ⊥
    unwatched none p k w =
        no_some k (sym none ∙ (ap (λ (x : Request). watched_offset x.address) (sym (only p w.answer)) ∙ offset_found p.address k w.address w.watched))

    elsewhere : watched_offset q.address ≡ None → (o : Operation) → IsJudged l (Replies r) (judged_answer l r.requester q.target q.address o r.word)
    elsewhere none o = subst (IsJudged l (Replies r)) (sym (nothing o)) (clear (unwatched none))
      where
        quiet : (v : Option ℕ) → judged_quadlet l r.requester q.target q.address v ≡ None
        quiet None = rw none refl
        quiet (Some found) = rw none refl

        either : (b : Bool) → cond b (judged_quadlet l r.requester q.target q.address r.word) (not_allowed r.requester (watched_offset q.address)) ≡ None
        either true = quiet r.word
        either false = rw none refl

        nothing : (o : Operation) → judged_answer l r.requester q.target q.address o r.word ≡ None
        nothing Reads = quiet r.word
        nothing (Locks function bytes) = either (is_quadlet_swap function bytes)

    placed : r.rcode ≡ 0 → (o : Option ℕ) → watched_offset q.address ≡ o → IsJudged l (Replies r) (judged_answer l r.requester q.target q.address q.operation r.word)
    placed zero None at = elsewhere at q.operation
    placed zero (Some k) at =
        let x = offset_of q.address k at in
        by_operation k (record { answer = answer; complete = zero; address = x.0; watched = x.1 }) q.operation refl

    complete : (b : Bool) → (r.rcode == 0) ≡ b → IsJudged l (Replies r) (cond b (judged_answer l r.requester q.target q.address q.operation r.word) None)
    complete true t = placed (grind (arith, nat_tests)) (watched_offset q.address) refl
    complete false t = clear (λ p k w. true≢false (sym (ap (λ v. v == 0) w.complete) ∙ t))

pub response_judged : (l : Account) (r : Response) → IsJudged l (Replies r) (judged_response l r (device_of_id l.latest r.requester))
response_judged l r = by (device_of_id l.latest r.requester) refl
  where
    lowest : (g : AuditFault) → rank g < 1 → HasFault l (Replies r) g → ⊥
    lowest (NoNode k) lt h = omega arith
    lowest (Overlap k) lt h = h
    lowest (Orphan k) lt h = omega arith
    lowest (NotAllowed k o) lt h = omega arith
    lowest (WrongWord a b) lt h = omega arith
    lowest (NoMove a b) lt h = omega arith
    lowest (NoEvent k) lt h = h

    to : (c : ℕ) → device_of_id l.latest r.requester ≡ Some c → (o : Option Request) → l.outstanding c ≡ o → IsJudged l (Replies r) (judged_reply l r o)
    to c d None out = ((refl, never), below_orphan l r c d)
      where
        never : (q : Request) → IsAnswer l r q → ⊥
        never q a =
            let same : a.controller ≡ c = same_Some a.controller c (sym a.device ∙ d) in
            no_some q (sym out ∙ (ap l.outstanding (sym same) ∙ a.outstanding))
    to c d (Some q) out = match (q.target == r.responder) (is_reply_to q.operation r.reply) refl refl
      where
        only : (p : Request) → IsAnswer l r p → p ≡ q
        only p a = same_request l r c q d out p a

        match : (a b : Bool) → (q.target == r.responder) ≡ a → is_reply_to q.operation r.reply ≡ b
            → IsJudged l (Replies r) (cond (a && b) (cond (r.rcode == 0) (judged_answer l r.requester q.target q.address q.operation r.word) None) (Some (Orphan r.requester)))
        match true true s t = answered l r c q d out (grind (arith, nat_tests)) t
        match true false s t = ((refl, λ p a. true≢false (sym a.kind ∙ (ap (λ (x : Request). is_reply_to x.operation r.reply) (only p a) ∙ t))), below_orphan l r c d)
        match false b s t = ((refl, λ p a. true≢false (sym (equal p a) ∙ s)), below_orphan l r c d)
          where
            equal : (p : Request) → IsAnswer l r p → (q.target == r.responder) ≡ true
            equal p a = let same : q.target ≡ r.responder = ap (λ (x : Request). x.target) (sym (only p a)) ∙ a.responder in grind (arith, nat_tests)

    by : (o : Option ℕ) → device_of_id l.latest r.requester ≡ o → IsJudged l (Replies r) (judged_response l r o)
    by None d = ((refl, d), lowest)
    by (Some c) d = to c d (l.outstanding c) refl
