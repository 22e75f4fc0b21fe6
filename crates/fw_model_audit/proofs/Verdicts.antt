-- The tests find the first fault of an entry; it has none exactly if the account goes on and shows its words.
use Rattle.fw_log_entry.specs.declared.entry.Entry.{Entry}
use Rattle.std.proofs.Common.{◌≡◌, ◌<◌, ℕ, ◌==◌, ◌↔◌, Bool, true, false, Option, Some, None, List, length, refl, ap, sym, subst, ◌∙◌, true≢false, arith, cond, IsTrue, IsFalse}
use Rattle.std.proofs.lemmas.Bool.Decides.{nat_tests}
use Rattle.std.proofs.lemmas.Option.{same_Some}
use Rattle.fw_words.specs.Quadlet.{quadlet_at}
use Rattle.fw_model_account.specs.Account.{Account, Operation, Reads, Locks, Request}
use Rattle.fw_model_account.specs.Fold.{next_account}
use Rattle.fw_model_account.specs.Sound.{IsSound}
use Rattle.fw_model_account.specs.Packets.{is_quadlet_swap}
use Rattle.fw_model_account.specs.Words.{Register, register_of, word_of}
use Rattle.fw_model_account.proofs.Refused.{refused_exactly}
use Rattle.fw_model_audit.specs.Looked.{Looked, Asks, Replies, Shows, Happens, Other, looked, is_watched, register_shown, IsWatchedAnswer, IsQuadlet, ShowsWords}
use Rattle.fw_model_audit.specs.Faults.{HasFault, HasNoFault, IsVerdict, IsNoMove, IsBadAnswer, NoRegister, NoSwap, NoQuadlet, rank}
use Rattle.fw_model_audit.specs.Judged.{judged, unmoved, no_move, no_move_by, no_move_of, found_after, verdict}
use Rattle.fw_model_audit.specs.declared.fault.AuditFault.{AuditFault}
use Rattle.fw_model_audit.specs.declared.fault.AuditFault.TheVariants.{NoNode, Overlap, Orphan, NotAllowed, WrongWord, NoMove, NoEvent}
use Rattle.fw_model_audit.proofs.Refusals.{IsRefusal, NoNodeOf, OverlapOf, OrphanOf, NoMoveOf, NoEventOf, entry_refusal}
use Rattle.fw_model_audit.proofs.FaultsRefused.{refused_entry}
use Rattle.fw_model_audit.proofs.Requests.{IsJudged}
use Rattle.fw_model_audit.proofs.Judged.{all_judged}
use Rattle.fw_model_audit.proofs.WatchedRegisters.{clash, register_placed}

-- ---- a swap that is no move

unmoved_is : (l : Account) (x : Looked) (old new : ℕ) → IsNoMove l x old new → unmoved l x ≡ Some (NoMove old new)
unmoved_is l (Asks id) old new h = absurd h
unmoved_is l (Shows s) old new h = absurd h
unmoved_is l (Happens e) old new h = absurd h
unmoved_is l Other old new h = absurd h
unmoved_is l (Replies r) old new h =
    ap (no_move_by l) h.watched.answer.device ∙ (ap no_move_of h.watched.answer.outstanding ∙ (ap no_move h.swap ∙ (ap chosen swap ∙ values)))
  where
    swap : is_quadlet_swap 2 h.bytes ≡ true
    swap = let q : length h.bytes ≡ 8 = h.quadlets in rw q refl

    chosen : Bool → Option AuditFault
    chosen b = cond b (Some (NoMove (quadlet_at h.bytes 0) (quadlet_at h.bytes 4))) None

    values : Some (NoMove (quadlet_at h.bytes 0) (quadlet_at h.bytes 4)) ≡ Some (NoMove old new)
    values = ap (λ v. Some (NoMove v (quadlet_at h.bytes 4))) h.argument ∙ ap (λ v. Some (NoMove old v)) h.value

-- ---- the verdict

-- a fault after which the account ends
ends : (l : Account) (e : Entry) (m : Account) → IsSound l → next_account l e ≡ Some m → IsRefusal l (looked e) → ⊥
ends l e m s next r = clash m (sym ((refused_exactly l e s).1 (refused_entry e l r)) ∙ next)

pub first_verdict : (l : Account) (e : Entry) → IsSound l → IsVerdict l (looked e) (verdict l e)
first_verdict l e s = go (judged l (looked e)) (next_account l e) (all_judged l (looked e)) refl
  where
    x : Looked
    x = looked e

    clear : (m : Account) → IsJudged l x None → next_account l e ≡ Some m → HasNoFault l x
    clear m j n (NoNode id) h = j (NoNode id) refl h
    clear m j n (Overlap id) h = j (Overlap id) refl h
    clear m j n (Orphan id) h = j (Orphan id) refl h
    clear m j n (NotAllowed id o) h = j (NotAllowed id o) refl h
    clear m j n (WrongWord a b) h = j (WrongWord a b) refl h
    clear m j n (NoMove a b) h = ends l e m s n (NoMoveOf a b h)
    clear m j n (NoEvent k) h = j (NoEvent k) refl h

    below : IsJudged l x None → (g : AuditFault) → rank g < 6 → HasFault l x g → ⊥
    below j (NoNode id) lt h = j (NoNode id) refl h
    below j (Overlap id) lt h = j (Overlap id) refl h
    below j (Orphan id) lt h = j (Orphan id) refl h
    below j (NotAllowed id o) lt h = j (NotAllowed id o) refl h
    below j (WrongWord a b) lt h = j (WrongWord a b) refl h
    below j (NoMove a b) lt h = omega arith
    below j (NoEvent k) lt h = omega arith

    refused : IsJudged l x None → IsRefusal l x → IsVerdict l x (unmoved l x)
    refused j (NoNodeOf id h) = absurd (j (NoNode id) refl h)
    refused j (OverlapOf id h) = absurd (j (Overlap id) refl h)
    refused j (OrphanOf id h) = absurd (j (Orphan id) refl h)
    refused j (NoMoveOf a b h) = subst (IsVerdict l x) (sym (unmoved_is l x a b h)) (h, below j)
    refused j (NoEventOf k h) = absurd (j (NoEvent k) refl h)

    go : (o : Option AuditFault) (n : Option Account) → IsJudged l x o → next_account l e ≡ n → IsVerdict l x (found_after o n (unmoved l x))
    go (Some f) n j next = j
    go None (Some m) j next = clear m j next
    go None None j next = refused j (entry_refusal e l (register_placed l.latest) ((refused_exactly l e s).0 next))

-- ---- none

-- the fault that it is
refusal_fault : (l : Account) (x : Looked) → IsRefusal l x → HasNoFault l x → ⊥
refusal_fault l x (NoNodeOf id h) none = none (NoNode id) h
refusal_fault l x (OverlapOf id h) none = none (Overlap id) h
refusal_fault l x (OrphanOf id h) none = none (Orphan id) h
refusal_fault l x (NoMoveOf a b h) none = none (NoMove a b) h
refusal_fault l x (NoEventOf k h) none = none (NoEvent k) h

equal : (v : ℕ) → (v == v) ≡ true
equal v = grind (arith, nat_tests)

-- what has no fault shows the account's words
words_shown : (l : Account) (x : Looked) → HasNoFault l x → ShowsWords l x
words_shown l (Asks id) none = tt
words_shown l (Happens e) none = tt
words_shown l Other none = tt
words_shown l (Shows s) none = λ w. go w (register_shown l.latest s) refl
  where
    go : IsTrue (is_watched s.offset) → (o : Option Register) → register_shown l.latest s ≡ o → (register : Register) × (register_shown l.latest s ≡ Some register) × (s.word ≡ word_of l register)
    go w None at = absurd (none (NotAllowed _ s.offset) (refl, w, at, refl))
    go w (Some register) at = (register, at, same (s.word == word_of l register) refl)
      where
        same : (b : Bool) → (s.word == word_of l register) ≡ b → s.word ≡ word_of l register
        same true t = grind (arith, nat_tests)
        same false t = absurd (none (WrongWord s.word (word_of l register)) (w, refl, (register, at, refl), λ e. true≢false (sym (ap (λ v. s.word == v) (sym e) ∙ equal s.word) ∙ t)))
words_shown l (Replies r) none = λ q offset w. at_register q offset w (register_of l.latest q.target q.address) refl
  where
    bad : (offset : ℕ) → IsBadAnswer l r offset → ⊥
    bad offset b = none (NotAllowed r.requester offset) (refl, b)

    quadlet : (q : Request) (offset : ℕ) → IsWatchedAnswer l r q offset → (o : Operation) → q.operation ≡ o → IsQuadlet o
    quadlet q offset w Reads is = tt
    quadlet q offset w (Locks function bytes) is = test (is_quadlet_swap function bytes) refl
      where
        test : (b : Bool) → is_quadlet_swap function bytes ≡ b → is_quadlet_swap function bytes ≡ true
        test true t = t
        test false t = absurd (bad offset (NoSwap q w function bytes is t))

    at_register : (q : Request) (offset : ℕ) → IsWatchedAnswer l r q offset → (o : Option Register) → register_of l.latest q.target q.address ≡ o
        → (register : Register) × (register_of l.latest q.target q.address ≡ Some register) × (r.word ≡ Some (word_of l register)) × IsQuadlet q.operation
    at_register q offset w None at = absurd (bad offset (NoRegister q w at))
    at_register q offset w (Some register) at = (register, at, shown r.word refl, quadlet q offset w q.operation refl)
      where
        same : (found : ℕ) → r.word ≡ Some found → (b : Bool) → (found == word_of l register) ≡ b → found ≡ word_of l register
        same found is true t = grind (arith, nat_tests)
        same found is false t = absurd (none (WrongWord found (word_of l register)) (record {
          request = q;
          offset = offset;
          watched = w;
          register = register;
          place = at;
          shown = is;
          due = refl;
          differs = λ e. true≢false (sym (ap (λ v. found == v) (sym e) ∙ equal found) ∙ t);
        }))

        shown : (v : Option ℕ) → r.word ≡ v → r.word ≡ Some (word_of l register)
        shown None is = absurd (bad offset (NoQuadlet q w is))
        shown (Some found) is = is ∙ ap (λ k. Some k) (same found is (found == word_of l register) refl)

-- what shows them is allowed
words_allowed : (l : Account) (x : Looked) (id offset : ℕ) → ShowsWords l x → HasFault l x (NotAllowed id offset) → ⊥
words_allowed l (Asks k) id offset w h = h
words_allowed l (Happens e) id offset w h = h
words_allowed l Other id offset w h = h
words_allowed l (Shows s) id offset w h = let y = w (ap is_watched h.0 ∙ h.1) in clash y.0 (sym h.2 ∙ y.1)
words_allowed l (Replies r) id offset w h = bad h.1
  where
    swap : (o : Operation) (function : ℕ) (bytes : List ℕ) → IsQuadlet o → o ≡ Locks function bytes → IsFalse (is_quadlet_swap function bytes) → ⊥
    swap o function bytes is e not = let t : is_quadlet_swap function bytes ≡ true = subst IsQuadlet e is in true≢false (sym t ∙ not)

    bad : IsBadAnswer l r offset → ⊥
    bad (NoRegister q v none) = let y = w q offset v in clash y.0 (sym none ∙ y.1)
    bad (NoSwap q v function bytes is not) = swap q.operation function bytes (w q offset v).3 is not
    bad (NoQuadlet q v none) = let y = w q offset v in clash (word_of l y.0) (sym none ∙ y.2)

-- and is not wrong
words_right : (l : Account) (x : Looked) (found expected : ℕ) → ShowsWords l x → HasFault l x (WrongWord found expected) → ⊥
words_right l (Asks k) found expected w h = h
words_right l (Happens e) found expected w h = h
words_right l Other found expected w h = h
words_right l (Shows s) found expected w h =
    let y = w h.0 in
    let place : y.0 ≡ h.2.0 = same_Some y.0 h.2.0 (sym y.1 ∙ h.2.1) in
    h.3 (sym h.1 ∙ (y.2 ∙ (ap (word_of l) place ∙ h.2.2)))
words_right l (Replies r) found expected w h =
    let y = w h.request h.offset h.watched in
    let place : y.0 ≡ h.register = same_Some y.0 h.register (sym y.1 ∙ h.place) in
    let value : word_of l y.0 ≡ found = same_Some (word_of l y.0) found (sym y.2 ∙ h.shown) in
    h.differs (sym value ∙ (ap (word_of l) place ∙ h.due))

abbrev pub GoesOn : Account → Entry → Type 0
GoesOn l e = (m : Account) × (next_account l e ≡ Some m)

pub no_fault : (l : Account) (e : Entry) → IsSound l → HasNoFault l (looked e) ↔ (GoesOn l e × ShowsWords l (looked e))
no_fault l e s = (λ none. (goes none (next_account l e) refl, words_shown l (looked e) none), λ h. clear h.0 h.1)
  where
    goes : HasNoFault l (looked e) → (o : Option Account) → next_account l e ≡ o → GoesOn l e
    goes none (Some m) n = (m, n)
    goes none None n = absurd (refusal_fault l (looked e) (entry_refusal e l (register_placed l.latest) ((refused_exactly l e s).0 n)) none)

    clear : GoesOn l e → ShowsWords l (looked e) → HasNoFault l (looked e)
    clear g w (NoNode id) h = ends l e g.0 s g.1 (NoNodeOf id h)
    clear g w (Overlap id) h = ends l e g.0 s g.1 (OverlapOf id h)
    clear g w (Orphan id) h = ends l e g.0 s g.1 (OrphanOf id h)
    clear g w (NotAllowed id o) h = words_allowed l (looked e) id o w h
    clear g w (WrongWord a b) h = words_right l (looked e) a b w h
    clear g w (NoMove a b) h = ends l e g.0 s g.1 (NoMoveOf a b h)
    clear g w (NoEvent k) h = ends l e g.0 s g.1 (NoEventOf k h)
