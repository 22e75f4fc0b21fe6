-- The first fault of an entry that the ledger refuses.
use Rattle.std.proofs.Common.{◌≡◌, ◌<◌, ℕ, ◌==◌, Bool, true, false, Some, None, length, refl, ap, sym, subst, ◌∙◌, arith, cond}
use Rattle.std.proofs.lemmas.Bool.Decides.{nat_tests}
use Rattle.fw_log_entry.specs.Network.{device_of_id}
use Rattle.fw_model_account.specs.Account.{Account, Request}
use Rattle.fw_model_account.specs.Packets.{is_quadlet_swap}
use Rattle.fw_ledger.specs.Refused.{IsDue, word_asked}
use Rattle.fw_model_audit.specs.Looked.{Response, Looked, Asks, Replies, Shows, Happens, Other}
use Rattle.fw_model_audit.specs.Faults.{HasFault, HasNoNode, Overlaps, IsOrphan, IsNoMove, IsBadSwap, IsNoEvent, IsVerdict, rank}
use Rattle.fw_model_audit.specs.Judged.{judged, judged_answer, judged_quadlet, judged_at, judged_word, not_allowed, watched_offset}
use Rattle.fw_model_audit.specs.declared.fault.AuditFault.{AuditFault}
use Rattle.fw_model_audit.specs.declared.fault.AuditFault.TheVariants.{NoNode, Overlap, Orphan, NotAllowed, WrongWord, NoMove, NoEvent}
use Rattle.fw_model_audit.proofs.Requests.{IsJudged, offset_found}
use Rattle.fw_model_audit.proofs.Judged.{all_judged}
use Rattle.fw_audit.proofs.AnswerLaws.{clash, answer_judged, zero}

pub no_node_first : (l : Account) (x : Looked) (id : ℕ) → HasNoNode l x id → IsVerdict l x (Some (NoNode id))
no_node_first l x id h = (h, low)
  where
    low : (g : AuditFault) → rank g < 1 → HasFault l x g → ⊥
    low (NoNode k) lt f = omega arith
    low (Overlap k) lt f = omega arith
    low (Orphan k) lt f = omega arith
    low (NotAllowed k o) lt f = omega arith
    low (WrongWord a b) lt f = omega arith
    low (NoMove a b) lt f = omega arith
    low (NoEvent k) lt f = omega arith

pub overlap_first : (l : Account) (x : Looked) (id : ℕ) → Overlaps l x id → IsVerdict l x (Some (Overlap id))
overlap_first l x id h = (h, low)
  where
    noded : (y : Looked) (k : ℕ) → Overlaps l y id → HasNoNode l y k → ⊥
    noded (Asks requester) k o n = clash o.1.0 (sym n.1 ∙ (ap (device_of_id l.latest) (sym n.0 ∙ o.0) ∙ o.1.2))
    noded (Replies r) k o n = o
    noded (Shows s) k o n = o
    noded (Happens e) k o n = o
    noded Other k o n = o

    low : (g : AuditFault) → rank g < 2 → HasFault l x g → ⊥
    low (NoNode k) lt f = noded x k h f
    low (Overlap k) lt f = omega arith
    low (Orphan k) lt f = omega arith
    low (NotAllowed k o) lt f = omega arith
    low (WrongWord a b) lt f = omega arith
    low (NoMove a b) lt f = omega arith
    low (NoEvent k) lt f = omega arith

pub orphan_first : (l : Account) (x : Looked) (id c : ℕ) → IsOrphan l x id → device_of_id l.latest id ≡ Some c → IsVerdict l x (Some (Orphan id))
orphan_first l x id c h d = (h, low)
  where
    noded : (y : Looked) (k : ℕ) → IsOrphan l y id → HasNoNode l y k → ⊥
    noded (Asks requester) k o n = o
    noded (Replies r) k o n = clash c (sym n.1 ∙ (ap (device_of_id l.latest) (sym n.0 ∙ o.0) ∙ d))
    noded (Shows s) k o n = o
    noded (Happens e) k o n = o
    noded Other k o n = o

    asked : (y : Looked) (k : ℕ) → IsOrphan l y id → Overlaps l y k → ⊥
    asked (Asks requester) k o n = o
    asked (Replies r) k o n = n
    asked (Shows s) k o n = o
    asked (Happens e) k o n = o
    asked Other k o n = o

    low : (g : AuditFault) → rank g < 3 → HasFault l x g → ⊥
    low (NoNode k) lt f = noded x k h f
    low (Overlap k) lt f = asked x k h f
    low (Orphan k) lt f = omega arith
    low (NotAllowed k o) lt f = omega arith
    low (WrongWord a b) lt f = omega arith
    low (NoMove a b) lt f = omega arith
    low (NoEvent k) lt f = omega arith

pub no_event_first : (l : Account) (x : Looked) (code : ℕ) → IsNoEvent l x code → IsVerdict l x (Some (NoEvent code))
no_event_first l (Asks id) code h = absurd h
no_event_first l (Replies r) code h = absurd h
no_event_first l (Shows s) code h = absurd h
no_event_first l Other code h = absurd h
no_event_first l (Happens e) code h = (h, low)
  where
    low : (g : AuditFault) → rank g < 7 → HasFault l (Happens e) g → ⊥
    low (NoNode k) lt f = f
    low (Overlap k) lt f = f
    low (Orphan k) lt f = f
    low (NotAllowed k o) lt f = f
    low (WrongWord a b) lt f = f
    low (NoMove a b) lt f = f
    low (NoEvent k) lt f = omega arith

-- the verdict on a swap that is no move, by the word that is due
bad_swap_judged : (l : Account) (r : Response) (old new due : ℕ) → IsBadSwap l r old new → IsDue l (Replies r) due → (k : ℕ) × (judged l (Replies r) ≡ judged_word r.requester k old (Some due))
bad_swap_judged l r old new due h is = (
  h.offset,
  answer_judged l r q h.watched.answer
      ∙ ap (λ b. cond b (judged_answer l r.requester q.target q.address q.operation r.word) None) (zero r.rcode r.rcode refl h.watched.complete)
      ∙ ap (λ p. judged_answer l r.requester q.target q.address p r.word) h.swap
      ∙ ap (λ b. cond b (judged_quadlet l r.requester q.target q.address r.word) (not_allowed r.requester (watched_offset q.address))) two
      ∙ ap (judged_quadlet l r.requester q.target q.address) h.shown
      ∙ ap (λ o. judged_at r.requester old o (word_asked l q)) (offset_found q.address h.offset h.watched.address h.watched.watched)
      ∙ ap (judged_word r.requester h.offset old) (is r q refl h.watched.answer),
)
  where
    q : Request
    q = h.request

    two : is_quadlet_swap 2 h.bytes ≡ true
    two = let size : length h.bytes ≡ 8 = h.quadlets in rw size refl

-- it shows the word that is due
pub no_move_first : (l : Account) (x : Looked) (old new due : ℕ) → IsNoMove l x old new → IsDue l x due → old ≡ due → IsVerdict l x (Some (NoMove old new))
no_move_first l (Asks id) old new due h is same = absurd h
no_move_first l (Shows s) old new due h is same = absurd h
no_move_first l (Happens e) old new due h is same = absurd h
no_move_first l Other old new due h is same = absurd h
no_move_first l (Replies r) old new due h is same = (h, low)
  where
    quiet : judged l (Replies r) ≡ None
    quiet =
        let x = bad_swap_judged l r old new due h is in
        let t : (old == due) ≡ true = grind (arith, nat_tests) in
        x.1 ∙ ap (λ b. cond b None (Some (WrongWord old due))) t

    none : IsJudged l (Replies r) None
    none = subst (IsJudged l (Replies r)) quiet (all_judged l (Replies r))

    low : (g : AuditFault) → rank g < 6 → HasFault l (Replies r) g → ⊥
    low (NoNode k) lt f = none (NoNode k) refl f
    low (Overlap k) lt f = none (Overlap k) refl f
    low (Orphan k) lt f = none (Orphan k) refl f
    low (NotAllowed k o) lt f = none (NotAllowed k o) refl f
    low (WrongWord a b) lt f = none (WrongWord a b) refl f
    low (NoMove a b) lt f = omega arith
    low (NoEvent k) lt f = omega arith

-- or another
pub wrong_word_first : (l : Account) (x : Looked) (old new due : ℕ) → IsNoMove l x old new → IsDue l x due → (old ≡ due → ⊥) → IsVerdict l x (Some (WrongWord old due))
wrong_word_first l (Asks id) old new due h is other = absurd h
wrong_word_first l (Shows s) old new due h is other = absurd h
wrong_word_first l (Happens e) old new due h is other = absurd h
wrong_word_first l Other old new due h is other = absurd h
wrong_word_first l (Replies r) old new due h is other = subst (IsJudged l (Replies r)) wrong (all_judged l (Replies r))
  where
    test : (b : Bool) → (old == due) ≡ b → b ≡ false
    test true t = absurd (other (grind (arith, nat_tests)))
    test false t = refl

    wrong : judged l (Replies r) ≡ Some (WrongWord old due)
    wrong = let x = bad_swap_judged l r old new due h is in x.1 ∙ ap (λ b. cond b None (Some (WrongWord old due))) (test (old == due) refl)
