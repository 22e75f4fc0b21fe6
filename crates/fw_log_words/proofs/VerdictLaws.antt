-- An entry has one first fault: the one that the tests find.
use Rattle.std.proofs.Common.{◌≡◌, ◌⊎◌, inl, inr, ℕ, ◌+◌, ◌<◌, ◌≤◌, Option, Some, None, refl, ap, sym, ◌∙◌, arith}
use Rattle.std.proofs.lemmas.Bool.{cases_eq, cases_lt}
use Rattle.fw_log_entry.specs.declared.entry.Entry.{Entry}
use Rattle.fw_model_account.specs.Account.{Account, Request}
use Rattle.fw_model_account.specs.Sound.{IsSound}
use Rattle.fw_model_account.specs.Words.{first_address}
use Rattle.fw_model_audit.specs.declared.fault.AuditFault.{AuditFault}
use Rattle.fw_model_audit.specs.declared.fault.AuditFault.TheVariants.{NoNode, Overlap, Orphan, NotAllowed, WrongWord, NoMove, NoEvent}
use Rattle.fw_model_audit.specs.Faults.{HasFault, HasNoNode, Overlaps, IsOrphan, IsBadAnswer, NoRegister, NoSwap, NoQuadlet, IsNotAllowed, IsWrongWord, IsNoMove, IsNoEvent, IsVerdict, rank}
use Rattle.fw_model_audit.specs.Judged.{verdict}
use Rattle.fw_model_audit.specs.Looked.{Response, Looked, Asks, Replies, Shows, Happens, Other, looked, IsAnswer, IsWatchedAnswer}
use Rattle.fw_model_audit.proofs.Refusals.{same_request}
use Rattle.fw_model_audit.proofs.Verdicts.{first_verdict}

same_answer : (l : Account) (r : Response) (q p : Request) → IsAnswer l r q → IsAnswer l r p → p ≡ q
same_answer l r q p a b = same_request l r a.controller q a.device a.outstanding p b

same_offset : (l : Account) (r : Response) (q p : Request) (o u : ℕ) → IsWatchedAnswer l r q o → IsWatchedAnswer l r p u → o ≡ u
same_offset l r q p o u a b =
    let s = same_answer l r q p a.answer b.answer in
    let t : p.address ≡ q.address = ap (λ (x : Request). x.address) s in
    let x = a.address in
    let y = b.address in
    omega arith

watched_of : (l : Account) (r : Response) (o : ℕ) → IsBadAnswer l r o → (q : Request) × IsWatchedAnswer l r q o
watched_of l r o (NoRegister q w none) = (q, w)
watched_of l r o (NoSwap q w function bytes is not) = (q, w)
watched_of l r o (NoQuadlet q w none) = (q, w)

-- ---- one fault of a kind

one_node : (l : Account) (x : Looked) (a b : ℕ) → HasNoNode l x a → HasNoNode l x b → a ≡ b
one_node l (Asks r) a b h k = sym h.0 ∙ k.0
one_node l (Replies r) a b h k = sym h.0 ∙ k.0
one_node l (Shows s) a b h k = absurd h
one_node l (Happens e) a b h k = absurd h
one_node l Other a b h k = absurd h

one_overlap : (l : Account) (x : Looked) (a b : ℕ) → Overlaps l x a → Overlaps l x b → a ≡ b
one_overlap l (Asks r) a b h k = sym h.0 ∙ k.0
one_overlap l (Replies r) a b h k = absurd h
one_overlap l (Shows s) a b h k = absurd h
one_overlap l (Happens e) a b h k = absurd h
one_overlap l Other a b h k = absurd h

one_orphan : (l : Account) (x : Looked) (a b : ℕ) → IsOrphan l x a → IsOrphan l x b → a ≡ b
one_orphan l (Asks r) a b h k = absurd h
one_orphan l (Replies r) a b h k = sym h.0 ∙ k.0
one_orphan l (Shows s) a b h k = absurd h
one_orphan l (Happens e) a b h k = absurd h
one_orphan l Other a b h k = absurd h

one_place : (l : Account) (x : Looked) (a o b u : ℕ) → IsNotAllowed l x a o → IsNotAllowed l x b u → (a ≡ b) × (o ≡ u)
one_place l (Asks r) a o b u h k = absurd h
one_place l (Replies r) a o b u h k =
    let v = watched_of l r o h.1 in
    let w = watched_of l r u k.1 in
    (sym h.0 ∙ k.0, same_offset l r v.0 w.0 o u v.1 w.1)
one_place l (Shows s) a o b u h k = (h.3 ∙ sym k.3, sym h.0 ∙ k.0)
one_place l (Happens e) a o b u h k = absurd h
one_place l Other a o b u h k = absurd h

one_word : (l : Account) (x : Looked) (a d b e : ℕ) → IsWrongWord l x a d → IsWrongWord l x b e → (a ≡ b) × (d ≡ e)
one_word l (Asks r) a d b e h k = absurd h
one_word l (Replies r) a d b e h k =
    let s = same_answer l r h.request k.request h.watched.answer k.watched.answer in
    let p = h.place in
    let q = k.place in
    let m = h.due in
    let n = k.due in
    let u = h.shown in
    let v = k.shown in
    (cc, cc)
one_word l (Shows s) a d b e h k =
    let p = h.2.1 in
    let q = k.2.1 in
    let m = h.2.2 in
    let n = k.2.2 in
    (sym h.1 ∙ k.1, cc)
one_word l (Happens v) a d b e h k = absurd h
one_word l Other a d b e h k = absurd h

one_move : (l : Account) (x : Looked) (a d b e : ℕ) → IsNoMove l x a d → IsNoMove l x b e → (a ≡ b) × (d ≡ e)
one_move l (Asks r) a d b e h k = absurd h
one_move l (Replies r) a d b e h k =
    let s = same_answer l r h.request k.request h.watched.answer k.watched.answer in
    let p = h.swap in
    let q = k.swap in
    let m = h.argument in
    let n = k.argument in
    let u = h.value in
    let v = k.value in
    (cc, cc)
one_move l (Shows s) a d b e h k = absurd h
one_move l (Happens v) a d b e h k = absurd h
one_move l Other a d b e h k = absurd h

one_event : (l : Account) (x : Looked) (a b : ℕ) → IsNoEvent l x a → IsNoEvent l x b → a ≡ b
one_event l (Asks r) a b h k = absurd h
one_event l (Replies r) a b h k = absurd h
one_event l (Shows s) a b h k = absurd h
one_event l (Happens e) a b h k = sym h.0 ∙ k.0
one_event l Other a b h k = absurd h

one_fault : (l : Account) (x : Looked) (f g : AuditFault) → rank f ≡ rank g → HasFault l x f → HasFault l x g → f ≡ g
one_fault l x (NoNode a) (NoNode b) e h k = ap (λ n. NoNode n) (one_node l x a b h k)
one_fault l x (Overlap a) (Overlap b) e h k = ap (λ n. Overlap n) (one_overlap l x a b h k)
one_fault l x (Orphan a) (Orphan b) e h k = ap (λ n. Orphan n) (one_orphan l x a b h k)
one_fault l x (NotAllowed a o) (NotAllowed b u) e h k = let s = one_place l x a o b u h k in ap (λ n. NotAllowed n o) s.0 ∙ ap (λ n. NotAllowed b n) s.1
one_fault l x (WrongWord a o) (WrongWord b u) e h k = let s = one_word l x a o b u h k in ap (λ n. WrongWord n o) s.0 ∙ ap (λ n. WrongWord b n) s.1
one_fault l x (NoMove a o) (NoMove b u) e h k = let s = one_move l x a o b u h k in ap (λ n. NoMove n o) s.0 ∙ ap (λ n. NoMove b n) s.1
one_fault l x (NoEvent a) (NoEvent b) e h k = ap (λ n. NoEvent n) (one_event l x a b h k)
one_fault l x f g e h k = absurd (omega arith)

-- ---- one verdict

one_first : (l : Account) (x : Looked) (f g : AuditFault) → IsVerdict l x (Some f) → IsVerdict l x (Some g) → f ≡ g
one_first l x f g h k = elim (cases_eq (rank f) (rank g)) [
  | inl same ↦ one_fault l x f g same h.0 k.0
  | inr differ ↦ absurd (elim (cases_lt (rank f) (rank g)) [ inl low ↦ k.1 f low h.0 | inr high ↦ h.1 g (omega arith) k.0 ])
]

pub verdict_some : (l : Account) (e : Entry) (f : AuditFault) → IsSound l → IsVerdict l (looked e) (Some f) → verdict l e ≡ Some f
verdict_some l e f s h = go (verdict l e) (first_verdict l e s)
  where
    go : (o : Option AuditFault) → IsVerdict l (looked e) o → o ≡ Some f
    go None k = absurd (k f h.0)
    go (Some g) k = ap (λ (x : AuditFault). Some x) (one_first l (looked e) g f k h)

pub verdict_none : (l : Account) (e : Entry) → IsSound l → IsVerdict l (looked e) None → verdict l e ≡ None
verdict_none l e s h = go (verdict l e) (first_verdict l e s)
  where
    go : (o : Option AuditFault) → IsVerdict l (looked e) o → o ≡ None
    go None k = refl
    go (Some g) k = absurd (h g k.0)
