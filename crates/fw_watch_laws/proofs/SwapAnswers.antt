-- Which answers there are: to reads, and to locks; those that have made a swap are to locks.
use Rattle.fw_watch_laws.proofs.Common.{◌≡◌, refl, sym, ◌∙◌, subst, inl, inr, ◌⊎◌, ℕ, ◌==◌, Bool, true, false, List, if◌then◌else◌, Some, None, eqb-true, Swap, Head, Packet, WriteQuadlet, WriteBlock}
use Rattle.fw_watch_laws.proofs.Common.{WriteReply, ReadQuadlet, ReadBlock, ReadQuadletReply, ReadBlockReply, CycleStart, LockRequest, LockReply, Asked, Answer, answered, lock_answer, answer_of}
use Rattle.fw_watch_requests.specs.Standing.{read_answer}
use Rattle.fw_watch_laws.proofs.Answered.{IsMade, made_is, read_makes_none, IsReadAnswer, IsLockAnswer, read_by, lock_by_request}

read_if : (b : Bool) (h : Head) (rcode value : ℕ) (xs : List Asked) (a : Answer) → (rcode == 0) ≡ b → (if b then read_answer (answered true h xs) value else None) ≡ Some a
    → IsReadAnswer xs (ReadQuadletReply h rcode value) a
read_if false h rcode value xs a e f = cc
read_if true h rcode value xs a e f =
    let P : ℕ → Type 0 = λ r. IsReadAnswer xs (ReadQuadletReply h r value) a in
    subst P (sym (eqb-true rcode 0 e)) (read_by (answered true h xs) h value xs a refl f)

lock_if : (b : Bool) (h : Head) (rcode function : ℕ) (bytes : List ℕ) (xs : List Asked) (a : Answer) → (rcode == 0) ≡ b
    → (if b then lock_answer (answered false h xs) function bytes else None) ≡ Some a → IsLockAnswer xs (LockReply h rcode function bytes) a
lock_if false h rcode function bytes xs a e f = cc
lock_if true h rcode function bytes xs a e f =
    let P : ℕ → Type 0 = λ r. IsLockAnswer xs (LockReply h r function bytes) a in
    subst P (sym (eqb-true rcode 0 e)) (lock_by_request (answered false h xs) h function bytes xs a refl f)

pub answer_is : (p : Packet) (xs : List Asked) (a : Answer) → answer_of xs p ≡ Some a → IsReadAnswer xs p a ⊎ IsLockAnswer xs p a
unfolding answer_of
answer_is (WriteQuadlet h offset value) xs a e = cc
answer_is (WriteBlock h offset bytes) xs a e = cc
answer_is (WriteReply h rcode) xs a e = cc
answer_is (ReadQuadlet h offset) xs a e = cc
answer_is (ReadBlock h offset len) xs a e = cc
answer_is (ReadQuadletReply h rcode value) xs a e = inl (read_if (rcode == 0) h rcode value xs a refl e)
answer_is (ReadBlockReply h rcode bytes) xs a e = cc
answer_is (CycleStart h offset time) xs a e = cc
answer_is (LockRequest h offset function bytes) xs a e = cc
answer_is (LockReply h rcode function bytes) xs a e = inr (lock_if (rcode == 0) h rcode function bytes xs a refl e)

-- one that has made a swap is to a lock
pub record IsSwapAnswer (xs : List Asked) (p : Packet) (a : Answer) (swap : Swap) : Type 0 where
  pub lock : IsLockAnswer xs p a
  pub made : IsMade lock.request.asking lock.function lock.bytes swap

pub swap_answer : (p : Packet) (xs : List Asked) (a : Answer) (swap : Swap) → answer_of xs p ≡ Some a → a.swap ≡ Some swap → IsSwapAnswer xs p a swap
swap_answer p xs a swap e f = elim (answer_is p xs a e) [
  | inl r ↦ absurd (read_makes_none r.request.asking (Some r.value) swap r.standing.is.kind (sym r.of.swap ∙ f))
  | inr k ↦ record { lock = k; made = made_is k.request.asking k.function k.bytes swap (sym k.of.swap ∙ f) }
]
