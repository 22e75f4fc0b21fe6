use Rattle.fw_log.proofs.Common.{◌≡◌, ◌-◌, ℕ, List, length, None, arith, ap, sym, subst, ◌∙◌, IsPending, State, Feeds, HoldsPending, Position, position}
use Rattle.fw_log.specs.Next.{IsNext}
use Rattle.fw_log.specs.declared.first_look.PlainEntry.{PlainEntry}
use Rattle.fw_log.specs.declared.plain.PlainBody.{PlainBody}
use Rattle.fw_log.proofs.FindLaws.{holds_by}
use Rattle.fw_log.proofs.HistoryLaws.{nothing_pending}
use Rattle.fw_log.proofs.NextLaws.{holds_at, next_ends, next_feeds}
use Rattle.fw_log.proofs.PassLaws.{EndsPassed, fed, counts_up, passes_body}
use Rattle.fw_log.proofs.read.LogReader.go_past.Goals as goal
use Rattle.fw_log.proofs.read.LogReader.go_past.Goals.{After-as_slice, After-clear}

abbrev plain : (c : After-as_slice) → PlainBody → PlainEntry
plain c b = record { passed = c.args.passed.now; body = b }

holds : (c : After-as_slice) → HoldsPending c.args.self.now.stand c.args.self.now.taken c.args.self.now.fault
holds c = holds_at c.args.self.now (position c.self.inside.stand) c.self.inside.taken.value c.self.inside.fault c.self.view_is c.self.invariant

size : (c : After-as_slice) → length c.as_slice.result.now ≡ length c.args.self.now.taken
size c = ap length (c.as_slice.ensures.value ∙ c.deref.ensures ∙ ap (λ (r : State). r.taken) c.self.view_is)

ends : (c : After-as_slice) → EndsPassed c.args.self.now.stand c.args.self.now.taken c.args.piece.now c.args.passed.now c.requires.next.1.next.entry
ends c = next_ends c.args.self.now c.args.piece.now (plain c c.requires.next.0) c.requires.next.1 (holds c)

clear : (c : After-clear) → c.self.inside.fault ≡ None
clear c = ap (λ (r : State). r.fault) c.self.view_is ∙ c.requires.next.1.clear

abbrev new : After-clear → State
new c = record { stand = position c.going_on-self-inside.result; taken = c.clear.new.self; fault = c.self.inside.fault }

abbrev used : After-clear → ℕ
used c = c.args.passed.now.end - length c.as_slice.result.now

feeds : (c : After-clear) (b : PlainBody) (x : IsNext c.args.self.now c.args.piece.now (record { passed = c.args.passed.now; body = b }))
    → Feeds c.args.self.now.stand c.args.self.now.taken c.args.piece.now (fed (used c) x.next.entry) (new c)
feeds c b x =
    let holds = holds_at c.args.self.now (position c.self.inside.stand) c.self.inside.taken.value c.self.inside.fault c.self.view_is c.self.invariant in
    let size : length c.as_slice.result.now ≡ length c.args.self.now.taken =
    ap length (c.as_slice.ensures.value ∙ c.deref.ensures ∙ ap (λ (r : State). r.taken) c.self.view_is) in
    next_feeds c.args.self.now c.args.piece.now (record { passed = c.args.passed.now; body = b }) x (length c.as_slice.result.now) c.start.result
    (position c.going_on-self-inside.result) c.clear.new.self c.self.inside.fault holds size
    (c.start.ensures ∙ ap (λ (r : State). r.stand.start) c.self.view_is) c.going_on-self-inside.ensures c.clear.ensures (clear c)

pub overflow_sub-used : goal.overflow_sub-used
overflow_sub-used c = omega (arith, size (goal.at.overflow_sub-used c).After-as_slice, (ends (goal.at.overflow_sub-used c).After-as_slice).past)

pub overflow_add-past : goal.overflow_add-past
overflow_add-past c =
    let e = ends (goal.at.overflow_add-past c).After-as_slice in
    omega (arith, c.requires.room, c.start.ensures ∙ ap (λ (r : State). r.stand.start) c.self.view_is, e.past, e.ends.within)

pub going_on-self-inside-requires : goal.going_on-self-inside-requires
going_on-self-inside-requires c = omega (arith, (ends (goal.at.going_on-self-inside-requires c).After-as_slice).some)

pub returns-clause-fresh : goal.returns-clause-fresh
returns-clause-fresh c = clear (goal.at.returns-clause-fresh c).After-clear

pub returns-clause-counts : goal.returns-clause-counts
returns-clause-counts c =
    let x = (goal.at.returns-clause-counts c).After-clear in
    counts_up c.args.self.now (new x) (position c.self.inside.stand) c.self.inside.taken.value c.args.piece.now c.self.inside.fault (used x) c.requires.next.1.next.entry
    c.self.view_is c.self.invariant (clear x) (feeds x c.requires.next.0 c.requires.next.1)

pub returns-clause-history : goal.returns-clause-history
returns-clause-history c = λ b n entries bytes h.
    let x = (goal.at.returns-clause-history c).After-clear in
    passes_body c.args.self.now (new x) c.args.piece.now c.args.self.now.stand n.bytes (record { passed = c.args.passed.now; body = b }) n.next (used x) (feeds x b n) entries bytes h

pub invariant_of-self : goal.invariant_of-self
invariant_of-self c =
    let s : Position = position c.going_on-self-inside.result in
    let P : List ℕ → Type 0 = IsPending s in
    holds_by s c.clear.new.self c.self.inside.fault (clear (goal.at.invariant_of-self c).After-clear) (subst P (sym c.clear.ensures) (nothing_pending s))
