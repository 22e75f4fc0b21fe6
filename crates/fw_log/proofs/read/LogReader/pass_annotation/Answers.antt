use Rattle.fw_log.proofs.Common.{◌≡◌, ◌-◌, ℕ, List, length, arith, refl, ap, sym, subst, ◌∙◌, Position, position, IsPending, State, Feeds}
use Rattle.fw_log.proofs.FeedLaws.{pending_of, if_none_by}
use Rattle.fw_log.proofs.FindLaws.{holds_by, pending_at}
use Rattle.fw_log.proofs.HistoryLaws.{nothing_pending}
use Rattle.fw_log.proofs.PassLaws.{EndsPassed, ends_passed, fed, after_passed, counts_up, passes_annotation, without_fault}
use Rattle.fw_log.proofs.read.LogReader.pass_annotation.Goals as goal
use Rattle.fw_log.proofs.read.LogReader.pass_annotation.Goals.{After-as_slice-2, After-clear}

-- the entry that ends, before the reader changes and after
before : (c : After-as_slice-2) → EndsPassed c.args.self.now.stand c.args.self.now.taken c.args.piece.now c.in_ok-passed.field-0.passed c.in_ok-passed.ensures.entry
before c =
    let clear = without_fault c.self.inside.fault c.is_some.result c.is_some.ensures c.if-is_some.false in
    ends_passed c.args.self.now (position c.self.inside.stand) c.self.inside.taken.value c.as_slice.result.now c.args.piece.now c.at_hand-bytes.result.now
    c.self.inside.fault c.in_ok-passed.field-0.passed c.in_ok-passed.ensures.entry c.self.view_is c.self.invariant clear (c.as_slice.ensures.value ∙ c.deref.ensures)
    c.at_hand-bytes.ensures c.in_ok-passed.ensures.first

after : (c : After-clear) → EndsPassed c.args.self.now.stand c.args.self.now.taken c.args.piece.now c.in_ok-passed.field-0.passed c.in_ok-passed.ensures.entry
after c =
    let clear = without_fault c.self.inside.fault c.is_some.result c.is_some.ensures c.if-is_some.false in
    ends_passed c.args.self.now (position c.self.inside.stand) c.self.inside.taken.value c.as_slice.result.now c.args.piece.now c.at_hand-bytes.result.now
    c.self.inside.fault c.in_ok-passed.field-0.passed c.in_ok-passed.ensures.entry c.self.view_is c.self.invariant clear (c.as_slice.ensures.value ∙ c.deref.ensures)
    c.at_hand-bytes.ensures c.in_ok-passed.ensures.first

abbrev new : After-clear → State
new c = record { stand = position c.going_on-self-inside.result; taken = c.clear.new.self; fault = c.self.inside.fault }

abbrev used : After-clear → ℕ
used c = c.in_ok-passed.field-0.passed.end - length c.as_slice-2.result.now

feeds : (c : After-clear) → Feeds c.args.self.now.stand c.args.self.now.taken c.args.piece.now (fed (used c) c.in_ok-passed.ensures.entry) (new c)
feeds c =
    let size : length c.as_slice-2.result.now ≡ length c.args.self.now.taken =
    ap length (c.as_slice-2.ensures.value ∙ c.deref-2.ensures ∙ ap (λ (r : State). r.taken) c.self.view_is) in
    after_passed c.args.self.now c.args.piece.now c.in_ok-passed.field-0.passed c.in_ok-passed.ensures.entry (after c) (length c.as_slice-2.result.now) c.start.result
    (position c.going_on-self-inside.result) c.clear.new.self c.self.inside.fault size (c.start.ensures ∙ ap (λ (r : State). r.stand.start) c.self.view_is)
    c.going_on-self-inside.ensures c.clear.ensures (without_fault c.self.inside.fault c.is_some.result c.is_some.ensures c.if-is_some.false)

pub at_hand-bytes-requires-clause-pending : goal.at_hand-bytes-requires-clause-pending
at_hand-bytes-requires-clause-pending c =
    let s : Position = position c.self.inside.stand in
    let clear = without_fault c.self.inside.fault c.is_some.result c.is_some.ensures c.if-is_some.false in
    pending_at s s c.self.inside.taken.value c.as_slice.result.now refl (c.as_slice.ensures.value ∙ c.deref.ensures) (pending_of s c.self.inside.taken.value c.self.inside.fault clear c.self.invariant)

pub overflow_sub-used : goal.overflow_sub-used
overflow_sub-used c =
    let size : length c.as_slice-2.result.now ≡ length c.args.self.now.taken =
    ap length (c.as_slice-2.ensures.value ∙ c.deref-2.ensures ∙ ap (λ (r : State). r.taken) c.self.view_is) in
    omega (arith, size, (before (goal.at.overflow_sub-used c).After-as_slice-2).past)

pub going_on-self-inside-requires : goal.going_on-self-inside-requires
going_on-self-inside-requires c = omega (arith, (before (goal.at.going_on-self-inside-requires c).After-as_slice-2).some)

pub returns-clause-counts : goal.returns-clause-counts
returns-clause-counts c =
    let x = (goal.at.returns-clause-counts c).After-clear in
    counts_up c.args.self.now (new x) (position c.self.inside.stand) c.self.inside.taken.value c.args.piece.now c.self.inside.fault (used x) c.in_ok-passed.ensures.entry
    c.self.view_is c.self.invariant (without_fault c.self.inside.fault c.is_some.result c.is_some.ensures c.if-is_some.false) (feeds x)

pub returns-clause-body : goal.returns-clause-body
returns-clause-body c =
    let first = c.in_ok-passed.ensures in
    record { entry = first.entry.what; is = first.is; annotation = first.annotation }

pub returns-clause-history : goal.returns-clause-history
returns-clause-history c =
    let x = (goal.at.returns-clause-history c).After-clear in
    passes_annotation c.args.self.now (new x) c.args.piece.now (position c.self.inside.stand) c.at_hand-bytes.result.now c.args.kind c.in_ok-passed.field-0 c.in_ok-passed.ensures (used x) (feeds x)

pub invariant_of-self : goal.invariant_of-self
invariant_of-self c =
    let s : Position = position c.going_on-self-inside.result in
    let P : List ℕ → Type 0 = IsPending s in
    holds_by s c.clear.new.self c.self.inside.fault (without_fault c.self.inside.fault c.is_some.result c.is_some.ensures c.if-is_some.false)
    (subst P (sym c.clear.ensures) (nothing_pending s))

pub at_hand-bytes-requires-clause-few : goal.at_hand-bytes-requires-clause-few
at_hand-bytes-requires-clause-few c = omega (arith, ap length c.as_slice.ensures.value, c.as_slice.ensures.fits)

pub overflow_add-past : goal.overflow_add-past
overflow_add-past c =
    let e = before (goal.at.overflow_add-past c).After-as_slice-2 in
    let clear = without_fault c.self.inside.fault c.is_some.result c.is_some.ensures c.if-is_some.false in
    let few = c.requires (ap (λ (r : State). r.fault) (sym c.self.view_is) ∙ clear) in
    omega (arith, few, c.start.ensures ∙ ap (λ (r : State). r.stand.start) c.self.view_is, e.past, e.ends.within)

pub returns-clause-fresh : goal.returns-clause-fresh
returns-clause-fresh c = without_fault c.self.inside.fault c.is_some.result c.is_some.ensures c.if-is_some.false

pub returns-in_err-passed-clause-kept : goal.returns-in_err-passed-clause-kept
returns-in_err-passed-clause-kept c = if_none_by c.from_residual.result _ refl
