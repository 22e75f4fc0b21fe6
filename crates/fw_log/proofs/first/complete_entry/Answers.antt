use Rattle.fw_log.proofs.Common.{◌≡◌, ℕ, ◌+◌, drop, arith, ap, subst, sym, ◌∙◌, head_size, position, WrongBody, skip, fault_at, Fields, LogFault}
use Rattle.fw_log.specs.declared.LogWhy.TheVariants.{BadBody}
use Rattle.fw_log.proofs.SpellingLaws.{entry_is, kind_of_complete, size_of_complete, long_of_complete, complete_ok, complete_own, complete_err, refused_body, refused_epoch}
use Rattle.fw_log.proofs.first.complete_entry.Goals as goal
use Rattle.fw_log.proofs.first.complete_entry.Goals.{After-rest-entry, After-entry_of}

entry : (c : After-rest-entry) → c.rest-entry.result.now ≡ drop (skip (position c.args.stand).start) c.args.bytes.now
entry c = entry_is (position c.args.stand).start c.skip-at.result c.args.bytes.now c.rest-entry.result.now c.skip-at.ensures c.rest-entry.ensures

body : (c : After-entry_of) → c.rest.result.now ≡ drop (head_size c.args.version) c.rest-entry.result.now
body c = c.rest.ensures ∙ ap (λ (n : ℕ). drop n c.rest-entry.result.now) c.head_size-head.ensures

pub entry_of-requires-clause-kind : goal.entry_of-requires-clause-kind
entry_of-requires-clause-kind c =
    let a = (goal.at.entry_of-requires-clause-kind c).After-rest-entry in
    kind_of_complete c.args.version (position c.args.stand) c.args.bytes.now c.rest-entry.result.now (entry a) c.requires.head

pub entry_of-requires-clause-size : goal.entry_of-requires-clause-size
entry_of-requires-clause-size c =
    let a = (goal.at.entry_of-requires-clause-size c).After-rest-entry in
    size_of_complete c.args.version (position c.args.stand) c.args.bytes.now c.rest-entry.result.now c.rest.result.now (entry a)
    (c.rest.ensures ∙ ap (λ (n : ℕ). drop n c.rest-entry.result.now) c.head_size-head.ensures) c.requires.head

pub cycle_of-cycle-requires : goal.cycle_of-cycle-requires
cycle_of-cycle-requires c =
    let a = (goal.at.cycle_of-cycle-requires c).After-rest-entry in
    long_of_complete c.args.version (position c.args.stand) c.args.bytes.now c.rest-entry.result.now (entry a) c.requires.head

pub returns-then-is_own_epoch : goal.returns-then-is_own_epoch
returns-then-is_own_epoch c =
    let a = (goal.at.returns-then-is_own_epoch c).After-rest-entry in
    let b = (goal.at.returns-then-is_own_epoch c).After-entry_of in
    complete_ok c.args.version (position c.args.stand) c.args.bytes.now c.rest-entry.result.now c.rest.result.now (record { cycle = c.cycle_of-cycle.result; what = c.in-Ok.what })
    (λ i. omega (arith, c.type_inv.bytes i)) (entry a) (body b) c.requires.head c.cycle_of-cycle.ensures
    (complete_own c.args.version (position c.args.stand) c.args.bytes.now c.rest-entry.result.now c.rest.result.now c.in-Ok.what (entry a) c.requires.head c.in-Ok.ensures
    (sym c.is_own_epoch.ensures ∙ c.if-is_own_epoch.true))
    c.in-Ok.ensures

pub returns-else-is_own_epoch : goal.returns-else-is_own_epoch
returns-else-is_own_epoch c =
    let a = (goal.at.returns-else-is_own_epoch c).After-rest-entry in
    let b = (goal.at.returns-else-is_own_epoch c).After-entry_of in
    let P : ℕ → Type 0 = λ n. WrongBody (position c.args.stand) c.args.bytes.now (fault_at (n + (c.skip-at.result + c.head_size-head.result)) (BadBody Fields)) in
    let Q : LogFault → Type 0 = WrongBody (position c.args.stand) c.args.bytes.now in
    subst Q (sym c.bad_body.ensures)
    (subst P (sym c.start.ensures)
    (complete_err c.args.version (position c.args.stand) c.skip-at.result c.head_size-head.result c.args.bytes.now c.rest-entry.result.now Fields c.skip-at.ensures c.head_size-head.ensures
    (entry a) c.requires.head
    (refused_epoch c.args.version (position c.args.stand).epoch c.rest-entry.result.now c.rest.result.now c.in-Ok.what (body b) c.in-Ok.ensures
    (sym c.is_own_epoch.ensures ∙ c.if-is_own_epoch.false))))

pub returns-in-Err : goal.returns-in-Err
returns-in-Err c =
    let a = (goal.at.returns-in-Err c).After-rest-entry in
    let b = (goal.at.returns-in-Err c).After-entry_of in
    let P : ℕ → Type 0 = λ n. WrongBody (position c.args.stand) c.args.bytes.now (fault_at (n + (c.skip-at.result + c.head_size-head.result)) (BadBody c.in-Err.why)) in
    let Q : LogFault → Type 0 = WrongBody (position c.args.stand) c.args.bytes.now in
    subst Q (sym c.bad_body-in-Err.ensures)
    (subst P (sym c.start.ensures)
    (complete_err c.args.version (position c.args.stand) c.skip-at.result c.head_size-head.result c.args.bytes.now c.rest-entry.result.now c.in-Err.why c.skip-at.ensures c.head_size-head.ensures
    (entry a) c.requires.head
    (refused_body c.args.version (position c.args.stand).epoch c.rest-entry.result.now c.rest.result.now c.in-Err.why (body b) c.in-Err.ensures)))
