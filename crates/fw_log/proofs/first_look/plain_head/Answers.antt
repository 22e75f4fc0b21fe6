use Rattle.fw_log.proofs.Common.{◌≡◌, ◌-◌, take, drop, length, arith, List, ℕ, ap, subst, ◌∙◌, take_all, head_size, Version, position, IsComplete, skip}
use Rattle.std.proofs.lemmas.List.{length-drop}
use Rattle.fw_log.specs.Passing.{IsPlainEpoch}
use Rattle.fw_log.proofs.SpellingLaws.{entry_is, size_of_complete, long_of_complete}
use Rattle.fw_log.proofs.FindLaws.{first_complete}
use Rattle.fw_log.proofs.PlainHeadLaws.{head_first}
use Rattle.fw_log.proofs.PassLaws.{reset_long}
use Rattle.fw_log.proofs.first_look.plain_head.Goals as goal
use Rattle.fw_log.proofs.first_look.plain_head.Goals.{After-rest-entry}

abbrev whole : After-rest-entry → List ℕ
whole c = take c.in_ok-end.end c.args.bytes.now

complete : (c : After-rest-entry) → IsComplete c.version_at-version.result (position c.args.stand) (whole c)
complete c = first_complete c.version_at-version.result (position c.args.stand) c.args.bytes.now c.in_ok-end.end
    (λ i. omega (arith, c.type_inv.bytes i)) c.version_at-version.ensures c.in_ok-end.ensures

entry : (c : After-rest-entry) → c.rest-entry.result.now ≡ drop (skip (position c.args.stand).start) (whole c)
entry c = entry_is (position c.args.stand).start c.skip.result (whole c) c.rest-entry.result.now c.skip.ensures c.rest-entry.ensures

-- the body is all that stands after the head
body : (v : Version) (e : List ℕ) (n : ℕ) → n ≡ head_size v → take (length e - n) (drop n e) ≡ drop (head_size v) e
body v e n is = take_all (length e - n) (drop n e) (omega (arith, length-drop n e)) ∙ ap (λ (k : ℕ). drop k e) is

pub slice_bounds-content-count : goal.slice_bounds-content-count
slice_bounds-content-count c =
    let a = (goal.at.slice_bounds-content-count c).After-rest-entry in
    omega (arith, c.head_size.ensures, long_of_complete c.version_at-version.result (position c.args.stand) (whole a) c.rest-entry.result.now (entry a) (complete a))

pub slice_bounds-content-start : goal.slice_bounds-content-start
slice_bounds-content-start c =
    let a = (goal.at.slice_bounds-content-start c).After-rest-entry in
    omega (arith, c.head_size.ensures, long_of_complete c.version_at-version.result (position c.args.stand) (whole a) c.rest-entry.result.now (entry a) (complete a))

pub plain_epoch-requires-clause-head : goal.plain_epoch-requires-clause-head
plain_epoch-requires-clause-head c =
    let a = (goal.at.plain_epoch-requires-clause-head c).After-rest-entry in
    long_of_complete c.version_at-version.result (position c.args.stand) (whole a) c.rest-entry.result.now (entry a) (complete a)

pub plain_epoch-requires-clause-body : goal.plain_epoch-requires-clause-body
plain_epoch-requires-clause-body c first =
    let a = (goal.at.plain_epoch-requires-clause-body c).After-rest-entry in
    let v = c.version_at-version.result in
    let e : List ℕ = c.rest-entry.result.now in
    let n = c.head_size.result in
    let size = size_of_complete v (position c.args.stand) (whole a) e (take (length e - n) (drop n e)) (entry a) (body v e n c.head_size.ensures) (complete a) in
    reset_long _ size.0 (take (length e - n) (drop n e)) size.1 size.2 first

pub bounds-entry-0 : goal.bounds-entry-0
bounds-entry-0 c =
    let a = (goal.at.bounds-entry-0 c).After-rest-entry in
    omega (arith, long_of_complete c.version_at-version.result (position c.args.stand) (whole a) c.rest-entry.result.now (entry a) (complete a))

pub cycle_of-requires : goal.cycle_of-requires
cycle_of-requires c =
    let a = (goal.at.cycle_of-requires c).After-rest-entry in
    long_of_complete c.version_at-version.result (position c.args.stand) (whole a) c.rest-entry.result.now (entry a) (complete a)

pub returns : goal.returns
returns c =
    let a = (goal.at.returns c).After-rest-entry in
    let v = c.version_at-version.result in
    let e : List ℕ = c.rest-entry.result.now in
    let n = c.head_size.result in
    let more : List ℕ = take (length e - n) (drop n e) in
    let P : ℕ → Type 0 = λ k. IsPlainEpoch v k e more c.in_ok-epoch.epoch in
    head_first v (position c.args.stand) c.args.bytes.now e more c.new.result c.in_ok-end.end c.cycle_of.result c.in_ok-epoch.epoch
    (λ i. omega (arith, c.type_inv.bytes i)) c.in_ok-end.ensures (entry a) (body v e n c.head_size.ensures) (complete a) c.cycle_of.ensures
    (subst P c.epoch.ensures c.in_ok-epoch.ensures) c.new.ensures
