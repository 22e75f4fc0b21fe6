use Rattle.fw_tree.proofs.Common.{◌≡◌, ◌<◌, ◌∙◌, ℕ, None, Some, Option, true, false, take, sym, ap, slice_index_or, is_seen, is_open}
use Rattle.std.proofs.Common.{is_some}
use Rattle.std.proofs.lemmas.Bool.{false≢true}
use Rattle.std.specs.Prelude.{count_by, IfSome}
use Rattle.fw_tree.specs.declared.rounds.Cable.{Cable}
use Rattle.fw_tree.proofs.OpenPortLaws.{more_than_one}
use Rattle.fw_tree.proofs.rounds.only_open.Goals as goal

pub returns-then-is_some-clause-none : goal.returns-then-is_some-clause-none
returns-then-is_some-clause-none c =
    more_than_one (is_seen c.args.stays.now) c.args.ports.now c.loop-p.p c.loop-p-test.true (ap (is_open (is_seen c.args.stays.now)) c.in-Some.is ∙ c.if-stays-end.true)
    (one c.loop-p.open (sym c.is_some.ensures ∙ c.if-is_some.true) c.loop-p.invariant.1)
  where
    one : (o : Option Cable) → is_some o ≡ true
        → IfSome o (λ x. (count_by (is_open (is_seen c.args.stays.now)) (take c.loop-p.p c.args.ports.now) ≡ 1) × (x.port < 27) × (slice_index_or c.args.ports.now x.port None ≡ Some x.end)
        × (is_seen c.args.stays.now x.end.device ≡ true))
        → count_by (is_open (is_seen c.args.stays.now)) (take c.loop-p.p c.args.ports.now) ≡ 1
    one None there told = absurd (false≢true there)
    one (Some x) there told = told.0
