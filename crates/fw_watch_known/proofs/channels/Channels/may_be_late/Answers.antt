use Rattle.std.proofs.Common.{◌≡◌, ℕ, ◌+◌, ◌-◌, ◌<◌, ◌≤◌, nat_le, None, List, subst, arith}
use Rattle.std.specs.Prelude.{IsFalse}
use Rattle.std.proofs.lemmas.Bool.Decides.{nat_tests}
use Rattle.fw_watch_known.specs.declared.channel.Channel.{Channel}
use Rattle.fw_watch_known.specs.Channels.{late_to}
use Rattle.fw_watch_known.proofs.DueLaws.{none_before}
use Rattle.fw_watch_known.proofs.channels.Channels.may_be_late.Goals as goal

before_due : (first cycle : ℕ) → 8000 ≤ cycle → IsFalse (nat_le first (cycle - 8000)) → cycle < first + 8000
before_due first cycle h f = grind (arith, nat_tests)

pub returns-then-cycle-lt8000 : goal.returns-then-cycle-lt8000
returns-then-cycle-lt8000 c f =
    let first : ℕ = c.self.inside.due_from in
    let early : c.args.cycle < first + 8000 = omega (arith, c.if-cycle-lt8000.true) in
    subst (λ (channels : List Channel). late_to 64 channels c.args.cycle ≡ None) c.self.view_is
    (none_before 64 c.self.inside.rows.items first c.args.cycle c.self.invariant early)

pub returns : goal.returns
returns c f =
    let first : ℕ = c.self.inside.due_from in
    subst (λ (channels : List Channel). late_to 64 channels c.args.cycle ≡ None) c.self.view_is
    (none_before 64 c.self.inside.rows.items first c.args.cycle c.self.invariant (before_due first c.args.cycle c.if-cycle-lt8000.false f))
