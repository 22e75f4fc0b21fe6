use Rattle.std.proofs.Common.{◌≡◌, ◌+◌, ◌<◌, ℕ, refl, ap, sym, subst, length, arith}
use Rattle.std.proofs.Math.ListN.{set}
use Rattle.fw_watch_known.specs.declared.channel.Channel.{Channel}
use Rattle.fw_watch_known.specs.Channels.{fresh}
use Rattle.fw_watch_known.proofs.FillLaws.{Filled, filled_more, filled_all}
use Rattle.fw_watch_known.proofs.channels.Channels.reset.Goals as goal

pub loop-i-init : goal.loop-i-init
loop-i-init c = record { prefix = refl; size = ap length c.self.view_is }

pub loop-i-preserved : goal.loop-i-preserved
loop-i-preserved c =
    let n : ℕ = c.loop-i.i in
    let total : ℕ = length c.args.self.now in
    let P : Channel → Type 0 = λ y. Filled (set c.loop-i.self-inside.rows.items n y) (n + 1) total fresh in
    let within : n < total = omega (arith, c.loop-i-test.true, c.len-i-end.ensures, ap length c.self.view_is) in
    subst P (sym c.fresh.ensures) (filled_more c.loop-i.self-inside.rows.items n total fresh within c.loop-i.invariant)

pub returns : goal.returns
returns c =
    let whole : c.loop-i.i ≡ length c.args.self.now = omega (arith, c.loop-i-test.false, c.loop-i.auto.i-end, c.len-i-end.ensures, ap length c.self.view_is) in
    filled_all c.loop-i.self-inside.rows.items c.loop-i.i (length c.args.self.now) fresh whole c.loop-i.invariant
