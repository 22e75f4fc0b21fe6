use Rattle.std.proofs.Common.{◌≡◌, ◌∙◌, ◌+◌, ◌<◌, ℕ, List, refl, ap, sym, subst, length, replicate, arith}
use Rattle.std.proofs.Math.ListN.{set}
use Rattle.fw_watch_remarks.specs.declared.known.Known.{Known}
use Rattle.fw_watch_remarks.specs.Knowing.{after_reset}
use Rattle.fw_watch_known.proofs.FillLaws.{Filled, filled_more, filled_all}
use Rattle.fw_watch_known.proofs.UsedLaws.{none_used, reset_counted}
use Rattle.fw_watch_known.proofs.plugs.Plugs.reset.Goals as goal

pub loop-i-init : goal.loop-i-init
loop-i-init c = record { prefix = refl; size = ap length c.self.view_is }

pub loop-i-preserved : goal.loop-i-preserved
loop-i-preserved c =
    let n : ℕ = c.loop-i.i in
    let total : ℕ = length c.args.self.now in
    let P : Known → Type 0 = λ y. Filled (set c.loop-i.self-inside.rows.items n y) (n + 1) total after_reset in
    let within : n < total = omega (arith, c.loop-i-test.true, c.len-i-end.ensures, ap length c.self.view_is) in
    subst P (sym c.of_reset_plug.ensures) (filled_more c.loop-i.self-inside.rows.items n total after_reset within c.loop-i.invariant)

pub returns : goal.returns
returns c =
    let whole : c.loop-i.i ≡ length c.args.self.now = omega (arith, c.loop-i-test.false, c.loop-i.auto.i-end, c.len-i-end.ensures, ap length c.self.view_is) in
    filled_all c.loop-i.self-inside.rows.items c.loop-i.i (length c.args.self.now) after_reset whole c.loop-i.invariant

pub invariant_of-self : goal.invariant_of-self
invariant_of-self c =
    let total : ℕ = length c.args.self.now in
    let whole : c.loop-i.i ≡ total = omega (arith, c.loop-i-test.false, c.loop-i.auto.i-end, c.len-i-end.ensures, ap length c.self.view_is) in
    let rows = filled_all c.loop-i.self-inside.rows.items c.loop-i.i total after_reset whole c.loop-i.invariant in
    record {
      counts = none_used c.none_used-self-inside.result c.loop-i.self-inside.rows.items total after_reset c.none_used-self-inside.ensures rows
          (omega (arith, c.self.invariant.counts.0, ap length c.self.view_is)) (reset_counted total);
      untouched = λ e. rows ∙ ap (λ (n : ℕ). replicate n after_reset) (sym c.loop-i.invariant.size);
    }

pub returns-then-not-self : goal.returns-then-not-self
returns-then-not-self c = subst (λ (rows : List Known). rows ≡ replicate (length rows) after_reset) c.self.view_is (c.self.invariant.untouched c.if-not-self.true)
