use Rattle.fw_ledger.proofs.Common.{◌<◌, length, arith, refl, ◌∙◌, length-set}
use Rattle.fw_account_tables.proofs.Starts.{no_count}
use Rattle.fw_ledger.proofs.Renewals.{rate_set, small_set}
use Rattle.fw_ledger.proofs.renew.rates_of.Goals as goal

pub loop-device-init : goal.loop-device-init
loop-device-init c = record {
  rates = λ d n lt there gone. absurd (omega arith);
  long = refl;
  small = λ d. omega (arith, no_count d);
}

pub loop-device-preserved : goal.loop-device-preserved
loop-device-preserved c =
    let low : c.loop-device.device < length c.loop-device.rates = omega (arith, c.loop-device.invariant.long) in
    record {
      rates = rate_set c.args.before.now c.args.now.now c.args.nodes.now c.args.ids.now c.loop-device.rates c.loop-device.device c.rate_of.result low c.loop-device.invariant.rates
          c.rate_of.ensures.rate;
      long = length-set c.loop-device.rates c.loop-device.device c.rate_of.result ∙ c.loop-device.invariant.long;
      small = small_set c.loop-device.rates c.loop-device.device c.rate_of.result low c.loop-device.invariant.small c.rate_of.ensures.small;
    }
