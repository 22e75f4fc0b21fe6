-- Accounts with the same holders.
use Rattle.std.specs.Prelude.{◌≡◌}
use Rattle.fw_model_account.specs.Account.{Account}

-- all that is allocated, connected and reclaimable is the same, and what the plugs keep; requests may be others
pub record HasSameHolders (l k : Account) : Type 0 where
  pub latest : k.latest ≡ l.latest
  pub withheld : k.withheld ≡ l.withheld
  pub reclaiming : k.reclaiming ≡ l.reclaiming
  pub allocations : k.allocations ≡ l.allocations
  pub outputs : k.outputs ≡ l.outputs
  pub inputs : k.inputs ≡ l.inputs
  pub settings : k.settings ≡ l.settings
  pub input_channel : k.input_channel ≡ l.input_channel
  pub continues : k.continues ≡ l.continues
  pub reclaimable : k.reclaimable ≡ l.reclaimable
