-- What moves do.
use Rattle.std.specs.Prelude.{if◌then◌else◌}
use Rattle.fw_terms.specs.declared.plug.PlugAt.{PlugAt}
use Rattle.fw_model_account.specs.Account.{Account, has_connection}
use Rattle.fw_model_account.specs.Moves.{Move, AllocateChannel, AllocateUnits, ConnectFirst, ConnectOverlaid, ConnectInput, DisconnectInput, DisconnectOutput, ReleaseUnits, ReleaseChannel}
use Rattle.fw_holders_text.specs.declared.deed.Deed.{Deed}
use Rattle.fw_holders_text.specs.declared.deed.Deed.TheVariants.{TakesChannel, TakesUnits, GivesUnits, GivesChannel, Connects, Adds, Leaves}
use Rattle.fw_holders_text.specs.declared.names.Side.TheVariants.{Output, Input}

-- what a move does at plug p, over the account before it
abbrev pub deed_of : Account → PlugAt → Move → Deed
deed_of l p (AllocateChannel ch) = TakesChannel ch
deed_of l p (AllocateUnits ch u) = TakesUnits u
deed_of l p (ReleaseUnits ch u) = GivesUnits u
deed_of l p (ReleaseChannel ch) = GivesChannel ch
deed_of l p (ConnectFirst kind ch overhead) = Connects Output p kind
deed_of l p (ConnectOverlaid kind) = Adds Output p kind
deed_of l p (ConnectInput kind ch) = if has_connection (l.inputs p) then Adds Input p kind else Connects Input p kind
deed_of l p (DisconnectInput kind) = Leaves Input p kind
deed_of l p (DisconnectOutput kind) = Leaves Output p kind
