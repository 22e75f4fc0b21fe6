use Rattle.fw_ledger.proofs.Common.{◌≡◌, nat_lt, take, slice_index, PlugAt}
use Rattle.std.specs.List.{list_any}
use Rattle.fw_model_account.specs.Network.{is_output_of}
use Rattle.fw_ledger.proofs.counts.outs_of.Given as goal

abbrev pub invariant-loop-row : goal.invariant-loop-row
invariant-loop-row l = (p : PlugAt) → list_any (is_output_of p) (take l.row-index l.nodes) ≡ nat_lt p.plug (slice_index l.counts p.device)
