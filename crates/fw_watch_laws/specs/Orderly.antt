-- Logs without an audit fault, in which `watch` finds nothing; and what it does not find there.
use Rattle.std.specs.Prelude.{◌≡◌, ℕ, ◌+◌, ◌*◌, ⊤, IsTrue, is_some, Bool, true, false, List}
use Rattle.std.specs.List.{All, list_any}
use Rattle.fw_terms.specs.declared.label.Label.TheVariants.{Procedure}
use Rattle.fw_terms.specs.Labels.{label_code}
use Rattle.fw_csr.specs.declared.low_offset.TheConstants.{BANDWIDTH_AVAILABLE, CHANNELS_AVAILABLE_HI, CHANNELS_AVAILABLE_LO, OPCR, IPCR}
use Rattle.fw_async.specs.declared.packet.Packet.{Packet}
use Rattle.fw_async.specs.declared.packet.Packet.TheVariants.{WriteQuadlet, WriteBlock, WriteReply, ReadQuadlet, ReadBlock, ReadQuadletReply, ReadBlockReply, CycleStart, Lock, LockReply}
use Rattle.fw_log_entry.specs.Log.{InOrder}
use Rattle.fw_log_entry.specs.declared.entry.Entry.{Entry}
use Rattle.fw_log_entry.specs.declared.entry.Entry.TheVariants.{Reset, Async, Iso, Event, Outcome, Shown, End}
use Rattle.fw_log_entry.specs.declared.entry.Timed.{Timed}
use Rattle.fw_model_account.specs.Fold.{entries_of}
use Rattle.fw_model_audit.specs.Audited.{IsAudited}
use Rattle.fw_watch_remarks.specs.declared.remark.Remark.{Remark}
use Rattle.fw_watch_remarks.specs.declared.remark.Remark.TheVariants.{NotManager, TooMany, Several, MoreThanMove}
use Rattle.fw_watch_remarks.specs.declared.register.WatchedRegister.{WatchedRegister}
use Rattle.fw_watch_remarks.specs.declared.register.WatchedRegister.TheVariants.{Bandwidth, ChannelsHigh, ChannelsLow, Output, Input}
use Rattle.fw_watch_remarks.specs.Registers.{register_at}
use Rattle.fw_watch_remarks.specs.Remarks.{Said}
use Rattle.fw_watch.specs.Watched.{all_remarks}

-- a lock at a watched register has the label of procedures
abbrev pub IsLabelled : Packet → Type 0
IsLabelled (WriteQuadlet h offset value) = ⊤
IsLabelled (WriteBlock h offset bytes) = ⊤
IsLabelled (WriteReply h rcode) = ⊤
IsLabelled (ReadQuadlet h offset) = ⊤
IsLabelled (ReadBlock h offset len) = ⊤
IsLabelled (ReadQuadletReply h rcode value) = ⊤
IsLabelled (ReadBlockReply h rcode bytes) = ⊤
IsLabelled (CycleStart h offset time) = ⊤
IsLabelled (Lock h offset function bytes) = IsTrue (is_some (register_at offset)) → h.tl ≡ label_code Procedure
IsLabelled (LockReply h rcode function bytes) = ⊤

-- of an entry
abbrev pub IsLabelledIn : Entry → Type 0
IsLabelledIn (Reset r) = ⊤
IsLabelledIn (Async p) = IsLabelled p
IsLabelledIn (Iso p) = ⊤
IsLabelledIn (Event e) = ⊤
IsLabelledIn (Outcome o) = ⊤
IsLabelledIn (Shown w) = ⊤
IsLabelledIn End = ⊤

-- the entries of a log in which an audit finds no fault, whose locks at watched registers are those of procedures
pub record IsOrderly (entries : List Timed) : Type 0 where
  pub order : InOrder 0 entries
  pub audited : IsAudited (entries_of entries)
  pub labels : All (λ t. IsLabelledIn t.what) entries

-- the offset at which a register stands
abbrev pub offset_of : WatchedRegister → ℕ
offset_of Bandwidth = BANDWIDTH_AVAILABLE
offset_of ChannelsHigh = CHANNELS_AVAILABLE_HI
offset_of ChannelsLow = CHANNELS_AVAILABLE_LO
offset_of (Output number) = OPCR + 4 * number
offset_of (Input number) = IPCR + 4 * number

-- ---- what is not found there

-- a swap at a node that is not the resource manager
abbrev pub is_not_manager : Remark → Bool
is_not_manager (NotManager by at manager) = true
is_not_manager _ = false

-- more units are left than there are
abbrev pub is_too_many : Remark → Bool
is_too_many (TooMany by left) = true
is_too_many _ = false

-- more than one channel is changed at once
abbrev pub is_several : Remark → Bool
is_several (Several by count) = true
is_several _ = false

-- more than a connection of a plug is changed
abbrev pub is_more : Remark → Bool
is_more (MoreThanMove by at old new) = true
is_more _ = false

-- a log has no such remark
abbrev pub HasNone : (Remark → Bool) → List Timed → Type 0
HasNone test entries = list_any (λ (s : Said). test s.remark) (all_remarks entries) ≡ false
