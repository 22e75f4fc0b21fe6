-- The registers that a job asks for, in the account, and what their nodes answer.
use Rattle.std.specs.Prelude.{◌==◌, ◌≡◌, ◌≢◌, ◌&&◌, Bool, false, Option, Some, None, is_some, IsTrue, IsFalse}
use Rattle.fw_terms.specs.declared.plug.PlugAt.{PlugAt}
use Rattle.fw_words.specs.declared.swap.Swap.{Swap}
use Rattle.fw_csr.specs.declared.reply.Reply.{Reply}
use Rattle.fw_log_entry.specs.declared.entry.ResetEntry.{ResetEntry}
use Rattle.fw_model_account.specs.Account.{Account, Request}
use Rattle.fw_model_account.specs.Network.{is_output, is_input}
use Rattle.fw_model_account.specs.Words.{Register, BandwidthAvailable, ChannelsAvailable, OutputPlug, InputPlug, word_of, register_of, output_addressed}
use Rattle.fw_cmp_jobs.specs.declared.request.Target.{Target}
use Rattle.fw_cmp_jobs.specs.declared.request.Target.TheVariants as target

-- the register of the account that a request is for
abbrev pub register_at : Target → Register
register_at (target.OutputPlug p) = OutputPlug p
register_at (target.InputPlug p) = InputPlug p
register_at (target.Channels base) = ChannelsAvailable base
register_at target.BandwidthAvailable = BandwidthAvailable

-- the latest bus reset has an isochronous resource manager
abbrev pub has_manager : Option ResetEntry → Bool
has_manager None = false
has_manager (Some r) = is_some r.manager

-- the register stands on the bus: the latest reset entry has the plug, or a manager
abbrev pub stands : Option ResetEntry → Target → Bool
stands latest (target.OutputPlug p) = is_output latest p
stands latest (target.InputPlug p) = is_input latest p
stands latest (target.Channels base) = has_manager latest
stands latest target.BandwidthAvailable = has_manager latest

-- a node answers a request at a register with its word, before the swap; one that has no such register refuses
pub record IsAnswer (l : Account) (t : Target) (r : Reply) : Type 0 where
  pub complete : IsTrue (stands l.latest t) → (r.rcode ≡ 0) × (r.value ≡ word_of l (register_at t))
  pub refused : IsFalse (stands l.latest t) → r.rcode ≢ 0

-- a swap has succeeded exactly if the answer is complete and shows its argument
abbrev pub succeeds : Option Swap → Reply → Bool
succeeds None r = false
succeeds (Some s) r = (r.rcode == 0) && (r.value == s.argument)

-- ---- requests

-- the output plug that a request at a register addresses
abbrev pub plug_addressed : Target → Option PlugAt
plug_addressed (target.OutputPlug p) = Some p
plug_addressed (target.InputPlug p) = None
plug_addressed (target.Channels base) = None
plug_addressed target.BandwidthAvailable = None

-- a request is at a register of the account, if the register stands, and at an offset of its output plug or of none
pub record IsRequestAt (l : Account) (t : Target) (request : Request) : Type 0 where
  pub plug : output_addressed l.latest request.target request.address ≡ plug_addressed t
  pub register : IsTrue (stands l.latest t) → register_of l.latest request.target request.address ≡ Some (register_at t)
