-- The registers right after a reset, and the account of the first one.
use Rattle.fw_model_account.proofs.Common.{PlugAt, ResetEntry, ◌≡◌, false, cond, refl, arith, nat_tests, sum_to, Account, has_connection, BandwidthAvailable, ChannelsAvailable, word_of}
use Rattle.fw_terms.proofs.Tables.{sum_to_zero}
use Rattle.fw_model_account.specs.Network.{declared}
use Rattle.fw_model_account.specs.Events.{no_connections, after_reset}
use Rattle.fw_model_account.specs.Words.{fields_at, input_fields_at}
use Rattle.fw_model_account.specs.Fold.{no_account}
use Rattle.fw_model_account.proofs.Open.{high_starts, low_starts}

pub no_connection_at_first : has_connection no_connections ≡ false
no_connection_at_first = grind (arith, nat_tests, sum_to_zero 63)

pub reset_remainder : (r : ResetEntry) (l : Account) → word_of (after_reset r l) BandwidthAvailable ≡ 4915
reset_remainder r l = omega (arith, sum_to_zero 64)

pub reset_high : (r : ResetEntry) (l : Account) → word_of (after_reset r l) (ChannelsAvailable 0) ≡ cond l.withheld 0xFFFF_FFFE 0xFFFF_FFFF
reset_high r l = high_starts l.withheld

pub reset_low : (r : ResetEntry) (l : Account) → word_of (after_reset r l) (ChannelsAvailable 32) ≡ 0xFFFF_FFFF
reset_low r l = low_starts l.withheld

pub reset_output : (r : ResetEntry) (l : Account) (p : PlugAt) → fields_at (after_reset r l) p ≡ record { broadcast = false; counter = 0; settings = (after_reset r l).settings p }
unfolding sum_to
reset_output r l p = refl

pub reset_input : (r : ResetEntry) (l : Account) (p : PlugAt) → input_fields_at (after_reset r l) p ≡ record { broadcast = false; counter = 0; channel = (after_reset r l).input_channel p }
unfolding sum_to
reset_input r l p = refl

-- ---- the first reset: its plugs are as declared, nothing goes on talking, and no reclaim second runs

pub first_settings : (r : ResetEntry) (p : PlugAt) → (after_reset r no_account).settings p ≡ declared r p
first_settings r p = refl
