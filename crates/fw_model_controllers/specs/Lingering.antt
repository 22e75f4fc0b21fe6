-- The output plugs that linger, which go on talking since a bus reset with no connection: what the words of their registers say of them.
use Rattle.std.specs.Prelude.{◌≡◌, ◌≢◌, ◌==◌, ◌&&◌, Some, IsTrue, IsFalse}
use Rattle.fw_terms.specs.declared.plug.PlugAt.{PlugAt}
use Rattle.fw_log_entry.specs.declared.codes.event.TheConstants.{SECOND_OVER}
use Rattle.fw_log_entry.specs.declared.entry.Entry.{Entry}
use Rattle.fw_log_entry.specs.declared.entry.Entry.TheVariants.{Reset, Async, Event}
use Rattle.fw_log_entry.specs.declared.entry.ResetEntry.{ResetEntry}
use Rattle.fw_plug.specs.Plugs.{is_active}
use Rattle.fw_model_account.specs.Account.{Account}
use Rattle.fw_model_account.specs.Network.{is_output}
use Rattle.fw_model_account.specs.Words.{OutputPlug, word_of}

-- no output plug goes on talking without a connection
abbrev pub NoneLingers : Account → Type 0
NoneLingers l = (p : PlugAt) → IsFalse (l.continues p)

-- the same output plugs go on talking without a connection
abbrev pub SameLinger : Account → Account → Type 0
SameLinger l m = (p : PlugAt) → m.continues p ≡ l.continues p

-- a plug lingers exactly if it did and its word has stayed: a change of its word ends it
abbrev pub LingerUnchanged : Account → Account → Type 0
LingerUnchanged l m = (p : PlugAt) → m.continues p ≡ ((word_of m (OutputPlug p) == word_of l (OutputPlug p)) && l.continues p)

-- After a bus reset with this entry a plug that was on the bus and still is lingers exactly if it was connected, by its word, or
-- lingered; no other plug does.
pub record LingerActive (r : ResetEntry) (l m : Account) : Type 0 where
  pub stays : (p : PlugAt) → IsTrue (is_output l.latest p) → IsTrue (is_output (Some r) p) → m.continues p ≡ is_active (word_of l (OutputPlug p)) (l.continues p)
  pub joins : (p : PlugAt) → IsFalse (is_output l.latest p) → IsFalse (m.continues p)
  pub leaves : (p : PlugAt) → IsFalse (is_output (Some r) p) → IsFalse (m.continues p)

-- after one entry more
abbrev pub LingerAfter : Entry → Account → Account → Type 0
LingerAfter (Reset r) l m = LingerActive r l m
LingerAfter (Async p) l m = LingerUnchanged l m
LingerAfter (Event e) l m = (e.code ≡ SECOND_OVER → NoneLingers m) × (e.code ≢ SECOND_OVER → SameLinger l m)
LingerAfter _ l m = SameLinger l m
