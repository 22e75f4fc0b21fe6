-- The account of a list of entries of a log.
use Rattle.fw_log_entry.specs.declared.codes.event.TheConstants.{SECOND_OVER, DIED, WITHHELD}
use Rattle.fw_log_entry.specs.declared.entry.EventEntry.{EventEntry}
use Rattle.fw_log_entry.specs.declared.entry.Entry.{Entry}
use Rattle.fw_log_entry.specs.declared.entry.Timed.{Timed}
use Rattle.fw_log_entry.specs.declared.entry.Entry.TheVariants.{Reset, Async, Iso, Event, Outcome, Shown, End}
use Rattle.std.specs.Prelude.{◌==◌, false, if◌then◌else◌, Option, Some, None, is_some, List, [], ◌∷◌, map}
use Rattle.fw_model_account.specs.Account.{Account}
use Rattle.fw_model_account.specs.Events.{no_connections, after_reset, after_second, after_death, after_withholding}
use Rattle.fw_model_account.specs.Packets.{after_packet}

-- the account of no entries
abbrev pub no_account : Account
no_account = record {
  latest = None;
  withheld = false;
  reclaiming = false;
  allocations = λ ch. None;
  outputs = λ p. no_connections;
  inputs = λ p. no_connections;
  settings = λ p. record { channel = 63; rate = 0; overhead = 0 };
  input_channel = λ p. 63;
  continues = λ p. false;
  reclaimable = λ ch. None;
  addressed = λ c. None;
  outstanding = λ c. None;
}

-- second over, if one runs, the death of a controller, and channel 31 withheld, before the first reset; any other event
-- changes nothing
abbrev pub after_event : EventEntry → Account → Option Account
after_event e l =
    if e.code == SECOND_OVER then (if l.reclaiming then Some (after_second l) else None)
    else if e.code == DIED then Some (after_death e.device l)
    else if e.code == WITHHELD then (if is_some l.latest then None else Some (after_withholding l))
    else Some l

-- the account after one entry more, if there is one
abbrev pub next_account : Account → Entry → Option Account
next_account l (Reset r) = Some (after_reset r l)
next_account l (Async p) = after_packet p l
next_account l (Iso p) = Some l
next_account l (Event e) = after_event e l
next_account l (Outcome o) = Some l
next_account l (Shown s) = Some l
next_account l End = Some l

-- the account after one entry more, if there was one
abbrev pub next_of : Option Account → Entry → Option Account
next_of None e = None
next_of (Some l) e = next_account l e

-- the account after entries more
abbrev pub account_from : Option Account → List Entry → Option Account
account_from o [] = o
account_from o (e ∷ es) = account_from (next_of o e) es

-- the account of a list of entries
abbrev pub account_of : List Entry → Option Account
account_of es = account_from (Some no_account) es

-- the entries of a log, without their cycles
abbrev pub entries_of : List Timed → List Entry
entries_of ts = map (λ (t : Timed). t.what) ts
