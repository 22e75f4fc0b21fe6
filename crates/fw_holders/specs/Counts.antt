-- How much of a log was judged.
use Rattle.std.specs.Prelude.{ℕ, ◌+◌, ◌==◌, ◌≤◌, Bool, false, List, [], ◌∷◌, Option, Some, None, is_some, if◌then◌else◌}
use Rattle.fw_words.specs.Quadlet.{quadlet_at}
use Rattle.fw_log_entry.specs.declared.entry.Entry.{Entry}
use Rattle.fw_log_entry.specs.declared.entry.Entry.TheVariants.{Reset, Async, Shown}
use Rattle.fw_log_entry.specs.declared.entry.ShownEntry.{ShownEntry}
use Rattle.fw_log_entry.specs.declared.entry.Timed.{Timed}
use Rattle.fw_log_entry.specs.Network.{device_of_id}
use Rattle.fw_model_account.specs.Account.{Account, Operation, Reads, Locks, Request}
use Rattle.fw_model_account.specs.Packets.{is_quadlet_swap}
use Rattle.fw_model_account.specs.Fold.{entries_of, next_of, no_account}
use Rattle.fw_model_audit.specs.Looked.{Looked, Replies, Response, looked_packet, is_watched}
use Rattle.fw_model_audit.specs.Judged.{watched_offset}
use Rattle.fw_holders.specs.declared.judged.Judged.{Judged}

-- nothing was judged
abbrev pub none_judged : Judged
none_judged = record { reads = 0; made = 0; unmade = 0; shown = 0; resets = 0 }

-- no more than n of each
pub record IsWithin (n : ℕ) (j : Judged) : Type 0 where
  pub reads : j.reads ≤ n
  pub made : j.made ≤ n
  pub unmade : j.unmade ≤ n
  pub shown : j.shown ≤ n
  pub resets : j.resets ≤ n

-- a word is this one
abbrev pub shows : Option ℕ → ℕ → Bool
shows None argument = false
shows (Some word) argument = word == argument

-- a swap that was made, or not
abbrev pub swap_judged : Bool → Judged → Judged
swap_judged is_made j = if is_made then record j { made = j.made + 1 } else record j { unmade = j.unmade + 1 }

-- a complete answer at a watched register: a read, or a swap; if it is another lock an audit refuses it
abbrev pub operation_judged : Operation → Option ℕ → Judged → Judged
operation_judged Reads word j = record j { reads = j.reads + 1 }
operation_judged (Locks function bytes) word j = if is_quadlet_swap function bytes then swap_judged (shows word (quadlet_at bytes 0)) j else j

-- an answer to the outstanding request
abbrev pub answer_judged : Option Request → Response → Judged → Judged
answer_judged None r j = j
answer_judged (Some q) r j = if r.rcode == 0 then (if is_some (watched_offset q.address) then operation_judged q.operation r.word j else j) else j

-- a response to a node
abbrev pub response_judged : Account → Option ℕ → Response → Judged → Judged
response_judged l None r j = j
response_judged l (Some c) r j = answer_judged (l.outstanding c) r j

-- what an audit looks at in a packet
abbrev pub packet_judged : Account → Looked → Judged → Judged
packet_judged l (Replies r) j = response_judged l (device_of_id l.latest r.requester) r j
packet_judged l _ j = j

-- a shown word of a watched register
abbrev pub shown_judged : ShownEntry → Judged → Judged
shown_judged s j = if is_watched s.offset then record j { shown = j.shown + 1 } else j

-- one entry more, over the account of the entries before it
abbrev pub entry_judged : Account → Entry → Judged → Judged
entry_judged l (Reset r) j = record j { resets = j.resets + 1 }
entry_judged l (Async p) j = packet_judged l (looked_packet p) j
entry_judged l (Shown s) j = shown_judged s j
entry_judged l _ j = j

-- one entry more, if there is an account
abbrev pub next_judged : Option Account → Entry → Judged → Judged
next_judged None e j = j
next_judged (Some l) e j = entry_judged l e j

-- entries more
abbrev pub judged_from : Option Account → List Entry → Judged → Judged
judged_from o [] j = j
judged_from o (e ∷ es) j = judged_from (next_of o e) es (next_judged o e j)

-- the entries of a log
abbrev pub judged_of : List Timed → Judged
judged_of entries = judged_from (Some no_account) (entries_of entries) none_judged
