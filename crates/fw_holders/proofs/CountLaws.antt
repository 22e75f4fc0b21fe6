-- An entry more counts once at most.
use Rattle.fw_holders.proofs.Common.{ℕ, ◌+◌, ◌==◌, Bool, true, false, cond, Option, Some, None, arith, Entry, Reset, Async, Iso, device_of_id, Account, Request, Looked, Asks, Replies, Shows, Happens}
use Rattle.fw_holders.proofs.Common.{Other, Response, looked_packet, Judged, IsWithin, packet_judged, entry_judged}
use Rattle.std.proofs.Common.{is_some}
use Rattle.fw_words.specs.Quadlet.{quadlet_at}
use Rattle.fw_log_entry.specs.declared.entry.Entry.TheVariants.{Event, Outcome, Shown, End}
use Rattle.fw_model_account.specs.Account.{Operation, Reads, Locks}
use Rattle.fw_model_account.specs.Packets.{is_quadlet_swap}
use Rattle.fw_model_audit.specs.Judged.{watched_offset}
use Rattle.fw_model_audit.specs.Looked.{is_watched}
use Rattle.fw_holders.specs.Counts.{shows, swap_judged, operation_judged, answer_judged, response_judged}

-- no more than n is no more than n + 1
pub within_more : (n : ℕ) (j : Judged) → IsWithin n j → IsWithin (n + 1) j
within_more n j h = record { reads = omega (arith, h.reads); made = omega (arith, h.made); unmade = omega (arith, h.unmade); shown = omega (arith, h.shown); resets = omega (arith, h.resets) }

swap_within : (made : Bool) (n : ℕ) (j : Judged) → IsWithin n j → IsWithin (n + 1) (swap_judged made j)
swap_within true n j h = record { reads = omega (arith, h.reads); made = omega (arith, h.made); unmade = omega (arith, h.unmade); shown = omega (arith, h.shown); resets = omega (arith, h.resets) }
swap_within false n j h = record { reads = omega (arith, h.reads); made = omega (arith, h.made); unmade = omega (arith, h.unmade); shown = omega (arith, h.shown); resets = omega (arith, h.resets) }

operation_within : (op : Operation) (word : Option ℕ) (n : ℕ) (j : Judged) → IsWithin n j → IsWithin (n + 1) (operation_judged op word j)
operation_within Reads word n j h = record {
  reads = omega (arith, h.reads);
  made = omega (arith, h.made);
  unmade = omega (arith, h.unmade);
  shown = omega (arith, h.shown);
  resets = omega (arith, h.resets);
}
operation_within (Locks function bytes) word n j h = by (is_quadlet_swap function bytes)
  where
    by : (b : Bool) → IsWithin (n + 1) (cond b (swap_judged (shows word (quadlet_at bytes 0)) j) j)
    by true = swap_within (shows word (quadlet_at bytes 0)) n j h
    by false = within_more n j h

answer_within : (o : Option Request) (r : Response) (n : ℕ) (j : Judged) → IsWithin n j → IsWithin (n + 1) (answer_judged o r j)
answer_within None r n j h = within_more n j h
answer_within (Some q) r n j h = by (r.rcode == 0) (is_some (watched_offset q.address))
  where
    by : (complete watched : Bool) → IsWithin (n + 1) (cond complete (cond watched (operation_judged q.operation r.word j) j) j)
    by true true = operation_within q.operation r.word n j h
    by true false = within_more n j h
    by false watched = within_more n j h

response_within : (l : Account) (c : Option ℕ) (r : Response) (n : ℕ) (j : Judged) → IsWithin n j → IsWithin (n + 1) (response_judged l c r j)
response_within l None r n j h = within_more n j h
response_within l (Some c) r n j h = answer_within (l.outstanding c) r n j h

packet_within : (l : Account) (x : Looked) (n : ℕ) (j : Judged) → IsWithin n j → IsWithin (n + 1) (packet_judged l x j)
packet_within l (Asks id) n j h = within_more n j h
packet_within l (Replies r) n j h = response_within l (device_of_id l.latest r.requester) r n j h
packet_within l (Shows s) n j h = within_more n j h
packet_within l (Happens e) n j h = within_more n j h
packet_within l Other n j h = within_more n j h

pub entry_within : (l : Account) (e : Entry) (n : ℕ) (j : Judged) → IsWithin n j → IsWithin (n + 1) (entry_judged l e j)
entry_within l (Reset r) n j h = record {
  reads = omega (arith, h.reads);
  made = omega (arith, h.made);
  unmade = omega (arith, h.unmade);
  shown = omega (arith, h.shown);
  resets = omega (arith, h.resets);
}
entry_within l (Async p) n j h = packet_within l (looked_packet p) n j h
entry_within l (Iso p) n j h = within_more n j h
entry_within l (Event e) n j h = within_more n j h
entry_within l (Outcome o) n j h = within_more n j h
entry_within l (Shown s) n j h = by (is_watched s.offset)
  where
    by : (b : Bool) → IsWithin (n + 1) (cond b (record j { shown = j.shown + 1 }) j)
    by true = record { reads = omega (arith, h.reads); made = omega (arith, h.made); unmade = omega (arith, h.unmade); shown = omega (arith, h.shown); resets = omega (arith, h.resets) }
    by false = within_more n j h
entry_within l End n j h = within_more n j h
