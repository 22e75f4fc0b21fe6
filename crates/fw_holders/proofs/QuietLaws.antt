-- Entries that no audit looks at have no line, and nothing is counted of them.
use Rattle.fw_holders.proofs.Common.{◌≡◌, Bool, true, false, cond, ◌+◌, ◌<◌, ◌^◌, ℕ, length, Option, Some, None, List, [], ◌∷◌, ◌++◌, refl, ap, sym, ◌∙◌, append-nil, Async, Iso, NodeRow, device_of_id}
use Rattle.fw_holders.proofs.Common.{Account, Looked, Asks, Replies, Shows, Happens, Other, looked_packet, Judged, packet_judged, packet_told, Holds, HolderState, TakesMore, holders, line_of}
use Rattle.std.proofs.Common.{nat_le, option_map}
use Rattle.fw_async.specs.declared.packet.Packet.{Packet}
use Rattle.fw_cip.specs.declared.packet.IsoPacket.{IsoPacket}
use Rattle.fw_log_entry.specs.declared.entry.Timed.{Timed}
use Rattle.fw_log_entry.specs.Network.{first_id}
use Rattle.fw_model_account.specs.Fold.{no_account}
use Rattle.fw_model_audit.specs.Faults.{HasNoFault}
use Rattle.fw_model_audit.specs.declared.fault.AuditFault.TheVariants.{NoNode}
use Rattle.fw_audit.specs.Found.{IsPassedOver}
use Rattle.fw_holders.specs.Told.{IsQuiet}
use Rattle.fw_holders.proofs.HoldsLaws.{holds_push, line_push}

-- before any bus reset there is no node
nowhere : (id : ℕ) → device_of_id None id ≡ None
nowhere id = by (nat_le first_id id)
  where
    by : (b : Bool) → option_map (λ (row : NodeRow). row.device) (cond b None None) ≡ None
    by true = refl
    by false = refl

-- so a response has a fault over the account of no entries
packet_untold : (l : Account) (x : Looked) → HasNoFault no_account x → packet_told l x ≡ None
packet_untold l (Replies r) h = absurd (h (NoNode r.requester) (refl, nowhere r.requester))
packet_untold l (Asks id) h = refl
packet_untold l (Shows s) h = refl
packet_untold l (Happens e) h = refl
packet_untold l Other h = refl

packet_uncounted : (l : Account) (x : Looked) (j : Judged) → HasNoFault no_account x → packet_judged l x j ≡ j
packet_uncounted l (Replies r) j h = absurd (h (NoNode r.requester) (refl, nowhere r.requester))
packet_uncounted l (Asks id) j h = refl
packet_uncounted l (Shows s) j h = refl
packet_uncounted l (Happens e) j h = refl
packet_uncounted l Other j h = refl

pub quiet_packet : (p : Packet) → IsPassedOver (Async p) → IsQuiet (Async p)
quiet_packet p passed = record {
  passed = passed;
  untold = λ l. packet_untold l (looked_packet p) (passed no_account).1;
  uncounted = λ l j. packet_uncounted l (looked_packet p) j (passed no_account).1;
}

pub quiet_iso : (p : IsoPacket) → IsPassedOver (Iso p) → IsQuiet (Iso p)
quiet_iso p passed = record { passed = passed; untold = λ l. refl; uncounted = λ l j. refl }

quiet_more : (entries : List Timed) (t : Timed) (r : HolderState) → (h : Holds entries r) → IsQuiet t.what → TakesMore h.account t r r
quiet_more entries t r h q = record {
  clear = (q.passed h.account).1;
  account = h.account;
  follows = (q.passed h.account).0;
  stands = h.stands;
  judged = λ n more within. sym (q.uncounted h.account r.judged);
  text = sym (ap (λ (o : Option (List ℕ)). r.text ++ line_of t.cycle o (Some h.account)) (q.untold h.account) ∙ append-nil r.text);
}

-- what is held stays
pub holds_quiet : (entries : List Timed) (t : Timed) (r : HolderState) → length entries + 1 < 2 ^ 64 → Holds entries r → IsQuiet t.what → Holds (entries ++ t ∷ []) r
holds_quiet entries t r few h q = holds_push entries t r r few h (quiet_more entries t r h q)

-- and nothing is written
pub text_quiet : (entries : List Timed) (t : Timed) (r : HolderState) → Holds entries r → IsQuiet t.what → holders entries (t ∷ []) ≡ []
text_quiet entries t r h q =
    sym (line_push entries t h.account h.account h.is_account (q.passed h.account).0) ∙ ap (λ (o : Option (List ℕ)). line_of t.cycle o (Some h.account)) (q.untold h.account)
