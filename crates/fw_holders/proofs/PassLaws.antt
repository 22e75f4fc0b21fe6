-- What is held after a packet that was taken from its bytes.
use Rattle.fw_holders.proofs.Common.{◌≡◌, ℕ, ◌+◌, ◌<◌, ◌^◌, Some, None, Ok, List, [], ◌∷◌, ◌++◌, length, refl, ap, sym, subst, ◌∙◌, append-nil, device_of_id, Entry, Async, Account, Request, Looked}
use Rattle.fw_holders.proofs.Common.{Asks, Replies, Shows, Happens, Other, Response, looked_packet, IsAnswered, ShowsAnswer, StandsFor, Answer, Tables, packet_judged, IsWithin, packet_told}
use Rattle.fw_holders.proofs.Common.{Holds, HolderState, TakesMore, holders, line_of, Judged}
use Rattle.fw_async.specs.declared.packet.Packet.{Packet}
use Rattle.fw_log_entry.specs.declared.entry.Timed.{Timed}
use Rattle.fw_model_account.specs.Packets.{answered}
use Rattle.fw_model_account.specs.Sound.{IsSound}
use Rattle.fw_audit.specs.Found.{Judges}
use Rattle.fw_account_tables.specs.Stands.{AskedFor}
use Rattle.fw_holders.specs.Counts.{answer_judged}
use Rattle.fw_holders.specs.Found.{HasReply}
use Rattle.fw_holders.proofs.HoldsLaws.{holds_push, text_push}
use Rattle.fw_holders.proofs.JudgedLaws.{taken_answer}
use Rattle.fw_holders.proofs.TakeLaws.{entry_answers, not_shown, packet_quiet}

-- an entry of this cycle
abbrev pub entry_at : ℕ → Entry → Timed
entry_at cycle e = record { cycle = cycle; what = e }

-- a packet of this cycle
abbrev pub packet_of : ℕ → Packet → Timed
packet_of cycle p = entry_at cycle (Async p)

same_entry : (cycle : ℕ) (e : Entry) (t : Timed) → t.cycle ≡ cycle → t.what ≡ e → entry_at cycle e ≡ t
same_entry cycle e t at what = ap (λ (n : ℕ). record t { cycle = n; what = e }) (sym at) ∙ ap (λ (w : Entry). record t { what = w }) (sym what)

-- what a call says that takes it
pub passes_entry : (entries : List Timed) (old new : HolderState) (cycle : ℕ) (e : Entry) (t : Timed) → t.cycle ≡ cycle → t.what ≡ e → length entries + 1 < 2 ^ 64 → (h : Holds entries old)
    → TakesMore h.account (entry_at cycle e) old new → Holds (entries ++ t ∷ []) new × (new.text ≡ old.text ++ holders entries (t ∷ []))
passes_entry entries old new cycle e t at what few h m =
    let P : Timed → Type 0 = λ u. Holds (entries ++ u ∷ []) new × (new.text ≡ old.text ++ holders entries (u ∷ [])) in
    subst P (same_entry cycle e t at what) (holds_push entries (entry_at cycle e) old new few h m, text_push entries (entry_at cycle e) old new h m)

pub passes : (entries : List Timed) (old new : HolderState) (cycle : ℕ) (p : Packet) (t : Timed) → t.cycle ≡ cycle → t.what ≡ Async p → length entries + 1 < 2 ^ 64 → (h : Holds entries old)
    → TakesMore h.account (packet_of cycle p) old new → Holds (entries ++ t ∷ []) new × (new.text ≡ old.text ++ holders entries (t ∷ []))
passes entries old new cycle p t at what few h m = passes_entry entries old new cycle (Async p) t at what few h m

-- a response is counted, and its line is appended
pub answer_more : (l : Account) (cycle : ℕ) (p : Packet) (a : Answer) (old new : HolderState) → IsSound l → Judges new.tables l (Async p) (Ok (Some a))
    → ((q : Request) (r : Response) (n : ℕ) → AskedFor a.asked (Some q) → a.rcode ≡ r.rcode → a.shown ≡ r.word → n + 1 < 2 ^ 64 → IsWithin n old.judged
    → new.judged ≡ answer_judged (Some q) r old.judged)
    → ((k : Account) (r : Response) → StandsFor new.tables k → HasReply r.reply r.rcode r.word → answered (device_of_id l.latest r.requester) r.responder r.reply l ≡ Some k → IsAnswered l r a
    → new.text ≡ old.text ++ line_of cycle (packet_told l (Replies r)) (Some k))
    → TakesMore l (packet_of cycle p) old new
answer_more l cycle p a old new sound taken counts put =
    let k : Account = taken.1.0 in
    let x = entry_answers l k (Async p) a taken.2 taken.1.1 in
    record {
      clear = taken.0;
      account = k;
      follows = taken.1.1;
      stands = taken.1.2;
      judged = λ n more within. taken_answer l (Async p) a old.judged new.judged taken.2 (λ q r asked rcode shown. counts q r n asked rcode shown more within);
      text = put k x.response taken.1.2 x.reply x.answered x.is ∙ ap (λ o. old.text ++ line_of cycle o (Some k)) (sym x.told);
    }

packet_unjudged : (l : Account) (x : Looked) (j : Judged) → ShowsAnswer l x None → packet_judged l x j ≡ j
packet_unjudged l (Asks id) j h = refl
packet_unjudged l (Replies r) j h = not_shown h.0 h.1
packet_unjudged l (Shows s) j h = refl
packet_unjudged l (Happens e) j h = refl
packet_unjudged l Other j h = refl

-- another packet is not, and has none
pub other_more : (l : Account) (cycle : ℕ) (p : Packet) (old : HolderState) (tables : Tables) → Judges tables l (Async p) (Ok None)
    → TakesMore l (packet_of cycle p) old (record old { tables = tables })
other_more l cycle p old tables taken = record {
  clear = taken.0;
  account = taken.1.0;
  follows = taken.1.1;
  stands = taken.1.2;
  judged = λ n more within. sym (packet_unjudged l (looked_packet p) old.judged taken.2);
  text = sym (append-nil old.text) ∙ ap (λ o. old.text ++ line_of cycle o (Some taken.1.0)) (sym (packet_quiet l (looked_packet p) taken.2));
}
