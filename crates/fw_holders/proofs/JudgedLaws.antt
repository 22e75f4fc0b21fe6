-- What is counted of entries.
use Rattle.fw_holders.proofs.Common.{◌≡◌, Some, sym, ap, ◌∙◌, subst, Entry, Reset, Async, Iso, Account, Request, Looked, Asks, Replies, Shows, Happens, Other, Response, looked, looked_packet}
use Rattle.fw_holders.proofs.Common.{ShowsAnswer, IsAnswered, Answer, Judged, packet_judged, entry_judged}
use Rattle.fw_log_entry.specs.declared.entry.Entry.TheVariants.{Event, Outcome, Shown, End}
use Rattle.fw_account_tables.specs.Stands.{AskedFor}
use Rattle.fw_holders.specs.Counts.{answer_judged, response_judged}

-- a response counts by the request that it ends
pub answered_packet : (l : Account) (r : Response) (a : Answer) (h : IsAnswered l r a) (j : Judged) → answer_judged (Some h.request) r j ≡ packet_judged l (Replies r) j
answered_packet l r a h j =
    ap (λ o. answer_judged o r j) (sym h.answer.outstanding) ∙ ap (λ o. response_judged l o r j) (sym h.answer.device)

packet_taken : (l : Account) (x : Looked) (a : Answer) (j k : Judged) → ShowsAnswer l x (Some a)
    → ((q : Request) (r : Response) → AskedFor a.asked (Some q) → a.rcode ≡ r.rcode → a.shown ≡ r.word → k ≡ answer_judged (Some q) r j) → k ≡ packet_judged l x j
packet_taken l (Asks id) a j k h f = let z : ⊥ = cc in absurd z
packet_taken l (Replies r) a j k h f =
    let same : h.0 ≡ a = let e = h.1 in cc in
    let w : IsAnswered l r a = subst (IsAnswered l r) same h.2 in
    f w.request r w.asked w.rcode w.shown ∙ answered_packet l r a w j
packet_taken l (Shows s) a j k h f = let z : ⊥ = cc in absurd z
packet_taken l (Happens e) a j k h f = let z : ⊥ = cc in absurd z
packet_taken l Other a j k h f = let z : ⊥ = cc in absurd z

-- an entry that is a response counts as the response does
pub taken_answer : (l : Account) (e : Entry) (a : Answer) (j k : Judged) → ShowsAnswer l (looked e) (Some a)
    → ((q : Request) (r : Response) → AskedFor a.asked (Some q) → a.rcode ≡ r.rcode → a.shown ≡ r.word → k ≡ answer_judged (Some q) r j) → k ≡ entry_judged l e j
taken_answer l (Reset r) a j k h f = let z : ⊥ = cc in absurd z
taken_answer l (Async p) a j k h f = packet_taken l (looked_packet p) a j k h f
taken_answer l (Iso p) a j k h f = let z : ⊥ = cc in absurd z
taken_answer l (Event e) a j k h f = let z : ⊥ = cc in absurd z
taken_answer l (Outcome o) a j k h f = let z : ⊥ = cc in absurd z
taken_answer l (Shown s) a j k h f = let z : ⊥ = cc in absurd z
taken_answer l End a j k h f = let z : ⊥ = cc in absurd z
