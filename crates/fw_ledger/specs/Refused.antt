-- Why the account has no next one after an entry, and which response it is after which there is one.
use Rattle.std.specs.Prelude.{◌≡◌, ℕ, Option, Some, None, Result, Ok, Err}
use Rattle.std.specs.Option.{option_map}
use Rattle.fw_async.specs.declared.packet.Head.{Head}
use Rattle.fw_words.specs.declared.swap.Swap.{Swap}
use Rattle.fw_log_entry.specs.Network.{device_of_id}
use Rattle.fw_model_account.specs.Account.{Account, Request}
use Rattle.fw_model_account.specs.Decode.{move_at}
use Rattle.fw_model_account.specs.Packets.{Reply}
use Rattle.fw_model_account.specs.Words.{Register, register_of, word_of}
use Rattle.fw_model_audit.specs.Looked.{Response, Looked, Asks, Replies, Shows, Happens, Other, IsAnswer}
use Rattle.fw_model_audit.specs.Faults.{HasNoNode, Overlaps, IsOrphan, IsNoMove, IsNoEvent}
use Rattle.fw_account_tables.specs.Stands.{StandsFor, AskedFor}
use Rattle.fw_ledger.specs.declared.answer.Answer.{Answer}
use Rattle.fw_ledger.specs.declared.refused.Refused.{Refused}
use Rattle.fw_ledger.specs.declared.refused.Refused.TheVariants.{NoNode, Overlap, Orphan, NoMove, NoEvent}
use Rattle.fw_account_tables.specs.declared.tables.Tables.{Tables}

-- the word that the register at the place of a request has, if one of the account stands there
abbrev pub word_asked : Account → Request → Option ℕ
word_asked l q = option_map (word_of l) (register_of l.latest q.target q.address)

-- the register at the place of the request that a response answers has this word
abbrev pub IsDue : Account → Looked → ℕ → Type 0
IsDue l x word = (r : Response) (q : Request) → x ≡ Replies r → IsAnswer l r q → word_asked l q ≡ Some word

-- The entry is refused for this. One of these holds if there is no next account, and only one.
abbrev pub IsRefusedFor : Account → Looked → Refused → Type 0
IsRefusedFor l x (NoNode id) = HasNoNode l x id
IsRefusedFor l x (Overlap id) = Overlaps l x id
IsRefusedFor l x (Orphan id) = IsOrphan l x id × ((c : ℕ) × (device_of_id l.latest id ≡ Some c))
IsRefusedFor l x (NoMove swap due) = IsNoMove l x swap.argument swap.new × IsDue l x due
IsRefusedFor l x (NoEvent code) = IsNoEvent l x code

-- the response ends this request, and shows this
pub record IsAnswered (l : Account) (r : Response) (a : Answer) : Type 0 where
  pub requester : a.requester ≡ r.requester
  pub rcode : a.rcode ≡ r.rcode
  pub shown : a.shown ≡ r.word
  pub request : Request
  pub answer : IsAnswer l r request
  pub asked : AskedFor a.asked (Some request)
  pub due : a.due ≡ word_asked l request

-- the answer that an entry is: the responses of procedures alone are
abbrev pub ShowsAnswer : Account → Looked → Option Answer → Type 0
ShowsAnswer l (Asks id) a = a ≡ None
ShowsAnswer l (Replies r) a = (b : Answer) × (a ≡ Some b) × IsAnswered l r b
ShowsAnswer l (Shows s) a = a ≡ None
ShowsAnswer l (Happens e) a = a ≡ None
ShowsAnswer l Other a = a ≡ None

-- the response in a packet of this head
abbrev pub response_in : Head → ℕ → Reply → Option ℕ → Response
response_in h rcode reply word = record { requester = h.destination; responder = h.source; rcode = rcode; reply = reply; word = word }

-- the swap of a register of the account is no move of controller c
abbrev pub IsSwapRefused : Account → ℕ → Option Register → Option Swap → Refused → Type 0
IsSwapRefused l c register done f =
    (r : Register) × (s : Swap) × (register ≡ Some r) × (done ≡ Some s) × (move_at l c r s.argument s.new ≡ None) × (f ≡ NoMove s (word_of l r))

-- the account goes on, and the tables with it
abbrev pub GoesOn : Tables → Option Account → Type 0
GoesOn new None = ⊥
GoesOn new (Some m) = StandsFor new m

-- The tables after an entry whose next account is this, and what is said of it: if there is none the entry is refused for a
-- reason that holds, and they are unchanged.
abbrev pub Takes : {A : Type 0} → Result A Refused → (A → Type 0) → Tables → Tables → Option Account → (Refused → Type 0) → Type 0
Takes (Ok a) says old new next why = says a × GoesOn new next
Takes (Err f) says old new next why = (next ≡ None) × (new ≡ old) × why f
