-- The latest request of each node under each label, since the latest bus reset.
use Rattle.std.specs.Prelude.{ℕ, ◌≡◌, ◌==◌, ◌&&◌, Bool, false, List, [], ◌∷◌, Option, Some, None, if◌then◌else◌}
use Rattle.std.specs.List.{All, position}
use Rattle.fw_async.specs.declared.packet.Head.{Head}
use Rattle.fw_log_entry.specs.declared.entry.Entry.{Entry}
use Rattle.fw_log_entry.specs.declared.entry.Entry.TheVariants.{Reset, Async}
use Rattle.fw_log_requests.specs.declared.asked.Asked.{Asked}
use Rattle.fw_log_requests.specs.Requests.{asked_by, asked_at}

-- the request is this node's, under this label
abbrev pub is_from : ℕ → ℕ → Asked → Bool
is_from source label q = (q.source == source) && (q.label == label)

-- none of them is of this node under this label
abbrev pub AreOthers : ℕ → ℕ → List Asked → Type 0
AreOthers source label list = All (λ q. is_from source label q ≡ false) list

-- no two are of one node under one label
abbrev pub AreApart : List Asked → Type 0
AreApart [] = Unit {0}
AreApart (q ∷ qs) = AreOthers q.source q.label qs × AreApart qs

-- the requests after one more, which takes the place of the one before it of its node and label
unfoldable pub with_latest : Asked → List Asked → List Asked
with_latest q [] = q ∷ []
with_latest q (r ∷ rs) = if is_from q.source q.label r then q ∷ rs else r ∷ with_latest q rs

-- the requests after a packet, if it is one
abbrev pub with_asked : Option Asked → List Asked → List Asked
with_asked None list = list
with_asked (Some q) list = with_latest q list

-- the requests after an entry: a bus reset ends all
abbrev pub requests_after : Entry → List Asked → List Asked
requests_after (Reset r) list = []
requests_after (Async p) list = with_asked (asked_by p) list
requests_after e list = list

-- the latest request of whom a response goes to, under its label
unfoldable pub latest_asked : Head → List Asked → Option Asked
latest_asked h list = asked_at list (position (is_from h.destination h.tl) list)
