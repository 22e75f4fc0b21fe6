-- What holds of the requests that are kept.
use Rattle.std.specs.Prelude.{◌≡◌, ◌≤◌, ◌%◌, Bool, true, false, List, [], ◌∷◌, length, slice_index_or}
use Rattle.std.specs.List.{All}
use Rattle.fw_async.specs.declared.packet.Head.{Head}
use Rattle.fw_watch_requests.specs.Standing.{is_of}
use Rattle.fw_watch_requests.specs.declared.asked.Asked.{Asked}

-- what a packet begins with that is of the requester, the node and the label of a request
abbrev pub head_as : Asked → Head
head_as q = record { destination = q.destination; tl = q.label; rt = 0; pri = 0; source = q.source }

-- none of them is of the requester, node and label of a request with this head
abbrev pub AreOthers : Head → List Asked → Type 0
AreOthers h list = All (λ r. is_of h r ≡ false) list

-- no two are of the same requester, node and label
abbrev pub AreApart : List Asked → Type 0
AreApart [] = Unit {0}
AreApart (q ∷ qs) = AreOthers (head_as q) qs × AreApart qs

-- who asked is marked by the last six bits of its node_ID
abbrev pub AreAskers : List Bool → List Asked → Type 0
AreAskers askers list = All (λ q. slice_index_or askers (q.source % 64) false ≡ true) list

-- the requests that are kept: few, apart, and who asked is marked
pub record AreKept (askers : List Bool) (list : List Asked) : Type 0 where
  pub few : length list ≤ 256
  pub apart : AreApart list
  pub marked : AreAskers askers list
