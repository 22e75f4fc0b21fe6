-- What holds of the requests that are kept.
use Rattle.std.specs.Prelude.{◌≡◌, ◌≤◌, ◌%◌, Bool, true, false, List, [], ◌∷◌, length, slice_index_or}
use Rattle.std.specs.List.{All}
use Rattle.fw_log_requests.specs.Requests.{is_same}
use Rattle.fw_log_requests.specs.declared.asked.Asked.{Asked}

-- none of them has the source, destination and label of this one
abbrev pub AreOthers : Asked → List Asked → Type 0
AreOthers q list = All (λ r. is_same q r ≡ false) list

-- no two have the same source, destination and label
abbrev pub AreApart : List Asked → Type 0
AreApart [] = Unit {0}
AreApart (q ∷ qs) = AreOthers q qs × AreApart qs

-- who asked is marked by the last six bits of its node_ID
abbrev pub AreAskers : List Bool → List Asked → Type 0
AreAskers askers list = All (λ q. slice_index_or askers (q.source % 64) false ≡ true) list

-- the requests that are kept: few, apart, and who asked is marked
pub record AreKept (askers : List Bool) (list : List Asked) : Type 0 where
  pub few : length list ≤ 256
  pub apart : AreApart list
  pub marked : AreAskers askers list
