-- What stands on the bus between two half steps: pairs of a sender's node number and the bytes of its request.
use Rattle.std.specs.Prelude.{◌≡◌, ◌≢◌, ℕ, ◌<◌, ◌≤◌, List, [], not, eqb, length, take, get_or, map, true, Option}
use Rattle.std.specs.List.{filter, list_any, IsDistinct}
use Rattle.std.specs.Map.{lookup}

-- a sender's node number, and the bytes of its packet
abbrev pub Pairs : Type 0
Pairs = List (ℕ × List ℕ)

-- the bytes of a sender's pair, if one stands
abbrev pub bytes_from : ℕ → Pairs → Option (List ℕ)
bytes_from from pairs = lookup (eqb from) pairs

-- the pairs of all others, in their order
abbrev pub without : ℕ → Pairs → Pairs
without from pairs = filter (λ pair. not (eqb from pair.0)) pairs

-- the bytes in a sender's row
abbrev pub bytes_at : List ℕ → List (List ℕ) → ℕ → List ℕ
bytes_at lengths rows sender = take (get_or lengths sender 0) (get_or rows sender [])

-- the pairs of these senders, whose bytes stand in their rows
abbrev pub pairs_at : List ℕ → List (List ℕ) → List ℕ → Pairs
pairs_at lengths rows senders = map (λ sender. (sender, bytes_at lengths rows sender)) senders

-- No sender stands twice, and bytes stand in a row exactly if its sender does.
pub record IsKept (lengths senders : List ℕ) : Type 0 where
  pub apart : IsDistinct eqb senders
  pub size : length lengths ≡ 63
  pub whole : (s : ℕ) → get_or lengths s 0 ≤ 528
  pub standing : (s : ℕ) → list_any (eqb s) senders ≡ true → (s < 63) × (get_or lengths s 0 ≢ 0)
  pub free : (s : ℕ) → get_or lengths s 0 ≢ 0 → list_any (eqb s) senders ≡ true
