-- Ends of connections, as the tables of seats have them.
use Rattle.std.specs.Prelude.{ℕ, ◌+◌, nat_lt, Bool, List, slice_index, if◌then◌else◌}
use Rattle.fw_terms.specs.declared.plug.PlugAt.{PlugAt}
use Rattle.fw_model_account.specs.Decode.{is_owner}
use Rattle.fw_account_tables.specs.Stands.{owner_of, seats_at}
use Rattle.fw_account_tables.specs.declared.tables.Seats.{Seats}

-- at a plug that is there or not
abbrev pub ends_if : Bool → Seats → ℕ → ℕ
ends_if there seats c = if there then slice_index seats.counts c + (if is_owner c (owner_of seats.broadcaster) then 1 else 0) else 0

-- at a plug, by how many plugs each device has
abbrev pub ends_in : List ℕ → List Seats → ℕ → PlugAt → ℕ
ends_in counts seats c p = ends_if (nat_lt p.plug (slice_index counts p.device)) (seats_at seats p) c
