-- Controllers by the numbers of kept ones.
use Rattle.std.specs.Prelude.{ℕ, ◌≡◌, List, Bool, map, slice_index_or}
use Rattle.fw_cmp.specs.Losses.{Listening, first_listening}
use Rattle.fw_bus_state.specs.Tables.{ControllerTable}

-- the controllers under these numbers
abbrev pub controllers_at : List Listening → List ℕ → List Listening
controllers_at kept numbers = map (λ k. slice_index_or kept k first_listening) numbers
