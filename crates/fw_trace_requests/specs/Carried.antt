-- What is told of what a request carries.
use Rattle.std.specs.Prelude.{ℕ, List, [], ◌++◌}
use Rattle.std.specs.Int.{to_be_bytes, w32}
use Rattle.fw_log_frames.specs.Frames.{frame_text}
use Rattle.fw_trace_requests.specs.declared.carried.Carried.{Carried}
use Rattle.fw_trace_requests.specs.declared.carried.Carried.TheVariants.{Nothing, Quadlet, Pair}

-- the bytes of two quadlets
abbrev pub pair_bytes : ℕ → ℕ → List ℕ
pair_bytes first second = to_be_bytes w32 first ++ to_be_bytes w32 second

-- the frame that is carried, if any
unfoldable pub frame_told : Carried → List ℕ
frame_told Nothing = []
frame_told (Quadlet quadlet) = frame_text (to_be_bytes w32 quadlet)
frame_told (Pair first second) = frame_text (pair_bytes first second)
