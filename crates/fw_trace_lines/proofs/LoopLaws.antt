-- What lines append, one after another.
use Rattle.std.proofs.Common.{◌≡◌, refl, ap, sym, ◌∙◌, ℕ, zero, suc, ◌+◌, List, [], ◌∷◌, ◌++◌, add-one, append_assoc}
use Rattle.fw_trace_lines.specs.declared.streams.Stream.{Stream}
use Rattle.fw_trace_names.specs.Names.{Naming}
use Rattle.std.specs.Prelude.{replicate, slice_index_or}
use Rattle.fw_trace_lines.specs.Streams.{stream_at, no_stream, no_streams}
use Rattle.fw_trace_names.specs.CausedLines.{Caused, caused_text}
use Rattle.fw_trace_lines.specs.Commands.{first_streams, stream_lines}

-- the text of lines after others
pub caused_append : (a b : List Caused) → caused_text (a ++ b) ≡ caused_text a ++ caused_text b
caused_append [] b = refl
caused_append (l ∷ ls) b = ap (λ t. l.text ++ 10 ∷ t) (caused_append ls b) ∙ sym (append_assoc l.text (10 ∷ caused_text ls) (caused_text b))

pub no_streams_text : (n : Naming) (cycle : ℕ) (streams : List Stream) → caused_text (first_streams n cycle streams 0) ≡ []
unfolding first_streams
no_streams_text n cycle streams = refl

pub next_stream : (n : Naming) (cycle : ℕ) (streams : List Stream) (k : ℕ)
    → caused_text (first_streams n cycle streams (k + 1)) ≡ caused_text (first_streams n cycle streams k) ++ caused_text (stream_lines n cycle k (stream_at streams k))
unfolding first_streams
next_stream n cycle streams k = rw (add-one k) (caused_append (first_streams n cycle streams k) (stream_lines n cycle k (stream_at streams k)))

-- no packet on any channel: no lines
silent_at : (n k : ℕ) → slice_index_or (replicate n no_stream) k no_stream ≡ no_stream
silent_at zero k = refl
silent_at (suc n) zero = refl
silent_at (suc n) (suc k) = silent_at n k

silent_lines : (n : Naming) (cycle k : ℕ) → first_streams n cycle no_streams k ≡ []
unfolding first_streams stream_lines
silent_lines n cycle zero = refl
silent_lines n cycle (suc k) =
    ap (λ (l : List Caused). l ++ stream_lines n cycle k (stream_at no_streams k)) (silent_lines n cycle k) ∙ ap (stream_lines n cycle k) (silent_at 64 k)

pub silent_text : (n : Naming) (cycle : ℕ) (streams : List Stream) → streams ≡ no_streams → caused_text (first_streams n cycle streams 64) ≡ []
silent_text n cycle streams e = ap (λ (l : List Stream). caused_text (first_streams n cycle l 64)) e ∙ ap caused_text (silent_lines n cycle 64)
