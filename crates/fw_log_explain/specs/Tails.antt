-- What the usual packets say after their heads.
use Rattle.std.specs.Prelude.{ℕ, List, ◌++◌, codes}
use Rattle.std.specs.Int.{to_be_bytes, w32}
use Rattle.fw_words.specs.declared.swap.Swap.{Swap as ASwap}
use Rattle.fw_words.specs.declared.swap.TheConstants.{COMPARE_SWAP}
use Rattle.fw_log_registers.specs.declared.place.RegisterPlace.{RegisterPlace}
use Rattle.fw_log_registers.specs.Places.{place_of}
use Rattle.fw_log_registers.specs.Words.{word_text}
use Rattle.fw_log_explain.specs.Lines.{at_text, function_text, rcode_text, swap_text, swapped_text, written_quadlet, written_block}
use Rattle.fw_log_explain.specs.declared.tail.Tail.{Tail}
use Rattle.fw_log_explain.specs.declared.tail.TailWords.{TailWords}
use Rattle.fw_log_explain.specs.declared.tail.TailWords.TheVariants.{Read, Value, NoValue, Swap, Old, Write, WritePair, Written}

-- a read
unfoldable pub reading_text : RegisterPlace → List ℕ
reading_text place = codes " read_quadlet_request" ++ at_text place

-- what a read brings
unfoldable pub brought_text : RegisterPlace → ℕ → List ℕ
brought_text place value = codes " read_quadlet_response" ++ rcode_text 0 ++ at_text place ++ word_text place value

-- a compare_swap
unfoldable pub change_text : RegisterPlace → ASwap → List ℕ
change_text place s = codes " lock_request" ++ function_text COMPARE_SWAP ++ at_text place ++ swap_text place s

-- what a compare_swap found, and did
unfoldable pub changed_text : RegisterPlace → ASwap → ℕ → List ℕ
changed_text place s old = codes " lock_response" ++ rcode_text 0 ++ function_text COMPARE_SWAP ++ at_text place ++ swapped_text place s old

-- that a read brings nothing
unfoldable pub failed_text : RegisterPlace → ℕ → List ℕ
failed_text place rcode = codes " read_quadlet_response" ++ rcode_text rcode ++ at_text place

-- a write of a quadlet
unfoldable pub write_text : RegisterPlace → ℕ → List ℕ
write_text place value = codes " write_quadlet_request" ++ (at_text place ++ written_quadlet place value)

-- a write of a block of two quadlets
unfoldable pub pair_text : RegisterPlace → ℕ → ℕ → List ℕ
pair_text place first second = codes " write_block_request" ++ (at_text place ++ written_block place (to_be_bytes w32 first ++ to_be_bytes w32 second))

-- the response to a write
unfoldable pub written_text : RegisterPlace → ℕ → List ℕ
written_text place rcode = codes " write_response" ++ rcode_text rcode ++ at_text place

-- by the offset of the request
unfoldable pub words_text : ℕ → TailWords → List ℕ
words_text offset Read = reading_text (place_of offset)
words_text offset (Value value) = brought_text (place_of offset) value
words_text offset (NoValue rcode) = failed_text (place_of offset) rcode
words_text offset (Write value) = write_text (place_of offset) value
words_text offset (WritePair first second) = pair_text (place_of offset) first second
words_text offset (Swap s) = change_text (place_of offset) s
words_text offset (Old s old) = changed_text (place_of offset) s old
words_text offset (Written rcode) = written_text (place_of offset) rcode

abbrev pub tail_text : Tail → List ℕ
tail_text t = words_text t.offset t.words
