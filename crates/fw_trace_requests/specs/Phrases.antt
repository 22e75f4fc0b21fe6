-- What is told of a place again and again: what is asked of it, a word that stands there, what a swap changes, a read or a swap with its answer, and a
-- write with the frame that it carries.
use Rattle.std.specs.Prelude.{ℕ, List, ◌++◌, None, Some}
use Rattle.fw_log_registers.specs.declared.place.RegisterPlace.{RegisterPlace}
use Rattle.fw_log_registers.specs.Places.{place_of}
use Rattle.fw_log_requests.specs.declared.asked.Answer.TheVariants.{Write as WriteResponse, ReadQuadlet as ReadQuadletResponse, Lock as LockResponse}
use Rattle.fw_trace_requests.specs.declared.phrase.Phrase.{Phrase}
use Rattle.fw_trace_requests.specs.declared.phrase.Words.{Words}
use Rattle.fw_trace_requests.specs.declared.phrase.Words.TheVariants.{Write, Read, Lock, Word, Change, Brought, Proposed, Swapped, Written}
use Rattle.fw_trace_names.specs.Names.{Naming}
use Rattle.fw_trace_names.specs.Registers.{named_word, changes_of}
use Rattle.fw_trace_requests.specs.Answers.{swap_asked, asked_at, if_made, made_text}
use Rattle.fw_trace_requests.specs.Carried.{frame_told}

-- by its place
unfoldable pub words_text : Naming → RegisterPlace → Words → List ℕ
words_text n place Write = asked_at WriteResponse place None
words_text n place Read = asked_at ReadQuadletResponse place None
words_text n place (Lock swap) = asked_at LockResponse place swap
words_text n place (Word word) = named_word n place word
words_text n place (Change s) = changes_of n place s
words_text n place (Brought word) = asked_at ReadQuadletResponse place None ++ named_word n place word
words_text n place (Proposed s) = swap_asked place (Some s) ++ if_made (changes_of n place s)
words_text n place (Swapped s word) = swap_asked place (Some s) ++ made_text n place s word
words_text n place (Written carried) = asked_at WriteResponse place None ++ frame_told carried

abbrev pub phrase_text : Naming → Phrase → List ℕ
phrase_text n p = words_text n (place_of p.offset) p.words
