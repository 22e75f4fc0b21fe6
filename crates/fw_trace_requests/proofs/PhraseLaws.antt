-- What is told of a place without a name is the same by any names.
use Rattle.std.proofs.Common.{◌≡◌, refl, ap, ℕ, ◌==◌, List, ◌++◌, Some, None, if◌then◌else◌}
use Rattle.std.specs.Prelude.{codes}
use Rattle.fw_text.specs.Texts.{quadlet_text}
use Rattle.fw_log_registers.specs.declared.place.RegisterPlace.{RegisterPlace}
use Rattle.fw_log_registers.specs.declared.told.RegisterValue.{RegisterValue}
use Rattle.fw_log_registers.specs.declared.told.RegisterValue.TheVariants.{Word as TheWord, Swap as TheSwap}
use Rattle.fw_log_requests.specs.declared.asked.Answer.TheVariants.{ReadQuadlet as ReadQuadletResponse}
use Rattle.fw_trace_names.specs.Names.{Naming}
use Rattle.fw_trace_requests.specs.Answers.{asked_at, swap_asked, if_made, made_text, not_made_text}
use Rattle.fw_trace_names.specs.Registers.{named_told, named_word}
use Rattle.fw_trace_requests.specs.Phrases.{words_text}
use Rattle.fw_trace_requests.specs.declared.phrase.Words.{Words}
use Rattle.fw_trace_requests.specs.declared.phrase.Words.TheVariants.{Write, Read, Lock, Word, Change, Brought, Proposed, Swapped, Written}

pub words_same : (n m : Naming) (place : RegisterPlace) → ((told : RegisterValue) → named_told n place told ≡ named_told m place told) → (words : Words)
    → words_text n place words ≡ words_text m place words
unfolding words_text named_word made_text not_made_text
words_same n m place same Write = refl
words_same n m place same Read = refl
words_same n m place same (Lock swap) = refl
words_same n m place same (Word word) = ap (λ (x : List ℕ). quadlet_text word ++ x) (same (TheWord word))
words_same n m place same (Change s) = same (TheSwap s.argument s.new)
words_same n m place same (Brought word) =
    ap (λ (x : List ℕ). asked_at ReadQuadletResponse place None ++ (quadlet_text word ++ x)) (same (TheWord word))
words_same n m place same (Proposed s) = ap (λ (x : List ℕ). swap_asked place (Some s) ++ if_made x) (same (TheSwap s.argument s.new))
words_same n m place same (Swapped s word) =
    λ i. swap_asked place (Some s)
    ++ (if word == s.argument then codes ": made" ++ same (TheSwap s.argument s.new) i else codes ": not made," ++ (quadlet_text word ++ same (TheWord word) i))
words_same n m place same (Written carried) = refl
