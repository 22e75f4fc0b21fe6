-- Why a line is no command.
use Rattle.std.specs.Prelude.{ℕ, List, [], ◌∷◌, ◌++◌, codes, decimal, Option, Some, None, if◌then◌else◌}
use Rattle.fw_script_command.specs.Form.{after_first}
use Rattle.fw_script_command.specs.Keyword.{keyword_in}
use Rattle.fw_script_command.specs.Pieces.{pieces}
use Rattle.fw_script_command.specs.Types.{types_of}
use Rattle.fw_script_command.specs.declared.keyword.Keyword.{Keyword}
use Rattle.fw_script_command.specs.declared.keyword.Keyword.TheVariants.{Command}
use Rattle.fw_check.specs.Forms.{expected, form_line, command_lines}
use Rattle.fw_check.specs.Misfits.{first_misfit}
use Rattle.fw_check.specs.Shown.{named_word, word_at}
use Rattle.fw_check.specs.Slips.{begins_with_byte, slip_of, slip_text}
use Rattle.fw_check.specs.WordSlips.{lowered, word_slip}
use Rattle.fw_check.specs.declared.misfit.Misfit.{Misfit}
use Rattle.fw_check.specs.declared.misfit.Misfit.TheVariants.{Missing, Unfit, Extra}
use Rattle.fw_check.specs.declared.slip.Slip.{Slip}

-- what a word too many may be
abbrev pub surplus : Keyword → List ℕ → List ℕ
surplus Command w = if begins_with_byte 35 w then codes ": a comment has a line of its own" else codes ": the bytes of HEX stand together"
surplus _ w = if begins_with_byte 35 w then codes ": a comment has a line of its own" else []

-- what is told of the word that the form refuses
abbrev pub misfit_text : Keyword → List ℕ → Misfit → List ℕ
misfit_text k line (Missing number t) = codes "word " ++ decimal number ++ codes " is missing; expected " ++ expected t
misfit_text k line (Unfit number t) = named_word line number ++ word_slip t (word_at line number) ++ codes "; expected " ++ expected t
misfit_text k line (Extra number) = named_word line number ++ codes ", one too many" ++ surplus k (word_at line number)

-- what is told of a line whose first word is this command
abbrev pub form_refusal : Keyword → List ℕ → Option Misfit → List ℕ
form_refusal k line None = []
form_refusal k line (Some m) = misfit_text k line m ++ 10 ∷ form_line k

-- what is told of a line whose first word is no command, by what it is with small letters
abbrev pub no_command : List ℕ → Option Keyword → List ℕ
no_command line (Some k) = named_word line 1 ++ codes ", with capital letters; expected a command" ++ 10 ∷ form_line k
no_command line None = named_word line 1 ++ codes "; expected a command" ++ 10 ∷ command_lines

-- what is told of the words of a line, by its first word
abbrev pub words_refusal : List ℕ → Option Keyword → List ℕ
words_refusal line (Some k) = form_refusal k line (first_misfit 2 (types_of k) (after_first (pieces 32 line)))
words_refusal line None = no_command line (keyword_in (lowered (word_at line 1)))

-- why a line has no form: a slip of the line, or its first word that is none
abbrev pub line_refusal : List ℕ → Option Slip → List ℕ
line_refusal line (Some slip) = slip_text slip ++ 10 ∷ []
line_refusal line None = words_refusal line (keyword_in (word_at line 1))

-- what is told of a line that has no form, or follows `end`
abbrev pub bad_line : List ℕ → ℕ → List ℕ
bad_line line end = codes "BadLine: " ++ line_refusal line (slip_of line end)
