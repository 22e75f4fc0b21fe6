-- What is told of a refused line.
use Rattle.std.specs.Prelude.{ℕ, List, [], ◌∷◌, ◌++◌, codes, Option, Some, None}
use Rattle.fw_script_command.specs.Keyword.{keyword_in}
use Rattle.fw_script_command.specs.declared.keyword.Keyword.{Keyword}
use Rattle.fw_script_command.specs.declared.keyword.Keyword.TheVariants.{End}
use Rattle.fw_check.specs.BadLines.{bad_line}
use Rattle.fw_check.specs.Forms.{form_line}
use Rattle.fw_check.specs.Shown.{headed, shown, word_at}
use Rattle.fw_check.specs.Whys.{rule_name, why_text}
use Rattle.fw_check.specs.declared.why.Why.{Why}

-- no line is `end`
abbrev pub no_end_text : ℕ → List ℕ
no_end_text number = headed number (codes "(the end of the input)") ++ codes "NoEnd: no line is `end`" ++ 10 ∷ form_line End

-- a line is too long
abbrev pub long_line_text : ℕ → List ℕ → List ℕ
long_line_text number line = headed number (shown line) ++ codes "LineTooLong: the line has more than 256 bytes" ++ 10 ∷ []

-- a line has no form, or follows `end` of the line with the last number
abbrev pub bad_line_text : ℕ → List ℕ → ℕ → List ℕ
bad_line_text number line end = headed number (shown line) ++ bad_line line end

-- the form of a line whose first word this is
abbrev pub form_of_line : Option Keyword → List ℕ
form_of_line None = []
form_of_line (Some k) = form_line k

-- a line's command breaks a rule
abbrev pub rule_text : ℕ → List ℕ → Why → List ℕ
rule_text number line why = headed number (shown line) ++ rule_name why ++ codes ": " ++ why_text line why ++ 10 ∷ form_of_line (keyword_in (word_at line 1))
