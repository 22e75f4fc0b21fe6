-- The table of forms, and what is read of a line.
use Rattle.std.specs.Prelude.{◌≡◌, ◌↔◌, ℕ, List, true, Some}
use Rattle.fw_script_command.specs.Form.{HasArguments}
use Rattle.fw_script_command.specs.Keyword.{keyword_in}
use Rattle.fw_script_command.specs.Types.{are_fitting, types_of, word_of}
use Rattle.fw_script_command.specs.declared.command.Command.{Command}
use Rattle.fw_script_command.specs.declared.keyword.Keyword.{Keyword}

-- words are read as a command of a keyword exactly if they fit the table
abbrev pub FormsAreOneTable : Type 0
FormsAreOneTable = (k : Keyword) (ws : List (List ℕ)) → (are_fitting (types_of k) ws ≡ true) ↔ ((c : Command) × HasArguments k ws c)

-- each keyword is what is read of its word
abbrev pub KeywordsAreTheirWords : Type 0
KeywordsAreTheirWords = (k : Keyword) → keyword_in (word_of k) ≡ Some k
