-- The forms of a script's lines.
use Rattle.std.specs.Prelude.{◌≡◌, ◌⊎◌, ℕ, List, [], ◌∷◌, Option, Some, None, true, false}
use Rattle.fw_script_command.specs.Pieces.{pieces}
use Rattle.fw_script_command.specs.Words.{name_in, number_in, place_in, kind_in, speed_in, channel_in, system_in, shown_in, offset_in, word_in, frame_in, late_in}
use Rattle.fw_script_command.specs.Keyword.{keyword_in}
use Rattle.fw_script_command.specs.declared.keyword.Keyword.{Keyword}
use Rattle.fw_script_command.specs.declared.keyword.Keyword.TheVariants.{Device, Cable, Reset, Connect, Broadcast, Listen, Break, Step, Settle, Wait, Cycles, Die, Lose}
use Rattle.fw_script_command.specs.declared.keyword.Keyword.TheVariants.{Start, Command as CommandWord, Read, Swap, Insert, Eject, Show, Withhold, Candidate, Contend, Dub, End}
use Rattle.fw_script_command.specs.declared.command.Command.{Command}
use Rattle.fw_script_command.specs.declared.command.Command.TheVariants as Commands

-- what the function reads of the first word: none if there is no word
abbrev pub first_by : {A : Type 0} → (List ℕ → Option A) → List (List ℕ) → Option A
first_by f [] = None
first_by f (w ∷ ws) = f w

-- the words after the first
abbrev pub after_first : List (List ℕ) → List (List ℕ)
after_first [] = []
after_first (w ∷ ws) = ws

-- the function reads the first word, and what it reads and the words after have the property
abbrev pub Word : {A : Type 0} → List (List ℕ) → (List ℕ → Option A) → (A → List (List ℕ) → Type 0) → Type 0
Word {A = A} ws f P = (a : A) × (others : List (List ℕ)) × (first_by f ws ≡ Some a) × (others ≡ after_first ws) × P a others

-- there is one word, the function reads it, and what it reads has the property
abbrev pub Words1 : {A : Type 0} → List (List ℕ) → (List ℕ → Option A) → (A → Type 0) → Type 0
Words1 ws f P = Word ws f (λ a others. (others ≡ []) × P a)

-- there are two words, each function reads its own, and what they read has the property
abbrev pub Words2 : {A B : Type 0} → List (List ℕ) → (List ℕ → Option A) → (List ℕ → Option B) → (A → B → Type 0) → Type 0
Words2 ws f g P = Word ws f (λ a others. Words1 others g (P a))

-- there are three words, each function reads its own, and what they read has the property
abbrev pub Words3 : {A B C : Type 0} → List (List ℕ) → (List ℕ → Option A) → (List ℕ → Option B) → (List ℕ → Option C) → (A → B → C → Type 0) → Type 0
Words3 ws f g h P = Word ws f (λ a others. Words2 others g h (P a))

-- there are four words, each function reads its own, and what they read has the property
abbrev pub Words4 : {A B C D : Type 0} → List (List ℕ) → (List ℕ → Option A) → (List ℕ → Option B) → (List ℕ → Option C) → (List ℕ → Option D) → (A → B → C → D → Type 0) → Type 0
Words4 ws f g h i P = Word ws f (λ a others. Words3 others g h i (P a))

-- there are five words, each function reads its own, and what they read has the property
abbrev pub Words5 : {A B C D E : Type 0} → List (List ℕ) → (List ℕ → Option A) → (List ℕ → Option B) → (List ℕ → Option C) → (List ℕ → Option D) → (List ℕ → Option E) → (A → B → C → D → E → Type 0)
    → Type 0
Words5 ws f g h i j P = Word ws f (λ a others. Words4 others g h i j (P a))

-- the words after the keyword are those of the command: a line for each form of 'KEYWORD WORD ..' (own)
abbrev pub HasArguments : Keyword → List (List ℕ) → Command → Type 0
HasArguments Device ws c = Words4 ws name_in kind_in (number_in 1 27) speed_in (λ name kind ports speed. c ≡ Commands.Device name kind ports speed)
HasArguments Cable ws c = Words2 ws (place_in 26) (place_in 26) (λ one other. c ≡ Commands.Cable one other)
HasArguments Reset ws c = Words1 ws name_in (λ name. c ≡ Commands.Reset name)
HasArguments Connect ws c = Words5 ws name_in (place_in 30) (place_in 30) channel_in (number_in 0 15) (λ name output input channel overhead. c ≡ Commands.Connect name output input channel overhead)
HasArguments Broadcast ws c = Words3 ws name_in (place_in 30) (number_in 0 15) (λ name output overhead. c ≡ Commands.Broadcast name output overhead)
HasArguments Listen ws c = Words2 ws name_in (place_in 30) (λ name input. c ≡ Commands.Listen name input)
HasArguments Break ws c = Words2 ws name_in (number_in 0 31) (λ name slot. c ≡ Commands.Break name slot)
HasArguments Step ws c = Words2 ws name_in (number_in 1 10000) (λ name count. c ≡ Commands.Step name count)
HasArguments Settle ws c = Words1 ws (number_in 1 200000) (λ rounds. c ≡ Commands.Settle rounds)
HasArguments Wait ws c = Words1 ws (number_in 0 1000000000) (λ cycles. c ≡ Commands.Wait cycles)
HasArguments Cycles ws c = Words1 ws (number_in 1 8000) (λ count. c ≡ Commands.Cycles count)
HasArguments Die ws c = Words1 ws name_in (λ name. c ≡ Commands.Die name false) ⊎ Words2 ws name_in late_in (λ name late. c ≡ Commands.Die name true)
HasArguments Lose ws c = Words1 ws name_in (λ name. c ≡ Commands.Lose name)
HasArguments Start ws c = Words1 ws name_in (λ name. c ≡ Commands.Start name)
HasArguments CommandWord ws c = Words3 ws name_in name_in frame_in (λ sender target frame. c ≡ Commands.Command sender target frame)
HasArguments Read ws c = Words3 ws name_in name_in offset_in (λ sender target offset. c ≡ Commands.Read sender target offset)
HasArguments Swap ws c = Words5 ws name_in name_in offset_in word_in word_in (λ sender target offset argument value. c ≡ Commands.Swap sender target offset argument value)
HasArguments Insert ws c = Words3 ws name_in (number_in 0 65535) system_in (λ name tape system. c ≡ Commands.Insert name tape system)
HasArguments Eject ws c = Words1 ws name_in (λ name. c ≡ Commands.Eject name)
HasArguments Show ws c = Words2 ws shown_in offset_in (λ name offset. c ≡ Commands.Show name offset)
HasArguments Withhold ws c = (ws ≡ []) × (c ≡ Commands.Withhold)
HasArguments Candidate ws c = Words1 ws name_in (λ name. c ≡ Commands.Candidate name)
HasArguments Contend ws c = Words2 ws name_in (number_in 1 10000) (λ name count. c ≡ Commands.Contend name count)
HasArguments Dub ws c = Words1 ws name_in (λ name. c ≡ Commands.Dub name)
HasArguments End ws c = (ws ≡ []) × (c ≡ Commands.End)

-- the line, whose words are separated by one space, is the command (own)
pub record HasForm (c : Command) (line : List ℕ) : Type 0 where
  pub first : List ℕ
  pub others : List (List ℕ)
  pub keyword : Keyword
  pub words : pieces 32 line ≡ first ∷ others
  pub named : keyword_in first ≡ Some keyword
  pub arguments : HasArguments keyword others c
