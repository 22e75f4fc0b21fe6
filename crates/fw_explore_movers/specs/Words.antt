-- The words after `explore`: what they name, and the first that is refused.
use Rattle.std.specs.Prelude.{ℕ, ◌≡◌, ◌+◌, ◌<◌, ◌≤◌, ◌==◌, ◌&&◌, ◌||◌, ◌⊎◌, List, [], ◌∷◌, ◌++◌, Bool, true, false, Option, Some, None, codes, length, slice_index, IsTrue, IsFalse, if◌then◌else◌}
use Rattle.std.specs.List.{Any}
use Rattle.std.specs.Char.{is_ascii_digit}
use Rattle.fw_script_command.specs.Form.{HasForm}
use Rattle.fw_script_command.specs.Pieces.{pieces}
use Rattle.fw_script_command.specs.Words.{number_in, is}
use Rattle.fw_script_command.specs.declared.command.Command.{Command}
use Rattle.fw_script_command.specs.declared.command.Command.TheVariants as Commands
use Rattle.fw_explore_movers.specs.declared.mover.Mover.{Mover}
use Rattle.fw_explore_movers.specs.declared.mover.MoverKind.TheVariants.{HalfSteps, Once}
use Rattle.fw_explore_movers.specs.declared.mover.Line.{Line}
use Rattle.fw_explore_movers.specs.declared.fault.WordsFault.{WordsFault}
use Rattle.fw_explore_movers.specs.declared.fault.WordsFault.TheVariants.{Usage, Refused as RefusedWord, NoMemory}
use Rattle.fw_explore_movers.specs.declared.fault.WordWhy.{WordWhy}
use Rattle.fw_explore_movers.specs.declared.fault.WordWhy.TheVariants.{BadNumber, LineTooLong, BadLine, NotHere, TooMany, Twice}
use Rattle.fw_explore_movers.specs.declared.mover.Explored.{Explored}

-- ---- forms

-- a command that may be a mover as it stands: it changes what controllers meet, and writes little
unfoldable pub may_move : Command → Bool
may_move (Commands.Cable a b) = true
may_move (Commands.Reset name) = true
may_move (Commands.Connect name out into channel overhead) = true
may_move (Commands.Broadcast name out overhead) = true
may_move (Commands.Listen name into) = true
may_move (Commands.Break name slot) = true
may_move (Commands.Die name late) = true
may_move (Commands.Start name) = true
may_move (Commands.Lose name) = true
may_move (Commands.Candidate name) = true
may_move (Commands.Wait cycles) = true
may_move _ = false

-- and one that may stand after `then`
unfoldable pub may_follow : Command → Bool
may_follow (Commands.Device name kind ports speed) = false
may_follow Commands.Withhold = false
may_follow Commands.End = false
may_follow _ = true

-- the keyword of half steps
abbrev pub takes_steps : List ℕ → Bool
takes_steps keyword = is (codes "step") keyword || is (codes "contend") keyword

-- the line of half steps that a word of so many pieces stands for: of `NAME`, which has no space, and of `step NAME` and `contend NAME`
unfoldable pub half_step_line : List (List ℕ) → List ℕ → Option (List ℕ)
half_step_line (name ∷ []) word = Some (codes "step " ++ word ++ codes " 1")
half_step_line (keyword ∷ name ∷ []) word = if takes_steps keyword then Some (word ++ codes " 1") else None
half_step_line _ word = None

abbrev pub line_of_half_steps : List ℕ → Option (List ℕ)
line_of_half_steps word = half_step_line (pieces 32 word) word

-- the line has a form, and does not end a script
pub record IsLine (c : Command) (line : List ℕ) : Type 0 where
  pub form : HasForm c line
  pub no_end : c ≡ Commands.End → ⊥

-- it is no line
abbrev pub IsNoLine : List ℕ → Type 0
IsNoLine line = (c : Command) → IsLine c line → ⊥

-- ---- what is read

-- what the words so far name, and whether `then` was among them
pub record Read : Type 0 where
  pub most : ℕ
  pub movers : List Mover
  pub following : List Line
  pub follows : Bool

abbrev pub nothing_read : Read
nothing_read = record { most = 200; movers = []; following = []; follows = false }

-- a mover has this line
abbrev pub HasMover : Read → List ℕ → Type 0
HasMover r line = Any (λ m. m.line.items ≡ line) r.movers

-- word 1 is a number if it begins with a digit
abbrev pub is_number : ℕ → List ℕ → Bool
is_number n word = (n == 1) && is_ascii_digit (slice_index word 0)

-- a mover more, of the word with this number
abbrev pub with_mover : Read → Mover → Read
with_mover r m = record r { movers = r.movers ++ m ∷ [] }

abbrev pub with_line : Read → Line → Read
with_line r l = record r { following = r.following ++ l ∷ [] }

-- the n-th word, from 1, is read
pub data Reads (n : ℕ) (word : List ℕ) : Read → Read → Type 0 where
  number : {r : Read} {k : ℕ} → IsTrue (is_number n word) → number_in 1 10000 word ≡ Some k → Reads n word r (record r { most = k })
  goes_on : {r : Read} → IsFalse (is_number n word) → IsFalse r.follows → word ≡ codes "then" → Reads n word r (record r { follows = true })
  half_steps : {r : Read} {line : List ℕ} → (m : Mover) → IsFalse (is_number n word) → IsFalse r.follows → (word ≡ codes "then" → ⊥) → line_of_half_steps word ≡ Some line → HasForm m.command line
      → m.line.items ≡ line → m.kind ≡ HalfSteps → m.word ≡ n → length r.movers < 32 → (HasMover r line → ⊥) → Reads n word r (with_mover r m)
  line : {r : Read} → (m : Mover) → IsFalse (is_number n word) → IsFalse r.follows → line_of_half_steps word ≡ None → length word ≤ 256 → IsLine m.command word → IsTrue (may_move m.command)
      → m.line.items ≡ word → m.kind ≡ Once → m.word ≡ n → length r.movers < 32 → Reads n word r (with_mover r m)
  following : {r : Read} → (l : Line) → IsFalse (is_number n word) → IsTrue r.follows → length word ≤ 256 → IsLine l.command word → IsTrue (may_follow l.command)
      → l.text.items ≡ word → l.word ≡ n → length r.following < 64 → Reads n word r (with_line r l)

-- ---- what is refused

-- a word stands for a line: after `then` each does, and before it those that stand for no half steps
abbrev pub StandsForLine : Read → List ℕ → Type 0
StandsForLine r word = IsTrue r.follows ⊎ (line_of_half_steps word ≡ None)

-- and may be no line of this kind there
abbrev pub may_stand : Bool → Command → Bool
may_stand follows c = if follows then may_follow c else may_move c

-- there is no room for one more
abbrev pub IsFull : Read → Type 0
IsFull r = (IsFalse r.follows × 32 ≤ length r.movers) ⊎ (IsTrue r.follows × 64 ≤ length r.following)

-- the n-th word is refused, the first reason first
pub data Refused (n : ℕ) (word : List ℕ) (r : Read) : WordWhy → Type 0 where
  no_number : IsTrue (is_number n word) → number_in 1 10000 word ≡ None → Refused n word r BadNumber
  too_long : IsFalse (is_number n word) → StandsForLine r word → 256 < length word → Refused n word r LineTooLong
  no_line : IsFalse (is_number n word) → StandsForLine r word → length word ≤ 256 → IsNoLine word → Refused n word r BadLine
  no_mover : {line : List ℕ} → IsFalse (is_number n word) → IsFalse r.follows → (word ≡ codes "then" → ⊥) → line_of_half_steps word ≡ Some line → ((c : Command) → HasForm c line → ⊥)
      → Refused n word r BadLine
  not_here : (c : Command) → IsFalse (is_number n word) → StandsForLine r word → length word ≤ 256 → IsLine c word → IsFalse (may_stand r.follows c) → Refused n word r NotHere
  too_many : (c : Command) → IsFalse (is_number n word) → StandsForLine r word → length word ≤ 256 → IsLine c word → IsTrue (may_stand r.follows c) → IsFull r → Refused n word r TooMany
  one_too_many : {line : List ℕ} → (c : Command) → IsFalse (is_number n word) → IsFalse r.follows → (word ≡ codes "then" → ⊥) → line_of_half_steps word ≡ Some line → HasForm c line
      → 32 ≤ length r.movers → Refused n word r TooMany
  again : {line : List ℕ} → (c : Command) → IsFalse (is_number n word) → IsFalse r.follows → (word ≡ codes "then" → ⊥) → line_of_half_steps word ≡ Some line → HasForm c line
      → length r.movers < 32 → HasMover r line → Refused n word r Twice

-- ---- all words

-- the words are read, the first with the number n
pub data ReadsAll : ℕ → List (List ℕ) → Read → Read → Type 0 where
  all_read : {n : ℕ} {r : Read} → ReadsAll n [] r r
  reads : {n : ℕ} {word : List ℕ} {words : List (List ℕ)} {r s t : Read} → Reads n word r s → ReadsAll (n + 1) words s t → ReadsAll n (word ∷ words) r t

-- they name this
pub record IsExploredBy (words : List (List ℕ)) (x : Explored) : Type 0 where
  pub read : Read
  pub reads_all : ReadsAll 1 words nothing_read read
  pub most : x.most ≡ read.most
  pub movers : x.movers.items ≡ read.movers
  pub following : x.following.items ≡ read.following
  pub some : read.movers ≡ [] → ⊥

-- no mover is among them
pub record HasNoMover (words : List (List ℕ)) : Type 0 where
  pub read : Read
  pub reads_all : ReadsAll 1 words nothing_read read
  pub none : read.movers ≡ []

-- the word with this number is the first that is refused
pub record IsFirstRefused (words : List (List ℕ)) (n : ℕ) (why : WordWhy) : Type 0 where
  pub prefix : List (List ℕ)
  pub word : List ℕ
  pub rest : List (List ℕ)
  pub parts : words ≡ prefix ++ word ∷ rest
  pub number : n ≡ length prefix + 1
  pub read : Read
  pub reads_prefix : ReadsAll 1 prefix nothing_read read
  pub refused : Refused n word read why

-- a word was read, or is refused for this reason, and nothing was read
abbrev pub Took : ℕ → List ℕ → Read → Read → Option WordWhy → Type 0
Took n word old new None = Reads n word old new
Took n word old new (Some why) = Refused n word old why

-- why words are no exploration; memory may be refused wherever it is wanted
abbrev pub IsNoExploration : List (List ℕ) → WordsFault → Type 0
IsNoExploration words Usage = HasNoMover words
IsNoExploration words (RefusedWord fault) = IsFirstRefused words fault.word fault.why
IsNoExploration words NoMemory = Unit {0}
