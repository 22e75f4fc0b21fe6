-- How far a restoring is from its next successful swap or its end, over registers that stand still.
use Rattle.std.specs.Prelude.{ℕ, zero, suc, ◌-◌, ◌==◌, ◌≡◌, ◌⊎◌, not, Bool, true, false, ◌&&◌, ◌||◌, Option, Some, None, is_none, IsTrue, IsFalse, ⊤}
use Rattle.fw_words.specs.declared.swap.Swap.{Swap}
use Rattle.fw_plug.specs.Words.{is_connected}
use Rattle.fw_cmp_jobs.specs.declared.job.Job.{Job}
use Rattle.fw_cmp_jobs.specs.declared.request.Target.{Target}
use Rattle.fw_cmp_jobs.specs.declared.request.Target.TheVariants.{Channels}
use Rattle.fw_cmp_jobs.specs.declared.stage.Stage.{Stage}
use Rattle.fw_cmp_jobs.specs.declared.stage.Stage.TheVariants.{Begin, ReadOutput, ReadChannels, SwapChannels, ConnectOutput, OverlayOutput}
use Rattle.fw_cmp_jobs.specs.Plugs.{half_of, is_bit}
use Rattle.fw_cmp_jobs.specs.Decisions.{restores}
use Rattle.fw_cmp_jobs.specs.Requests.{output_target, input_target, target_of, swap_of}
use Rattle.fw_cmp_jobs.specs.Stages.{hear}

-- ---- registers that stand still: the word that each one shows

-- the word that a register shows, 0 if there is none
abbrev pub shown : (Target → ℕ) → Option Target → ℕ
shown words None = 0
shown words (Some t) = words t

-- the answer to a stage's request
abbrev pub answer_of : (Target → ℕ) → Job → Stage → ℕ
answer_of words j s = shown words (target_of j s)

-- the word of the job's output plug
abbrev pub output_word : (Target → ℕ) → Job → ℕ
output_word words j = shown words (output_target j)

-- the word of the job's input plug
abbrev pub input_word : (Target → ℕ) → Job → ℕ
input_word words j = shown words (input_target j)

-- whether a channel is free
abbrev pub is_channel_free : (Target → ℕ) → ℕ → Bool
is_channel_free words ch = is_bit (words (Channels (half_of ch))) (ch - half_of ch)

-- ---- distance

-- whether a swap succeeds by an answer
abbrev pub is_success : Option Swap → ℕ → Bool
is_success None v = false
is_success (Some x) v = v == x.argument

-- the stage's request is a compare_swap that succeeds
abbrev pub succeeds : (Target → ℕ) → Job → Stage → Bool
succeeds words j s = is_success (swap_of j s) (answer_of words j s)

-- whether the job has made its first request
abbrev pub has_begun : Stage → Bool
has_begun Begin = false
has_begun _ = true

-- whether the job makes no further request
abbrev pub is_over : Job → Stage → Bool
is_over j s = has_begun s && is_none (target_of j s)

-- at most n answers are heard up to a successful swap, or up to the end
unfoldable pub IsNear : ℕ → (Target → ℕ) → Job → Stage → Type 0
IsNear zero words j s = IsTrue (is_over j s)
IsNear (suc n) words j s = IsTrue (has_begun s) × (IsTrue (is_over j s || succeeds words j s) ⊎ IsNear n words j (hear j s (answer_of words j s)))

-- ---- waiting

-- whether a stage holds nothing, and asks for the output plug or for its channel
abbrev pub is_looking : Stage → Bool
is_looking ReadOutput = true
is_looking (ReadChannels base w) = true
is_looking (SwapChannels ch arg w) = true
is_looking (OverlayOutput arg) = true
is_looking _ = false

-- the output plug has no connection, and another has the channel
abbrev pub is_waiting : (Target → ℕ) → Job → ℕ → Stage → Bool
is_waiting words j ch s = is_looking s && (not (is_connected (output_word words j)) && not (is_channel_free words ch))

-- what the words that a stage keeps have shown of the channel and of the plug
abbrev pub Keeps : ℕ → Stage → Type 0
Keeps ch (ReadChannels base w) = base ≡ half_of ch
Keeps ch (SwapChannels k arg w) = k ≡ ch
Keeps ch _ = ⊤

-- who holds a channel and its units for an output plug finds it without a connection
abbrev pub HasPlug : (Target → ℕ) → Job → Stage → Type 0
HasPlug words j (ConnectOutput ch u arg) = IsFalse (is_connected (output_word words j))
HasPlug words j _ = ⊤

-- a restoring of a connection on channel ch
pub record IsRestoring (words : Target → ℕ) (j : Job) (ch : ℕ) (s : Stage) : Type 0 where
  pub restores : IsTrue (restores j)
  pub asked : j.asked ≡ Some ch
  pub keeps : Keeps ch s
  pub plug : HasPlug words j s
