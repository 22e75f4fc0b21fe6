-- The line of a usual packet from its parts, and what is there after it was appended.
use Rattle.std.specs.Prelude.{◌≡◌, ℕ, ◌==◌, List, ◌++◌, codes, decimal, if◌then◌else◌}
use Rattle.fw_words.specs.Quadlet.{field}
use Rattle.fw_text.specs.Texts.{hex}
use Rattle.fw_async.specs.declared.packet.Head.{Head}
use Rattle.fw_async.specs.declared.packet.Packet.{Packet}
use Rattle.fw_log_entry.specs.declared.entry.Entry.TheVariants.{Async}
use Rattle.fw_log_requests.specs.declared.asked.Asked.{Asked}
use Rattle.fw_log_requests.specs.Requests.{standing_following}
use Rattle.fw_log_explain.specs.Lines.{head_text, line}
use Rattle.fw_log_explain.specs.Tails.{tail_text}
use Rattle.fw_log_explain.specs.declared.tail.Tail.{Tail}
use Rattle.fw_log_explain.specs.declared.tail.TailWords.{TailWords}
use Rattle.fw_log_explain.specs.declared.tail.TailWords.TheVariants.{Value, NoValue}

-- its cycle and its head, and what it says after these
abbrev pub usual_line : ℕ → Head → Tail → List ℕ
usual_line cycle h t = decimal cycle ++ codes " " ++ head_text h ++ (tail_text t ++ codes "\n")

-- what a cycle start says after its label: the fields of CYCLE_TIME (IEEE 1394-1995, 8.3.2.3.1)
abbrev pub time_text : ℕ → List ℕ
time_text time =
    codes " cycle_start CYCLE_TIME " ++ hex 8 time ++ (codes ", second_count " ++ decimal (field time 0 6)) ++ (codes ", cycle_count " ++ decimal (field time 7 19))
    ++ (codes ", cycle_offset " ++ decimal (field time 20 31))

-- a cycle start that a node of the local bus sends to all, after its cycle
abbrev pub start_line : ℕ → ℕ → ℕ → List ℕ
start_line source label time = codes "node " ++ decimal source ++ (codes " to broadcast label " ++ decimal label) ++ time_text time ++ codes "\n"

-- what a response to a read brings: the value, if it is complete
abbrev pub value_words : ℕ → ℕ → TailWords
value_words rcode value = if rcode == 0 then Value value else NoValue rcode

-- after a packet of this cycle, after which these requests were outstanding: its line was appended, and those outstanding are those after it
pub record IsTold (before after : List ℕ) (list rest : List Asked) (cycle : ℕ) (p : Packet) : Type 0 where
  pub text : after ≡ before ++ line list (record { cycle = cycle; what = Async p })
  pub requests : rest ≡ standing_following p list
