-- Answers about watched registers: what they tell, and what is known after them.
use Rattle.std.specs.Prelude.{ℕ, ◌&&◌, not, nat_le, List, [], ◌∷◌, ◌++◌, Option, Some, None, if◌then◌else◌}
use Rattle.fw_words.specs.declared.swap.Swap.{Swap}
use Rattle.fw_async.specs.declared.packet.Packet.{Packet}
use Rattle.fw_watch_remarks.specs.declared.register.At.{At}
use Rattle.fw_watch_remarks.specs.declared.remark.Remark.TheVariants.{NotManager}
use Rattle.fw_watch_remarks.specs.Registers.{is_managed}
use Rattle.fw_watch_remarks.specs.Knowing.{nothing_known}
use Rattle.fw_watch_remarks.specs.Remarks.{Said, said}
use Rattle.fw_watch_requests.specs.declared.asked.Answer.{Answer}
use Rattle.fw_watch_known.specs.declared.state.State.{State}
use Rattle.fw_watch_known.specs.declared.swap.Made.{Made}
use Rattle.fw_watch_requests.specs.Standing.{answer_of, standing_following}
use Rattle.fw_watch_known.specs.States.{manager_by, manager_node, is_manager, with_known}
use Rattle.fw_watch_known.specs.Judging.{judged}
use Rattle.fw_watch_known.specs.Swapped.{swapped}
use Rattle.fw_watch.specs.declared.answer.Heed.{Heed}
use Rattle.fw_watch.specs.declared.answer.Heed.TheVariants.{Ignore, Refuse, Follow}
use Rattle.fw_watch.specs.Judging.{judge_remarks}
use Rattle.fw_watch.specs.Swaps.{swap_remarks}

-- what is to be done with an answer: of a node that there is not nothing, and a managed register is followed at the resource manager alone
unfoldable pub heed : State → At → Heed
heed s at =
    if nat_le s.count at.node then Ignore
    else if is_managed at.register && not (is_manager at.node (manager_by at.node s.manager)) then Refuse else Follow

-- a swap that an answer has made
abbrev pub made : ℕ → Answer → Swap → Made
made cycle a swap = record { cycle = cycle; by = a.by; at = a.at; old = swap.argument; new = swap.new }

-- a swap that was made, if one was, at a node that is not the resource manager
abbrev pub refused_swap : Option Swap → State → ℕ → Answer → List Said
refused_swap None s cycle a = []
refused_swap (Some swap) s cycle a = said cycle (NotManager a.by a.at (manager_node s.manager)) ∷ []

-- an answer of such a node
unfoldable pub not_manager_remarks : State → ℕ → Answer → List Said
not_manager_remarks s cycle a = refused_swap a.swap s cycle a

-- a swap that was made, if one was
unfoldable pub made_remarks : ℕ → Answer → Option Swap → State → List Said
made_remarks cycle a None s = []
made_remarks cycle a (Some swap) s = swap_remarks s (made cycle a swap)

-- what is known then
unfoldable pub after_made : ℕ → Answer → Option Swap → State → State
after_made cycle a None s = s
after_made cycle a (Some swap) s = swapped s (made cycle a swap)

-- an answer that shows a word: it is judged, and then the swap is taken
unfoldable pub found_remarks : ℕ → Answer → ℕ → State → List Said
found_remarks cycle a found s = judge_remarks s cycle a.at found ++ made_remarks cycle a a.swap (judged s a.at found)

-- what is known then
unfoldable pub after_found : ℕ → Answer → ℕ → State → State
after_found cycle a found s = after_made cycle a a.swap (judged s a.at found)

-- the node of a managed register has answered as the resource manager
unfoldable pub with_manager : At → State → State
with_manager at s = if is_managed at.register then record s { manager = manager_by at.node s.manager } else s

-- an answer that shows a word, or none
abbrev pub shown_by : Option ℕ → ℕ → Answer → State → List Said
shown_by None cycle a s = []
shown_by (Some found) cycle a s = found_remarks cycle a found s

-- what is known then: of a register that showed no word nothing
abbrev pub after_shown_by : Option ℕ → ℕ → Answer → State → State
after_shown_by None cycle a s = with_known s a.at nothing_known
after_shown_by (Some found) cycle a s = after_found cycle a found s

-- an answer that is followed
unfoldable pub followed_remarks : ℕ → Answer → State → List Said
followed_remarks cycle a s = shown_by a.found cycle a (with_manager a.at s)

-- what is known then
unfoldable pub after_followed : ℕ → Answer → State → State
after_followed cycle a s = after_shown_by a.found cycle a (with_manager a.at s)

-- an answer with which this is to be done
abbrev pub heeded_remarks : Heed → ℕ → Answer → State → List Said
heeded_remarks Ignore cycle a s = []
heeded_remarks Refuse cycle a s = not_manager_remarks s cycle a
heeded_remarks Follow cycle a s = followed_remarks cycle a s

-- what is known then
abbrev pub after_heeded : Heed → ℕ → Answer → State → State
after_heeded Ignore cycle a s = s
after_heeded Refuse cycle a s = s
after_heeded Follow cycle a s = after_followed cycle a s

-- an answer
unfoldable pub answer_remarks : ℕ → Answer → State → List Said
answer_remarks cycle a s = heeded_remarks (heed s a.at) cycle a s

-- what is known then
unfoldable pub after_answer : ℕ → Answer → State → State
after_answer cycle a s = after_heeded (heed s a.at) cycle a s

-- the answer that a packet is, if it is one
abbrev pub answered_remarks : Option Answer → ℕ → State → List Said
answered_remarks None cycle s = []
answered_remarks (Some a) cycle s = answer_remarks cycle a s

-- what is known then
abbrev pub after_answered : Option Answer → ℕ → State → State
after_answered None cycle s = s
after_answered (Some a) cycle s = after_answer cycle a s

-- the outstanding requests after a packet
abbrev pub with_packet : Packet → State → State
with_packet p s = record s { standing = standing_following p s.standing }

-- a packet
unfoldable pub packet_remarks : ℕ → Packet → State → List Said
packet_remarks cycle p s = answered_remarks (answer_of s.standing p) cycle (with_packet p s)

-- what is known then
unfoldable pub after_packet : ℕ → Packet → State → State
after_packet cycle p s = after_answered (answer_of s.standing p) cycle (with_packet p s)
