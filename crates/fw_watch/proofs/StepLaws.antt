-- Entries that are taken without a value made of them: what they tell, and what is known after them.
use Rattle.std.proofs.Common.{◌≡◌, ap, sym, ◌∙◌, ℕ, true, List, [], ◌++◌, Option}
use Rattle.fw_log_entry.specs.declared.nodes.NodeRow.{NodeRow}
use Rattle.fw_log_entry.specs.declared.entry.ResetEntry.{ResetEntry}
use Rattle.fw_log_entry.specs.declared.entry.Entry.{Entry}
use Rattle.fw_watch_known.specs.declared.hear.Packet.{Packet}
use Rattle.fw_watch_known.specs.declared.state.State.{State}
use Rattle.fw_async.specs.declared.packet.Packet.{Packet as AsyncPacket}
use Rattle.fw_watch_requests.specs.declared.asked.Answer.{Answer}
use Rattle.fw_watch_requests.specs.declared.asked.Asked.{Asked}
use Rattle.fw_watch_requests.specs.Standing.{answer_of, standing_following}
use Rattle.fw_watch.specs.Answering.{answered_remarks, after_answered, with_packet, packet_remarks, after_packet}
use Rattle.fw_watch_known.specs.declared.hear.Heard.{Heard}
use Rattle.fw_watch_known.specs.Heard.{is_usual, heard}
use Rattle.fw_watch_known.specs.States.{reset_state}
use Rattle.fw_watch_known.proofs.UsualLaws.{usual_row, usual_heard}
use Rattle.fw_watch_remarks.specs.Remarks.{WatchOutput, told}
use Rattle.fw_watch.specs.Hearing.{start_remarks, two_remarks, free_remarks, owners_remarks, wrong_remarks, heard_remarks}
use Rattle.fw_watch.specs.Holding.{held_remarks}
use Rattle.fw_log_latest.specs.Latest.{IsBusOf}
use Rattle.fw_watch.specs.Steps.{at_cycle, reset_remarks, what_remarks, after_what, ticked, remarks, after}
use Rattle.fw_watch.proofs.WatchLaws.{told_more}

-- a packet that shows nothing tells nothing
pub usual_silent : (s : State) (p : Packet) → is_usual s p ≡ true → heard_remarks s p ≡ []
unfolding heard_remarks start_remarks wrong_remarks two_remarks free_remarks owners_remarks
usual_silent s p h =
    ap (λ (o : Option ℕ). start_remarks o p ++ wrong_remarks (heard s p) p) (usual_row s p h).sender ∙ ap (λ (x : Heard). wrong_remarks x p) (usual_heard s p h)

-- what a packet tells that is an answer, and what is known after it
pub answer_lines : (s : State) (standing : List Asked) (o : Option Answer) (p : AsyncPacket) (cycle : ℕ) → o ≡ answer_of s.standing p → standing ≡ standing_following p s.standing
    → answered_remarks o cycle (record s { standing = standing }) ≡ packet_remarks cycle p s
unfolding packet_remarks
answer_lines s standing o p cycle e f =
    ap (λ (l : List Asked). answered_remarks o cycle (record s { standing = l })) f ∙ ap (λ (a : Option Answer). answered_remarks a cycle (with_packet p s)) e

pub answer_known : (s : State) (standing : List Asked) (o : Option Answer) (p : AsyncPacket) (cycle : ℕ) → o ≡ answer_of s.standing p → standing ≡ standing_following p s.standing
    → after_answered o cycle (record s { standing = standing }) ≡ after_packet cycle p s
unfolding after_packet
answer_known s standing o p cycle e f =
    ap (λ (l : List Asked). after_answered o cycle (record s { standing = l })) f ∙ ap (λ (a : Option Answer). after_answered a cycle (with_packet p s)) e

-- an entry tells what it records after the time has told its part
pub entry_lines : (s ticks : State) (old mid new : WatchOutput) (cycle : ℕ) (what : Entry) → mid ≡ told old (held_remarks 64 cycle s) → ticks ≡ ticked cycle s
    → new ≡ told mid (what_remarks cycle what ticks) → new ≡ told old (remarks s (at_cycle cycle what))
unfolding remarks
entry_lines s ticks old mid new cycle what e f g =
    g ∙ ap (λ (j : WatchOutput). told j (what_remarks cycle what ticks)) e ∙ ap (λ (x : State). told (told old (held_remarks 64 cycle s)) (what_remarks cycle what x)) f
    ∙ sym (told_more old (held_remarks 64 cycle s) (what_remarks cycle what (ticked cycle s)))

pub entry_known : (s ticks new : State) (cycle : ℕ) (what : Entry) → ticks ≡ ticked cycle s → new ≡ after_what cycle what ticks → new ≡ after s (at_cycle cycle what)
unfolding after
entry_known s ticks new cycle what f g = g ∙ ap (λ (x : State). after_what cycle what x) f

-- of a reset no more is looked at
pub same_reset_remarks : (cycle : ℕ) (whole r : ResetEntry) → IsBusOf whole r → reset_remarks cycle r ≡ reset_remarks cycle whole
unfolding reset_remarks
same_reset_remarks cycle whole r x =
    ap (λ (n : ℕ). reset_remarks cycle (record r { epoch = n })) (sym x.epoch)
    ∙ ap (λ (l : List NodeRow). reset_remarks cycle (record r { epoch = whole.epoch; nodes = l })) (sym x.nodes)
    ∙ ap (λ (m : Option ℕ). reset_remarks cycle (record r { epoch = whole.epoch; nodes = whole.nodes; manager = m })) (sym x.manager)

pub same_reset_state : (cycle : ℕ) (whole r : ResetEntry) (s : State) → IsBusOf whole r → reset_state cycle r s ≡ reset_state cycle whole s
unfolding reset_state
same_reset_state cycle whole r s x =
    ap (λ (n : ℕ). reset_state cycle (record r { epoch = n }) s) (sym x.epoch)
    ∙ ap (λ (l : List NodeRow). reset_state cycle (record r { epoch = whole.epoch; nodes = l }) s) (sym x.nodes)
    ∙ ap (λ (m : Option ℕ). reset_state cycle (record r { epoch = whole.epoch; nodes = whole.nodes; manager = m }) s) (sym x.manager)
