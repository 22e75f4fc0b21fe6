-- The channels of the table.
use Rattle.std.proofs.Common.{◌≡◌, ◌+◌, ℕ, zero, suc, Bool, true, false, List, [], ◌++◌, Option, Some, None, IsTrue, refl, ap, ◌∙◌, arith, codes, decimal}
use Rattle.std.proofs.lemmas.List.{append-nil}
use Rattle.fw_terms.specs.declared.plug.PlugAt.{PlugAt}
use Rattle.fw_log_entry.specs.declared.entry.Timed.{Timed}
use Rattle.fw_log_entry.specs.declared.nodes.NodeRow.{NodeRow}
use Rattle.fw_model_account.specs.Account.{Account, Allocation, Flow, Holder, Pending, Connected, Orphaned, remainder, total}
use Rattle.fw_model_account.specs.Fold.{account_of, entries_of}
use Rattle.fw_model_account.specs.Sound.{IsSound}
use Rattle.fw_model_account.specs.Words.{BandwidthAvailable, word_of}
use Rattle.fw_audit.specs.Unjudged.{unjudged}
use Rattle.fw_holders.specs.Counts.{judged_of}
use Rattle.fw_holders.specs.Held.{holding, holding_of, unallocated, allocated}
use Rattle.fw_holders_text.specs.Names.{nodes_of, plug_text, side_text}
use Rattle.fw_holders.specs.Table.{by_text, channel_line, channel_lines, how_word, judged_line, left_line, plug_lines, table_text, units_words}
use Rattle.fw_holders.specs.Told.{table_by, table_of}
use Rattle.fw_holders_laws.specs.Channels.{account_lines, allocated_line, flow_line, line_with, output_name}

held_line : (nodes : List NodeRow) (ch : ℕ) (holder : Holder) (units : ℕ)
    → channel_line nodes ch (Some (allocated (record { holder = holder; units = units }))) ≡ allocated_line nodes ch (record { holder = holder; units = units })
unfolding channel_line how_word by_text plug_text side_text
held_line nodes ch (Pending c p) units = refl
held_line nodes ch (Connected p) units = refl
held_line nodes ch (Orphaned p) units = refl

free_line : (nodes : List NodeRow) (ch : ℕ) (continues : PlugAt → Bool) (f : Flow) → channel_line nodes ch (unallocated continues (Some f)) ≡ flow_line nodes ch (continues f.plug) f
unfolding channel_line how_word by_text plug_text side_text
free_line nodes ch continues f = by (continues f.plug) refl
  where
    by : (b : Bool) → continues f.plug ≡ b → channel_line nodes ch (unallocated continues (Some f)) ≡ flow_line nodes ch b f
    by true t = rw t (ap (λ x. x ++ codes "\n") (append-nil (codes "channel " ++ decimal ch ++ codes " continues: " ++ output_name nodes f.plug ++ units_words f.units)))
    by false t = rw t (ap (λ x. x ++ codes "\n") (append-nil (codes "channel " ++ decimal ch ++ codes " reclaimable: " ++ output_name nodes f.plug ++ units_words f.units)))

no_line : (nodes : List NodeRow) (ch : ℕ) (continues : PlugAt → Bool) → channel_line nodes ch (unallocated continues None) ≡ []
unfolding channel_line
no_line nodes ch continues = refl

line_at : (nodes : List NodeRow) (ch : ℕ) (continues : PlugAt → Bool) (x : Option Allocation) (f : Option Flow)
    → channel_line nodes ch (holding_of x (unallocated continues f)) ≡ line_with nodes ch continues x f
line_at nodes ch continues (Some x) f = held_line nodes ch x.holder x.units
line_at nodes ch continues None (Some f) = free_line nodes ch continues f
line_at nodes ch continues None None = no_line nodes ch continues

pub lines_are : (n : ℕ) (l : Account) → channel_lines n l ≡ account_lines n l
unfolding channel_lines account_lines
lines_are zero l = refl
lines_are (suc n) l =
    ap (λ xs. xs ++ channel_line (nodes_of l.latest) n (holding l n)) (lines_are n l)
    ∙ ap (λ xs. account_lines n l ++ xs) (line_at (nodes_of l.latest) n l.continues (l.allocations n) (l.reclaimable n))

pub table_is : (entries : List Timed) (l : Account) → account_of (entries_of entries) ≡ Some l
    → table_of entries ≡ account_lines 64 l ++ plug_lines 63 l ++ left_line (word_of l BandwidthAvailable) (unjudged entries) ++ judged_line (judged_of entries) (unjudged entries)
unfolding table_text
table_is entries l at =
    ap (λ o. table_by o (judged_of entries) (unjudged entries)) at
    ∙ ap (λ xs. xs ++ plug_lines 63 l ++ left_line (remainder l) (unjudged entries) ++ judged_line (judged_of entries) (unjudged entries)) (lines_are 64 l)

second_runs : (l : Account) (b : Bool) (ch : ℕ) (f : Flow) → l.reclaiming ≡ b → IsSound l → l.reclaimable ch ≡ Some f → IsTrue l.reclaiming
second_runs l true ch f t s e = t
second_runs l false ch f t s e = let none = s.reclaimable_ends t ch in let z : ⊥ = cc in absurd z

pub flows_end : (l : Account) (ch : ℕ) (f : Flow) → IsSound l → l.reclaimable ch ≡ Some f → IsTrue l.reclaiming
flows_end l ch f s e = second_runs l l.reclaiming ch f refl s e

pub rest_is_left : (l : Account) → IsSound l → total l.allocations + word_of l BandwidthAvailable ≡ 4915
rest_is_left l s = omega (arith, s.load)
