-- A line tells of a bus reset its epoch, its initiator, its nodes and its resource manager, and nothing more.
use Rattle.fw_trace.proofs.Common.{◌≡◌, ◌++◌, refl, sym, ap, ◌∙◌, ℕ, List, Ok, Err, Telling, Traced, PutsEntry, caused_text}
use Rattle.fw_log_entry.specs.declared.entry.Entry.TheVariants.{Reset}
use Rattle.fw_log_entry.specs.declared.entry.ResetEntry.{ResetEntry}
use Rattle.fw_log_latest.specs.Latest.{IsBusOf}
use Rattle.fw_trace_names.specs.CausedLines.{Caused}
use Rattle.std.proofs.Common.{Result}
use Rattle.fw_trace_lines.specs.Caused.{entry_lines, lines_by, own_lines, telling_after, what_text}
use Rattle.fw_trace_lines.specs.Told.{reset_text}

-- with any root and any self-ID packets
abbrev with_rest : ResetEntry → ResetEntry → ResetEntry
with_rest r s = record { epoch = s.epoch; root = r.root; manager = s.manager; initiator = s.initiator; nodes = s.nodes; ids = r.ids }

-- the reset has them of the other
is_rest : (r s : ResetEntry) → IsBusOf r s → with_rest r s ≡ r
is_rest r s x = λ i. record { epoch = sym x.epoch i; root = r.root; manager = sym x.manager i; initiator = sym x.initiator i; nodes = sym x.nodes i; ids = r.ids }

rest_lines : (t : Telling) (cycle : ℕ) (r s : ResetEntry) → entry_lines t (record { cycle = cycle; what = Reset s }) ≡ entry_lines t (record { cycle = cycle; what = Reset (with_rest r s) })
unfolding lines_by own_lines what_text reset_text
rest_lines t cycle r s = refl

rest_after : (t : Telling) (cycle : ℕ) (r s : ResetEntry) → telling_after t (record { cycle = cycle; what = Reset s }) ≡ telling_after t (record { cycle = cycle; what = Reset (with_rest r s) })
rest_after t cycle r s = refl

-- the lines are those of the reset whose bus it is
pub bus_lines : (t : Telling) (cycle : ℕ) (r s : ResetEntry) → IsBusOf r s → entry_lines t (record { cycle = cycle; what = Reset s }) ≡ entry_lines t (record { cycle = cycle; what = Reset r })
bus_lines t cycle r s x = rest_lines t cycle r s ∙ ap (λ (e : ResetEntry). entry_lines t (record { cycle = cycle; what = Reset e })) (is_rest r s x)

pub bus_after : (t : Telling) (cycle : ℕ) (r s : ResetEntry) → IsBusOf r s → telling_after t (record { cycle = cycle; what = Reset s }) ≡ telling_after t (record { cycle = cycle; what = Reset r })
bus_after t cycle r s x = rest_after t cycle r s ∙ ap (λ (e : ResetEntry). telling_after t (record { cycle = cycle; what = Reset e })) (is_rest r s x)

-- so they were added
pub bus_puts : {E : Type 0} → (cycle : ℕ) (r s : ResetEntry) (t t' : Traced) (o : Result (Unit {0}) E) → IsBusOf r s → PutsEntry (record { cycle = cycle; what = Reset s }) t t' o
    → PutsEntry (record { cycle = cycle; what = Reset r }) t t' o
bus_puts cycle r s t t' (Ok u) x p = record {
  text = p.text ∙ ap (λ (ls : List Caused). t.text ++ caused_text ls) (bus_lines t.telling cycle r s x);
  kept = p.kept ∙ bus_after t.telling cycle r s x;
}
bus_puts cycle r s t t' (Err e) x p = tt
