-- What stands in the bytes of a bus reset's body.
use Rattle.std.proofs.Common.{◌≡◌, ℕ, ◌+◌, ◌*◌, ◌≤◌, List, ◌++◌, length, drop, flat_map, arith, refl, ap, sym, ◌∙◌, length-append}
use Rattle.fw_phy.specs.Phy.{spelling}
use Rattle.fw_log_entry.specs.Log.{quads, reset_quads, body}
use Rattle.fw_log_entry.specs.declared.entry.Entry.TheVariants.{Reset}
use Rattle.fw_log_entry.specs.declared.entry.ResetEntry.{ResetEntry}
use Rattle.fw_log_text.specs.Line.{id_text, reset_text}
use Rattle.fw_log_text.specs.Resets.{HasHead, head_text}
use Rattle.fw_log_text.specs.declared.resets.ResetHead.{ResetHead}
use Rattle.fw_log_text.proofs.BodyLaws.{ids_from, length-nodes}

pub long : (r : ResetEntry) (bytes : List ℕ) → body (Reset r) ≡ bytes → 8 + 4 * length r.nodes ≤ length bytes
long r bytes s = omega (arith, ap length s, length-nodes r, length-append (quads (reset_quads r)) (flat_map spelling r.ids))

pub ids_after : (r : ResetEntry) (bytes : List ℕ) (n : ℕ) → body (Reset r) ≡ bytes → n ≡ length r.nodes → drop (8 + 4 * n) bytes ≡ flat_map spelling r.ids
ids_after r bytes n s e = ap (λ (k : ℕ). drop (8 + 4 * k) bytes) e ∙ ap (drop (8 + 4 * length r.nodes)) (sym s) ∙ ids_from r

pub head_is : (r : ResetEntry) (h : ResetHead) → HasHead r h → head_text h ++ flat_map id_text r.ids ≡ reset_text r
head_is r h x = rw (x.epoch, x.root, x.manager, x.initiator) refl
