-- What the line of a bus reset tells before its self-ID packets.
use Rattle.std.specs.Prelude.{◌≡◌, ℕ, List, ◌++◌, length, codes, decimal}
use Rattle.fw_log_entry.specs.Log.{ResetFits, body}
use Rattle.fw_log_entry.specs.declared.entry.Entry.TheVariants.{Reset}
use Rattle.fw_log_entry.specs.declared.entry.ResetEntry.{ResetEntry}
use Rattle.fw_log_text.specs.Line.{manager_text}
use Rattle.fw_log_text.specs.declared.resets.ResetHead.{ResetHead}

-- number, root, manager and initiator
abbrev pub head_text : ResetHead → List ℕ
head_text h = codes "reset " ++ decimal h.epoch ++ codes " root " ++ decimal h.root ++ codes " manager " ++ manager_text h.manager
    ++ codes " by " ++ decimal h.initiator ++ codes ":"

-- they are those of the reset
pub record HasHead (r : ResetEntry) (h : ResetHead) : Type 0 where
  pub epoch : h.epoch ≡ r.epoch
  pub root : h.root ≡ r.root
  pub manager : h.manager ≡ r.manager
  pub initiator : h.initiator ≡ r.initiator
  pub count : h.count ≡ length r.nodes

-- the bytes are the body of some reset's entry
pub record IsResetBody (bytes : List ℕ) : Type 0 where
  pub reset : ResetEntry
  pub fits : ResetFits reset
  pub same : body (Reset reset) ≡ bytes
