-- Registers that are written alone.
use Rattle.std.proofs.Common.{◌≡◌, ℕ, ◌==◌, ◌&&◌, Bool, true, false, ap, sym, ◌∙◌}
use Rattle.fw_csr.specs.declared.reply.Reply.{Reply}
use Rattle.fw_bus_state.specs.declared.machine.Machine.{Machine}
use Rattle.fw_bus_state.specs.Stands.{StandsFor, is_linked_in, read_in}
use Rattle.fw_model_run.specs.Good.{IsGood}
use Rattle.fw_model_run.specs.State.{State}
use Rattle.fw_check_causes.specs.Causes.{is_written}
use Rattle.fw_check_causes.proofs.Seen.{written_same}

pub not_linked : (m : Machine) (s : State) (d offset : ℕ) → IsGood s → StandsFor m s → is_linked_in m.devices d ≡ false → false ≡ is_written s d offset
not_linked m s d offset g st is = sym (ap (λ (b : Bool). b && ((read_in m d offset).rcode == 6)) is) ∙ written_same m s d offset g st

pub linked : (m : Machine) (s : State) (d offset : ℕ) (r : Reply) → IsGood s → StandsFor m s → is_linked_in m.devices d ≡ true → r ≡ read_in m d offset → (r.rcode == 6) ≡ is_written s d offset
linked m s d offset r g st is read =
    ap (λ (r : Reply). r.rcode == 6) read ∙ sym (ap (λ (b : Bool). b && ((read_in m d offset).rcode == 6)) is) ∙ written_same m s d offset g st
