-- Rules of registers and limits.
use Rattle.std.proofs.Common.{◌≡◌, inl, inr, ℕ, ◌<◌, length, slice_get, Option, Some, None, is_some, refl, ap, ◌∙◌, arith}
use Rattle.std.specs.Prelude.{option_and_then}
use Rattle.std.specs.Option.{option_map}
use Rattle.fw_script_command.specs.declared.command.Command.{Command}
use Rattle.fw_script_command.specs.declared.command.Command.TheVariants as Commands
use Rattle.fw_log_entry.specs.declared.entry.ResetEntry.{ResetEntry}
use Rattle.fw_log_entry.specs.declared.nodes.NodeRow.{NodeRow}
use Rattle.fw_model_run.specs.Good.{IsGood, IsLatest}
use Rattle.fw_model_run.specs.Named.{HasNoRegister, IsShown, PassesLimit}
use Rattle.fw_model_run.specs.Rules.{IsGuarded}
use Rattle.fw_model_run.specs.State.{State, device_in, manager_in}
use Rattle.fw_check.specs.declared.why.Why.TheVariants.{NoRegister}
use Rattle.fw_check_causes.specs.Causes.{guarded, is_written, name_at, no_register, no_register_of, not_shown, passed}
use Rattle.fw_check_causes_laws.proofs.Somes.{Has, mapped, name_there, of_name}

pub protected : (s : State) (c : Command) → IsGuarded s c → Has (guarded c)
protected s (Commands.Swap name other offset argument new) h = refl
protected s _ h = absurd h

pub limited : (s : State) (c : Command) → PassesLimit s c → Has (passed s c)
limited s (Commands.Cable a b) h = refl
limited s (Commands.Reset name) h = refl
limited s (Commands.Lose name) h = refl
limited s (Commands.Step name count) h = refl
limited s (Commands.Contend name count) h = refl
limited s (Commands.Settle rounds) h = refl
limited s (Commands.Wait cycles) h = refl
limited s (Commands.Cycles count) h = refl
limited s _ h = absurd h

-- ---- registers that are shown

-- a device that is a node is declared
node_declared : (s : State) (n d : ℕ) → IsGood s → device_in s.account.latest n ≡ Some d → d < length s.declared.names
node_declared s n d g at = go s.account.latest g.latest at
  where
    below : (e : ResetEntry) → IsLatest (Some e) s.declared s.account → (o : Option NodeRow) → slice_get e.nodes n ≡ o → option_map (λ (r : NodeRow). r.device) o ≡ Some d → d < length s.declared.names
    below e l None at is = let z : ⊥ = cc in absurd z
    below e l (Some row) at is =
        let same : row.device ≡ d = cc in
        let declared = l.1.declared n row at in
        omega (arith, same, declared, g.declared.named)

    go : (o : Option ResetEntry) → IsLatest o s.declared s.account → device_in o n ≡ Some d → d < length s.declared.names
    go None l at = let z : ⊥ = cc in absurd z
    go (Some e) l at = below e l (slice_get e.nodes n) refl at

of_manager : (s : State) (offset : ℕ) (o : Option ℕ) → manager_in s.account.latest ≡ o
    → Has (no_register_of s offset (option_and_then (λ n. device_in s.account.latest n) o)) → Has (no_register s None offset)
of_manager s offset o e h = ap (λ (o : Option ℕ). is_some (no_register_of s offset (option_and_then (λ n. device_in s.account.latest n) o))) e ∙ h

of_device : (s : State) (offset d : ℕ) (o : Option ℕ) → IsGood s → d < length s.declared.names → o ≡ Some d → Has (no_register_of s offset o)
of_device s offset d o g lt e =
    ap (λ (o : Option ℕ). is_some (no_register_of s offset o)) e ∙ mapped (name_at s d) (λ name. NoRegister name offset (is_written s d offset)) (name_there s d lt)

pub unshown : (s : State) (c : Command) → IsGood s → HasNoRegister s c → Has (not_shown s c)
unshown s (Commands.Show (Some name) offset) g (inl h) = absurd h
unshown s (Commands.Show (Some name) offset) g (inr h) = of_name s name h.0 (λ d. Some (NoRegister name offset (is_written s d offset))) h.1 refl
unshown s (Commands.Show None offset) g (inl e) = of_manager s offset None e refl
unshown s (Commands.Show None offset) g (inr h) =
    let at : IsShown s None h.0 = h.1 in
    of_manager s offset (Some at.0) at.1 (of_device s offset h.0 (device_in s.account.latest at.0) g (node_declared s at.0 h.0 g at.2) at.2)
unshown s _ g h = absurd h
