use Rattle.std.proofs.Common.{◌≡◌, ◌++◌, ℕ, string_bytes}
use Rattle.fw_script_gen.specs.Gen.{state_of, devices_text}
use Rattle.fw_script_gen.proofs.seed.put_devices.Given as goal

abbrev pub invariant-loop-i : goal.invariant-loop-i
invariant-loop-i l = (seed : ℕ) → l.fn.draws.state ≡ state_of seed 0 → (string_bytes l.text ≡ string_bytes l.fn.text ++ devices_text seed l.i) × (l.draws.state ≡ state_of seed l.i)
