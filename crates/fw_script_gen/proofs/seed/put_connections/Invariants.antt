use Rattle.std.proofs.Common.{◌≡◌, ◌++◌, ◌+◌, ◌*◌, ℕ, string_bytes}
use Rattle.fw_script_gen.specs.Gen.{state_of, connections_text}
use Rattle.fw_script_gen.proofs.seed.put_connections.Given as goal

abbrev pub invariant-loop-j : goal.invariant-loop-j
invariant-loop-j l = (seed : ℕ) → l.fn.draws.state ≡ state_of seed 59 → (string_bytes l.text ≡ string_bytes l.fn.text ++ connections_text seed l._j) × (l.draws.state ≡ state_of seed (59 + 3 * l._j))
