use Rattle.fw_bus_engine.proofs.Common.{◌≡◌, ◌≢◌, ◌⊎◌, inl, inr, ◌≤◌, ◌<◌, ◌+◌, ◌-◌, ℕ, IsTrue, false, true, ap, sym, subst, ◌∙◌, arith, cases_eq, IsAtRest, is_living_in, states_of}
use Rattle.std.proofs.Common.{slice_index_or}
use Rattle.fw_bus_engine.proofs.rounds.busy_end.Goals as goal

-- one more was passed
passed_more : (end passed last : ℕ) (P : ℕ → Type 0) → last + passed + 1 ≡ end → ((d : ℕ) → end ≤ d + passed → d < end → P d) → P last
    → (d : ℕ) → end ≤ d + (passed + 1) → d < end → P d
passed_more end passed last P is before here d low lt = at (cases_eq d last)
  where
    at : (d ≡ last) ⊎ (d ≢ last) → P d
    at (inl e) = subst P (sym e) here
    at (inr ne) = before d (omega (arith, is, ne, low)) lt

pub loop-passed-init : goal.loop-passed-init
loop-passed-init c = λ d low lt. absurd (omega (arith, low, lt))

pub loop-passed-preserved-then-not-living-from : goal.loop-passed-preserved-then-not-living-from
loop-passed-preserved-then-not-living-from c =
    let last = c.args.end - 1 - c.loop-passed.passed in
    let below : last < c.args.end = omega (arith, c.loop-passed-test.true) in
    let off : is_living_in c.args.machine.now last ≡ false = sym (c.requires.marks last below)
    ∙ (ap (λ (i : ℕ). slice_index_or c.args.living.now i false) (sym c.from.ensures) ∙ c.if-not-living-from.true) in
    passed_more c.args.end c.loop-passed.passed last (λ d. IsTrue (is_living_in c.args.machine.now d) → IsAtRest (states_of c.args.machine.now.controllers d).state)
    (omega (arith, c.loop-passed-test.true)) c.loop-passed.invariant (λ lives. absurd (let clash : true ≡ false = sym lives ∙ off in cc clash))

pub loop-passed-preserved : goal.loop-passed-preserved
loop-passed-preserved c =
    let last = c.args.end - 1 - c.loop-passed.passed in
    passed_more c.args.end c.loop-passed.passed last (λ d. IsTrue (is_living_in c.args.machine.now d) → IsAtRest (states_of c.args.machine.now.controllers d).state)
    (omega (arith, c.loop-passed-test.true)) c.loop-passed.invariant (λ lives. c.is_calm.ensures c.if-not-is_calm.false)

pub returns-then-not-is_calm-clause-calm : goal.returns-then-not-is_calm-clause-calm
returns-then-not-is_calm-clause-calm c = λ d low lt lives. c.loop-passed.invariant d (omega (arith, low, c.loop-passed-test.true)) lt lives

pub returns-clause-calm : goal.returns-clause-calm
returns-clause-calm c = λ d low lt lives. c.loop-passed.invariant d (omega (arith, c.loop-passed-test.false)) lt lives
