use Rattle.fw_bus_engine.proofs.Common.{inl, inr, refl, rules, arith, sym, ap, ◌∙◌, ◌≡◌, ◌+◌, ◌*◌, length, List, ℕ, Err, living_in}
use Rattle.fw_bus_engine.proofs.Doings.{ready_after}
use Rattle.fw_bus_engine.proofs.Calm.{calm_after}
use Rattle.fw_bus_engine.proofs.Settles.{rounds_none, rounds_then, rounds_all, rounds_rest, rounds_cut, settle_then, settle_cut, living_kept, rounds_within, round_within}
use Rattle.fw_bus_engine.proofs.rounds.settle.Goals as goal

pub is_unsettled-requires-clause-ready : goal.is_unsettled-requires-clause-ready
is_unsettled-requires-clause-ready g c = ready_after c.requires.ready c.loop-i.invariant.does

pub is_unsettled-requires-clause-marks : goal.is_unsettled-requires-clause-marks
is_unsettled-requires-clause-marks g c = λ d lt.
    let names = ap (λ (z : List (List ℕ)). length z) c.loop-i.invariant.names in
    c.mark_living-each.ensures.marks d (omega (arith, lt, names)) ∙ sym (c.loop-i.invariant.living d)

pub is_unsettled-requires-clause-most : goal.is_unsettled-requires-clause-most
is_unsettled-requires-clause-most g c =
    let names = ap (λ (z : List (List ℕ)). length z) c.loop-i.invariant.names in
    omega (arith, names, c.round_end-end.ensures.within, c.loop-i.invariant.few)

pub is_unsettled-requires-clause-within : goal.is_unsettled-requires-clause-within
is_unsettled-requires-clause-within g c = c.round_end-end.ensures.within

pub is_unsettled-requires-clause-ends : goal.is_unsettled-requires-clause-ends
is_unsettled-requires-clause-ends g c = c.round_end-end.ensures.ends

pub rest-requires-clause-ready : goal.rest-requires-clause-ready
rest-requires-clause-ready g c = ready_after c.requires.ready c.loop-i.invariant.does

pub rest-requires-clause-each : goal.rest-requires-clause-each
rest-requires-clause-each g c =
    c.mark_living-each.ensures.count ∙ sym (ap (λ (z : List ℕ). length z) (living_kept c.args.machine.now c.loop-i.machine c.loop-i.invariant.names c.loop-i.invariant.living))

pub rest-requires-clause-few : goal.rest-requires-clause-few
rest-requires-clause-few g c =
    rounds_within c.args.machine.now c.loop-i.machine c.loop-i.i c.args.count (omega (arith, c.loop-i-test.true))
    (living_kept c.args.machine.now c.loop-i.machine c.loop-i.invariant.names c.loop-i.invariant.living) c.loop-i.invariant.count c.requires.few

pub round-requires-clause-ready : goal.round-requires-clause-ready
round-requires-clause-ready g c = ready_after c.requires.ready c.loop-i.invariant.does

pub round-requires-clause-few : goal.round-requires-clause-few
round-requires-clause-few g c =
    round_within c.args.machine.now c.loop-i.machine c.loop-i.i c.args.count c.loop-i-test.true
    (living_kept c.args.machine.now c.loop-i.machine c.loop-i.invariant.names c.loop-i.invariant.living) c.loop-i.invariant.count c.requires.few

pub round-requires-clause-marks : goal.round-requires-clause-marks
round-requires-clause-marks g c = λ d lt.
    let names = ap (λ (z : List (List ℕ)). length z) c.loop-i.invariant.names in
    c.mark_living-each.ensures.marks d (omega (arith, lt, names)) ∙ sym (c.loop-i.invariant.living d)

pub round-requires-clause-each : goal.round-requires-clause-each
round-requires-clause-each g c =
    c.mark_living-each.ensures.count ∙ sym (ap (λ (z : List ℕ). length z) (living_kept c.args.machine.now c.loop-i.machine c.loop-i.invariant.names c.loop-i.invariant.living))

pub round-requires-clause-within : goal.round-requires-clause-within
round-requires-clause-within g c = c.round_end-end.ensures.within

pub round-requires-clause-most : goal.round-requires-clause-most
round-requires-clause-most g c =
    let names = ap (λ (z : List (List ℕ)). length z) c.loop-i.invariant.names in
    omega (arith, names, c.round_end-end.ensures.within, c.loop-i.invariant.few)

pub round-requires-clause-ends : goal.round-requires-clause-ends
round-requires-clause-ends g c = c.round_end-end.ensures.ends

pub round_end-end-requires-clause-enough : goal.round_end-end-requires-clause-enough
round_end-end-requires-clause-enough g c =
    let names = ap (λ (z : List (List ℕ)). length z) c.loop-i.invariant.names in
    omega (arith, names, c.loop-i.invariant.within)

pub round_end-end-requires-clause-rest : goal.round_end-end-requires-clause-rest
round_end-end-requires-clause-rest g c = c.loop-i.invariant.calm

pub round_end-end-requires-clause-most : goal.round_end-end-requires-clause-most
round_end-end-requires-clause-most g c = c.loop-i.invariant.most

pub round_end-end-requires-clause-marks : goal.round_end-end-requires-clause-marks
round_end-end-requires-clause-marks g c = λ d lt.
    c.mark_living-each.ensures.marks d (omega (arith, lt, c.loop-i.invariant.within)) ∙ sym (c.loop-i.invariant.living d)

pub loop-i-init : goal.loop-i-init
loop-i-init g c = record {
  count = omega arith;
  living = λ d. refl;
  names = refl;
  most = c.count-end.ensures.most;
  few = omega (arith, c.count-end.ensures.value, c.count-end.ensures.most);
  within = omega (arith, c.count-end.ensures.value);
  calm = λ d low lt. absurd (omega (arith, low, lt, c.count-end.ensures.value));
  does = rounds_none _ _ _ _;
}

pub tell_unsettled-requires : goal.tell_unsettled-requires
tell_unsettled-requires g c = record { ready = ready_after c.requires.ready c.loop-i.invariant.does }

pub returns-in_err-round : goal.returns-in_err-round
returns-in_err-round g c =
    let was = c.from_residual.ensures.0 in
    record { does = settle_cut _ _ _ c.requires.few was was (rounds_cut _ _ (Err _) _ c.loop-i-test.true c.requires.few refl was c.loop-i.invariant.does c.in_err-round.ensures.does) }

pub returns : goal.returns
returns g c = record { does = settle_then _ _ (rounds_all _ _ (search rules) c.loop-i.invariant.does) c.tell_unsettled.ensures.does }

pub returns-then-not-is_unsettled : goal.returns-then-not-is_unsettled
returns-then-not-is_unsettled g c =
    let within = c.loop-i-test.true in
    let few = rounds_within c.args.machine.now c.loop-i.machine c.loop-i.i c.args.count (omega (arith, within))
    (living_kept c.args.machine.now c.loop-i.machine c.loop-i.invariant.names c.loop-i.invariant.living) c.loop-i.invariant.count c.requires.few in
    record { does = rw c.rest.ensures (rounds_rest _ _ (omega (arith, within)) (λ s good st. sym (c.is_unsettled.ensures s good st) ∙ c.if-not-is_unsettled.true) few c.loop-i.invariant.does) }

pub loop-i-preserved : goal.loop-i-preserved
loop-i-preserved g c =
    let still = living_kept c.args.machine.now c.loop-i.machine c.loop-i.invariant.names c.loop-i.invariant.living in
    let more : (c.loop-i.i + 1) * length (living_in c.args.machine.now) ≡ c.loop-i.i * length (living_in c.args.machine.now) + length (living_in c.args.machine.now) = omega arith in
    record {
      count = let count = c.loop-i.invariant.count in let one = c.in_ok-round.ensures.count in let size = ap (λ (z : List ℕ). length z) still in omega (arith, count, one, more, size);
      living = λ d. c.in_ok-round.ensures.living d ∙ c.loop-i.invariant.living d;
      names = c.in_ok-round.ensures.names ∙ c.loop-i.invariant.names;
      most = let names = ap (λ (z : List (List ℕ)). length z) c.loop-i.invariant.names in omega (arith, names, c.round_end-end.ensures.within, c.loop-i.invariant.few);
      few = c.loop-i.invariant.few;
      within = let names = ap (λ (z : List (List ℕ)). length z) c.loop-i.invariant.names in omega (arith, names, c.round_end-end.ensures.within);
      calm = λ d low lt lives.
          let names = ap (λ (z : List (List ℕ)). length z) c.in_ok-round.ensures.names in
          elim c.round_end-end.ensures.ends [
            | inl is ↦ absurd (omega (arith, low, lt, names, is))
            | inr h ↦ calm_after d (ready_after c.requires.ready c.loop-i.invariant.does) h.0 c.in_ok-round.ensures.does
                (h.1 d low (omega (arith, lt, names)) (sym (c.in_ok-round.ensures.living d) ∙ lives))
          ];
      does = rounds_then _ c.loop-i.invariant.does c.in_ok-round.ensures.does;
    }
