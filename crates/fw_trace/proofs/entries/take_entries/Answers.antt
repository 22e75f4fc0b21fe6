use Rattle.fw_trace.proofs.Common.{◌≡◌, ◌++◌, ℕ, List, refl, sym, ap, ◌∙◌, length, take, arith}
use Rattle.std.proofs.lemmas.List.{nil_from_length, take-append-drop, length-drop}
use Rattle.std.proofs.lemmas.Bool.{eqb-true}
use Rattle.fw_trace.proofs.PieceLaws.{some_first, some_more, some_all}
use Rattle.fw_trace.proofs.entries.take_entries.Goals as goal

pub loop-rest-init : goal.loop-rest-init
loop-rest-init c = (refl, λ entries bytes h. some_first entries bytes c.args.piece.now c.args.tracer.now c.args.reader.now h)

pub loop-rest-preserved : goal.loop-rest-preserved
loop-rest-preserved c = (
  omega (arith, c.loop-rest.invariant.0, c.in_ok-used.ensures.counts.0, c.in_ok-used.ensures.counts.1, ap length c.rest_of-rest.ensures, length-drop c.in_ok-used.used c.loop-rest.rest.now),
  λ entries bytes h.
      let rest = c.loop-rest.rest.now in
      let read = take c.in_ok-used.used rest in
      let split : rest ≡ read ++ c.rest_of-rest.result.now = sym (take-append-drop c.in_ok-used.used rest) ∙ ap (λ (l : List ℕ). read ++ l) (sym c.rest_of-rest.ensures) in
      let x = c.loop-rest.invariant.1 entries bytes h in
      some_more entries bytes c.args.piece.now rest c.rest_of-rest.result.now c.in_ok-used.used c.args.tracer.now c.loop-rest.tracer c.take_entry.new.tracer
      c.loop-rest.reader c.take_entry.new.reader x (c.in_ok-used.ensures.takes _ _ x.taken.read) split,
)

pub returns-clause-takes : goal.returns-clause-takes
returns-clause-takes c = λ entries bytes h.
    let none : length c.loop-rest.rest.now ≡ 0 = eqb-true (length c.loop-rest.rest.now) 0 (sym c.is_empty.ensures ∙ c.loop-rest-test.false) in
    some_all entries bytes c.args.piece.now c.loop-rest.rest.now c.args.tracer.now c.loop-rest.tracer c.loop-rest.reader (c.loop-rest.invariant.1 entries bytes h)
    (nil_from_length c.loop-rest.rest.now none)

pub returns-clause-total : goal.returns-clause-total
returns-clause-total c = omega (arith, c.loop-rest.invariant.0, eqb-true (length c.loop-rest.rest.now) 0 (sym c.is_empty.ensures ∙ c.loop-rest-test.false))
