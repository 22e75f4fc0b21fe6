use Rattle.std.proofs.Common.{rules, ◌≡◌, ◌-◌, ◌++◌, ◌∙◌, List, ℕ, length, arith, sym, subst, length-append}
use Rattle.std.proofs.lemmas.Bool.Decides.{nat_tests}
use Rattle.fw_log_loop.specs.Readings.{Form}
use Rattle.fw_log_loop.specs.Pieces.{StopsAt, PrintsMore}
use Rattle.fw_log_loop.specs.Parts.{PartsLeft}
use Rattle.fw_log_loop.proofs.Decodings.{total_of}
use Rattle.fw_log_loop.proofs.Printings.{stops_within}
use Rattle.fw_log_loop.proofs.PartsRead.{parts_more, parts_stopped, parts_done}
use Rattle.fw_log_loop.proofs.parts.read_parts.Goals as goal

pub returns-in-Err-clause-reads : goal.returns-in-Err-clause-reads
returns-in-Err-clause-reads g c left now after held following more d t within few =
    let i = c.loop-rest.invariant in
    let part = c.split_at.result.0.now in
    let later = c.split_at.result.1.now in
    let rest : List ℕ = c.loop-rest.rest.now in
    let line : part ++ later ≡ rest = search rules in
    let L : List ℕ → Type 0 = λ xs. PartsLeft (g.O.Reading.form c.args.output.now) (g.O.Reading.took c.loop-rest.output) left after held (g.K.Sink.held c.loop-rest.sink) c.loop-rest.reader xs following
    (more - length c.args.bytes.now) in
    let p = subst L (sym line) (i.parts left now after held following more d t within few) in
    let u = p.decoded in
    let S : Form → Type 0 = λ form. (prefix rest : List ℕ) × (prefix ++ rest ≡ part)
    × StopsAt form g.O.Reading.rules (g.O.Reading.took c.print_bytes.new.output) (g.K.Sink.held c.loop-rest.sink) (g.K.Sink.held c.print_bytes.new.sink) u.entries u.bytes prefix c.in-Err.ending in
    parts_stopped (g.met.O.Reading.each c.args.output.now) g.O.Reading.rules (g.O.Reading.took c.print_bytes.new.output) (g.K.Sink.held c.print_bytes.new.sink) part later following c.in-Err.ending p
    (subst S i.same (c.in-Err.ensures.text u.entries u.bytes u.read u.took))

pub returns-in-Err-clause-ends : goal.returns-in-Err-clause-ends
returns-in-Err-clause-ends g c =
    let b = c.loop-rest.invariant.begun in
    let s = c.in-Err.ensures.text b.entries b.bytes b.read b.took in
    stops_within (g.O.Reading.form c.loop-rest.output) g.O.Reading.rules (g.O.Reading.took c.print_bytes.new.output) _ _ b.entries b.bytes s.0 c.in-Err.ending s.3

pub loop-rest-preserved : goal.loop-rest-preserved
loop-rest-preserved g c =
    let i = c.loop-rest.invariant in
    let part = c.split_at.result.0.now in
    let later = c.split_at.result.1.now in
    let rest : List ℕ = c.loop-rest.rest.now in
    let line : part ++ later ≡ rest = search rules in
    let b = i.begun in
    let m = c.in_default.ensures.text b.entries b.bytes b.read b.took in
    record {
      begun = record { entries = b.entries ++ m.more; bytes = b.bytes ++ part; read = m.read; took = m.took };
      few = omega (arith, i.few, c.split_at.ensures.front_len, c.split_at.ensures.back_len);
      count = omega (arith, i.count, total_of b.read, total_of m.read, length-append b.bytes part, c.split_at.ensures.front_len, c.split_at.ensures.back_len);
      parts = λ left now after held following more d t within few.
          let L : List ℕ → Type 0 = λ xs. PartsLeft (g.O.Reading.form c.args.output.now) (g.O.Reading.took c.loop-rest.output) left after held (g.K.Sink.held c.loop-rest.sink) c.loop-rest.reader xs
          following (more - length c.args.bytes.now) in
          let p = subst L (sym line) (i.parts left now after held following more d t within few) in
          let u = p.decoded in
          let P : Form → Type 0 = λ form. PrintsMore form (g.O.Reading.took c.print_bytes.new.output) (g.K.Sink.held c.loop-rest.sink) (g.K.Sink.held c.print_bytes.new.sink) u.entries u.bytes part
          c.print_bytes.new.reader in
          parts_more (g.met.O.Reading.each c.args.output.now) (g.K.Sink.held c.print_bytes.new.sink) c.print_bytes.new.reader part later following p
          (subst P i.same (c.in_default.ensures.text u.entries u.bytes u.read u.took));
      same = c.in_default.ensures.same ∙ i.same;
      empty = c.in_default.ensures.empty;
      written = c.in_default.ensures.stays ∙ i.written;
    }

pub returns-clause-reads : goal.returns-clause-reads
returns-clause-reads g c =
    let none : length c.loop-rest.rest.now ≡ 0 = grind (arith, nat_tests, c.is_empty.ensures, c.loop-rest-test.false) in
    λ left now after held following more d t within few. parts_done c.loop-rest.rest.now following (c.loop-rest.invariant.parts left now after held following more d t within few) none
