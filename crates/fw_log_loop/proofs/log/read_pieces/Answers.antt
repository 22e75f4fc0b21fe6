use Rattle.std.proofs.Common.{rules, ◌≡◌, ◌+◌, ◌-◌, ◌≤◌, ◌<◌, [], ◌++◌, ◌∙◌, List, ℕ, Some, length, take, drop, arith, refl, sym, subst}
use Rattle.std.proofs.lemmas.List.{length-take-le, length-drop, append-nil}
use Rattle.fw_outside.specs.Outside.{Takes}
use Rattle.fw_outside.specs.Stops.{ReadCount, WriteCount}
use Rattle.fw_outside.specs.declared.stop.Stop.{Stop}
use Rattle.fw_outside.proofs.Parts.{end_from_zero}
use Rattle.fw_log_loop.specs.Endings.{piece_size}
use Rattle.fw_log_loop.specs.Readings.{Form, bare}
use Rattle.fw_log_loop.specs.Pieces.{DecodedTo, ReadsTo}
use Rattle.fw_log_loop.specs.declared.ending.LogEnding.TheVariants.{Stopped}
use Rattle.fw_log_loop.specs.Parts.{PartsLeft, unread}
use Rattle.fw_log_loop.proofs.Printings.{within_read, within_end}
use Rattle.fw_log_loop.proofs.Decodings.{decoded_first, decoded_still, ended, total_of, end_read}
use Rattle.fw_log_loop.proofs.Interruptions.{part_nothing, cut_at, few_taken}
use Rattle.fw_log_loop.proofs.PartsRead.{parts_all, parts_passed, unread_reads, unread_read, unread_written}
use Rattle.fw_log_loop.proofs.log.read_pieces.Goals as goal

pub loop-count-init : goal.loop-count-init
loop-count-init g c = record {
  decoded = decoded_first (g.met.O.Reading.each c.args.output.now) (g.O.Reading.took c.args.output.now) (g.S.Source.left c.args.source.now)
      (g.K.Sink.held c.args.sink.now) c.args.reader.now c.requires.begins c.requires.took;
  same = refl;
  empty = c.requires.empty;
  read = refl;
  written = refl;
}

pub returns-in_default-clause-reads : goal.returns-in_default-clause-reads
returns-in_default-clause-reads g c = part_nothing (bare (g.O.Reading.form c.args.output.now)) (g.S.Source.left c.args.source.now) (g.K.Sink.held c.args.sink.now)

-- ---- nothing was taken

pub returns-in-Err-clause-reads : goal.returns-in-Err-clause-reads
returns-in-Err-clause-reads g c =
    let E : Stop → Type 0 = λ s. ReadsTo (bare (g.O.Reading.form c.args.output.now)) g.O.Reading.rules (g.O.Reading.took c.loop-count.output) (g.S.Source.left c.args.source.now)
    (g.S.Source.left c.ask.new.source) (g.K.Sink.held c.args.sink.now) (g.K.Sink.held c.ask.new.sink) (Stopped s) in
    subst E (sym c.unread.ensures) (unread_reads g.O.Reading.rules c.in-Err.stop (decoded_still c.in-Err.ensures.bytes c.in-Err.ensures.held c.loop-count.invariant.decoded))

pub returns-in-Err-clause-read_count : goal.returns-in-Err-clause-read_count
returns-in-Err-clause-read_count g c =
    let E : Stop → Type 0 = λ s. ReadCount (g.S.Source.faults c.args.source.now) (g.S.Source.faults c.ask.new.source) (Some s) in
    let F : ℕ → Type 0 = λ n. ReadCount n (g.S.Source.faults c.ask.new.source) (Some (unread c.in-Err.stop)) in
    subst E (sym c.unread.ensures) (subst F c.loop-count.invariant.read (unread_read c.in-Err.stop _ _ c.in-Err.ensures.read_count))

pub returns-in-Err-clause-write_count : goal.returns-in-Err-clause-write_count
returns-in-Err-clause-write_count g c =
    let E : Stop → Type 0 = λ s. WriteCount (g.K.Sink.faults c.args.sink.now) (g.K.Sink.faults c.ask.new.sink) (Some s) in
    let F : ℕ → Type 0 = λ n. WriteCount n (g.K.Sink.faults c.ask.new.sink) (Some (unread c.in-Err.stop)) in
    subst E (sym c.unread.ensures) (subst F c.loop-count.invariant.written (unread_written c.in-Err.stop _ _ c.in-Err.ensures.write_count))

-- ---- the input ended

pub end_log-requires-clause-room : goal.end_log-requires-clause-room
end_log-requires-clause-room g c = let d = c.loop-count.invariant.decoded in omega (arith, total_of d.read, d.count)

pub end_log-requires-clause-begun : goal.end_log-requires-clause-begun
end_log-requires-clause-begun g c = let d = c.loop-count.invariant.decoded in (d.entries, d.took)

pub returns-then-count-eq0-clause-reads : goal.returns-then-count-eq0-clause-reads
returns-then-count-eq0-clause-reads g c =
    let i = c.loop-count.invariant in
    let d = decoded_still refl c.in-Ok-ask.ensures.held i.decoded in
    let left2 = g.S.Source.left c.ask.new.source in
    let e = end_from_zero (g.S.Source.left c.loop-count.source) left2 c.in-Ok-ask.count c.ask.new.into c.in-Ok-ask.ensures.bytes.0 c.in-Ok-ask.ensures.bytes.1 c.if-count-eq0.true in
    ended g.O.Reading.rules left2 (g.K.Sink.held c.end_log.new.sink) c.end_log.result d (g.met.O.Reading.accepted c.loop-count.output) e (c.end_log.ensures.ends d.entries d.bytes d.read d.took)

pub returns-then-count-eq0-clause-read_count : goal.returns-then-count-eq0-clause-read_count
returns-then-count-eq0-clause-read_count g c =
    let i = c.loop-count.invariant in
    let d = i.decoded in
    end_read g.O.Reading.rules d.entries d.bytes c.loop-count.reader _ _ c.end_log.result _ _ (c.end_log.ensures.ends d.entries d.bytes d.read d.took) (c.in-Ok-ask.ensures.read_count ∙ i.read)

-- ---- a piece was taken

pub read_parts-requires-clause-begun : goal.read_parts-requires-clause-begun
read_parts-requires-clause-begun g c = let d = c.loop-count.invariant.decoded in record { entries = d.entries; bytes = d.bytes; read = d.read; took = d.took }

pub read_parts-requires-clause-taken : goal.read_parts-requires-clause-taken
read_parts-requires-clause-taken g c = let d = c.loop-count.invariant.decoded in omega (arith, total_of d.read, d.count)

pub read_parts-requires-clause-room : goal.read_parts-requires-clause-room
read_parts-requires-clause-room g c =
    let d = c.loop-count.invariant.decoded in
    let fits : c.min-within.result ≤ length c.ask.new.into = omega (arith, c.min-within.ensures, c.in-Ok-ask.ensures.fits) in
    omega (arith, total_of d.read, d.count, c.min-within.ensures, length-take-le c.min-within.result c.ask.new.into fits)

pub returns-in-Err-read_parts-clause-reads : goal.returns-in-Err-read_parts-clause-reads
returns-in-Err-read_parts-clause-reads g c =
    let i = c.loop-count.invariant in
    let n = c.min-within.result in
    let xs = c.ask.new.into in
    let size : length xs ≤ 65536 = search rules in
    let less : n ≤ c.in-Ok-ask.count = omega (arith, c.min-within.ensures) in
    let fits : n ≤ length xs = omega (arith, c.min-within.ensures, c.in-Ok-ask.ensures.fits) in
    let more = drop n (take c.in-Ok-ask.count xs) in
    let T : List ℕ → Type 0 = Takes (g.S.Source.left c.loop-count.source) (g.S.Source.left c.ask.new.source) in
    let took = subst T (sym (cut_at n c.in-Ok-ask.count xs less)) c.in-Ok-ask.ensures.bytes.0 in
    let within : length (take n xs) ≤ c.loop-count.left = omega (arith, c.min-within.ensures, length-take-le n xs fits) in
    let few = few_taken n c.in-Ok-ask.count xs less c.in-Ok-ask.ensures.fits.0 size in
    let G : List ℕ → Type 0 = λ ys. T (take n ys ++ more) × (length (take n ys) ≤ c.loop-count.left) × (length (take n ys) + length more ≤ piece_size) in
    let given = subst G (sym c.deref.ensures) (took, within, few) in
    let D : Form → Type 0 = λ form. DecodedTo form (g.O.Reading.took c.loop-count.output) (g.S.Source.left c.args.source.now) (g.S.Source.left c.loop-count.source) (g.K.Sink.held c.args.sink.now)
    (g.K.Sink.held c.ask.new.sink) c.loop-count.reader c.loop-count.left in
    let R : Form → Type 0 = λ form. ReadsTo (bare form) g.O.Reading.rules (g.O.Reading.took c.read_parts.new.output) (g.S.Source.left c.args.source.now) (g.S.Source.left c.ask.new.source)
    (g.K.Sink.held c.args.sink.now) (g.K.Sink.held c.read_parts.new.sink) c.in-Err-read_parts.ending in
    subst R i.same (c.in-Err-read_parts.ensures.reads (g.S.Source.left c.args.source.now) (g.S.Source.left c.loop-count.source) (g.S.Source.left c.ask.new.source) (g.K.Sink.held c.args.sink.now)
    more c.loop-count.left (subst D (sym i.same) (decoded_still refl c.in-Ok-ask.ensures.held i.decoded)) given.0 given.1 given.2)

pub returns-in-Err-read_parts-clause-read_count : goal.returns-in-Err-read_parts-clause-read_count
returns-in-Err-read_parts-clause-read_count g c = within_read c.in-Err-read_parts.ending _ _ c.in-Err-read_parts.ensures.ends (c.in-Ok-ask.ensures.read_count ∙ c.loop-count.invariant.read)

pub returns-in-Err-read_parts-clause-empty : goal.returns-in-Err-read_parts-clause-empty
returns-in-Err-read_parts-clause-empty g c end is = c.in-Err-read_parts.ensures.drained (within_end c.in-Err-read_parts.ending end c.in-Err-read_parts.ensures.ends is)

pub returns-then-within-count-clause-reads : goal.returns-then-within-count-clause-reads
returns-then-within-count-clause-reads g c =
    let i = c.loop-count.invariant in
    let n = c.min-within.result in
    let xs = c.ask.new.into in
    let size : length xs ≤ 65536 = search rules in
    let less : n ≤ c.in-Ok-ask.count = omega (arith, c.min-within.ensures) in
    let fits : n ≤ length xs = omega (arith, c.min-within.ensures, c.in-Ok-ask.ensures.fits) in
    let more = drop n (take c.in-Ok-ask.count xs) in
    let T : List ℕ → Type 0 = Takes (g.S.Source.left c.loop-count.source) (g.S.Source.left c.ask.new.source) in
    let took = subst T (sym (cut_at n c.in-Ok-ask.count xs less)) c.in-Ok-ask.ensures.bytes.0 in
    let full : length (take n xs) ≡ c.loop-count.left = omega (arith, c.min-within.ensures, c.if-within-count.true, length-take-le n xs fits) in
    let all : length (take c.in-Ok-ask.count xs) ≡ c.in-Ok-ask.count = length-take-le c.in-Ok-ask.count xs (omega (arith, c.in-Ok-ask.ensures.fits)) in
    let some : 0 < length more = omega (arith, all, length-drop n (take c.in-Ok-ask.count xs), c.if-within-count.true) in
    let few = few_taken n c.in-Ok-ask.count xs less c.in-Ok-ask.ensures.fits.0 size in
    let G : List ℕ → Type 0 = λ ys. T (take n ys ++ more) × (length (take n ys) ≡ c.loop-count.left) × (length (take n ys) + length more ≤ piece_size) in
    let given = subst G (sym c.deref.ensures) (took, full, few) in
    let D : Form → Type 0 = λ form. DecodedTo form (g.O.Reading.took c.loop-count.output) (g.S.Source.left c.args.source.now) (g.S.Source.left c.loop-count.source) (g.K.Sink.held c.args.sink.now)
    (g.K.Sink.held c.ask.new.sink) c.loop-count.reader c.loop-count.left in
    let L : Form → Type 0 = λ form. PartsLeft form (g.O.Reading.took c.read_parts.new.output) (g.S.Source.left c.args.source.now) (g.S.Source.left c.ask.new.source)
    (g.K.Sink.held c.args.sink.now) (g.K.Sink.held c.read_parts.new.sink) c.read_parts.new.reader [] more (c.loop-count.left - length (take n c.deref.result.now)) in
    let p = subst L i.same (c.in_default-read_parts.ensures.reads (g.S.Source.left c.args.source.now) (g.S.Source.left c.loop-count.source) (g.S.Source.left c.ask.new.source)
    (g.K.Sink.held c.args.sink.now) more c.loop-count.left (subst D (sym i.same) (decoded_still refl c.in-Ok-ask.ensures.held i.decoded)) given.0 (omega (arith, given.1)) given.2) in
    parts_passed more p (omega (arith, given.1)) some

pub loop-count-preserved : goal.loop-count-preserved
loop-count-preserved g c =
    let i = c.loop-count.invariant in
    let n = c.min-within.result in
    let xs = c.ask.new.into in
    let same : n ≡ c.in-Ok-ask.count = omega (arith, c.min-within.ensures, c.if-within-count.false) in
    let fits : n ≤ length xs = omega (arith, c.min-within.ensures, c.in-Ok-ask.ensures.fits) in
    let size : length (take n xs) ≡ c.in-Ok-ask.count = length-take-le n xs fits ∙ same in
    let within : length (take n xs) ≤ c.loop-count.left = omega (arith, c.min-within.ensures, length-take-le n xs fits) in
    let most : length xs ≤ 65536 = search rules in
    let few : length (take n xs) ≤ piece_size = omega (arith, length-take-le n xs fits, fits, most) in
    let T : List ℕ → Type 0 = Takes (g.S.Source.left c.loop-count.source) (g.S.Source.left c.ask.new.source) in
    let M : ℕ → Type 0 = λ m. T (take m xs) in
    let took = subst T (sym (append-nil (take n xs))) (subst M (sym same) c.in-Ok-ask.ensures.bytes.0) in
    let G : List ℕ → Type 0 = λ ys. T (take n ys ++ []) × (length (take n ys) ≤ c.loop-count.left) × (length (take n ys) ≤ piece_size) × (length (take n ys) ≡ c.in-Ok-ask.count) in
    let given = subst G (sym c.deref.ensures) (took, within, few, size) in
    let D : Form → Type 0 = λ form. DecodedTo form (g.O.Reading.took c.loop-count.output) (g.S.Source.left c.args.source.now) (g.S.Source.left c.loop-count.source) (g.K.Sink.held c.args.sink.now)
    (g.K.Sink.held c.ask.new.sink) c.loop-count.reader c.loop-count.left in
    let L : Form → Type 0 = λ form. PartsLeft form (g.O.Reading.took c.read_parts.new.output) (g.S.Source.left c.args.source.now) (g.S.Source.left c.ask.new.source)
    (g.K.Sink.held c.args.sink.now) (g.K.Sink.held c.read_parts.new.sink) c.read_parts.new.reader [] [] (c.loop-count.left - length (take n c.deref.result.now)) in
    let p = subst L i.same (c.in_default-read_parts.ensures.reads (g.S.Source.left c.args.source.now) (g.S.Source.left c.loop-count.source) (g.S.Source.left c.ask.new.source)
    (g.K.Sink.held c.args.sink.now) [] c.loop-count.left (subst D (sym i.same) (decoded_still refl c.in-Ok-ask.ensures.held i.decoded)) given.0 given.1 (omega (arith, given.2))) in
    let A : ℕ → Type 0 = λ m. DecodedTo (g.O.Reading.form c.args.output.now) (g.O.Reading.took c.read_parts.new.output) (g.S.Source.left c.args.source.now) (g.S.Source.left c.ask.new.source)
    (g.K.Sink.held c.args.sink.now) (g.K.Sink.held c.read_parts.new.sink) c.read_parts.new.reader (c.loop-count.left - m) in
    record {
      decoded = subst A given.3 (parts_all p);
      same = c.in_default-read_parts.ensures.same ∙ i.same;
      empty = c.in_default-read_parts.ensures.empty;
      read = c.in-Ok-ask.ensures.read_count ∙ i.read;
      written = c.in_default-read_parts.ensures.stays ∙ (c.in-Ok-ask.ensures.write_count ∙ i.written);
    }
