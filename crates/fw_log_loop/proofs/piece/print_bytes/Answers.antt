use Rattle.std.proofs.Common.{rules, ◌≡◌, ◌<◌, ◌++◌, List, ℕ, length, arith, subst, length-append}
use Rattle.fw_outside.specs.Outside.{Grows, AppendsPrefix}
use Rattle.fw_log_entry.specs.declared.entry.Timed.{Timed}
use Rattle.fw_log.specs.History.{HasRead}
use Rattle.fw_log_loop.specs.Readings.{Form}
use Rattle.fw_log_loop.specs.Pieces.{PrintsPiece, PrintsBytes}
use Rattle.fw_log_loop.proofs.Decodings.{total_of}
use Rattle.fw_log_loop.proofs.Readings.{bytes_after, bytes_before, bytes_stopped, bytes_opened, bytes_unopened}
use Rattle.fw_log_loop.proofs.piece.print_bytes.Goals as goal

pub returns-then-taken-ge-HEADER-clause-text : goal.returns-then-taken-ge-HEADER-clause-text
returns-then-taken-ge-HEADER-clause-text g c entries before h t =
    bytes_after (g.O.Reading.form c.args.output.now) g.O.Reading.rules (g.O.Reading.took c.print_piece.new.output) (g.K.Sink.held c.args.sink.now)
    (g.K.Sink.held c.print_piece.new.sink) entries before c.args.bytes.now c.print_piece.new.reader c.print_piece.result
    (omega (arith, c.if-taken-ge-HEADER.true, c.requires.taken, total_of h)) (c.print_piece.ensures.text entries before h t)

pub returns-then-bytes-rest-clause-text : goal.returns-then-bytes-rest-clause-text
returns-then-bytes-rest-clause-text g c entries before h t =
    bytes_before (g.O.Reading.form c.args.output.now) g.O.Reading.rules (g.O.Reading.took c.print_piece-then-bytes-rest.new.output) (g.K.Sink.held c.args.sink.now)
    (g.K.Sink.held c.print_piece-then-bytes-rest.new.sink) entries before c.args.bytes.now
    c.print_piece-then-bytes-rest.new.reader c.print_piece-then-bytes-rest.result (g.met.O.Reading.each c.args.output.now)
    (omega (arith, c.if-taken-ge-HEADER.false, c.if-bytes-rest.true, c.requires.taken, total_of h, length-append before c.args.bytes.now))
    (c.print_piece-then-bytes-rest.ensures.text entries before h t)

pub returns-in-Err-clause-text : goal.returns-in-Err-clause-text
returns-in-Err-clause-text g c entries before h t =
    let prefix = c.split_at.result.0.now in
    let following = c.split_at.result.1.now in
    let line : prefix ++ following ≡ c.args.bytes.now = search rules in
    let size : length (before ++ prefix) ≡ 16 = omega (
      arith,
      c.if-taken-ge-HEADER.false,
      c.if-bytes-rest.false,
      c.requires.taken,
      total_of h,
      length-append before prefix,
      c.split_at.ensures.front_len,
    ) in
    bytes_stopped (g.O.Reading.form c.args.output.now) g.O.Reading.rules (g.O.Reading.took c.print_piece-2.new.output) (g.K.Sink.held c.args.sink.now)
    (g.K.Sink.held c.print_piece-2.new.sink) entries before prefix following c.args.bytes.now c.in-Err.ending (g.met.O.Reading.each c.args.output.now) (omega (arith, size)) line
    (c.in-Err.ensures.text entries before h t)

pub returns-in_default-open-clause-text : goal.returns-in_default-open-clause-text
returns-in_default-open-clause-text g c entries before h t =
    let prefix = c.split_at.result.0.now in
    let following = c.split_at.result.1.now in
    let line : prefix ++ following ≡ c.args.bytes.now = search rules in
    let size : length (before ++ prefix) ≡ 16 = omega (
      arith,
      c.if-taken-ge-HEADER.false,
      c.if-bytes-rest.false,
      c.requires.taken,
      total_of h,
      length-append before prefix,
      c.split_at.ensures.front_len,
    ) in
    let some : 0 < length prefix = omega (arith, c.if-taken-ge-HEADER.false, c.split_at.ensures.front_len) in
    let p = c.in_default.ensures.text entries before h t in
    let A : Form → Type 0 = λ form. AppendsPrefix (g.K.Sink.held c.print_piece-2.new.sink) (g.K.Sink.held c.open.new.sink) form.head in (
      prefix,
      following,
      line,
      bytes_unopened (g.O.Reading.form c.args.output.now) (g.O.Reading.took c.print_piece-2.new.output) (g.K.Sink.held c.args.sink.now) (g.K.Sink.held c.print_piece-2.new.sink)
          (g.K.Sink.held c.open.new.sink) entries before prefix
          c.print_piece-2.new.reader (g.met.O.Reading.each c.args.output.now) size some p (subst A c.in_default.ensures.same c.in_default-open.ensures.text),
    )

pub print_piece-requires-3-clause-fresh : goal.print_piece-requires-3-clause-fresh
print_piece-requires-3-clause-fresh g c = let u = c.requires.begun in (c.in_default.ensures.text u.entries u.bytes u.read u.took).read.no_fault

pub print_piece-requires-3-clause-room : goal.print_piece-requires-3-clause-room
print_piece-requires-3-clause-room g c =
    let u = c.requires.begun in
    let p = c.in_default.ensures.text u.entries u.bytes u.read u.took in
    omega (arith, total_of p.read, total_of u.read, c.requires.room, length-append u.bytes c.split_at.result.0.now, c.split_at.ensures.front_len, c.split_at.ensures.back_len)

pub returns-clause-text : goal.returns-clause-text
returns-clause-text g c entries before h t =
    let prefix = c.split_at.result.0.now in
    let following = c.split_at.result.1.now in
    let line : prefix ++ following ≡ c.args.bytes.now = search rules in
    let size : length (before ++ prefix) ≡ 16 = omega (
      arith,
      c.if-taken-ge-HEADER.false,
      c.if-bytes-rest.false,
      c.requires.taken,
      total_of h,
      length-append before prefix,
      c.split_at.ensures.front_len,
    ) in
    let some : 0 < length prefix = omega (arith, c.if-taken-ge-HEADER.false, c.split_at.ensures.front_len) in
    let p = c.in_default.ensures.text entries before h t in
    let G : Form → Type 0 = λ form. Grows (g.K.Sink.held c.print_piece-2.new.sink) (g.K.Sink.held c.open.new.sink) form.head in
    let B : List ℕ → Type 0 = λ x. PrintsBytes (g.O.Reading.form c.args.output.now) g.O.Reading.rules (g.O.Reading.took c.print_piece-3.new.output) (g.K.Sink.held c.args.sink.now)
    (g.K.Sink.held c.print_piece-3.new.sink) entries before x c.print_piece-3.new.reader c.print_piece-3.result in
    let N : Form → Type 0 = λ form. (es : List Timed) (bs : List ℕ) → HasRead es bs c.print_piece-2.new.reader → g.O.Reading.took c.print_piece-2.new.output es
    → PrintsPiece form.text g.O.Reading.rules (g.O.Reading.took c.print_piece-3.new.output) (g.K.Sink.held c.open.new.sink)
    (g.K.Sink.held c.print_piece-3.new.sink) es bs following c.print_piece-3.new.reader c.print_piece-3.result in
    subst B line (bytes_opened (g.O.Reading.form c.args.output.now) g.O.Reading.rules (g.O.Reading.took c.print_piece-2.new.output) (g.O.Reading.took c.print_piece-3.new.output)
    (g.K.Sink.held c.args.sink.now) (g.K.Sink.held c.print_piece-2.new.sink) (g.K.Sink.held c.open.new.sink)
    (g.K.Sink.held c.print_piece-3.new.sink) entries before prefix c.print_piece-2.new.reader following c.print_piece-3.new.reader c.print_piece-3.result
    (g.met.O.Reading.each c.args.output.now) size some p
    (subst G c.in_default.ensures.same c.in-Ok.ensures.text) (subst N c.in_default.ensures.same c.print_piece-3.ensures.text))
