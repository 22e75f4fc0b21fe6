use Rattle.fw_log.proofs.Common.{ℕ, length, take, arith, ap, length-append, length-take-le, position, State}
use Rattle.fw_log.proofs.FoundLaws.{found_at}
use Rattle.fw_log.proofs.read.LogReader.feed_other.Goals as goal

pub keep-requires-clause-found : goal.keep-requires-clause-found
keep-requires-clause-found c =
    found_at c.args.self.now.stand (position c.self.inside.stand) c.args.self.now.taken c.args.piece.now c.args.bytes.now c.first_entry-found.result
    (ap (λ (r : State). r.stand) c.self.view_is) c.requires.joins
    c.first_entry-found.ensures

pub first_entry-found-requires : goal.first_entry-found-requires
first_entry-found-requires c =
    let n : ℕ = c.requires.joins.count in
    omega (
      arith,
      c.requires.room,
      ap (λ (r : State). r.stand.start) c.self.view_is,
      ap length c.requires.joins.same,
      length-append c.args.self.now.taken (take n c.args.piece.now),
      length-take-le n c.args.piece.now c.requires.joins.within,
    )
