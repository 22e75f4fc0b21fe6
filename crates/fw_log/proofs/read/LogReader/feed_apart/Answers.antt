use Rattle.fw_log.proofs.Common.{subst, position, IsPending, State}
use Rattle.fw_log.proofs.FeedLaws.{pending_of}
use Rattle.fw_log.proofs.ExactLaws.{counts, body_is}
use Rattle.fw_log.proofs.HistoryLaws.{reads_on}
use Rattle.fw_log.proofs.VersionLaws.{names}
use Rattle.fw_log.proofs.read.LogReader.feed_apart.Goals as goal

pub returns-in-None-clause-history : goal.returns-in-None-clause-history
returns-in-None-clause-history c entries bytes h = reads_on entries bytes c.args.piece.now c.args.self.now c.feed_first.new.self c.feed_first.result h c.feed_first.ensures.fed

pub returns-in-None-clause-counts : goal.returns-in-None-clause-counts
returns-in-None-clause-counts c = counts c.args.self.now c.args.piece.now c.feed_first.result c.feed_first.new.self c.feed_first.ensures.fed
    (let P : State → Type 0 = λ r. IsPending r.stand r.taken in subst P c.self.view_is
    (pending_of (position c.self.inside.stand) c.self.inside.taken.value c.self.inside.fault c.in-None.is c.self.invariant))

pub returns-in-None-clause-body : goal.returns-in-None-clause-body
returns-in-None-clause-body c =
    body_is c.args.self.now.stand c.args.self.now.taken c.args.piece.now c.feed_first.result c.feed_first.new.self c.feed_first.ensures.fed

pub returns-in-None-clause-version : goal.returns-in-None-clause-version
returns-in-None-clause-version c entries bytes h = names entries bytes c.args.piece.now c.args.self.now c.feed_first.new.self c.feed_first.result h c.feed_first.ensures.fed c.feed_first.ensures.remembers
