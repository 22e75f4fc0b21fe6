use Rattle.fw_log.proofs.Common.{subst, position, IsPending, State}
use Rattle.fw_log.proofs.FeedLaws.{if_none_by, pending_of}
use Rattle.fw_log.proofs.ExactLaws.{counts, gives_entry, gives_none, gives_fault, body_is}
use Rattle.fw_log.proofs.HistoryLaws.{reads_on, gives_next}
use Rattle.fw_log.proofs.VersionLaws.{names}
use Rattle.fw_log.proofs.read.LogReader.feed.Goals as goal

pub returns-in-None-clause-entry : goal.returns-in-None-clause-entry
returns-in-None-clause-entry c = if_none_by c.args.self.now.fault _
    (gives_entry c.args.self.now.stand c.args.self.now.taken c.args.piece.now c.feed_fresh.result c.feed_fresh.new.self c.feed_fresh.ensures.fed)

pub returns-in-None-clause-none : goal.returns-in-None-clause-none
returns-in-None-clause-none c = if_none_by c.args.self.now.fault _
    (gives_none c.args.self.now.stand c.args.self.now.taken c.args.piece.now c.feed_fresh.result c.feed_fresh.new.self c.feed_fresh.ensures.fed)

pub returns-in-None-clause-fault : goal.returns-in-None-clause-fault
returns-in-None-clause-fault c = if_none_by c.args.self.now.fault _
    (gives_fault c.args.self.now.stand c.args.self.now.taken c.args.piece.now c.feed_fresh.result c.feed_fresh.new.self c.feed_fresh.ensures.fed)

pub returns-in-None-clause-history : goal.returns-in-None-clause-history
returns-in-None-clause-history c entries bytes h = reads_on entries bytes c.args.piece.now c.args.self.now c.feed_fresh.new.self c.feed_fresh.result h c.feed_fresh.ensures.fed

pub returns-in-None-clause-log : goal.returns-in-None-clause-log
returns-in-None-clause-log c entries all v bytes more h o =
    gives_next entries all v bytes c.args.piece.now more c.feed_fresh.result c.feed_fresh.new.self
    (reads_on entries bytes c.args.piece.now c.args.self.now c.feed_fresh.new.self c.feed_fresh.result h c.feed_fresh.ensures.fed) o

pub returns-in-None-clause-counts : goal.returns-in-None-clause-counts
returns-in-None-clause-counts c = counts c.args.self.now c.args.piece.now c.feed_fresh.result c.feed_fresh.new.self c.feed_fresh.ensures.fed
    (let P : State → Type 0 = λ r. IsPending r.stand r.taken in subst P c.self.view_is
    (pending_of (position c.self.inside.stand) c.self.inside.taken.value c.self.inside.fault c.in-None.is c.self.invariant))

pub returns-in-None-clause-body : goal.returns-in-None-clause-body
returns-in-None-clause-body c =
    body_is c.args.self.now.stand c.args.self.now.taken c.args.piece.now c.feed_fresh.result c.feed_fresh.new.self c.feed_fresh.ensures.fed

pub returns-in-None-clause-version : goal.returns-in-None-clause-version
returns-in-None-clause-version c entries bytes h =
    names entries bytes c.args.piece.now c.args.self.now c.feed_fresh.new.self c.feed_fresh.result h c.feed_fresh.ensures.fed c.feed_fresh.ensures.remembers
