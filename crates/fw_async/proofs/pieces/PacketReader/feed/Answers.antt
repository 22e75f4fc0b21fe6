use Rattle.fw_async.proofs.FeedLaws.{if_none_by}
use Rattle.fw_async.proofs.ExactLaws.{gives_packet, gives_none, gives_fault, gives_no_packet}
use Rattle.fw_async.proofs.pieces.PacketReader.feed.Goals as goal

pub returns-in-None-clause-packet : goal.returns-in-None-clause-packet
returns-in-None-clause-packet c =
    if_none_by c.args.self.now.fault _ (gives_packet c.args.self.now.taken c.args.piece.now c.feed_fresh.result c.feed_fresh.new.self c.feed_fresh.ensures)

pub returns-in-None-clause-none : goal.returns-in-None-clause-none
returns-in-None-clause-none c =
    if_none_by c.args.self.now.fault _ (gives_none c.args.self.now.taken c.args.piece.now c.feed_fresh.result c.feed_fresh.new.self c.feed_fresh.ensures)

pub returns-in-None-clause-fault : goal.returns-in-None-clause-fault
returns-in-None-clause-fault c =
    if_none_by c.args.self.now.fault _ (gives_fault c.args.self.now.taken c.args.piece.now c.feed_fresh.result c.feed_fresh.new.self c.feed_fresh.ensures)

pub returns-in-None-clause-no_packet_begins : goal.returns-in-None-clause-no_packet_begins
returns-in-None-clause-no_packet_begins c =
    if_none_by c.args.self.now.fault _ (gives_no_packet c.args.self.now.taken c.args.piece.now c.feed_fresh.result c.feed_fresh.new.self c.feed_fresh.ensures)
