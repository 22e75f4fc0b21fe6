use Rattle.fw_holders.proofs.HoldsLaws.{takes_holds, takes_faulty}
use Rattle.fw_holders.proofs.holders.Holders.take.Goals as goal

pub returns-in-Event-clause-taken : goal.returns-in-Event-clause-taken
returns-in-Event-clause-taken c = λ entries few h. takes_holds entries c.args.t.now c.args.self.now c.take_event.new.self c.take_event.result few h (c.take_event.ensures h.account h.stands)

pub returns-in-Event-clause-found : goal.returns-in-Event-clause-found
returns-in-Event-clause-found c = λ entries fault h. takes_faulty entries c.args.t.now c.args.self.now c.take_event.new.self c.take_event.result fault h (c.take_event.ensures h.account h.stands)

pub returns-in_default-clause-taken : goal.returns-in_default-clause-taken
returns-in_default-clause-taken c = λ entries few h. takes_holds entries c.args.t.now c.args.self.now c.take_other.new.self c.take_other.result few h (c.take_other.ensures h.account h.stands)

pub returns-in_default-clause-found : goal.returns-in_default-clause-found
returns-in_default-clause-found c = λ entries fault h. takes_faulty entries c.args.t.now c.args.self.now c.take_other.new.self c.take_other.result fault h (c.take_other.ensures h.account h.stands)
