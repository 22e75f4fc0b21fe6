use Rattle.fw_bus_engine.proofs.Common.{◌≡◌, ℕ, sym, subst, refl}
use Rattle.fw_bus_engine.specs.Playing.{ahead}
use Rattle.fw_bus_engine.proofs.Ahead.{may_settle, settled}
use Rattle.fw_bus_engine.proofs.cycle_streams.CycleStreams.settle.Goals as goal

pub returns-then-self-eq0 : goal.returns-then-self-eq0
returns-then-self-eq0 c = let P : ℕ → Type 0 = λ n. c.args.machine.now ≡ ahead n c.args.machine.now in subst P (sym c.if-self-eq0.true) refl

pub pass-requires : goal.pass-requires
pass-requires c = may_settle c.args.self.now.gone c.args.machine.now c.if-self-eq0.false c.requires.ready c.requires.few

pub returns : goal.returns
returns c = settled c.args.self.now.gone c.args.machine.now c.pass.new.devices c.pass.new.self c.if-self-eq0.false c.pass.ensures.tapes c.pass.ensures.counts
