use Rattle.std.proofs.Common.{codes, arith}
use Rattle.fw_script_command.specs.Keyword.{keyword_in}
use Rattle.fw_script_command.proofs.WordLaws.{by_bytes}
use Rattle.fw_script_command.proofs.keyword.keyword_of.Goals as goal

pub returns-in-device : goal.returns-in-device
returns-in-device c = by_bytes keyword_in c.args.word.now (codes "device") (omega arith) assumption

pub returns-in-cable : goal.returns-in-cable
returns-in-cable c = by_bytes keyword_in c.args.word.now (codes "cable") (omega arith) assumption

pub returns-in-reset : goal.returns-in-reset
returns-in-reset c = by_bytes keyword_in c.args.word.now (codes "reset") (omega arith) assumption

pub returns-in-connect : goal.returns-in-connect
returns-in-connect c = by_bytes keyword_in c.args.word.now (codes "connect") (omega arith) assumption

pub returns-in-broadcast : goal.returns-in-broadcast
returns-in-broadcast c = by_bytes keyword_in c.args.word.now (codes "broadcast") (omega arith) assumption

pub returns-in-listen : goal.returns-in-listen
returns-in-listen c = by_bytes keyword_in c.args.word.now (codes "listen") (omega arith) assumption

pub returns-in-break : goal.returns-in-break
returns-in-break c = by_bytes keyword_in c.args.word.now (codes "break") (omega arith) assumption

pub returns-in-step : goal.returns-in-step
returns-in-step c = by_bytes keyword_in c.args.word.now (codes "step") (omega arith) assumption

pub returns-in-settle : goal.returns-in-settle
returns-in-settle c = by_bytes keyword_in c.args.word.now (codes "settle") (omega arith) assumption

pub returns-in-wait : goal.returns-in-wait
returns-in-wait c = by_bytes keyword_in c.args.word.now (codes "wait") (omega arith) assumption

pub returns-in-cycles : goal.returns-in-cycles
returns-in-cycles c = by_bytes keyword_in c.args.word.now (codes "cycles") (omega arith) assumption

pub returns-in-die : goal.returns-in-die
returns-in-die c = by_bytes keyword_in c.args.word.now (codes "die") (omega arith) assumption

pub returns-in-lose : goal.returns-in-lose
returns-in-lose c = by_bytes keyword_in c.args.word.now (codes "lose") (omega arith) assumption

pub returns-in-start : goal.returns-in-start
returns-in-start c = by_bytes keyword_in c.args.word.now (codes "start") (omega arith) assumption

pub returns-in-command : goal.returns-in-command
returns-in-command c = by_bytes keyword_in c.args.word.now (codes "command") (omega arith) assumption

pub returns-in-read : goal.returns-in-read
returns-in-read c = by_bytes keyword_in c.args.word.now (codes "read") (omega arith) assumption

pub returns-in-swap : goal.returns-in-swap
returns-in-swap c = by_bytes keyword_in c.args.word.now (codes "swap") (omega arith) assumption

pub returns-in-insert : goal.returns-in-insert
returns-in-insert c = by_bytes keyword_in c.args.word.now (codes "insert") (omega arith) assumption

pub returns-in-eject : goal.returns-in-eject
returns-in-eject c = by_bytes keyword_in c.args.word.now (codes "eject") (omega arith) assumption

pub returns-in-show : goal.returns-in-show
returns-in-show c = by_bytes keyword_in c.args.word.now (codes "show") (omega arith) assumption

pub returns-in-withhold : goal.returns-in-withhold
returns-in-withhold c = by_bytes keyword_in c.args.word.now (codes "withhold") (omega arith) assumption

pub returns-in-candidate : goal.returns-in-candidate
returns-in-candidate c = by_bytes keyword_in c.args.word.now (codes "candidate") (omega arith) assumption

pub returns-in-contend : goal.returns-in-contend
returns-in-contend c = by_bytes keyword_in c.args.word.now (codes "contend") (omega arith) assumption

pub returns-in-dub : goal.returns-in-dub
returns-in-dub c = by_bytes keyword_in c.args.word.now (codes "dub") (omega arith) assumption

pub returns-in-end : goal.returns-in-end
returns-in-end c = by_bytes keyword_in c.args.word.now (codes "end") (omega arith) assumption
