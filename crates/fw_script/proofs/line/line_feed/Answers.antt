use Rattle.fw_script_command.proofs.PiecesLaws.{first_found, none_found}
use Rattle.fw_script.proofs.line.line_feed.Goals as goal

pub returns-clause-found : goal.returns-clause-found
returns-clause-found c = first_found 10 c.args.bytes.now c.memchr.result c.memchr.ensures

pub returns-clause-none : goal.returns-clause-none
returns-clause-none c = none_found 10 c.args.bytes.now c.memchr.result c.memchr.ensures
