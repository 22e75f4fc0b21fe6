use Rattle.fw_trace_requests.proofs.PhraseLaws.{words_same}
use Rattle.fw_trace_requests.proofs.phrase.is_nameless.Goals as goal

pub returns : goal.returns
returns c = λ yes n m words. words_same n m c.args.place (c.has_no_node.ensures yes n m) words
