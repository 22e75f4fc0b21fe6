use Rattle.std.proofs.Common.{ap}
use Rattle.fw_csr.specs.Requests.{offset_of}
use Rattle.fw_csr.specs.Replies.{reply}
use Rattle.fw_node.proofs.Spaces.{registers_same, space_kept}
use Rattle.fw_node.proofs.laws.nodes_answer_as_their_spaces.Goals as goal

pub returns-clause-reply : goal.returns-clause-reply
returns-clause-reply c = λ n s r h. ap (λ register. reply register r) (registers_same n s (offset_of r) h)

pub returns-clause-after : goal.returns-clause-after
returns-clause-after c = space_kept
