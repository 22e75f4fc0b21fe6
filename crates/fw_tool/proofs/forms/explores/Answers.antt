use Rattle.std.proofs.Common.{codes}
use Rattle.std.proofs.lemmas.Bool.Decides.{Decides-eqb}
use Rattle.std.proofs.lemmas.Slice.Eq.{slice_eq-Decides}
use Rattle.fw_tool.proofs.WordLaws.{begins}
use Rattle.fw_tool.proofs.forms.explores.Goals as goal

pub returns-in-len1-up-clause-yes : goal.returns-in-len1-up-clause-yes
returns-in-len1-up-clause-yes c is =
    begins c.args.words.now c.word-item.result (codes "explore") c.as_str.result.now c.in-len1-up.len_at_least c.word-item.is c.as_str.ensures.value
    ((slice_eq-Decides Decides-eqb _ _ _ c.eq.ensures).0 is)
