use Rattle.std.proofs.Common.{codes, arith}
use Rattle.fw_tool.specs.Words.{texts}
use Rattle.fw_tool.proofs.WordLaws.{begins, names_none, many_words}
use Rattle.fw_tool.proofs.forms.word_of.Goals as goal

pub one_word-requires : goal.one_word-requires
one_word-requires c same =
    let (more, form) = begins c.args.words.now c.word-item.result (codes "explore") c.as_str.result.now c.in-len1.len_at_least c.word-item.is c.as_str.ensures.value same in
    c.explores.ensures.no c.if-explores.false more form

pub two_words-requires : goal.two_words-requires
two_words-requires c same =
    let (more, form) =
    begins c.args.words.now c.word-item-then-words-lt3.result (codes "explore") c.as_str-in-len2.result.now
    (omega (arith, c.in-len2.len_at_least)) c.word-item-then-words-lt3.is c.as_str-in-len2.ensures.value
    same in
    c.explores.ensures.no c.if-explores.false more form

pub returns-in_default-2 : goal.returns-in_default-2
returns-in_default-2 c = names_none (texts c.args.words.now) (many_words c.args.words.now c.in_default.len_at_least (c.explores.ensures.no c.if-explores.false))
